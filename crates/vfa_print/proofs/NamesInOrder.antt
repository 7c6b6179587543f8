-- The ids of a function that is read stand in text order, and its names are defined once.
use Rattle.std.proofs.Common.{◌≡◌, ◌∙◌, ℕ, zero, suc, ◌+◌, ◌/◌, ◌%◌, ◌<◌, ◌≤◌, ◌==◌, Bool, true, false, nat_lt, List, [], ◌∷◌, ◌++◌, length, map, flat_map, filter_map, take, drop, All, bytes_eq, count_by, if◌then◌else◌, Option, Some, None, unwrap_or, decimal, refl, sym, ap, subst, arith, length-append, add-one, lt-ltb, le-leb}
use Rattle.std.proofs.lemmas.List.Elements.{All-from_recursion, recursion_from_All, filter_map-append}
use Rattle.std.proofs.Math.Seq.{take-append_seam, drop-append_seam}
use Rattle.std.specs.Char.{is_ascii_digit}
use Rattle.std.specs.Fmt.{digits, digits_onto, digit_glyph}
use Rattle.std.specs.List.{AllByRecursion, IsDistinct, list_all, range_with_len, cons_option}
use Rattle.vfa_ir.specs.declared.syntax.BasicBlock.{BasicBlock}
use Rattle.vfa_ir.specs.declared.syntax.Parameter.{Parameter}
use Rattle.vfa_ir.specs.DefinedNames.{block_name, block_names, block_results, defined_names, duplicate_of, is_numbered, kept_name, parameter_names, value_names}
use Rattle.vfa_ir.specs.Grammar.{FitsParameter}
use Rattle.vfa_ir.specs.Printable.{block_ids, HasItsTypes, ids_of, IsIntegerType, kept_names}
use Rattle.vfa_ir.specs.Resolution.{block_values, blocks_of, call_count, function_of, parameter_value, params_from, scope_of, Scope}
use Rattle.vfa_ir.specs.Sentence.{Sentence}
use Rattle.vfa_ir.specs.Words.{is_digits}
use Rattle.vfa_print.proofs.DistinctNames.{distinct_once, occurs, occurs-append, one_if, places_from, repeats_none}
use Rattle.vfa_print.proofs.ResultsInOrder.{blocks_length, blocks_names, blocks_places, blocks_types, kept_in, names_in}

-- the digits of a number are digits alone
glyph_digit : (n : ℕ) → is_ascii_digit (digit_glyph false (n % 10)) ≡ true
glyph_digit n =
    let small : n % 10 < 10 = omega arith in
    let low : nat_lt (n % 10) 10 ≡ true = lt-ltb (n % 10) 10 small in
    let a = le-leb 48 (48 + n % 10) (omega arith) in
    let b = le-leb (48 + n % 10) 57 (omega arith) in
    rw low (rw (a, b) refl)

one_more : (n : ℕ) (acc : List ℕ) → list_all is_ascii_digit acc ≡ true → is_digits (digit_glyph false (n % 10) ∷ acc) ≡ true
one_more n acc h = let g = glyph_digit n in rw g h

either_digits : (b : Bool) (x y : List ℕ) → is_digits x ≡ true → is_digits y ≡ true → is_digits (if b then x else y) ≡ true
either_digits true x y p q = p
either_digits false x y p q = q

onto_digits : (k n c : ℕ) (acc : List ℕ) → is_digits (c ∷ acc) ≡ true → is_digits (digits_onto k 10 false n (c ∷ acc)) ≡ true
onto_digits zero n c acc h = h
onto_digits (suc k) n c acc h =
    let more = one_more n (c ∷ acc) h in
    either_digits (n / 10 == 0) _ _ more (onto_digits k (n / 10) (digit_glyph false (n % 10)) (c ∷ acc) more)

first_digits : (k n : ℕ) → is_digits (digits_onto (suc k) 10 false n []) ≡ true
first_digits k n =
    let one = one_more n [] refl in
    either_digits (n / 10 == 0) _ _ one (onto_digits k (n / 10) (digit_glyph false (n % 10)) [] one)

pub decimal_digits : (n : ℕ) → is_digits (decimal n) ≡ true
unfolding digits
decimal_digits n = subst (λ k. is_digits (digits_onto k 10 false n []) ≡ true) {x = suc 63} {y = 64} (omega arith) (first_digits 63 n)

-- the names of parameters and blocks that are kept
numbered_none : (n : ℕ) (names : List (List ℕ)) → kept_in (decimal n ∷ names) ≡ kept_in names
numbered_none n names = ap (λ b. cons_option (if b then None else Some (decimal n)) (kept_in names)) (decimal_digits n)

parameters_kept : (k : ℕ) (ps : List Parameter) → names_in (map parameter_value ps) ≡ kept_in (parameter_names k ps)
parameters_kept k [] = refl
parameters_kept k (p ∷ ps) = go p.name (parameters_kept (if is_numbered p then k + 1 else k) ps)
  where
    go :
        (o : Option (List ℕ)) → names_in (map parameter_value ps) ≡ kept_in (parameter_names (if is_numbered p then k + 1 else k) ps) →
        cons_option (elim o [ None ↦ None | Some name ↦ kept_name name ]) (names_in (map parameter_value ps))
        ≡ kept_in (unwrap_or o (decimal k) ∷ parameter_names (if is_numbered p then k + 1 else k) ps)
    go None again = again ∙ sym (numbered_none k (parameter_names (if is_numbered p then k + 1 else k) ps))
    go (Some name) again = ap (cons_option (kept_name name)) again

blocks_kept :
    (s : Sentence) (scope : Scope) (n : ℕ) (bs : List BasicBlock) →
    filter_map (λ b. b.name) (blocks_of scope n bs) ≡ kept_in (map (block_name s) bs)
blocks_kept s scope n [] = refl
blocks_kept s scope n (b ∷ bs) = go b.label (blocks_kept s scope (n + call_count b) bs)
  where
    go :
        (o : Option (List ℕ)) → filter_map (λ c. c.name) (blocks_of scope (n + call_count b) bs) ≡ kept_in (map (block_name s) bs) →
        cons_option (elim o [ None ↦ None | Some name ↦ kept_name name ]) (filter_map (λ c. c.name) (blocks_of scope (n + call_count b) bs))
        ≡ kept_in (unwrap_or o (decimal (count_by is_numbered s.parameters)) ∷ map (block_name s) bs)
    go None again = again ∙ sym (numbered_none (count_by is_numbered s.parameters) (map (block_name s) bs))
    go (Some name) again = ap (cons_option (kept_name name)) again

pub kept_are : (s : Sentence) (tail : List ℕ) → kept_names (function_of s tail) ≡ kept_in (value_names s) ++ kept_in (block_names s)
kept_are s tail =
    ap (λ r. r ++ filter_map (λ b. b.name) (blocks_of (scope_of s) 0 s.blocks))
    (filter_map-append (λ v. v.name) (map parameter_value s.parameters) (flat_map block_values s.blocks)
    ∙ ap (λ r. r ++ names_in (flat_map block_values s.blocks)) (parameters_kept 0 s.parameters)
    ∙ ap (λ r. kept_in (parameter_names 0 s.parameters) ++ r) (blocks_names s.blocks)
    ∙ sym (filter_map-append kept_name (parameter_names 0 s.parameters) (flat_map block_results s.blocks)))
    ∙ ap (λ r. kept_in (value_names s) ++ r) (blocks_kept s (scope_of s) 0 s.blocks)

-- they stand once
kept_fewer : (n : List ℕ) (names : List (List ℕ)) → occurs n (kept_in names) ≤ occurs n names
kept_fewer n [] = omega arith
kept_fewer n (x ∷ xs) = go (is_digits x) (kept_fewer n xs)
  where
    go : (b : Bool) → occurs n (kept_in xs) ≤ occurs n xs → occurs n (cons_option (if b then None else Some x) (kept_in xs)) ≤ one_if (bytes_eq n x) + occurs n xs
    go true again = omega arith
    go false again = omega arith

blocks_occur :
    (n : List ℕ) (name : BasicBlock → List ℕ) (bs : List BasicBlock) →
    occurs n (flat_map (λ b. name b ∷ block_results b) bs) ≡ occurs n (flat_map block_results bs) + occurs n (map name bs)
blocks_occur n name [] = omega arith
blocks_occur n name (b ∷ bs) =
    let again = blocks_occur n name bs in
    let left : occurs n (name b ∷ (block_results b ++ flat_map (λ c. name c ∷ block_results c) bs))
    ≡ one_if (bytes_eq n (name b)) + (occurs n (block_results b) + occurs n (flat_map (λ c. name c ∷ block_results c) bs)) =
    ap (λ m. one_if (bytes_eq n (name b)) + m) (occurs-append n (block_results b) _) in
    let right : occurs n (block_results b ++ flat_map block_results bs) ≡ occurs n (block_results b) + occurs n (flat_map block_results bs) =
    occurs-append n (block_results b) (flat_map block_results bs) in
    left ∙ omega (arith, again, right)

defined_occur : (s : Sentence) (n : List ℕ) → occurs n (defined_names s) ≡ occurs n (value_names s) + occurs n (block_names s)
defined_occur s n =
    let a = occurs-append n (parameter_names 0 s.parameters) (flat_map (λ b. block_name s b ∷ block_results b) s.blocks) in
    let b = occurs-append n (parameter_names 0 s.parameters) (flat_map block_results s.blocks) in
    let c = blocks_occur n (block_name s) s.blocks in
    omega (arith, a, b, c)

pub defined_once : (s : Sentence) → duplicate_of s ≡ None → (n : List ℕ) → occurs n (value_names s) + occurs n (block_names s) ≤ 1
defined_once s h n =
    let most : 0 + occurs n (defined_names s) ≤ 1 = repeats_none [] (defined_names s) h (λ m. omega arith) n in
    let parts = defined_occur s n in
    omega arith

pub kept_once : (s : Sentence) (tail : List ℕ) → duplicate_of s ≡ None → IsDistinct bytes_eq (kept_names (function_of s tail))
kept_once s tail h =
    subst (IsDistinct bytes_eq) (sym (kept_are s tail)) (distinct_once (kept_in (value_names s) ++ kept_in (block_names s)) (λ n.
    let most = defined_once s h n in
    let parts = occurs-append n (kept_in (value_names s)) (kept_in (block_names s)) in
    let values = kept_fewer n (value_names s) in
    let blocks = kept_fewer n (block_names s) in
    omega arith))

-- ids
pub length-map : {A B : Type 0} (f : A → B) (xs : List A) → length (map f xs) ≡ length xs
length-map f [] = refl
length-map f (x ∷ xs) = ap suc (length-map f xs)

length-parameters : (k : ℕ) (ps : List Parameter) → length (parameter_names k ps) ≡ length ps
length-parameters k [] = refl
length-parameters k (p ∷ ps) = ap suc (length-parameters (if is_numbered p then k + 1 else k) ps)

length-params : (k : ℕ) (ps : List Parameter) → length (params_from k ps) ≡ length ps
length-params k [] = refl
length-params k (p ∷ ps) = ap suc (length-params (suc k) ps)

params_ids : (k : ℕ) (ps : List Parameter) → map (λ p. p.value.0) (params_from k ps) ≡ range_with_len k (length ps)
params_ids k [] = refl
params_ids k (p ∷ ps) = ap (λ r. k ∷ r) (params_ids (suc k) ps ∙ ap (λ i. range_with_len i (length ps)) (sym (add-one k)))

pub range-append : (k n m : ℕ) → range_with_len k n ++ range_with_len (k + n) m ≡ range_with_len k (n + m)
range-append k zero m = let at : k + 0 ≡ k = omega arith in let long : 0 + m ≡ m = omega arith in rw (at, long) refl
range-append k (suc n) m =
    let at : k + suc n ≡ k + 1 + n = omega arith in
    let long : suc n + m ≡ suc (n + m) = omega arith in
    rw (at, long) (ap (λ r. k ∷ r) (range-append (k + 1) n m))

pub values_length : (s : Sentence) (tail : List ℕ) → length (function_of s tail).values ≡ length (value_names s)
values_length s tail =
    length-append (map parameter_value s.parameters) (flat_map block_values s.blocks)
    ∙ ap (λ n. n + length (flat_map block_values s.blocks)) (length-map parameter_value s.parameters ∙ sym (length-parameters 0 s.parameters))
    ∙ ap (λ n. length (parameter_names 0 s.parameters) + n) (blocks_length s.blocks)
    ∙ sym (length-append (parameter_names 0 s.parameters) (flat_map block_results s.blocks))

pub ids_in_order :
    (s : Sentence) (tail : List ℕ) → duplicate_of s ≡ None →
    ids_of (function_of s tail) ≡ range_with_len 0 (length (function_of s tail).values)
ids_in_order s tail h =
    let ps : List (List ℕ) = parameter_names 0 s.parameters in
    let rs : List (List ℕ) = flat_map block_results s.blocks in
    let n : length ps ≡ length s.parameters = length-parameters 0 s.parameters in
    let first = params_ids 0 s.parameters ∙ ap (range_with_len 0) (sym n) in
    let second = blocks_places (scope_of s) 0 s.blocks
    ∙ places_from (value_names s) ps rs refl (λ m. let most = defined_once s h m in omega arith) in
    let zero_from : length ps ≡ 0 + length ps = omega arith in
    ap (λ r. r ++ flat_map block_ids (blocks_of (scope_of s) 0 s.blocks)) first
    ∙ ap (λ r. range_with_len 0 (length ps) ++ r) (second ∙ ap (λ i. range_with_len i (length rs)) zero_from)
    ∙ range-append 0 (length ps) (length rs)
    ∙ ap (range_with_len 0) (sym (length-append ps rs) ∙ sym (values_length s tail))

-- types
parameter_types : (ps : List Parameter) → AllByRecursion FitsParameter ps → AllByRecursion (λ v. IsIntegerType v.ty) (map parameter_value ps)
parameter_types [] fits = tt
parameter_types (p ∷ ps) fits = (fits.0.width, parameter_types ps fits.1)

pub types_of : (s : Sentence) (tail : List ℕ) → All FitsParameter s.parameters → HasItsTypes (function_of s tail)
types_of s tail params =
    let n : length (params_from 0 s.parameters) ≡ length (map parameter_value s.parameters) =
    length-params 0 s.parameters ∙ sym (length-map parameter_value s.parameters) in
    record {
      parameters = subst (All (λ v. IsIntegerType v.ty))
          (sym (ap (λ k. take k (map parameter_value s.parameters ++ flat_map block_values s.blocks)) n ∙ take-append_seam (map parameter_value s.parameters) (flat_map block_values s.blocks)))
          (All-from_recursion (λ v. IsIntegerType v.ty) (map parameter_value s.parameters) (parameter_types s.parameters (recursion_from_All FitsParameter s.parameters params)));
      results = ap (map (λ v. v.ty)) (ap (λ k. drop k (map parameter_value s.parameters ++ flat_map block_values s.blocks)) n ∙ drop-append_seam (map parameter_value s.parameters) (flat_map block_values s.blocks))
          ∙ blocks_types (scope_of s) 0 s.blocks;
    }
