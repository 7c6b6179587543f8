-- The ids of a function that some text reads as stand in text order, each once.
use Rattle.std.proofs.Common.{◌≡◌, ◌∙◌, ℕ, zero, suc, ◌+◌, ◌<◌, ◌≤◌, Bool, true, false, not, ◌||◌, cond, nat_eq, nat_lt, List, [], ◌∷◌, ◌++◌, length, map, flat_map, filter_map, if◌then◌else◌, Option, Some, None, option_map, unwrap_or, bytes_eq, refl, sym, ap, subst, arith, append_assoc, length-append, add-one, true≢false}
use Rattle.std.proofs.lemmas.Bool.Decides.{nat_tests}
use Rattle.std.proofs.lemmas.List.{map-append}
use Rattle.std.proofs.lemmas.Slice.Eq.{bytes_eq-Decides}
use Rattle.std.specs.List.{AllByRecursion, IsDistinct, cons_option, position, position_or_len, range_with_len}
use Rattle.vfa_ir.specs.declared.functions.Function.{Function}
use Rattle.vfa_ir.specs.declared.syntax.BasicBlock.{BasicBlock}
use Rattle.vfa_ir.specs.declared.syntax.Instruction.{Instruction}
use Rattle.vfa_ir.specs.declared.syntax.Parameter.{Parameter}
use Rattle.vfa_ir.specs.declared.syntax.PhiNode.{PhiNode}
use Rattle.vfa_ir.specs.DefinedNames.{block_name, block_names, block_results, defined_names, duplicate_of, first_repeated, parameter_names, value_names}
use Rattle.vfa_ir.specs.Printable.{block_ids, ids_of, inst_ids}
use Rattle.vfa_ir.specs.Reads.{Fit, tail_bytes}
use Rattle.vfa_ir.specs.Resolution.{Scope, block_of, blocks_of, call_count, function_of, insts_of, is_call, params_from, phi_of, place_of, scope_of, value_id}
use Rattle.vfa_ir.specs.Sentence.{Sentence}
use Rattle.vfa_ir.specs.Tokens.{tokens_of}
use Rattle.vfa_ir.specs.Words.{is_among}
use Rattle.vfa_check.proofs.WithinFit.{parameters_named, values_named}

same_itself : (a : List ℕ) → bytes_eq a a ≡ true
same_itself a = (bytes_eq-Decides a a).1 refl

same_text : (a b : List ℕ) → bytes_eq a b ≡ true → a ≡ b
same_text a b e = (bytes_eq-Decides a b).0 e

abbrev pub one_if : Bool → ℕ
one_if true = 1
one_if false = 0

-- how often a name stands among these
abbrev pub occurs : List ℕ → List (List ℕ) → ℕ
occurs n [] = 0
occurs n (x ∷ xs) = one_if (bytes_eq n x) + occurs n xs

occurs-append : (n : List ℕ) (xs ys : List (List ℕ)) → occurs n (xs ++ ys) ≡ occurs n xs + occurs n ys
occurs-append n [] ys = omega arith
occurs-append n (x ∷ xs) ys = let again = occurs-append n xs ys in omega arith

among_none : (n : List ℕ) (xs : List (List ℕ)) → is_among n xs ≡ false → occurs n xs ≡ 0
among_none n [] h = refl
among_none n (x ∷ xs) h = go (bytes_eq n x) h (among_none n xs)
  where
    go : (b : Bool) → (b || is_among n xs) ≡ false → (is_among n xs ≡ false → occurs n xs ≡ 0) → one_if b + occurs n xs ≡ 0
    go true e again = absurd (true≢false e)
    go false e again = let k = again e in omega arith

-- a name more that does not stand there yet
seen_more : (seen : List (List ℕ)) (name : List ℕ) → is_among name seen ≡ false → ((n : List ℕ) → occurs n seen ≤ 1) → (n : List ℕ) → occurs n (name ∷ seen) ≤ 1
seen_more seen name new once n = go (bytes_eq n name) refl
  where
    go : (b : Bool) → bytes_eq n name ≡ b → one_if b + occurs n seen ≤ 1
    go true e =
        let none : occurs n seen ≡ 0 = subst (λ m. occurs m seen ≡ 0) (sym (same_text n name e)) (among_none name seen new) in
        omega arith
    go false e = let most = once n in omega arith

repeats_none :
    (seen xs : List (List ℕ)) → first_repeated seen xs ≡ None → ((n : List ℕ) → occurs n seen ≤ 1) →
    (n : List ℕ) → occurs n seen + occurs n xs ≤ 1
repeats_none seen [] h once n = let most = once n in omega arith
repeats_none seen (name ∷ rest) h once n = go (is_among name seen) refl h (repeats_none (name ∷ seen) rest)
  where
    go :
        (b : Bool) → is_among name seen ≡ b → (if b then Some name else first_repeated (name ∷ seen) rest) ≡ None →
        (first_repeated (name ∷ seen) rest ≡ None → ((m : List ℕ) → occurs m (name ∷ seen) ≤ 1) → (m : List ℕ) → occurs m (name ∷ seen) + occurs m rest ≤ 1) →
        occurs n seen + (one_if (bytes_eq n name) + occurs n rest) ≤ 1
    go true e k again = absurd (cc)
    go false e k again = let most : one_if (bytes_eq n name) + occurs n seen + occurs n rest ≤ 1 = again k (seen_more seen name e once) n in omega arith

-- the place of a name
place_at : (p : List ℕ → Bool) (xs : List (List ℕ)) (i : ℕ) → position_or_len p xs ≡ i → i < length xs → unwrap_or (position p xs) 0 ≡ i
place_at p xs i e h =
    let inside : nat_lt (position_or_len p xs) (length xs) ≡ true = (rw e (lt_true i (length xs) h)) in
    rw (inside) e
  where
    lt_true : (a b : ℕ) → a < b → nat_lt a b ≡ true
    lt_true a b h = grind (arith, nat_tests)

first_at : (n : List ℕ) (before rest : List (List ℕ)) → occurs n before ≡ 0 → position_or_len (bytes_eq n) (before ++ (n ∷ rest)) ≡ length before
first_at n [] rest h = ap (λ b. cond (not b) (1 + position_or_len (bytes_eq n) rest) 0) (same_itself n)
first_at n (x ∷ before) rest h = go (bytes_eq n x) h (first_at n before rest)
  where
    go :
        (b : Bool) → one_if b + occurs n before ≡ 0 → (occurs n before ≡ 0 → position_or_len (bytes_eq n) (before ++ (n ∷ rest)) ≡ length before) →
        cond (not b) (1 + position_or_len (bytes_eq n) (before ++ (n ∷ rest))) 0 ≡ length (x ∷ before)
    go true e again = absurd (omega arith)
    go false e again = let k = again (omega arith) in omega arith

place_behind : (n : List ℕ) (before rest : List (List ℕ)) → occurs n before ≡ 0 → place_of (before ++ (n ∷ rest)) n ≡ length before
place_behind n before rest h =
    let long : length (before ++ (n ∷ rest)) ≡ length before + suc (length rest) = length-append before (n ∷ rest) in
    place_at (bytes_eq n) (before ++ (n ∷ rest)) (length before) (first_at n before rest h) (omega arith)

-- the places of names that stand once are those in order
places_from :
    (all before rest : List (List ℕ)) → all ≡ before ++ rest → ((n : List ℕ) → occurs n all ≤ 1) →
    map (place_of all) rest ≡ range_with_len (length before) (length rest)
places_from all before [] e once = refl
places_from all before (x ∷ rest) e once =
    let most : occurs x all ≤ 1 = once x in
    let parts : occurs x all ≡ occurs x before + (one_if (bytes_eq x x) + occurs x rest) = ap (occurs x) e ∙ occurs-append x before (x ∷ rest) in
    let one : one_if (bytes_eq x x) ≡ 1 = ap one_if (same_itself x) in
    let here : place_of all x ≡ length before = ap (λ z. place_of z x) e ∙ place_behind x before rest (omega arith) in
    let again = places_from all (before ++ (x ∷ [])) rest (e ∙ sym (append_assoc before (x ∷ []) rest)) once in
    let long : length (before ++ (x ∷ [])) ≡ length before + 1 = length-append before (x ∷ []) in
    ap (λ i. i ∷ map (place_of all) rest) here ∙ ap (λ r. length before ∷ r) (again ∙ ap (λ i. range_with_len i (length rest)) long)

-- the number of calls before the instruction after this one
abbrev next_call : ℕ → Instruction → ℕ
next_call n i = if is_call i then suc n else n

-- their ids
phi_places : (scope : Scope) (ps : List PhiNode) → map (λ p. p.result.0) (map (phi_of scope) ps) ≡ map (place_of scope.values) (map (λ p. p.result) ps)
phi_places scope [] = refl
phi_places scope (p ∷ ps) = ap (λ r. place_of scope.values p.result ∷ r) (phi_places scope ps)

inst_places :
    (scope : Scope) (n : ℕ) (is : List Instruction) →
    inst_ids (insts_of scope n is) ≡ map (place_of scope.values) (filter_map (λ i. i.result) is)
inst_places scope n [] = refl
inst_places scope n (i ∷ is) = go i.result (inst_places scope (next_call n i) is)
  where
    go :
        (o : Option (List ℕ)) →
        inst_ids (insts_of scope (next_call n i) is) ≡ map (place_of scope.values) (filter_map (λ i. i.result) is) →
        cons_option (elim (option_map (value_id scope) o) [ None ↦ None | Some v ↦ Some v.0 ]) (inst_ids (insts_of scope (next_call n i) is))
        ≡ map (place_of scope.values) (cons_option o (filter_map (λ i. i.result) is))
    go None again = again
    go (Some n) again = ap (λ r. place_of scope.values n ∷ r) again

block_places : (scope : Scope) (n : ℕ) (b : BasicBlock) → block_ids (block_of scope n b) ≡ map (place_of scope.values) (block_results b)
block_places scope n b =
    ap (λ r. r ++ inst_ids (insts_of scope n b.instructions)) (phi_places scope b.phis)
    ∙ ap (λ r. map (place_of scope.values) (map (λ p. p.result) b.phis) ++ r) (inst_places scope n b.instructions)
    ∙ sym (map-append (place_of scope.values) _ _)

blocks_places :
    (scope : Scope) (n : ℕ) (bs : List BasicBlock) →
    flat_map block_ids (blocks_of scope n bs) ≡ map (place_of scope.values) (flat_map block_results bs)
blocks_places scope n [] = refl
blocks_places scope n (b ∷ bs) =
    ap (λ r. r ++ flat_map block_ids (blocks_of scope (n + call_count b) bs)) (block_places scope n b)
    ∙ ap (λ r. map (place_of scope.values) (block_results b) ++ r) (blocks_places scope (n + call_count b) bs)
    ∙ sym (map-append (place_of scope.values) (block_results b) (flat_map block_results bs))

blocks_occur :
    (n : List ℕ) (name : BasicBlock → List ℕ) (bs : List BasicBlock) →
    occurs n (flat_map (λ b. name b ∷ block_results b) bs) ≡ occurs n (flat_map block_results bs) + occurs n (map name bs)
blocks_occur n name [] = omega arith
blocks_occur n name (b ∷ bs) =
    let again = blocks_occur n name bs in
    let left : occurs n (name b ∷ (block_results b ++ flat_map (λ c. name c ∷ block_results c) bs))
    ≡ one_if (bytes_eq n (name b)) + (occurs n (block_results b) + occurs n (flat_map (λ c. name c ∷ block_results c) bs)) =
    ap (λ m. one_if (bytes_eq n (name b)) + m) (occurs-append n (block_results b) _) in
    let right : occurs n (block_results b ++ flat_map block_results bs) ≡ occurs n (block_results b) + occurs n (flat_map block_results bs) =
    occurs-append n (block_results b) (flat_map block_results bs) in
    left ∙ omega (arith, again, right)

defined_occur : (s : Sentence) (n : List ℕ) → occurs n (defined_names s) ≡ occurs n (value_names s) + occurs n (block_names s)
defined_occur s n =
    let a = occurs-append n (parameter_names 0 s.parameters) (flat_map (λ b. block_name s b ∷ block_results b) s.blocks) in
    let b = occurs-append n (parameter_names 0 s.parameters) (flat_map block_results s.blocks) in
    let c = blocks_occur n (block_name s) s.blocks in
    omega (arith, a, b, c)

defined_once : (s : Sentence) → duplicate_of s ≡ None → (n : List ℕ) → occurs n (value_names s) + occurs n (block_names s) ≤ 1
defined_once s h n =
    let most : 0 + occurs n (defined_names s) ≤ 1 = repeats_none [] (defined_names s) h (λ m. omega arith) n in
    let parts = defined_occur s n in
    omega arith

params_ids : (k : ℕ) (ps : List Parameter) → map (λ p. p.value.0) (params_from k ps) ≡ range_with_len k (length ps)
params_ids k [] = refl
params_ids k (p ∷ ps) = ap (λ r. k ∷ r) (params_ids (suc k) ps ∙ ap (λ i. range_with_len i (length ps)) (sym (add-one k)))

range-append : (k n m : ℕ) → range_with_len k n ++ range_with_len (k + n) m ≡ range_with_len k (n + m)
range-append k zero m = let at : k + 0 ≡ k = omega arith in let long : 0 + m ≡ m = omega arith in rw (at, long) refl
range-append k (suc n) m =
    let at : k + suc n ≡ k + 1 + n = omega arith in
    let long : suc n + m ≡ suc (n + m) = omega arith in
    rw (at, long) (ap (λ r. k ∷ r) (range-append (k + 1) n m))

ids_in_order : (s : Sentence) (tail : List ℕ) → duplicate_of s ≡ None →
    ids_of (function_of s tail) ≡ range_with_len 0 (length (function_of s tail).values)
ids_in_order s tail h =
    let ps : List (List ℕ) = parameter_names 0 s.parameters in
    let rs : List (List ℕ) = flat_map block_results s.blocks in
    let n : length ps ≡ length s.parameters = parameters_named 0 s.parameters in
    let first = params_ids 0 s.parameters ∙ ap (range_with_len 0) (sym n) in
    let second = blocks_places (scope_of s) 0 s.blocks
    ∙ places_from (value_names s) ps rs refl (λ m. let most = defined_once s h m in omega arith) in
    let zero_from : length ps ≡ 0 + length ps = omega arith in
    ap (λ r. r ++ flat_map block_ids (blocks_of (scope_of s) 0 s.blocks)) first
    ∙ ap (λ r. range_with_len 0 (length ps) ++ r) (second ∙ ap (λ i. range_with_len i (length rs)) zero_from)
    ∙ range-append 0 (length ps) (length rs)
    ∙ ap (range_with_len 0) (sym (length-append ps rs) ∙ sym (values_named s tail))

pub fit_ids : (f : Function) → Fit f → ids_of f ≡ range_with_len 0 (length f.values)
fit_ids f fit =
    let r = fit.reads in
    subst (λ g. ids_of g ≡ range_with_len 0 (length g.values)) r.function
    (ids_in_order r.sentence (tail_bytes fit.text (tokens_of fit.text) r.sentence) r.distinct)

-- numbers in a row are distinct
behind : (n a k : ℕ) → n < a → AllByRecursion (λ m. nat_eq n m ≡ false) (range_with_len a k)
behind n a zero h = tt
behind n a (suc k) h = (unequal n a h, behind n (a + 1) k (omega arith))
  where
    unequal : (x y : ℕ) → x < y → nat_eq x y ≡ false
    unequal x y l = grind (arith, nat_tests)

range_once : (a k : ℕ) → IsDistinct nat_eq (range_with_len a k)
unfolding IsDistinct
range_once a zero = tt
range_once a (suc k) = (behind a (a + 1) k (omega arith), range_once (a + 1) k)

pub fit_once : (f : Function) → Fit f → IsDistinct nat_eq (ids_of f)
fit_once f fit = subst (IsDistinct nat_eq) (sym (fit_ids f fit)) (range_once 0 (length f.values))
