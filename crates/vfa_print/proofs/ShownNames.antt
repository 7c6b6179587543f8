-- The names that values and blocks are shown by: no two are the same.
use Rattle.std.proofs.Common.{◌≡◌, ◌∙◌, ℕ, zero, suc, ◌+◌, ◌<◌, ◌≤◌, ◌^◌, Bool, true, false, ◌||◌, not, cond, nat_eq, eqb-true, List, [], ◌∷◌, ◌++◌, map, flat_map, length, Option, Some, None, is_none, option_and_then, slice_get, decimal, bytes_eq, count_by, take_while, filter_map, refl, sym, ap, subst, arith, true≢false}
use Rattle.std.specs.List.{AllByRecursion, IsDistinct, cons_option, list_any, range_with_len}
use Rattle.std.proofs.lemmas.List.Elements.{filter_map-append, recursion_from_All}
use Rattle.std.proofs.lemmas.List.Folds.{list_any-append}
use Rattle.std.proofs.lemmas.List.FromFn.{length-range_with_len}
use Rattle.std.proofs.lemmas.List.Sums.{sum_by-cons, take_while-cons}
use Rattle.vfa_ir.specs.declared.functions.Block.{Block}
use Rattle.vfa_ir.specs.declared.functions.Function.{Function}
use Rattle.vfa_ir.specs.declared.functions.Inst.{Inst}
use Rattle.vfa_ir.specs.declared.functions.Param.{Param}
use Rattle.vfa_ir.specs.declared.functions.Phi.{Phi}
use Rattle.vfa_ir.specs.declared.numbering.Local.{Local}
use Rattle.vfa_ir.specs.declared.operations.ValueId.{ValueId}
use Rattle.vfa_ir.specs.DefinedNames.{kept_name}
use Rattle.vfa_ir.specs.Printable.{IsKeptName, IsPrintable, block_ids, ids_of, inst_ids, kept_names}
use Rattle.vfa_ir.specs.Shown.{is_unnamed, locals_of, locals_of_block, locals_of_blocks, name_of, number_of, param_locals, phi_locals, results_of, same_local, shown_name}
use Rattle.vfa_ir.specs.Words.{is_among, is_digits}
use Rattle.vfa_print.proofs.DistinctNames.{same_itself, same_text}
use Rattle.vfa_print.proofs.NameNumbers.{decimal_is_digits, decimal_same, or_true}

-- fewer values and blocks than there are decimals
abbrev pub HasFewNames : Function → Type 0
HasFewNames f = length f.values + length f.blocks < 10 ^ 64

-- the ids of the values and the places of the blocks among locals
abbrev pub value_id_of : Local → Option ℕ
value_id_of (Local.Value v) = Some v
value_id_of (Local.Block _) = None

abbrev pub block_place_of : Local → Option ℕ
block_place_of (Local.Value _) = None
block_place_of (Local.Block b) = Some b

abbrev pub value_ids : List Local → List ℕ
value_ids = filter_map value_id_of

abbrev pub block_places : List Local → List ℕ
block_places = filter_map block_place_of

param_ids : (ps : List Param) → value_ids (param_locals ps) ≡ map (λ p. p.value.0) ps
param_ids [] = refl
param_ids (p ∷ ps) = ap (λ l. p.value.0 ∷ l) (param_ids ps)

param_places : (ps : List Param) → block_places (param_locals ps) ≡ []
param_places [] = refl
param_places (p ∷ ps) = param_places ps

phi_ids : (ps : List Phi) → value_ids (phi_locals ps) ≡ map (λ p. p.result.0) ps
phi_ids [] = refl
phi_ids (p ∷ ps) = ap (λ l. p.result.0 ∷ l) (phi_ids ps)

phi_places : (ps : List Phi) → block_places (phi_locals ps) ≡ []
phi_places [] = refl
phi_places (p ∷ ps) = phi_places ps

result_ids : (is : List Inst) → value_ids (results_of is) ≡ inst_ids is
result_ids [] = refl
result_ids (i ∷ is) = by i.result (result_ids is)
  where
    by :
        (r : Option ValueId) → value_ids (results_of is) ≡ inst_ids is →
        value_ids (elim r [ None ↦ results_of is | Some v ↦ Local.Value v.0 ∷ results_of is ])
        ≡ cons_option (elim r [ None ↦ None | Some v ↦ Some v.0 ]) (inst_ids is)
    by None e = e
    by (Some v) e = ap (λ l. v.0 ∷ l) e

result_places : (is : List Inst) → block_places (results_of is) ≡ []
result_places [] = refl
result_places (i ∷ is) = by i.result (result_places is)
  where
    by :
        (r : Option ValueId) → block_places (results_of is) ≡ [] →
        block_places (elim r [ None ↦ results_of is | Some v ↦ Local.Value v.0 ∷ results_of is ]) ≡ []
    by None e = e
    by (Some v) e = e

block_value_ids : (place : ℕ) (b : Block) → value_ids (locals_of_block place b) ≡ block_ids b
block_value_ids place b =
    filter_map-append value_id_of (phi_locals b.phis) (results_of b.insts)
    ∙ ap (λ l. l ++ value_ids (results_of b.insts)) (phi_ids b.phis)
    ∙ ap (λ l. map (λ p. p.result.0) b.phis ++ l) (result_ids b.insts)

block_block_places : (place : ℕ) (b : Block) → block_places (locals_of_block place b) ≡ place ∷ []
block_block_places place b =
    ap (λ l. place ∷ l)
    (filter_map-append block_place_of (phi_locals b.phis) (results_of b.insts)
    ∙ ap (λ l. l ++ block_places (results_of b.insts)) (phi_places b.phis) ∙ result_places b.insts)

blocks_value_ids : (place : ℕ) (bs : List Block) → value_ids (locals_of_blocks place bs) ≡ flat_map block_ids bs
blocks_value_ids place [] = refl
blocks_value_ids place (b ∷ bs) =
    filter_map-append value_id_of (locals_of_block place b) (locals_of_blocks (place + 1) bs)
    ∙ ap (λ l. l ++ value_ids (locals_of_blocks (place + 1) bs)) (block_value_ids place b)
    ∙ ap (λ l. block_ids b ++ l) (blocks_value_ids (place + 1) bs)

blocks_block_places : (place : ℕ) (bs : List Block) → block_places (locals_of_blocks place bs) ≡ range_with_len place (length bs)
blocks_block_places place [] = refl
blocks_block_places place (b ∷ bs) =
    filter_map-append block_place_of (locals_of_block place b) (locals_of_blocks (place + 1) bs)
    ∙ ap (λ l. l ++ block_places (locals_of_blocks (place + 1) bs)) (block_block_places place b)
    ∙ ap (λ l. place ∷ l) (blocks_block_places (place + 1) bs)

pub all_value_ids : (f : Function) → value_ids (locals_of f) ≡ ids_of f
all_value_ids f =
    filter_map-append value_id_of (param_locals f.params) (locals_of_blocks 0 f.blocks)
    ∙ ap (λ l. l ++ value_ids (locals_of_blocks 0 f.blocks)) (param_ids f.params)
    ∙ ap (λ l. map (λ p. p.value.0) f.params ++ l) (blocks_value_ids 0 f.blocks)

pub all_block_places : (f : Function) → block_places (locals_of f) ≡ range_with_len 0 (length f.blocks)
all_block_places f =
    filter_map-append block_place_of (param_locals f.params) (locals_of_blocks 0 f.blocks)
    ∙ ap (λ l. l ++ block_places (locals_of_blocks 0 f.blocks)) (param_places f.params)
    ∙ blocks_block_places 0 f.blocks

-- each is a value or a block
all_locals : (ls : List Local) → length ls ≡ length (value_ids ls) + length (block_places ls)
all_locals [] = refl
all_locals (Local.Value v ∷ ls) = let e = all_locals ls in omega arith
all_locals (Local.Block b ∷ ls) = let e = all_locals ls in omega arith

-- a local of the function
abbrev pub IsLocal : Function → Local → Type 0
IsLocal f (Local.Value v) = v < length f.values
IsLocal f (Local.Block b) = b < length f.blocks

among_values : (ls : List Local) (v : ℕ) → list_any (λ o. same_local o (Local.Value v)) ls ≡ list_any (λ i. nat_eq i v) (value_ids ls)
among_values [] v = refl
among_values (Local.Value w ∷ ls) v = ap (λ b. nat_eq w v || b) (among_values ls v)
among_values (Local.Block b ∷ ls) v = among_values ls v

among_blocks : (ls : List Local) (b : ℕ) → list_any (λ o. same_local o (Local.Block b)) ls ≡ list_any (λ i. nat_eq i b) (block_places ls)
among_blocks [] b = refl
among_blocks (Local.Value w ∷ ls) b = among_blocks ls b
among_blocks (Local.Block c ∷ ls) b = ap (λ t. nat_eq c b || t) (among_blocks ls b)

nat_itself : (n : ℕ) → nat_eq n n ≡ true
nat_itself n = grind arith

in_range : (a n k : ℕ) → k < n → list_any (λ i. nat_eq i (a + k)) (range_with_len a n) ≡ true
in_range a zero k h = absurd (omega arith)
in_range a (suc n) zero h =
    let e : a + 0 ≡ a = omega arith in
    ap (λ b. b || list_any (λ i. nat_eq i (a + 0)) (range_with_len (a + 1) n)) (ap (λ i. nat_eq a i) e ∙ nat_itself a)
in_range a (suc n) (suc k) h =
    let e : a + suc k ≡ a + 1 + k = omega arith in
    or_true (nat_eq a (a + suc k)) _
    (ap (λ m. list_any (λ i. nat_eq i m) (range_with_len (a + 1) n)) e ∙ in_range (a + 1) n k (omega arith))

pub is_defined :
    (f : Function) → ids_of f ≡ range_with_len 0 (length f.values) → (a : Local) → IsLocal f a →
    list_any (λ o. same_local o a) (locals_of f) ≡ true
is_defined f ids (Local.Value v) h =
    let e : v ≡ 0 + v = omega arith in
    among_values (locals_of f) v ∙ ap (list_any (λ i. nat_eq i v)) (all_value_ids f ∙ ids)
    ∙ ap (λ m. list_any (λ i. nat_eq i m) (range_with_len 0 (length f.values))) e ∙ in_range 0 (length f.values) v h
is_defined f ids (Local.Block b) h =
    let e : b ≡ 0 + b = omega arith in
    among_blocks (locals_of f) b ∙ ap (list_any (λ i. nat_eq i b)) (all_block_places f)
    ∙ ap (λ m. list_any (λ i. nat_eq i m) (range_with_len 0 (length f.blocks))) e ∙ in_range 0 (length f.blocks) b h

abbrev pub one_if : Bool → ℕ
one_if b = cond b 1 0

-- how many that pass stand before a local
abbrev pub count_before : (Local → Bool) → Local → List Local → ℕ
count_before u a ls = count_by u (take_while (λ other. not (same_local other a)) ls)

pub count_before-cons :
    (u : Local → Bool) (a x : Local) (ls : List Local) →
    count_before u a (x ∷ ls) ≡ cond (same_local x a) 0 (one_if (u x) + count_before u a ls)
count_before-cons u a x ls =
    ap (count_by u) (take_while-cons (λ other. not (same_local other a)) x ls) ∙ by (same_local x a)
  where
    by :
        (s : Bool) →
        count_by u (cond (not s) (x ∷ take_while (λ other. not (same_local other a)) ls) [])
        ≡ cond s 0 (one_if (u x) + count_before u a ls)
    by true = refl
    by false = sum_by-cons (λ y. one_if (u y)) x (take_while (λ other. not (same_local other a)) ls)

one_or_none : (b : Bool) → one_if b ≤ 1
one_or_none true = omega arith
one_or_none false = omega arith

count_before-le : (u : Local → Bool) (a : Local) (ls : List Local) → count_before u a ls ≤ length ls
count_before-le u a [] = omega arith
count_before-le u a (x ∷ ls) = subst (λ n. n ≤ suc (length ls)) (sym (count_before-cons u a x ls)) (by (same_local x a) (count_before-le u a ls))
  where
    by : (s : Bool) → count_before u a ls ≤ length ls → cond s 0 (one_if (u x) + count_before u a ls) ≤ suc (length ls)
    by true h = omega arith
    by false h = omega (arith, one_or_none (u x), h)

same_is : (a b : Local) → same_local a b ≡ true → a ≡ b
same_is (Local.Value v) (Local.Value w) e = ap (λ n. Local.Value n) (eqb-true v w e)
same_is (Local.Block v) (Local.Block w) e = ap (λ n. Local.Block n) (eqb-true v w e)
same_is (Local.Value v) (Local.Block w) e = cc
same_is (Local.Block v) (Local.Value w) e = cc

-- two that pass and have as many before them are one
same_count :
    (u : Local → Bool) (ls : List Local) (a b : Local) → list_any (λ o. same_local o a) ls ≡ true →
    list_any (λ o. same_local o b) ls ≡ true → u a ≡ true → u b ≡ true → count_before u a ls ≡ count_before u b ls → a ≡ b
same_count u [] a b h k p q e = cc
same_count u (x ∷ ls) a b h k p q e =
    by (same_local x a) (same_local x b) refl refl (λ h k e. same_count u ls a b h k p q e) h k
    (sym (count_before-cons u a x ls) ∙ e ∙ count_before-cons u b x ls)
  where
    passes : (c : Local) → same_local x c ≡ true → u c ≡ true → one_if (u x) ≡ 1
    passes c s t = ap one_if (ap u (same_is x c s) ∙ t)

    by :
        (s t : Bool) → same_local x a ≡ s → same_local x b ≡ t →
        (list_any (λ o. same_local o a) ls ≡ true → list_any (λ o. same_local o b) ls ≡ true →
        count_before u a ls ≡ count_before u b ls → a ≡ b) → (s || list_any (λ o. same_local o a) ls) ≡ true →
        (t || list_any (λ o. same_local o b) ls) ≡ true →
        cond s 0 (one_if (u x) + count_before u a ls) ≡ cond t 0 (one_if (u x) + count_before u b ls) → a ≡ b
    by true true s t again h k e = sym (same_is x a s) ∙ same_is x b t
    by true false s t again h k e = let one = passes a s p in absurd (omega (arith, one, e))
    by false true s t again h k e = let one = passes b t q in absurd (omega (arith, one, e))
    by false false s t again h k e = again h k (omega (arith, e))

-- names that are kept
find_name :
    {X : Type 0} (g : X → Option (List ℕ)) (xs : List X) (i : ℕ) (name : List ℕ) →
    option_and_then g (slice_get xs i) ≡ Some name → is_among name (filter_map g xs) ≡ true
find_name g [] i name e = cc
find_name g (x ∷ xs) zero name e =
    ap (λ o. is_among name (cons_option o (filter_map g xs))) e
    ∙ ap (λ b. b || is_among name (filter_map g xs)) (same_itself name)
find_name g (x ∷ xs) (suc i) name e = by (g x) (find_name g xs i name e)
  where
    by : (o : Option (List ℕ)) → is_among name (filter_map g xs) ≡ true → is_among name (cons_option o (filter_map g xs)) ≡ true
    by None h = h
    by (Some y) h = or_true (bytes_eq name y) _ h

no_repeat : (name : List ℕ) (names : List (List ℕ)) → AllByRecursion (λ y. bytes_eq name y ≡ false) names → is_among name names ≡ false
no_repeat name [] h = refl
no_repeat name (y ∷ names) h = ap (λ b. b || is_among name names) h.0 ∙ no_repeat name names h.1

distinct_parts : (xs ys : List (List ℕ)) → IsDistinct bytes_eq (xs ++ ys) → IsDistinct bytes_eq xs × IsDistinct bytes_eq ys
unfolding IsDistinct
distinct_parts [] ys h = (tt, h)
distinct_parts (x ∷ xs) ys h = let p = distinct_parts xs ys h.1 in ((prefix xs h.0, p.0), p.1)
  where
    prefix :
        (zs : List (List ℕ)) → AllByRecursion (λ y. bytes_eq x y ≡ false) (zs ++ ys) →
        AllByRecursion (λ y. bytes_eq x y ≡ false) zs
    prefix [] h = tt
    prefix (z ∷ zs) h = (h.0, prefix zs h.1)

-- no name is in both of two parts
in_one_part :
    (name : List ℕ) (xs ys : List (List ℕ)) → IsDistinct bytes_eq (xs ++ ys) → is_among name xs ≡ true →
    is_among name ys ≡ true → ⊥
unfolding IsDistinct
in_one_part name [] ys h a b = true≢false (sym a)
in_one_part name (x ∷ xs) ys h a b = by (bytes_eq name x) refl (λ a. in_one_part name xs ys h.1 a b) a
  where
    by : (t : Bool) → bytes_eq name x ≡ t → (is_among name xs ≡ true → ⊥) → (t || is_among name xs) ≡ true → ⊥
    by true e again a =
        let is : name ≡ x = same_text name x e in
        let there : is_among x (xs ++ ys) ≡ true =
        list_any-append (bytes_eq x) xs ys ∙ or_true (is_among x xs) (is_among x ys) (ap (λ n. is_among n ys) (sym is) ∙ b) in
        true≢false (sym there ∙ no_repeat x (xs ++ ys) h.0)
    by false e again a = again a

at_one_place :
    {X : Type 0} (g : X → Option (List ℕ)) (xs : List X) (i j : ℕ) (name : List ℕ) → IsDistinct bytes_eq (filter_map g xs) →
    option_and_then g (slice_get xs i) ≡ Some name → option_and_then g (slice_get xs j) ≡ Some name → i ≡ j
unfolding IsDistinct
at_one_place g [] i j name h a b = cc
at_one_place g (x ∷ xs) zero zero name h a b = refl
at_one_place g (x ∷ xs) zero (suc j) name h a b =
    let d : IsDistinct bytes_eq (cons_option (Some name) (filter_map g xs)) = subst (λ o. IsDistinct bytes_eq (cons_option o (filter_map g xs))) a h in
    absurd (true≢false (sym (find_name g xs j name b) ∙ no_repeat name (filter_map g xs) d.0))
at_one_place g (x ∷ xs) (suc i) zero name h a b =
    let d : IsDistinct bytes_eq (cons_option (Some name) (filter_map g xs)) = subst (λ o. IsDistinct bytes_eq (cons_option o (filter_map g xs))) b h in
    absurd (true≢false (sym (find_name g xs i name a) ∙ no_repeat name (filter_map g xs) d.0))
at_one_place g (x ∷ xs) (suc i) (suc j) name h a b = ap (λ n. suc n) (at_one_place g xs i j name (rest (g x) h) a b)
  where
    rest : (o : Option (List ℕ)) → IsDistinct bytes_eq (cons_option o (filter_map g xs)) → IsDistinct bytes_eq (filter_map g xs)
    rest None h = h
    rest (Some y) h = h.1

kept_is : (names : List (List ℕ)) → AllByRecursion IsKeptName names → (name : List ℕ) → is_among name names ≡ true → IsKeptName name
kept_is [] h name e = absurd (true≢false (sym e))
kept_is (y ∷ names) h name e = by (bytes_eq name y) refl (kept_is names h.1 name) e
  where
    by :
        (t : Bool) → bytes_eq name y ≡ t → (is_among name names ≡ true → IsKeptName name) →
        (t || is_among name names) ≡ true → IsKeptName name
    by true s again e = subst IsKeptName (sym (same_text name y s)) h.0
    by false s again e = again e

abbrev value_names_of : Function → List (List ℕ)
value_names_of f = filter_map (λ v. v.name) f.values

abbrev block_names_of : Function → List (List ℕ)
block_names_of f = filter_map (λ b. b.name) f.blocks

name_is_kept : (f : Function) (a : Local) (name : List ℕ) → name_of f a ≡ Some name → is_among name (kept_names f) ≡ true
name_is_kept f (Local.Value v) name e =
    list_any-append (bytes_eq name) (value_names_of f) (block_names_of f)
    ∙ ap (λ b. b || is_among name (block_names_of f)) (find_name (λ x. x.name) f.values v name e)
name_is_kept f (Local.Block b) name e =
    list_any-append (bytes_eq name) (value_names_of f) (block_names_of f)
    ∙ or_true (is_among name (value_names_of f)) _ (find_name (λ x. x.name) f.blocks b name e)

same_named :
    (f : Function) → IsDistinct bytes_eq (kept_names f) → (a b : Local) (name : List ℕ) → name_of f a ≡ Some name →
    name_of f b ≡ Some name → a ≡ b
same_named f h (Local.Value v) (Local.Value w) name p q =
    ap (λ n. Local.Value n) (at_one_place (λ x. x.name) f.values v w name (distinct_parts (value_names_of f) (block_names_of f) h).0 p q)
same_named f h (Local.Block v) (Local.Block w) name p q =
    ap (λ n. Local.Block n) (at_one_place (λ x. x.name) f.blocks v w name (distinct_parts (value_names_of f) (block_names_of f) h).1 p q)
same_named f h (Local.Value v) (Local.Block w) name p q =
    absurd (in_one_part name (value_names_of f) (block_names_of f) h (find_name (λ x. x.name) f.values v name p) (find_name (λ x. x.name) f.blocks w name q))
same_named f h (Local.Block v) (Local.Value w) name p q =
    absurd (in_one_part name (value_names_of f) (block_names_of f) h (find_name (λ x. x.name) f.values w name q) (find_name (λ x. x.name) f.blocks v name p))

few_before : (f : Function) → ids_of f ≡ range_with_len 0 (length f.values) → HasFewNames f → (a : Local) → number_of f a < 10 ^ 64
few_before f ids few a =
    let most = count_before-le (is_unnamed f) a (locals_of f) in
    let all = all_locals (locals_of f) in
    let values : length (value_ids (locals_of f)) ≡ length f.values = ap length (all_value_ids f ∙ ids) ∙ length-range_with_len 0 (length f.values) in
    let blocks : length (block_places (locals_of f)) ≡ length f.blocks = ap length (all_block_places f) ∙ length-range_with_len 0 (length f.blocks) in
    omega (arith, most, all, values, blocks, few)

abbrev shown_as : Function → Local → Option (List ℕ) → List ℕ
shown_as f a o = elim o [ None ↦ decimal (number_of f a) | Some name ↦ name ]

-- no two are shown alike
pub shown_alike :
    (f : Function) → IsPrintable f → HasFewNames f → (a b : Local) → IsLocal f a → IsLocal f b →
    shown_name f a ≡ shown_name f b → a ≡ b
shown_alike f printable few a b p q e = by (name_of f a) (name_of f b) refl refl e
  where
    kept : (c : Local) (name : List ℕ) → name_of f c ≡ Some name → is_digits name ≡ false
    kept c name e = (kept_is (kept_names f) (recursion_from_All IsKeptName (kept_names f) printable.names) name (name_is_kept f c name e)).no_number

    digits : (c : Local) → is_digits (decimal (number_of f c)) ≡ true
    digits c = decimal_is_digits (number_of f c)

    by :
        (o r : Option (List ℕ)) → name_of f a ≡ o → name_of f b ≡ r → shown_as f a o ≡ shown_as f b r → a ≡ b
    by None None s t e =
        same_count (is_unnamed f) (locals_of f) a b (is_defined f printable.ids a p) (is_defined f printable.ids b q)
        (ap is_none s) (ap is_none t)
        (decimal_same (number_of f a) (number_of f b) (few_before f printable.ids few a) (few_before f printable.ids few b) e)
    by None (Some name) s t e = absurd (true≢false (sym (digits a) ∙ ap is_digits e ∙ kept b name t))
    by (Some name) None s t e = absurd (true≢false (sym (digits b) ∙ ap is_digits (sym e) ∙ kept a name s))
    by (Some name) (Some other) s t e = same_named f printable.distinct a b name s (t ∙ ap (λ n. Some n) (sym e))

-- the name that is kept of it is its own
pub kept_shown : (f : Function) → IsPrintable f → (a : Local) → kept_name (shown_name f a) ≡ name_of f a
kept_shown f printable a = by (name_of f a) refl
  where
    pick : (b t : Bool) (name : List ℕ) → b ≡ t → cond b None (Some name) ≡ cond t None (Some name)
    pick b t name e = ap (λ c. cond c None (Some name)) e

    by : (o : Option (List ℕ)) → name_of f a ≡ o → kept_name (shown_as f a o) ≡ o
    by None e = pick _ true _ (decimal_is_digits (number_of f a))
    by (Some name) e = pick _ false name (kept_is (kept_names f) (recursion_from_All IsKeptName (kept_names f) printable.names) name (name_is_kept f a name e)).no_number

-- it is of digits alone where it has no name
pub digits_shown : (f : Function) → IsPrintable f → (a : Local) → is_digits (shown_name f a) ≡ is_unnamed f a
digits_shown f printable a = by (name_of f a) refl
  where
    by : (o : Option (List ℕ)) → name_of f a ≡ o → is_digits (shown_as f a o) ≡ is_none o
    by None e = decimal_is_digits (number_of f a)
    by (Some name) e = (kept_is (kept_names f) (recursion_from_All IsKeptName (kept_names f) printable.names) name (name_is_kept f a name e)).no_number
