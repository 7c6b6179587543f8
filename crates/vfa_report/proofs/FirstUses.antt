-- Names that are met one after another.
use Rattle.std.proofs.Common.{◌≡◌, ℕ, ◌+◌, ◌<◌, ◌≤◌, Bool, true, false, cond, ◌||◌, nat_eq, List, [], ◌∷◌, ◌++◌, length, take, get_or, Some, None, zero, suc, arith, refl, sym, ap, subst, ◌∙◌}
use Rattle.std.specs.Prelude.{flat_map, slice_index_or, slice_get}
use Rattle.std.proofs.lemmas.List.{append_assoc, append-nil, take_more, take_all, get_or_default}
use Rattle.vfa_ir.specs.Defined.{operand_names}
use Rattle.vfa_ir.specs.declared.functions.CallOp.{CallOp}
use Rattle.vfa_ir.specs.Words.{is_in}
use Rattle.vfa_report.specs.Met.{Met, AreMarks, MarksMore, HasMet}
use Rattle.vfa_report.specs.Uses.{first_uses}

pub met_none : (u : Met) → HasMet u u []
met_none u = record { met = λ seen rest marks. (seen, marks, refl) }

pub met_both : (a b c : Met) (ms ns : List ℕ) → HasMet a b ms → HasMet b c ns → HasMet a c (ms ++ ns)
met_both a b c ms ns first second = record {
  met = λ seen rest marks.
      let one = first.met seen (ns ++ rest) marks in
      let two = second.met one.0 rest one.1 in
      (two.0, two.1, ap (λ l. a.names ++ first_uses seen l) (append_assoc ms ns rest) ∙ one.2 ∙ two.2);
}

pub met_before : (u : Met) (v : ℕ) → slice_index_or u.marks v false ≡ true → HasMet u u (v ∷ [])
met_before u v marked = record {
  met = λ seen rest marks.
      (seen, marks, ap (λ b. u.names ++ cond b (first_uses seen rest) (v ∷ first_uses (v ∷ seen) rest)) (sym (marks v) ∙ marked));
}

or_single : (b c : Bool) → ((b || false) || c) ≡ (b || c)
or_single true c = refl
or_single false c = refl

pub met_first : (old between new : Met) (v : ℕ) → slice_index_or old.marks v false ≡ false → MarksMore old.marks between.marks (v ∷ []) →
    new.marks ≡ between.marks → between.names ≡ old.names → new.names ≡ between.names ++ v ∷ [] → HasMet old new (v ∷ [])
met_first old between new v unmarked more same kept put = record {
  met = λ seen rest marks. (
    v ∷ seen,
    λ n. ap (λ m. slice_index_or m n false) same ∙ more n ∙ ap (λ b. (nat_eq n v || false) || b) (marks n) ∙ or_single (nat_eq n v) (is_in n seen),
    ap (λ b. old.names ++ cond b (first_uses seen rest) (v ∷ first_uses (v ∷ seen) rest)) (sym (marks v) ∙ unmarked)
        ∙ sym (append_assoc old.names (v ∷ []) (first_uses (v ∷ seen) rest))
        ∙ ap (λ l. l ++ first_uses (v ∷ seen) rest) (sym (put ∙ ap (λ l. l ++ v ∷ []) kept)),
  );
}

flat_append : {A : Type 0} (g : A → List ℕ) (xs ys : List A) → flat_map g (xs ++ ys) ≡ flat_map g xs ++ flat_map g ys
flat_append g [] ys = refl
flat_append g (x ∷ xs) ys = ap (λ l. g x ++ l) (flat_append g xs ys) ∙ sym (append_assoc (g x) (flat_map g xs) (flat_map g ys))

flat_more : {A : Type 0} (g : A → List ℕ) (xs : List A) (i : ℕ) (x : A) → i < length xs → x ≡ get_or xs i x → flat_map g (take (i + 1) xs) ≡ flat_map g (take i xs) ++ g x
flat_more g xs i x less is =
    ap (flat_map g) (take_more xs i x less)
    ∙ flat_append g (take i xs) (get_or xs i x ∷ [])
    ∙ ap (λ l. flat_map g (take i xs) ++ l) (append-nil (g (get_or xs i x)))
    ∙ ap (λ y. flat_map g (take i xs) ++ g y) (sym is)

pub met_more : {A : Type 0} (g : A → List ℕ) (xs : List A) (i : ℕ) (x : A) (a b c : Met) → i < length xs → x ≡ get_or xs i x → HasMet a b (flat_map g (take i xs)) → HasMet b c (g x) → HasMet a c (flat_map g (take (i + 1) xs))
met_more g xs i x a b c less is so_far step =
    subst (HasMet a c) (sym (flat_more g xs i x less is)) (met_both a b c (flat_map g (take i xs)) (g x) so_far step)

-- the same, where the element is read at its place
pub met_more_at : {A : Type 0} (g : A → List ℕ) (xs : List A) (i : ℕ) (d : A) (a b c : Met) → i < length xs → HasMet a b (flat_map g (take i xs)) → HasMet b c (g (get_or xs i d)) → HasMet a c (flat_map g (take (i + 1) xs))
met_more_at g xs i d a b c less = met_more g xs i (get_or xs i d) a b c less (get_or_default xs i d (get_or xs i d) less)

none_past : {A : Type 0} (xs : List A) (i : ℕ) → length xs ≤ i → slice_get xs i ≡ None
none_past [] i past = refl
none_past (x ∷ xs) zero past = let no : ⊥ = omega arith in absurd no
none_past (x ∷ xs) (suc i) past = none_past xs i (omega arith)

-- a call that the function does not have
pub met_no_call : (u : Met) (calls found : List CallOp) (call : ℕ) → length found ≤ call → found ≡ calls →
    HasMet u u (elim (slice_get calls call) [ None ↦ [] | Some c ↦ flat_map (λ a. operand_names a.value) c.args ])
met_no_call u calls found call past is =
    let none : slice_get calls call ≡ None = subst (λ l. slice_get l call ≡ None) is (none_past found call past) in
    subst (λ o. HasMet u u (elim o [ None ↦ [] | Some c ↦ flat_map (λ a. operand_names a.value) c.args ])) (sym none) (met_none u)

pub met_all : {A : Type 0} (g : A → List ℕ) (xs : List A) (i : ℕ) (a b : Met) → length xs ≤ i → HasMet a b (flat_map g (take i xs)) → HasMet a b (flat_map g xs)
met_all g xs i a b past so_far = subst (HasMet a b) (ap (flat_map g) (take_all i xs past)) so_far

pub met_same : (a b : Met) (ms ns : List ℕ) → ms ≡ ns → HasMet a b ms → HasMet a b ns
met_same a b ms ns same h = subst (HasMet a b) same h

-- ---- marks

or_assoc : (a b c : Bool) → (b || (a || c)) ≡ ((a || b) || c)
or_assoc true true c = refl
or_assoc true false c = refl
or_assoc false b c = refl

is_in_append : (n : ℕ) (xs ys : List ℕ) → is_in n (xs ++ ys) ≡ (is_in n xs || is_in n ys)
is_in_append n [] ys = refl
is_in_append n (x ∷ xs) ys = ap (λ b. nat_eq n x || b) (is_in_append n xs ys) ∙ or_first (nat_eq n x) (is_in n xs) (is_in n ys)
  where
    or_first : (a b c : Bool) → (a || (b || c)) ≡ ((a || b) || c)
    or_first true b c = refl
    or_first false b c = refl

pub marks_none : (marks : List Bool) → MarksMore marks marks []
marks_none marks n = refl

pub marks_both : (a b c : List Bool) (ms ns : List ℕ) → MarksMore a b ms → MarksMore b c ns → MarksMore a c (ms ++ ns)
marks_both a b c ms ns first second n =
    second n
    ∙ ap (λ m. is_in n ns || m) (first n)
    ∙ or_assoc (is_in n ms) (is_in n ns) (slice_index_or a n false)
    ∙ ap (λ m. m || slice_index_or a n false) (sym (is_in_append n ms ns))

-- one element more of a list whose names are marked
pub marks_more : {A : Type 0} (names : List A → List ℕ) → ((xs ys : List A) → names (xs ++ ys) ≡ names xs ++ names ys) →
    (xs : List A) (i : ℕ) (x : A) (a b c : List Bool) → i < length xs → x ≡ get_or xs i x → MarksMore a b (names (take i xs)) → MarksMore b c (names (x ∷ [])) →
    MarksMore a c (names (take (i + 1) xs))
marks_more names parts xs i x a b c less is so_far step =
    let more : take (i + 1) xs ≡ take i xs ++ x ∷ [] = take_more xs i x less ∙ ap (λ y. take i xs ++ y ∷ []) (sym is) in
    subst (MarksMore a c) (sym (ap names more ∙ parts (take i xs) (x ∷ []))) (marks_both a b c (names (take i xs)) (names (x ∷ [])) so_far step)

pub marks_more_at : {A : Type 0} (names : List A → List ℕ) → ((xs ys : List A) → names (xs ++ ys) ≡ names xs ++ names ys) →
    (xs : List A) (i : ℕ) (d : A) (a b c : List Bool) → i < length xs → MarksMore a b (names (take i xs)) → MarksMore b c (names (get_or xs i d ∷ [])) →
    MarksMore a c (names (take (i + 1) xs))
marks_more_at names parts xs i d a b c less = marks_more names parts xs i (get_or xs i d) a b c less (get_or_default xs i d (get_or xs i d) less)

pub marks_all : {A : Type 0} (names : List A → List ℕ) (xs : List A) (i : ℕ) (a b : List Bool) → length xs ≤ i → MarksMore a b (names (take i xs)) → MarksMore a b (names xs)
marks_all names xs i a b past so_far = subst (MarksMore a b) (ap names (take_all i xs past)) so_far

or_none : (b : Bool) → (b || false) ≡ b
or_none true = refl
or_none false = refl

-- all that is met where these names were marked at first
pub first_uses_of : (one two last : Met) (phis insts all : List ℕ) → MarksMore [] one.marks phis → MarksMore one.marks two.marks insts → two.names ≡ [] → HasMet two last all → last.names ≡ first_uses (phis ++ insts) all
first_uses_of one two last phis insts all first second none met =
    let marks : AreMarks two.marks (phis ++ insts) = λ n. marks_both [] one.marks two.marks phis insts first second n ∙ or_none (is_in n (phis ++ insts)) in
    let end = met.met (phis ++ insts) [] marks in
    sym (append-nil last.names)
    ∙ sym end.2
    ∙ ap (λ l. l ++ first_uses (phis ++ insts) (all ++ [])) none
    ∙ ap (first_uses (phis ++ insts)) (append-nil all)
