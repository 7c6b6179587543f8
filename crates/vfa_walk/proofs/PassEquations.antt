-- A pass meets its equations, and no other table does.
use Rattle.std.proofs.Common.{◌≡◌, ℕ, Bool, true, false, ◌||◌, nat_eq, if◌then◌else◌, List, [], ◌∷◌, Option, Some, None, refl, sym, ◌∙◌, ap, subst, inl, inr}
use Rattle.std.specs.List.{IsDistinct}
use Rattle.std.specs.Option.{option_map}
use Rattle.std.proofs.lemmas.Bool.{eqb-true, eq-eqb}
use Rattle.vfa_ir.specs.Walks.{is_in}
use Rattle.vfa_cfg.proofs.Members.{or_left, or_right, false_is_no_truth, no_truth, first_or_rest, in_first, in_rest, apart_in}
use Rattle.vfa_walk.specs.Flow.{Flow, is_given, GoesForward, IsForward}
use Rattle.vfa_walk.specs.Passes.{Entries, merged, gathered, followed, handed, met, entry_of, with_entry, go_through, pass_table, IsPass}

-- ---- choices

pub if_yes : {A : Type 0} (b : Bool) (x y : A) → b ≡ true → (if b then x else y) ≡ x
if_yes true x y h = refl
if_yes false x y h = absurd (cc)

pub if_no : {A : Type 0} (b : Bool) (x y : A) → b ≡ false → (if b then x else y) ≡ y
if_no true x y h = absurd (cc)
if_no false x y h = refl

pub or_none : (a b : Bool) → (a || b) ≡ false → (a ≡ false) × (b ≡ false)
or_none true b h = absurd (cc)
or_none false b h = (refl, h)

-- ---- what a block gets hangs on what is handed on to it

pub gathered_same : {S : Type 0} (join : S → S → S) (given given' : ℕ → Option S) (list : List ℕ) (sum : Option S) →
    ((p : ℕ) → is_in p list ≡ true → given p ≡ given' p) → gathered join given list sum ≡ gathered join given' list sum
gathered_same join given given' [] sum same = refl
gathered_same join given given' (p ∷ rest) sum same =
    let here : given p ≡ given' p = same p (or_left _ _ (eq-eqb p p refl)) in
    gathered_same join given given' rest (merged join sum (given p)) (λ q h. same q (or_right _ _ h))
    ∙ ap (λ e. gathered join given' rest (merged join sum e)) here

pub met_same : {S : Type 0} (m : Flow S) (t t' : Entries S) (b : ℕ) →
    ((p : ℕ) → is_in p m.order ≡ true → handed m t b p ≡ handed m t' b p) → met m t b ≡ met m t' b
met_same m t t' b same = ap (option_map (m.cut b)) (gathered_same m.join (handed m t b) (handed m t' b) m.order None same)

pub handed_same : {S : Type 0} (m : Flow S) (t t' : Entries S) (b p : ℕ) → t p ≡ t' p → handed m t b p ≡ handed m t' b p
handed_same m t t' b p same = ap (followed (m.along p b)) same

follows_none : {S : Type 0} (next : S → Option S) (e : Option S) → ((s : S) → next s ≡ None) → followed next e ≡ None
follows_none next None nothing = refl
follows_none next (Some s) nothing = nothing s

-- nothing is handed on to a block to which nothing leads
pub handed_none : {S : Type 0} (m : Flow S) (t : Entries S) (b p : ℕ) → ((s : S) → m.along p b s ≡ None) → handed m t b p ≡ None
handed_none m t b p nothing = follows_none (m.along p b) (t p) nothing

-- ---- a pass

pub through_other : {S : Type 0} (m : Flow S) (x : Entries S) (list : List ℕ) (t : Entries S) (c : ℕ) → is_in c list ≡ false →
    go_through m x list t c ≡ t c
through_other m x [] t c absent = refl
through_other m x (b ∷ rest) t c absent =
    let parts : (nat_eq c b ≡ false) × (is_in c rest ≡ false) = or_none (nat_eq c b) (is_in c rest) absent in
    through_other m x rest (with_entry t b (entry_of m x t b)) c parts.1
    ∙ if_no (nat_eq c b) (entry_of m x t b) (t c) parts.0

-- the entry of a block by the table before its turn, and by one that agrees with it elsewhere
entry_same : {S : Type 0} (m : Flow S) (x t u : Entries S) (b : ℕ) → (is_given m b ≡ false → met m t b ≡ met m u b) →
    entry_of m x t b ≡ entry_of m x u b
entry_same {S = S} m x t u b same = of (nat_eq b m.first) (m.is_head b) same
  where
    of : (first head : Bool) → ((first || head) ≡ false → met m t b ≡ met m u b) →
        (if first then Some m.start else if head then x b else met m t b) ≡ (if first then Some m.start else if head then x b else met m u b)
    of true head same = refl
    of false true same = refl
    of false false same = same refl

turn_same : {S : Type 0} (m : Flow S) (x t u : Entries S) (b : ℕ) (rest : List ℕ) →
    ((c : ℕ) → is_in c (b ∷ rest) ≡ true → t c ≡ None) → ((c : ℕ) → is_in c (b ∷ rest) ≡ false → t c ≡ u c) →
    GoesForward m (b ∷ rest) → entry_of m x t b ≡ entry_of m x u b
turn_same {S = S} m x t u b rest none other forward =
    entry_same m x t u b (λ given. met_same m t u b (λ p _. handed_on given p (is_in p (b ∷ rest)) refl))
  where
    handed_on : is_given m b ≡ false → (p : ℕ) (here : Bool) → is_in p (b ∷ rest) ≡ here → handed m t b p ≡ handed m u b p
    handed_on given p true here =
        handed_same m t (λ _. None) b p (none p here) ∙ sym (handed_none m u b p (forward.0 given p here))
    handed_on given p false here = handed_same m t u b p (other p here)

is_first : (b : ℕ) → nat_eq b b ≡ true
is_first b = eq-eqb b b refl

-- after the turn of the first block of the list
after_turn_none : {S : Type 0} (t : Entries S) (b : ℕ) (rest : List ℕ) (entry : Option S) →
    ((c : ℕ) → is_in c (b ∷ rest) ≡ true → t c ≡ None) → is_in b rest ≡ false →
    (c : ℕ) → is_in c rest ≡ true → with_entry t b entry c ≡ None
after_turn_none t b rest entry none absent c here =
    let apart : nat_eq c b ≡ false = no_truth (nat_eq c b) (λ same.
    let equal : c ≡ b = eqb-true c b same in
    false_is_no_truth {X = ⊥} (subst (λ c. is_in c rest ≡ true) equal here) absent) in
    if_no (nat_eq c b) entry (t c) apart ∙ none c (in_rest c b rest here)

distinct_parts : (b : ℕ) (rest : List ℕ) → IsDistinct nat_eq (b ∷ rest) → (is_in b rest ≡ false) × IsDistinct nat_eq rest
unfolding IsDistinct
distinct_parts b rest distinct = (apart_in b rest distinct.0, distinct.1)

-- the only table that meets the equations on the list, and is the one before elsewhere
through_only : {S : Type 0} (m : Flow S) (x : Entries S) (list : List ℕ) (t u : Entries S) →
    ((c : ℕ) → is_in c list ≡ true → t c ≡ None) → ((c : ℕ) → is_in c list ≡ false → t c ≡ u c) →
    IsDistinct nat_eq list → GoesForward m list → ((b : ℕ) → is_in b list ≡ true → u b ≡ entry_of m x u b) →
    (b : ℕ) → go_through m x list t b ≡ u b
through_only m x [] t u none other distinct forward meets b = other b refl
through_only {S = S} m x (first ∷ rest) t u none other distinct forward meets b =
    let parts : (is_in first rest ≡ false) × IsDistinct nat_eq rest = distinct_parts first rest distinct in
    through_only m x rest (with_entry t first entry) u (after_turn_none t first rest entry none parts.0) (λ c h. outside c h (nat_eq c first) refl)
    parts.1 forward.1 (λ c h. meets c (in_rest c first rest h)) b
  where
    entry : Option S
    entry = entry_of m x t first

    outside : (c : ℕ) → is_in c rest ≡ false → (same : Bool) → nat_eq c first ≡ same → with_entry t first entry c ≡ u c
    outside c h true same =
        let equal : c ≡ first = eqb-true c first same in
        if_yes (nat_eq c first) entry (t c) same ∙ turn_same m x t u first rest none other forward
        ∙ sym (meets first (in_first first rest)) ∙ ap u (sym equal)
    outside c h false same =
        let absent : is_in c (first ∷ rest) ≡ false = no_truth (is_in c (first ∷ rest)) (λ t. elim (first_or_rest c first rest t) [
          | inl equal ↦ false_is_no_truth {X = ⊥} (eq-eqb c first equal) same
          | inr later ↦ false_is_no_truth {X = ⊥} later h
        ]) in
        if_no (nat_eq c first) entry (t c) same ∙ other c absent

through_inside : {S : Type 0} (m : Flow S) (x : Entries S) (list : List ℕ) (t : Entries S) →
    ((c : ℕ) → is_in c list ≡ true → t c ≡ None) → IsDistinct nat_eq list → GoesForward m list →
    (b : ℕ) → is_in b list ≡ true → go_through m x list t b ≡ entry_of m x (go_through m x list t) b
through_inside m x [] t none distinct forward b here = absurd (cc)
through_inside {S = S} m x (first ∷ rest) t none distinct forward b here =
    let parts : (is_in first rest ≡ false) × IsDistinct nat_eq rest = distinct_parts first rest distinct in
    elim (first_or_rest b first rest here) [
      | inl equal ↦ subst (λ b. final b ≡ entry_of m x final b) (sym equal) (at_first parts.0)
      | inr later ↦ through_inside m x rest after (after_turn_none t first rest (entry_of m x t first) none parts.0) parts.1 forward.1 b later
    ]
  where
    after : Entries S
    after = with_entry t first (entry_of m x t first)

    final : Entries S
    final = go_through m x rest after

    at_first : is_in first rest ≡ false → final first ≡ entry_of m x final first
    at_first absent =
        through_other m x rest after first absent
        ∙ if_yes (nat_eq first first) (entry_of m x t first) (t first) (is_first first)
        ∙ turn_same m x t final first rest none (λ c h. sym (through_other m x (first ∷ rest) t c h)) forward

-- ---- the table of a pass

pub pass_is_pass : {S : Type 0} (m : Flow S) (x : Entries S) → IsForward m → IsPass m x (pass_table m x)
pass_is_pass m x is = record {
  inside = through_inside m x m.order (λ _. None) (λ _ _. refl) is.distinct is.forward;
  outside = through_other m x m.order (λ _. None);
}

pub one_pass : {S : Type 0} (m : Flow S) (x t : Entries S) → IsForward m → IsPass m x t → (b : ℕ) → t b ≡ pass_table m x b
one_pass m x t is pass b =
    sym (through_only m x m.order (λ _. None) t (λ _ _. refl) (λ c h. sym (pass.outside c h)) is.distinct is.forward pass.inside b)
