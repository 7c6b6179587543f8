-- States that are made of lists, one element after another.
use Rattle.std.proofs.Common.{◌≡◌, ◌<◌, ◌≤◌, ◌+◌, ℕ, zero, suc, Bool, true, false, ◌||◌, nat_eq, if◌then◌else◌, Option, Some, None, List, [], ◌∷◌, map, drop, length, get_or, refl, sym, ◌∙◌, ap, subst, arith, add-one, drop-cons, eqb-true, eq-eqb}
use Rattle.std.specs.List.{IsDistinct, AllByRecursion}
use Rattle.std.proofs.lemmas.Bool.Decides.{nat_tests}
use Rattle.std.proofs.lemmas.Map.Keys.{IsDistinct-head, IsDistinct-tail}
use Rattle.vfa_ir.specs.declared.operations.ValueId.{ValueId}
use Rattle.vfa_cond.proofs.Entries.{funext}
use Rattle.vfa_cond.specs.States.{AbstractState, Stored, KeepsRoom, IsRoomy, given_fact, is_given}

abbrev pub or_fact : {V : Type 0} → Option V → Option V → Option V
or_fact None second = second
or_fact (Some d) second = Some d

-- what is left of a list at a place in it
pub left_at : {A : Type 0} (xs : List A) (i : ℕ) (x : A) → i < length xs → x ≡ get_or xs i x → drop i xs ≡ x ∷ drop (i + 1) xs
left_at xs i x inside is = drop-cons xs i x inside ∙ (ap (λ y. y ∷ drop (suc i) xs) (sym is) ∙ ap (λ k. x ∷ drop k xs) (sym (add-one i)))

-- what is left gives the facts of the rest, and the state the others
abbrev pub GivesRest : {V : Type 0} → List (ValueId × V) → List (ValueId × V) → (ℕ → Option V) → Type 0
GivesRest whole rest fact = (u : ℕ) → or_fact (given_fact rest u) (fact u) ≡ given_fact whole u

abbrev pub MarksRest : List ValueId → List ValueId → (ℕ → Bool) → Type 0
MarksRest whole rest live = (u : ℕ) → (is_given rest u || live u) ≡ is_given whole u

module _ {V : Type 0} where
  none_given : (v : ℕ) (facts : List (ValueId × V)) → AllByRecursion (λ y. nat_eq v y ≡ false) (map (λ p. p.0.0) facts) → given_fact facts v ≡ None
  none_given v [] other = refl
  none_given v (p ∷ rest) other = grind (arith, nat_tests, other.0, none_given v rest other.1)

  distinct_drop : (i : ℕ) (facts : List (ValueId × V)) → IsDistinct nat_eq (map (λ p. p.0.0) facts) → IsDistinct nat_eq (map (λ p. p.0.0) (drop i facts))
  distinct_drop zero facts distinct = distinct
  distinct_drop (suc i) [] distinct = distinct
  distinct_drop (suc i) (p ∷ rest) distinct = distinct_drop i rest (IsDistinct-tail nat_eq p.0.0 (map (λ q. q.0.0) rest) distinct)

  fact_moves : (p : ValueId × V) (rest : List (ValueId × V)) (fact : ℕ → Option V) (u : ℕ) → given_fact rest p.0.0 ≡ None
      → or_fact (given_fact rest u) (if nat_eq u p.0.0 then Some p.1 else fact u) ≡ or_fact (given_fact (p ∷ rest) u) (fact u)
  fact_moves p rest fact u none = at (nat_eq u p.0.0) refl
    where
      at : (b : Bool) → nat_eq u p.0.0 ≡ b → or_fact (given_fact rest u) (if b then Some p.1 else fact u) ≡ or_fact (given_fact (p ∷ rest) u) (fact u)
      at true t =
          let same : u ≡ p.0.0 = eqb-true u p.0.0 t in
          let gone : given_fact rest u ≡ None = ap (given_fact rest) same ∙ none in
          let back : nat_eq p.0.0 u ≡ true = eq-eqb p.0.0 u (sym same) in
          rw (gone, back) refl
      at false t =
          let other : nat_eq p.0.0 u ≡ false = grind (arith, nat_tests) in
          rw other refl

  -- one more fact is put into the state
  pub gives_step : (whole : List (ValueId × V)) (i : ℕ) (p : ValueId × V) (fact : ℕ → Option V) → IsDistinct nat_eq (map (λ q. q.0.0) whole) → i < length whole → p ≡ get_or whole i p
      → GivesRest whole (drop i whole) fact → GivesRest whole (drop (i + 1) whole) (λ u. if nat_eq u p.0.0 then Some p.1 else fact u)
  gives_step whole i p fact distinct inside is gives u =
      let left = left_at whole i p inside is in
      let apart : IsDistinct nat_eq (p.0.0 ∷ map (λ q. q.0.0) (drop (i + 1) whole)) = subst (λ l. IsDistinct nat_eq (map (λ q. q.0.0) l)) left (distinct_drop i whole distinct) in
      let none = none_given p.0.0 (drop (i + 1) whole) (IsDistinct-head nat_eq p.0.0 (map (λ q. q.0.0) (drop (i + 1) whole)) apart) in
      fact_moves p (drop (i + 1) whole) fact u none ∙ (ap (λ l. or_fact (given_fact l u) (fact u)) (sym left) ∙ gives u)

mark_moves : (v u : ℕ) (rest live : Bool) → (rest || (if nat_eq u v then true else live)) ≡ ((nat_eq v u || rest) || live)
mark_moves v u true live = grind (arith, nat_tests)
mark_moves v u false live = grind (arith, nat_tests)

-- one more name is marked
pub marks_step : (whole : List ValueId) (i : ℕ) (d : ValueId) (live : ℕ → Bool) → i < length whole
    → MarksRest whole (drop i whole) live → MarksRest whole (drop (i + 1) whole) (λ u. if nat_eq u (get_or whole i d).0 then true else live u)
marks_step whole i d live inside marks u =
    let v : ValueId = get_or whole i d in
    let left : drop i whole ≡ v ∷ drop (i + 1) whole = drop-cons whole i d inside ∙ ap (λ k. v ∷ drop k whole) (sym (add-one i)) in
    mark_moves v.0 u (is_given (drop (i + 1) whole) u) (live u) ∙ (ap (λ l. is_given l u || live u) (sym left) ∙ marks u)

pub nothing_left : {V : Type 0} (o : Option V) → or_fact o None ≡ o
nothing_left None = refl
nothing_left (Some d) = refl

pub mark_none : (b : Bool) → (b || false) ≡ b
mark_none true = refl
mark_none false = refl

pub still_roomy : {V : Type 0} (old new : Stored V) → KeepsRoom old new → IsRoomy old → IsRoomy new
still_roomy old new keeps roomy = omega (arith, keeps.names, keeps.room)

pub nothing_behind : {A : Type 0} (xs : List A) (i : ℕ) → length xs ≤ i → drop i xs ≡ []
nothing_behind [] zero le = refl
nothing_behind [] (suc i) le = refl
nothing_behind (x ∷ rest) zero le = absurd (omega arith)
nothing_behind (x ∷ rest) (suc i) le = nothing_behind rest i (omega arith)

-- at the end the state has all facts, and all marks
pub all_facts : {V : Type 0} (whole : List (ValueId × V)) (i : ℕ) (fact : ℕ → Option V) → length whole ≤ i → GivesRest whole (drop i whole) fact → fact ≡ given_fact whole
all_facts whole i fact le gives = funext (λ u. subst (λ l. or_fact (given_fact l u) (fact u) ≡ given_fact whole u) (nothing_behind whole i le) (gives u))

pub all_marks : (whole : List ValueId) (i : ℕ) (live : ℕ → Bool) → length whole ≤ i → MarksRest whole (drop i whole) live → live ≡ is_given whole
all_marks whole i live le marks = funext (λ u. subst (λ l. (is_given l u || live u) ≡ is_given whole u) (nothing_behind whole i le) (marks u))

pub state_is : {V : Type 0} (s t : AbstractState V) → s.fact ≡ t.fact → s.live ≡ t.live → s ≡ t
state_is s t facts live = λ i. record { fact = facts i; live = live i }
