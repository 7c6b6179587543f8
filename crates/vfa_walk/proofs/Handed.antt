-- What blocks have got, hand by hand.
use Rattle.std.proofs.Common.{◌≡◌, ◌<◌, ◌≤◌, ◌+◌, ◌⊎◌, ℕ, zero, suc, Bool, true, false, ◌||◌, nat_eq, if◌then◌else◌, Option, Some, None, List, [], ◌∷◌, ◌++◌, take, set, length, refl, sym, ◌∙◌, ap, subst, arith, eqb-true, length-set, eq-eqb, inl, inr}
use Rattle.std.specs.Prelude.{slice_get}
use Rattle.std.specs.Option.{ForSome, option_map}
use Rattle.std.proofs.lemmas.Bool.{cases_lt}
use Rattle.std.proofs.lemmas.Bool.Decides.{nat_tests}
use Rattle.std.proofs.lemmas.List.Elements.{All-same, All-set}
use Rattle.std.proofs.lemmas.List.{take_all, take_more}
use Rattle.std.proofs.lemmas.Option.{slice_get_within, get_or_from_slice_get}
use Rattle.vfa_ir.specs.declared.operations.Ty.{Ty}
use Rattle.vfa_ir.specs.declared.functions.Function.{Function}
use Rattle.vfa_ir.specs.Walks.{is_in, successors}
use Rattle.vfa_cfg.proofs.Marks.{none_is_past}
use Rattle.vfa_cfg.proofs.Members.{is_in-append, first_or_rest, or_left, or_right}
use Rattle.vfa_values.specs.Answers.{Answers}
use Rattle.vfa_cond.proofs.Fitting.{none_of}
use Rattle.vfa_cond.specs.Narrowing.{and_then}
use Rattle.vfa_cond.specs.States.{AbstractState, Stored, known}
use Rattle.vfa_walk.specs.Kept.{AreStates, IsStateOf, entry_in, kept_entries}
use Rattle.vfa_walk.specs.Leaving.{handed_on, paired, with_phis}
use Rattle.vfa_walk.specs.Passes.{merged}
use Rattle.vfa_walk.specs.Sending.{entered}
use Rattle.vfa_walk.specs.Stepping.{before_end}
use Rattle.vfa_walk.proofs.Edges.{no_pair}
use Rattle.vfa_walk.proofs.Found.{kept_is}
use Rattle.vfa_walk.proofs.Going.{merged_none}
use Rattle.vfa_walk.proofs.Listed.{kept_set}

-- ---- one block

pub beyond : (b to count : ℕ) → b < count → count ≤ to → nat_eq b to ≡ false
beyond b to count inside past = grind (arith, nat_tests)

pub given_at : {V : Type 0} (join : AbstractState V → AbstractState V → AbstractState V) (old mid new : List (Option (Stored V))) (to : ℕ) (sum next result : Option (Stored V)) →
    to < length old → sum ≡ entry_in old to → mid ≡ set old to None → new ≡ set mid to result →
    option_map known result ≡ merged join (option_map known sum) (option_map known next) →
    (b : ℕ) → kept_entries new b ≡ (if nat_eq b to then merged join (kept_entries old b) (option_map known next) else kept_entries old b)
given_at {V = V} join old mid new to sum next result inside sum_is mid_is new_is joins b =
    ap (λ l. kept_entries l b) new_is ∙ (kept_set mid to result b within ∙ at (nat_eq b to) refl)
  where
    within : to < length mid
    within = subst (λ n. to < n) (sym (ap length mid_is ∙ length-set old to None)) inside

    at : (same : Bool) → nat_eq b to ≡ same →
        (if same then option_map known result else kept_entries mid b) ≡ (if same then merged join (kept_entries old b) (option_map known next) else kept_entries old b)
    at true e =
        joins ∙ ap (λ s. merged join s (option_map known next)) (ap (option_map known) sum_is ∙ (sym (kept_is old to) ∙ ap (kept_entries old) (sym (eqb-true b to e))))
    at false e =
        let nothing : Option (Stored V) = None in
        ap (λ l. kept_entries l b) mid_is ∙ (kept_set old to nothing b inside ∙ ap (λ c. if c then option_map known nothing else kept_entries old b) e)

set_past : {A : Type 0} (list : List A) (place : ℕ) (x : A) → length list ≤ place → set list place x ≡ list
set_past [] place x past = refl
set_past (y ∷ list) zero x past = absurd (omega arith)
set_past (y ∷ list) (suc place) x past = ap (λ l. y ∷ l) (set_past list place x (omega arith))

pub kept_others : {V : Type 0} (list : List (Option (Stored V))) (place b : ℕ) → nat_eq b place ≡ false → kept_entries (set list place None) b ≡ kept_entries list b
kept_others {V = V} list place b apart = at (cases_lt place (length list))
  where
    nothing : Option (Stored V)
    nothing = None

    at : (place < length list) ⊎ (length list ≤ place) → kept_entries (set list place None) b ≡ kept_entries list b
    at (inl inside) = kept_set list place nothing b inside ∙ ap (λ c. if c then option_map known nothing else kept_entries list b) apart
    at (inr past) = ap (λ l. kept_entries l b) (set_past list place nothing past)

pub taken_states : {V : Type 0} (ty : V → Ty) (proper : V → Type 0) (f : Function) (old new : List (Option (Stored V))) (b : ℕ) → AreStates ty proper f old →
    new ≡ set old b None → AreStates ty proper f new
taken_states {V = V} ty proper f old new b states is =
    let P : Option (Stored V) → Type 0 = λ e. ForSome e (IsStateOf ty proper f) in
    All-same P new (set old b None) is (All-set P old b None (none_of _) states)

pub set_states : {V : Type 0} (ty : V → Ty) (proper : V → Type 0) (f : Function) (old mid new : List (Option (Stored V))) (to : ℕ) (result : Option (Stored V)) → AreStates ty proper f old →
    mid ≡ set old to None → new ≡ set mid to result → ForSome result (IsStateOf ty proper f) → AreStates ty proper f new
set_states {V = V} ty proper f old mid new to result states mid_is new_is is =
    All-same P new (set mid to result) new_is (All-set P mid to result is (taken_states ty proper f old mid to states mid_is))
  where
    P : Option (Stored V) → Type 0
    P e = ForSome e (IsStateOf ty proper f)

-- ---- the blocks that edges lead to, each once

or_true : (a : Bool) → (a || true) ≡ true
or_true true = refl
or_true false = refl

or_false : (a : Bool) → (a || false) ≡ a
or_false true = refl
or_false false = refl

-- one more of the list
pub in_more : (list : List ℕ) (k to b : ℕ) → slice_get list k ≡ Some to → is_in b (take (k + 1) list) ≡ (is_in b (take k list) || nat_eq b to)
in_more list k to b at =
    ap (is_in b) (take_more list k 0 (slice_get_within list k to at) ∙ ap (λ x. take k list ++ (x ∷ [])) (get_or_from_slice_get list k to 0 at))
    ∙ (is_in-append b (take k list) (to ∷ []) ∙ ap (λ c. is_in b (take k list) || c) (or_false (nat_eq b to)))

turned : (a b : ℕ) → nat_eq a b ≡ nat_eq b a
turned a b = grind (arith, nat_tests)

pub not_earlier : (list : List ℕ) (j to other : ℕ) → slice_get list j ≡ Some other → nat_eq other to ≡ false → is_in to (take j list) ≡ false → is_in to (take (j + 1) list) ≡ false
not_earlier list j to other at apart before =
    in_more list j other to at ∙ (ap (λ c. c || nat_eq to other) before ∙ (turned to other ∙ apart))

earlier_still : (list : List ℕ) (j k to : ℕ) → j ≤ k → is_in to (take j list) ≡ true → is_in to (take k list) ≡ true
earlier_still list zero k to less there = absurd (cc)
earlier_still [] (suc j) k to less there = absurd (cc)
earlier_still (x ∷ list) (suc j) zero to less there = absurd (omega arith)
earlier_still (x ∷ list) (suc j) (suc k) to less there = elim (first_or_rest to x (take j list) there) [
  | inl e ↦ or_left (nat_eq to x) (is_in to (take k list)) (eq-eqb to x e)
  | inr later ↦ or_right (nat_eq to x) (is_in to (take k list)) (earlier_still list j k to (omega arith) later)
]

pub found_earlier : (list : List ℕ) (k j to other : ℕ) → j < k → slice_get list j ≡ Some other → nat_eq other to ≡ true → true ≡ is_in to (take k list)
found_earlier list k j to other less at e =
    sym (earlier_still list (j + 1) k to (omega arith) (in_more list j other to at ∙ or_right (is_in to (take j list)) (nat_eq to other) (turned to other ∙ e)))

module _ {S : Type 0} (join : S → S → S) (next : ℕ → Option S) (list : List ℕ) (k b : ℕ) (old now : Option S)
    (before : now ≡ (if is_in b (take k list) then merged join old (next b) else old)) where
  pub given_more : (to : ℕ) (new : Option S) → slice_get list k ≡ Some to →
      new ≡ (if is_in to (take k list) then now else if nat_eq b to then merged join now (next to) else now) →
      new ≡ (if is_in b (take (k + 1) list) then merged join old (next b) else old)
  given_more to new at step =
      step ∙ (here (nat_eq b to) refl ∙ sym (ap (λ c. if c then merged join old (next b) else old) (in_more list k to b at)))
    where
      other : (seen : Bool) (x y : Option S) → x ≡ y → (if seen then y else x) ≡ y
      other true x y e = refl
      other false x y e = e

      seen_is : (seen : Bool) → b ≡ to → is_in to (take k list) ≡ seen → now ≡ (if seen then merged join old (next b) else old)
      seen_is seen same h = before ∙ ap (λ c. if c then merged join old (next b) else old) (ap (λ x. is_in x (take k list)) same ∙ h)

      first : (seen : Bool) → b ≡ to → is_in to (take k list) ≡ seen → (if seen then now else merged join now (next to)) ≡ merged join old (next b)
      first true same h = seen_is true same h
      first false same h = ap (λ o. merged join o (next to)) (seen_is false same h) ∙ ap (λ x. merged join old (next x)) (sym same)

      here : (same : Bool) → nat_eq b to ≡ same → (if is_in to (take k list) then now else if same then merged join now (next to) else now)
          ≡ (if is_in b (take k list) || same then merged join old (next b) else old)
      here true e =
          first (is_in to (take k list)) (eqb-true b to e) refl ∙ sym (ap (λ c. if c then merged join old (next b) else old) (or_true (is_in b (take k list))))
      here false e =
          other (is_in to (take k list)) now now refl ∙ (before ∙ sym (ap (λ c. if c then merged join old (next b) else old) (or_false (is_in b (take k list)))))

  pub given_all : None ≡ slice_get list k → (is_in b list ≡ false → next b ≡ None) → now ≡ merged join old (next b)
  given_all past none =
      before ∙ (ap (λ ys. if is_in b ys then merged join old (next b) else old) (take_all k list (none_is_past list k past)) ∙ last (is_in b list) refl)
    where
      last : (seen : Bool) → is_in b list ≡ seen → (if seen then merged join old (next b) else old) ≡ merged join old (next b)
      last true h = refl
      last false h = sym (ap (merged join old) (none h) ∙ merged_none join old)

-- ---- a block by its entry state

module _ {V : Type 0} (answers : Answers V) (f : Function) (from to : ℕ) where
  pub none_entered : (s : AbstractState V) → is_in to (successors f from) ≡ false → entered answers f from to s ≡ None
  none_entered s absent = ap (option_map (with_phis answers f from to)) (no_pair answers f from to s absent)

  pub none_handed : (s : AbstractState V) → is_in to (successors f from) ≡ false → handed_on answers f from to s ≡ None
  none_handed s absent = ap (option_map (with_phis answers f from to)) (at (before_end answers f from s))
    where
      at : (o : Option (AbstractState V)) → and_then o (paired answers f from to) ≡ None
      at None = refl
      at (Some end) = no_pair answers f from to end absent

  pub handed_is : (s : AbstractState V) (o : Option (AbstractState V)) → o ≡ before_end answers f from s →
      option_map (with_phis answers f from to) (and_then o (paired answers f from to)) ≡ handed_on answers f from to s
  handed_is s o e = ap (λ x. option_map (with_phis answers f from to) (and_then x (paired answers f from to))) e

  -- nothing comes to the block
  pub unchanged : (next sum : Option (AbstractState V)) → next ≡ None → (join : AbstractState V → AbstractState V → AbstractState V) → sum ≡ merged join sum next
  unchanged next sum none join = sym (ap (merged join sum) none ∙ merged_none join sum)
