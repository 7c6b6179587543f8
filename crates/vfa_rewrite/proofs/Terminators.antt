-- The terminator of a block: what is left of it leaves by the same edge, or returns an allowed value.
use Rattle.std.proofs.Common.{◌≡◌, ℕ, suc, ◌+◌, Bool, true, false, nat_eq, if◌then◌else◌, Some, List, [], ◌∷◌, map, slice_get, refl, sym, subst, ap, ◌∙◌, inl, inr, ◌⊎◌, arith}
use Rattle.vfa_ir.specs.declared.operations.BlockId.{BlockId}
use Rattle.vfa_ir.specs.declared.operations.Operand.{Operand}
use Rattle.vfa_ir.specs.declared.functions.Term.{Term}
use Rattle.vfa_ir.specs.PhisFit.{targets}
use Rattle.vfa_mean.specs.declared.value.Val.{Val}
use Rattle.vfa_mean.specs.Values.{Env, AllowsValue, operand_value}
use Rattle.vfa_mean.specs.Outcomes.{Exit, Invalid, Return, Edge, branch_exit, case_exit, switch_exit, exit_of}
use Rattle.vfa_rewrite.specs.Rewritten.{Marks, if_left, two_ways, one_way, cases_left, but_last, last_target, many_ways, shrunk}
use Rattle.vfa_rewrite.specs.Sound.{IsKept, term_operand}

-- ---- where an edge leads

pub record LeadsTo (targets : List BlockId) (k target : ℕ) : Type 0 where
  pub to : BlockId
  pub there : slice_get targets k ≡ Some to
  pub same : to.0 ≡ target

-- the edge of a switch is the other one, or that of a case, the first of which has number k
record IsCaseEdge (k : ℕ) (cases : List (ℕ × BlockId)) (j target : ℕ) : Type 0 where
  place : ℕ
  number : j ≡ k + place
  leads : LeadsTo (map (λ c. c.1) cases) place target

abbrev edge_number : Exit → ℕ
edge_number (Edge k target) = k
edge_number (Return v) = 0
edge_number Invalid = 0

abbrev edge_target : Exit → ℕ
edge_target (Edge k target) = target
edge_target (Return v) = 0
edge_target Invalid = 0

next_case : (e : ℕ × BlockId) (cases : List (ℕ × BlockId)) (k j target : ℕ) → IsCaseEdge (suc k) cases j target → IsCaseEdge k (e ∷ cases) j target
next_case e cases k j target c = record {
  place = suc c.place;
  number = let n = c.number in omega (arith, n);
  leads = record { to = c.leads.to; there = c.leads.there; same = c.leads.same };
}

case_leads : (x other : ℕ) (cases : List (ℕ × BlockId)) (k j target : ℕ) → case_exit x other cases k ≡ Edge j target →
    (Edge 0 other ≡ Edge j target) ⊎ IsCaseEdge k cases j target
case_leads x other [] k j target h = inl h
case_leads x other (e ∷ cases) k j target h = by (nat_eq e.0 x) h (λ h. case_leads x other cases (suc k) j target h)
  where
    by : (t : Bool) → (if t then Edge k e.1.0 else case_exit x other cases (suc k)) ≡ Edge j target →
        (case_exit x other cases (suc k) ≡ Edge j target → (Edge 0 other ≡ Edge j target) ⊎ IsCaseEdge (suc k) cases j target) →
        (Edge 0 other ≡ Edge j target) ⊎ IsCaseEdge k (e ∷ cases) j target
    by true h again = inr (record { place = 0; number = let n : k ≡ j = ap edge_number h in omega (arith, n); leads = record { to = e.1; there = refl; same = ap edge_target h } })
    by false h again = elim (again h) [ inl o ↦ inl o | inr c ↦ inr (next_case e cases k j target c) ]

branch_leads : (v : Val) (taken fallen : BlockId) (k target : ℕ) → branch_exit v taken.0 fallen.0 ≡ Edge k target → LeadsTo (taken ∷ fallen ∷ []) k target
branch_leads Val.Poison taken fallen k target h = absurd (cc)
branch_leads (Val.Pair x o) taken fallen k target h = absurd (cc)
branch_leads (Val.Number c) taken fallen k target h = by (nat_eq c 0) h
  where
    by : (t : Bool) → (if t then Edge 1 fallen.0 else Edge 0 taken.0) ≡ Edge k target → LeadsTo (taken ∷ fallen ∷ []) k target
    by true h = record { to = fallen; there = ap (slice_get (taken ∷ fallen ∷ [])) (sym (ap edge_number h)); same = ap edge_target h }
    by false h = record { to = taken; there = ap (slice_get (taken ∷ fallen ∷ [])) (sym (ap edge_number h)); same = ap edge_target h }

switch_leads : (v : Val) (other : BlockId) (cases : List (ℕ × BlockId)) (k target : ℕ) → switch_exit v other.0 cases ≡ Edge k target →
    LeadsTo (other ∷ map (λ c. c.1) cases) k target
switch_leads Val.Poison other cases k target h = absurd (cc)
switch_leads (Val.Pair x o) other cases k target h = absurd (cc)
switch_leads (Val.Number x) other cases k target h = elim (case_leads x other.0 cases 1 k target h) [
  | inl o ↦ record { to = other; there = ap (slice_get (other ∷ map (λ c. c.1) cases)) (sym (ap edge_number o)); same = ap edge_target o }
  | inr c ↦ record {
    to = c.leads.to;
    there = let n : k ≡ suc c.place = let e = c.number in omega (arith, e) in ap (slice_get (other ∷ map (λ c. c.1) cases)) n ∙ c.leads.there;
    same = c.leads.same;
  }
]

-- the edge that is taken leads to the target of its number
pub edge_leads : (term : Term) (env : Env) (k target : ℕ) → exit_of term env ≡ Edge k target → LeadsTo (targets term) k target
edge_leads (Term.Ret w a) env k target h = absurd (cc)
edge_leads (Term.Br to) env k target h =
    record { to = to; there = ap (slice_get (to ∷ [])) (sym (ap edge_number h)); same = ap edge_target h }
edge_leads (Term.CondBr c taken fallen) env k target h = branch_leads (operand_value env c) taken fallen k target h
edge_leads (Term.Switch w on other cases) env k target h = switch_leads (operand_value env on) other cases k target h
edge_leads Term.Unreachable env k target h = absurd (cc)

-- ---- what is left

module _ (m : Marks) (left : ℕ → Bool) where
  -- an exit of what was read allows one of what is left
  abbrev pub AllowsExit : Exit → Exit → Type 0
  AllowsExit Invalid exit' = Unit {0}
  AllowsExit (Return v) (Return v') = AllowsValue v v'
  AllowsExit (Return v) Invalid = ⊥
  AllowsExit (Return v) (Edge k' target') = ⊥
  AllowsExit (Edge k target) (Edge k' target') = target' ≡ target
  AllowsExit (Edge k target) Invalid = ⊥
  AllowsExit (Edge k target) (Return v') = ⊥

  -- the edge that is taken is left
  abbrev pub IsLeft : Exit → Type 0
  IsLeft exit = (k target : ℕ) → exit ≡ Edge k target → left k ≡ true

  -- ---- a branch by a condition

  branch_same : (x : ℕ) (v' : Val) (taken fallen : BlockId) → Val.Number x ≡ v' →
      AllowsExit (branch_exit (Val.Number x) taken.0 fallen.0) (branch_exit v' taken.0 fallen.0)
  branch_same x v' taken fallen e = subst (λ v. AllowsExit (branch_exit (Val.Number x) taken.0 fallen.0) (branch_exit v taken.0 fallen.0)) e (by (nat_eq x 0))
    where
      by : (t : Bool) → AllowsExit (if t then Edge 1 fallen.0 else Edge 0 taken.0) (if t then Edge 1 fallen.0 else Edge 0 taken.0)
      by true = refl
      by false = refl

  -- one way is left: the other one is not taken
  only_taken : (t : Bool) (taken fallen : BlockId) → left 1 ≡ false → IsLeft (if t then Edge 1 fallen.0 else Edge 0 taken.0) →
      AllowsExit (if t then Edge 1 fallen.0 else Edge 0 taken.0) (Edge 0 taken.0)
  only_taken true taken fallen gone is = absurd (let l = is 1 fallen.0 refl in cc)
  only_taken false taken fallen gone is = refl

  only_fallen : (t : Bool) (taken fallen : BlockId) → left 0 ≡ false → IsLeft (if t then Edge 1 fallen.0 else Edge 0 taken.0) →
      AllowsExit (if t then Edge 1 fallen.0 else Edge 0 taken.0) (Edge 0 fallen.0)
  only_fallen true taken fallen gone is = refl
  only_fallen false taken fallen gone is = absurd (let l = is 0 taken.0 refl in cc)

  none_left : (t : Bool) (taken fallen : BlockId) → left 0 ≡ false → left 1 ≡ false → IsLeft (if t then Edge 1 fallen.0 else Edge 0 taken.0) →
      AllowsExit (if t then Edge 1 fallen.0 else Edge 0 taken.0) Invalid
  none_left true taken fallen gone gone' is = absurd (let l = is 1 fallen.0 refl in cc)
  none_left false taken fallen gone gone' is = absurd (let l = is 0 taken.0 refl in cc)

  branch_goes : (env' : Env) (v : Val) (c' : Operand) (taken fallen : BlockId) → IsLeft (branch_exit v taken.0 fallen.0) →
      (s t : Bool) → left 0 ≡ s → left 1 ≡ t →
      (IsKept m c' → AllowsValue v (operand_value env' c')) →
      IsKept m (term_operand (two_ways s t c' taken fallen)) →
      AllowsExit (branch_exit v taken.0 fallen.0) (exit_of (two_ways s t c' taken fallen) env')
  branch_goes env' Val.Poison c' taken fallen is s t e e' allows kept = tt
  branch_goes env' (Val.Pair x o) c' taken fallen is s t e e' allows kept = tt
  branch_goes env' (Val.Number x) c' taken fallen is true true e e' allows kept = branch_same x (operand_value env' c') taken fallen (allows kept)
  branch_goes env' (Val.Number x) c' taken fallen is true false e e' allows kept = only_taken (nat_eq x 0) taken fallen e' is
  branch_goes env' (Val.Number x) c' taken fallen is false true e e' allows kept = only_fallen (nat_eq x 0) taken fallen e is
  branch_goes env' (Val.Number x) c' taken fallen is false false e e' allows kept = none_left (nat_eq x 0) taken fallen e e' is

  -- ---- a switch

  record GoesTo (exit : Exit) (target : ℕ) : Type 0 where
    number : ℕ
    is : exit ≡ Edge number target

  -- the case of the number goes to the target, whatever the other edge and however the cases are numbered
  abbrev Finds : ℕ → List (ℕ × BlockId) → ℕ → Type 0
  Finds x cases target = (other k : ℕ) → GoesTo (case_exit x other cases k) target

  abbrev FindsNone : ℕ → List (ℕ × BlockId) → Type 0
  FindsNone x cases = (other k : ℕ) → case_exit x other cases k ≡ Edge 0 other

  -- what a switch does: it takes a case, which is left and found among those that are left, or its other edge
  data Chosen (x other : ℕ) (cases left_cases : List (ℕ × BlockId)) (k : ℕ) : Type 0 where
    by_case : (j target : ℕ) → case_exit x other cases k ≡ Edge j target → Finds x left_cases target → Chosen x other cases left_cases k
    by_other : case_exit x other cases k ≡ Edge 0 other → FindsNone x left_cases → Chosen x other cases left_cases k

  taken_case : (x : ℕ) (e : ℕ × BlockId) (rest : List (ℕ × BlockId)) (k : ℕ) (t : Bool) → t ≡ true → nat_eq e.0 x ≡ true →
      Finds x (if_left t e rest) e.1.0
  taken_case x e rest k true s h other j = record { number = j; is = ap (λ t. if t then Edge j e.1.0 else case_exit x other rest (suc j)) h }
  taken_case x e rest k false s h other j = absurd (cc)

  passed_case : (x : ℕ) (e : ℕ × BlockId) (rest : List (ℕ × BlockId)) (k : ℕ) (t : Bool) → nat_eq e.0 x ≡ false → (target : ℕ) → Finds x rest target →
      Finds x (if_left t e rest) target
  passed_case x e rest k true h target finds other j =
      let later = finds other (suc j) in
      record { number = later.number; is = ap (λ t. if t then Edge j e.1.0 else case_exit x other rest (suc j)) h ∙ later.is }
  passed_case x e rest k false h target finds other j = finds other j

  passed_none : (x : ℕ) (e : ℕ × BlockId) (rest : List (ℕ × BlockId)) (k : ℕ) (t : Bool) → nat_eq e.0 x ≡ false → FindsNone x rest →
      FindsNone x (if_left t e rest)
  passed_none x e rest k true h finds other j =
      ap (λ t. if t then Edge j e.1.0 else case_exit x other rest (suc j)) h ∙ finds other (suc j)
  passed_none x e rest k false h finds other j = finds other j

  after_passed : (x other : ℕ) (e : ℕ × BlockId) (cases : List (ℕ × BlockId)) (k : ℕ) → nat_eq e.0 x ≡ false →
      Chosen x other cases (cases_left left (suc k) cases) (suc k) → Chosen x other (e ∷ cases) (cases_left left k (e ∷ cases)) k
  after_passed x other e cases k h (by_case j target is finds) =
      by_case j target (ap (λ t. if t then Edge k e.1.0 else case_exit x other cases (suc k)) h ∙ is)
      (passed_case x e (cases_left left (suc k) cases) k (left k) h target finds)
  after_passed x other e cases k h (by_other is finds) =
      by_other (ap (λ t. if t then Edge k e.1.0 else case_exit x other cases (suc k)) h ∙ is)
      (passed_none x e (cases_left left (suc k) cases) k (left k) h finds)

  choice : (x other : ℕ) (cases : List (ℕ × BlockId)) (k : ℕ) → IsLeft (case_exit x other cases k) → Chosen x other cases (cases_left left k cases) k
  choice x other [] k is = by_other refl (λ o j. refl)
  choice x other (e ∷ cases) k is = by (nat_eq e.0 x) refl (λ h. choice x other cases (suc k) (λ j target g. is j target (ap (λ t. if t then Edge k e.1.0 else case_exit x other cases (suc k)) h ∙ g)))
    where
      by : (t : Bool) → nat_eq e.0 x ≡ t → (nat_eq e.0 x ≡ false → Chosen x other cases (cases_left left (suc k) cases) (suc k)) →
          Chosen x other (e ∷ cases) (cases_left left k (e ∷ cases)) k
      by true h again =
          let taken = ap (λ t. if t then Edge k e.1.0 else case_exit x other cases (suc k)) h in
          by_case k e.1.0 taken (taken_case x e (cases_left left (suc k) cases) k (left k) (is k e.1.0 taken) h)
      by false h again = after_passed x other e cases k h (again h)

  -- the numbers of the edges do not matter
  at_number : (t : Bool) (target j k : ℕ) (to : ℕ) (exit exit' : Exit) → (GoesTo exit target → GoesTo exit' target) →
      GoesTo (if t then Edge k to else exit) target → GoesTo (if t then Edge j to else exit') target
  at_number true target j k to exit exit' again g = record { number = j; is = ap (Edge j) (ap edge_target g.is) }
  at_number false target j k to exit exit' again g = again g

  renumbered : (x other target : ℕ) (cases : List (ℕ × BlockId)) (k j : ℕ) → GoesTo (case_exit x other cases k) target → GoesTo (case_exit x other cases j) target
  renumbered x other target [] k j g = g
  renumbered x other target (e ∷ cases) k j g =
      at_number (nat_eq e.0 x) target j k e.1.0 (case_exit x other cases (suc k)) (case_exit x other cases (suc j))
      (λ h. renumbered x other target cases (suc k) (suc j) h) g

  -- where the last case is the other edge, the cases before it find the same
  last_is_other : (x : ℕ) (e : ℕ × BlockId) (rest : List (ℕ × BlockId)) (target k : ℕ) → Finds x (e ∷ rest) target →
      GoesTo (case_exit x (last_target e rest).0 (but_last e rest) k) target
  last_is_other x e [] target k finds = by (nat_eq e.0 x) refl
    where
      by : (t : Bool) → nat_eq e.0 x ≡ t → GoesTo (Edge 0 e.1.0) target
      by true h = let g = finds 0 0 in record { number = 0; is = ap (Edge 0) (ap edge_target (sym (ap (λ t. if t then Edge 0 e.1.0 else Edge 0 0) h) ∙ g.is)) }
      by false h =
          let g = finds (suc target) 0 in
          let same : suc target ≡ target = ap edge_target (sym (ap (λ t. if t then Edge 0 e.1.0 else Edge 0 (suc target)) h) ∙ g.is) in
          absurd (omega (arith, same))
  last_is_other x e (d ∷ rest) target k finds = by (nat_eq e.0 x) refl (λ finds'. last_is_other x d rest target (suc k) finds')
    where
      by : (t : Bool) → nat_eq e.0 x ≡ t → (Finds x (d ∷ rest) target → GoesTo (case_exit x (last_target d rest).0 (but_last d rest) (suc k)) target) →
          GoesTo (case_exit x (last_target d rest).0 (e ∷ but_last d rest) k) target
      by true h again =
          let g = finds 0 k in
          let same : e.1.0 ≡ target = ap edge_target (sym (ap (λ t. if t then Edge k e.1.0 else case_exit x 0 (d ∷ rest) (suc k)) h) ∙ g.is) in
          record { number = k; is = ap (λ t. if t then Edge k e.1.0 else case_exit x (last_target d rest).0 (but_last d rest) (suc k)) h ∙ ap (Edge k) same }
      by false h again =
          let later = again (λ other j.
          let g = finds other 0 in
          renumbered x other target (d ∷ rest) (suc 0) j
          (record { number = g.number; is = sym (ap (λ t. if t then Edge 0 e.1.0 else case_exit x other (d ∷ rest) (suc 0)) h) ∙ g.is })) in
          record { number = later.number; is = ap (λ t. if t then Edge k e.1.0 else case_exit x (last_target d rest).0 (but_last d rest) (suc k)) h ∙ later.is }

  -- ---- the switch that is left

  case_allowed : (x other : ℕ) (cases : List (ℕ × BlockId)) (k : ℕ) (j target : ℕ) (exit' : Exit) → case_exit x other cases k ≡ Edge j target →
      GoesTo exit' target → AllowsExit (case_exit x other cases k) exit'
  case_allowed x other cases k j target exit' e g =
      subst (λ exit. AllowsExit exit exit') (sym e) (subst (λ exit. AllowsExit (Edge j target) exit) (sym g.is) refl)

  -- nothing is found among no cases
  found_none : {X : Type 0} (x target : ℕ) → Finds x [] target → X
  found_none x target finds =
      let g = finds (suc target) 0 in
      let same : suc target ≡ target = ap edge_target g.is in
      absurd (omega (arith, same))

  other_gone : {X : Type 0} (exit : Exit) (other : ℕ) → IsLeft exit → exit ≡ Edge 0 other → left 0 ≡ false → X
  other_gone exit other is e gone = absurd (let l = is 0 other e in cc)

  many_go : (env' : Env) (x : ℕ) (w : ℕ) (on' : Operand) (other : BlockId) (cases left_cases : List (ℕ × BlockId)) →
      IsLeft (case_exit x other.0 cases 1) → (IsKept m on' → Val.Number x ≡ operand_value env' on') →
      Chosen x other.0 cases left_cases 1 → (t : Bool) → left 0 ≡ t →
      IsKept m (term_operand (many_ways t w on' other left_cases)) →
      AllowsExit (case_exit x other.0 cases 1) (exit_of (many_ways t w on' other left_cases) env')
  many_go env' x w on' other cases [] is value (by_case j target e finds) true l kept = found_none x target finds
  many_go env' x w on' other cases [] is value (by_case j target e finds) false l kept = found_none x target finds
  many_go env' x w on' other cases [] is value (by_other e none) true l kept = subst (λ exit. AllowsExit exit (Edge 0 other.0)) (sym e) refl
  many_go env' x w on' other cases [] is value (by_other e none) false l kept = other_gone (case_exit x other.0 cases 1) other.0 is e l
  many_go env' x w on' other cases (d ∷ rest) is value (by_case j target e finds) true l kept =
      subst (λ v. AllowsExit (case_exit x other.0 cases 1) (switch_exit v other.0 (d ∷ rest))) (value kept)
      (case_allowed x other.0 cases 1 j target (case_exit x other.0 (d ∷ rest) 1) e (finds other.0 1))
  many_go env' x w on' other cases (d ∷ rest) is value (by_other e none) true l kept =
      subst (λ v. AllowsExit (case_exit x other.0 cases 1) (switch_exit v other.0 (d ∷ rest))) (value kept)
      (case_allowed x other.0 cases 1 0 other.0 (case_exit x other.0 (d ∷ rest) 1) e (record { number = 0; is = none other.0 1 }))
  many_go env' x w on' other cases (d ∷ []) is value (by_case j target e finds) false l kept =
      case_allowed x other.0 cases 1 j target (Edge 0 d.1.0) e (last_is_other x d [] target 0 finds)
  many_go env' x w on' other cases (d ∷ []) is value (by_other e none) false l kept = other_gone (case_exit x other.0 cases 1) other.0 is e l
  many_go env' x w on' other cases (d ∷ (c ∷ rest)) is value (by_case j target e finds) false l kept =
      subst (λ v. AllowsExit (case_exit x other.0 cases 1) (switch_exit v (last_target c rest).0 (d ∷ but_last c rest))) (value kept)
      (case_allowed x other.0 cases 1 j target (case_exit x (last_target c rest).0 (d ∷ but_last c rest) 1) e
      (last_is_other x d (c ∷ rest) target 1 finds))
  many_go env' x w on' other cases (d ∷ (c ∷ rest)) is value (by_other e none) false l kept = other_gone (case_exit x other.0 cases 1) other.0 is e l

  switch_goes : (env' : Env) (v : Val) (w : ℕ) (on' : Operand) (other : BlockId) (cases : List (ℕ × BlockId)) →
      IsLeft (switch_exit v other.0 cases) → (IsKept m on' → AllowsValue v (operand_value env' on')) →
      IsKept m (term_operand (many_ways (left 0) w on' other (cases_left left 1 cases))) →
      AllowsExit (switch_exit v other.0 cases) (exit_of (many_ways (left 0) w on' other (cases_left left 1 cases)) env')
  switch_goes env' Val.Poison w on' other cases is value kept = tt
  switch_goes env' (Val.Pair x o) w on' other cases is value kept = tt
  switch_goes env' (Val.Number x) w on' other cases is value kept =
      many_go env' x w on' other cases (cases_left left 1 cases) is value (choice x other.0 cases 1 is) (left 0) refl kept

  -- ---- each terminator

  always_goes : (env' : Env) (to : BlockId) (t : Bool) → t ≡ true → AllowsExit (Edge 0 to.0) (exit_of (one_way t to) env')
  always_goes env' to true e = refl
  always_goes env' to false e = absurd (cc)

  pub term_goes : (put : Operand → Operand) (term : Term) (env env' : Env) → IsLeft (exit_of term env) →
      (IsKept m (put (term_operand term)) → AllowsValue (operand_value env (term_operand term)) (operand_value env' (put (term_operand term)))) →
      IsKept m (term_operand (shrunk put left term)) → AllowsExit (exit_of term env) (exit_of (shrunk put left term) env')
  term_goes put (Term.Ret w a) env env' is value kept = value kept
  term_goes put (Term.Br to) env env' is value kept = always_goes env' to (left 0) (is 0 to.0 refl)
  term_goes put (Term.CondBr c taken fallen) env env' is value kept =
      branch_goes env' (operand_value env c) (put c) taken fallen is (left 0) (left 1) refl refl value kept
  term_goes put (Term.Switch w on other cases) env env' is value kept =
      switch_goes env' (operand_value env on) w (put on) other cases is value kept
  term_goes put Term.Unreachable env env' is value kept = tt
