-- Truth of states along edges, joins and phis.
use Rattle.std.proofs.Common.{◌≡◌, ◌<◌, ◌≤◌, ◌+◌, ◌^◌, ◌⊎◌, ℕ, zero, suc, Bool, true, false, nat_eq, if◌then◌else◌, Option, Some, None, IsSomeAnd, List, [], ◌∷◌, map, take, length, slice_get, All, refl, sym, ◌∙◌, ap, subst, arith, lit<, inl, inr, eqb-true, eq-eqb, take_all, le_refl}
use Rattle.std.specs.Option.{ForSome}
use Rattle.std.specs.List.{AllByRecursion}
use Rattle.std.proofs.lemmas.Bool.Decides.{eqb_tells}
use Rattle.std.proofs.lemmas.List.Elements.{All-head, All-tail}
use Rattle.std.proofs.lemmas.Option.{same_Some}
use Rattle.vfa_ir.specs.declared.operations.BlockId.{BlockId}
use Rattle.vfa_ir.specs.declared.operations.Op.{Op}
use Rattle.vfa_ir.specs.declared.operations.Operand.{Operand}
use Rattle.vfa_ir.specs.declared.operations.Ty.{Ty}
use Rattle.vfa_ir.specs.declared.functions.Block.{Block}
use Rattle.vfa_ir.specs.declared.functions.Function.{Function}
use Rattle.vfa_ir.specs.declared.functions.Phi.{Phi}
use Rattle.vfa_ir.specs.declared.functions.Term.{Term}
use Rattle.vfa_ir.specs.Defined.{Defined}
use Rattle.vfa_ir.specs.Printable.{IsPrintable, PrintableBlock, PrintablePhi, PrintableTerm, IsBlock}
use Rattle.vfa_ir.specs.Typed.{Typed, TypedBlock, TypedPhi, TypedTerm}
use Rattle.vfa_ir.specs.Walks.{is_in}
use Rattle.vfa_cfg.specs.declared.listing.Edge.{Edge}
use Rattle.vfa_cfg.specs.declared.listing.Way.{Way}
use Rattle.vfa_cfg.specs.Edges.{edge, case_edges, block_edges}
use Rattle.vfa_cfg.proofs.Members.{or_left, or_right}
use Rattle.vfa_mean.specs.declared.value.Val.{Val}
use Rattle.vfa_mean.specs.Values.{Env, IsValueOf, operand_value}
use Rattle.vfa_mean.specs.Moments.{At, Moment}
use Rattle.vfa_mean.specs.FreshOperands.{DefinesOnce}
use Rattle.vfa_mean.specs.Outcomes.{Edge as ToEdge, Exit, Invalid, Return, exit_of, branch_exit, switch_exit, case_exit, after_phis, entry_from, with_value}
use Rattle.vfa_values.specs.Answers.{Answers}
use Rattle.vfa_values.specs.Conditions.{IsOf, width_of}
use Rattle.vfa_values.specs.Laws.{AreTyped, AreSound}
use Rattle.vfa_cond.specs.Conditions.{name_type, HasTypedEquations, IsNumberOperand, AreFacts}
use Rattle.vfa_cond.specs.Equations.{equation}
use Rattle.vfa_cond.specs.States.{AbstractState}
use Rattle.vfa_cond.specs.Truth.{IsTrueState}
use Rattle.vfa_cond.proofs.Fitting.{and_first, and_second, none_of, some_of}
use Rattle.vfa_cond.proofs.Truthful.{Met}
use Rattle.vfa_walk.specs.Passes.{merged}
use Rattle.vfa_walk.specs.Landmarks.{landmarks}
use Rattle.vfa_walk.specs.Stepping.{redefined, told_apart, after_insts, insts_of, before_end}
use Rattle.vfa_walk.specs.Joining.{of_both, joined, widened, kept_names}
use Rattle.vfa_walk.specs.Leaving.{told_no_case, told_case, along_way, along_edge, joined_edges, edges_out, paired, phi_fact, assigned, phis_of, with_phis, left_to, handed_on}
use Rattle.vfa_walk.proofs.TruthBlocks.{mapped_met, then_met, through_met}
use Rattle.vfa_walk.proofs.TruthEquations.{phi_has_no_equation}
use Rattle.vfa_walk.proofs.TruthFacts.{all_from_gets, joined_typed, landmarks_of, edge_typed, phis_typed, equations as typed_equations_of}
use Rattle.vfa_walk.proofs.TruthKept.{merged_is, choice_is}
use Rattle.vfa_walk.proofs.TruthLines.{bit_is_one}
use Rattle.vfa_walk.proofs.TruthPasses.{merged_first, merged_second}
use Rattle.vfa_walk.proofs.TruthRuns.{Through, Leaves, Passes, through_moment}
use Rattle.vfa_walk.proofs.TruthStates.{redefined_true, operand_holds, told_equal_met, told_apart_met}
use Rattle.vfa_walk.proofs.TruthTypes.{each_of, number_operand, bit_operand}
use Rattle.vfa_walk.proofs.TruthValues.{AreTypedValues, values_are_typed, operand_is_typed, phi_operand}

-- ---- the edge that a run takes

abbrev number_of : Exit → ℕ
number_of Invalid = 0
number_of (Return v) = 0
number_of (ToEdge k target) = k

abbrev target_of : Exit → ℕ
target_of Invalid = 0
target_of (Return v) = 0
target_of (ToEdge k target) = target

-- an edge of the block that goes to the target, by its number
pub record IsEdgeTo (from : ℕ) (term : Term) (k target : ℕ) (e : Edge) : Type 0 where
  pub stands : slice_get (block_edges from term) k ≡ Some e
  pub from_is : e.from.0 ≡ from
  pub to_is : e.to.0 ≡ target

case_edge_at : (from m : ℕ) (cases : List (ℕ × BlockId)) (j : ℕ) (c : ℕ × BlockId) → slice_get cases j ≡ Some c → slice_get (case_edges from m cases) j ≡ Some (edge from c.1 (Way.Case (m + j)))
case_edge_at from m [] j c e = absurd cc
case_edge_at from m (d ∷ rest) zero c e =
    let same : d ≡ c = same_Some d c e in
    let none : m ≡ m + 0 = omega arith in
    ap (λ (x : ℕ × BlockId). Some (edge from x.1 (Way.Case m))) same ∙ ap (λ n. Some (edge from c.1 (Way.Case n))) none
case_edge_at from m (d ∷ rest) (suc j) c e =
    let next : m + 1 + j ≡ m + suc j = omega arith in
    case_edge_at from (m + 1) rest j c e ∙ ap (λ n. Some (edge from c.1 (Way.Case n))) next

-- a case that the number is
record TakesCase (x : ℕ) (cases : List (ℕ × BlockId)) (first k target : ℕ) : Type 0 where
  j : ℕ
  case : ℕ × BlockId
  stands : slice_get cases j ≡ Some case
  is : case.0 ≡ x
  number_is : k ≡ first + j
  target_is : target ≡ case.1.0

-- or none of them
record TakesNone (x other : ℕ) (cases : List (ℕ × BlockId)) (k target : ℕ) : Type 0 where
  apart : AllByRecursion (λ c. nat_eq x c.0 ≡ false) cases
  number_is : k ≡ 0
  target_is : target ≡ other

pub turned : (a b : ℕ) (t : Bool) → nat_eq a b ≡ t → nat_eq b a ≡ t
turned a b true e = eq-eqb b a (sym (eqb-true a b e))
turned a b false e = elim (eqb_tells b a) [
  | inl same ↦ let yes : nat_eq a b ≡ true = eq-eqb a b (sym same.1) in absurd cc
  | inr other ↦ other.0
]

taken_case : (x other : ℕ) (cases : List (ℕ × BlockId)) (first k target : ℕ) → case_exit x other cases first ≡ ToEdge k target → TakesCase x cases first k target ⊎ TakesNone x other cases k target
taken_case x other [] first k target e = inr (record { apart = tt; number_is = sym (ap number_of e); target_is = sym (ap target_of e) })
taken_case x other (c ∷ rest) first k target e = by (nat_eq c.0 x) refl e (taken_case x other rest (suc first) k target)
  where
    by : (same : Bool) → nat_eq c.0 x ≡ same → (if same then ToEdge first c.1.0 else case_exit x other rest (suc first)) ≡ ToEdge k target →
        (case_exit x other rest (suc first) ≡ ToEdge k target → TakesCase x rest (suc first) k target ⊎ TakesNone x other rest k target) → TakesCase x (c ∷ rest) first k target ⊎ TakesNone x other (c ∷ rest) k target
    by true is e later = inl (record {
      j = 0;
      case = c;
      stands = refl;
      is = eqb-true c.0 x is;
      number_is = let n : first ≡ k = ap number_of e in omega arith;
      target_is = sym (ap target_of e);
    })
    by false is e later = elim (later e) [
      | inl t ↦ inl (record { j = suc t.j; case = t.case; stands = t.stands; is = t.is; number_is = let n = t.number_is in omega (arith, n); target_is = t.target_is })
      | inr t ↦ inr (record { apart = (turned c.0 x false is, t.apart); number_is = t.number_is; target_is = t.target_is })
    ]

module _ {V : Type 0} (holds : V → Val → Type 0) (ty : V → Ty) (proper : V → Type 0) (answers : Answers V)
    (types : AreTyped (IsOf ty proper) answers) (sound : AreSound holds (IsOf ty proper) answers) (f : Function) where
  -- ---- joins and widenings

  both_first : (v : Val) (t : Ty) (cover : V → V → V) (o o' : Option V) → ((a b : V) → IsOf ty proper t a → IsOf ty proper t b → holds a v → holds (cover a b) v) →
      ForSome o (IsOf ty proper t) → ForSome o' (IsOf ty proper t) → ForSome o (λ d. holds d v) → ForSome (of_both cover o o') (λ d. holds d v)
  both_first v t cover None o' keeps of of' at = none_of (λ d. holds d v)
  both_first v t cover (Some a) None keeps of of' at = none_of (λ d. holds d v)
  both_first v t cover (Some a) (Some b) keeps of of' at = some_of (λ d. holds d v) (cover a b) (keeps a b (of a refl) (of' b refl) (at a refl))

  both_second : (v : Val) (t : Ty) (cover : V → V → V) (o o' : Option V) → ((a b : V) → IsOf ty proper t a → IsOf ty proper t b → holds b v → holds (cover a b) v) →
      ForSome o (IsOf ty proper t) → ForSome o' (IsOf ty proper t) → ForSome o' (λ d. holds d v) → ForSome (of_both cover o o') (λ d. holds d v)
  both_second v t cover None o' keeps of of' at = none_of (λ d. holds d v)
  both_second v t cover (Some a) None keeps of of' at = none_of (λ d. holds d v)
  both_second v t cover (Some a) (Some b) keeps of of' at = some_of (λ d. holds d v) (cover a b) (keeps a b (of a refl) (of' b refl) (at b refl))

  pub joined_first : (s s' : AbstractState V) (env : Env) → AreFacts ty proper f s → AreFacts ty proper f s' → IsTrueState holds f s env → IsTrueState holds f (joined answers s s') env
  joined_first s s' env facts facts' is_true = record {
    facts = λ v. both_first (env v) (name_type f v) answers.join (s.fact v) (s'.fact v) (λ a b of of' at. sound.join_first (name_type f v) a b (env v) of of' at) (facts v) (facts' v) (is_true.facts v);
    equations = λ v live. is_true.equations v (and_first (s.live v) (s'.live v) live);
  }

  pub joined_second : (s s' : AbstractState V) (env : Env) → AreFacts ty proper f s → AreFacts ty proper f s' → IsTrueState holds f s' env → IsTrueState holds f (joined answers s s') env
  joined_second s s' env facts facts' is_true = record {
    facts = λ v. both_second (env v) (name_type f v) answers.join (s.fact v) (s'.fact v) (λ a b of of' at. sound.join_second (name_type f v) a b (env v) of of' at) (facts v) (facts' v) (is_true.facts v);
    equations = λ v live. is_true.equations v (and_second (s.live v) (s'.live v) live);
  }

  pub widened_old : (round : ℕ) (s s' : AbstractState V) (env : Env) → 1 ≤ round → AreFacts ty proper f s → AreFacts ty proper f s' → IsTrueState holds f s env → IsTrueState holds f (widened answers f round s s') env
  widened_old round s s' env one facts facts' is_true = record {
    facts = λ v. both_first (env v) (name_type f v) (λ old new. answers.widen old new round (landmarks f (width_of (name_type f v)))) (s.fact v) (s'.fact v)
        (λ a b of of' at. sound.widen_old (name_type f v) a b round (landmarks f (width_of (name_type f v))) (env v) of of' one (landmarks_of ty proper answers types f (name_type f v) a of) at) (facts v) (facts' v) (is_true.facts v);
    equations = λ v live. is_true.equations v (and_first (s.live v) (s'.live v) live);
  }

  pub widened_new : (round : ℕ) (s s' : AbstractState V) (env : Env) → 1 ≤ round → AreFacts ty proper f s → AreFacts ty proper f s' → IsTrueState holds f s' env → IsTrueState holds f (widened answers f round s s') env
  widened_new round s s' env one facts facts' is_true = record {
    facts = λ v. both_second (env v) (name_type f v) (λ old new. answers.widen old new round (landmarks f (width_of (name_type f v)))) (s.fact v) (s'.fact v)
        (λ a b of of' at. sound.widen_new (name_type f v) a b round (landmarks f (width_of (name_type f v))) (env v) of of' one (landmarks_of ty proper answers types f (name_type f v) a of) at) (facts v) (facts' v) (is_true.facts v);
    equations = λ v live. is_true.equations v (and_second (s.live v) (s'.live v) live);
  }

  pub cut_true : (names : ℕ → Bool) (s : AbstractState V) (env : Env) → IsTrueState holds f s env → IsTrueState holds f (kept_names names s) env
  cut_true names s env is_true = record {
    facts = λ v. choice_is (λ o. ForSome o (λ d. holds d (env v))) (names v) (s.fact v) None (is_true.facts v) (none_of (λ d. holds d (env v)));
    equations = λ v live. is_true.equations v (and_second (names v) (s.live v) live);
  }

  -- ---- edges

  module _ (env : Env) (equations : HasTypedEquations f) where
    abbrev IsMet : AbstractState V → Type 0
    IsMet s = Met holds ty proper answers types sound f env s

    no_case_met : (on : Operand) (w x : ℕ) (cases : List (ℕ × BlockId)) (s : AbstractState V) → IsNumberOperand f w on → All (λ c. (c.0 < 2 ^ w) × IsBlock f c.1) cases → operand_value env on ≡ Val.Number x →
        AllByRecursion (λ c. nat_eq x c.0 ≡ false) cases → IsMet s → IsSomeAnd (told_no_case answers f on w cases s) IsMet
    no_case_met on w x [] s of below is apart met = met
    no_case_met on w x (c ∷ rest) s of below is apart met =
        then_met IsMet IsMet (told_apart answers f on w c.0 s) (told_no_case answers f on w rest)
        (λ t met'. no_case_met on w x rest t of (All-tail (λ c. (c.0 < 2 ^ w) × IsBlock f c.1) c rest below) is apart.1 met')
        (told_apart_met holds ty proper answers types sound f env equations on w c.0 s of (All-head (λ c. (c.0 < 2 ^ w) × IsBlock f c.1) c rest below).0 met (record { number = x; is = is; other = apart.0 }))

    case_met : (on : Operand) (w x j : ℕ) (cases : List (ℕ × BlockId)) (c : ℕ × BlockId) (s : AbstractState V) → IsNumberOperand f w on → All (λ c. (c.0 < 2 ^ w) × IsBlock f c.1) cases → operand_value env on ≡ Val.Number x →
        slice_get cases j ≡ Some c → c.0 ≡ x → IsMet s → IsSomeAnd (told_case answers f on w (slice_get cases j) s) IsMet
    case_met on w x j cases c s of below is stands same met =
        subst (λ o. IsSomeAnd (told_case answers f on w o s) IsMet) (sym stands)
        (told_equal_met holds ty proper answers types sound f env equations on w c.0 s of (each_of (λ (c : ℕ × BlockId). (c.0 < 2 ^ w) × IsBlock f c.1) cases j c below stands).0 met (is ∙ ap Val.Number (sym same)))

    -- The edge that a run takes: it has the number that the exit has, goes where the exit goes, and what it tells is true.
    pub record TakesEdge (from : ℕ) (term : Term) (k target : ℕ) (s : AbstractState V) : Type 0 where
      pub taken : Edge
      pub is : IsEdgeTo from term k target taken
      pub met : IsSomeAnd (along_way answers f term taken.way s) IsMet

    branch_takes : (from : ℕ) (c : Operand) (taken fallen : BlockId) (k target : ℕ) (s : AbstractState V) (v : Val) → IsNumberOperand f 1 c → IsValueOf (Ty.Int 1) v → operand_value env c ≡ v →
        branch_exit v taken.0 fallen.0 ≡ ToEdge k target → IsMet s → TakesEdge from (Term.CondBr c taken fallen) k target s
    branch_takes from c taken fallen k target s (Val.Number n) of fits is exit met = by (nat_eq n 0) refl exit
      where
        by : (zero_is : Bool) → nat_eq n 0 ≡ zero_is → (if zero_is then ToEdge 1 fallen.0 else ToEdge 0 taken.0) ≡ ToEdge k target → TakesEdge from (Term.CondBr c taken fallen) k target s
        by true e exit = record {
          taken = edge from fallen Way.No;
          is = record { stands = ap (λ n. slice_get (edge from taken Way.Yes ∷ edge from fallen Way.No ∷ []) n) (sym (ap number_of exit)); from_is = refl; to_is = ap target_of exit };
          met = told_equal_met holds ty proper answers types sound f env equations c 1 0 s of (lit< tt) met (is ∙ ap Val.Number (eqb-true n 0 e));
        }
        by false e exit = record {
          taken = edge from taken Way.Yes;
          is = record { stands = ap (λ n. slice_get (edge from taken Way.Yes ∷ edge from fallen Way.No ∷ []) n) (sym (ap number_of exit)); from_is = refl; to_is = ap target_of exit };
          met = told_equal_met holds ty proper answers types sound f env equations c 1 1 s of (lit< tt) met (is ∙ ap Val.Number (bit_is_one n fits e));
        }
    branch_takes from c taken fallen k target s Val.Poison of fits is exit met = absurd cc
    branch_takes from c taken fallen k target s (Val.Pair x o) of fits is exit met = absurd cc

    switch_takes : (from w : ℕ) (on : Operand) (other : BlockId) (cases : List (ℕ × BlockId)) (k target : ℕ) (s : AbstractState V) (v : Val) → IsNumberOperand f w on →
        All (λ c. (c.0 < 2 ^ w) × IsBlock f c.1) cases → operand_value env on ≡ v → switch_exit v other.0 cases ≡ ToEdge k target → IsMet s → TakesEdge from (Term.Switch w on other cases) k target s
    switch_takes from w on other cases k target s (Val.Number x) of below is exit met = elim (taken_case x other.0 cases 1 k target exit) [
      | inl t ↦ record {
        taken = edge from t.case.1 (Way.Case (0 + t.j));
        is = record {
          stands =
              let number : k ≡ suc t.j = let n = t.number_is in omega (arith, n) in
              ap (slice_get (block_edges from (Term.Switch w on other cases))) number ∙ case_edge_at from 0 cases t.j t.case t.stands;
          from_is = refl;
          to_is = sym t.target_is;
        };
        met =
            let none : t.j ≡ 0 + t.j = omega arith in
            subst (λ j. IsSomeAnd (told_case answers f on w (slice_get cases j) s) IsMet) none (case_met on w x t.j cases t.case s of below is t.stands t.is met);
      }
      | inr t ↦ record {
        taken = edge from other Way.Other;
        is = record { stands = ap (slice_get (block_edges from (Term.Switch w on other cases))) t.number_is; from_is = refl; to_is = sym t.target_is };
        met = no_case_met on w x cases s of below is t.apart met;
      }
    ]
    switch_takes from w on other cases k target s Val.Poison of below is exit met = absurd cc
    switch_takes from w on other cases k target s (Val.Pair x o) of below is exit met = absurd cc

    pub takes_edge : (from : ℕ) (term : Term) (k target : ℕ) (s : AbstractState V) → PrintableTerm f term → TypedTerm f term → AreTypedValues f env → exit_of term env ≡ ToEdge k target → IsMet s →
        TakesEdge from term k target s
    takes_edge from (Term.Ret w a) k target s printable typed values exit met = absurd cc
    takes_edge from (Term.Br to) k target s printable typed values exit met = record {
      taken = edge from to Way.Always;
      is = record { stands = ap (slice_get (edge from to Way.Always ∷ [])) (sym (ap number_of exit)); from_is = refl; to_is = ap target_of exit };
      met = met;
    }
    takes_edge from (Term.CondBr c taken fallen) k target s printable typed values exit met =
        let of = bit_operand f c printable.0 typed in
        branch_takes from c taken fallen k target s (operand_value env c) of (operand_is_typed f env 1 c values of) refl exit met
    takes_edge from (Term.Switch w on other cases) k target s printable typed values exit met =
        switch_takes from w on other cases k target s (operand_value env on) (number_operand f w on printable.0 printable.1 typed.0) printable.3 refl exit met
    takes_edge from Term.Unreachable k target s printable typed values exit met = absurd cc

  -- ---- all edges to a block

  module _ (printable : IsPrintable f) (typed : Typed f) (env : Env) where
    abbrev IsMetNow : AbstractState V → Type 0
    IsMetNow s = Met holds ty proper answers types sound f env s

    abbrev Facts : AbstractState V → Type 0
    Facts s = AreFacts ty proper f s

    join_first_met : (s s' : AbstractState V) → Facts s → Facts s' → IsMetNow s → IsMetNow (joined answers s s')
    join_first_met s s' facts facts' met = record { truth = joined_first s s' env facts facts' met.truth; facts = joined_typed ty proper answers types f s s' facts facts' }

    join_second_met : (s s' : AbstractState V) → Facts s → Facts s' → IsMetNow s' → IsMetNow (joined answers s s')
    join_second_met s s' facts facts' met = record { truth = joined_second s s' env facts facts' met.truth; facts = joined_typed ty proper answers types f s s' facts facts' }

    sum_typed : (to : ℕ) (s : AbstractState V) (e : Edge) (sum : Option (AbstractState V)) → Facts s → ForSome sum Facts →
        ForSome (if nat_eq e.to.0 to then merged (joined answers) sum (along_edge answers f e s) else sum) Facts
    sum_typed to s e sum facts good =
        choice_is (λ o. ForSome o Facts) (nat_eq e.to.0 to) (merged (joined answers) sum (along_edge answers f e s)) sum
        (merged_is Facts (joined answers) sum (along_edge answers f e s) (joined_typed ty proper answers types f) good (edge_typed ty proper answers types f printable typed e s facts)) good

    -- what is true of the edges so far stays
    sum_stays : (to : ℕ) (s : AbstractState V) (edges : List Edge) (sum : Option (AbstractState V)) → Facts s → ForSome sum Facts → IsSomeAnd sum IsMetNow → IsSomeAnd (joined_edges answers f to s edges sum) IsMetNow
    sum_stays to s [] sum facts good met = met
    sum_stays to s (e ∷ rest) sum facts good met =
        sum_stays to s rest (if nat_eq e.to.0 to then merged (joined answers) sum (along_edge answers f e s) else sum) facts (sum_typed to s e sum facts good)
        (choice_is (λ o. IsSomeAnd o IsMetNow) (nat_eq e.to.0 to) (merged (joined answers) sum (along_edge answers f e s)) sum
        (merged_first Facts IsMetNow (joined answers) sum (along_edge answers f e s) join_first_met good (edge_typed ty proper answers types f printable typed e s facts) met) met)

    edges_met : (to : ℕ) (s : AbstractState V) (edges : List Edge) (sum : Option (AbstractState V)) (k : ℕ) (e : Edge) → Facts s → ForSome sum Facts → slice_get edges k ≡ Some e → e.to.0 ≡ to →
        IsSomeAnd (along_edge answers f e s) IsMetNow → IsSomeAnd (joined_edges answers f to s edges sum) IsMetNow
    edges_met to s [] sum k e facts good stands goes met = absurd cc
    edges_met to s (d ∷ rest) sum zero e facts good stands goes met =
        let same : d ≡ e = same_Some d e stands in
        let here : nat_eq d.to.0 to ≡ true = eq-eqb d.to.0 to (ap (λ (x : Edge). x.to.0) same ∙ goes) in
        sum_stays to s rest (if nat_eq d.to.0 to then merged (joined answers) sum (along_edge answers f d s) else sum) facts (sum_typed to s d sum facts good)
        (subst (λ b. IsSomeAnd (if b then merged (joined answers) sum (along_edge answers f d s) else sum) IsMetNow) (sym here)
        (merged_second Facts IsMetNow (joined answers) sum (along_edge answers f d s) join_second_met good (edge_typed ty proper answers types f printable typed d s facts)
        (subst (λ (x : Edge). IsSomeAnd (along_edge answers f x s) IsMetNow) (sym same) met)))
    edges_met to s (d ∷ rest) sum (suc k) e facts good stands goes met =
        edges_met to s rest (if nat_eq d.to.0 to then merged (joined answers) sum (along_edge answers f d s) else sum) k e facts (sum_typed to s d sum facts good) stands goes met

    edge_is : (from : ℕ) (block : Block) (e : Edge) (s : AbstractState V) → slice_get f.blocks from ≡ Some block → e.from.0 ≡ from → along_edge answers f e s ≡ along_way answers f block.term e.way s
    edge_is from block e s there is =
        ap (λ o. elim o [ None ↦ Some s | Some block ↦ along_way answers f block.term e.way s ]) (ap (slice_get f.blocks) is ∙ there)

    edges_are : (from : ℕ) (block : Block) → slice_get f.blocks from ≡ Some block → edges_out f from ≡ block_edges from block.term
    edges_are from block there = ap (λ o. elim o [ None ↦ [] | Some block ↦ block_edges from block.term ]) there

    -- At the end of a block: the edge that the run takes, with what it tells
    pub record TakesEdgeOf (from k target : ℕ) (s : AbstractState V) : Type 0 where
      pub taken : Edge
      pub stands : slice_get (edges_out f from) k ≡ Some taken
      pub to_is : taken.to.0 ≡ target
      pub met : IsSomeAnd (along_edge answers f taken s) IsMetNow

    pub takes_edge_of : (from : ℕ) (block : Block) (k target : ℕ) (s : AbstractState V) → slice_get f.blocks from ≡ Some block → Moment f (At from (length block.insts)) env →
        exit_of block.term env ≡ ToEdge k target → IsMetNow s → TakesEdgeOf from k target s
    takes_edge_of from block k target s there m exit met =
        let values : AreTypedValues f env = values_are_typed f printable typed (At from (length block.insts)) env m in
        let t = takes_edge env (typed_equations_of ty proper answers types f printable typed) from block.term k target s (each_of (PrintableBlock f) f.blocks from block printable.blocks there).term
        (each_of (TypedBlock f) f.blocks from block typed there).terminator values exit met in
        record {
          taken = t.taken;
          stands = ap (λ es. slice_get es k) (edges_are from block there) ∙ t.is.stands;
          to_is = t.is.to_is;
          met = subst (λ o. IsSomeAnd o IsMetNow) (sym (edge_is from block t.taken s there t.is.from_is)) t.met;
        }

    pub paired_met : (from : ℕ) (block : Block) (k target : ℕ) (s : AbstractState V) → slice_get f.blocks from ≡ Some block → Moment f (At from (length block.insts)) env →
        exit_of block.term env ≡ ToEdge k target → IsMetNow s → IsSomeAnd (paired answers f from target s) IsMetNow
    paired_met from block k target s there m exit met =
        let t = takes_edge_of from block k target s there m exit met in
        edges_met target s (edges_out f from) None k t.taken met.facts (none_of Facts) t.stands t.to_is t.met

  -- ---- phis

  module _ (once : DefinesOnce f) (printable : IsPrintable f) (typed : Typed f) where
    phi_is_in : (phis : List Phi) (i : ℕ) (p : Phi) → slice_get phis i ≡ Some p → is_in p.result.0 (map (λ (p : Phi). p.result.0) phis) ≡ true
    phi_is_in [] i p e = absurd cc
    phi_is_in (q ∷ rest) zero p e = or_left (nat_eq p.result.0 q.result.0) (is_in p.result.0 (map (λ (p : Phi). p.result.0) rest)) (eq-eqb p.result.0 q.result.0 (ap (λ (x : Phi). x.result.0) (sym (same_Some q p e))))
    phi_is_in (q ∷ rest) (suc i) p e = or_right (nat_eq p.result.0 q.result.0) (is_in p.result.0 (map (λ (p : Phi). p.result.0) rest)) (phi_is_in rest i p e)

    abbrev HasNoEquation : Phi → Type 0
    HasNoEquation p = (op : Op) → equation f p.result.0 ≡ Some op → ⊥

    no_equations : (b : ℕ) (block : Block) → slice_get f.blocks b ≡ Some block → AllByRecursion HasNoEquation block.phis
    no_equations b block there = all_from_gets HasNoEquation block.phis (λ i p e op is. phi_has_no_equation f once b block p.result.0 op there (phi_is_in block.phis i p e) is)

    assigned_true : (from : ℕ) (before : AbstractState V) (env : Env) (phis : List Phi) (s : AbstractState V) (now : Env) → All (PrintablePhi f) phis → All (TypedPhi f) phis → AllByRecursion HasNoEquation phis →
        AreTypedValues f env → AreFacts ty proper f before → IsTrueState holds f before env → IsTrueState holds f s now → IsTrueState holds f (assigned answers f from before phis s) (after_phis (Some from) phis env now)
    assigned_true from before env [] s now printable typed none values facts is_true here = here
    assigned_true from before env (p ∷ rest) s now printable typed none values facts is_true here =
        assigned_true from before env rest (redefined f p.result.0 (phi_fact answers from before p) s) (with_value now p.result.0 (operand_value env (entry_from from p.entries)))
        (All-tail (PrintablePhi f) p rest printable) (All-tail (TypedPhi f) p rest typed) none.1 values facts is_true
        (redefined_true holds ty proper answers types sound f now s p.result.0 (phi_fact answers from before p) (operand_value env (entry_from from p.entries)) none.0 here
        (operand_holds holds ty proper answers types sound f env before values facts is_true p.width (entry_from from p.entries) (phi_operand f from p (All-head (PrintablePhi f) p rest printable) (All-head (TypedPhi f) p rest typed))))

    pub phis_met : (from b : ℕ) (block : Block) (env : Env) (s : AbstractState V) → slice_get f.blocks b ≡ Some block → AreTypedValues f env → Met holds ty proper answers types sound f env s →
        Met holds ty proper answers types sound f (after_phis (Some from) block.phis env env) (with_phis answers f from b s)
    phis_met from b block env s there values met = record {
      truth =
          let phis : phis_of f b ≡ block.phis = ap (λ o. elim o [ None ↦ [] | Some block ↦ block.phis ]) there in
          subst (λ ps. IsTrueState holds f (assigned answers f from s ps s) (after_phis (Some from) block.phis env env)) (sym phis)
          (assigned_true from s env block.phis s env (each_of (PrintableBlock f) f.blocks b block printable.blocks there).phis (each_of (TypedBlock f) f.blocks b block typed there).phis (no_equations b block there)
          values met.facts met.truth met.truth);
      facts = phis_typed ty proper answers types f printable typed from b s met.facts;
    }

    -- ---- from block to block

    module _ (defined : Defined f) where
      pub end_met : (b : ℕ) (block : Block) (entry : Env) (s : AbstractState V) (env : Env) → slice_get f.blocks b ≡ Some block → Met holds ty proper answers types sound f entry s → Through f b entry (length block.insts) env →
          IsSomeAnd (before_end answers f b s) (Met holds ty proper answers types sound f env)
      end_met b block entry s env there met t =
          let insts : insts_of f b ≡ block.insts = ap (λ o. elim o [ None ↦ [] | Some block ↦ block.insts ]) there in
          let whole : take (length block.insts) block.insts ≡ block.insts = take_all (length block.insts) block.insts (le_refl (length block.insts)) in
          subst (λ l. IsSomeAnd (after_insts answers f l s) (Met holds ty proper answers types sound f env)) (whole ∙ sym insts)
          (through_met holds ty proper answers types sound f once defined printable typed b block entry s there met (length block.insts) env t)

      pub left_met : (p : ℕ) (entry : Env) (b : ℕ) (env : Env) (s : AbstractState V) → Met holds ty proper answers types sound f entry s → Leaves f p entry b env →
          IsSomeAnd (left_to answers f p b s) (Met holds ty proper answers types sound f env)
      left_met p entry b env s met run =
          then_met (Met holds ty proper answers types sound f env) (Met holds ty proper answers types sound f env) (before_end answers f p s) (paired answers f p b)
          (λ t met'. paired_met printable typed env p run.block run.edge b t run.there (through_moment f p entry (length run.block.insts) env run.through) run.exit met')
          (end_met p run.block entry s env run.there met run.through)

      pub passes_met : (p : ℕ) (entry : Env) (b : ℕ) (next : Env) (s : AbstractState V) → Met holds ty proper answers types sound f entry s → Passes f p entry b next →
          IsSomeAnd (handed_on answers f p b s) (Met holds ty proper answers types sound f next)
      passes_met p entry b next s met run =
          let values : AreTypedValues f run.end = values_are_typed f printable typed (At p (length run.leaves.block.insts)) run.end (through_moment f p entry (length run.leaves.block.insts) run.end run.leaves.through) in
          subst (λ e. IsSomeAnd (handed_on answers f p b s) (Met holds ty proper answers types sound f e)) (sym run.phis)
          (mapped_met (Met holds ty proper answers types sound f run.end) (Met holds ty proper answers types sound f (after_phis (Some p) run.block.phis run.end run.end)) (with_phis answers f p b) (left_to answers f p b s)
          (λ t met'. phis_met p b run.block run.end t run.there values met') (left_met p entry b run.end s met run.leaves))
