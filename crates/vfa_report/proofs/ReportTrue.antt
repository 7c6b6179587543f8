-- The lines of a report hold of runs, where the table is true.
use Rattle.std.proofs.Common.{◌≡◌, ◌<◌, ◌≤◌, ◌++◌, ℕ, suc, Option, Some, None, IsSomeAnd, List, [], ◌∷◌, flat_map, All, refl, ◌∙◌, ap, subst, arith, inl, inr}
use Rattle.std.specs.List.{AllByRecursion}
use Rattle.std.proofs.lemmas.Bool.{cases_lt}
use Rattle.std.proofs.lemmas.List.Elements.{All-from_recursion}
use Rattle.vfa_ir.specs.declared.operations.ValueId.{ValueId}
use Rattle.vfa_ir.specs.declared.functions.Block.{Block}
use Rattle.vfa_ir.specs.declared.functions.Function.{Function}
use Rattle.vfa_ir.specs.declared.functions.Inst.{Inst}
use Rattle.vfa_ir.specs.declared.functions.Param.{Param}
use Rattle.vfa_ir.specs.declared.functions.Phi.{Phi}
use Rattle.vfa_mean.specs.Moments.{Place, At}
use Rattle.vfa_mean.specs.Outcomes.{first_block}
use Rattle.vfa_mean.specs.Values.{Env}
use Rattle.vfa_cond.specs.States.{AbstractState}
use Rattle.vfa_cond.specs.Truth.{IsTrueState}
use Rattle.vfa_xfer.specs.AnyFacts.{HoldsOf}
use Rattle.vfa_xfer.specs.declared.any_fact.AnyFact.{AnyFact}
use Rattle.vfa_xfer.specs.Transfers.{fact_answers}
use Rattle.vfa_walk.specs.Passes.{followed}
use Rattle.vfa_walk.specs.Stepping.{insts_of, before_line}
use Rattle.vfa_walk.specs.Tables.{States, state_at, IsTrueTable}
use Rattle.vfa_walk.specs.TruthLaws.{IsTrueAtPlaces}
use Rattle.vfa_walk.proofs.TruthBlocks.{after_none}
use Rattle.vfa_walk.proofs.TruthRuns.{Through, passes, asks, enters, moment_comes, through_start, through_moment}
use Rattle.vfa_report.specs.Uses.{names_in}
use Rattle.vfa_report.specs.Report.{Known, ReportLine, known_at, parameter_lines, used_lines, phi_lines, result_lines, inst_lines, block_lines, lines_from, report_lines}
use Rattle.vfa_report.specs.ReportTruth.{KnownHolds, IsNeverMet, LineHolds}

-- ---- lists

pub all_append : {A : Type 0} (P : A → Type 0) (xs ys : List A) → AllByRecursion P xs → AllByRecursion P ys → AllByRecursion P (xs ++ ys)
all_append P [] ys all all' = all'
all_append P (x ∷ xs) ys all all' = (all.0, all_append P xs ys all.1 all')

pub all_flat : {A B : Type 0} (P : B → Type 0) (g : A → List B) (xs : List A) → ((x : A) → AllByRecursion P (g x)) → AllByRecursion P (flat_map g xs)
all_flat P g [] each = tt
all_flat P g (x ∷ xs) each = all_append P (g x) (flat_map g xs) (each x) (all_flat P g xs each)

-- ---- a run passes the places before it in its block

record PassedAt (f : Function) (b : ℕ) (entry : Env) (j : ℕ) : Type 0 where
  env : Env
  through : Through f b entry j env

passed_at : (f : Function) (b j : ℕ) (entry : Env) (k : ℕ) (env : Env) → Through f b entry k env → j ≤ k → PassedAt f b entry j
passed_at f b j entry k env (enters m) le = let same : 0 ≡ j = omega arith in record { env = entry; through = subst (λ n. Through f b entry n entry) same (enters m) }
passed_at f b j entry k env (passes block i inst old v t line op gives) le = elim (cases_lt i j) [
  | inl less ↦ let same : suc i ≡ j = omega (arith, less, le) in record { env = env; through = subst (λ n. Through f b entry n env) same (passes block i inst old v t line op gives) }
  | inr more ↦ passed_at f b j entry i old t more
]
passed_at f b j entry k env (asks block i inst old v width place call answer t line is of) le = elim (cases_lt i j) [
  | inl less ↦ let same : suc i ≡ j = omega (arith, less, le) in record { env = env; through = subst (λ n. Through f b entry n env) same (asks block i inst old v width place call answer t line is of) }
  | inr more ↦ passed_at f b j entry i old t more
]

module _ (f : Function) (t : States AnyFact) (true_entries : IsTrueTable HoldsOf f t) (true_places : IsTrueAtPlaces HoldsOf fact_answers f t) where
  abbrev Holds : ReportLine → Type 0
  Holds line = LineHolds f line

  -- ---- lines of what is known

  fact_holds : (place : Place) (s : AbstractState AnyFact) (v : ℕ) (fact : AnyFact) → state_at fact_answers f t place ≡ Some s → s.fact v ≡ Some fact →
      KnownHolds f (record { place = place; name = v; parts = fact.parts })
  fact_holds place s v fact here known env m =
      let is_true : IsTrueState HoldsOf f s env = subst (λ o. IsSomeAnd o (λ u. IsTrueState HoldsOf f u env)) here (true_places place env m) in
      is_true.facts v fact known

  known_holds : (line : Known → ReportLine) → ((k : Known) → KnownHolds f k → LineHolds f (line k)) → (place : Place) (s : AbstractState AnyFact) (v : ℕ) → state_at fact_answers f t place ≡ Some s →
      AllByRecursion Holds (known_at line place s v)
  known_holds line says place s v here = of (s.fact v) refl
    where
      of : (o : Option AnyFact) → s.fact v ≡ o → AllByRecursion Holds (elim o [ None ↦ [] | Some fact ↦ line (record { place = place; name = v; parts = fact.parts }) ∷ [] ])
      of None e = tt
      of (Some fact) e = (says (record { place = place; name = v; parts = fact.parts }) (fact_holds place s v fact here e), tt)

  entry_place : (b : ℕ) (s : AbstractState AnyFact) → t b ≡ Some s → state_at fact_answers f t (At b 0) ≡ Some s
  entry_place b s e = ap (followed (before_line fact_answers f b 0)) e ∙ after_none fact_answers f (insts_of f b) s

  -- ---- places that no run comes to

  never_after : (b i : ℕ) → state_at fact_answers f t (At b (suc i)) ≡ None → (later : ℕ) → i < later → IsNeverMet f (At b later)
  never_after b i none later less env m =
      let c = moment_comes f (At b later) env m in
      let passed = passed_at f b (suc i) c.0 later env c.2 (omega (arith, less)) in
      subst (λ o. IsSomeAnd o (λ u. IsTrueState HoldsOf f u passed.env)) none (true_places (At b (suc i)) passed.env (through_moment f b c.0 (suc i) passed.env passed.through))

  never_in : (b : ℕ) → t b ≡ None → (i : ℕ) → IsNeverMet f (At b i)
  never_in b none i env m =
      let c = moment_comes f (At b i) env m in
      subst (λ o. IsSomeAnd o (λ u. IsTrueState HoldsOf f u c.0)) none (true_entries b c.0 (through_start f b c.0 i env c.2))

  -- ---- the lines of a function

  result_holds : (b after : ℕ) (result : Option ValueId) (s : AbstractState AnyFact) → state_at fact_answers f t (At b after) ≡ Some s → AllByRecursion Holds (result_lines b after result s)
  result_holds b after None s here = tt
  result_holds b after (Some v) s here = known_holds ReportLine.defined (λ k h. h) (At b after) s v.0 here

  insts_hold : (b i : ℕ) (insts : List Inst) → AllByRecursion Holds (inst_lines f t b i insts)
  insts_hold b i [] = tt
  insts_hold b i (inst ∷ rest) = of (state_at fact_answers f t (At b (suc i))) refl (insts_hold b (suc i) rest)
    where
      of : (o : Option (AbstractState AnyFact)) → state_at fact_answers f t (At b (suc i)) ≡ o → AllByRecursion Holds (inst_lines f t b (suc i) rest) →
          AllByRecursion Holds (elim o [ None ↦ ReportLine.never_past b i ∷ [] | Some s ↦ result_lines b (suc i) inst.result s ++ inst_lines f t b (suc i) rest ])
      of None e later = (never_after b i e, tt)
      of (Some s) e later = all_append Holds (result_lines b (suc i) inst.result s) (inst_lines f t b (suc i) rest) (result_holds b (suc i) inst.result s e) later

  block_holds : (b : ℕ) (block : Block) → AllByRecursion Holds (block_lines f t b block)
  block_holds b block = of (t b) refl
    where
      of : (o : Option (AbstractState AnyFact)) → t b ≡ o →
          AllByRecursion Holds (elim o [ None ↦ ReportLine.never_reached b ∷ [] | Some s ↦ ReportLine.block b ∷ (used_lines f b block s ++ (phi_lines b block s ++ inst_lines f t b 0 block.insts)) ])
      of None e = (never_in b e, tt)
      of (Some s) e =
          let here = entry_place b s e in (
            tt,
            all_append Holds (used_lines f b block s) (phi_lines b block s ++ inst_lines f t b 0 block.insts)
                (all_flat Holds (known_at ReportLine.used (At b 0) s) (names_in f block) (λ v. known_holds ReportLine.used (λ k h. h) (At b 0) s v here))
                (all_append Holds (phi_lines b block s) (inst_lines f t b 0 block.insts)
                (all_flat Holds (λ (p : Phi). known_at ReportLine.defined (At b 0) s p.result.0) block.phis (λ p. known_holds ReportLine.defined (λ k h. h) (At b 0) s p.result.0 here))
                (insts_hold b 0 block.insts)),
          )

  blocks_hold : (b : ℕ) (blocks : List Block) → AllByRecursion Holds (lines_from f t b blocks)
  blocks_hold b [] = tt
  blocks_hold b (block ∷ rest) = all_append Holds (block_lines f t b block) (lines_from f t (suc b) rest) (block_holds b block) (blocks_hold (suc b) rest)

  parameters_hold : AllByRecursion Holds (parameter_lines f t)
  parameters_hold = of (t first_block) refl
    where
      of : (o : Option (AbstractState AnyFact)) → t first_block ≡ o → AllByRecursion Holds (elim o [ None ↦ [] | Some s ↦ flat_map (λ p. known_at ReportLine.parameter (At first_block 0) s p.value.0) f.params ])
      of None e = tt
      of (Some s) e =
          all_flat Holds (λ (p : Param). known_at ReportLine.parameter (At first_block 0) s p.value.0) f.params
          (λ p. known_holds ReportLine.parameter (λ k h. h) (At first_block 0) s p.value.0 (entry_place first_block s e))

  pub report_holds : All (LineHolds f) (report_lines f t)
  report_holds = All-from_recursion (LineHolds f) (report_lines f t) (tt, all_append Holds (parameter_lines f t) (lines_from f t 0 f.blocks) parameters_hold (blocks_hold 0 f.blocks))
