use Rattle.std.proofs.Common.{◌≡◌, ◌∙◌, ℕ, None, sym, ap, subst}
use Rattle.std.specs.Prelude.{slice_index_or}
use Rattle.std.proofs.lemmas.Result.{IfOk-weaker}
use Rattle.vfa_ir.specs.declared.functions.Function.{Function}
use Rattle.vfa_mean.specs.Kept.{is_marked}
use Rattle.vfa_walk.specs.Kept.{AreStates, kept_entries}
use Rattle.vfa_xfer.specs.AnyFacts.{fact_type, IsAnyFact}
use Rattle.vfa_rewrite.specs.ByFacts.{findings_of}
use Rattle.vfa_rewrite.specs.Chains.{other_for}
use Rattle.vfa_rewrite.specs.Found.{AreKeptOf}
use Rattle.vfa_rewrite.specs.Making.{first_marks}
use Rattle.vfa_rewrite.specs.Rewritten.{rewritten}
use Rattle.vfa_rewrite.proofs.BlocksPut.{facts_of_type, ready_to_put}
use Rattle.vfa_rewrite.proofs.putting.put_in.Goals as goal

pub put_all-requires-clause-states : goal.put_all-requires-clause-states
put_all-requires-clause-states c = subst (λ g. AreStates fact_type IsAnyFact g c.args.table.now) (sym c.ready.ensures.same) c.requires.states

pub put_all-requires-clause-kept : goal.put_all-requires-clause-kept
put_all-requires-clause-kept c = subst (λ (g : Function). AreKeptOf g (findings_of g (kept_entries c.args.table.now)) c.args.kept.now) (sym c.ready.ensures.same) c.requires.kept

pub put_all-requires-clause-ready : goal.put_all-requires-clause-ready
put_all-requires-clause-ready c =
    let g = c.ready.result.now in
    let t = kept_entries c.args.table.now in
    let printable = c.fit_is_printable.ensures g c.ready.ensures.checked.fit in
    let states = subst (λ h. AreStates fact_type IsAnyFact h c.args.table.now) (sym c.ready.ensures.same) c.requires.states in
    let fits = c.findings_fit.ensures g t c.ready.ensures.checked printable (facts_of_type g c.args.table.now states) in
    ready_to_put g t c.args.others.now c.ready.ensures.checked printable c.ready.ensures.ready fits
    (subst (λ (h : Function). (n : ℕ) → slice_index_or c.args.others.now n None ≡ other_for h (findings_of h t) n) (sym c.ready.ensures.same) c.requires.others)

pub returns : goal.returns
returns c =
    let t = kept_entries c.args.table.now in
    let result = λ (f : Function). rewritten f (first_marks f (findings_of f t) (is_marked c.args.reached.now)) in
    IfOk-weaker c.put_all.result (λ (h : Function). h ≡ result c.ready.result.now) (λ (h : Function). h ≡ result c.args.checked.now) (λ h e. e ∙ ap result c.ready.ensures.same) c.put_all.ensures
