use Rattle.std.proofs.Common.{◌≡◌, ◌∙◌, None, ap}
use Rattle.std.specs.Prelude.{slice_index_or}
use Rattle.std.proofs.lemmas.Result.{IfOk-weaker}
use Rattle.vfa_ir.specs.declared.functions.Function.{Function}
use Rattle.vfa_mean.specs.Kept.{is_marked}
use Rattle.vfa_walk.specs.Kept.{kept_entries}
use Rattle.vfa_rewrite.specs.ByFacts.{findings_of}
use Rattle.vfa_rewrite.specs.Making.{first_marks}
use Rattle.vfa_rewrite.specs.Putting.{with_body}
use Rattle.vfa_rewrite.specs.Rewritten.{rewritten}
use Rattle.vfa_rewrite.proofs.BlocksPut.{body_is}
use Rattle.vfa_rewrite.proofs.CallsPut.{calls_are_left}
use Rattle.vfa_rewrite.proofs.putting.put_all.Goals as goal

pub returns : goal.returns
returns c =
    let f = c.args.f.now in
    let found = findings_of f (kept_entries c.args.table.now) in
    let reached = is_marked c.args.reached.now in
    let calls = c.in_ok-calls-2.ensures
    ∙ calls_are_left f found reached c.as_slice-2.result.now (λ k. ap (λ l. slice_index_or l k None) c.as_slice-2.ensures.value ∙ c.in_ok-blocks.ensures.calls k) in
    IfOk-weaker c.with_body.result (λ (h : Function). h ≡ with_body f c.in_ok-blocks.blocks c.in_ok-calls-2.calls) (λ (h : Function). h ≡ rewritten f (first_marks f found reached))
    (λ h e. e ∙ body_is f found reached c.in_ok-blocks.blocks c.in_ok-calls-2.calls c.in_ok-blocks.ensures.blocks calls) c.with_body.ensures
