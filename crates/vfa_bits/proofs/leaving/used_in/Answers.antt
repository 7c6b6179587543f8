use Rattle.std.proofs.Common.{◌≡◌, ◌∙◌, ap, subst}
use Rattle.vfa_ir.specs.declared.functions.Function.{Function}
use Rattle.vfa_mean.specs.Kept.{is_marked}
use Rattle.vfa_mean.proofs.KeptLoops.{ok_weaker}
use Rattle.vfa_demand.specs.Used.{AreUsed, must_in}
use Rattle.vfa_bits.proofs.NeededLines.{are_used, needed_lines}
use Rattle.vfa_bits.proofs.leaving.used_in.Goals as goal

pub returns : goal.returns
returns c =
    let f : Function = c.args.f.now in
    let must : c.as_slice-2.result.now ≡ needed_lines f.blocks = c.as_slice-2.ensures.value ∙ c.in_ok-must.ensures ∙ ap needed_lines c.as_slice.ensures in
    ok_weaker _ _ c.used_names.result
    (λ used are. are_used f (is_marked used.items) (subst (λ m. AreUsed f (must_in m) (is_marked used.items)) must are)) c.used_names.ensures.used
