use Rattle.std.proofs.Common.{◌∙◌, ap}
use Rattle.vfa_rewrite.specs.Making.{added_type}
use Rattle.vfa_rewrite.proofs.Expanded.{added_more}
use Rattle.vfa_rewrite.proofs.widths.push_added.Goals as goal

pub names-preserved : goal.names-preserved
names-preserved c =
    added_more c.args.widths.now c.names.n _ (c.added_type.ensures ∙ ap added_type c.width_at.ensures) _ _ _ c.in_ok-push_three.ensures c.names.invariant
