use Rattle.std.proofs.Common.{ap, ◌∙◌}
use Rattle.std.specs.Prelude.{bit_and}
use Rattle.vfa_wrap.proofs.RowSteps.{mask-cast}
use Rattle.vfa_wrap.proofs.rows.signed.wrapped.Goals as goal

pub returns-clause-value : goal.returns-clause-value
returns-clause-value g c =
    ap (λ n. bit_and n c.most.result) c.cast_unsigned.ensures
    ∙ mask-cast g.row.W c.most.result c.args.z c.requires.most c.most.ensures c.ranges.z
