use Rattle.std.proofs.Common.{subst}
use Rattle.std.specs.List.{AllByRecursion}
use Rattle.vfa_ir.specs.Tokens.{IsPlaced}
use Rattle.vfa_opt.proofs.ReasonLines.{outside_line}
use Rattle.vfa_opt.proofs.work.line_is_within.Goals as goal

pub returns : goal.returns
returns c =
    outside_line c.args.text.now c.args.reason.now
    (subst (λ all. AllByRecursion (IsPlaced c.args.text.now 0 1) all) c.requires.tokens c.requires.placed) c.requires.reason
