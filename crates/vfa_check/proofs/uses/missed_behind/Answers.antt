use Rattle.std.proofs.Common.{MatchBool, subst}
use Rattle.vfa_ir.specs.Defined.{line_count}
use Rattle.vfa_ir.specs.Walks.{IsDefinedAt, IsMissedAt}
use Rattle.vfa_check.proofs.UsesTold.{one_missed}
use Rattle.vfa_check.proofs.uses.missed_behind.Goals as goal

pub returns : goal.returns
returns c =
    let f = c.args.f.now in
    let line = line_count f c.args.block.0 in
    rw c.in-Value.is
    (one_missed f line (record { name = c.in-Value.name; block = c.args.block })
    (subst (λ x. MatchBool x (IsDefinedAt f c.args.block.0 line c.in-Value.name.0) (IsMissedAt f c.args.block.0 line c.in-Value.name.0))
    c.if-defined_behind.false (c.defined_behind.ensures.scope f c.requires)))
