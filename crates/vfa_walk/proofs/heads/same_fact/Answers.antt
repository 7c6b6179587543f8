use Rattle.std.proofs.Common.{sym, ◌∙◌}
use Rattle.vfa_walk.proofs.heads.same_fact.Goals as goal

pub same-requires : goal.same-requires
same-requires g c =
    let first = c.requires.first c.args.v.0 c.in-Some.first (sym c.in-Some.ensures) in
    let second = c.requires.second c.args.v.0 c.in-Some-second.second (sym c.in-Some-second.ensures) in
    record { first = first.is_proper; second = second.is_proper; same_type = first.typed ∙ sym second.typed }
