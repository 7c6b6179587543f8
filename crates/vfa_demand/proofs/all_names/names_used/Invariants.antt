use Rattle.std.proofs.Common.{◌≡◌, ◌++◌, drop, flat_map}
use Rattle.vfa_mean.specs.Numbering.{names_used}
use Rattle.vfa_demand.proofs.all_names.names_used.Given as goal

abbrev pub invariant-each : goal.invariant-each
invariant-each l = flat_map (names_used l.f) l.f.blocks ≡ l.names.items ++ flat_map (names_used l.f) (drop l.block-index l.f.blocks)
