use Rattle.std.proofs.Common.{◌≡◌, ◌++◌, drop, flat_map}
use Rattle.vfa_ir.specs.Printable.{block_ids}
use Rattle.vfa_mean.specs.Renaming.{at_places}
use Rattle.vfa_mean.proofs.kept.kept_values.Given as goal

abbrev pub invariant-each : goal.invariant-each
invariant-each l =
    l.initial.ids.items ++ flat_map block_ids (at_places l.f.blocks l.numbers) ≡ l.ids.items ++ flat_map block_ids (at_places l.f.blocks (drop l.number-index l.numbers))
