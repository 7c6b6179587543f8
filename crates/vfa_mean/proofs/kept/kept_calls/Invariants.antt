use Rattle.std.proofs.Common.{◌≡◌, ◌++◌, drop, flat_map}
use Rattle.vfa_ir.specs.Printable.{block_call_places}
use Rattle.vfa_mean.specs.Renaming.{at_places}
use Rattle.vfa_mean.proofs.kept.kept_calls.Given as goal

abbrev pub invariant-each : goal.invariant-each
invariant-each l =
    flat_map block_call_places (at_places l.f.blocks l.numbers) ≡ l.calls.items ++ flat_map block_call_places (at_places l.f.blocks (drop l.number-index l.numbers))
