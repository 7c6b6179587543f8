use Rattle.std.proofs.Common.{◌≡◌, map, take}
use Rattle.vfa_demand.specs.Masks.{mask_in}
use Rattle.vfa_bits.specs.Choosing.{choices_in}
use Rattle.vfa_bits.specs.Narrowed.{new_entry}
use Rattle.vfa_bits.proofs.rewriting.Rewriting.entries.Given as goal

abbrev pub invariant-each : goal.invariant-each
invariant-each l =
    l.all.items ≡ map (new_entry l.self.f.now (mask_in l.self.masks.now) (choices_in l.self.reached.now l.self.changed.now)) (take l.entry-index l.entries)
