use Rattle.std.proofs.Common.{◌≡◌, map, take}
use Rattle.vfa_demand.specs.Masks.{mask_in}
use Rattle.vfa_bits.specs.Choosing.{choices_in}
use Rattle.vfa_bits.specs.Narrowed.{new_line}
use Rattle.vfa_bits.proofs.rewriting.Rewriting.lines.Given as goal

abbrev pub invariant-each : goal.invariant-each
invariant-each l =
    l.all.items ≡ map (new_line l.self.f.now (mask_in l.self.masks.now) (choices_in l.self.reached.now l.self.changed.now) l.number) (take l.inst-index l.insts)
