use Rattle.std.proofs.Common.{◌≡◌, ◌++◌, drop}
use Rattle.vfa_demand.specs.Masks.{mask_in}
use Rattle.vfa_bits.specs.Choosing.{choices_in}
use Rattle.vfa_bits.specs.Narrowed.{new_blocks}
use Rattle.vfa_bits.proofs.rewriting.Rewriting.blocks.Given as goal

abbrev pub invariant-each : goal.invariant-each
invariant-each l = record {
  counted : l.number ≡ l.block-index;
  made : l.all.items ++ new_blocks l.self.f.now (mask_in l.self.masks.now) (choices_in l.self.reached.now l.self.changed.now) l.number (drop l.block-index l.blocks)
      ≡ new_blocks l.self.f.now (mask_in l.self.masks.now) (choices_in l.self.reached.now l.self.changed.now) 0 l.blocks;
}
