use Rattle.std.proofs.Common.{◌≡◌, drop}
use Rattle.vfa_ir.specs.declared.functions.Block.{Block}
use Rattle.vfa_rules.specs.Uses.{first_found, overflow_in}
use Rattle.vfa_rules.proofs.uses.overflow_in_blocks.Given as goal

abbrev pub invariant-loop-block : goal.invariant-loop-block
invariant-loop-block l = let look = λ (b : Block). first_found (overflow_in l.width l.v.0) b.insts in first_found look l.blocks ≡ first_found look (drop l.block-index l.blocks)
