use Rattle.std.proofs.Common.{false, replicate, take}
use Rattle.vfa_ir.specs.Walks.{is_in}
use Rattle.vfa_cfg.specs.Order.{numbers}
use Rattle.vfa_bits.specs.Noting.{AreMarked}
use Rattle.vfa_bits.proofs.reached.marks_of.Given as goal

abbrev pub invariant-each : goal.invariant-each
invariant-each l = AreMarked (λ b. is_in b (numbers (take l.block-index l.blocks))) (replicate l.count false) l.marks.items
