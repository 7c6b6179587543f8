use Rattle.std.proofs.Common.{◌≡◌, map, take}
use Rattle.vfa_ir.specs.declared.functions.Block.{Block}
use Rattle.vfa_ir.specs.declared.functions.Inst.{Inst}
use Rattle.vfa_demand.specs.Rows.{needs_all}
use Rattle.vfa_bits.proofs.leaving.needed.Given as goal

abbrev pub invariant-each : goal.invariant-each
invariant-each l = l.all.items ≡ map (λ (b : Block). map (λ (i : Inst). needs_all i.op) b.insts) (take l.block-index l.blocks)
