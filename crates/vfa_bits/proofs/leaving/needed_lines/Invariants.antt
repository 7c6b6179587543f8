use Rattle.std.proofs.Common.{◌≡◌, map, take}
use Rattle.vfa_ir.specs.declared.functions.Inst.{Inst}
use Rattle.vfa_demand.specs.Rows.{needs_all}
use Rattle.vfa_bits.proofs.leaving.needed_lines.Given as goal

abbrev pub invariant-each : goal.invariant-each
invariant-each l = l.all.items ≡ map (λ (i : Inst). needs_all i.op) (take l.inst-index l.insts)
