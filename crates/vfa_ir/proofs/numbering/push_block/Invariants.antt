use Rattle.std.proofs.Common.{◌≡◌, ◌++◌, drop}
use Rattle.vfa_ir.specs.Shown.{phi_locals}
use Rattle.vfa_ir.proofs.numbering.push_block.Given as goal

abbrev pub invariant-loop-phi : goal.invariant-loop-phi
invariant-loop-phi l =
    l.initial.all.items ++ phi_locals l.phi-items ≡ l.all.items ++ phi_locals (drop l.phi-index l.phi-items)
