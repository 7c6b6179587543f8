use Rattle.std.proofs.Common.{All, take}
use Rattle.vfa_ir.specs.Typed.{TypedInst}
use Rattle.vfa_check.proofs.types.ill_typed_instruction.Given as goal

abbrev pub invariant-loop-place : goal.invariant-loop-place
invariant-loop-place l = All (TypedInst l.f) (take l.place l.insts)
