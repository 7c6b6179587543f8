use Rattle.std.proofs.Common.{All, take}
use Rattle.vfa_ir.specs.Typed.{TypedBlock}
use Rattle.vfa_check.proofs.types.ill_typed_line.Given as goal

abbrev pub invariant-loop-place : goal.invariant-loop-place
invariant-loop-place l = All (TypedBlock l.f) (take l.place l.f.blocks)
