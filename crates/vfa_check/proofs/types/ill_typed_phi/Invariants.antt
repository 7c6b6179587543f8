use Rattle.std.proofs.Common.{All, take}
use Rattle.vfa_ir.specs.Typed.{TypedPhi}
use Rattle.vfa_check.proofs.types.ill_typed_phi.Given as goal

abbrev pub invariant-loop-place : goal.invariant-loop-place
invariant-loop-place l = All (TypedPhi l.f) (take l.place l.phis)
