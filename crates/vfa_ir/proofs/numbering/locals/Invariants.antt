use Rattle.std.proofs.Common.{◌≡◌, ◌++◌, drop}
use Rattle.vfa_ir.specs.Shown.{locals_of_blocks, param_locals}
use Rattle.vfa_ir.proofs.numbering.locals.Given as goal

abbrev pub invariant-loop-param : goal.invariant-loop-param
invariant-loop-param l = param_locals l.param-items ≡ l.all.items ++ param_locals (drop l.param-index l.param-items)

abbrev pub invariant-loop-place : goal.invariant-loop-place
invariant-loop-place l =
    l.initial.all.items ++ locals_of_blocks 0 l.block-items ≡
    l.all.items ++ locals_of_blocks l.place (drop l.place l.block-items)
