use Rattle.std.proofs.Common.{◌≡◌, drop}
use Rattle.vfa_cond.specs.Equations.{equation, equation_in}
use Rattle.vfa_cond.proofs.equations.first_equation.Given as goal

-- the answer for what is left is that for the whole
abbrev pub invariant-all : goal.invariant-all
invariant-all l = equation l.f l.v.0 ≡ equation_in l.v.0 (drop l.block-index l.f.blocks)
