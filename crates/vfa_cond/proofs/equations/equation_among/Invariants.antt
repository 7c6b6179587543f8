use Rattle.std.proofs.Common.{◌≡◌, drop}
use Rattle.vfa_cond.specs.Equations.{equation_among}
use Rattle.vfa_cond.proofs.equations.equation_among.Given as goal

-- the answer for what is left is that for the whole
abbrev pub invariant-insts : goal.invariant-insts
invariant-insts l = equation_among l.v.0 l.insts ≡ equation_among l.v.0 (drop l.inst-index l.insts)
