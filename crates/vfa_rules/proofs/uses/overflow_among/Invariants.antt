use Rattle.std.proofs.Common.{◌≡◌, drop}
use Rattle.vfa_rules.specs.Uses.{first_found, overflow_in}
use Rattle.vfa_rules.proofs.uses.overflow_among.Given as goal

abbrev pub invariant-loop-inst : goal.invariant-loop-inst
invariant-loop-inst l = first_found (overflow_in l.width l.v.0) l.insts ≡ first_found (overflow_in l.width l.v.0) (drop l.inst-index l.insts)
