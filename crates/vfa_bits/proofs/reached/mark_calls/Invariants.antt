use Rattle.std.proofs.Common.{take}
use Rattle.vfa_ir.specs.Walks.{is_in}
use Rattle.vfa_mean.specs.Kept.{inst_call_places}
use Rattle.vfa_bits.specs.Noting.{AreMarked}
use Rattle.vfa_bits.proofs.reached.mark_calls.Given as goal

abbrev pub invariant-each : goal.invariant-each
invariant-each l = AreMarked (λ place. is_in place (inst_call_places (take l.inst-index l.insts))) l.initial.marks.items l.marks.items
