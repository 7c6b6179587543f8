use Rattle.std.proofs.Common.{◌≡◌, ◌++◌, drop}
use Rattle.vfa_ir.specs.Printable.{inst_ids}
use Rattle.vfa_mean.proofs.kept.push_results.Given as goal

abbrev pub invariant-each : goal.invariant-each
invariant-each l =
    l.initial.ids.items ++ inst_ids l.insts ≡ l.ids.items ++ inst_ids (drop l.inst-index l.insts)
