use Rattle.std.proofs.Common.{◌≡◌, ◌++◌, drop, filter_map}
use Rattle.vfa_ir.specs.Resolution.{instruction_value}
use Rattle.vfa_read.proofs.resolution.values.push_results.Given as goal

abbrev pub invariant-each : goal.invariant-each
invariant-each l =
    l.values.items ++ filter_map instruction_value (drop l.instruction-index l.instructions) ≡ l.initial.values.items ++ filter_map instruction_value l.instructions
