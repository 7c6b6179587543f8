use Rattle.std.proofs.Common.{drop}
use Rattle.vfa_read.specs.Resolving.{Left}
use Rattle.vfa_read.proofs.Definitions.{instruction_names}
use Rattle.vfa_read.proofs.resolution.table.SymbolTable.define_instructions.Given as goal

abbrev pub invariant-each : goal.invariant-each
invariant-each l = Left l.initial.self (instruction_names l.instructions) l.self (instruction_names (drop l.instruction-index l.instructions))
