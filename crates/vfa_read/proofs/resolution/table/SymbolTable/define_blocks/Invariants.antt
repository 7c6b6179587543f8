use Rattle.std.proofs.Common.{drop}
use Rattle.vfa_read.specs.Resolving.{Left, names_of_blocks}
use Rattle.vfa_read.proofs.resolution.table.SymbolTable.define_blocks.Given as goal

abbrev pub invariant-each : goal.invariant-each
invariant-each l = Left l.initial.self (names_of_blocks l.numbered l.blocks) l.self (names_of_blocks l.numbered (drop l.block-index l.blocks))
