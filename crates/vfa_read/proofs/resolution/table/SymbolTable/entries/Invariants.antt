use Rattle.std.proofs.Common.{◌≡◌, ◌++◌, drop, map, flat_map}
use Rattle.vfa_read.specs.Resolving.{entry_of, entry_uses, unknown_in}
use Rattle.vfa_read.proofs.resolution.table.SymbolTable.entries.Given as goal

abbrev pub invariant-each : goal.invariant-each
invariant-each l =
    (unknown_in l.self (flat_map entry_uses (drop l.incoming-index l.entries)) ≡ unknown_in l.self (flat_map entry_uses l.entries))
    × (l.list.items ++ map (entry_of l.self l.width) (drop l.incoming-index l.entries) ≡ map (entry_of l.self l.width) l.entries)
