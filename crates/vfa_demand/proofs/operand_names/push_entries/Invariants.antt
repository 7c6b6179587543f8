use Rattle.std.proofs.Common.{◌≡◌, ◌++◌, drop, flat_map}
use Rattle.vfa_ir.specs.Defined.{operand_names}
use Rattle.vfa_demand.proofs.operand_names.push_entries.Given as goal

abbrev pub invariant-each : goal.invariant-each
invariant-each l =
    l.initial.names.items ++ flat_map (λ e. operand_names e.0) l.entries
    ≡ l.names.items ++ flat_map (λ e. operand_names e.0) (drop l.entry-index l.entries)
