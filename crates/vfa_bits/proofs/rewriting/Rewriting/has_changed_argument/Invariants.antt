use Rattle.std.proofs.Common.{◌≡◌, drop, flat_map}
use Rattle.std.specs.List.{list_any}
use Rattle.vfa_ir.specs.declared.functions.CallArg.{CallArg}
use Rattle.vfa_ir.specs.Defined.{operand_names}
use Rattle.vfa_bits.specs.Choosing.{is_changed_in}
use Rattle.vfa_bits.proofs.rewriting.Rewriting.has_changed_argument.Given as goal

abbrev pub invariant-each : goal.invariant-each
invariant-each l =
    list_any (is_changed_in l.self.changed.now) (flat_map (λ (a : CallArg). operand_names a.value) l.arguments)
    ≡ list_any (is_changed_in l.self.changed.now) (flat_map (λ (a : CallArg). operand_names a.value) (drop l.argument-index l.arguments))
