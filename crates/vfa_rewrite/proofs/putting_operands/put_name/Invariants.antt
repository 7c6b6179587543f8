use Rattle.std.proofs.Common.{◌≡◌, ◌-◌, length}
use Rattle.std.specs.Option.{option_map}
use Rattle.vfa_ir.specs.declared.operations.Operand.{Operand}
use Rattle.vfa_cond.specs.States.{known}
use Rattle.vfa_walk.specs.Ready.{IsOperandOf}
use Rattle.vfa_rewrite.specs.Putting.{becoming_by, put_by}
use Rattle.vfa_rewrite.proofs.putting_operands.put_name.Given as goal

abbrev pub invariant-chain : goal.invariant-chain
invariant-chain l = record {
  becomes : becoming_by l.others (option_map (λ s. known s.now) l.state) l.of_type (length l.f.values - l.counter) l.at
      ≡ put_by l.f l.others (option_map (λ s. known s.now) l.state) (Operand.Value l.fn.name);
  operand : IsOperandOf l.f l.of_type l.at;
}
