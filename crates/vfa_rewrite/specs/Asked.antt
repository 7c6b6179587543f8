-- helper: in no public contract
-- The operands that the rules on an operation ask for, each with its type.
use Rattle.vfa_ir.specs.declared.operations.Op.{Op}
use Rattle.vfa_ir.specs.declared.functions.Function.{Function}
use Rattle.vfa_mean.specs.Meaning.{operand_c}
use Rattle.vfa_walk.specs.Stepping.{third_type}
use Rattle.vfa_rules.specs.Uses.{overflow_call}
use Rattle.vfa_rewrite.specs.declared.asked.Asked.{Asked}
use Rattle.vfa_rewrite.specs.ByFacts.{first_known, second_known, known_type}

abbrev pub asked_of : Function → Op → Asked
asked_of f op = record {
  sides = known_type op;
  a = first_known (overflow_call f op) op;
  b = second_known (overflow_call f op) op;
  third = third_type op;
  c = operand_c op;
  call = overflow_call f op;
}
