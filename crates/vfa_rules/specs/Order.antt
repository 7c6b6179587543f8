-- The rules in their order.
use Rattle.std.specs.Prelude.{◌≡◌, Bool, List, [], ◌∷◌, fold, Option}
use Rattle.vfa_fact.specs.declared.cell.Parts.{Parts}
use Rattle.vfa_ir.specs.declared.operations.Op.{Op}
use Rattle.vfa_rules.specs.declared.change.Change.{Change}
use Rattle.vfa_rules.specs.declared.change.OverflowCall.{OverflowCall}
use Rattle.vfa_rules.specs.Facts.{number_cell, bit_cell}
use Rattle.vfa_rules.specs.Rules.{replaced, chosen_arm, kept_operand, plain_arithmetic, unsigned_form, narrowed, narrow_width, gained_words, frozen_operand, without_assume}

-- What is known where an instruction stands: facts of the values of its operands a, b and c, for a part of an overflow
-- intrinsic's pair those of the intrinsic's operands a and b and of the pair c; that intrinsic; and whether the
-- instruction's result is an operand somewhere in the function.
pub record Known : Type 0 where
  pub a : Parts
  pub b : Parts
  pub c : Parts
  pub call : Option OverflowCall
  pub used : Bool

pub data Rule : Type 0 where
  ChosenArm : Rule
  KeptOperand : Rule
  PlainArithmetic : Rule
  UnsignedForm : Rule
  NarrowedDivision : Rule
  GainedWords : Rule
  FrozenAlready : Rule
  AssumedAlready : Rule

-- what a rule makes of an instruction
abbrev pub by_rule : Rule → Known → Op → Change
by_rule ChosenArm k op = replaced op (chosen_arm (number_cell k.c) op)
by_rule KeptOperand k op = replaced op (kept_operand (number_cell k.a) (number_cell k.b) op)
by_rule PlainArithmetic k op = Change.Keep (plain_arithmetic k.call (bit_cell k.c) (number_cell k.a) (number_cell k.b) op)
by_rule UnsignedForm k op = Change.Keep (unsigned_form (number_cell k.a) (number_cell k.b) op)
by_rule NarrowedDivision k op = narrowed op (narrow_width k.used (number_cell k.a) (number_cell k.b) op)
by_rule GainedWords k op = Change.Keep (gained_words (number_cell k.a) (number_cell k.b) op)
by_rule FrozenAlready k op = replaced op (frozen_operand (number_cell k.a) op)
by_rule AssumedAlready k op = without_assume (number_cell k.c) op

-- a rule is applied to an instruction that stays; what is replaced, narrowed or gone is not changed any more
abbrev pub then_by : Known → Change → Rule → Change
then_by k (Change.Keep op) rule = by_rule rule k op
then_by k change rule = change

abbrev pub rules_in_order : List Rule
rules_in_order =
    ChosenArm ∷ KeptOperand ∷ PlainArithmetic ∷ UnsignedForm ∷ NarrowedDivision ∷ GainedWords ∷ FrozenAlready ∷ AssumedAlready ∷ []

-- what the rules make of an instruction, each applied once to what the earlier ones left. At width 32, of numbers up to 99
-- and 49, `sdiv` that is used becomes `udiv` and is narrowed to width 8
unfoldable pub changed : Known → Op → Change
changed k op = fold (then_by k) (Change.Keep op) rules_in_order

-- no rule, tried on the instruction as it stands, changes it
abbrev pub IsUnchanged : Known → Op → Type 0
IsUnchanged k op = (rule : Rule) → by_rule rule k op ≡ Change.Keep op
