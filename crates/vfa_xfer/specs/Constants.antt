-- What is known of the result of operands that are one number each: the number that the operation gives of them, and no
-- number where it gives poison or has undefined behaviour.
use Rattle.std.specs.Prelude.{ℕ, Option, Some, None}
use Rattle.std.specs.Option.{option_map}
use Rattle.vfa_dom.specs.Sets.{single_of}
use Rattle.vfa_fact.specs.declared.numbers.Numbers.{Numbers}
use Rattle.vfa_fact.specs.Cells.{CellValue, in_cell, only_number}
use Rattle.vfa_mean.specs.declared.value.Done.{Done}
use Rattle.vfa_mean.specs.declared.value.Val.{Val}

-- the number that is given
abbrev pub number_in : Val → Option ℕ
number_in (Val.Number x) = Some x
number_in Val.Poison = None
number_in (Val.Pair x o) = None

abbrev pub number_given : Done → Option ℕ
number_given (Done.Is v) = number_in v
number_given Done.Ub = None
number_given (Done.AnyOf w) = None

-- the fact of that number alone
abbrev pub constant_numbers : ℕ → Done → Option Numbers
constant_numbers w d = option_map (only_number w) (number_given d)

-- the only number of the cell, where it has just one
abbrev pub single_in : CellValue → Option ℕ
single_in c = single_of c.width (in_cell c)

-- what is made of two numbers where both are there, else the other
abbrev pub where_single : {A : Type 0} → Option ℕ → Option ℕ → (ℕ → ℕ → A) → A → A
where_single (Some x) (Some y) constant other = constant x y
where_single (Some x) None constant other = other
where_single None y constant other = other
