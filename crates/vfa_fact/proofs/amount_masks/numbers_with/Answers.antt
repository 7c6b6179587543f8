use Rattle.std.proofs.Common.{arith}
use Rattle.vfa_fact.proofs.MaskedAmounts.{with_bit_is, with_bit_zero, with_bit_one, with_bit_two, with_bit_three, with_bit_four, with_bit_five, with_bit_six}
use Rattle.vfa_fact.proofs.amount_masks.numbers_with.Goals as goal

pub returns-in-0 : goal.returns-in-0
returns-in-0 c = with_bit_is _ 0 c.args.place c.in-0.is with_bit_zero

pub returns-in-1 : goal.returns-in-1
returns-in-1 c = with_bit_is _ 1 c.args.place c.in-1.is with_bit_one

pub returns-in-2 : goal.returns-in-2
returns-in-2 c = with_bit_is _ 2 c.args.place c.in-2.is with_bit_two

pub returns-in-3 : goal.returns-in-3
returns-in-3 c = with_bit_is _ 3 c.args.place c.in-3.is with_bit_three

pub returns-in-4 : goal.returns-in-4
returns-in-4 c = with_bit_is _ 4 c.args.place c.in-4.is with_bit_four

pub returns-in-5 : goal.returns-in-5
returns-in-5 c = with_bit_is _ 5 c.args.place c.in-5.is with_bit_five

pub returns-in_default : goal.returns-in_default
returns-in_default c = with_bit_is _ 6 c.args.place (let below = c.requires in omega (arith, c.in_default)) with_bit_six
