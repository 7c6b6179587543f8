use Rattle.std.proofs.Common.{arith}
use Rattle.std.proofs.lemmas.Bool.Decides.{nat_tests}
use Rattle.vfa_fact.proofs.CellNumbers.{in_plain, in_split}
use Rattle.vfa_fact.proofs.numbers.Numbers.span.Goals as goal

pub returns-then-self-bits : goal.returns-then-self-bits
returns-then-self-bits c w first last fits = let n = c.args.self.now in
    let order = c.if-self.true in let after = c.if-self-bits.true in let both = in_plain w n.first n.last c.args.bits first last fits order in grind (arith, nat_tests, both)

pub returns-else-self-bits : goal.returns-else-self-bits
returns-else-self-bits c w first last fits = let n = c.args.self.now in
    let order = c.if-self.true in let under = c.if-self-bits.false in let both = in_plain w n.first n.last c.args.bits first last fits order in grind (arith, nat_tests, both)

pub returns-then-self-bits-2 : goal.returns-then-self-bits-2
returns-then-self-bits-2 c w first last fits = let n = c.args.self.now in
    let order = c.if-self.false in let after = c.if-self-bits-2.true in let both = in_split w n.first n.last c.args.bits first last fits order in grind (arith, nat_tests, both)

pub returns-else-self-bits-2 : goal.returns-else-self-bits-2
returns-else-self-bits-2 c w first last fits = let n = c.args.self.now in
    let order = c.if-self.false in let under = c.if-self-bits-2.false in let both = in_split w n.first n.last c.args.bits first last fits order in grind (arith, nat_tests, both)
