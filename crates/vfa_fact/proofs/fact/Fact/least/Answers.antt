use Rattle.std.proofs.Common.{◌∙◌, arith}
use Rattle.vfa_fact.specs.Views.{numbers_of}
use Rattle.vfa_fact.proofs.EndsOfFacts.{least_plain, least_split}
use Rattle.vfa_fact.proofs.fact.Fact.least.Goals as goal

pub returns-then-first-bits : goal.returns-then-first-bits
returns-then-first-bits g c = let fact = c.args.self.now in
    least_plain g.row.W (numbers_of fact) fact.sharp fact.known.width.least c.bits-first.result c.bits.result
    (c.bits-first.ensures.value ∙ c.first.ensures) (c.bits.ensures.value ∙ c.last.ensures) (omega arith)

pub returns : goal.returns
returns g c = let fact = c.args.self.now in
    least_split g.row.W (numbers_of fact) fact.sharp fact.known.width.least c.bits-first.result c.bits.result c.ones.result
    (c.bits-first.ensures.value ∙ c.first.ensures) (c.bits.ensures.value ∙ c.last.ensures) (omega arith) c.ones.ensures
