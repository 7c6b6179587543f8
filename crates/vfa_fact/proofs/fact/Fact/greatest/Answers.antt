use Rattle.std.proofs.Common.{◌∙◌, arith}
use Rattle.vfa_fact.specs.Views.{numbers_of}
use Rattle.vfa_fact.proofs.EndsOfFacts.{greatest_plain, greatest_split}
use Rattle.vfa_fact.proofs.fact.Fact.greatest.Goals as goal

pub returns-then-bits-last : goal.returns-then-bits-last
returns-then-bits-last g c = let fact = c.args.self.now in
    greatest_plain g.row.W (numbers_of fact) fact.sharp fact.known.width.least c.bits.result c.bits-last.result
    (c.bits.ensures.value ∙ c.first.ensures) (c.bits-last.ensures.value ∙ c.last.ensures) (omega arith)

pub returns : goal.returns
returns g c = let fact = c.args.self.now in
    greatest_split g.row.W (numbers_of fact) fact.sharp fact.known.width.least c.bits.result c.bits-last.result c.most.result c.zeros.result
    (c.bits.ensures.value ∙ c.first.ensures) (c.bits-last.ensures.value ∙ c.last.ensures) (omega arith) c.most.ensures c.zeros.ensures
