use Rattle.std.proofs.Common.{◌∙◌, FitsSigned, rules}
use Rattle.std.specs.Int.{w128}
use Rattle.std.proofs.lemmas.Int.{to_z-of_z}
use Rattle.vfa_fact.specs.Views.{numbers_of}
use Rattle.vfa_fact.proofs.EndsOfFacts.{greatest_signed_plain, greatest_signed_split, signed_le, signed_gt}
use Rattle.vfa_fact.proofs.fact.Fact.greatest_signed.Goals as goal

pub returns-then-signed-last : goal.returns-then-signed-last
returns-then-signed-last g c = let fact = c.args.self.now in
    let first_fits : FitsSigned w128 c.signed.result = search rules in
    let last_fits : FitsSigned w128 c.signed-last.result = search rules in
    let fits : FitsSigned w128 c.signed-last.result = search rules in
    to_z-of_z w128 c.signed-last.result fits
    ∙ greatest_signed_plain g.row.W (numbers_of fact) fact.sharp fact.known.width.least c.first.result c.last.result c.signed.result c.signed-last.result
    c.first.ensures c.last.ensures c.signed.ensures.value c.signed-last.ensures.value (signed_le c.signed.result c.signed-last.result _ _ (to_z-of_z w128 c.signed.result first_fits) (to_z-of_z w128 c.signed-last.result last_fits) c.if-signed-last.true)

pub returns : goal.returns
returns g c = let fact = c.args.self.now in
    let first_fits : FitsSigned w128 c.signed.result = search rules in
    let last_fits : FitsSigned w128 c.signed-last.result = search rules in
    let fits : FitsSigned w128 c.signed-2.result = search rules in
    to_z-of_z w128 c.signed-2.result fits
    ∙ greatest_signed_split g.row.W (numbers_of fact) fact.sharp fact.known.width.least c.first.result c.last.result c.signed_last.result c.signed.result c.signed-last.result c.signed-2.result
    c.first.ensures c.last.ensures c.signed.ensures.value c.signed-last.ensures.value (signed_gt c.signed.result c.signed-last.result _ _ (to_z-of_z w128 c.signed.result first_fits) (to_z-of_z w128 c.signed-last.result last_fits) c.if-signed-last.false) c.signed_last.ensures c.signed-2.ensures.value
