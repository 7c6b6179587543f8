use Rattle.std.proofs.Common.{◌∙◌, FitsSigned, rules}
use Rattle.std.specs.Int.{w128}
use Rattle.std.proofs.lemmas.Int.{to_z-of_z}
use Rattle.vfa_fact.specs.Views.{numbers_of}
use Rattle.vfa_fact.proofs.EndsOfFacts.{least_signed_plain, least_signed_split, signed_le, signed_gt}
use Rattle.vfa_fact.proofs.fact.Fact.least_signed.Goals as goal

pub returns-then-first-signed : goal.returns-then-first-signed
returns-then-first-signed g c = let fact = c.args.self.now in
    let first_fits : FitsSigned w128 c.signed-first.result = search rules in
    let last_fits : FitsSigned w128 c.signed.result = search rules in
    let fits : FitsSigned w128 c.signed-first.result = search rules in
    to_z-of_z w128 c.signed-first.result fits
    ∙ least_signed_plain g.row.W (numbers_of fact) fact.sharp fact.known.width.least c.first.result c.last.result c.signed-first.result c.signed.result
    c.first.ensures c.last.ensures c.signed-first.ensures.value c.signed.ensures.value (signed_le c.signed-first.result c.signed.result _ _ (to_z-of_z w128 c.signed-first.result first_fits) (to_z-of_z w128 c.signed.result last_fits) c.if-first-signed.true)

pub returns : goal.returns
returns g c = let fact = c.args.self.now in
    let first_fits : FitsSigned w128 c.signed-first.result = search rules in
    let last_fits : FitsSigned w128 c.signed.result = search rules in
    let fits : FitsSigned w128 c.signed-2.result = search rules in
    to_z-of_z w128 c.signed-2.result fits
    ∙ least_signed_split g.row.W (numbers_of fact) fact.sharp fact.known.width.least c.first.result c.last.result c.signed_first.result c.signed-first.result c.signed.result c.signed-2.result
    c.first.ensures c.last.ensures c.signed-first.ensures.value c.signed.ensures.value (signed_gt c.signed-first.result c.signed.result _ _ (to_z-of_z w128 c.signed-first.result first_fits) (to_z-of_z w128 c.signed.result last_fits) c.if-first-signed.false) c.signed_first.ensures c.signed-2.ensures.value
