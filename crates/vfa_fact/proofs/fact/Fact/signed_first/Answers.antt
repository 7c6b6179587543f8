use Rattle.std.proofs.Common.{sym, ◌∙◌}
use Rattle.vfa_known.specs.Known.{masks_of}
use Rattle.vfa_fact.proofs.EndsOfFacts.{first_signed, first_unsigned}
use Rattle.vfa_fact.proofs.fact.Fact.signed_first.Goals as goal

pub returns-in_default : goal.returns-in_default
returns-in_default g c = let known = c.args.known.now in
    first_unsigned g.row.W (masks_of known) known.width known.cube c.ones.result c.cut.result (sym c.first_at_or_after.ensures ∙ c.in_default.is) c.ones.ensures c.cut.ensures

pub returns : goal.returns
returns g c = let known = c.args.known.now in
    first_signed g.row.W (masks_of known) known.width known.cube c.in-Some.first c.cut-2.result (sym c.first_at_or_after.ensures ∙ c.in-Some.is) c.cut-2.ensures
