use Rattle.std.proofs.Common.{sym, ◌∙◌}
use Rattle.vfa_known.specs.Known.{masks_of}
use Rattle.vfa_fact.proofs.EndsOfFacts.{last_signed, last_unsigned}
use Rattle.vfa_fact.proofs.fact.Fact.signed_last.Goals as goal

pub returns-in_default : goal.returns-in_default
returns-in_default g c = let known = c.args.known.now in
    last_unsigned g.row.W (masks_of known) known.width known.cube c.most.result c.zeros.result c.cut.result c.most.ensures
    (sym c.last_at_or_before.ensures ∙ c.in_default.is) c.zeros.ensures c.cut.ensures

pub returns : goal.returns
returns g c = let known = c.args.known.now in
    last_signed g.row.W (masks_of known) known.width known.cube c.in-Some.last c.cut-2.result (sym c.last_at_or_before.ensures ∙ c.in-Some.is) c.cut-2.ensures
