use Rattle.std.proofs.lemmas.Bool.{OnTrue_from, OnTrue_at}
use Rattle.vfa_fact.specs.Views.{numbers_of}
use Rattle.vfa_fact.proofs.Facts.{numbers_parts, numbers_from}
use Rattle.vfa_fact.proofs.fact.Fact.takes_in.Goals as goal

pub returns : goal.returns
returns g c = OnTrue_from c.includes-2.result _ (λ yes x member.
    let parts = numbers_parts g.row.W (numbers_of c.args.other.now) x member in
    numbers_from g.row.W (numbers_of c.args.self.now) x
    (OnTrue_at c.if-not-includes.false c.includes.ensures.yes x parts.0) (OnTrue_at yes c.includes-2.ensures.yes x parts.1))
