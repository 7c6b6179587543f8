use Rattle.std.proofs.Common.{◌≡◌, ◌<◌, ◌^◌, sym, subst, lit<, Option}
use Rattle.std.specs.Prelude.{IfSome, IsSomeAnd}
use Rattle.std.specs.Int.{bit_at}
use Rattle.vfa_dom.proofs.Searches.{bits_below-lt}
use Rattle.vfa_wrap.specs.Between.{Between}
use Rattle.vfa_wrap.specs.Ends.{shown_ends}
use Rattle.vfa_wrap.specs.Rows.{AreAmounts}
use Rattle.vfa_fact.specs.Views.{numbers_of, in_fact}
use Rattle.vfa_fact.specs.Cuts.{AmountsOf}
use Rattle.vfa_fact.proofs.CutEnds.{amounts_row, amounts_fit, amounts_below, amounts_cover}
use Rattle.vfa_fact.proofs.MaskedAmounts.{fact_bits, no_amounts}
use Rattle.vfa_fact.proofs.fact.Fact.amounts.Goals as goal

pub returns-then-mask-eq0-clause-exact : goal.returns-then-mask-eq0-clause-exact
returns-then-mask-eq0-clause-exact g c = let fact = c.args.self.now in
    no_amounts g.row.W _ (in_fact g.row.W fact) fact.known.width.least
    (fact_bits g.row.W c.amounts_in_cube.result c.amounts_in_arc.result (numbers_of fact) c.amounts_in_cube.ensures c.amounts_in_arc.ensures) c.if-mask-eq0.true

pub returns-then-mask-eq0-clause-covers : goal.returns-then-mask-eq0-clause-covers
returns-then-mask-eq0-clause-covers g c t below member = let fact = c.args.self.now in
    subst (λ (o : Option AmountsOf). IsSomeAnd o (λ a. Between g.row.W a.ends t × (bit_at a.mask t ≡ 1))) (sym (returns-then-mask-eq0-clause-exact g c))
    (amounts_cover g.row.W (in_fact g.row.W fact) fact.known.width.least t below member)

pub amount_ends-ends-requires : goal.amount_ends-ends-requires
amount_ends-ends-requires g c = let fact = c.args.self.now in
    let is = fact_bits g.row.W c.amounts_in_cube.result c.amounts_in_arc.result (numbers_of fact) c.amounts_in_cube.ensures c.amounts_in_arc.ensures in
    (lit< tt, (fact.known.width, (c.if-mask-eq0.false, subst (λ n. n < 2 ^ g.row.W) (sym is) (bits_below-lt g.row.W (in_fact g.row.W fact)))))

pub returns-clause-exact : goal.returns-clause-exact
returns-clause-exact g c = let fact = c.args.self.now in
    let is = fact_bits g.row.W c.amounts_in_cube.result c.amounts_in_arc.result (numbers_of fact) c.amounts_in_cube.ensures c.amounts_in_arc.ensures in
    amounts_row g.row.W (in_fact g.row.W fact) fact.known.width.least (shown_ends {W = g.row.W} c.amount_ends-ends.result) _
    (sym (c.amount_ends-ends.ensures (in_fact g.row.W fact) is)) is

pub returns-clause-usable : goal.returns-clause-usable
returns-clause-usable g c = let fact = c.args.self.now in
    subst (λ (o : Option AmountsOf). IfSome o (λ a. AreAmounts g.row.W a.ends)) (sym (returns-clause-exact g c)) (amounts_fit g.row.W (in_fact g.row.W fact) fact.known.width.least)

pub returns-clause-below : goal.returns-clause-below
returns-clause-below g c = let fact = c.args.self.now in
    subst (λ (o : Option AmountsOf). IfSome o (λ a. a.mask < 2 ^ g.row.W)) (sym (returns-clause-exact g c)) (amounts_below g.row.W (in_fact g.row.W fact) fact.known.width.least)

pub returns-clause-covers : goal.returns-clause-covers
returns-clause-covers g c t below member = let fact = c.args.self.now in
    subst (λ (o : Option AmountsOf). IsSomeAnd o (λ a. Between g.row.W a.ends t × (bit_at a.mask t ≡ 1))) (sym (returns-clause-exact g c))
    (amounts_cover g.row.W (in_fact g.row.W fact) fact.known.width.least t below member)
