use Rattle.std.proofs.Common.{◌≡◌, ◌∙◌, ap, sym, subst, arith, lit<, Option, Some, mod-eq_of_lt}
use Rattle.std.specs.Prelude.{IfSome, IsSomeAnd}
use Rattle.std.proofs.lemmas.Nat.{pow_below, pow_pos}
use Rattle.vfa_wrap.specs.Between.{Between}
use Rattle.vfa_wrap.specs.Ends.{EndsOf, shown_ends}
use Rattle.vfa_wrap.specs.Rows.{AreDivisors}
use Rattle.vfa_fact.specs.Cuts.{ends_in, divisors_of}
use Rattle.vfa_fact.specs.Fact.{in_numbers_fits}
use Rattle.vfa_fact.specs.Views.{numbers_of, in_fact}
use Rattle.vfa_fact.proofs.CutEnds.{divisors_whole, divisors_between, divisors_usable, divisors_cover, if_shown, some_shown}
use Rattle.vfa_fact.proofs.fact.Fact.divisors.Goals as goal

pub returns-then-not-has-clause-exact : goal.returns-then-not-has-clause-exact
returns-then-not-has-clause-exact g c = let fact = c.args.self.now in
    let number : c.cut.result ≡ 0 = c.cut.ensures ∙ mod-eq_of_lt (pow_pos g.row.W) in
    ap Some c.ends.ensures.value
    ∙ divisors_whole g.row.W fact.arc.first (in_fact g.row.W fact) (ap (in_fact g.row.W fact) (sym number) ∙ sym c.has.ensures.exact ∙ c.if-not-has.true)
    fact.arc.arc.first_fits fact.sharp.first_in

pub returns-then-not-has-clause-usable : goal.returns-then-not-has-clause-usable
returns-then-not-has-clause-usable g c = let fact = c.args.self.now in
    subst (λ (o : Option EndsOf). IfSome o (AreDivisors g.row.W)) (sym (returns-then-not-has-clause-exact g c)) (divisors_usable g.row.W (in_fact g.row.W fact) fact.known.width.least)

pub ends_between-requires : goal.ends_between-requires
ends_between-requires g c =
    let one = c.args.self.now.known.width.least in let top = c.most.ensures in
    let two = pow_below 0 g.row.W (omega arith) in
    (lit< tt, (lit< tt, (omega arith, omega arith)))

pub returns-clause-exact : goal.returns-clause-exact
unfolding divisors_of
returns-clause-exact g c = let fact = c.args.self.now in
    c.ends_between.ensures ∙ ap (ends_in g.row.W) (divisors_between g.row.W c.most.result (in_fact g.row.W fact) c.most.ensures (in_numbers_fits g.row.W (numbers_of fact)))

pub returns-clause-usable : goal.returns-clause-usable
returns-clause-usable g c = let fact = c.args.self.now in
    if_shown (shown_ends {W = g.row.W}) (AreDivisors g.row.W) c.ends_between.result
    (subst (λ (o : Option EndsOf). IfSome o (AreDivisors g.row.W)) (sym (returns-clause-exact g c)) (divisors_usable g.row.W (in_fact g.row.W fact) fact.known.width.least))

pub returns-clause-covers : goal.returns-clause-covers
returns-clause-covers g c y some member = let fact = c.args.self.now in
    some_shown (shown_ends {W = g.row.W}) (λ e. Between g.row.W e y) c.ends_between.result
    (subst (λ (o : Option EndsOf). IsSomeAnd o (λ e. Between g.row.W e y)) (sym (returns-clause-exact g c))
    (divisors_cover g.row.W (in_fact g.row.W fact) y fact.known.width.least (in_numbers_fits g.row.W (numbers_of fact) y member) some member))
