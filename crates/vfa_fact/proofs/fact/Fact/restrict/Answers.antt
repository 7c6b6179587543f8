use Rattle.std.proofs.Common.{sym, ◌∙◌, ap, Some, arith}
use Rattle.std.specs.Option.{option_map}
use Rattle.vfa_fact.specs.Compare.{satisfies, restrict_of}
use Rattle.vfa_fact.specs.Fact.{in_numbers_fits}
use Rattle.vfa_fact.specs.Views.{numbers_of, in_fact}
use Rattle.vfa_fact.proofs.Restricted.{left_fact, kept_has}
use Rattle.vfa_fact.proofs.SharpArcs.{shown_has}
use Rattle.vfa_fact.proofs.fact.Fact.restrict.Goals as goal

pub returns-in_err-numbers-clause-exact : goal.returns-in_err-numbers-clause-exact
returns-in_err-numbers-clause-exact g c =
    ap (option_map numbers_of) c.from_residual.ensures ∙ sym c.in_err-numbers.was ∙ c.restricted.ensures

pub from_numbers-requires : goal.from_numbers-requires
from_numbers-requires g c = let a = c.args.self.now in (
  omega arith,
  (
    a.known.width,
    left_fact g.row.W c.args.pred (numbers_of a) c.in_ok-numbers.numbers (in_fact g.row.W c.args.other.now) a.sharp
        (sym c.restricted.ensures ∙ c.in_ok-numbers.was),
  ),
)

pub returns-clause-exact : goal.returns-clause-exact
returns-clause-exact g c = ap Some c.from_numbers.ensures ∙ sym c.in_ok-numbers.was ∙ c.restricted.ensures

pub returns-in_err-numbers-clause-keeps : goal.returns-in_err-numbers-clause-keeps
unfolding restrict_of
returns-in_err-numbers-clause-keeps g c x y member other passes =
    let a = c.args.self.now in let b = c.args.other.now in
    shown_has numbers_of g.row.W x c.from_residual.result
    (kept_has g.row.W (numbers_of a) (in_fact g.row.W b) (satisfies g.row.W c.args.pred) _ a.sharp (returns-in_err-numbers-clause-exact g c) x y member
    (in_numbers_fits g.row.W (numbers_of b) y other) other passes)

pub returns-clause-keeps : goal.returns-clause-keeps
unfolding restrict_of
returns-clause-keeps g c x y member other passes =
    let a = c.args.self.now in let b = c.args.other.now in
    shown_has numbers_of g.row.W x (Some c.from_numbers.result)
    (kept_has g.row.W (numbers_of a) (in_fact g.row.W b) (satisfies g.row.W c.args.pred) _ a.sharp (returns-clause-exact g c) x y member
    (in_numbers_fits g.row.W (numbers_of b) y other) other passes)
