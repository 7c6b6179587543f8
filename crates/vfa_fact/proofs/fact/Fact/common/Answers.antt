use Rattle.std.proofs.Common.{sym, ◌∙◌, ap, Some}
use Rattle.std.proofs.lemmas.Bool.{OnTrue_at}
use Rattle.vfa_known.specs.Known.{in_known}
use Rattle.vfa_fact.specs.Views.{numbers_of, in_fact}
use Rattle.vfa_fact.proofs.Facts.{none_tells}
use Rattle.vfa_fact.proofs.Restricted.{all_left, by_both, no_common}
use Rattle.vfa_fact.proofs.Tested.{some_tells}
use Rattle.vfa_fact.proofs.fact.Fact.common.Goals as goal

pub returns-then-takes_in : goal.returns-then-takes_in
returns-then-takes_in g c = let a = c.args.self.now in
    ap Some c.numbers.ensures ∙ all_left g.row.W (numbers_of a) a.sharp (in_fact g.row.W c.args.other.now) (OnTrue_at c.if-takes_in.true c.takes_in.ensures)

pub returns-in_err-cube : goal.returns-in_err-cube
returns-in_err-cube g c = let a = c.args.self.now in
    c.from_residual.ensures ∙ sym (no_common g.row.W (numbers_of a) a.sharp (numbers_of c.args.other.now) (none_tells c.agree.result _ _ c.agree.ensures c.in_err-cube.was))

pub returns : goal.returns
returns g c = let a = c.args.self.now in
    let agreed = some_tells c.agree.result _ _ c.in_ok-cube.cube c.agree.ensures c.in_ok-cube.was in
    c.numbers_in_both.ensures ∙ by_both g.row.W (numbers_of a) a.sharp (numbers_of c.args.other.now) (in_known g.row.W c.in_ok-cube.cube) agreed.numbers
