use Rattle.std.proofs.Common.{◌≡◌, Bool, true, ◌&&◌, arith}
use Rattle.vfa_known.specs.Known.{in_known}
use Rattle.vfa_wrap.specs.Wrapped.{in_arc}
use Rattle.vfa_fact.specs.Views.{in_test}
use Rattle.vfa_fact.proofs.test.Test.inside.Goals as goal

alone : (k a f : Bool) → k ≡ true → f ≡ true → (k && (a && f)) ≡ a
alone k a f ek ef = grind arith

pub returns : goal.returns
unfolding in_test
returns g c x fits =
    alone (in_known g.row.W c.any.result x) (in_arc g.row.W c.args.arc x) (in_arc g.row.W c.any-2.result x) (c.any.ensures.all x fits) (c.any-2.ensures.all x fits)
