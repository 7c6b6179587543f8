use Rattle.std.proofs.Common.{refl}
use Rattle.vfa_fact.proofs.Facts.{none_tells}
use Rattle.vfa_fact.proofs.Tested.{some_tells}
use Rattle.vfa_xfer.proofs.Wanted.{masked_is_cube, agreeing_test}
use Rattle.vfa_xfer.proofs.restrictions.agreeing.Goals as goal

pub unreachable-requires : goal.unreachable-requires
unreachable-requires g c =
    none_tells _ _ _ c.new.ensures c.in_default.is (masked_is_cube g.row.W c.args.mask c.args.value _ _ c.requires.mask refl refl)

pub returns : goal.returns
returns g c =
    agreeing_test (record { cube = c.in-Some.cube; one = c.any.result; two = c.any-2.result }) c.args.mask c.args.value _ _ c.requires.mask refl refl
    (some_tells _ _ _ c.in-Some.cube c.new.ensures c.in-Some.is) c.any.ensures.all c.any-2.ensures.all
