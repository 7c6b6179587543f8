use Rattle.std.proofs.Common.{◌≡◌, arith, subst}
use Rattle.std.proofs.lemmas.Bool.{OnTrue_at}
use Rattle.vfa_dom.specs.Results.{images}
use Rattle.vfa_known.specs.AmountRuns.{AreKnownOverRun}
use Rattle.vfa_known.specs.Known.{masks_of, in_known}
use Rattle.vfa_known.specs.Shift.{shift_of}
use Rattle.vfa_known.proofs.Doubled.{of_first, doubled_at}
use Rattle.vfa_known.proofs.Lasting.{lasting_run}
use Rattle.vfa_known.proofs.known.Known.shifted_by_run.Goals as goal

pub loop-done-init : goal.loop-done-init
loop-done-init g c =
    let m = c.args.self.now in let some = c.requires.some in (
      of_first g.row.W (λ t. images g.row.W (λ x. shift_of c.args.shift g.row.W x t) (in_known g.row.W m)) c.args.run.first (masks_of c.shifted-all.result) c.shifted-all.ensures,
      omega arith,
      omega arith,
    )

pub returns-then-lasts : goal.returns-then-lasts
returns-then-lasts g c =
    let m = c.args.self.now in let known = c.loop-done.invariant in
    lasting_run c.args.shift g.row.W m.zeros m.ones c.args.run.first c.loop-done.done c.args.run.count (masks_of c.loop-done.all) m.width m.cube
    known.1 c.loop-done-test.true c.requires.below (OnTrue_at c.if-lasts.true c.lasts.ensures) known.0

pub loop-done-preserved : goal.loop-done-preserved
loop-done-preserved g c =
    let m = c.args.self.now in let known = c.loop-done.invariant in let more = c.min-more.ensures in let test = c.loop-done-test.true in
    let below = c.requires.below in let at_least = known.1 in let at_most = known.2 in (
      doubled_at c.args.shift g.row.W m.zeros m.ones c.args.run.first c.loop-done.done c.min-more.result (masks_of c.loop-done.all) (masks_of c.shifted.result) m.width m.cube
          c.loop-done.all.cube (omega arith) (omega arith) (omega arith) known.0 c.shifted.ensures (masks_of c.join-all.result) c.join-all.ensures.alike,
      omega arith,
      omega arith,
    )

pub returns : goal.returns
returns g c =
    let m = c.args.self.now in let known = c.loop-done.invariant in
    let test = c.loop-done-test.false in let at_most = known.2 in
    let done : c.loop-done.done ≡ c.args.run.count = omega arith in
    subst (λ k. AreKnownOverRun g.row.W (λ t. images g.row.W (λ x. shift_of c.args.shift g.row.W x t) (in_known g.row.W m)) c.args.run.first k (masks_of c.loop-done.all))
    done known.0
