use Rattle.std.proofs.lemmas.Bool.{OnTrue_at}
use Rattle.vfa_dom.specs.Results.{images}
use Rattle.vfa_dom.proofs.ResultSets.{shifts_vary}
use Rattle.vfa_known.specs.Known.{masks_of, in_known}
use Rattle.vfa_known.specs.Shift.{shift_of}
use Rattle.vfa_known.proofs.Amounts.{first_meet, next_meet_at, over_masks_at, shift_stays, least_seen, still_seen}
use Rattle.vfa_known.proofs.Lasting.{whole_masks}
use Rattle.vfa_known.proofs.known.Known.shifted_over.Goals as goal

pub loop-left-init : goal.loop-left-init
loop-left-init g c =
    let m = c.args.self.now in let run = c.lowest_run-run in (
      first_meet g.row.W (λ t. images g.row.W (λ x. shift_of c.args.shift g.row.W x t) (in_known g.row.W m)) c.args.amounts run.result.first run.result.count
          c.without_run-left.result (masks_of c.shifted_by_run-all.result) run.ensures c.without_run-left.ensures c.requires.below c.shifted_by_run-all.ensures,
      least_seen g.row.W c.args.amounts run.result.first run.result.count c.without_run-left.result run.ensures c.without_run-left.ensures,
    )

pub returns-then-lasts-clause-best : goal.returns-then-lasts-clause-best
returns-then-lasts-clause-best g c =
    let m = c.args.self.now in let all = c.loop-left.all in
    whole_masks g.row.W c.args.shift c.args.amounts m.zeros m.ones (masks_of all) m.width m.cube c.requires.below (OnTrue_at c.if-lasts.true c.lasts.ensures)
    c.loop-left.left all.cube c.loop-left.invariant.1 c.loop-left.invariant.0

pub returns-then-lasts-clause-unknown : goal.returns-then-lasts-clause-unknown
returns-then-lasts-clause-unknown g c =
    let m = c.args.self.now in
    shifts_vary g.row.W (shift_of c.args.shift g.row.W) (in_known g.row.W m) c.args.amounts
    (shift_stays c.args.shift g.row.W m.width).fits _ (returns-then-lasts-clause-best g c)

pub loop-left-preserved : goal.loop-left-preserved
loop-left-preserved g c =
    let m = c.args.self.now in let run = c.lowest_run-next in let rest = c.without_run-left-in-loop-left in (
      next_meet_at g.row.W (λ t. images g.row.W (λ x. shift_of c.args.shift g.row.W x t) (in_known g.row.W m)) c.args.amounts
          c.loop-left.left run.result.first run.result.count rest.result (masks_of c.loop-left.all) (masks_of c.shifted_by_run.result) (masks_of c.join-all.result)
          c.loop-left.invariant.0 run.ensures rest.ensures c.shifted_by_run.ensures c.join-all.ensures.alike,
      still_seen c.args.amounts c.loop-left.left run.result.first run.result.count rest.result c.loop-left.invariant.1 rest.ensures,
    )

pub returns-clause-best : goal.returns-clause-best
returns-clause-best g c =
    let m = c.args.self.now in
    let all = c.loop-left.all in
    over_masks_at g.row.W (shift_of c.args.shift g.row.W) (in_known g.row.W m) c.args.amounts (shift_stays c.args.shift g.row.W m.width)
    c.requires.below c.loop-left.left (masks_of all) all.cube.zeros_fit all.cube.ones_fit c.loop-left-test.false c.loop-left.invariant.0

pub returns-clause-unknown : goal.returns-clause-unknown
returns-clause-unknown g c =
    let m = c.args.self.now in
    shifts_vary g.row.W (shift_of c.args.shift g.row.W) (in_known g.row.W m) c.args.amounts
    (shift_stays c.args.shift g.row.W m.width).fits _ (returns-clause-best g c)
