use Rattle.vfa_known.proofs.EndRuns.{whole_high, high_sum_fits, high_sum_le, high_is}
use Rattle.vfa_known.proofs.runs.high_run.Goals as goal

pub returns-then-others-eq0 : goal.returns-then-others-eq0
returns-then-others-eq0 g c = whole_high g.row.W c.most-most.result c.args.places c.requires.width c.most-most.ensures c.requires.fits c.if-others-eq0.true

pub overflow_add-result : goal.overflow_add-result
overflow_add-result g c = let log = c.ilog2 in record {
  fits = high_sum_fits g.row.W c.most-most.result c.args.places c.requires.width c.most-most.ensures c.requires.fits log.result log.ensures.bound
      log.ensures.power_le log.ensures.next_power_gt;
}

pub overflow_sub-result-2 : goal.overflow_sub-result-2
overflow_sub-result-2 g c = let log = c.ilog2 in
    high_sum_le g.row.W c.most-most.result c.args.places c.requires.width c.most-most.ensures c.requires.fits log.result log.ensures.bound
    log.ensures.power_le log.ensures.next_power_gt

pub returns : goal.returns
returns g c = let log = c.ilog2 in
    high_is g.row.W c.most-most.result c.args.places c.requires.width c.most-most.ensures c.requires.fits log.result log.ensures.bound
    log.ensures.power_le log.ensures.next_power_gt
