use Rattle.vfa_opt.proofs.reported.reported.Goals as goal

pub returns-clause-sound : goal.returns-clause-sound
returns-clause-sound c = λ text report. record {
  report = report;
  holds =
      c.reports_hold.ensures c.args.f.now c.function-checked.ensures.checked (c.fit_is_printable.ensures c.args.f.now c.function-checked.ensures.checked.fit)
      report.table report.is_table;
  best =
      c.bits_are_best.ensures c.args.f.now c.function-checked.ensures.checked (c.fit_is_printable.ensures c.args.f.now c.function-checked.ensures.checked.fit)
      report.table report.is_table;
}
