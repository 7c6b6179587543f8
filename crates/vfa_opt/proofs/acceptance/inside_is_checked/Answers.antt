use Rattle.vfa_opt.proofs.InsideChecked.{few_names}
use Rattle.vfa_opt.proofs.acceptance.inside_is_checked.Goals as goal

pub returns-clause-checked : goal.returns-clause-checked
returns-clause-checked c text f i =
    let may = c.accepted_may_be_checked.ensures text f i.lines i.reads in
    record {
      fit = may.fit;
      small = may.small;
      within = c.fit_is_within.ensures f may.fit;
      once = c.fit_defines_once.ensures.once f may.fit;
      in_order = c.fit_defines_once.ensures.in_order f may.fit;
      formed = i.formed;
    }

pub returns-clause-few : goal.returns-clause-few
returns-clause-few c = few_names
