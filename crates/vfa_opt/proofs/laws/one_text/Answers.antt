use Rattle.vfa_opt.proofs.EachJob.{one_module_text}
use Rattle.vfa_opt.proofs.laws.one_text.Goals as goal

pub returns : goal.returns
returns c =
    one_module_text c.one_list_of_pieces.ensures c.one_report.ensures c.one_optimised.ensures c.inside_is_checked.ensures.checked
    c.one_answer_of_facts.ensures
