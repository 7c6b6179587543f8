use Rattle.std.proofs.Common.{drop, sym, ◌∙◌, ap}
use Rattle.vfa_read.specs.Productions.{switch_case, switch_cases}
use Rattle.vfa_read.specs.Seen.{all_of}
use Rattle.vfa_read.proofs.SwitchReaders.{cases_done, cases_item, cases_bad, case_shorter}
use Rattle.vfa_read.proofs.Loops.{prefix_done, prefix_item, prefix_bad, with_prefix, stops_through, gives_error}
use Rattle.vfa_read.proofs.source.Source.switch_cases.Goals as goal

pub returns-in_err-case : goal.returns-in_err-case
returns-in_err-case c =
    let all = all_of c.args.self.now in
    let here = switch_cases c.args.width (drop c.list.at all) in
    let e = c.in_err-case.field-0.0 in
    let found = sym c.has_any_word.ensures ∙ c.list-test.true in
    let g = stops_through all e (switch_case c.args.width (drop c.list.at all)) (switch_cases c.args.width (drop c.args.from all))
    (λ n i. sym c.list.invariant ∙ prefix_bad c.list.list.items n here (cases_bad c.args.width (record { least = c.requires.least; most = c.requires.most }) (drop c.list.at all) n found i)) c.in_err-case.ensures in
    gives_error all e c.from_residual.result (switch_cases c.args.width (drop c.args.from all)) c.from_residual.ensures.1 g

pub list-smaller : goal.list-smaller
list-smaller c = let a = c.in_ok-case.ensures in case_shorter c.args.width (record { least = c.requires.least; most = c.requires.most }) _ _ _ a

pub list-preserved : goal.list-preserved
list-preserved c =
    let all = all_of c.args.self.now in
    let prefix = c.list.list.items in
    let next = drop c.in_ok-case.next all in
    let item = cases_item c.args.width (record { least = c.requires.least; most = c.requires.most }) (drop c.list.at all) next c.in_ok-case.case (sym c.has_any_word.ensures ∙ c.list-test.true) c.in_ok-case.ensures in
    let e = prefix_item prefix c.in_ok-case.case (switch_cases c.args.width (drop c.list.at all)) (switch_cases c.args.width next) item in
    ap (λ z. with_prefix z (switch_cases c.args.width next)) c.in_ok-push.ensures.items ∙ sym e ∙ c.list.invariant

pub returns : goal.returns
returns c =
    let all = all_of c.args.self.now in
    sym c.list.invariant ∙ prefix_done c.list.list.items (drop c.list.at all) (switch_cases c.args.width (drop c.list.at all)) (cases_done c.args.width (record { least = c.requires.least; most = c.requires.most }) (drop c.list.at all) (sym c.has_any_word.ensures ∙ c.list-test.false))
