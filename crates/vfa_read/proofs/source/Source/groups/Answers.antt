use Rattle.std.proofs.Common.{drop, sym, ◌∙◌, ap}
use Rattle.vfa_read.specs.Productions.{groups}
use Rattle.vfa_read.specs.Readers.{one}
use Rattle.vfa_read.specs.Tables.{group_digits}
use Rattle.vfa_read.specs.Seen.{all_of}
use Rattle.vfa_read.proofs.CallReaders.{groups_done, groups_item, groups_bad, group_shorter}
use Rattle.vfa_read.proofs.Loops.{prefix_done, prefix_item, prefix_bad, with_prefix, stops_through, gives_error}
use Rattle.vfa_read.proofs.source.Source.groups.Goals as goal

pub returns-in_err-digits : goal.returns-in_err-digits
returns-in_err-digits c =
    let all = all_of c.args.self.now in
    let here = groups (drop c.list.at all) in
    let e = c.in_err-digits.field-0.0 in
    let found = sym c.has_group.ensures ∙ c.list-test.true in
    let g = stops_through all e (one group_digits (drop c.list.at all)) (groups (drop c.args.from all))
    (λ n i. sym c.list.invariant ∙ prefix_bad c.list.list.items n here (groups_bad (drop c.list.at all) n found i)) c.in_err-digits.ensures in
    gives_error all e c.from_residual.result (groups (drop c.args.from all)) c.from_residual.ensures.1 g

pub list-smaller : goal.list-smaller
list-smaller c = let a = c.in_ok-digits.ensures in group_shorter _ _ _ a

pub list-preserved : goal.list-preserved
list-preserved c =
    let all = all_of c.args.self.now in
    let prefix = c.list.list.items in
    let next = drop c.in_ok-digits.next all in
    let item = groups_item (drop c.list.at all) next c.in_ok-digits.digits (sym c.has_group.ensures ∙ c.list-test.true) c.in_ok-digits.ensures in
    let e = prefix_item prefix c.in_ok-digits.digits (groups (drop c.list.at all)) (groups next) item in
    ap (λ z. with_prefix z (groups next)) c.in_ok-push.ensures.items ∙ sym e ∙ c.list.invariant

pub returns : goal.returns
returns c =
    let all = all_of c.args.self.now in
    sym c.list.invariant ∙ prefix_done c.list.list.items (drop c.list.at all) (groups (drop c.list.at all)) (groups_done (drop c.list.at all) (sym c.has_group.ensures ∙ c.list-test.false))
