use Rattle.std.proofs.Common.{drop, sym, ◌∙◌, ap}
use Rattle.vfa_read.specs.Productions.{attachment, attachments}
use Rattle.vfa_read.specs.Seen.{all_of}
use Rattle.vfa_read.proofs.Attached.{attachments_done, attachments_item, attachments_bad, attachment_shorter}
use Rattle.vfa_read.proofs.Loops.{prefix_done, prefix_item, prefix_bad, with_prefix, stops_through, gives_error}
use Rattle.vfa_read.proofs.source.Source.attachments.Goals as goal

pub returns-in_err-attachment : goal.returns-in_err-attachment
returns-in_err-attachment c =
    let all = all_of c.args.self.now in
    let here = attachments (drop c.list.at all) in
    let e = c.in_err-attachment.field-0.0 in
    let found = sym c.has_mark.ensures ∙ c.list-test.true in
    let g = stops_through all e (attachment (drop c.list.at all)) (attachments (drop c.args.from all))
    (λ n i. sym c.list.invariant ∙ prefix_bad c.list.list.items n here (attachments_bad (drop c.list.at all) n found i)) c.in_err-attachment.ensures in
    gives_error all e c.from_residual.result (attachments (drop c.args.from all)) c.from_residual.ensures.1 g

pub list-smaller : goal.list-smaller
list-smaller c = let a = c.in_ok-attachment.ensures in attachment_shorter _ _ _ a

pub list-preserved : goal.list-preserved
list-preserved c =
    let all = all_of c.args.self.now in
    let prefix = c.list.list.items in
    let item = attachments_item (drop c.list.at all) (drop c.in_ok-attachment.next all) c.in_ok-attachment.attachment (sym c.has_mark.ensures ∙ c.list-test.true) c.in_ok-attachment.ensures in
    let e = prefix_item prefix c.in_ok-attachment.attachment (attachments (drop c.list.at all)) (attachments (drop c.in_ok-attachment.next all)) item in
    ap (λ z. with_prefix z (attachments (drop c.in_ok-attachment.next all))) c.in_ok-push.ensures.items ∙ sym e ∙ c.list.invariant

pub returns : goal.returns
returns c =
    let all = all_of c.args.self.now in
    sym c.list.invariant ∙ prefix_done c.list.list.items (drop c.list.at all) (attachments (drop c.list.at all)) (attachments_done (drop c.list.at all) (sym c.has_mark.ensures ∙ c.list-test.false))
