use Rattle.std.proofs.Common.{◌∷◌, ◌++◌, [], drop, sym, ◌∙◌, ap}
use Rattle.vfa_read.specs.Productions.{block_with, written_label, further_blocks}
use Rattle.vfa_read.specs.Readers.{made}
use Rattle.vfa_read.specs.Seen.{all_of}
use Rattle.vfa_read.proofs.CountedBlocks.{blocks_counted, counted_others, none_counted}
use Rattle.vfa_read.proofs.WholeBlocks.{blocks_done, blocks_item, blocks_bad, block_shorter, labelled_exact}
use Rattle.vfa_read.proofs.Loops.{prefix_done, prefix_item, prefix_bad, with_prefix, stops_through, gives_error}
use Rattle.vfa_read.proofs.source.Source.blocks_after.Goals as goal

pub list-init : goal.list-init
list-init c =
    let s = c.args.self.now in
    let first = c.args.first in
    let is = c.in_ok-push.ensures.items ∙ ap (λ z. z ++ first ∷ []) c.new-list.ensures.items in (
      ap (λ z. with_prefix z (further_blocks (drop c.args.from (all_of s)))) is,
      none_counted s c.args.from c.args.lines.now.items first c.push.new.self.items is,
    )

pub returns-in_err-block-clause-gives : goal.returns-in_err-block-clause-gives
returns-in_err-block-clause-gives c =
    let all = all_of c.args.self.now in
    let here = further_blocks (drop c.list.at all) in
    let e = c.in_err-block.field-0.0 in
    let found = sym c.starts_label.ensures ∙ c.list-test.true in
    let whole = made (λ more. c.args.first ∷ more) further_blocks (drop c.args.from all) in
    let g = stops_through all e (block_with written_label (drop c.list.at all)) whole
    (λ n i. sym c.list.invariant.0 ∙ prefix_bad c.list.list.items n here (blocks_bad (drop c.list.at all) n found i)) c.in_err-block.ensures.gives in
    gives_error all e c.from_residual-in_err-block.result whole c.from_residual-in_err-block.ensures.1 g

pub list-smaller : goal.list-smaller
list-smaller c = let a = c.in_ok-block.ensures.gives in block_shorter _ _ _ a

pub list-preserved : goal.list-preserved
list-preserved c =
    let s = c.args.self.now in
    let all = all_of s in
    let prefix = c.list.list.items in
    let x = c.in_ok-block.block in
    let here = drop c.list.at all in
    let next = drop c.in_ok-block.next all in
    let read = c.in_ok-block.ensures.gives in
    let item = blocks_item here next x (sym c.starts_label.ensures ∙ c.list-test.true) read in
    let e = prefix_item prefix x (further_blocks here) (further_blocks next) item in
    let sound = labelled_exact.sound here next x read in (
      ap (λ z. with_prefix z (further_blocks next)) c.in_ok-push-2.ensures.items ∙ sym e ∙ c.list.invariant.0,
      blocks_counted s c.args.from c.list.at c.in_ok-block.next c.args.lines.now.items c.list.lines.items c.labelled_block.new.lines.items c.args.first prefix c.push-in-list.new.self.items x
          c.list.invariant.1 sound c.in_ok-block.ensures.lines c.in_ok-push-2.ensures.items,
    )

pub returns-clause-gives : goal.returns-clause-gives
returns-clause-gives c =
    let all = all_of c.args.self.now in
    sym c.list.invariant.0 ∙ prefix_done c.list.list.items (drop c.list.at all) (further_blocks (drop c.list.at all)) (blocks_done (drop c.list.at all) (sym c.starts_label.ensures ∙ c.list-test.false))

pub returns-clause-lines : goal.returns-clause-lines
returns-clause-lines c = counted_others c.args.self.now c.args.from c.list.at c.args.lines.now.items c.list.lines.items c.args.first c.list.list.items c.list.invariant.1
