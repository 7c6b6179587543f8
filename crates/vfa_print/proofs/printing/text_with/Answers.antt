use Rattle.std.proofs.Common.{◌∙◌, ◌++◌, ap, ap₂}
use Rattle.vfa_ir.specs.Spelling.{header}
use Rattle.vfa_print.specs.Layout.{blocks_text, tail_text}
use Rattle.vfa_print.specs.Trees.{blocks_tree, tree_with}
use Rattle.vfa_print.proofs.WholeTexts.{whole_text}
use Rattle.vfa_print.proofs.printing.text_with.Goals as goal

pub returns : goal.returns
returns c =
    let names = c.args.names.now in
    let f = c.args.f.now in
    c.into_text.ensures
    ∙ whole_text (header (tree_with names f)) (tail_text f.tail) (blocks_text (blocks_tree names f.calls 0 f.blocks)) c.new-w.result
    c.push_header.new.w.text c.push_tail.new.w.text c.bytes-2.new.self.text c.push_blocks.new.w.text c.bytes-3.new.self.text
    c.new-w.ensures (ap (λ d. d.text) c.in_ok-push_header.ensures) (c.in_ok-push_tail.ensures ∙ ap (λ t. c.push_header.new.w.text ++ tail_text t) c.bytes.ensures) (ap (λ d. d.text) c.in_ok-bytes.ensures)
    (c.in_ok-push_blocks.ensures ∙ ap₂ (λ cs bs. c.bytes-2.new.self.text ++ blocks_text (blocks_tree names cs 0 bs)) c.as_slice-calls.ensures c.as_slice-blocks.ensures) (ap (λ d. d.text) c.in_ok-bytes-2.ensures)
