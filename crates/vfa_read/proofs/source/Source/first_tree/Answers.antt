use Rattle.std.proofs.Common.{suc, ◌++◌, ◌∙◌, ap, drop}
use Rattle.vfa_ir.specs.TextLines.{block_lines}
use Rattle.vfa_read.specs.Seen.{all_of, line_numbers}
use Rattle.vfa_read.proofs.TreeReader.{begins, tree_error, header_stops, tail_stops, body_stops}
use Rattle.vfa_read.proofs.source.Source.first_tree.Goals as goal

pub returns-in_err-header-clause-gives : goal.returns-in_err-header-clause-gives
returns-in_err-header-clause-gives c =
    let all = all_of c.args.self.now in
    let e = c.in_err-header.field-0.0 in
    tree_error all e c.from_residual.result c.from_residual.ensures.1 (header_stops all e c.in_err-header.ensures)

pub returns-in_err-tail_end-clause-gives : goal.returns-in_err-tail_end-clause-gives
returns-in_err-tail_end-clause-gives c =
    let all = all_of c.args.self.now in
    let e = c.in_err-tail_end.field-0.0 in
    tree_error all e c.from_residual-in_err-tail_end.result c.from_residual-in_err-tail_end.ensures.1 (tail_stops all e c.in_ok-header.header c.in_ok-header.tail_start c.in_ok-header.ensures c.in_err-tail_end.ensures)

pub returns-in_err-blocks-clause-gives : goal.returns-in_err-blocks-clause-gives
returns-in_err-blocks-clause-gives c =
    let all = all_of c.args.self.now in
    let e = c.in_err-blocks.field-0.0 in
    tree_error all e c.from_residual-in_err-blocks.result c.from_residual-in_err-blocks.ensures.1
    (body_stops all e c.in_ok-header.header c.in_ok-header.tail_start c.in_ok-tail_end.tail_end c.in_ok-header.ensures c.in_ok-tail_end.ensures.1 c.in_err-blocks.ensures.gives)

pub returns-clause-gives : goal.returns-clause-gives
returns-clause-gives c = begins (all_of c.args.self.now) (record {
  header = c.in_ok-header.header;
  tail_start = c.in_ok-header.tail_start;
  tail_end = c.in_ok-tail_end.tail_end;
  blocks = c.in_ok-blocks.blocks;
  lines = c.body.new.lines.items;
}) c.in_ok-blocks.at c.in_ok-header.ensures c.in_ok-tail_end.ensures.0 c.in_ok-tail_end.ensures.1 c.in_ok-blocks.ensures.gives

pub returns-clause-lines : goal.returns-clause-lines
returns-clause-lines c =
    let numbers = drop (suc c.in_ok-tail_end.tail_end) (line_numbers c.args.self.now) in
    c.in_ok-blocks.ensures.lines ∙ ap (λ z. z ++ block_lines c.in_ok-blocks.blocks numbers) c.new-lines.ensures.items
