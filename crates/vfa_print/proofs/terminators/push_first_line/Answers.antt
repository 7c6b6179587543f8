use Rattle.std.proofs.Common.{arith, codes}
use Rattle.vfa_ir.specs.Spelling.{typed}
use Rattle.vfa_print.specs.Layout.{switch_head}
use Rattle.vfa_print.specs.Trees.{block_name_at, operand_tree}
use Rattle.vfa_print.proofs.Drafts.{line_ends, with_tokens_append}
use Rattle.vfa_print.proofs.terminators.push_first_line.Goals as goal

pub returns : goal.returns
returns c =
    let ls = switch_head c.args.width (typed c.args.width (operand_tree c.args.names.now c.args.width c.args.on)) (block_name_at c.args.names.now c.args.other) in
    line_ends c.line_feed.result c.args.w.now c.bytes.new.self c.push_first.new.w c.line_feed.new.self (codes "  ") ls
    c.in_ok-bytes.ensures (grind (arith, with_tokens_append)) c.line_feed.ensures
