use Rattle.std.proofs.Common.{arith, codes}
use Rattle.vfa_ir.specs.Spelling.{switch_case}
use Rattle.vfa_print.specs.Trees.{case_tree}
use Rattle.vfa_print.proofs.Drafts.{line_ends, with_tokens_append}
use Rattle.vfa_print.proofs.terminators.push_case_line.Goals as goal

pub returns : goal.returns
returns c =
    let ls = switch_case c.args.width (case_tree c.args.names.now c.args.width (c.args.number, c.args.to)) in
    line_ends c.line_feed.result c.args.w.now c.bytes.new.self c.push_case.new.w c.line_feed.new.self (codes "    ") ls
    c.in_ok-bytes.ensures (grind (arith, with_tokens_append)) c.line_feed.ensures
