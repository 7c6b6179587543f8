use Rattle.std.proofs.Common.{arith, codes}
use Rattle.vfa_ir.specs.Spelling.{instruction}
use Rattle.vfa_print.specs.Trees.{inst_tree}
use Rattle.vfa_print.proofs.Drafts.{line_ends, with_tokens_append}
use Rattle.vfa_print.proofs.lines.push_inst_line.Goals as goal

pub returns : goal.returns
returns c =
    let ls = instruction (inst_tree c.args.names.now c.args.calls.now c.args.inst.now) in
    line_ends c.line_feed.result c.args.w.now c.bytes.new.self c.push_inst.new.w c.line_feed.new.self (codes "  ") ls
    c.in_ok-bytes.ensures (grind (arith, with_tokens_append)) c.line_feed.ensures
