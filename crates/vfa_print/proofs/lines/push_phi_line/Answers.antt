use Rattle.std.proofs.Common.{arith, codes}
use Rattle.vfa_ir.specs.Spelling.{phi}
use Rattle.vfa_print.specs.Trees.{phi_tree}
use Rattle.vfa_print.proofs.Drafts.{line_ends, with_tokens_append}
use Rattle.vfa_print.proofs.lines.push_phi_line.Goals as goal

pub returns : goal.returns
returns c =
    let ls = phi (phi_tree c.args.names.now c.args.phi.now) in
    line_ends c.line_feed.result c.args.w.now c.bytes.new.self c.push_phi.new.w c.line_feed.new.self (codes "  ") ls
    c.in_ok-bytes.ensures (grind (arith, with_tokens_append)) c.line_feed.ensures
