use Rattle.std.proofs.Common.{arith, codes}
use Rattle.vfa_ir.specs.declared.functions.Term.{Term}
use Rattle.vfa_ir.specs.Spelling.{terminator_kind}
use Rattle.vfa_print.specs.Trees.{term_tree}
use Rattle.vfa_print.proofs.Drafts.{line_ends, with_tokens_append}
use Rattle.vfa_print.proofs.terminators.push_return.Goals as goal

pub returns : goal.returns
returns c =
    let ls = terminator_kind (term_tree c.args.names.now (Term.Ret c.args.width c.args.a)) in
    line_ends c.line_feed.result c.args.w.now c.bytes.new.self c.push_typed.new.w c.line_feed.new.self (codes "  ") ls
    c.in_ok-bytes.ensures (grind (arith, with_tokens_append)) c.line_feed.ensures
