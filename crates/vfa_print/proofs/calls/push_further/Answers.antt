use Rattle.std.proofs.Common.{◌∷◌, ◌∙◌, ap}
use Rattle.vfa_ir.specs.Spelling.{argument, comma}
use Rattle.vfa_print.specs.Trees.{argument_tree}
use Rattle.vfa_print.specs.Writing.{with_tokens}
use Rattle.vfa_print.proofs.Loops.{tokens_step}
use Rattle.vfa_print.proofs.calls.push_further.Goals as goal

pub passed-preserved : goal.passed-preserved
passed-preserved c =
    let tree = argument_tree c.args.names.now in
    let x = c.arg-item.result in
    tokens_step (λ a. comma ∷ argument a) tree c.args.rest.now c.passed.arg-index x _ c.passed.w c.push_argument.new.w
    c.passed-test.true c.arg-item.is c.passed.invariant
    (c.in_ok-push_argument.ensures ∙ ap (λ d. with_tokens d (argument (tree x))) c.in_ok-mark.ensures)
