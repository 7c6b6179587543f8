use Rattle.std.proofs.Common.{◌∷◌, ◌∙◌, ap}
use Rattle.vfa_ir.specs.Spelling.{comma, parameter}
use Rattle.vfa_print.specs.Trees.{parameter_tree}
use Rattle.vfa_print.specs.Writing.{with_tokens}
use Rattle.vfa_print.proofs.Loops.{tokens_step}
use Rattle.vfa_print.proofs.headers.push_further.Goals as goal

pub params-preserved : goal.params-preserved
params-preserved c =
    let tree = parameter_tree c.args.names.now c.args.values.now in
    let x = c.param-item.result in
    tokens_step (λ p. comma ∷ parameter p) tree c.args.rest.now c.params.param-index x _ c.params.w c.push_parameter.new.w
    c.params-test.true c.param-item.is c.params.invariant
    (c.in_ok-push_parameter.ensures ∙ ap (λ d. with_tokens d (parameter (tree x))) c.in_ok-mark.ensures)
