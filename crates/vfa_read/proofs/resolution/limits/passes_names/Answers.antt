use Rattle.std.proofs.Common.{arith, ◌+◌, length, flat_map, drop, ap, length-append, ◌∙◌}
use Rattle.vfa_read.proofs.NameCounts.{length-value_names, step-flat_map, end-flat_map, passes, passes_not}
use Rattle.vfa_ir.specs.DefinedNames.{block_results}
use Rattle.vfa_read.proofs.resolution.limits.passes_names.Goals as goal

pub returns-then-parameters-gt-MOST_NAMES : goal.returns-then-parameters-gt-MOST_NAMES
returns-then-parameters-gt-MOST_NAMES c =
    let e = length-value_names c.args.parameters.now c.args.blocks.now in
    passes _ _ (omega (arith, e))

pub returns-in-None : goal.returns-in-None
returns-in-None c =
    let bs = c.args.blocks.now in
    let e = length-value_names c.args.parameters.now bs in
    let n = step-flat_map block_results bs c.count.block-index c.block-item.result c.count-test.true c.block-item.is in
    let l = length-append (block_results c.block-item.result) (flat_map block_results (drop (c.count.block-index + 1) bs)) in
    let k = ap length n ∙ l in
    passes _ _ (omega (arith, e, k, c.in-None.ensures))

pub returns : goal.returns
returns c =
    let bs = c.args.blocks.now in
    let e = length-value_names c.args.parameters.now bs in
    let k = ap length (end-flat_map block_results bs c.count.block-index (omega arith)) in
    passes_not _ _ (omega (arith, e, k))
