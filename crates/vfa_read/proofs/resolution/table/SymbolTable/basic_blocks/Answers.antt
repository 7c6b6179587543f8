use Rattle.std.proofs.Common.{◌≡◌, ◌+◌, ◌++◌, ◌∷◌, List, drop, flat_map, length, ap, sym, ◌∙◌, append_assoc}
use Rattle.vfa_ir.specs.declared.syntax.BasicBlock.{BasicBlock}
use Rattle.vfa_ir.specs.DefinedNames.{Use, block_uses}
use Rattle.vfa_ir.specs.Resolution.{block_calls, block_of, blocks_of}
use Rattle.vfa_read.proofs.CallPlaces.{block_places}
use Rattle.vfa_read.proofs.Definitions.{item_and_rest}
use Rattle.vfa_read.proofs.Unknowns.{item_known, item_unknown, item_made, error_resolves}
use Rattle.vfa_read.proofs.resolution.table.SymbolTable.basic_blocks.Goals as goal

pub each-preserved : goal.each-preserved
each-preserved c =
    let scope = c.args.self.now in
    let xs = c.args.blocks.now in
    let i = c.each.block-index in
    let x = c.block-item.result in
    let at = item_and_rest xs i x c.each-test.true c.block-item.is in
    let uses : List BasicBlock → List Use = flat_map block_uses in
    let rest = drop (i + 1) xs in
    let before = c.each.calls.items in
    let after = c.basic_block.new.calls.items in
    let grown : after ≡ before ++ block_calls scope x = c.in_ok-item.ensures.calls in
    let place = ap length grown ∙ block_places scope before x in
    let made = ap (λ n. block_of scope (length before) x ∷ blocks_of scope n rest) (sym place) in
    let calls : List BasicBlock → _ = flat_map (block_calls scope) in (
      item_known scope (uses xs) (uses (drop i xs)) (block_uses x) (uses rest) c.each.invariant.0 (ap uses at) c.in_ok-item.ensures.resolves.0,
      item_made c.each.list.items c.push.new.self.items (blocks_of scope (length c.args.calls.now.items) xs) (blocks_of scope (length before) (drop i xs)) c.in_ok-item.item (block_of scope (length before) x) (blocks_of scope (length after) rest)
          c.each.invariant.1 (ap (blocks_of scope (length before)) at ∙ made) c.in_ok-item.ensures.resolves.1 c.in_ok-push.ensures.items,
      ap (λ z. z ++ calls rest) grown ∙ append_assoc before (block_calls scope x) (calls rest) ∙ ap (λ z. before ++ z) (sym (ap calls at)) ∙ c.each.invariant.2,
    )

pub returns-in_err-item-clause-resolves : goal.returns-in_err-item-clause-resolves
returns-in_err-item-clause-resolves c =
    let scope = c.args.self.now in
    let xs = c.args.blocks.now in
    let i = c.each.block-index in
    let x = c.block-item.result in
    let at = item_and_rest xs i x c.each-test.true c.block-item.is in
    let uses : List BasicBlock → List Use = flat_map block_uses in
    let rest = drop (i + 1) xs in
    error_resolves scope _ _ _ c.in_err-item.field-0.0 c.from_residual.ensures.1
    (item_unknown scope (uses xs) (uses (drop i xs)) (block_uses x) (uses rest) c.in_err-item.field-0.0 c.each.invariant.0 (ap uses at) c.in_err-item.ensures.resolves)
