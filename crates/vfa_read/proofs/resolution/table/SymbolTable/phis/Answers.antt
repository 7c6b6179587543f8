use Rattle.std.proofs.Common.{◌+◌, List, drop, map, flat_map, ap}
use Rattle.vfa_ir.specs.declared.syntax.PhiNode.{PhiNode}
use Rattle.vfa_ir.specs.DefinedNames.{Use}
use Rattle.vfa_ir.specs.DefinedNames.{phi_uses}
use Rattle.vfa_ir.specs.Resolution.{phi_of}
use Rattle.vfa_read.proofs.Definitions.{item_and_rest}
use Rattle.vfa_read.proofs.Unknowns.{item_known, item_unknown, item_made, error_resolves}
use Rattle.vfa_read.proofs.resolution.table.SymbolTable.phis.Goals as goal

pub each-preserved : goal.each-preserved
each-preserved c =
    let scope = c.args.self.now in
    let xs = c.args.phis.now in
    let i = c.each.phi-index in
    let x = c.phi-item.result in
    let at = item_and_rest xs i x c.each-test.true c.phi-item.is in
    let uses : List PhiNode → List Use = flat_map phi_uses in
    let rest = drop (i + 1) xs in (
      item_known scope (uses xs) (uses (drop i xs)) ((phi_uses) x) (uses rest) c.each.invariant.0 (ap uses at) c.in_ok-item.ensures.0,
      item_made c.each.list.items c.push.new.self.items (map (phi_of scope) xs) (map (phi_of scope) (drop i xs)) c.in_ok-item.item ((phi_of scope) x) (map (phi_of scope) rest)
          c.each.invariant.1 (ap (map (phi_of scope)) at) c.in_ok-item.ensures.1 c.in_ok-push.ensures.items,
    )

pub returns-in_err-item : goal.returns-in_err-item
returns-in_err-item c =
    let scope = c.args.self.now in
    let xs = c.args.phis.now in
    let i = c.each.phi-index in
    let x = c.phi-item.result in
    let at = item_and_rest xs i x c.each-test.true c.phi-item.is in
    let uses : List PhiNode → List Use = flat_map phi_uses in
    let rest = drop (i + 1) xs in
    error_resolves scope _ _ _ c.in_err-item.field-0.0 c.from_residual.ensures.1
    (item_unknown scope (uses xs) (uses (drop i xs)) ((phi_uses) x) (uses rest) c.in_err-item.field-0.0 c.each.invariant.0 (ap uses at) c.in_err-item.ensures)
