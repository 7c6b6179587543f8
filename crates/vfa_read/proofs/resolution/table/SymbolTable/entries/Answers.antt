use Rattle.std.proofs.Common.{◌+◌, List, drop, map, flat_map, ap}
use Rattle.vfa_ir.specs.declared.syntax.Incoming.{Incoming}
use Rattle.vfa_ir.specs.DefinedNames.{Use}
use Rattle.vfa_read.specs.Resolving.{entry_of, entry_uses}
use Rattle.vfa_read.proofs.Definitions.{item_and_rest}
use Rattle.vfa_read.proofs.Unknowns.{item_known, item_unknown, item_made, error_resolves}
use Rattle.vfa_read.proofs.resolution.table.SymbolTable.entries.Goals as goal

pub each-preserved : goal.each-preserved
each-preserved c =
    let scope = c.args.self.now in
    let xs = c.args.entries.now in
    let i = c.each.incoming-index in
    let x = c.incoming-item.result in
    let at = item_and_rest xs i x c.each-test.true c.incoming-item.is in
    let uses : List Incoming → List Use = flat_map entry_uses in
    let rest = drop (i + 1) xs in (
      item_known scope (uses xs) (uses (drop i xs)) ((entry_uses) x) (uses rest) c.each.invariant.0 (ap uses at) c.in_ok-item.ensures.0,
      item_made c.each.list.items c.push.new.self.items (map (entry_of scope c.args.width) xs) (map (entry_of scope c.args.width) (drop i xs)) c.in_ok-item.item ((entry_of scope c.args.width) x) (map (entry_of scope c.args.width) rest)
          c.each.invariant.1 (ap (map (entry_of scope c.args.width)) at) c.in_ok-item.ensures.1 c.in_ok-push.ensures.ok,
    )

pub returns-in_err-item : goal.returns-in_err-item
returns-in_err-item c =
    let scope = c.args.self.now in
    let xs = c.args.entries.now in
    let i = c.each.incoming-index in
    let x = c.incoming-item.result in
    let at = item_and_rest xs i x c.each-test.true c.incoming-item.is in
    let uses : List Incoming → List Use = flat_map entry_uses in
    let rest = drop (i + 1) xs in
    error_resolves scope _ _ _ c.in_err-item.field-0.0 c.from_residual.ensures.1
    (item_unknown scope (uses xs) (uses (drop i xs)) ((entry_uses) x) (uses rest) c.in_err-item.field-0.0 c.each.invariant.0 (ap uses at) c.in_err-item.ensures)
