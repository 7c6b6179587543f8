use Rattle.std.proofs.Common.{◌≡◌, ◌+◌, ◌++◌, ◌∷◌, List, drop, flat_map, length, ap, sym, ◌∙◌, append_assoc}
use Rattle.vfa_ir.specs.declared.syntax.Instruction.{Instruction}
use Rattle.vfa_ir.specs.DefinedNames.{Use, operation_uses}
use Rattle.vfa_ir.specs.Resolution.{inst_of, instruction_calls, insts_of}
use Rattle.vfa_read.specs.Resolving.{operation_calls}
use Rattle.vfa_read.proofs.CallPlaces.{calls_cons, next_place}
use Rattle.vfa_read.proofs.Definitions.{item_and_rest}
use Rattle.vfa_read.proofs.Unknowns.{item_known, item_unknown, item_made, error_resolves}
use Rattle.vfa_read.proofs.resolution.table.SymbolTable.instructions.Goals as goal

pub each-preserved : goal.each-preserved
each-preserved c =
    let scope = c.args.self.now in
    let xs = c.args.instructions.now in
    let i = c.each.instruction-index in
    let x = c.instruction-item.result in
    let at = item_and_rest xs i x c.each-test.true c.instruction-item.is in
    let uses : List Instruction → List Use = flat_map (λ i. operation_uses i.operation) in
    let rest = drop (i + 1) xs in
    let before = c.each.calls.items in
    let after = c.instruction.new.calls.items in
    let grown : after ≡ before ++ operation_calls scope x.operation = c.in_ok-item.ensures.calls in
    let place = ap length grown ∙ next_place scope before x in
    let made = ap (λ n. inst_of scope (length before) x ∷ insts_of scope n rest) (sym place) in (
      item_known scope (uses xs) (uses (drop i xs)) (operation_uses x.operation) (uses rest) c.each.invariant.0 (ap uses at) c.in_ok-item.ensures.resolves.0,
      item_made c.each.list.items c.push.new.self.items (insts_of scope (length c.args.calls.now.items) xs) (insts_of scope (length before) (drop i xs)) c.in_ok-item.item (inst_of scope (length before) x) (insts_of scope (length after) rest)
          c.each.invariant.1 (ap (insts_of scope (length before)) at ∙ made) c.in_ok-item.ensures.resolves.1 c.in_ok-push.ensures.items,
      ap (λ z. z ++ instruction_calls scope rest) grown ∙ append_assoc before (operation_calls scope x.operation) (instruction_calls scope rest)
          ∙ ap (λ z. before ++ z) (sym (ap (instruction_calls scope) at ∙ calls_cons scope x rest)) ∙ c.each.invariant.2,
    )

pub returns-in_err-item-clause-resolves : goal.returns-in_err-item-clause-resolves
returns-in_err-item-clause-resolves c =
    let scope = c.args.self.now in
    let xs = c.args.instructions.now in
    let i = c.each.instruction-index in
    let x = c.instruction-item.result in
    let at = item_and_rest xs i x c.each-test.true c.instruction-item.is in
    let uses : List Instruction → List Use = flat_map (λ i. operation_uses i.operation) in
    let rest = drop (i + 1) xs in
    error_resolves scope _ _ _ c.in_err-item.field-0.0 c.from_residual.ensures.1
    (item_unknown scope (uses xs) (uses (drop i xs)) (operation_uses x.operation) (uses rest) c.in_err-item.field-0.0 c.each.invariant.0 (ap uses at) c.in_err-item.ensures.resolves)
