use Rattle.std.proofs.Common.{◌≡◌, ◌∙◌, List, ap, subst, refl, map, flat_map, length, None}
use Rattle.vfa_ir.specs.declared.syntax.Instruction.{Instruction}
use Rattle.vfa_ir.specs.declared.syntax.PhiNode.{PhiNode}
use Rattle.vfa_ir.specs.DefinedNames.{Use, block_uses, operation_uses, phi_uses, terminator_uses}
use Rattle.vfa_ir.specs.Resolution.{insts_of, phi_of}
use Rattle.vfa_read.specs.Resolving.{IsUnknown, unknown_in}
use Rattle.vfa_read.proofs.Unknowns.{all_known, error_resolves, first_unknown_of, second_unknown, third_unknown}
use Rattle.vfa_read.proofs.resolution.table.SymbolTable.basic_block.Goals as goal

abbrev of_phis : List PhiNode → List Use
of_phis = flat_map phi_uses

abbrev of_instructions : List Instruction → List Use
of_instructions = flat_map (λ i. operation_uses i.operation)

pub returns-in_err-phis-clause-resolves : goal.returns-in_err-phis-clause-resolves
returns-in_err-phis-clause-resolves c =
    let scope = c.args.self.now in
    let b = c.args.block.now in
    let e = c.in_err-phis.field-0.0 in
    let unknown = subst (λ z. IsUnknown (unknown_in scope (of_phis z)) e) c.as_slice-nodes.ensures c.in_err-phis.ensures in
    error_resolves scope (block_uses b) _ _ e c.from_residual-in_err-phis.ensures.1
    (first_unknown_of scope (of_phis b.phis) (of_instructions b.instructions) (terminator_uses b.terminator.kind) (block_uses b) e refl unknown)

pub returns-in_err-insts-clause-resolves : goal.returns-in_err-insts-clause-resolves
returns-in_err-insts-clause-resolves c =
    let scope = c.args.self.now in
    let b = c.args.block.now in
    let e = c.in_err-insts.field-0.0 in
    let known = subst (λ z. unknown_in scope (of_phis z) ≡ None) c.as_slice-nodes.ensures c.in_ok-phis.ensures.0 in
    let unknown = subst (λ z. IsUnknown (unknown_in scope (of_instructions z)) e) c.as_slice-instructions.ensures c.in_err-insts.ensures.resolves in
    error_resolves scope (block_uses b) _ _ e c.from_residual-in_err-insts.ensures.1
    (second_unknown scope (of_phis b.phis) (of_instructions b.instructions) (terminator_uses b.terminator.kind) (block_uses b) e refl known unknown)

pub returns-in_err-term-clause-resolves : goal.returns-in_err-term-clause-resolves
returns-in_err-term-clause-resolves c =
    let scope = c.args.self.now in
    let b = c.args.block.now in
    let e = c.in_err-term.field-0.0 in
    let known = subst (λ z. unknown_in scope (of_phis z) ≡ None) c.as_slice-nodes.ensures c.in_ok-phis.ensures.0 in
    let next = subst (λ z. unknown_in scope (of_instructions z) ≡ None) c.as_slice-instructions.ensures c.in_ok-insts.ensures.resolves.0 in
    error_resolves scope (block_uses b) _ _ e c.from_residual-in_err-term.ensures.1
    (third_unknown scope (of_phis b.phis) (of_instructions b.instructions) (terminator_uses b.terminator.kind) (block_uses b) e refl known next c.in_err-term.ensures)

pub returns-clause-resolves : goal.returns-clause-resolves
returns-clause-resolves c =
    let scope = c.args.self.now in
    let b = c.args.block.now in
    let known = subst (λ z. unknown_in scope (of_phis z) ≡ None) c.as_slice-nodes.ensures c.in_ok-phis.ensures.0 in
    let next = subst (λ z. unknown_in scope (of_instructions z) ≡ None) c.as_slice-instructions.ensures c.in_ok-insts.ensures.resolves.0 in
    let p = c.in_ok-phis.ensures.1 ∙ ap (map (phi_of scope)) c.as_slice-nodes.ensures in
    let q = c.in_ok-insts.ensures.resolves.1 ∙ ap (insts_of scope (length c.args.calls.now.items)) c.as_slice-instructions.ensures in (
      all_known scope (of_phis b.phis) (of_instructions b.instructions) (terminator_uses b.terminator.kind) (block_uses b) refl known next c.in_ok-term.ensures.0,
      λ i. record { name = c.in_ok-name.ensures i; phis = p i; insts = q i; term = c.in_ok-term.ensures.1 i },
    )
