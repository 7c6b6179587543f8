use Rattle.std.proofs.Common.{◌≡◌, ◌+◌, ◌<◌, ◌∙◌, All, ap, arith, length, true, subst, sym}
use Rattle.std.proofs.lemmas.Option.{slice_get-get_or}
use Rattle.std.specs.List.{slice_get}
use Rattle.vfa_ir.specs.Typed.{TypedInst, TypedPhi}
use Rattle.vfa_check.specs.First.{FailsFirst}
use Rattle.vfa_check.proofs.TypedItems.{at_instruction, at_phi, at_terminator}
use Rattle.vfa_check.proofs.types.ill_typed_item.Goals as goal

pub returns-in-Some : goal.returns-in-Some
returns-in-Some c =
    let f = c.args.f.now in
    let lines = c.args.lines.now in
    let phis : c.as_slice-phis.result.now ≡ c.args.block.now.phis = c.as_slice-phis.ensures in
    let many : length c.as_slice-phis.result.now ≡ length c.args.block.now.phis = ap length phis in
    let before : c.in-Some.place < length c.as_slice-phis.result.now = c.in-Some.ensures.within in
    let within : c.in-Some.place < length lines = omega arith in
    at_phi f c.args.block.now lines c.in-Some.place _ (slice_get-get_or lines c.in-Some.place 0 within)
    (subst (λ ps. FailsFirst (TypedPhi f) ps c.in-Some.place) phis c.in-Some.ensures.first)

pub returns-in-Some-ill_typed_instruction : goal.returns-in-Some-ill_typed_instruction
returns-in-Some-ill_typed_instruction c =
    let f = c.args.f.now in
    let b = c.args.block.now in
    let lines = c.args.lines.now in
    let place = c.in-Some-ill_typed_instruction.place in
    let phis : c.as_slice-phis.result.now ≡ b.phis = c.as_slice-phis.ensures in
    let insts : c.as_slice-insts.result.now ≡ b.insts = c.as_slice-insts.ensures in
    let many : length c.as_slice-phis.result.now ≡ length b.phis = ap length phis in
    let more : length c.as_slice-insts.result.now ≡ length b.insts = ap length insts in
    let before : place < length c.as_slice-insts.result.now = c.in-Some-ill_typed_instruction.ensures.within in
    let within : length c.as_slice-phis.result.now + place < length lines = omega arith in
    at_instruction f b lines place _
    (ap (λ n. slice_get lines (n + place)) (sym many) ∙ slice_get-get_or lines (length c.as_slice-phis.result.now + place) 0 within)
    (subst (All (TypedPhi f)) phis c.in_default.ensures.first)
    (subst (λ is. FailsFirst (TypedInst f) is place) insts c.in-Some-ill_typed_instruction.ensures.first)

pub returns-then-not-branch : goal.returns-then-not-branch
returns-then-not-branch c =
    let f = c.args.f.now in
    let b = c.args.block.now in
    let lines = c.args.lines.now in
    let phis : c.as_slice-phis.result.now ≡ b.phis = c.as_slice-phis.ensures in
    let insts : c.as_slice-insts.result.now ≡ b.insts = c.as_slice-insts.ensures in
    let many : length c.as_slice-phis.result.now ≡ length b.phis = ap length phis in
    let more : length c.as_slice-insts.result.now ≡ length b.insts = ap length insts in
    let within : length c.as_slice-phis.result.now + length c.as_slice-insts.result.now < length lines = omega arith in
    at_terminator f b lines _
    (ap (λ n. slice_get lines (n + length b.insts)) (sym many)
    ∙ ap (λ n. slice_get lines (length c.as_slice-phis.result.now + n)) (sym more)
    ∙ slice_get-get_or lines (length c.as_slice-phis.result.now + length c.as_slice-insts.result.now) 0 within)
    (subst (All (TypedPhi f)) phis c.in_default.ensures.first)
    (subst (All (TypedInst f)) insts c.in_default-ill_typed_instruction.ensures.first)
    (λ typed. let yes : c.in_ok-is_typed_term.field-0 ≡ true = c.in_ok-is_typed_term.ensures.1 typed in cc)
