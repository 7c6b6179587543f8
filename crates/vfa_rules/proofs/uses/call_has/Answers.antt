use Rattle.std.proofs.Common.{◌≡◌, length, refl, ◌∙◌, ap, Some, None, subst}
use Rattle.std.specs.List.{slice_get, list_any}
use Rattle.std.proofs.lemmas.Option.{slice_get_read, slice_get_past}
use Rattle.vfa_ir.specs.Defined.{operand_names}
use Rattle.vfa_ir.specs.Words.{is_in}
use Rattle.vfa_ir.specs.declared.functions.CallArg.{CallArg}
use Rattle.vfa_ir.specs.declared.functions.CallOp.{CallOp}
use Rattle.vfa_rules.proofs.NameUses.{no_call, some_call}
use Rattle.vfa_rules.proofs.uses.call_has.Goals as goal

pub returns-in-Some : goal.returns-in-Some
returns-in-Some c =
    let calls = c.as_slice.result.now in
    let read = c.in-Some.ensures.lookup in
    let at : slice_get calls c.args.call ≡ Some c.in-Some.call.now = slice_get_read calls (length calls) c.args.call c.in-Some.call.now refl read.3.0 read.1 in
    c.is_passed.ensures
    ∙ ap (list_any (λ (a : CallArg). is_in c.args.v.0 (operand_names a.value))) c.as_slice-in-Some.ensures
    ∙ some_call c.args.f.now c.args.v.0 c.args.call c.in-Some.call.now (subst (λ xs. slice_get xs c.args.call ≡ Some c.in-Some.call.now) c.as_slice.ensures at)

pub returns-in-None : goal.returns-in-None
returns-in-None c =
    let calls = c.as_slice.result.now in
    let at : slice_get calls c.args.call ≡ None = slice_get_past calls c.args.call c.in-None.ensures.lookup.3 in
    no_call c.args.f.now c.args.v.0 c.args.call (subst (λ xs. slice_get xs c.args.call ≡ None) c.as_slice.ensures at)
