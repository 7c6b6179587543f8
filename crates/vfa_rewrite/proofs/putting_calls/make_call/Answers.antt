use Rattle.std.proofs.Common.{◌≡◌, true, ◌∙◌, Some, None, refl, sym, ap}
use Rattle.std.specs.Prelude.{slice_get, slice_index_or}
use Rattle.std.specs.Option.{option_map, option_or}
use Rattle.std.proofs.lemmas.Bool.{eq-eqb}
use Rattle.std.proofs.lemmas.Option.{slice_get_read}
use Rattle.vfa_cond.specs.States.{known}
use Rattle.vfa_rewrite.specs.Making.{makes_call}
use Rattle.vfa_rewrite.specs.Putting.{put_by}
use Rattle.vfa_rewrite.proofs.CallsPut.{call_noted}
use Rattle.vfa_rewrite.proofs.putting_calls.make_call.Goals as goal

pub put_call-requires-clause-named : goal.put_call-requires-clause-named
put_call-requires-clause-named c =
    let makes : makes_call c.in-Call.number c.args.op.now ≡ true = ap (makes_call c.in-Call.number) c.in-Call.is ∙ eq-eqb c.in-Call.number c.in-Call.number refl in
    let there : slice_get c.args.f.now.calls c.in-Call.number ≡ Some c.in-Some.call.now = ap (λ l. slice_get l c.in-Call.number) (sym c.as_slice.ensures) ∙ slice_get_read c.as_slice.result.now _ c.in-Call.number c.in-Some.call.now refl c.in-Some.ensures.lookup.3.0 c.in-Some.ensures.lookup.1 in
    c.requires.named c.in-Call.number c.in-Some.call.now makes there

pub returns-clause-calls : goal.returns-clause-calls
returns-clause-calls c = λ k.
    let there : slice_get c.args.f.now.calls c.in-Call.number ≡ Some c.in-Some.call.now = ap (λ l. slice_get l c.in-Call.number) (sym c.as_slice.ensures) ∙ slice_get_read c.as_slice.result.now _ c.in-Call.number c.in-Some.call.now refl c.in-Some.ensures.lookup.3.0 c.in-Some.ensures.lookup.1 in
    let put = put_by c.args.f.now c.args.others.now (option_map (λ s. known s.now) c.args.state) in
    c.note_call.ensures.calls k
    ∙ ap (option_or (slice_index_or c.args.calls.now.items k None))
    (call_noted c.args.f.now k c.in-Call.number c.in_ok-call.call c.in-Some.call.now put c.in-Call.width c.args.op.now c.in-Call.is there c.in_ok-call.ensures)
