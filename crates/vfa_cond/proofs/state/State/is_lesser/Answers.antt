use Rattle.std.proofs.Common.{◌≡◌, Some, None, length, refl, sym, ◌∙◌, ap, ltb-true, ltb-false}
use Rattle.std.specs.Prelude.{slice_get}
use Rattle.std.proofs.lemmas.Option.{slice_get_past, slice_get_read}
use Rattle.vfa_cond.specs.States.{Stored}
use Rattle.vfa_cond.proofs.Entries.{found_name}
use Rattle.vfa_cond.proofs.state.State.is_lesser.Goals as goal

pub returns-in-Some-clause-some : goal.returns-in-Some-clause-some
returns-in-Some-clause-some g c less =
    let xs = c.deref.result.now in
    let same = c.deref.ensures.value ∙ ap (λ (s : Stored _). s.entries) c.self.view_is in
    let at = slice_get_read xs (length xs) c.args.place c.in-Some.entry.now refl c.in-Some.ensures.lookup.3.0 c.in-Some.ensures.lookup.1 in
    (c.in-Some.entry.now, ap (λ l. slice_get l c.args.place) (sym same) ∙ at, ltb-true _ _ less)

pub returns-in-Some-clause-none : goal.returns-in-Some-clause-none
returns-in-Some-clause-none g c not-less e is =
    let xs = c.deref.result.now in
    let same = c.deref.ensures.value ∙ ap (λ (s : Stored _). s.entries) c.self.view_is in
    let at = slice_get_read xs (length xs) c.args.place c.in-Some.entry.now refl c.in-Some.ensures.lookup.3.0 c.in-Some.ensures.lookup.1 in
    found_name c.args.v.0 c.in-Some.entry.now e (sym at ∙ (ap (λ l. slice_get l c.args.place) same ∙ is)) (ltb-false _ _ not-less)

pub returns-in-None-clause-none : goal.returns-in-None-clause-none
returns-in-None-clause-none g c _ e is =
    let xs = c.deref.result.now in
    let same = c.deref.ensures.value ∙ ap (λ (s : Stored _). s.entries) c.self.view_is in
    let clash : None ≡ Some e = sym (slice_get_past xs c.args.place c.in-None.ensures.lookup.3) ∙ (ap (λ l. slice_get l c.args.place) same ∙ is) in
    absurd cc
