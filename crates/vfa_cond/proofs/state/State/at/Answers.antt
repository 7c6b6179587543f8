use Rattle.std.proofs.Common.{◌≡◌, ◌<◌, ◌∙◌, length, refl, sym, ap, subst, rules}
use Rattle.std.specs.Prelude.{slice_get}
use Rattle.std.proofs.lemmas.Option.{slice_get_read}
use Rattle.vfa_cond.specs.States.{Stored, name_count}
use Rattle.vfa_cond.proofs.Entries.{found_by, stands_at, stands_below}
use Rattle.vfa_cond.proofs.state.State.at.Goals as goal

pub returns-clause-range : goal.returns-clause-range
returns-clause-range g c some =
    let xs = c.deref.result.now in
    let e = c.in_ok-entry.entry.now in
    let entries = c.deref.ensures.value ∙ ap (λ (s : Stored _). s.entries) c.self.view_is in
    let here = ap (λ l. slice_get l c.args.place) (sym entries) ∙ slice_get_read xs (length xs) c.args.place e refl c.in_ok-entry.ensures.lookup.3.0 c.in_ok-entry.ensures.lookup.1 in
    let named : e.name.0 ≡ c.args.v.0 = search rules in
    let at = stands_at _ _ _ c.args.self.now c.args.v.0 c.args.place c.self.view_is c.requires.belongs c.requires.found (found_by _ _ e c.requires.found here named) in
    subst (λ s. c.args.v.0 < name_count s) c.self.view_is (stands_below _ 0 _ _ _ c.self.invariant at)
