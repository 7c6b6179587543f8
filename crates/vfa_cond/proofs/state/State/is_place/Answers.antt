use Rattle.std.proofs.Common.{◌≡◌, ◌-◌, suc, length, sym, ◌∙◌, ap, subst, arith}
use Rattle.std.specs.Prelude.{slice_get}
use Rattle.vfa_cond.specs.States.{Stored, Ascends}
use Rattle.vfa_cond.proofs.Entries.{found_there, first_place, next_place}
use Rattle.vfa_cond.proofs.state.State.is_place.Goals as goal

pub returns-then-place-eq0-clause-place : goal.returns-then-place-eq0-clause-place
returns-then-place-eq0-clause-place g c is-so =
    c.if-place-eq0.true
    ∙ first_place c.args.self.now.entries c.args.v.0
    (λ e is. c.is_lesser.ensures.none c.if-is_lesser.false e (ap (slice_get c.args.self.now.entries) c.if-place-eq0.true ∙ is))

pub returns-then-place-eq0-clause-found : goal.returns-then-place-eq0-clause-found
returns-then-place-eq0-clause-found g c is-so =
    let sorted = subst (λ (s : Stored _). Ascends 0 (length s.live) s.entries) c.self.view_is c.self.invariant in
    found_there c.args.self.now.entries 0 (length c.args.self.now.live) c.args.v.0 c.args.place sorted (returns-then-place-eq0-clause-place g c is-so)

pub returns-clause-place : goal.returns-clause-place
returns-clause-place g c is-so =
    let sorted = subst (λ (s : Stored _). Ascends 0 (length s.live) s.entries) c.self.view_is c.self.invariant in
    let before = c.is_lesser-2.ensures.some is-so in
    let same : suc (c.args.place - 1) ≡ c.args.place = omega (arith, c.if-place-eq0.false) in
    sym same
    ∙ next_place c.args.self.now.entries 0 (length c.args.self.now.live) c.args.v.0 (c.args.place - 1) before.0 sorted before.1 before.2
    (λ e is. c.is_lesser.ensures.none c.if-is_lesser.false e (ap (slice_get c.args.self.now.entries) (sym same) ∙ is))

pub returns-clause-found : goal.returns-clause-found
returns-clause-found g c is-so =
    let sorted = subst (λ (s : Stored _). Ascends 0 (length s.live) s.entries) c.self.view_is c.self.invariant in
    found_there c.args.self.now.entries 0 (length c.args.self.now.live) c.args.v.0 c.args.place sorted (returns-clause-place g c is-so)
