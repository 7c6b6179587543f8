use Rattle.std.proofs.Common.{refl, ◌<◌, ◌≤◌, length, arith, subst, sym, IsOk, vec_len, vec_capacity}
use Rattle.vfa_cond.specs.States.{name_count}
use Rattle.vfa_cond.proofs.Entries.{belongs_at, belongs_inside, Ascends-insert, has_space, known_insert}
use Rattle.vfa_cond.proofs.state.State.add.Goals as goal

pub insert-requires : goal.insert-requires
insert-requires g c =
    let at = belongs_at _ _ _ c.args.self.now c.args.v.0 c.args.place c.self.view_is c.requires.belongs c.requires.found c.requires.none in
    omega (arith, belongs_inside _ _ _ at, c.self.inside.entries.ok.0)

pub unreachable-requires : goal.unreachable-requires
unreachable-requires g c =
    let at = belongs_at _ _ _ c.args.self.now c.args.v.0 c.args.place c.self.view_is c.requires.belongs c.requires.found c.requires.none in
    let range : c.args.v.0 < length c.self.inside.live.items = subst (λ s. c.args.v.0 < name_count s) (sym c.self.view_is) c.requires.range in
    let room : length c.self.inside.live.items ≤ vec_capacity c.self.inside.entries = subst (λ s. name_count s ≤ s.room) (sym c.self.view_is) c.requires.room in
    let few = has_space _ _ _ _ c.args.fact c.self.invariant range at in
    let small : vec_len c.self.inside.entries < vec_capacity c.self.inside.entries = omega (arith, c.self.inside.entries.ok.0) in
    let ok : IsOk c.insert.result = c.insert.ensures.succeeds small in
    let failed = rw c.in-Err.is at ok in
    absurd cc

pub invariant_of-self : goal.invariant_of-self
invariant_of-self g c =
    let at = belongs_at _ _ _ c.args.self.now c.args.v.0 c.args.place c.self.view_is c.requires.belongs c.requires.found c.requires.none in
    let range : c.args.v.0 < length c.self.inside.live.items = subst (λ s. c.args.v.0 < name_count s) (sym c.self.view_is) c.requires.range in
    rw c.in-Ok.ensures.items (Ascends-insert _ 0 _ _ _ _ c.self.invariant (omega arith) range at)

pub returns-clause-change : goal.returns-clause-change
returns-clause-change g c =
    let at = belongs_at _ _ _ c.args.self.now c.args.v.0 c.args.place c.self.view_is c.requires.belongs c.requires.found c.requires.none in
    rw (c.in-Ok.ensures.items, ← c.self.view_is) (known_insert _ _ _ _ _ at)

pub returns-clause-room : goal.returns-clause-room
returns-clause-room g c =
    let at = belongs_at _ _ _ c.args.self.now c.args.v.0 c.args.place c.self.view_is c.requires.belongs c.requires.found c.requires.none in
    let range : c.args.v.0 < length c.self.inside.live.items = subst (λ s. c.args.v.0 < name_count s) (sym c.self.view_is) c.requires.range in
    let room : length c.self.inside.live.items ≤ vec_capacity c.self.inside.entries = subst (λ s. name_count s ≤ s.room) (sym c.self.view_is) c.requires.room in
    let few = has_space _ _ _ _ c.args.fact c.self.invariant range at in
    let small : vec_len c.self.inside.entries < vec_capacity c.self.inside.entries = omega (arith, c.self.inside.entries.ok.0) in
    rw (← c.self.view_is) (record { names = refl; room = (c.insert.ensures.in_place small).1.0 })
