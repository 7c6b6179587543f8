use Rattle.vfa_cond.proofs.Entries.{stands_at, Ascends-remove, known_remove}
use Rattle.vfa_cond.proofs.state.State.take.Goals as goal

pub invariant_of-self : goal.invariant_of-self
invariant_of-self g c =
    let at = stands_at _ _ _ c.args.self.now c.args.v.0 c.args.place c.self.view_is c.requires.belongs c.requires.found c.requires.some in
    rw c.remove.ensures.items (Ascends-remove _ 0 _ _ _ c.self.invariant at)

pub returns-clause-change : goal.returns-clause-change
returns-clause-change g c =
    let at = stands_at _ _ _ c.args.self.now c.args.v.0 c.args.place c.self.view_is c.requires.belongs c.requires.found c.requires.some in
    rw (c.remove.ensures.items, ← c.self.view_is) (known_remove _ _ 0 _ _ _ c.self.invariant at)
