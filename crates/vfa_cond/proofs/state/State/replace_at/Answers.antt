use Rattle.vfa_cond.proofs.Entries.{stands_at, Ascends-set, known_set}
use Rattle.vfa_cond.proofs.state.State.replace_at.Goals as goal

pub invariant_of-self : goal.invariant_of-self
invariant_of-self g c =
    let at = stands_at _ _ _ c.args.self.now c.args.v.0 c.args.place c.self.view_is c.requires.belongs c.requires.found c.requires.some in
    Ascends-set _ 0 _ _ _ _ c.self.invariant at

pub returns-clause-change : goal.returns-clause-change
returns-clause-change g c =
    let at = stands_at _ _ _ c.args.self.now c.args.v.0 c.args.place c.self.view_is c.requires.belongs c.requires.found c.requires.some in
    rw (← c.self.view_is) (known_set _ _ _ _ _ at)
