use Rattle.std.proofs.Common.{◌∙◌, sym, ap, subst, length, IsSome}
use Rattle.vfa_cond.specs.Changes.{fact_before, restored}
use Rattle.vfa_cond.specs.States.{known}
use Rattle.vfa_cond.proofs.Noted.{noting_length, facts_noted, restored_noted, given_there}
use Rattle.vfa_cond.proofs.changes.ChangesJournal.replace.Goals as goal

pub returns-clause-serves : goal.returns-clause-serves
returns-clause-serves g c =
    let before = c.args.self.now in
    let old = given_there ((known c.args.state.now).fact c.args.v.0) c.requires.some in
    let noted = c.note_at.ensures.noted old.0 old.1 in
    record {
      names = ap length noted ∙ noting_length before c.args.v.0 old.0 ∙ c.requires.serves.names ∙ sym c.replace_at.ensures.room.names;
      facts = λ u h.
          subst (λ s. IsSome (s.fact u)) (sym c.replace_at.ensures.change)
          (facts_noted before (known c.args.state.now) c.args.v.0 old.0 c.args.fact.now c.note_at.ensures.range c.requires.serves.facts u (subst (λ b. IsSome (fact_before b u)) noted h));
    }

pub returns-clause-was : goal.returns-clause-was
returns-clause-was g c s was =
    let before = c.args.self.now in
    let old = given_there ((known c.args.state.now).fact c.args.v.0) c.requires.some in
    ap (λ b. restored b (known c.replace_at.new.self)) (c.note_at.ensures.noted old.0 old.1) ∙ ap (restored _) c.replace_at.ensures.change
    ∙ restored_noted before (known c.args.state.now) c.args.v.0 old.0 c.args.fact.now c.note_at.ensures.range old.1 ∙ was
