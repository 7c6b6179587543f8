use Rattle.std.proofs.Common.{◌≡◌, ◌∙◌, sym, ap, subst, None, IsSome, List, [], set, arith}
use Rattle.std.proofs.lemmas.List.{get_or_default, length-set}
use Rattle.vfa_cond.specs.Changes.{fact_before, restored}
use Rattle.vfa_cond.specs.States.{known}
use Rattle.vfa_cond.proofs.Noted.{last_inside, listed_back, facts_back, restored_back, restored_none, none_listed, no_items}
use Rattle.vfa_cond.proofs.state.State.undo.Goals as goal

pub changed-preserved : goal.changed-preserved
changed-preserved g c =
    let before = c.changed.changes-inside.before.items in
    let changed = c.changed.changes-inside.changed.items in
    let rest = c.pop.new.self.items in
    let held = c.changed.invariant in
    let v = c.in-Some.v in
    let inside = last_inside before changed rest _ v c.in-Some.ensures.items held.listed in
    let o = c.index-fact.result.now in
    let is : fact_before before v.0 ≡ o = sym (c.index-fact.ensures ∙ get_or_default before v.0 o None inside) in
    let long = length-set before v.0 None in
    record {
      listed = listed_back before changed rest _ _ v c.in-Some.ensures.items c.pop.ensures.capacity inside held.listed;
      names = long ∙ held.names ∙ sym c.give_back.ensures.room.names;
      facts = λ u h. subst (λ s. IsSome (s.fact u)) (sym c.give_back.ensures.change) (facts_back before (known c.changed.self) v.0 o inside held.facts u h);
      state = ap (restored (set before v.0 None)) c.give_back.ensures.change ∙ restored_back before (known c.changed.self) v.0 o inside is ∙ held.state;
      long = long ∙ held.long;
      room = record { names = c.give_back.ensures.room.names ∙ held.room.names; room = c.give_back.ensures.room.room ∙ held.room.room };
    }

pub returns-clause-state : goal.returns-clause-state
returns-clause-state g c =
    let before = c.changed.changes-inside.before.items in
    let changed = c.changed.changes-inside.changed.items in
    let held = c.changed.invariant in
    let empty : changed ≡ [] = no_items changed (omega (arith, c.in_default.ensures.cases, c.changed.changes-inside.changed.ok.0)) in
    sym (restored_none before (known c.changed.self) (none_listed before changed _ empty held.listed)) ∙ held.state
    ∙ ap (λ b. restored b (known c.args.self.now)) c.changes.view_is
