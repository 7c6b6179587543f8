use Rattle.std.proofs.Common.{◌≡◌, ◌<◌, ◌∙◌, sym, ap, subst, arith, false, None, is_some, length, IsOk, vec_len, vec_capacity}
use Rattle.std.proofs.lemmas.List.{get_or_default}
use Rattle.vfa_cond.specs.Changes.{fact_before}
use Rattle.vfa_cond.proofs.Noted.{has_room, listed_noted}
use Rattle.vfa_cond.proofs.changes.Changes.note.Goals as goal

pub unreachable-requires : goal.unreachable-requires
unreachable-requires g c =
    let before = c.self.inside.before.items in
    let inside : c.args.v.0 < length before = subst (λ s. c.args.v.0 < length s) (sym c.self.view_is) c.requires in
    let none : is_some (fact_before before c.args.v.0) ≡ false =
    ap is_some (sym (c.index.ensures ∙ get_or_default before c.args.v.0 c.index.result.now None inside)) ∙ sym c.if-is_some.ensures in
    let few = has_room before c.self.inside.changed.items _ c.args.v.0 c.args.fact.now c.self.invariant inside none in
    let small : vec_len c.self.inside.changed < vec_capacity c.self.inside.changed = omega (arith, few, c.self.inside.changed.ok.0) in
    let ok : IsOk c.push.result = c.push.ensures.succeeds small in
    let failed = rw c.in-Err.is at ok in
    absurd cc

pub invariant_of-self : goal.invariant_of-self
invariant_of-self g c =
    let before = c.self.inside.before.items in
    let inside : c.args.v.0 < length before = subst (λ s. c.args.v.0 < length s) (sym c.self.view_is) c.requires in
    let none : is_some (fact_before before c.args.v.0) ≡ false =
    ap is_some (sym (c.index.ensures ∙ get_or_default before c.args.v.0 c.index.result.now None inside)) ∙ sym c.if-is_some.ensures in
    rw c.in-Ok.ensures.items (listed_noted before c.self.inside.changed.items _ _ c.args.v c.args.fact.now c.self.invariant inside none c.push.ensures.capacity)
