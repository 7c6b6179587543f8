use Rattle.std.proofs.Common.{◌≡◌, Option, true, get_or, sym, ◌∙◌, ap, subst, arith}
use Rattle.std.specs.Option.{ForSome, option_map}
use Rattle.std.proofs.lemmas.List.Elements.{All-get_or}
use Rattle.vfa_cfg.specs.Heads.{is_head}
use Rattle.vfa_cond.specs.States.{known}
use Rattle.vfa_walk.specs.Kept.{IsStateOf, entry_in}
use Rattle.vfa_walk.proofs.HeadsKept.{differs, entry_is, places_more, stay}
use Rattle.vfa_walk.proofs.Nexts.{no_block}
use Rattle.vfa_walk.proofs.heads.has_changed.Goals as goal

pub changed_at-requires-clause-old : goal.changed_at-requires-clause-old
changed_at-requires-clause-old g c =
    let P : Option _ → Type 0 = λ e. ForSome e (IsStateOf g.V.Values.ty g.V.Values.proper c.args.f.now) in
    subst P (sym c.index-old-place.is) (All-get_or P c.args.old.now c.order.place c.index-old-place.result (omega (arith, c.requires.each_old, c.order-test.true)) c.requires.old)

pub changed_at-requires-clause-new : goal.changed_at-requires-clause-new
changed_at-requires-clause-new g c =
    let P : Option _ → Type 0 = λ e. ForSome e (IsStateOf g.V.Values.ty g.V.Values.proper c.args.f.now) in
    subst P (sym c.index-new-place.is) (All-get_or P c.args.new.now c.order.place c.index-new-place.result (omega (arith, c.requires.each_new, c.order-test.true)) c.requires.new)

pub returns-then-changed_at : goal.returns-then-changed_at
returns-then-changed_at g c =
    let f = c.args.f.now in
    let order = c.args.order.now in
    let old = c.args.old.now in
    let new = c.args.new.now in
    let place = c.order.place in
    let first = c.index-old-place.result in
    let second = c.index-new-place.result in
    let same_old : option_map known first ≡ option_map known (entry_in old place) =
    ap (option_map known) (c.index-old-place.is ∙ sym (entry_is old place first (omega (arith, c.requires.each_old, c.order-test.true)))) in
    let same_new : option_map known second ≡ option_map known (entry_in new place) =
    ap (option_map known) (c.index-new-place.is ∙ sym (entry_is new place second (omega (arith, c.requires.each_new, c.order-test.true)))) in (
      (get_or order place no_block).0,
      differs f order c.requires.ordered.distinct old new c.requires.each_old c.requires.each_new place c.order-test.true c.if-changed_at.ensures.0
          (λ e. c.if-changed_at.ensures.1 (same_new ∙ (e ∙ sym same_old))),
    )

pub order-preserved : goal.order-preserved
order-preserved g c =
    let f = c.args.f.now in
    let order = c.args.order.now in
    let old = c.args.old.now in
    let new = c.args.new.now in
    let place = c.order.place in
    let first = c.index-old-place.result in
    let second = c.index-new-place.result in
    let same_old : option_map known first ≡ option_map known (entry_in old place) =
    ap (option_map known) (c.index-old-place.is ∙ sym (entry_is old place first (omega (arith, c.requires.each_old, c.order-test.true)))) in
    let same_new : option_map known second ≡ option_map known (entry_in new place) =
    ap (option_map known) (c.index-new-place.is ∙ sym (entry_is new place second (omega (arith, c.requires.each_new, c.order-test.true)))) in
    record {
      same = places_more (λ k. is_head f order (get_or order k no_block).0 ≡ true → option_map known (entry_in new k) ≡ option_map known (entry_in old k)) place c.order.invariant.same
          (λ head. sym same_new ∙ (c.if-changed_at.ensures head ∙ same_old));
      within = omega arith;
    }

pub returns : goal.returns
returns g c =
    stay c.args.f.now c.args.order.now c.requires.ordered.distinct c.args.old.now c.args.new.now c.requires.each_old c.requires.each_new
    (λ k inside. c.order.invariant.same k (omega (arith, c.order-test.false, inside)))
