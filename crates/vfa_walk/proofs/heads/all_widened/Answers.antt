use Rattle.std.proofs.Common.{◌≡◌, ◌+◌, ◌++◌, ◌∷◌, [], ℕ, Option, length, get_or, sym, ◌∙◌, ap, subst, arith}
use Rattle.std.specs.Option.{ForSome, option_map}
use Rattle.std.proofs.Math.ListN.{length-append}
use Rattle.std.proofs.lemmas.List.Elements.{All-get_or, All-same, All-push}
use Rattle.vfa_cond.specs.States.{Stored, known}
use Rattle.vfa_walk.specs.Heads.{after_round}
use Rattle.vfa_walk.specs.Kept.{IsStateOf, entry_in}
use Rattle.vfa_walk.proofs.HeadsKept.{entry_is}
use Rattle.vfa_walk.proofs.Nexts.{no_block, nexts_more}
use Rattle.vfa_walk.proofs.heads.all_widened.Goals as goal

pub widened_at-requires-clause-old : goal.widened_at-requires-clause-old
widened_at-requires-clause-old g c =
    let P : Option _ → Type 0 = λ e. ForSome e (IsStateOf g.V.Values.ty g.V.Values.proper c.args.f.now) in
    subst P (sym c.index-old-place.is) (All-get_or P c.args.old.now c.order.place c.index-old-place.result (omega (arith, c.requires.each_old, c.order-test.true)) c.requires.old)

pub widened_at-requires-clause-new : goal.widened_at-requires-clause-new
widened_at-requires-clause-new g c =
    let P : Option _ → Type 0 = λ e. ForSome e (IsStateOf g.V.Values.ty g.V.Values.proper c.args.f.now) in
    subst P (sym c.index-new-place.is) (All-get_or P c.args.new.now c.order.place c.index-new-place.result (omega (arith, c.requires.each_new, c.order-test.true)) c.requires.new)

pub order-preserved : goal.order-preserved
order-preserved g c =
    let answers = g.V.Values.answers in
    let f = c.args.f.now in
    let order = c.args.order.now in
    let round = c.args.round in
    let place = c.order.place in
    let here : ℕ = (get_or order place no_block).0 in
    let P : Option (Stored _) → Type 0 = λ e. ForSome e (IsStateOf g.V.Values.ty g.V.Values.proper f) in
    let past = c.order.after.items in
    let e = c.in_ok-state.state in
    let first = c.index-old-place.result in
    let second = c.index-new-place.result in
    let same_old : option_map known first ≡ option_map known (entry_in c.args.old.now place) =
    ap (option_map known) (c.index-old-place.is ∙ sym (entry_is c.args.old.now place first (omega (arith, c.requires.each_old, c.order-test.true)))) in
    let same_new : option_map known second ≡ option_map known (entry_in c.args.new.now place) =
    ap (option_map known) (c.index-new-place.is ∙ sym (entry_is c.args.new.now place second (omega (arith, c.requires.each_new, c.order-test.true)))) in
    let count : length c.push.new.self.items ≡ place + 1 = ap length c.in_ok-push.ensures.items ∙ (length-append past (e ∷ []) ∙ ap (λ n. n + 1) c.order.invariant.count) in
    record {
      entries = λ k inside.
          ap (λ list. option_map known (entry_in list k)) c.in_ok-push.ensures.items
          ∙ nexts_more (λ n. after_round answers f order round (get_or order n no_block).0 (option_map known (entry_in c.args.old.now n)) (option_map known (entry_in c.args.new.now n))) past place e
          c.order.invariant.count
          (c.in_ok-state.ensures.after
          ∙ (ap (λ o. after_round answers f order round here o (option_map known second)) same_old
          ∙ ap (after_round answers f order round here (option_map known (entry_in c.args.old.now place))) same_new)) c.order.invariant.entries k inside;
      count = count;
      states = All-same P c.push.new.self.items (past ++ (e ∷ [])) c.in_ok-push.ensures.items (All-push P past e c.order.invariant.states c.in_ok-state.ensures.state);
      within = omega arith;
    }
