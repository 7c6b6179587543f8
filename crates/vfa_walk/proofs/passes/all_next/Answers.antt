use Rattle.std.proofs.Common.{◌≡◌, ◌+◌, ◌++◌, ◌∷◌, [], ℕ, Option, length, get_or, ◌∙◌, ap, arith}
use Rattle.std.specs.Option.{ForSome, option_map}
use Rattle.std.proofs.Math.ListN.{length-append}
use Rattle.std.proofs.lemmas.List.Elements.{All-same, All-push}
use Rattle.vfa_cond.specs.States.{Stored, known}
use Rattle.vfa_walk.specs.Kept.{IsStateOf, entry_in, kept_entries}
use Rattle.vfa_walk.specs.Sending.{next_at}
use Rattle.vfa_walk.proofs.Nexts.{next_same, no_block, nexts_more}
use Rattle.vfa_walk.proofs.Passing.{here_left, left_apart, place_in_order, still_left}
use Rattle.vfa_walk.proofs.passes.all_next.Goals as goal

pub order-preserved : goal.order-preserved
order-preserved g c =
    let answers = g.V.Values.answers in
    let f = c.args.f.now in
    let order = c.args.order.now in
    let place = c.order.place in
    let less = c.order-test.true in
    let here : ℕ = (get_or order place no_block).0 in
    let P : Option (Stored _) → Type 0 = λ e. ForSome e (IsStateOf g.V.Values.ty g.V.Values.proper f) in
    let old = c.order.next.items in
    let e = c.next_of.result in
    let count : length c.push.new.self.items ≡ c.order.place + 1 = ap length c.in_ok-push.ensures.items ∙ (length-append old (e ∷ []) ∙ ap (λ n. n + 1) c.order.invariant.count) in
    let first = c.order.invariant.kept here (here_left answers f order place no_block less c.requires.distinct) in
    record {
      entries = λ names is k inside.
          ap (λ list. option_map known (entry_in list k)) c.in_ok-push.ensures.items
          ∙ nexts_more (λ n. next_at f order (kept_entries c.args.got.now) names (get_or order n no_block).0) old place e c.order.invariant.count
          (c.next_of.ensures.next (names here) (λ v. is.scopes here v (place_in_order order place no_block less))
          ∙ next_same f order names (kept_entries c.order.got) (kept_entries c.args.got.now) here first) (c.order.invariant.entries names is) k inside;
      count = count;
      states = All-same P c.push.new.self.items (old ++ (e ∷ [])) c.in_ok-push.ensures.items (All-push P old e c.order.invariant.states c.next_of.ensures.state);
      kept = λ b later.
          c.next_of.ensures.others b (left_apart answers f order place no_block less c.requires.distinct b later)
          ∙ c.order.invariant.kept b (still_left answers f order place no_block less c.requires.distinct b later);
      got_states = c.next_of.ensures.states;
      within = omega arith;
    }
