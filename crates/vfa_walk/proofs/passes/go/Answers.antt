use Rattle.std.proofs.Common.{◌≡◌, ◌<◌, ◌+◌, Some, ℕ, Option, inl, inr, nat_eq, if◌then◌else◌, length, set, get_or, sym, ◌∙◌, ap, subst, arith}
use Rattle.std.specs.Option.{ForSome, option_map}
use Rattle.std.proofs.Math.ListN.{drop_of_length-le, length-set}
use Rattle.std.proofs.lemmas.List.{take_all}
use Rattle.std.proofs.lemmas.List.Elements.{All-get_or, All-same, All-set}
use Rattle.vfa_ir.specs.declared.operations.BlockId.{BlockId}
use Rattle.vfa_mean.specs.Outcomes.{first_block}
use Rattle.vfa_cfg.specs.Heads.{is_head}
use Rattle.vfa_cfg.specs.Order.{numbers}
use Rattle.vfa_cond.specs.States.{Stored, known}
use Rattle.vfa_walk.specs.Analysis.{flow_of, start_state}
use Rattle.vfa_walk.specs.Joining.{joined, kept_names}
use Rattle.vfa_walk.specs.Kept.{IsStateOf, kept_entries, kept_in_order}
use Rattle.vfa_walk.specs.Leaving.{handed_on}
use Rattle.vfa_walk.specs.Passes.{followed, go_through, merged}
use Rattle.vfa_walk.specs.Sending.{got_from, layout}
use Rattle.vfa_walk.proofs.Listed.{kept_nothing, kept_set, none_states}
use Rattle.vfa_walk.proofs.Passing.{awaited_apart, awaited_before, awaited_inside, go_more, got_turn, here_left, none_turn, place_in_order, turn_is}
use Rattle.vfa_walk.proofs.States.{funext}
use Rattle.vfa_walk.proofs.passes.go.Goals as goal

pub order-init : goal.order-init
order-init g c =
    let answers = g.V.Values.answers in
    let f = c.args.f.now in
    let empty = funext (λ (b : ℕ). kept_nothing c.in_ok-table.table b c.in_ok-table.ensures.none) in
    record {
      rest = λ names _ b. ap (λ t. go_through (flow_of answers f (layout c.args.order.now names)) (kept_in_order c.args.order.now c.args.heads.now) (numbers c.args.order.now) t b) empty;
      sent = λ b _. kept_nothing c.in_ok-got.got b c.in_ok-got.ensures.none;
      none = λ b _. kept_nothing c.in_ok-table.table b c.in_ok-table.ensures.none;
      table_states = none_states g.V.Values.ty g.V.Values.proper f c.in_ok-table.table c.in_ok-table.ensures.none;
      got_states = none_states g.V.Values.ty g.V.Values.proper f c.in_ok-got.got c.in_ok-got.ensures.none;
      table_count = c.in_ok-table.ensures.count ∙ ap length c.as_slice-count.ensures;
      got_count = c.in_ok-got.ensures.count ∙ ap length c.as_slice-count.ensures;
      within = omega arith;
    }

pub entry_of-requires-clause-head : goal.entry_of-requires-clause-head
entry_of-requires-clause-head g c =
    let P : Option _ → Type 0 = λ e. ForSome e (IsStateOf g.V.Values.ty g.V.Values.proper c.args.f.now) in
    subst P (sym c.index-heads-place.is) (All-get_or P c.args.heads.now c.order.place c.index-heads-place.result (omega (arith, c.requires.each, c.order-test.true)) c.requires.heads)

pub set-requires : goal.set-requires
set-requires g c =
    let d : BlockId = record { 0 = 0 } in
    let below = (c.requires.ordered.reached (get_or c.args.order.now c.order.place d).0).0 (place_in_order c.args.order.now c.order.place d c.order-test.true) in
    omega (arith, below.0, c.order.invariant.table_count)

pub order-preserved : goal.order-preserved
order-preserved g c =
    let answers = g.V.Values.answers in
    let f = c.args.f.now in
    let order = c.args.order.now in
    let d : BlockId = record { 0 = 0 } in
    let place = c.order.place in
    let less = c.order-test.true in
    let distinct = c.requires.ordered.distinct in
    let here : ℕ = (get_or order place d).0 in
    let P : Option (Stored _) → Type 0 = λ e. ForSome e (IsStateOf g.V.Values.ty g.V.Values.proper f) in
    let inside = place_in_order order place d less in
    let below = ((c.requires.ordered.reached here).0 inside).0 in
    let entry = c.in_ok-entry.entry in
    let change = λ (b : ℕ). ap (λ l. kept_entries l b) c.set.ensures ∙ kept_set c.order.table here entry b (omega (arith, below, c.order.invariant.table_count)) in
    let sofar = c.order.invariant.sent here (inr (here_left answers f order place d less distinct)) in
    record {
      rest = λ names is.
          let scope = λ (v : ℕ). is.scopes here v inside in
          let told = subst (λ h. option_map known entry ≡ (if nat_eq here first_block then Some (start_state answers f)
          else if is_head f order here then option_map known h
          else option_map (kept_names (names here)) (kept_entries c.order.got here)))
          c.index-heads-place.is (c.in_ok-entry.ensures.entry (names here) scope) in
          go_more answers f order place d less distinct (kept_entries c.order.table) (kept_entries c.set.new.self) (option_map known entry) change names
          (kept_in_order order c.args.heads.now)
          (turn_is answers f order place d less distinct names c.args.heads.now (kept_entries c.order.table) c.index-heads-place.result (kept_entries c.order.got here) (option_map known entry)
          c.requires.each c.order.invariant.none sofar told)
          (c.order.invariant.rest names is);
      sent = λ b awaited.
          let within : b < length f.blocks = ((c.requires.ordered.reached b).0 (awaited_inside f order (place + 1) b awaited)).0 in
          let room : b < length c.entry_of.new.got = omega (arith, within, c.in_ok-entry.ensures.count, c.order.invariant.got_count) in
          got_turn answers f order place d less distinct (kept_entries c.order.table) (kept_entries c.set.new.self) (option_map known entry) change b
          (kept_entries c.order.got b) (kept_entries c.send.new.got b) (c.order.invariant.sent b (awaited_before answers f order place d less distinct b awaited))
          (c.in_ok-send.ensures.given b room
          ∙ ap (λ o. merged (joined answers) o (followed (handed_on answers f here b) (option_map known entry))) (c.in_ok-entry.ensures.others b (awaited_apart answers f order place d less distinct b awaited)));
      none = none_turn answers f order place d less distinct (kept_entries c.order.table) (kept_entries c.set.new.self) (option_map known entry) change c.order.invariant.none;
      table_states = All-same P c.set.new.self (set c.order.table here entry) c.set.ensures (All-set P c.order.table here entry c.in_ok-entry.ensures.state c.order.invariant.table_states);
      got_states = c.in_ok-send.ensures.states;
      table_count = ap length c.set.ensures ∙ (length-set _ _ _ ∙ c.order.invariant.table_count);
      got_count = c.in_ok-send.ensures.count ∙ (c.in_ok-entry.ensures.count ∙ c.order.invariant.got_count);
      within = omega arith;
    }

pub returns-clause-table : goal.returns-clause-table
returns-clause-table g c names is b =
    let m = flow_of g.V.Values.answers c.args.f.now (layout c.args.order.now names) in
    let x = kept_in_order c.args.order.now c.args.heads.now in
    sym (ap (λ l. go_through m x (numbers l) (kept_entries c.order.table) b) (drop_of_length-le c.args.order.now c.order-test.false))
    ∙ c.order.invariant.rest names is b

pub returns-clause-got : goal.returns-clause-got
returns-clause-got g c b head =
    c.order.invariant.sent b (inl head)
    ∙ ap (λ l. got_from g.V.Values.answers c.args.f.now (kept_entries c.order.table) (numbers l) b) (take_all c.order.place c.args.order.now c.order-test.false)
