use Rattle.std.proofs.Common.{◌∙◌, ap, not, ◌&&◌, subst, length, ◌<◌, ◌≤◌, ◌≡◌, get_or, ℕ, Bool}
use Rattle.std.specs.List.{list_any}
use Rattle.vfa_ir.specs.declared.functions.Block.{Block}
use Rattle.vfa_cond.specs.States.{known}
use Rattle.vfa_cond.proofs.Accepted.{taken_whole}
use Rattle.vfa_walk.specs.Stepping.{defines_by, ended}
use Rattle.vfa_walk.proofs.States.{ends_more, room_kept, state_is}
use Rattle.vfa_walk.proofs.definitions.end_mentions.Goals as goal

pub all-preserved : goal.all-preserved
all-preserved g c =
    let same = c.as_slice-block-items.ensures in
    let inside = subst (λ xs. c.all.block-index < length xs) same c.all-test.true in
    let item = subst (λ xs. c.block-item.result ≡ get_or xs c.all.block-index c.block-item.result) same c.block-item.is in
    record {
      live = λ (u : ℕ).
          let p : Block → Bool = λ b. list_any (defines_by c.args.f.now u c.args.v.0) b.insts in
          let step : (known c.end_in_block.new.state).live u ≡ ((known c.all.state).live u && not (p (get_or c.args.f.now.blocks c.all.block-index c.block-item.result))) =
          c.end_in_block.ensures.live u ∙ ap (λ b. (known c.all.state).live u && not (p b)) item in
          ends_more p c.args.f.now.blocks c.all.block-index c.block-item.result _ _ _ inside step (c.all.invariant.live u);
      facts = c.end_in_block.ensures.facts ∙ c.all.invariant.facts;
      room = room_kept _ _ _ c.all.invariant.room c.end_in_block.ensures.room;
    }

pub returns-clause-ended : goal.returns-clause-ended
returns-clause-ended g c =
    let same = c.as_slice-block-items.ensures in
    let past = subst (λ xs. length xs ≤ c.all.block-index) same c.all-test.false in
    state_is (known c.all.state) (ended c.args.f.now c.args.v.0 (known c.args.state.now)) (λ u. ap (λ h. h u) c.all.invariant.facts)
    (λ u. c.all.invariant.live u ∙ ap (λ xs. (known c.args.state.now).live u && not (list_any (λ b. list_any (defines_by c.args.f.now u c.args.v.0) b.insts) xs))
    (taken_whole c.args.f.now.blocks c.all.block-index past))
