use Rattle.std.proofs.Common.{◌≡◌, ◌<◌, ◌≤◌, ◌+◌, ◌∙◌, None, get_or, length, ap, arith}
use Rattle.std.specs.Prelude.{slice_index_or}
use Rattle.std.specs.Option.{option_or}
use Rattle.vfa_mean.specs.Kept.{is_marked}
use Rattle.vfa_walk.specs.Kept.{kept_entries}
use Rattle.vfa_rewrite.specs.ByFacts.{findings_of}
use Rattle.vfa_rewrite.specs.Making.{first_marks}
use Rattle.vfa_rewrite.specs.Putting.{call_within}
use Rattle.vfa_rewrite.specs.Rewritten.{block_left}
use Rattle.vfa_rewrite.proofs.BlocksPut.{blocks_more}
use Rattle.vfa_rewrite.proofs.CallsPut.{blocks_calls}
use Rattle.vfa_rewrite.proofs.Noting.{noted_all, noted_one}
use Rattle.vfa_rewrite.proofs.putting.put_blocks.Goals as goal

pub all-preserved : goal.all-preserved
all-preserved c =
    let f = c.args.f.now in
    let found = findings_of f (kept_entries c.args.table.now) in
    let reached = is_marked c.args.reached.now in
    let m = first_marks f found reached in
    let k = c.all.block-index in
    let items = c.as_slice-block-items.result.now in
    let same = c.as_slice-block-items.ensures in
    let block = c.block-item.result in
    let is : block ≡ get_or f.blocks k block = c.block-item.is ∙ ap (λ l. get_or l k block) same in
    let place = c.all.invariant.place in
    let less : k < length f.blocks = let n = ap length same in omega (arith, n, c.all-test.true) in
    record {
      place = ap (λ n. n + 1) place;
      room = c.in_ok-put.ensures.room ∙ c.all.invariant.room;
      count = c.in_ok-put.ensures.count ∙ c.all.invariant.count;
      blocks = blocks_more (block_left f m) f.blocks k block less c.all.all.items _ _ c.in_ok-put.put (c.in_ok-put.ensures.block ∙ (λ i. block_left f m (place i) (is i))) c.in_ok-push.ensures.items c.all.invariant.blocks;
      made = λ n. noted_one (call_within f found reached n) f.blocks k block less (slice_index_or c.all.calls.items n None) _ _ (c.all.invariant.made n)
          (c.in_ok-put.ensures.calls n ∙ ap (option_or (slice_index_or c.all.calls.items n None)) (λ i. call_within f found reached n (place i) (is i)));
    }

pub returns-clause-calls : goal.returns-clause-calls
returns-clause-calls c = λ n.
    let f = c.args.f.now in
    let found = findings_of f (kept_entries c.args.table.now) in
    let reached = is_marked c.args.reached.now in
    let past : length f.blocks ≤ c.all.block-index = let m = ap length c.as_slice-block-items.ensures in omega (arith, m, c.all-test.false) in
    noted_all (call_within f found reached n) f.blocks c.all.block-index past _ _ (c.all.invariant.made n) ∙ blocks_calls f found n reached 0 f.blocks
