use Rattle.std.proofs.Common.{◌<◌, ◌+◌, ◌++◌, ◌∙◌, take, drop, length, ap, arith, length-set}
use Rattle.vfa_mean.specs.Kept.{is_marked}
use Rattle.vfa_rewrite.specs.Expanding.{used_block_at}
use Rattle.vfa_rewrite.specs.Rewritten.{with_numbers}
use Rattle.vfa_rewrite.proofs.Numbered.{put_more, stands_below}
use Rattle.vfa_rewrite.proofs.expanding.use_blocks.Goals as goal

pub all-preserved : goal.all-preserved
all-preserved c =
    let b = c.all.b in
    let before = c.all.put.items in
    let make = used_block_at c.args.f.now c.args.kept.now (is_marked c.args.used.now) in
    let room : b < length before = omega (arith, c.all.invariant.count, c.requires.same, c.requires.found, c.all-test.true) in
    let at = stands_below before b room in
    let is = c.in_ok-use_block_at.ensures at.x at.there in
    record {
      count = ap length is ∙ (length-set before b (make b at.x) ∙ c.all.invariant.count);
      made = ap (λ l. take (b + 1) l ++ with_numbers make (b + 1) (drop (b + 1) l)) is ∙ put_more make before b at.x at.there _ c.all.invariant.made;
    }
