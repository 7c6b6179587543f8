use Rattle.std.proofs.Common.{◌≡◌, ◌++◌, length}
use Rattle.vfa_opt.specs.Works.{items_in}
use Rattle.vfa_opt.proofs.ShareCounts.{CutsSo}
use Rattle.vfa_opt.proofs.share_work.shares.Given as goal

abbrev pub invariant-shares : goal.invariant-shares
invariant-shares l = record {
  size : l.share-iterator.size ≡ l.size;
  whole : items_in l.all.items ++ l.share-iterator.rest.now ≡ l.items;
  cuts : CutsSo l.size (length l.items) l.workers (length l.all.items) (length l.share-iterator.rest.now);
}
