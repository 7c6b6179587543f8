use Rattle.std.proofs.Common.{◌≡◌, ◌<◌, length, true}
use Rattle.vfa_ir.specs.Walks.{successors}
use Rattle.vfa_rewrite.specs.Findings.{Findings}
use Rattle.vfa_rewrite.specs.Found.{AreKeptOf}
use Rattle.vfa_rewrite.specs.Marks.{Reached}
use Rattle.vfa_rewrite.specs.Spread.{is_marked}
use Rattle.vfa_rewrite.proofs.Reaching.{left_of}
use Rattle.vfa_rewrite.proofs.SpreadLaws.{IsSpread}
use Rattle.vfa_rewrite.proofs.spreading.reached.Given as goal

abbrev pub invariant-places : goal.invariant-places
invariant-places l = record {
  entry : is_marked l.search 0 ≡ true;
  inside : IsSpread (successors l.f) (left_of l.kept) (length l.f.blocks) (λ b. b < length l.f.blocks) l.search l.place;
  exact : (found : Findings) → AreKeptOf l.f found l.kept →
      IsSpread (successors l.f) (left_of l.kept) (length l.f.blocks) (Reached l.f found) l.search l.place;
}
