use Rattle.std.proofs.Common.{◌≡◌, ◌<◌, ◌≤◌, ℕ, [], map, length, get_or}
use Rattle.vfa_walk.specs.Landmarks.{landmarks}
use Rattle.vfa_walk.proofs.marks.all_landmarks.Given as goal

abbrev pub invariant-widths : goal.invariant-widths
invariant-widths l = record {
  rows : (w : ℕ) → 1 ≤ w → w < l.width → get_or (map (λ v. v.items) l.all.items) w [] ≡ landmarks l.f w;
  count : length l.all.items ≡ l.width;
  least : 1 ≤ l.width;
  most : l.width ≤ 129;
}
