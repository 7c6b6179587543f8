use Rattle.std.proofs.Common.{◌≡◌, ℕ, Bool, List, ◌<◌, ◌||◌, drop, length}
use Rattle.vfa_mean.specs.Kept.{is_marked}
use Rattle.vfa_bits.specs.Choosing.{choices_in}
use Rattle.vfa_bits.specs.Narrowed.{is_reached_call}
use Rattle.vfa_bits.proofs.reached.reached_calls.Given as goal

abbrev pub invariant-each : goal.invariant-each
invariant-each l = record {
  whole : length l.marks.items ≡ length l.f.calls;
  place : l.number ≡ l.block-index;
  marked : (changed : List Bool) (place : ℕ) → place < length l.f.calls →
      (is_marked l.marks.items place || is_reached_call (choices_in l.reached changed) place l.number (drop l.block-index l.f.blocks))
      ≡ is_reached_call (choices_in l.reached changed) place 0 l.f.blocks;
}
