-- helper: in no public contract
-- What comes to the heads in the last round.
use Rattle.std.specs.Prelude.{◌≡◌, ℕ}
use Rattle.vfa_walk.specs.Flow.{Flow}
use Rattle.vfa_walk.specs.Passes.{Entries, pass_next}
use Rattle.vfa_walk.specs.Rounds.{after_rounds, AreRounds}

-- it is what the heads get in the first round that changes nothing
pub record ComesLast {S : Type 0} (m : Flow S) (next : Entries S) : Type 0 where
  pub rounds : ℕ
  pub are_rounds : AreRounds m rounds
  pub comes : (b : ℕ) → next b ≡ pass_next m (after_rounds m rounds) b
