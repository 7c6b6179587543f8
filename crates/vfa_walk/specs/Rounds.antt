-- The rounds: heads begin without a state, and in each round each head's state is widened by what it gets in a pass, until
-- a round changes nothing. Then each head gets once what came to it in that round, not widened, and the table is that of
-- one more pass.
use Rattle.std.specs.Prelude.{◌≡◌, ◌<◌, ℕ, zero, suc, None}
use Rattle.vfa_walk.specs.Flow.{Flow}
use Rattle.vfa_walk.specs.Passes.{Entries, merged, pass_table, pass_next}

-- the states of heads after this many rounds
abbrev pub after_rounds : {S : Type 0} → Flow S → ℕ → Entries S
after_rounds m zero b = None
after_rounds m (suc n) b = merged (m.widen (suc n)) (after_rounds m n b) (pass_next m (after_rounds m n) b)

-- the round after this many changes nothing
abbrev pub IsStill : {S : Type 0} → Flow S → ℕ → Type 0
IsStill m n = (b : ℕ) → after_rounds m (suc n) b ≡ after_rounds m n b

-- the rounds end after this many: the next one is the first that changes nothing
pub record AreRounds {S : Type 0} (m : Flow S) (n : ℕ) : Type 0 where
  pub still : IsStill m n
  pub first : (k : ℕ) → k < n → IsStill m k → ⊥

-- the table that the states of heads after this many rounds give
abbrev pub table_after : {S : Type 0} → Flow S → ℕ → Entries S
table_after m n = pass_table m (pass_next m (after_rounds m n))

-- t is the table of the flow
pub record IsTable {S : Type 0} (m : Flow S) (t : Entries S) : Type 0 where
  pub rounds : ℕ
  pub are_rounds : AreRounds m rounds
  pub entries : (b : ℕ) → t b ≡ table_after m rounds b
