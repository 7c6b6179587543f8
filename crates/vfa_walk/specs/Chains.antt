-- helper: in no public contract
-- The edges of a block by the blocks that they lead to.
use Rattle.std.specs.Prelude.{◌≡◌, ◌<◌, ◌+◌, ℕ, suc, nat_eq, if◌then◌else◌, Some, List, [], ◌∷◌, drop, length, slice_get}

-- how many of these targets stand before the first that is the block; all of them where none is
abbrev pub first_to : ℕ → List ℕ → ℕ
first_to to [] = 0
first_to to (target ∷ rest) = if nat_eq target to then 0 else suc (first_to to rest)

-- For edges to these targets: at the place of each block stands the number of the first edge there, and at that of each edge
-- the number of the next one to the same block; where there is none, it is how many edges there are.
pub record AreChains (targets first next : List ℕ) : Type 0 where
  pub firsts : (b : ℕ) → b < length first → slice_get first b ≡ Some (first_to b targets)
  pub nexts : (k b : ℕ) → b < length first → slice_get targets k ≡ Some b → slice_get next k ≡ Some ((k + 1) + first_to b (drop (k + 1) targets))
