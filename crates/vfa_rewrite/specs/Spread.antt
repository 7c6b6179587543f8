-- helper: in no public contract
-- The search for the blocks that are reached: marks of those that were found, and all of them in the order in which they were found.
use Rattle.std.specs.Prelude.{ℕ, zero, suc, Bool, true, false, if◌then◌else◌, Some, None, List, [], ◌∷◌, ◌++◌, slice_get, slice_set, slice_index_or}

pub record Spread : Type 0 where
  pub marks : List Bool
  pub order : List ℕ

abbrev pub is_marked : Spread → ℕ → Bool
is_marked s b = slice_index_or s.marks b false

-- a block is come to: where it is new, it is marked, and put last
abbrev pub spread_to : Spread → ℕ → Spread
spread_to s to = if is_marked s to then s else record { marks = slice_set s.marks to true; order = s.order ++ (to ∷ []) }

-- one edge is followed, if it is left
abbrev pub spread_along : List ℕ → List Bool → Spread → ℕ → Spread
spread_along targets left s k = if slice_index_or left k false then elim (slice_get targets k) [ None ↦ s | Some to ↦ spread_to s to ] else s

-- the first so many edges are followed
abbrev pub spread_over : List ℕ → List Bool → Spread → ℕ → Spread
spread_over targets left s zero = s
spread_over targets left s (suc n) = spread_along targets left (spread_over targets left s n) n
