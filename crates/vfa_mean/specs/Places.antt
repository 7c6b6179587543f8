-- helper: in no public contract
-- Places of numbers of 32 bits in a list, kept in a table.
use Rattle.std.specs.Prelude.{◌≡◌, ◌-◌, ◌<◌, ◌^◌, ℕ, List, length, min, slice_index_or}
use Rattle.vfa_mean.specs.Renaming.{place_among}

-- how many numbers there are, as far as 32 bits reach
abbrev pub no_place : List ℕ → ℕ
no_place numbers = min (length numbers) (2 ^ 32 - 1)

-- the table has the place of each number; one that it does not have is not there
abbrev pub ArePlaces : List ℕ → List ℕ → Type 0
ArePlaces numbers table = (n : ℕ) → n < 2 ^ 32 → slice_index_or table n (no_place numbers) ≡ place_among numbers n
