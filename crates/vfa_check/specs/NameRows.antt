-- Sets of names as rows of bits. Bit number v says whether the set has the name v; the bit behind that of the last name
-- says whether it has the numbers that are no names.
--
-- Of three names, the bits 0 and 2 are the set of the names 0 and 2; the bits 0 and 3 are that of 0 and each number from
-- 3 on.
use Rattle.std.specs.Prelude.{◌≡◌, ◌+◌, ◌/◌, ◌%◌, ℕ, Bool, true, nat_eq, min, List, length, get_or, slice_get, Some, None}
use Rattle.std.specs.Int.{bit_at}
use Rattle.vfa_check.specs.declared.name_rows.NameRow.{NameRow}

-- whether a bit of a row of 64-bit words is one
abbrev pub is_one : List ℕ → ℕ → Bool
is_one words place = nat_eq (bit_at (get_or words (place / 64) 0) (place % 64)) 1

abbrev pub has_name : NameRow → ℕ → Bool
has_name row v = is_one row.words.items (min v row.names)

-- a row for this many names
pub record IsRow (count : ℕ) (row : NameRow) : Type 0 where
  pub names : row.names ≡ count
  pub words : length row.words.items ≡ count / 64 + 1

-- whether the row of a block has a name; where there is no row, it counts as one that has all
abbrev pub has_at : List NameRow → ℕ → ℕ → Bool
has_at rows b v = elim (slice_get rows b) [ None ↦ true | Some row ↦ has_name row v ]
