-- The signed order of the numbers of a width: from the least signed value up to the greatest one.
use Rattle.std.specs.Prelude.{ℕ, ◌+◌, ◌-◌, ◌%◌, ◌^◌, ℤ, pos, ◌-ℤ◌}

-- the number that stands k places above the least signed value in the signed order
abbrev pub in_signed_order : ℕ → ℕ → ℕ
in_signed_order w k = (k + 2 ^ (w - 1)) % 2 ^ w

-- the signed reading that stands k places above the least one
abbrev pub reading_at : ℕ → ℕ → ℤ
reading_at w k = pos k -ℤ pos (2 ^ (w - 1))
