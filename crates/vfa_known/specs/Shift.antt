-- helper: in no public contract
-- The three shifts as one family.
use Rattle.std.specs.Prelude.{ℕ, ◌^◌, ◌-◌}
use Rattle.vfa_word.specs.Operations.{shifted_left, shifted_right, shifted_right_signed}
use Rattle.vfa_known.specs.declared.shift.Shift.{Shift}
use Rattle.vfa_known.specs.declared.shift.Shift.TheVariants.{Left, Logical, Arithmetic}

-- what the shift by t gives of a number x of width w
abbrev pub shift_of : Shift → ℕ → ℕ → ℕ → ℕ
shift_of Left w x t = shifted_left w x t
shift_of Logical w x t = shifted_right x t
shift_of Arithmetic w x t = shifted_right_signed w x t

-- the places that the shift by t fills with zeros, whatever it shifts
abbrev pub zeros_from_outside : Shift → ℕ → ℕ → ℕ
zeros_from_outside Left w t = 2 ^ t - 1
zeros_from_outside Logical w t = 2 ^ w - 2 ^ (w - t)
zeros_from_outside Arithmetic w t = 0
