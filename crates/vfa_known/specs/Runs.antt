-- helper: in no public contract
-- Runs of places at the two ends of a mask of width w, and what a shift leaves known of them.
use Rattle.std.specs.Prelude.{◌≡◌, ℕ, ◌^◌, ◌<◌, ◌≤◌}
use Rattle.std.specs.Int.{bit_at}
use Rattle.vfa_dom.specs.Best.{Masks}
use Rattle.vfa_known.specs.declared.shift.Shift.{Shift}
use Rattle.vfa_known.specs.declared.shift.Shift.TheVariants.{Left, Logical, Arithmetic}

-- with each place of the run all lower ones are in the mask m
pub record IsLowRun (w m run : ℕ) : Type 0 where
  pub fits : run < 2 ^ w
  pub lower : (i j : ℕ) → bit_at run i ≡ 1 → j ≤ i → bit_at m j ≡ 1

-- with each place of the run all higher ones below w are in the mask m
pub record IsHighRun (w m run : ℕ) : Type 0 where
  pub fits : run < 2 ^ w
  pub higher : (i j : ℕ) → bit_at run i ≡ 1 → i ≤ j → j < w → bit_at m j ≡ 1

-- of the known zeros m the places n stay known zeros however far the shift goes on
abbrev pub ZerosLast : Shift → ℕ → ℕ → ℕ → Type 0
ZerosLast Left w m n = IsLowRun w m n
ZerosLast Logical w m n = IsHighRun w m n
ZerosLast Arithmetic w m n = IsHighRun w m n

-- the same of known ones, which only the shift that copies the sign makes more of
abbrev pub OnesLast : Shift → ℕ → ℕ → ℕ → Type 0
OnesLast Left w m n = n ≡ 0
OnesLast Logical w m n = n ≡ 0
OnesLast Arithmetic w m n = IsHighRun w m n

-- all that the masks know stays known
pub record AreLasting (shift : Shift) (w : ℕ) (m : Masks) : Type 0 where
  pub zeros_last : ZerosLast shift w m.zeros m.zeros
  pub ones_last : OnesLast shift w m.ones m.ones
