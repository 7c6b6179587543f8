-- The limits of the profile: how large a module and its functions may be.
use Rattle.std.specs.Prelude.{ℕ}

-- the bytes of a module, 2 ^ 24
abbrev pub most_bytes : ℕ
most_bytes = 16777216

-- the parameters and results of a function
abbrev pub most_names : ℕ
most_names = 4096

-- the blocks of a function
abbrev pub most_blocks : ℕ
most_blocks = 1024

-- the cases of a `switch`
abbrev pub most_cases : ℕ
most_cases = 1024
