-- What reads and writes do to the bytes that a source has left and a sink has got. A source or a sink tells
-- them or not (None): of bytes that are not told nothing is said.
use Rattle.std.specs.Prelude.{◌≡◌, ℕ, List, ◌++◌, Option}
use Rattle.std.specs.Io.KnownBytes.{Consumes, Appends}

-- the source gave these bytes in between
abbrev pub Gave : Option (List ℕ) → Option (List ℕ) → (List ℕ → Type 0) → Type 0
Gave before now P = (given : List ℕ) × Consumes before now given × P given

-- the sink got a prefix of these bytes in between
abbrev pub GotPrefix : Option (List ℕ) → Option (List ℕ) → List ℕ → Type 0
GotPrefix before now bytes = («prefix» : List ℕ) × (rest : List ℕ) × (bytes ≡ «prefix» ++ rest) × Appends before now «prefix»
