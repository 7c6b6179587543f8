-- helper: in no public contract
-- Where a whole number stands to the range of a width, which is all that the code knows of one: below the range, in it
-- with a number of the width, or above it. The range has 0, so a whole number outside it is below exactly where it is
-- negative.
use Rattle.std.specs.Prelude.{ℕ, ℤ, pos, int_lt, if◌then◌else◌}
use Rattle.vfa_word.specs.Numbers.{wrap, signed_of}
use Rattle.vfa_wrap.specs.WholeSpans.{WholeSpan, fits_read}
use Rattle.vfa_wrap.specs.declared.reading.Reading.{Reading}
use Rattle.vfa_wrap.specs.declared.reading.Reading.TheVariants.{Unsigned, Signed}
use Rattle.vfa_wrap.specs.declared.places.Place.{Place}
use Rattle.vfa_wrap.specs.declared.places.Place.TheVariants.{Below, Within, Above}
use Rattle.vfa_wrap.specs.declared.places.Places.{Places}

unfoldable pub place_of : Reading → ℕ → ℤ → Place
place_of reading w z =
    if fits_read reading w z then Within (wrap w z) else (if int_lt z (pos 0) then Below else Above)

-- the places of the ends of a span
abbrev pub places_of : Reading → ℕ → WholeSpan → Places
places_of reading w span = record { least = place_of reading w span.least; most = place_of reading w span.most }

-- a number in the reading
abbrev pub read_of : Reading → ℕ → ℕ → ℤ
read_of Unsigned w x = pos x
read_of Signed w x = signed_of w x
