-- helper: in no public contract
-- What the lines of a function are written anew by, in lists of marks.
use Rattle.std.specs.Prelude.{ℕ, Bool, true, List, slice_index_or}
use Rattle.vfa_mean.specs.Kept.{is_marked}
use Rattle.vfa_bits.specs.Narrowed.{Choices}

-- whether a name may have changed; of a number that is no value's nothing is asked, so that it counts as one that has
abbrev pub is_changed_in : List Bool → ℕ → Bool
is_changed_in changed v = slice_index_or changed v true

abbrev pub choices_in : List Bool → List Bool → Choices
choices_in reached changed = record { reached = is_marked reached; changed = is_changed_in changed }
