-- The landmarks of all widths.
use Rattle.std.specs.Prelude.{◌≡◌, ℕ, List, [], get_or}
use Rattle.vfa_ir.specs.declared.functions.Function.{Function}
use Rattle.vfa_word.specs.Numbers.{IsWidth}
use Rattle.vfa_walk.specs.Landmarks.{landmarks}

-- at the place of each width stand its landmarks
abbrev pub AreMarksOf : Function → List (List ℕ) → Type 0
AreMarksOf f marks = (w : ℕ) → IsWidth w → get_or marks w [] ≡ landmarks f w
