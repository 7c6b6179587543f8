-- Names that are met one after another, with a mark for each that was met before.
use Rattle.std.specs.Prelude.{◌≡◌, ◌||◌, ℕ, Bool, false, List, ◌++◌, slice_index_or}
use Rattle.vfa_ir.specs.Words.{is_in}
use Rattle.vfa_report.specs.Uses.{first_uses}

-- the marks, a place for each name, and the names that were met for the first time, in order
pub record Met : Type 0 where
  pub marks : List Bool
  pub names : List ℕ

-- the marked names are these
abbrev pub AreMarks : List Bool → List ℕ → Type 0
AreMarks marks numbers = (n : ℕ) → slice_index_or marks n false ≡ is_in n numbers

-- these names are marked too
abbrev pub MarksMore : List Bool → List Bool → List ℕ → Type 0
MarksMore old new numbers = (n : ℕ) → slice_index_or new n false ≡ (is_in n numbers || slice_index_or old n false)

-- these names were met: whatever is met later, the first uses are those of all names together
pub record HasMet (old new : Met) (numbers : List ℕ) : Type 0 where
  pub met : (seen rest : List ℕ) → AreMarks old.marks seen →
      (later : List ℕ) × AreMarks new.marks later × (old.names ++ first_uses seen (numbers ++ rest) ≡ new.names ++ first_uses later rest)
