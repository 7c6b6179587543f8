-- Names that are defined once, and names that are used, in words of lists.
use Rattle.std.specs.Prelude.{◌≡◌, ℕ, List, ◌∷◌, ◌++◌, Contains, All, bytes_eq}
use Rattle.std.specs.List.{IsDistinct}
use Rattle.vfa_ir.specs.DefinedNames.{Use, of_value, of_block, used_name, value_names, block_names, uses}
use Rattle.vfa_ir.specs.Sentence.{Sentence}

-- the name is the first that is the same as one before it: of `a b c b a` that is `b`
pub record IsFirstRepeated (names : List (List ℕ)) (name : List ℕ) : Type 0 where
  pub before : List (List ℕ)
  pub after : List (List ℕ)
  pub parts : names ≡ before ++ name ∷ after
  pub distinct : IsDistinct bytes_eq before
  pub again : Contains before name

-- the function defines what is used: a value, or a block
abbrev pub IsDefined : Sentence → Use → Type 0
IsDefined s (of_value name) = Contains (value_names s) name
IsDefined s (of_block name) = Contains (block_names s) name

-- the name is that of the first use in text order of what the function does not define
pub record IsFirstUndefined (s : Sentence) (name : List ℕ) : Type 0 where
  pub before : List Use
  pub undefined : Use
  pub after : List Use
  pub parts : uses s ≡ before ++ undefined ∷ after
  pub defined : All (IsDefined s) before
  pub is : IsDefined s undefined → ⊥
  pub name_is : used_name undefined ≡ name
