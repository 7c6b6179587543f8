-- What the line of a fact tells its reader.
use Rattle.std.specs.Prelude.{◌≡◌, ◌↔◌, ℕ, ◌-◌, ◌^◌, ◌<◌, Bool, true, false, IsTrue, List, [], ◌∷◌, ◌++◌, length, slice_index, MatchOption, codes, decimal}
use Rattle.std.specs.Int.{bit_at}
use Rattle.std.specs.List.{join_with_byte}
use Rattle.std.specs.Str.{byte}
use Rattle.vfa_wrap.specs.Arc.{steps, in_span}
use Rattle.vfa_fact.specs.Cells.{CellValue}
use Rattle.vfa_fact.specs.Fact.{in_numbers, span_in}
use Rattle.vfa_fact.specs.declared.cell.Parts.{Parts}
use Rattle.vfa_fact.specs.declared.numbers.Numbers.{Numbers}

-- as LLVM writes integer types
abbrev pub type_text : ℕ → List ℕ
type_text w = codes "i" ++ decimal w

-- some number of the set has this digit at place i; each has it
abbrev pub SomeHas : (ℕ → Bool) → ℕ → ℕ → Type 0
SomeHas S digit i = (x : ℕ) × IsTrue (S x) × (bit_at x i ≡ digit)

abbrev pub EachHas : (ℕ → Bool) → ℕ → ℕ → Type 0
EachHas S digit i = (x : ℕ) → IsTrue (S x) → bit_at x i ≡ digit

-- the numbers of the set differ there
abbrev pub Differ : (ℕ → Bool) → ℕ → Type 0
Differ S i = SomeHas S 0 i × SomeHas S 1 i

-- one byte for each bit, from the top: the digit that all numbers of the set have there, or `?` where they differ
pub record ShowsBits (w : ℕ) (S : ℕ → Bool) (bits : List ℕ) : Type 0 where
  pub long : length bits ≡ w
  pub zero : (i : ℕ) → i < w → slice_index bits (w - 1 - i) ≡ byte "0" ↔ EachHas S 0 i
  pub one : (i : ℕ) → i < w → slice_index bits (w - 1 - i) ≡ byte "1" ↔ EachHas S 1 i
  pub unknown : (i : ℕ) → i < w → slice_index bits (w - 1 - i) ≡ byte "?" ↔ Differ S i

-- all numbers of the width, or those from a number up to before another one, going on at 0 after the greatest
pub data ShowsRange (w : ℕ) (R : ℕ → Bool) : List ℕ → Type 0 where
  full : ((x : ℕ) → x < 2 ^ w → IsTrue (R x)) → ShowsRange w R (codes "full")
  between : (a b : ℕ) → a < 2 ^ w → b < 2 ^ w → ((x : ℕ) → x < 2 ^ w → IsTrue (R x) ↔ (steps w a x < steps w a b)) →
      ShowsRange w R (codes "[" ++ (decimal a ++ (codes "," ++ (decimal b ++ codes ")"))))

pub record ShowsMark (never_poison : Bool) (mark : List ℕ) : Type 0 where
  pub never : mark ≡ codes "never-poison" ↔ (never_poison ≡ true)
  pub maybe : mark ≡ codes "maybe-poison" ↔ (never_poison ≡ false)

-- the line of numbers: behind the type the digits of the set, the arc, and the mark
pub record ShowsNumbers (w : ℕ) (n : Numbers) (never_poison : Bool) (shown line : List ℕ) : Type 0 where
  pub bits : List ℕ
  pub range : List ℕ
  pub mark : List ℕ
  pub words : line ≡ join_with_byte (byte " ") (shown ∷ type_text w ∷ bits ∷ range ∷ mark ∷ [])
  pub shows_bits : ShowsBits w (in_numbers w n) bits
  pub shows_range : ShowsRange w (in_span w (span_in n)) range
  pub shows_mark : ShowsMark never_poison mark

-- the line of a cell; without numbers it is poison alone
abbrev pub ShowsCell : List ℕ → CellValue → List ℕ → Type 0
ShowsCell shown c line =
    MatchOption c.numbers
    (line ≡ join_with_byte (byte " ") (shown ∷ type_text c.width ∷ codes "only-poison" ∷ []))
    (λ n. ShowsNumbers c.width n c.never_poison shown line)

-- a line for each part
abbrev pub ShowFact : List ℕ → Parts → List (List ℕ) → Type 0
ShowFact shown (Parts.One c) lines = (line : List ℕ) × (lines ≡ line ∷ []) × ShowsCell shown c line
ShowFact shown (Parts.Two c d) lines =
    (number bit : List ℕ) × (lines ≡ number ∷ bit ∷ []) × ShowsCell (shown ++ codes "[0]") c number × ShowsCell (shown ++ codes "[1]") d bit
