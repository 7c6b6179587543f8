-- How what is known of a value is shown (this project's own; LLVM shows known bits in the same letters, in its KnownBits::print).
-- In the order of the line: the name, the type, the bits from the top, the range, and whether the value is ever poison:
--
--     %a i8 0000?0?1 [1,12) maybe-poison
use Rattle.std.specs.Prelude.{ℕ, zero, suc, ◌+◌, ◌-◌, ◌%◌, ◌^◌, ◌&&◌, nat_eq, if◌then◌else◌, Option, Some, None, List, [], ◌∷◌, ◌++◌, codes, decimal}
use Rattle.std.specs.Int.{bit_at}
use Rattle.std.specs.List.{join_with_byte}
use Rattle.std.specs.Str.{byte}
use Rattle.vfa_fact.specs.declared.cell.Parts.{Parts}
use Rattle.vfa_fact.specs.declared.numbers.Numbers.{Numbers}
use Rattle.vfa_fact.specs.Cells.{CellValue}
use Rattle.vfa_print.specs.Layout.{name_text}

-- a bit that is known to be 0, or to be 1, or is not known
abbrev pub bit_letter : Numbers → ℕ → ℕ
bit_letter n k = if nat_eq (bit_at n.zeros k) 1 then byte "0" else (if nat_eq (bit_at n.ones k) 1 then byte "1" else byte "?")

-- the lowest bits, so many of them, from the top
abbrev pub bits_text : Numbers → ℕ → List ℕ
bits_text n zero = []
bits_text n (suc k) = bit_letter n k ∷ bits_text n k

-- The arc from its first number to the one after its last, modulo 2^w: [255,0) is 255 alone at width 8, and [250,3) is 250 to
-- 255 and 0 to 2.
abbrev pub range_text : ℕ → Numbers → List ℕ
range_text w n =
    if nat_eq n.first 0 && nat_eq n.last (2 ^ w - 1) then codes "full"
    else codes "[" ++ (decimal n.first ++ (codes "," ++ (decimal ((n.last + 1) % 2 ^ w) ++ codes ")")))

abbrev pub mark_text : CellValue → List ℕ
mark_text c = if c.never_poison then codes "never-poison" else codes "maybe-poison"

-- what is known of a number; without numbers it is poison alone
abbrev pub known_text : CellValue → Option Numbers → List ℕ
known_text c None = codes "only-poison"
known_text c (Some n) =
    bits_text n c.width ++ (codes " " ++ (range_text c.width n ++ (codes " " ++ mark_text c)))

-- the line of a number that is shown by this name
abbrev pub cell_line : List ℕ → CellValue → List ℕ
cell_line shown c = shown ++ (codes " i" ++ (decimal c.width ++ (codes " " ++ known_text c c.numbers)))

-- the line of a value, or the two lines of a pair
abbrev pub fact_lines : List ℕ → Parts → List (List ℕ)
fact_lines shown (Parts.One c) = cell_line shown c ∷ []
fact_lines shown (Parts.Two c d) = cell_line (shown ++ codes "[0]") c ∷ cell_line (shown ++ codes "[1]") d ∷ []

-- how the value of a name is shown in the function
abbrev pub local_text : List ℕ → List ℕ
local_text name = codes "%" ++ name_text name

-- the fact line of a name
abbrev pub fact_line : List ℕ → Parts → List ℕ
fact_line name parts = join_with_byte (byte "\n") (fact_lines (local_text name) parts)
