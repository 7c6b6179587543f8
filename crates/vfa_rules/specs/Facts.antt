-- What facts say of values, this project's own: a cell of a number, and one of each part of a pair.
use Rattle.std.specs.Prelude.{◌≡◌, false, IsTrue}
use Rattle.vfa_ir.specs.declared.operations.Ty.{Ty}
use Rattle.vfa_fact.specs.declared.cell.Parts.{Parts}
use Rattle.vfa_fact.specs.Cells.{CellValue, IsCell, in_cell}
use Rattle.vfa_mean.specs.declared.value.Val.{Val}
use Rattle.vfa_mean.specs.Rows.{bit_of}

-- the type of the values that the fact is about
abbrev pub type_of_parts : Parts → Ty
type_of_parts (Parts.One c) = Ty.Int c.width
type_of_parts (Parts.Two c d) = Ty.Pair c.width

-- each part is a cell, and the second part of a pair has width 1
abbrev pub AreCells : Parts → Type 0
AreCells (Parts.One c) = IsCell c
AreCells (Parts.Two c d) = IsCell c × IsCell d × (d.width ≡ 1)

-- the cell holds of its numbers, and of poison where it is not marked; a cell without numbers of poison alone
abbrev pub CellHolds : CellValue → Val → Type 0
CellHolds c (Val.Number x) = IsTrue (in_cell c x)
CellHolds c Val.Poison = c.never_poison ≡ false
CellHolds c (Val.Pair x o) = ⊥

-- the fact of a pair holds part by part, and of poison where neither part is marked
abbrev pub PartsHold : Parts → Val → Type 0
PartsHold (Parts.One c) v = CellHolds c v
PartsHold (Parts.Two c d) (Val.Number x) = ⊥
PartsHold (Parts.Two c d) Val.Poison = CellHolds c Val.Poison × CellHolds d Val.Poison
PartsHold (Parts.Two c d) (Val.Pair x o) = CellHolds c (Val.Number x) × CellHolds d (Val.Number (bit_of o))

-- the cell of a number; of a pair that of its number
abbrev pub number_cell : Parts → CellValue
number_cell (Parts.One c) = c
number_cell (Parts.Two c d) = c

-- the cell of a pair's overflow bit
abbrev pub bit_cell : Parts → CellValue
bit_cell (Parts.One c) = c
bit_cell (Parts.Two c d) = d
