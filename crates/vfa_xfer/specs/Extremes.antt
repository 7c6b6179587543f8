-- Facts of the intrinsics of two numbers (LLVM Language Reference, "Standard C/C++ Library Intrinsics" and "Saturation
-- Arithmetic Intrinsics"), an equation each: known bits, and the arc of LLVM's ConstantRange operation of that name.
use Rattle.std.specs.Prelude.{ℕ, ◌&&◌, Option, Some, None}
use Rattle.vfa_ir.specs.declared.operations.Fun2.{Fun2}
use Rattle.vfa_dom.specs.Best.{Masks}
use Rattle.vfa_wrap.specs.Rows.{row_by_ends}
use Rattle.vfa_wrap.specs.declared.ends_op.EndsOp.{EndsOp}
use Rattle.vfa_fact.specs.declared.numbers.Numbers.{Numbers}
use Rattle.vfa_fact.specs.Cells.{CellValue, cell_of}
use Rattle.vfa_fact.specs.Join.{alike}
use Rattle.vfa_xfer.specs.Binary.{ends_in_numbers, no_masks}
use Rattle.vfa_xfer.specs.Bounds.{no_bounds, row_of}
use Rattle.vfa_xfer.specs.Rows.{RowOf, row_numbers}

-- the operation by whose arc the results are bounded: from the lesser or greater of the least ends to that of the greatest
-- ends, and the whole results of the ends, clamped to the range
abbrev pub ends_operation : Fun2 → EndsOp
ends_operation Fun2.Umin = EndsOp.Umin
ends_operation Fun2.Umax = EndsOp.Umax
ends_operation Fun2.Smin = EndsOp.Smin
ends_operation Fun2.Smax = EndsOp.Smax
ends_operation Fun2.UaddSat = EndsOp.UaddSat
ends_operation Fun2.UsubSat = EndsOp.UsubSat
ends_operation Fun2.SaddSat = EndsOp.SaddSat
ends_operation Fun2.SsubSat = EndsOp.SsubSat

-- a minimum or maximum is one of the two numbers, so it has the bits known alike in both; of a clamped result no bit is known
abbrev pub two_masks : Fun2 → Numbers → Numbers → Masks
two_masks Fun2.Umin m n = alike m n
two_masks Fun2.Umax m n = alike m n
two_masks Fun2.Smin m n = alike m n
two_masks Fun2.Smax m n = alike m n
two_masks Fun2.UaddSat m n = no_masks
two_masks Fun2.UsubSat m n = no_masks
two_masks Fun2.SaddSat m n = no_masks
two_masks Fun2.SsubSat m n = no_masks

unfoldable pub two_row : Fun2 → ℕ → Numbers → Numbers → Option RowOf
two_row fun w m n = row_of
    (two_masks fun m n)
    (row_by_ends (ends_operation fun) w (ends_in_numbers w m) (ends_in_numbers w n))
    (Some (no_bounds w))

-- none where an operand has none
abbrev pub two_numbers_of : Fun2 → ℕ → Option Numbers → Option Numbers → Option Numbers
two_numbers_of fun w (Some m) (Some n) = row_numbers w (two_row fun w m n)
two_numbers_of fun w (Some m) None = None
two_numbers_of fun w None n = None

-- the cell of the result, never poison where both operands are. At width 8, `umin` of 0 to 20 and 10 to 30 is 0 to 20, and
-- `uadd.sat` of 200 to 210 and 40 to 60 is 240 to 255
abbrev pub two_cell : Fun2 → CellValue → CellValue → CellValue
two_cell fun a b = cell_of a.width (two_numbers_of fun a.width a.numbers b.numbers) (a.never_poison && b.never_poison)
