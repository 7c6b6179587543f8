-- helper: in no public contract
-- What the rules ask of the cells of an operation's operands.
use Rattle.std.specs.Prelude.{◌≡◌, Bool, true, false, ⊤}
use Rattle.vfa_ir.specs.declared.operations.Bin.{Bin}
use Rattle.vfa_ir.specs.declared.operations.Op.{Op}
use Rattle.vfa_word.specs.Numbers.{IsWidth}
use Rattle.vfa_fact.specs.Cells.{CellValue}

-- two operands are of one width, and a conversion's result has a width
abbrev pub AreReady : Op → CellValue → CellValue → Type 0
AreReady (Op.Bin _ _ _ _ _) x y = x.width ≡ y.width
AreReady (Op.Two _ _ _ _) x y = x.width ≡ y.width
AreReady (Op.Cast _ _ _ w _) x y = IsWidth w
AreReady _ x y = ⊤

-- `udiv`, `sdiv`, `urem` and `srem`
abbrev pub is_division : Op → Bool
is_division (Op.Bin Bin.Udiv _ _ _ _) = true
is_division (Op.Bin Bin.Sdiv _ _ _ _) = true
is_division (Op.Bin Bin.Urem _ _ _ _) = true
is_division (Op.Bin Bin.Srem _ _ _ _) = true
is_division _ = false

-- a `select`, a `freeze` or an `assume` on bits
abbrev pub IsOnBits : Op → Type 0
IsOnBits (Op.Select w _ _ _) = w ≡ 1
IsOnBits (Op.Freeze w _) = w ≡ 1
IsOnBits (Op.Assume _) = ⊤
IsOnBits _ = ⊥
