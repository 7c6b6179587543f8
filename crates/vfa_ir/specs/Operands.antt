-- The operands of an operation, and an operation without its flags.
use Rattle.std.specs.Prelude.{ℕ, List, [], ◌∷◌, map, false, Option, Some, None, slice_get}
use Rattle.vfa_ir.specs.declared.operations.CastFlags.{CastFlags}
use Rattle.vfa_ir.specs.declared.operations.Flags.{Flags}
use Rattle.vfa_ir.specs.declared.operations.Op.{Op}
use Rattle.vfa_ir.specs.declared.operations.Operand.{Operand}
use Rattle.vfa_ir.specs.declared.operations.Ty.{Ty}
use Rattle.vfa_ir.specs.declared.functions.CallOp.{CallOp}
use Rattle.vfa_ir.specs.declared.functions.Function.{Function}

-- two numbers of one width
abbrev pub pair_of_width : ℕ → Operand → Operand → List (Ty × Operand)
pair_of_width width a b = (Ty.Int width, a) ∷ (Ty.Int width, b) ∷ []

-- the arguments of a call
abbrev pub arguments_of : Option CallOp → List (Ty × Operand)
arguments_of None = []
arguments_of (Some c) = map (λ a. (Ty.Int a.width, a.value)) c.args

-- The operands of an operation in text order, each with the type that is written for it. The literal of `llvm.abs`,
-- `llvm.ctlz` and `llvm.cttz` is none; the pair of an `extractvalue` is one, and so is each argument of a call.
abbrev pub operands_of : Function → Op → List (Ty × Operand)
operands_of f (Op.Bin _ _ width a b) = pair_of_width width a b
operands_of f (Op.Icmp _ _ width a b) = pair_of_width width a b
operands_of f (Op.Select width c a b) = (Ty.Int 1, c) ∷ pair_of_width width a b
operands_of f (Op.Cast _ _ from _ a) = (Ty.Int from, a) ∷ []
operands_of f (Op.Freeze width a) = (Ty.Int width, a) ∷ []
operands_of f (Op.Two _ width a b) = pair_of_width width a b
operands_of f (Op.One _ width a _) = (Ty.Int width, a) ∷ []
operands_of f (Op.Over _ width a b) = pair_of_width width a b
operands_of f (Op.Part width pair _) = (Ty.Pair width, Operand.Value pair) ∷ []
operands_of f (Op.Assume c) = (Ty.Int 1, c) ∷ []
operands_of f (Op.Call _ call) = arguments_of (slice_get f.calls call)

-- An operation with each of its flags taken away: it is poison more rarely (Language Reference, "Poison Values").
abbrev pub no_flags : Flags
no_flags = record { nuw = false; nsw = false; exact = false; disjoint = false }

abbrev pub no_cast_flags : CastFlags
no_cast_flags = record { nuw = false; nsw = false; nneg = false }

abbrev pub without_flags : Op → Op
without_flags (Op.Bin bin _ width a b) = Op.Bin bin no_flags width a b
without_flags (Op.Icmp pred _ width a b) = Op.Icmp pred false width a b
without_flags (Op.Cast cast _ from to a) = Op.Cast cast no_cast_flags from to a
without_flags op = op
