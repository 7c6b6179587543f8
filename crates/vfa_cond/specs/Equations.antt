-- The equations of names: the value of a name is one that an operation gives of its operands.
use Rattle.std.specs.Prelude.{ℕ, Bool, false, not, ◌&&◌, nat_eq, Option, Some, None, List, [], ◌∷◌, if◌then◌else◌}
use Rattle.vfa_ir.specs.declared.operations.Op.{Op}
use Rattle.vfa_ir.specs.declared.operations.ValueId.{ValueId}
use Rattle.vfa_ir.specs.declared.functions.Block.{Block}
use Rattle.vfa_ir.specs.declared.functions.Function.{Function}
use Rattle.vfa_ir.specs.declared.functions.Inst.{Inst}
use Rattle.vfa_mean.specs.Moments.{is_call}

abbrev pub is_result : ℕ → Option ValueId → Bool
is_result v None = false
is_result v (Some r) = nat_eq r.0 v

-- whether the instruction is no call, and its result is the name
abbrev pub is_definition : ℕ → Inst → Bool
is_definition v i = not (is_call i.op) && is_result v i.result

-- the operation of the first one that defines the name
abbrev pub equation_among : ℕ → List Inst → Option Op
equation_among v [] = None
equation_among v (i ∷ rest) = if is_definition v i then Some i.op else equation_among v rest

abbrev pub or_else : Option Op → Option Op → Option Op
or_else None second = second
or_else (Some op) second = Some op

abbrev pub equation_in : ℕ → List Block → Option Op
equation_in v [] = None
equation_in v (b ∷ rest) = or_else (equation_among v b.insts) (equation_in v rest)

-- The equation of a name: the operation other than a call whose result it is. A parameter, a phi and a call give none. In a
-- function that defines each name once there is no other; of two the first in text order counts.
abbrev pub equation : Function → ℕ → Option Op
equation f v = equation_in v f.blocks
