-- Where the value of an instruction comes from, and whether it goes anywhere in its function.
use Rattle.std.specs.Prelude.{◌≡◌, ℕ, Bool, false, nat_eq, List, [], ◌∷◌, Option, Some, None, if◌then◌else◌}
use Rattle.std.specs.List.{list_any}
use Rattle.std.specs.Option.{option_or}
use Rattle.vfa_ir.specs.declared.operations.Op.{Op}
use Rattle.vfa_ir.specs.declared.operations.ValueId.{ValueId}
use Rattle.vfa_ir.specs.declared.functions.Block.{Block}
use Rattle.vfa_ir.specs.declared.functions.Function.{Function}
use Rattle.vfa_ir.specs.declared.functions.Inst.{Inst}
use Rattle.vfa_ir.specs.Defined.{uses_of}
use Rattle.vfa_fact.specs.declared.cell.Parts.{Parts}
use Rattle.vfa_rules.specs.declared.change.OverflowCall.{OverflowCall}
use Rattle.vfa_rules.specs.Order.{Known}

-- the first that is found in a list
abbrev pub first_found : {A B : Type 0} → (A → Option B) → List A → Option B
first_found look [] = None
first_found look (x ∷ xs) = option_or (look x) (first_found look xs)

-- the overflow intrinsic that the operation is, where it is one of this width
abbrev pub overflow_of : ℕ → Op → Option OverflowCall
overflow_of w (Op.Over over v a b) = if nat_eq v w then Some (record { over = over; a = a; b = b }) else None
overflow_of w _ = None

abbrev pub is_result : ℕ → Option ValueId → Bool
is_result v None = false
is_result v (Some result) = nat_eq result.0 v

-- the same of an instruction, where the name is its result
abbrev pub overflow_in : ℕ → ℕ → Inst → Option OverflowCall
overflow_in w v inst = if is_result v inst.result then overflow_of w inst.op else None

-- the overflow intrinsic whose pair an `extractvalue` takes a part of; in a well-typed function there is one
abbrev pub overflow_call : Function → Op → Option OverflowCall
overflow_call f (Op.Part w pair index) = first_found (λ (b : Block). first_found (overflow_in w pair.0) b.insts) f.blocks
overflow_call f _ = None

-- whether the name is an operand of a phi, an instruction or a terminator
abbrev pub is_used : Function → Option ValueId → Bool
is_used f None = false
is_used f (Some v) = list_any (λ u. nat_eq u.name v.0) (uses_of f)

-- what is known of an instruction of the function by facts of its operands
abbrev pub known_in : Function → Inst → Parts → Parts → Parts → Known
known_in f inst a b c = record { a = a; b = b; c = c; call = overflow_call f inst.op; used = is_used f inst.result }
