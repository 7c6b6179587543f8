-- The names behind a name: those that its definitions use. In `%a = add i8 %x, %y` they are %x and %y of %a, and none of %x
-- where it is a parameter.
use Rattle.std.specs.Prelude.{◌≡◌, ◌<◌, ℕ, Bool, false, nat_eq, List, [], ◌++◌, flat_map, get_or, length, Option, Some, None, if◌then◌else◌}
use Rattle.vfa_ir.specs.declared.operations.ValueId.{ValueId}
use Rattle.vfa_ir.specs.declared.functions.Block.{Block}
use Rattle.vfa_ir.specs.declared.functions.Function.{Function}
use Rattle.vfa_ir.specs.declared.functions.Inst.{Inst}
use Rattle.vfa_ir.specs.declared.functions.Phi.{Phi}
use Rattle.vfa_ir.specs.Defined.{op_names, operand_names}

-- the names that the operands of a phi are
abbrev pub phi_names : Phi → List ℕ
phi_names p = flat_map (λ e. operand_names e.0) p.entries

abbrev pub is_result : Option ValueId → ℕ → Bool
is_result None v = false
is_result (Some r) v = nat_eq r.0 v

abbrev pub behind_phi : Phi → ℕ → List ℕ
behind_phi p v = if nat_eq p.result.0 v then phi_names p else []

abbrev pub behind_line : Function → Inst → ℕ → List ℕ
behind_line f i v = if is_result i.result v then op_names f i.op else []

abbrev pub behind_in : Function → Block → ℕ → List ℕ
behind_in f b v = flat_map (λ p. behind_phi p v) b.phis ++ flat_map (λ i. behind_line f i v) b.insts

-- the names that the definitions of a name use
abbrev pub names_behind : Function → ℕ → List ℕ
names_behind f v = flat_map (λ b. behind_in f b v) f.blocks

-- for each value the names behind it
pub record AreNamesBehind (f : Function) (names : List (List ℕ)) : Type 0 where
  pub whole : length names ≡ length f.values
  pub each : (v : ℕ) → v < length f.values → get_or names v [] ≡ names_behind f v

-- helper: in no public contract
-- to the names of each value more were put
pub record ArePut (more : ℕ → List ℕ) (before after : List (List ℕ)) : Type 0 where
  pub whole : length after ≡ length before
  pub each : (v : ℕ) → v < length before → get_or after v [] ≡ get_or before v [] ++ more v
