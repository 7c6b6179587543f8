-- helper: in no public contract
-- The search for the changed names: those that change of themselves, and for each name those that change with it.
use Rattle.std.specs.Prelude.{ℕ, Bool, ◌&&◌, List, [], ◌∷◌, ◌++◌, filter, flat_map, get_or, length, nat_eq, Option, Some, None, if◌then◌else◌}
use Rattle.std.specs.List.{range_with_len}
use Rattle.vfa_ir.specs.declared.operations.ValueId.{ValueId}
use Rattle.vfa_ir.specs.declared.functions.Block.{Block}
use Rattle.vfa_ir.specs.declared.functions.Function.{Function}
use Rattle.vfa_ir.specs.declared.functions.Inst.{Inst}
use Rattle.vfa_bits.specs.Changed.{has_unseen_sign, is_replaced, is_short}

-- whether a name stands for another operand, and may change by that
abbrev pub changes_replaced : Function → (ℕ → ℕ) → ℕ → Bool
changes_replaced f masks v = is_short f masks v && is_replaced f masks v

-- the result of a line that becomes a `zext`, where it may change by that
abbrev pub changed_sign : Function → (ℕ → ℕ) → Inst → Option ValueId → List ℕ
changed_sign f masks i None = []
changed_sign f masks i (Some v) = if is_short f masks v.0 && has_unseen_sign i.op (masks v.0) then v.0 ∷ [] else []

abbrev pub sign_of : Function → (ℕ → ℕ) → Inst → List ℕ
sign_of f masks i = changed_sign f masks i i.result

abbrev pub signs_of : Function → (ℕ → ℕ) → Block → List ℕ
signs_of f masks b = flat_map (sign_of f masks) b.insts

-- the values that change of themselves
abbrev pub first_changed : Function → (ℕ → ℕ) → List ℕ
first_changed f masks =
    filter (changes_replaced f masks) (range_with_len 0 (length f.values)) ++ flat_map (signs_of f masks) f.blocks

-- the user of a name among these, one for each time that it is among them
abbrev pub user_among : ℕ → List ℕ → ℕ → List ℕ
user_among user names x = flat_map (λ n. if nat_eq n x then user ∷ [] else []) names

-- a value may change with another one, if its definitions use that one
abbrev pub changes_with : Function → (ℕ → ℕ) → List (List ℕ) → ℕ → ℕ → List ℕ
changes_with f masks behind x v = if is_short f masks v then user_among v (get_or behind v []) x else []

-- the first so many values that change with one
abbrev pub users_below : Function → (ℕ → ℕ) → List (List ℕ) → ℕ → ℕ → List ℕ
users_below f masks behind count x = flat_map (changes_with f masks behind x) (range_with_len 0 count)
