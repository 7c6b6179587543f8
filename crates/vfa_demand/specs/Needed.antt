-- helper: in no public contract
-- The names that are used by what has to stay, in text order.
use Rattle.std.specs.Prelude.{ℕ, ◌+◌, Bool, List, [], ◌∷◌, ◌++◌, if◌then◌else◌}
use Rattle.vfa_ir.specs.declared.functions.Block.{Block}
use Rattle.vfa_ir.specs.declared.functions.Function.{Function}
use Rattle.vfa_ir.specs.declared.functions.Inst.{Inst}
use Rattle.vfa_ir.specs.Defined.{op_names, term_names}

-- the lists of elements, the first of which has number n, joined
abbrev pub joined_from : {A : Type 0} → (ℕ → A → List ℕ) → ℕ → List A → List ℕ
joined_from h n [] = []
joined_from h n (x ∷ xs) = h n x ++ joined_from h (n + 1) xs

-- the names that an instruction uses, if it has to stay
abbrev pub names_if : Function → Bool → Inst → List ℕ
names_if f stays inst = if stays then op_names f inst.op else []

abbrev pub needed_by : Function → (ℕ → Bool) → List Inst → List ℕ
needed_by f stays insts = joined_from (λ i inst. names_if f (stays i) inst) 0 insts

abbrev pub needed_in : Function → (ℕ → Bool) → Block → List ℕ
needed_in f stays block = needed_by f stays block.insts ++ term_names block.term

abbrev pub needed_names : Function → (ℕ → ℕ → Bool) → List ℕ
needed_names f must = joined_from (λ b block. needed_in f (must b) block) 0 f.blocks
