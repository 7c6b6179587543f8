-- The names that a block uses and does not define.
use Rattle.std.specs.Prelude.{ℕ, if◌then◌else◌, List, [], ◌∷◌, ◌++◌, flat_map}
use Rattle.vfa_ir.specs.declared.functions.Block.{Block}
use Rattle.vfa_ir.specs.declared.functions.Function.{Function}
use Rattle.vfa_ir.specs.Defined.{op_names, term_names}
use Rattle.vfa_ir.specs.Printable.{block_ids}
use Rattle.vfa_ir.specs.Words.{is_in}

-- each number of a list once, where it stands first, but for those that were seen before
abbrev pub first_uses : List ℕ → List ℕ → List ℕ
first_uses seen [] = []
first_uses seen (v ∷ rest) = if is_in v seen then first_uses seen rest else v ∷ first_uses (v ∷ seen) rest

-- the names that the instructions of a block, its phis aside, and its terminator use and the block does not define, each once,
-- in the order of their first use
abbrev pub names_in : Function → Block → List ℕ
names_in f b = first_uses (block_ids b) (flat_map (λ i. op_names f i.op) b.insts ++ term_names b.term)
