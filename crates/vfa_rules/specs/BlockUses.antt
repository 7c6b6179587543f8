-- helper: in no public contract
-- Whether a name is used, block by block.
use Rattle.std.specs.Prelude.{ℕ, Bool, ◌||◌}
use Rattle.std.specs.List.{list_any}
use Rattle.vfa_ir.specs.declared.functions.Block.{Block}
use Rattle.vfa_ir.specs.declared.functions.Function.{Function}
use Rattle.vfa_ir.specs.declared.functions.Inst.{Inst}
use Rattle.vfa_ir.specs.declared.functions.Phi.{Phi}
use Rattle.vfa_ir.specs.Defined.{operand_names, op_names, term_names}
use Rattle.vfa_ir.specs.Words.{is_in}

abbrev pub phi_has : ℕ → Phi → Bool
phi_has v p = list_any (λ e. is_in v (operand_names e.0)) p.entries

abbrev pub inst_has : Function → ℕ → Inst → Bool
inst_has f v i = is_in v (op_names f i.op)

abbrev pub block_has : Function → ℕ → Block → Bool
block_has f v b = list_any (phi_has v) b.phis || (list_any (inst_has f v) b.insts || is_in v (term_names b.term))
