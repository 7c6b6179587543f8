-- Which functions use names only where they are defined (LLVM Language Reference, "Well-Formedness": a definition comes
-- before its uses on every walk; "phi Instruction": an operand is used on the edge from its predecessor).
use Rattle.std.specs.Prelude.{ℕ, ◌+◌, List, [], ◌∷◌, ◌++◌, map, flat_map, length, All, Some, None, slice_get}
use Rattle.vfa_ir.specs.declared.operations.Op.{Op}
use Rattle.vfa_ir.specs.declared.operations.Operand.{Operand}
use Rattle.vfa_ir.specs.declared.functions.Block.{Block}
use Rattle.vfa_ir.specs.declared.functions.Function.{Function}
use Rattle.vfa_ir.specs.declared.functions.Inst.{Inst}
use Rattle.vfa_ir.specs.declared.functions.Phi.{Phi}
use Rattle.vfa_ir.specs.declared.functions.Term.{Term}
use Rattle.vfa_ir.specs.Walks.{IsDefinedAt}

-- the name that an operand uses, if any
abbrev pub operand_names : Operand → List ℕ
operand_names (Operand.Value v) = v.0 ∷ []
operand_names (Operand.Literal _) = []
operand_names Operand.Poison = []

-- the names that an operation uses, as written; those of a call are in its arguments
abbrev pub op_names : Function → Op → List ℕ
op_names f (Op.Bin _ _ _ a b) = operand_names a ++ operand_names b
op_names f (Op.Icmp _ _ _ a b) = operand_names a ++ operand_names b
op_names f (Op.Select _ c a b) = operand_names c ++ (operand_names a ++ operand_names b)
op_names f (Op.Cast _ _ _ _ a) = operand_names a
op_names f (Op.Freeze _ a) = operand_names a
op_names f (Op.Two _ _ a b) = operand_names a ++ operand_names b
op_names f (Op.One _ _ a _) = operand_names a
op_names f (Op.Over _ _ a b) = operand_names a ++ operand_names b
op_names f (Op.Part _ pair _) = pair.0 ∷ []
op_names f (Op.Assume c) = operand_names c
op_names f (Op.Call _ call) = elim (slice_get f.calls call) [ None ↦ [] | Some c ↦ flat_map (λ a. operand_names a.value) c.args ]

abbrev pub term_names : Term → List ℕ
term_names (Term.Ret _ a) = operand_names a
term_names (Term.Br _) = []
term_names (Term.CondBr c _ _) = operand_names c
term_names (Term.Switch _ on _ _) = operand_names on
term_names Term.Unreachable = []

-- A use of a name: before instruction `line` of a block, where the terminator's number is that of the instructions.
pub record NameUse : Type 0 where
  pub name : ℕ
  pub block : ℕ
  pub line : ℕ

abbrev pub uses_at : ℕ → ℕ → List ℕ → List NameUse
uses_at block line names = map (λ v. record { name = v; block = block; line = line }) names

-- how many instructions the block has besides phis and terminator
abbrev pub line_count : Function → ℕ → ℕ
line_count f b = elim (slice_get f.blocks b) [ None ↦ 0 | Some block ↦ length block.insts ]

-- a phi's operand is used at the end of its predecessor
abbrev pub phi_uses : Function → Phi → List NameUse
phi_uses f p = flat_map (λ e. uses_at e.1.0 (line_count f e.1.0) (operand_names e.0)) p.entries

-- the uses of instructions of block b, the first of which has number n
abbrev pub inst_uses : Function → ℕ → ℕ → List Inst → List NameUse
inst_uses f b n [] = []
inst_uses f b n (i ∷ rest) = uses_at b n (op_names f i.op) ++ inst_uses f b (n + 1) rest

abbrev pub block_uses : Function → ℕ → Block → List NameUse
block_uses f b block =
    flat_map (phi_uses f) block.phis
    ++ (inst_uses f b 0 block.insts ++ uses_at b (length block.insts) (term_names block.term))

-- the uses of blocks, the first of which has number b
abbrev pub uses_from : Function → ℕ → List Block → List NameUse
uses_from f b [] = []
uses_from f b (block ∷ rest) = block_uses f b block ++ uses_from f (b + 1) rest

-- all uses of a function in text order
abbrev pub uses_of : Function → List NameUse
uses_of f = uses_from f 0 f.blocks

-- the name is defined on every walk to the use
abbrev pub UseIsDefined : Function → NameUse → Type 0
UseIsDefined f u = IsDefinedAt f u.block u.line u.name

abbrev pub Defined : Function → Type 0
Defined f = All (UseIsDefined f) (uses_of f)
