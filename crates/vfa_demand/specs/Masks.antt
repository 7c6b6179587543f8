-- The bits of each value that are asked for: the least masks with all that each use asks for (LLVM's DemandedBits). They say
-- which bits something may hang on.
--
-- In `%a = and i32 %x, 65535`, `%t = trunc i32 %a to i8`, `ret i8 %t`, all 8 bits of %t are asked for, so 255 of %a, so 255
-- of %x.
use Rattle.std.specs.Prelude.{◌≡◌, ◌<◌, ℕ, ◌+◌, ◌^◌, List, [], ◌∷◌, ◌++◌, flat_map, Some, None, bit_and, slice_index_or}
use Rattle.std.specs.List.{AllByRecursion}
use Rattle.vfa_ir.specs.declared.operations.Op.{Op}
use Rattle.vfa_ir.specs.declared.operations.Operand.{Operand}
use Rattle.vfa_ir.specs.declared.operations.Ty.{Ty}
use Rattle.vfa_ir.specs.declared.functions.Block.{Block}
use Rattle.vfa_ir.specs.declared.functions.Function.{Function}
use Rattle.vfa_ir.specs.declared.functions.Inst.{Inst}
use Rattle.vfa_ir.specs.declared.functions.Phi.{Phi}
use Rattle.vfa_ir.specs.declared.functions.Term.{Term}
use Rattle.vfa_ir.specs.Operands.{operands_of}
use Rattle.vfa_demand.specs.Rows.{all_bits, asked}

-- A use asks for these bits of a name.
pub record Ask : Type 0 where
  pub name : ℕ
  pub bits : ℕ

abbrev pub ask_of : ℕ → Operand → List Ask
ask_of bits (Operand.Value v) = record { name = v.0; bits = bits } ∷ []
ask_of bits (Operand.Literal _) = []
ask_of bits Operand.Poison = []

-- the width of a number, and of the number of a pair
abbrev pub number_width : Ty → ℕ
number_width (Ty.Int w) = w
number_width (Ty.Pair w) = w

-- of the operands of an operation, the first of which has this place
abbrev pub operand_asks : Op → ℕ → ℕ → List (Ty × Operand) → List Ask
operand_asks op d place [] = []
operand_asks op d place (o ∷ rest) =
    ask_of (asked op (number_width o.0) place d) o.1 ++ operand_asks op d (place + 1) rest

-- the bits that are asked of a result; of an instruction without one there are none
abbrev pub result_mask : (ℕ → ℕ) → Inst → ℕ
result_mask masks i = elim i.result [ None ↦ 0 | Some v ↦ masks v.0 ]

abbrev pub inst_asks : Function → (ℕ → ℕ) → Inst → List Ask
inst_asks f masks i = operand_asks i.op (result_mask masks i) 0 (operands_of f i.op)

-- a phi hands all on to each of its operands
abbrev pub phi_asks : (ℕ → ℕ) → Phi → List Ask
phi_asks masks p = flat_map (λ e. ask_of (masks p.result.0) e.0) p.entries

-- what is returned and what decides on an edge is seen
abbrev pub seen_in : Term → List (Ty × Operand)
seen_in (Term.Ret w a) = (Ty.Int w, a) ∷ []
seen_in (Term.Br _) = []
seen_in (Term.CondBr c _ _) = (Ty.Int 1, c) ∷ []
seen_in (Term.Switch w on _ _) = (Ty.Int w, on) ∷ []
seen_in Term.Unreachable = []

-- all bits of each of these
abbrev pub whole_asks : List (Ty × Operand) → List Ask
whole_asks operands = flat_map (λ o. ask_of (all_bits (number_width o.0)) o.1) operands

abbrev pub block_asks : Function → (ℕ → ℕ) → Block → List Ask
block_asks f masks b = flat_map (phi_asks masks) b.phis ++ (flat_map (inst_asks f masks) b.insts ++ whole_asks (seen_in b.term))

-- all uses of a function, where results have these masks
abbrev pub asks_of : Function → (ℕ → ℕ) → List Ask
asks_of f masks = flat_map (block_asks f masks) f.blocks

-- the mask of a value in a list of masks; of one that is not there it is 0
abbrev pub mask_in : List ℕ → ℕ → ℕ
mask_in bits v = slice_index_or bits v 0

-- each bit of the one mask is one of the other
abbrev pub IsPartOf : ℕ → ℕ → Type 0
IsPartOf a b = bit_and a b ≡ a

-- the masks have what these uses ask for
abbrev pub Have : List Ask → (ℕ → ℕ) → Type 0
Have asks masks = AllByRecursion (λ a. IsPartOf a.bits (masks a.name)) asks

-- masks of 128 bits that have all that the uses of the function ask for
pub record HaveWhatIsAsked (f : Function) (masks : ℕ → ℕ) : Type 0 where
  pub fit : (v : ℕ) → masks v < 2 ^ 128
  pub have : Have (asks_of f masks) masks

-- the least of them
pub record AreMasks (f : Function) (masks : ℕ → ℕ) : Type 0 where
  pub enough : HaveWhatIsAsked f masks
  pub least : (other : ℕ → ℕ) → HaveWhatIsAsked f other → (v : ℕ) → IsPartOf (masks v) (other v)
