-- Which functions some text reads as, said without a text (LLVM Language Reference, "Functions", "Identifiers" and
-- "Instruction Reference"): ids stand in text order, names are defined once, widths and numbers lie in their ranges.
use Rattle.std.specs.Prelude.{◌≡◌, ◌≤◌, ◌<◌, ◌^◌, ℕ, ◌++◌, List, [], length, map, flat_map, filter_map, take, drop, All, IsTrue, Bool, false, not, Option, Some, None, unwrap_or, ⊤, bytes_eq, codes, if◌then◌else◌, ◌==◌}
use Rattle.std.specs.List.{IsDistinct, range_with_len}
use Rattle.vfa_ir.specs.declared.operations.Bin.{Bin}
use Rattle.vfa_ir.specs.declared.operations.Cast.{Cast}
use Rattle.vfa_ir.specs.declared.operations.CastFlags.{CastFlags}
use Rattle.vfa_ir.specs.declared.operations.Flags.{Flags}
use Rattle.vfa_ir.specs.declared.operations.Fun1.{Fun1}
use Rattle.vfa_ir.specs.declared.operations.Op.{Op}
use Rattle.vfa_ir.specs.declared.operations.Operand.{Operand}
use Rattle.vfa_ir.specs.declared.operations.Ty.{Ty}
use Rattle.vfa_ir.specs.declared.operations.ValueId.{ValueId}
use Rattle.vfa_ir.specs.declared.operations.BlockId.{BlockId}
use Rattle.vfa_ir.specs.declared.functions.Block.{Block}
use Rattle.vfa_ir.specs.declared.functions.CallArg.{CallArg}
use Rattle.vfa_ir.specs.declared.functions.CallOp.{CallOp}
use Rattle.vfa_ir.specs.declared.functions.Function.{Function}
use Rattle.vfa_ir.specs.declared.functions.Inst.{Inst}
use Rattle.vfa_ir.specs.declared.functions.Phi.{Phi}
use Rattle.vfa_ir.specs.declared.functions.Term.{Term}
use Rattle.vfa_ir.specs.Grammar.{IsWidth, AreWords, FitsResultType, may_follow_parameters, is_balanced}
use Rattle.vfa_ir.specs.TokenLexemes.{lexemes, bytes_between}
use Rattle.vfa_ir.specs.Tokens.{tokens_of}
use Rattle.vfa_ir.specs.Words.{is_among, is_digits, is_intrinsic, lead_words, parameter_words, call_words, flags_of, cast_flags_of}

-- a name that values and blocks keep: not empty, and not of digits alone
pub record IsKeptName (name : List ℕ) : Type 0 where
  pub some : name ≡ [] → ⊥
  pub no_number : is_digits name ≡ false

-- The names are defined once: those of values and blocks together.
abbrev pub kept_names : Function → List (List ℕ)
kept_names f = filter_map (λ v. v.name) f.values ++ filter_map (λ b. b.name) f.blocks

-- The ids in text order: those of the parameters, then for each block those of its phis and of its other results.
abbrev pub inst_ids : List Inst → List ℕ
inst_ids = filter_map (λ i. elim i.result [ None ↦ None | Some v ↦ Some v.0 ])

abbrev pub block_ids : Block → List ℕ
block_ids b = map (λ p. p.result.0) b.phis ++ inst_ids b.insts

abbrev pub ids_of : Function → List ℕ
ids_of f = map (λ p. p.value.0) f.params ++ flat_map block_ids f.blocks

-- the type of a result
abbrev pub op_type : Op → Ty
op_type (Op.Bin _ _ width _ _) = Ty.Int width
op_type (Op.Icmp _ _ _ _ _) = Ty.Int 1
op_type (Op.Select width _ _ _) = Ty.Int width
op_type (Op.Cast _ _ _ to _) = Ty.Int to
op_type (Op.Freeze width _) = Ty.Int width
op_type (Op.Two _ width _ _) = Ty.Int width
op_type (Op.One _ width _ _) = Ty.Int width
op_type (Op.Over _ width _ _) = Ty.Pair width
op_type (Op.Part width _ index) = if index == 0 then Ty.Int width else Ty.Int 1
op_type (Op.Assume _) = Ty.Int 1
op_type (Op.Call width _) = Ty.Int (unwrap_or width 1)

abbrev pub inst_types : List Inst → List Ty
inst_types = filter_map (λ i. elim i.result [ None ↦ None | Some _ ↦ Some (op_type i.op) ])

abbrev pub block_types : Block → List Ty
block_types b = map (λ p. Ty.Int p.width) b.phis ++ inst_types b.insts

-- The first values are the parameters, of integer types; after them each result has the type of what defines it.
abbrev pub IsIntegerType : Ty → Type 0
IsIntegerType (Ty.Int width) = IsWidth width
IsIntegerType (Ty.Pair _) = ⊥

pub record HasItsTypes (f : Function) : Type 0 where
  pub parameters : All (λ v. IsIntegerType v.ty) (take (length f.params) f.values)
  pub results : map (λ v. v.ty) (drop (length f.params) f.values) ≡ flat_map block_types f.blocks

-- an operand: a value of the function, a number below 2 ^ width, or `poison`
abbrev pub IsOperand : Function → ℕ → Operand → Type 0
IsOperand f width (Operand.Value v) = v.0 < length f.values
IsOperand f width (Operand.Literal bits) = bits < 2 ^ width
IsOperand f width Operand.Poison = ⊤

pub record AreOperands (f : Function) (width : ℕ) (a b : Operand) : Type 0 where
  pub of_width : IsWidth width
  pub first : IsOperand f width a
  pub second : IsOperand f width b

abbrev pub IsBlock : Function → BlockId → Type 0
IsBlock f b = b.0 < length f.blocks

-- the flags are such as the operation may have
pub record HasItsFlags (bin : Bin) (flags : Flags) : Type 0 where
  pub nuw : IsTrue flags.nuw → IsTrue (is_among (codes "nuw") (flags_of bin))
  pub nsw : IsTrue flags.nsw → IsTrue (is_among (codes "nsw") (flags_of bin))
  pub exact : IsTrue flags.exact → IsTrue (is_among (codes "exact") (flags_of bin))
  pub disjoint : IsTrue flags.disjoint → IsTrue (is_among (codes "disjoint") (flags_of bin))

pub record HasItsCastFlags (cast : Cast) (flags : CastFlags) : Type 0 where
  pub nuw : IsTrue flags.nuw → IsTrue (is_among (codes "nuw") (cast_flags_of cast))
  pub nsw : IsTrue flags.nsw → IsTrue (is_among (codes "nsw") (cast_flags_of cast))
  pub nneg : IsTrue flags.nneg → IsTrue (is_among (codes "nneg") (cast_flags_of cast))

-- `llvm.ctpop` has no second argument
abbrev pub HasItsArgument : Fun1 → Bool → Type 0
HasItsArgument Fun1.Ctpop strict = strict ≡ false
HasItsArgument _ strict = ⊤

abbrev pub PrintableOp : Function → Op → Type 0
PrintableOp f (Op.Bin bin flags width a b) = HasItsFlags bin flags × AreOperands f width a b
PrintableOp f (Op.Icmp _ _ width a b) = AreOperands f width a b
PrintableOp f (Op.Select width c a b) = IsOperand f 1 c × AreOperands f width a b
PrintableOp f (Op.Cast cast flags from to a) = HasItsCastFlags cast flags × IsWidth from × IsOperand f from a × IsWidth to
PrintableOp f (Op.Freeze width a) = IsWidth width × IsOperand f width a
PrintableOp f (Op.Two _ width a b) = AreOperands f width a b
PrintableOp f (Op.One fun width a strict) = IsWidth width × IsOperand f width a × HasItsArgument fun strict
PrintableOp f (Op.Over _ width a b) = AreOperands f width a b
PrintableOp f (Op.Part width pair index) = IsWidth width × (pair.0 < length f.values) × (index ≤ 1)
PrintableOp f (Op.Assume c) = IsOperand f 1 c
PrintableOp f (Op.Call width _) = FitsResultType width

-- all but `llvm.assume` and calls of `void` have a result
abbrev pub HasItsResult : Op → Option ValueId → Type 0
HasItsResult (Op.Assume _) None = ⊤
HasItsResult (Op.Assume _) (Some _) = ⊥
HasItsResult (Op.Call None _) None = ⊤
HasItsResult (Op.Call None _) (Some _) = ⊥
HasItsResult _ None = ⊥
HasItsResult _ (Some _) = ⊤

pub record PrintableInst (f : Function) (i : Inst) : Type 0 where
  pub result : HasItsResult i.op i.result
  pub op : PrintableOp f i.op

pub record PrintablePhi (f : Function) (p : Phi) : Type 0 where
  pub width : IsWidth p.width
  pub some : p.entries ≡ [] → ⊥
  pub entries : All (λ e. IsOperand f p.width e.0 × IsBlock f e.1) p.entries

abbrev pub PrintableTerm : Function → Term → Type 0
PrintableTerm f (Term.Ret width a) = IsWidth width × IsOperand f width a
PrintableTerm f (Term.Br to) = IsBlock f to
PrintableTerm f (Term.CondBr c taken fallen) = IsOperand f 1 c × IsBlock f taken × IsBlock f fallen
PrintableTerm f (Term.Switch width on default cases) =
    IsWidth width × IsOperand f width on × IsBlock f default × All (λ c. (c.0 < 2 ^ width) × IsBlock f c.1) cases
PrintableTerm f Term.Unreachable = ⊤

pub record PrintableBlock (f : Function) (b : Block) : Type 0 where
  pub phis : All (PrintablePhi f) b.phis
  pub insts : All (PrintableInst f) b.insts
  pub term : PrintableTerm f b.term

-- The calls stand in text order, and there are no others.
abbrev pub call_place : Op → Option ℕ
call_place (Op.Call _ place) = Some place
call_place _ = None

abbrev pub block_call_places : Block → List ℕ
block_call_places b = filter_map (λ i. call_place i.op) b.insts

abbrev pub call_places : Function → List ℕ
call_places f = flat_map block_call_places f.blocks

-- "call Instruction": the arguments are operands, the words are those of calls and of parameters, and the function is no
-- intrinsic
pub record PrintableArgument (f : Function) (a : CallArg) : Type 0 where
  pub width : IsWidth a.width
  pub words : AreWords parameter_words a.words
  pub value : IsOperand f a.width a.value

pub record PrintableCall (f : Function) (c : CallOp) : Type 0 where
  pub some : c.callee ≡ [] → ⊥
  pub no_intrinsic : IsTrue (not (is_intrinsic c.callee))
  pub words : AreWords call_words c.words
  pub arguments : All (PrintableArgument f) c.args

-- The bytes between the parameters and the body: none, or those from the first to the last of their tokens.
pub record IsTail (tail : List ℕ) : Type 0 where
  pub whole : bytes_between tail (tokens_of tail) ≡ tail
  pub tokens : All (λ t. IsTrue (may_follow_parameters t)) (lexemes tail (tokens_of tail))
  pub balanced : IsTrue (is_balanced 0 (lexemes tail (tokens_of tail)))

pub record IsPrintable (f : Function) : Type 0 where
  pub name : f.name ≡ [] → ⊥
  pub lead : AreWords lead_words f.lead
  pub width : IsWidth f.width
  pub words : All (λ p. AreWords parameter_words p.words) f.params
  pub tail : IsTail f.tail
  pub ids : ids_of f ≡ range_with_len 0 (length f.values)
  pub types : HasItsTypes f
  pub names : All IsKeptName (kept_names f)
  pub distinct : IsDistinct bytes_eq (kept_names f)
  pub some : f.blocks ≡ [] → ⊥
  pub blocks : All (PrintableBlock f) f.blocks
  pub call_places : call_places f ≡ range_with_len 0 (length f.calls)
  pub calls : All (PrintableCall f) f.calls
