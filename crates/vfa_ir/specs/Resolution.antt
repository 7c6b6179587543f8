-- The function of a tree: each name becomes the id of what it defines, ids being places in text order.
use Rattle.std.specs.Prelude.{ℕ, suc, ◌+◌, ◌-◌, ◌^◌, ℤ, pos, negsuc, List, [], ◌∷◌, ◌++◌, map, flat_map, filter_map, Bool, true, false, Option, Some, None, option_map, unwrap_or, position, count_by, bytes_eq, codes, if◌then◌else◌, ◌==◌}
use Rattle.vfa_ir.specs.declared.operations.BlockId.{BlockId}
use Rattle.vfa_ir.specs.declared.operations.CastFlags.{CastFlags}
use Rattle.vfa_ir.specs.declared.operations.Flags.{Flags}
use Rattle.vfa_ir.specs.declared.operations.Op.{Op}
use Rattle.vfa_ir.specs.declared.operations.Operand.{Operand}
use Rattle.vfa_ir.specs.declared.operations.Ty.{Ty}
use Rattle.vfa_ir.specs.declared.operations.ValueId.{ValueId}
use Rattle.vfa_ir.specs.declared.functions.Block.{Block}
use Rattle.vfa_ir.specs.declared.functions.CallArg.{CallArg}
use Rattle.vfa_ir.specs.declared.functions.CallOp.{CallOp}
use Rattle.vfa_ir.specs.declared.functions.Function.{Function}
use Rattle.vfa_ir.specs.declared.functions.Inst.{Inst}
use Rattle.vfa_ir.specs.declared.functions.Param.{Param}
use Rattle.vfa_ir.specs.declared.functions.Phi.{Phi}
use Rattle.vfa_ir.specs.declared.functions.Term.{Term}
use Rattle.vfa_ir.specs.declared.functions.Value.{Value}
use Rattle.vfa_ir.specs.declared.syntax.Literal.{Literal}
use Rattle.vfa_ir.specs.declared.syntax.Written.{Written}
use Rattle.vfa_ir.specs.declared.syntax.Parameter.{Parameter}
use Rattle.vfa_ir.specs.declared.syntax.PhiNode.{PhiNode}
use Rattle.vfa_ir.specs.declared.syntax.Argument.{Argument}
use Rattle.vfa_ir.specs.declared.syntax.Operation.{Operation}
use Rattle.vfa_ir.specs.declared.syntax.Instruction.{Instruction}
use Rattle.vfa_ir.specs.declared.syntax.TerminatorKind.{TerminatorKind}
use Rattle.vfa_ir.specs.declared.syntax.BasicBlock.{BasicBlock}
use Rattle.vfa_ir.specs.Grammar.{number_value}
use Rattle.vfa_ir.specs.DefinedNames.{kept_name, value_names, block_names}
use Rattle.vfa_ir.specs.Sentence.{Sentence}
use Rattle.vfa_ir.specs.Words.{is_among}

-- the bits of a whole number in two's complement
abbrev pub bits_of : ℕ → ℤ → ℕ
bits_of width (pos n) = n
bits_of width (negsuc n) = 2 ^ width - 1 - n

abbrev pub literal_bits : ℕ → Literal → ℕ
literal_bits width (Literal.Boolean true) = 1
literal_bits width (Literal.Boolean false) = 0
literal_bits width (Literal.Number text) = bits_of width (number_value text)

-- the type of a result
abbrev pub operation_type : Operation → Ty
operation_type (Operation.Binary _ _ width _ _) = Ty.Int width
operation_type (Operation.Compare _ _ _ _ _) = Ty.Int 1
operation_type (Operation.Select _ width _ _) = Ty.Int width
operation_type (Operation.Convert _ _ _ _ to) = Ty.Int to
operation_type (Operation.Freeze width _) = Ty.Int width
operation_type (Operation.Extract width _ index) = if index == 0 then Ty.Int width else Ty.Int 1
operation_type (Operation.Two _ _ width _ _) = Ty.Int width
operation_type (Operation.One _ _ width _ _) = Ty.Int width
operation_type (Operation.Over _ _ width _ _) = Ty.Pair width
operation_type (Operation.Assume _ _) = Ty.Int 1
operation_type (Operation.Call _ _ width _ _) = Ty.Int (unwrap_or width 1)

-- the place of a name among these
abbrev pub place_of : List (List ℕ) → List ℕ → ℕ
place_of names name = unwrap_or (position (bytes_eq name) names) 0

-- what names mean: values and blocks, each in text order
pub record Scope : Type 0 where
  pub values : List (List ℕ)
  pub blocks : List (List ℕ)

abbrev pub value_id : Scope → List ℕ → ValueId
value_id scope name = record { 0 = place_of scope.values name }

abbrev pub block_id : Scope → List ℕ → BlockId
block_id scope name = record { 0 = place_of scope.blocks name }

abbrev pub operand_of : Scope → ℕ → Written → Operand
operand_of scope width (Written.Local name) = Operand.Value (value_id scope name)
operand_of scope width (Written.Literal l) = Operand.Literal (literal_bits width l)
operand_of scope width Written.Poison = Operand.Poison

abbrev pub flags_of_words : List (List ℕ) → Flags
flags_of_words words = record {
  nuw = is_among (codes "nuw") words;
  nsw = is_among (codes "nsw") words;
  exact = is_among (codes "exact") words;
  disjoint = is_among (codes "disjoint") words;
}

-- whether the second argument of `abs`, `ctlz` or `cttz` is true; `ctpop` has none
abbrev pub is_strict : Option Literal → Bool
is_strict None = false
is_strict (Some l) = literal_bits 1 l == 1

abbrev pub cast_flags_of_words : List (List ℕ) → CastFlags
cast_flags_of_words words = record {
  nuw = is_among (codes "nuw") words;
  nsw = is_among (codes "nsw") words;
  nneg = is_among (codes "nneg") words;
}

-- an operation before which so many calls stand in the function
abbrev pub op_of : Scope → ℕ → Operation → Op
op_of scope calls (Operation.Binary bin words width a b) =
    Op.Bin bin (flags_of_words words) width (operand_of scope width a) (operand_of scope width b)
op_of scope calls (Operation.Compare samesign pred width a b) =
    Op.Icmp pred samesign width (operand_of scope width a) (operand_of scope width b)
op_of scope calls (Operation.Select c width a b) =
    Op.Select width (operand_of scope 1 c) (operand_of scope width a) (operand_of scope width b)
op_of scope calls (Operation.Convert cast words from a to) =
    Op.Cast cast (cast_flags_of_words words) from to (operand_of scope from a)
op_of scope calls (Operation.Freeze width a) = Op.Freeze width (operand_of scope width a)
op_of scope calls (Operation.Extract width pair index) = Op.Part width (value_id scope pair) index
op_of scope calls (Operation.Two _ fun width a b) = Op.Two fun width (operand_of scope width a) (operand_of scope width b)
op_of scope calls (Operation.One _ fun width a strict) = Op.One fun width (operand_of scope width a) (is_strict strict)
op_of scope calls (Operation.Over _ over width a b) = Op.Over over width (operand_of scope width a) (operand_of scope width b)
op_of scope calls (Operation.Assume _ c) = Op.Assume (operand_of scope 1 c)
op_of scope calls (Operation.Call _ _ width _ _) = Op.Call width calls

-- the calls of instructions in text order
abbrev pub argument_of : Scope → Argument → CallArg
argument_of scope a = record { width = a.width; words = a.words; value = operand_of scope a.width a.value }

abbrev pub call_of : Scope → Operation → Option CallOp
call_of scope (Operation.Call _ attributes _ name arguments) =
    Some (record { callee = name; words = attributes; args = map (argument_of scope) arguments })
call_of scope _ = None

abbrev pub instruction_calls : Scope → List Instruction → List CallOp
instruction_calls scope = filter_map (λ i. call_of scope i.operation)

abbrev pub block_calls : Scope → BasicBlock → List CallOp
block_calls scope b = instruction_calls scope b.instructions

-- how many there are
abbrev pub is_call : Instruction → Bool
is_call i = elim i.operation [ Operation.Call _ _ _ _ _ ↦ true | _ ↦ false ]

abbrev pub call_count : BasicBlock → ℕ
call_count b = count_by is_call b.instructions

abbrev pub phi_of : Scope → PhiNode → Phi
phi_of scope p = record {
  result = value_id scope p.result;
  width = p.width;
  entries = map (λ i. (operand_of scope p.width i.value, block_id scope i.block)) p.entries;
}

abbrev pub inst_of : Scope → ℕ → Instruction → Inst
inst_of scope calls i = record {
  result = option_map (value_id scope) i.result;
  op = op_of scope calls i.operation;
}

abbrev pub insts_of : Scope → ℕ → List Instruction → List Inst
insts_of scope calls [] = []
insts_of scope calls (i ∷ rest) = inst_of scope calls i ∷ insts_of scope (if is_call i then suc calls else calls) rest

abbrev pub term_of : Scope → TerminatorKind → Term
term_of scope (TerminatorKind.Return width a) = Term.Ret width (operand_of scope width a)
term_of scope (TerminatorKind.Always to) = Term.Br (block_id scope to)
term_of scope (TerminatorKind.Condition c taken fallen) =
    Term.CondBr (operand_of scope 1 c) (block_id scope taken) (block_id scope fallen)
term_of scope (TerminatorKind.Switch width on default cases) =
    Term.Switch width (operand_of scope width on) (block_id scope default)
    (map (λ c. (literal_bits width c.number, block_id scope c.block)) cases)
term_of scope TerminatorKind.Unreachable = Term.Unreachable

-- a block before which so many calls stand in the function
abbrev pub block_of : Scope → ℕ → BasicBlock → Block
block_of scope calls b = record {
  name = elim b.label [ None ↦ None | Some name ↦ kept_name name ];
  phis = map (phi_of scope) b.phis;
  insts = insts_of scope calls b.instructions;
  term = term_of scope b.terminator.kind;
}

abbrev pub blocks_of : Scope → ℕ → List BasicBlock → List Block
blocks_of scope calls [] = []
blocks_of scope calls (b ∷ rest) = block_of scope calls b ∷ blocks_of scope (calls + call_count b) rest

-- a value with its name, and with its type
abbrev pub value_of : List ℕ → Ty → Value
value_of name ty = record { name = kept_name name; ty = ty }

-- the results of a block in text order
abbrev pub phi_value : PhiNode → Value
phi_value p = value_of p.result (Ty.Int p.width)

abbrev pub instruction_value : Instruction → Option Value
instruction_value i = option_map (λ name. value_of name (operation_type i.operation)) i.result

abbrev pub block_values : BasicBlock → List Value
block_values b = map phi_value b.phis ++ filter_map instruction_value b.instructions

-- a parameter without a name has none
abbrev pub parameter_value : Parameter → Value
parameter_value p = record { name = elim p.name [ None ↦ None | Some name ↦ kept_name name ]; ty = Ty.Int p.width }

abbrev pub scope_of : Sentence → Scope
scope_of s = record { values = value_names s; blocks = block_names s }

-- the parameters, the first of which is the value of this place
abbrev pub params_from : ℕ → List Parameter → List Param
params_from place [] = []
params_from place (p ∷ rest) = record { value = record { 0 = place }; words = p.words } ∷ params_from (suc place) rest

-- the function of a tree, with the bytes of its tail
abbrev pub function_of : Sentence → List ℕ → Function
function_of s tail = record {
  name = s.name;
  lead = s.lead;
  width = s.width;
  params = params_from 0 s.parameters;
  tail = tail;
  values = map parameter_value s.parameters ++ flat_map block_values s.blocks;
  blocks = blocks_of (scope_of s) 0 s.blocks;
  calls = flat_map (block_calls (scope_of s)) s.blocks;
}
