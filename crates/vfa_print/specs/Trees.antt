-- The tree of a function: each id becomes the name that it is shown by (LLVM Language Reference, "Identifiers").
use Rattle.std.specs.Prelude.{ℕ, suc, ◌-◌, ◌^◌, ◌==◌, ◌&&◌, Bool, true, false, nat_lt, is_none, List, [], ◌∷◌, ◌++◌, length, map, if◌then◌else◌, Option, Some, None, option_map, unwrap_or, slice_get, codes, decimal}
use Rattle.std.specs.List.{range_with_len}
use Rattle.std.specs.Str.{byte}
use Rattle.vfa_ir.specs.declared.functions.Block.{Block}
use Rattle.vfa_ir.specs.declared.functions.CallArg.{CallArg}
use Rattle.vfa_ir.specs.declared.functions.CallOp.{CallOp}
use Rattle.vfa_ir.specs.declared.functions.Function.{Function}
use Rattle.vfa_ir.specs.declared.functions.Inst.{Inst}
use Rattle.vfa_ir.specs.declared.functions.Param.{Param}
use Rattle.vfa_ir.specs.declared.functions.Phi.{Phi}
use Rattle.vfa_ir.specs.declared.functions.Term.{Term}
use Rattle.vfa_ir.specs.declared.functions.Value.{Value}
use Rattle.vfa_ir.specs.declared.operations.BlockId.{BlockId}
use Rattle.vfa_ir.specs.declared.operations.CastFlags.{CastFlags}
use Rattle.vfa_ir.specs.declared.operations.Flags.{Flags}
use Rattle.vfa_ir.specs.declared.operations.Fun1.{Fun1}
use Rattle.vfa_ir.specs.declared.operations.Op.{Op}
use Rattle.vfa_ir.specs.declared.operations.Operand.{Operand}
use Rattle.vfa_ir.specs.declared.operations.Ty.{Ty}
use Rattle.vfa_ir.specs.declared.syntax.Argument.{Argument}
use Rattle.vfa_ir.specs.declared.syntax.BasicBlock.{BasicBlock}
use Rattle.vfa_ir.specs.declared.syntax.CallWords.{CallWords}
use Rattle.vfa_ir.specs.declared.syntax.Incoming.{Incoming}
use Rattle.vfa_ir.specs.declared.syntax.Instruction.{Instruction}
use Rattle.vfa_ir.specs.declared.syntax.Literal.{Literal}
use Rattle.vfa_ir.specs.declared.syntax.Operation.{Operation}
use Rattle.vfa_ir.specs.declared.syntax.Parameter.{Parameter}
use Rattle.vfa_ir.specs.declared.syntax.PhiNode.{PhiNode}
use Rattle.vfa_ir.specs.declared.syntax.SwitchCase.{SwitchCase}
use Rattle.vfa_ir.specs.declared.syntax.TerminatorKind.{TerminatorKind}
use Rattle.vfa_ir.specs.declared.syntax.Written.{Written}
use Rattle.vfa_ir.specs.Resolution.{Scope}
use Rattle.vfa_ir.specs.Sentence.{Sentence}
use Rattle.vfa_ir.specs.Shown.{shown_value_name, shown_block_name}
use Rattle.vfa_ir.specs.TokenLexemes.{lexemes}
use Rattle.vfa_ir.specs.Tokens.{tokens_of}
use Rattle.vfa_print.specs.Layout.{sentence_text}

-- the names that the values and the blocks of a function are shown by, in text order
abbrev pub shown_scope : Function → Scope
shown_scope f = record {
  values = map (shown_value_name f) (range_with_len 0 (length f.values));
  blocks = map (shown_block_name f) (range_with_len 0 (length f.blocks));
}

abbrev pub name_at : List (List ℕ) → ℕ → List ℕ
name_at names place = unwrap_or (slice_get names place) []

abbrev pub block_name_at : Scope → BlockId → List ℕ
block_name_at scope b = name_at scope.blocks b.0

-- "Simple Constants": `true` and `false` at width 1, and signed decimals at other widths
abbrev pub signed_text : ℕ → ℕ → List ℕ
signed_text width bits = if nat_lt bits (2 ^ (width - 1)) then decimal bits else byte "-" ∷ decimal (2 ^ width - bits)

abbrev pub literal_tree : ℕ → ℕ → Literal
literal_tree width bits = if width == 1 then Literal.Boolean (bits == 1) else Literal.Number (signed_text width bits)

abbrev pub operand_tree : Scope → ℕ → Operand → Written
operand_tree scope width (Operand.Value v) = Written.Local (name_at scope.values v.0)
operand_tree scope width (Operand.Literal bits) = Written.Literal (literal_tree width bits)
operand_tree scope width Operand.Poison = Written.Poison

-- each flag that is set stands once, `nuw` before `nsw`
abbrev pub flag_word : Bool → List ℕ → List (List ℕ)
flag_word true text = text ∷ []
flag_word false text = []

abbrev pub flag_words : Flags → List (List ℕ)
flag_words flags =
    flag_word flags.nuw (codes "nuw")
    ++ (flag_word flags.nsw (codes "nsw")
    ++ (flag_word flags.exact (codes "exact") ++ flag_word flags.disjoint (codes "disjoint")))

abbrev pub cast_flag_words : CastFlags → List (List ℕ)
cast_flag_words flags =
    flag_word flags.nuw (codes "nuw") ++ (flag_word flags.nsw (codes "nsw") ++ flag_word flags.nneg (codes "nneg"))

-- a call has no marker and no attribute groups
abbrev pub bare_call : CallWords
bare_call = record { marker = None; groups = [] }

abbrev pub strict_tree : Fun1 → Bool → Option Literal
strict_tree Fun1.Ctpop strict = None
strict_tree _ strict = Some (Literal.Boolean strict)

-- a call of a function that is no intrinsic, by its place among the calls
abbrev pub argument_tree : Scope → CallArg → Argument
argument_tree scope a = record { width = a.width; words = a.words; value = operand_tree scope a.width a.value }

abbrev pub call_tree : Scope → Option ℕ → Option CallOp → Operation
call_tree scope width None = Operation.Call bare_call [] width [] []
call_tree scope width (Some c) = Operation.Call bare_call c.words width c.callee (map (argument_tree scope) c.args)

abbrev pub op_tree : Scope → List CallOp → Op → Operation
op_tree scope calls (Op.Bin bin flags width a b) =
    Operation.Binary bin (flag_words flags) width (operand_tree scope width a) (operand_tree scope width b)
op_tree scope calls (Op.Icmp pred samesign width a b) =
    Operation.Compare samesign pred width (operand_tree scope width a) (operand_tree scope width b)
op_tree scope calls (Op.Select width c a b) =
    Operation.Select (operand_tree scope 1 c) width (operand_tree scope width a) (operand_tree scope width b)
op_tree scope calls (Op.Cast cast flags from to a) =
    Operation.Convert cast (cast_flag_words flags) from (operand_tree scope from a) to
op_tree scope calls (Op.Freeze width a) = Operation.Freeze width (operand_tree scope width a)
op_tree scope calls (Op.Two fun width a b) =
    Operation.Two bare_call fun width (operand_tree scope width a) (operand_tree scope width b)
op_tree scope calls (Op.One fun width a strict) =
    Operation.One bare_call fun width (operand_tree scope width a) (strict_tree fun strict)
op_tree scope calls (Op.Over over width a b) =
    Operation.Over bare_call over width (operand_tree scope width a) (operand_tree scope width b)
op_tree scope calls (Op.Part width pair index) = Operation.Extract width (name_at scope.values pair.0) index
op_tree scope calls (Op.Assume c) = Operation.Assume bare_call (operand_tree scope 1 c)
op_tree scope calls (Op.Call width place) = call_tree scope width (slice_get calls place)

abbrev pub inst_tree : Scope → List CallOp → Inst → Instruction
inst_tree scope calls i = record {
  result = option_map (λ v. name_at scope.values v.0) i.result;
  operation = op_tree scope calls i.op;
  attached = [];
}

-- phis
abbrev pub entry_tree : Scope → ℕ → Operand × BlockId → Incoming
entry_tree scope width e = record { value = operand_tree scope width e.0; block = block_name_at scope e.1 }

abbrev pub phi_tree : Scope → Phi → PhiNode
phi_tree scope p = record {
  result = name_at scope.values p.result.0;
  width = p.width;
  entries = map (entry_tree scope p.width) p.entries;
  attached = [];
}

abbrev pub case_tree : Scope → ℕ → ℕ × BlockId → SwitchCase
case_tree scope width c = record { number = literal_tree width c.0; block = block_name_at scope c.1 }

abbrev pub term_tree : Scope → Term → TerminatorKind
term_tree scope (Term.Ret width a) = TerminatorKind.Return width (operand_tree scope width a)
term_tree scope (Term.Br to) = TerminatorKind.Always (block_name_at scope to)
term_tree scope (Term.CondBr c taken fallen) =
    TerminatorKind.Condition (operand_tree scope 1 c) (block_name_at scope taken) (block_name_at scope fallen)
term_tree scope (Term.Switch width on default cases) =
    TerminatorKind.Switch width (operand_tree scope width on) (block_name_at scope default) (map (case_tree scope width) cases)
term_tree scope Term.Unreachable = TerminatorKind.Unreachable

-- an entry without a name has no label; every other block has its label
abbrev pub label_tree : Scope → ℕ → Block → Option (List ℕ)
label_tree scope place b = if place == 0 && is_none b.name then None else Some (name_at scope.blocks place)

abbrev pub block_tree : Scope → List CallOp → ℕ → Block → BasicBlock
block_tree scope calls place b = record {
  label = label_tree scope place b;
  phis = map (phi_tree scope) b.phis;
  instructions = map (inst_tree scope calls) b.insts;
  terminator = record { kind = term_tree scope b.term; attached = [] };
}

-- the blocks, the first of which has this place
abbrev pub blocks_tree : Scope → List CallOp → ℕ → List Block → List BasicBlock
blocks_tree scope calls place [] = []
blocks_tree scope calls place (b ∷ rest) = block_tree scope calls place b ∷ blocks_tree scope calls (suc place) rest

-- parameters
abbrev pub width_of : Ty → ℕ
width_of (Ty.Int width) = width
width_of (Ty.Pair width) = width

abbrev pub width_at : List Value → ℕ → ℕ
width_at values place = elim (slice_get values place) [ None ↦ 0 | Some v ↦ width_of v.ty ]

abbrev pub parameter_tree : Scope → List Value → Param → Parameter
parameter_tree scope values p = record {
  width = width_at values p.value.0;
  words = p.words;
  name = Some (name_at scope.values p.value.0);
}

-- the tree of a function, with these names
abbrev pub tree_with : Scope → Function → Sentence
tree_with scope f = record {
  lead = f.lead;
  width = f.width;
  name = f.name;
  parameters = map (parameter_tree scope f.values) f.params;
  tail = lexemes f.tail (tokens_of f.tail);
  blocks = blocks_tree scope f.calls 0 f.blocks;
}

abbrev pub tree_of : Function → Sentence
tree_of f = tree_with (shown_scope f) f

-- the text of a function
abbrev pub function_text : Function → List ℕ
function_text f = sentence_text (tree_of f) f.tail
