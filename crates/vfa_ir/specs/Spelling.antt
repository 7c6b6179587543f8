-- How a function is spelled: the lexemes of each production, in the order of the LLVM Language Reference.
use Rattle.std.specs.Prelude.{ℕ, List, [], ◌∷◌, ◌++◌, map, flat_map, true, false, Bool, Option, Some, None, codes, decimal, if◌then◌else◌}
use Rattle.std.specs.List.{join_by}
use Rattle.std.specs.Str.{byte}
use Rattle.vfa_ir.specs.declared.syntax.Literal.{Literal}
use Rattle.vfa_ir.specs.declared.syntax.Written.{Written}
use Rattle.vfa_ir.specs.declared.syntax.Attachment.{Attachment}
use Rattle.vfa_ir.specs.declared.syntax.Parameter.{Parameter}
use Rattle.vfa_ir.specs.declared.syntax.Incoming.{Incoming}
use Rattle.vfa_ir.specs.declared.syntax.PhiNode.{PhiNode}
use Rattle.vfa_ir.specs.declared.syntax.CallWords.{CallWords}
use Rattle.vfa_ir.specs.declared.syntax.Argument.{Argument}
use Rattle.vfa_ir.specs.declared.syntax.Operation.{Operation}
use Rattle.vfa_ir.specs.declared.syntax.Instruction.{Instruction}
use Rattle.vfa_ir.specs.declared.syntax.SwitchCase.{SwitchCase}
use Rattle.vfa_ir.specs.declared.syntax.TerminatorKind.{TerminatorKind}
use Rattle.vfa_ir.specs.declared.syntax.Terminator.{Terminator}
use Rattle.vfa_ir.specs.declared.syntax.BasicBlock.{BasicBlock}
use Rattle.vfa_ir.specs.Lexemes.{Lexeme, local, global, label, metadata, group, number, word, mark}
use Rattle.vfa_ir.specs.Sentence.{Sentence}
use Rattle.vfa_ir.specs.Words.{type_word, bin_word, pred_word, cast_word, fun1_word, fun2_word, over_word, callee}

-- the marks `( ) [ ] { } , =`
abbrev pub open_round : Lexeme
open_round = mark (byte "(")

abbrev pub close_round : Lexeme
close_round = mark (byte ")")

abbrev pub open_square : Lexeme
open_square = mark (byte "[")

abbrev pub close_square : Lexeme
close_square = mark (byte "]")

abbrev pub open_brace : Lexeme
open_brace = mark (byte "{")

abbrev pub close_brace : Lexeme
close_brace = mark (byte "}")

abbrev pub comma : Lexeme
comma = mark (byte ",")

abbrev pub equals : Lexeme
equals = mark (byte "=")

-- "Integer Type": `iN`
abbrev pub type : ℕ → Lexeme
type width = word (type_word width)

-- `{ iN, i1 }`
abbrev pub pair_type : ℕ → List Lexeme
pair_type width = open_brace ∷ type width ∷ comma ∷ type 1 ∷ close_brace ∷ []

-- "Simple Constants"
abbrev pub literal : Literal → List Lexeme
literal (Literal.Boolean true) = word (codes "true") ∷ []
literal (Literal.Boolean false) = word (codes "false") ∷ []
literal (Literal.Number text) = number text ∷ []

abbrev pub value : Written → List Lexeme
value (Written.Local name) = local name ∷ []
value (Written.Literal l) = literal l
value Written.Poison = word (codes "poison") ∷ []

-- `T V`
abbrev pub typed : ℕ → Written → List Lexeme
typed width v = type width ∷ value v

-- `label L`
abbrev pub target : List ℕ → List Lexeme
target name = word (codes "label") ∷ local name ∷ []

-- "Metadata": `, !kind !node`, any number of times
abbrev pub attachment : Attachment → List Lexeme
attachment a = comma ∷ metadata a.kind ∷ metadata a.node ∷ []

abbrev pub attachments : List Attachment → List Lexeme
attachments = flat_map attachment

abbrev pub optional_word : Option (List ℕ) → List Lexeme
optional_word None = []
optional_word (Some w) = word w ∷ []

-- "phi Instruction": `%r = phi T [ V , %b ] , .. , [ V , %b ]`
abbrev pub incoming : Incoming → List Lexeme
incoming i = open_square ∷ (value i.value ++ (comma ∷ local i.block ∷ close_square ∷ []))

abbrev pub phi : PhiNode → List Lexeme
phi p = local p.result ∷ equals ∷ word (codes "phi") ∷ type p.width
    ∷ (join_by incoming (comma ∷ []) p.entries ++ attachments p.attached)

-- "call Instruction": `tail call` or `call`, words, the result's type, the callee, its arguments in parentheses, `#4 ..`
abbrev pub call : CallWords → List Lexeme → List ℕ → List Lexeme → List Lexeme
call words result name arguments = optional_word words.marker
    ++ (word (codes "call") ∷ (result ++ (global name ∷ open_round ∷ (arguments ++ (close_round ∷ map group words.groups)))))

-- the literal of an intrinsic with a second argument of type i1
abbrev pub strict_argument : Option Literal → List Lexeme
strict_argument None = []
strict_argument (Some l) = comma ∷ type 1 ∷ literal l

-- `T` or `void`
abbrev pub result_type : Option ℕ → Lexeme
result_type (Some width) = type width
result_type None = word (codes "void")

-- `T`, attributes, `V`
abbrev pub argument : Argument → List Lexeme
argument a = type a.width ∷ (map word a.words ++ value a.value)

-- "samesign", where it stands
abbrev pub same_sign : Bool → List Lexeme
same_sign samesign = if samesign then word (codes "samesign") ∷ [] else []

abbrev pub operation : Operation → List Lexeme
-- "Binary Operations", "Bitwise Binary Operations"
operation (Operation.Binary bin flags width a b) =
    word (bin_word bin) ∷ (map word flags ++ (typed width a ++ (comma ∷ value b)))
-- "icmp Instruction", "select Instruction"
operation (Operation.Compare samesign pred width a b) =
    word (codes "icmp") ∷ (same_sign samesign ++ (word (pred_word pred) ∷ (typed width a ++ (comma ∷ value b))))
operation (Operation.Select c width a b) =
    word (codes "select") ∷ (typed 1 c ++ (comma ∷ (typed width a ++ (comma ∷ typed width b))))
-- "Conversion Operations", "freeze Instruction"
operation (Operation.Convert cast flags from a to) =
    word (cast_word cast) ∷ (map word flags ++ (typed from a ++ (word (codes "to") ∷ type to ∷ [])))
operation (Operation.Freeze width a) = word (codes "freeze") ∷ typed width a
-- "extractvalue Instruction"
operation (Operation.Extract width pair index) =
    word (codes "extractvalue") ∷ (pair_type width ++ (local pair ∷ comma ∷ number (decimal index) ∷ []))
-- "Intrinsic Functions"
operation (Operation.Two words fun width a b) =
    call words (type width ∷ []) (callee (fun2_word fun) width) (typed width a ++ (comma ∷ typed width b))
operation (Operation.One words fun width a strict) =
    call words (type width ∷ []) (callee (fun1_word fun) width) (typed width a ++ strict_argument strict)
operation (Operation.Over words over width a b) =
    call words (pair_type width) (callee (over_word over) width) (typed width a ++ (comma ∷ typed width b))
operation (Operation.Assume words c) = call words (word (codes "void") ∷ []) (codes "llvm.assume") (typed 1 c)
operation (Operation.Call words attributes width name arguments) =
    call words (map word attributes ++ (result_type width ∷ [])) name (join_by argument (comma ∷ []) arguments)

-- `%r =`, where the instruction has a result
abbrev pub result : Option (List ℕ) → List Lexeme
result None = []
result (Some name) = local name ∷ equals ∷ []

abbrev pub instruction : Instruction → List Lexeme
instruction i = result i.result ++ (operation i.operation ++ attachments i.attached)

-- "Terminator Instructions"
abbrev pub switch_case : ℕ → SwitchCase → List Lexeme
switch_case width c = type width ∷ (literal c.number ++ (comma ∷ target c.block))

abbrev pub terminator_kind : TerminatorKind → List Lexeme
terminator_kind (TerminatorKind.Return width a) = word (codes "ret") ∷ typed width a
terminator_kind (TerminatorKind.Always to) = word (codes "br") ∷ target to
terminator_kind (TerminatorKind.Condition c taken fallen) =
    word (codes "br") ∷ (typed 1 c ++ (comma ∷ (target taken ++ (comma ∷ target fallen))))
terminator_kind (TerminatorKind.Switch width on default cases) =
    word (codes "switch") ∷ (typed width on ++ (comma ∷ (target default
    ++ (open_square ∷ (flat_map (switch_case width) cases ++ (close_square ∷ []))))))
terminator_kind TerminatorKind.Unreachable = word (codes "unreachable") ∷ []

abbrev pub terminator : Terminator → List Lexeme
terminator t = terminator_kind t.kind ++ attachments t.attached

-- a block: its label, its phis, its other instructions, its terminator
abbrev pub block_label : Option (List ℕ) → List Lexeme
block_label None = []
block_label (Some name) = label name ∷ []

abbrev pub block : BasicBlock → List Lexeme
block b = block_label b.label ++ (flat_map phi b.phis ++ (flat_map instruction b.instructions ++ terminator b.terminator))

-- "Functions"
abbrev pub parameter_name : Option (List ℕ) → List Lexeme
parameter_name None = []
parameter_name (Some name) = local name ∷ []

abbrev pub parameter : Parameter → List Lexeme
parameter p = type p.width ∷ (map word p.words ++ parameter_name p.name)

-- from `define` to the `)` after the parameters
abbrev pub header : Sentence → List Lexeme
header s = word (codes "define") ∷ (map word s.lead
    ++ (type s.width ∷ global s.name ∷ open_round ∷ (join_by parameter (comma ∷ []) s.parameters ++ (close_round ∷ []))))

abbrev pub spelling : Sentence → List Lexeme
spelling s = header s ++ (s.tail ++ (open_brace ∷ (flat_map block s.blocks ++ (close_brace ∷ []))))
