-- The productions as readers, each beside its section of the LLVM Language Reference.
use Rattle.std.specs.Prelude.{ℕ, Bool, true, false, ◌==◌, ◌||◌, List, [], ◌∷◌, ◌++◌, map, Option, Some, None, codes, bytes_eq}
use Rattle.std.specs.Str.{byte}
use Rattle.vfa_ir.specs.declared.operations.Cast.{Cast}
use Rattle.vfa_ir.specs.declared.operations.Pred.{Pred}
use Rattle.vfa_ir.specs.declared.operations.Bin.{Bin}
use Rattle.vfa_ir.specs.declared.operations.Fun1.{Fun1}
use Rattle.vfa_ir.specs.declared.operations.Fun2.{Fun2}
use Rattle.vfa_ir.specs.declared.operations.Over.{Over}
use Rattle.vfa_ir.specs.declared.syntax.CallWords.{CallWords}
use Rattle.vfa_ir.specs.declared.syntax.Literal.{Literal}
use Rattle.vfa_ir.specs.declared.syntax.BasicBlock.{BasicBlock}
use Rattle.vfa_ir.specs.declared.syntax.Incoming.{Incoming}
use Rattle.vfa_ir.specs.declared.syntax.Argument.{Argument}
use Rattle.vfa_ir.specs.declared.syntax.SwitchCase.{SwitchCase}
use Rattle.vfa_ir.specs.declared.syntax.Terminator.{Terminator}
use Rattle.vfa_read.specs.declared.forms.Form.{Form}
use Rattle.vfa_read.specs.declared.forms.Ending.{Ending}
use Rattle.vfa_read.specs.declared.intrinsics.Callee.{Callee}
use Rattle.vfa_read.specs.declared.intrinsics.Intrinsic.{Intrinsic}
use Rattle.vfa_read.specs.declared.intrinsics.VoidCallee.{VoidCallee}
use Rattle.vfa_read.specs.declared.lines.BlockLines.{BlockLines}
use Rattle.vfa_read.specs.declared.lines.Line.{Line}
use Rattle.vfa_read.specs.declared.phis.PhiPart.{PhiPart}
use Rattle.vfa_ir.specs.declared.syntax.Operation.{Operation}
use Rattle.vfa_ir.specs.declared.syntax.TerminatorKind.{TerminatorKind}
use Rattle.vfa_ir.specs.declared.syntax.Written.{Written}
use Rattle.vfa_ir.specs.declared.syntax.Attachment.{Attachment}
use Rattle.vfa_ir.specs.Lexemes.{Lexeme, mark, word, group, local, label, nameless_local, nameless_label}
use Rattle.vfa_ir.specs.Words.{is_among, bin_word, bins, call_words, cast_word, casts, over_word, overs, parameter_words, pred_word, preds}
use Rattle.vfa_read.specs.Items.{attachments_of, entries_of, lines_of}
use Rattle.vfa_read.specs.Readers.{Reader, one, nothing, after, made, skip, ended, choose, many}
use Rattle.vfa_read.specs.Tables.{the_mark, the_word, the_type, local_name, label_name, metadata_kind, metadata_node, type_of, value_of, word_among, keyword_in, part_index, literal_of, group_digits, callee_in, callee_after, void_after}

abbrev pub is_mark : ℕ → Lexeme → Bool
is_mark c (mark d) = d == c
is_mark c _ = false

-- `, !kind !node`, any number of times
abbrev pub attachment_of : List ℕ × List ℕ → Attachment
attachment_of (kind, node) = record { kind = kind; node = node }

unfoldable pub metadata_pair : Reader Attachment
metadata_pair = made attachment_of (after (one metadata_kind) (λ _. one metadata_node))

unfoldable pub attachment : Reader Attachment
attachment = skip (the_mark (byte ",")) metadata_pair

-- one state for all items
abbrev pub same_state : {A : Type 0} → Unit {0} → A → Unit {0}
same_state s _ = s

unfoldable pub attachments : Reader (List Attachment)
attachments = many (is_mark (byte ",")) (λ _. attachment) same_state tt

-- words of a list
abbrev pub is_word_among : List (List ℕ) → Lexeme → Bool
is_word_among texts (word w) = is_among w texts
is_word_among texts _ = false

unfoldable pub words_among : List (List ℕ) → Reader (List (List ℕ))
words_among texts = many (is_word_among texts) (λ _. one (word_among texts)) same_state tt

-- any word
abbrev pub is_any_word : Lexeme → Bool
is_any_word (word _) = true
is_any_word _ = false

-- items with commas between, where any begin
abbrev pub listed : {A : Type 0} → A × List A → List A
listed (first, rest) = first ∷ rest

abbrev pub after_commas : {A : Type 0} → Reader A → Reader (List A)
after_commas item = many (is_mark (byte ",")) (λ _. skip (the_mark (byte ",")) item) same_state tt

abbrev pub comma_list : {A : Type 0} → (Lexeme → Bool) → Reader A → Reader (List A)
comma_list starts item = choose starts (made listed (after item (λ _. after_commas item))) (nothing [])

-- `label %name`
unfoldable pub target : Reader (List ℕ)
target = skip (the_word (codes "label")) (one local_name)

-- `V , V`, both of one width; with the type before the second too
abbrev pub operands : ℕ → Reader (Written × Written)
operands width = after (one (value_of width)) (λ _. skip (the_mark (byte ",")) (one (value_of width)))

abbrev pub typed_operands : ℕ → Reader (Written × Written)
typed_operands width = after (one (value_of width)) (λ _. skip (the_mark (byte ",")) (skip (the_type width) (one (value_of width))))

abbrev pub is_word : List ℕ → Lexeme → Bool
is_word text (word w) = bytes_eq w text
is_word text _ = false

-- flags in any order, each at most once
abbrev pub optional_word : List ℕ → Reader (List (List ℕ))
optional_word text = choose (is_word text) (made (λ _. text ∷ []) (one (the_word text))) (nothing [])

abbrev pub is_wrap_flag : Lexeme → Bool
is_wrap_flag (word w) = bytes_eq w (codes "nuw") || bytes_eq w (codes "nsw")
is_wrap_flag _ = false

abbrev pub flag_list : List ℕ → Unit {0} × List (List ℕ) → List (List ℕ)
flag_list first (_, rest) = first ∷ rest

abbrev pub flag_then : List ℕ → List ℕ → Reader (List (List ℕ))
flag_then first second = made (flag_list first) (after (one (the_word first)) (λ _. optional_word second))

abbrev pub wrap_flags : Reader (List (List ℕ))
wrap_flags = choose is_wrap_flag
    (choose (is_word (codes "nuw")) (flag_then (codes "nuw") (codes "nsw")) (flag_then (codes "nsw") (codes "nuw"))) (nothing [])

-- "icmp Instruction", after its word, and so on below
abbrev pub same_sign : Reader Bool
same_sign = choose (is_word (codes "samesign")) (made (λ _. true) (one (the_word (codes "samesign")))) (nothing false)

abbrev pub compare_of : Bool × (Pred × (ℕ × (Written × Written))) → Operation
compare_of (samesign, (pred, (width, (a, b)))) = Operation.Compare samesign pred width a b

unfoldable pub compare : Reader Operation
compare = made compare_of (after same_sign (λ _. after (one (keyword_in pred_word preds)) (λ _. after (one type_of) operands)))

-- "select Instruction"
abbrev pub select_of : Written × (ℕ × (Written × Written)) → Operation
select_of (c, (width, (a, b))) = Operation.Select c width a b

unfoldable pub select : Reader Operation
select = made select_of (skip (the_type 1) (after (one (value_of 1)) (λ _. skip (the_mark (byte ",")) (after (one type_of) typed_operands))))

-- "Conversion Operations"
abbrev pub cast_flags : Cast → Reader (List (List ℕ))
cast_flags Cast.Zext = optional_word (codes "nneg")
cast_flags Cast.Sext = nothing []
cast_flags Cast.Trunc = wrap_flags

abbrev pub convert_of : Cast → List (List ℕ) × (ℕ × (Written × ℕ)) → Operation
convert_of cast (flags, (from, (a, to))) = Operation.Convert cast flags from a to

unfoldable pub converted : Reader (ℕ × (Written × ℕ))
converted = after (one type_of) (λ width. after (one (value_of width)) (λ _. skip (the_word (codes "to")) (one type_of)))

unfoldable pub convert : Cast → Reader Operation
convert cast = made (convert_of cast) (after (cast_flags cast) (λ _. converted))

-- "freeze Instruction"
abbrev pub freeze_of : ℕ × Written → Operation
freeze_of (width, a) = Operation.Freeze width a

unfoldable pub freeze : Reader Operation
freeze = made freeze_of (after (one type_of) (λ width. one (value_of width)))

-- `{ iN, i1 }`
unfoldable pub pair_type : Reader ℕ
pair_type = skip (the_mark (byte "{")) (ended (ended (ended (one type_of) (the_mark (byte ","))) (the_type 1)) (the_mark (byte "}")))

-- "extractvalue Instruction"
abbrev pub extract_of : ℕ × (List ℕ × ℕ) → Operation
extract_of (width, (pair, index)) = Operation.Extract width pair index

unfoldable pub extract : Reader Operation
extract = made extract_of (after pair_type (λ _. after (one local_name) (λ _. skip (the_mark (byte ",")) (one part_index))))

-- "ret Instruction", "br Instruction", "unreachable Instruction"
abbrev pub return_of : ℕ × Written → TerminatorKind
return_of (width, a) = TerminatorKind.Return width a

unfoldable pub returned : Reader TerminatorKind
returned = made return_of (after (one type_of) (λ width. one (value_of width)))

abbrev pub condition_of : Written × (List ℕ × List ℕ) → TerminatorKind
condition_of (c, (taken, fallen)) = TerminatorKind.Condition c taken fallen

unfoldable pub condition : Reader TerminatorKind
condition = made condition_of (skip (the_type 1) (after (one (value_of 1)) (λ _. skip (the_mark (byte ",")) (after target (λ _. skip (the_mark (byte ",")) target)))))

unfoldable pub branch : Reader TerminatorKind
branch = choose (is_word (codes "label")) (made TerminatorKind.Always target) condition

-- `( T V , T V )`
abbrev pub arguments : ℕ → Reader (Written × Written)
arguments width = skip (the_mark (byte "(")) (skip (the_type width) (ended (typed_operands width) (the_mark (byte ")"))))

-- the literal of an intrinsic with a second argument of type i1
abbrev pub strict_argument : Fun1 → Reader (Option Literal)
strict_argument Fun1.Ctpop = nothing None
strict_argument _ = made Some (skip (the_mark (byte ",")) (skip (the_type 1) (one (literal_of 1))))

-- `( T V )` or `( T V , i1 L )`
abbrev pub argument : ℕ → Fun1 → Reader (Written × Option Literal)
argument width fun = skip (the_mark (byte "(")) (skip (the_type width) (ended (after (one (value_of width)) (λ _. strict_argument fun)) (the_mark (byte ")"))))

-- `#4`, any number of times
abbrev pub is_group : Lexeme → Bool
is_group (group _) = true
is_group _ = false

unfoldable pub groups : Reader (List (List ℕ))
groups = many is_group (λ _. one group_digits) same_state tt

-- "call Instruction", after `call`
abbrev pub words_of : Option (List ℕ) → List (List ℕ) → CallWords
words_of marker digits = record { marker = marker; groups = digits }

abbrev pub two_of : Option (List ℕ) → ℕ → Fun2 → (Written × Written) × List (List ℕ) → Operation
two_of marker width fun ((a, b), digits) = Operation.Two (words_of marker digits) fun width a b

unfoldable pub two_call : Option (List ℕ) → ℕ → Fun2 → Reader Operation
two_call marker width fun = made (two_of marker width fun) (after (arguments width) (λ _. groups))

abbrev pub one_of : Option (List ℕ) → ℕ → Fun1 → (Written × Option Literal) × List (List ℕ) → Operation
one_of marker width fun ((a, strict), digits) = Operation.One (words_of marker digits) fun width a strict

unfoldable pub one_call : Option (List ℕ) → ℕ → Fun1 → Reader Operation
one_call marker width fun = made (one_of marker width fun) (after (argument width fun) (λ _. groups))

-- a call of a function that is no intrinsic, after its name
abbrev pub argument_of : ℕ × (List (List ℕ) × Written) → Argument
argument_of (width, (words, value)) = record { width = width; words = words; value = value }

unfoldable pub call_argument : Reader Argument
call_argument = made argument_of (after (one type_of) (λ width. after (words_among parameter_words) (λ _. one (value_of width))))

unfoldable pub call_arguments : Reader (List Argument)
call_arguments = skip (the_mark (byte "(")) (ended (comma_list is_any_word call_argument) (the_mark (byte ")")))

abbrev pub other_of : Option (List ℕ) → List (List ℕ) → Option ℕ → List ℕ → List Argument × List (List ℕ) → Operation
other_of marker words width name (arguments, digits) = Operation.Call (words_of marker digits) words width name arguments

unfoldable pub other_call : Option (List ℕ) → List (List ℕ) → Option ℕ → List ℕ → Reader Operation
other_call marker words width name = made (other_of marker words width name) (after call_arguments (λ _. groups))

-- a call with a result
abbrev pub callee_call : Option (List ℕ) → List (List ℕ) → ℕ → Callee → Reader Operation
callee_call marker words width (Callee.Known (Intrinsic.Two fun)) = two_call marker width fun
callee_call marker words width (Callee.Known (Intrinsic.One fun)) = one_call marker width fun
callee_call marker words width (Callee.Other name) = other_call marker words (Some width) name

abbrev pub named_of : ℕ × (Callee × Operation) → Operation
named_of (_, (_, op)) = op

abbrev pub named_call : Option (List ℕ) → List (List ℕ) → Reader Operation
named_call marker words = made named_of (after (one type_of) (λ width. after (one (callee_after words width)) (callee_call marker words width)))

abbrev pub last_of : List (List ℕ) × Operation → Operation
last_of (_, op) = op

unfoldable pub plain_call : Option (List ℕ) → Reader Operation
plain_call marker = made last_of (after (words_among call_words) (named_call marker))

abbrev pub over_of : Option (List ℕ) → ℕ × (Over × ((Written × Written) × List (List ℕ))) → Operation
over_of marker (width, (over, ((a, b), digits))) = Operation.Over (words_of marker digits) over width a b

unfoldable pub over_call : Option (List ℕ) → Reader Operation
over_call marker = made (over_of marker) (after pair_type (λ width. after (one (callee_in over_word overs width)) (λ _. after (arguments width) (λ _. groups))))

unfoldable pub call : Option (List ℕ) → Reader Operation
call marker = choose (is_mark (byte "{")) (over_call marker) (plain_call marker)

-- a call without a result: of `llvm.assume`, or of a function that is no intrinsic
abbrev pub assume_of : Option (List ℕ) → Written × List (List ℕ) → Operation
assume_of marker (c, digits) = Operation.Assume (words_of marker digits) c

unfoldable pub assume_call : Option (List ℕ) → Reader Operation
assume_call marker = made (assume_of marker) (after (skip (the_mark (byte "(")) (skip (the_type 1) (ended (one (value_of 1)) (the_mark (byte ")"))))) (λ _. groups))

abbrev pub void_callee_call : Option (List ℕ) → List (List ℕ) → VoidCallee → Reader Operation
void_callee_call marker words VoidCallee.Assume = assume_call marker
void_callee_call marker words (VoidCallee.Other name) = other_call marker words None name

abbrev pub void_of : List (List ℕ) × (VoidCallee × Operation) → Operation
void_of (_, (_, op)) = op

abbrev pub void_named : Option (List ℕ) → List (List ℕ) → Reader (VoidCallee × Operation)
void_named marker words = skip (the_word (codes "void")) (after (one (void_after words)) (void_callee_call marker words))

unfoldable pub void_call : Option (List ℕ) → Reader Operation
void_call marker = made void_of (after (words_among call_words) (void_named marker))

-- "Binary Operations"
abbrev pub flags : Bin → Reader (List (List ℕ))
flags Bin.Add = wrap_flags
flags Bin.Sub = wrap_flags
flags Bin.Mul = wrap_flags
flags Bin.Shl = wrap_flags
flags Bin.Udiv = optional_word (codes "exact")
flags Bin.Sdiv = optional_word (codes "exact")
flags Bin.Lshr = optional_word (codes "exact")
flags Bin.Ashr = optional_word (codes "exact")
flags Bin.Or = optional_word (codes "disjoint")
flags _ = nothing []

abbrev pub binary_of : Bin → List (List ℕ) × (ℕ × (Written × Written)) → Operation
binary_of bin (flags, (width, (a, b))) = Operation.Binary bin flags width a b

unfoldable pub binary : Bin → Reader Operation
binary bin = made (binary_of bin) (after (flags bin) (λ _. after (one type_of) operands))

-- "switch Instruction"
abbrev pub case_of : Literal × List ℕ → SwitchCase
case_of (number, block) = record { number = number; block = block }

unfoldable pub switch_case : ℕ → Reader SwitchCase
switch_case width = made case_of (skip (the_type width) (after (one (literal_of width)) (λ _. skip (the_mark (byte ",")) target)))

unfoldable pub switch_cases : ℕ → Reader (List SwitchCase)
switch_cases width = many is_any_word (λ _. switch_case width) same_state tt

abbrev pub switch_of : ℕ × (Written × (List ℕ × List SwitchCase)) → TerminatorKind
switch_of (width, (on, (other, cases))) = TerminatorKind.Switch width on other cases

unfoldable pub switch : Reader TerminatorKind
switch = made switch_of (after (one type_of) (λ width. after (one (value_of width)) (λ _. skip (the_mark (byte ",")) (after target (λ _.
    skip (the_mark (byte "[")) (ended (switch_cases width) (the_mark (byte "]"))))))))

-- the word that an operation begins with
abbrev pub form_word : Form → List ℕ
form_word (Form.Binary bin) = bin_word bin
form_word Form.Compare = codes "icmp"
form_word Form.Select = codes "select"
form_word (Form.Convert cast) = cast_word cast
form_word Form.Freeze = codes "freeze"
form_word Form.Extract = codes "extractvalue"
form_word Form.Call = codes "call"
form_word Form.Tail = codes "tail"
form_word Form.Notail = codes "notail"

abbrev pub other_forms : List Form
other_forms = Form.Compare ∷ Form.Select ∷ Form.Freeze ∷ Form.Extract ∷ Form.Call ∷ Form.Tail ∷ Form.Notail ∷ []

abbrev pub forms : List Form
forms = map Form.Binary bins ++ (map Form.Convert casts ++ other_forms)

abbrev pub marked_call : List ℕ → Reader Operation
marked_call marker = skip (the_word (codes "call")) (call (Some marker))

abbrev pub form_rest : Form → Reader Operation
form_rest (Form.Binary bin) = binary bin
form_rest Form.Compare = compare
form_rest Form.Select = select
form_rest (Form.Convert cast) = convert cast
form_rest Form.Freeze = freeze
form_rest Form.Extract = extract
form_rest Form.Call = call None
form_rest Form.Tail = marked_call (codes "tail")
form_rest Form.Notail = marked_call (codes "notail")

-- an operation that has a result
abbrev pub formed : Form × Operation → Operation
formed (_, op) = op

unfoldable pub operation : Reader Operation
operation = made formed (after (one (keyword_in form_word forms)) form_rest)

-- the word that a terminator begins with
abbrev pub ending_word : Ending → List ℕ
ending_word Ending.Return = codes "ret"
ending_word Ending.Branch = codes "br"
ending_word Ending.Switch = codes "switch"
ending_word Ending.Unreachable = codes "unreachable"

abbrev pub endings : List Ending
endings = Ending.Return ∷ Ending.Branch ∷ Ending.Switch ∷ Ending.Unreachable ∷ []

abbrev pub ending_rest : Ending → Reader TerminatorKind
ending_rest Ending.Return = returned
ending_rest Ending.Branch = branch
ending_rest Ending.Switch = switch
ending_rest Ending.Unreachable = nothing TerminatorKind.Unreachable

abbrev pub ended_by : Ending × TerminatorKind → TerminatorKind
ended_by (_, kind) = kind

unfoldable pub terminator_kind : Reader TerminatorKind
terminator_kind = made ended_by (after (one (keyword_in ending_word endings)) ending_rest)

abbrev pub terminator_of : TerminatorKind × List Attachment → Terminator
terminator_of (kind, attached) = record { kind = kind; attached = attached }

unfoldable pub terminator : Reader Terminator
terminator = made terminator_of (after terminator_kind (λ _. attachments))

-- "phi Instruction"
abbrev pub incoming_of : Written × List ℕ → Incoming
incoming_of (value, block) = record { value = value; block = block }

unfoldable pub incoming : ℕ → Reader Incoming
incoming width = made incoming_of (skip (the_mark (byte "[")) (ended (after (one (value_of width)) (λ _. skip (the_mark (byte ",")) (one local_name))) (the_mark (byte "]"))))

abbrev pub part_reader : ℕ → Bool → Reader PhiPart
part_reader width true = choose (is_mark (byte "[")) (made PhiPart.Entry (incoming width)) (made PhiPart.Attached metadata_pair)
part_reader width false = made PhiPart.Attached metadata_pair

unfoldable pub phi_part : ℕ → Bool → Reader PhiPart
phi_part width operands = skip (the_mark (byte ",")) (part_reader width operands)

abbrev pub still_operands : Bool → PhiPart → Bool
still_operands operands (PhiPart.Entry _) = operands
still_operands operands (PhiPart.Attached _) = false

unfoldable pub phi_parts : ℕ → Bool → Reader (List PhiPart)
phi_parts width operands = many (is_mark (byte ",")) (phi_part width) still_operands operands

abbrev pub phi_of : List ℕ → ℕ × (Incoming × List PhiPart) → Line
phi_of result (width, (first, parts)) =
    Line.Phi (record { result = result; width = width; entries = first ∷ entries_of parts; attached = attachments_of parts })

unfoldable pub phi_rest : List ℕ → Reader Line
phi_rest result = made (phi_of result) (after (one type_of) (λ width. after (incoming width) (λ _. phi_parts width true)))

-- the lines of a block
abbrev pub plain_of : Option (List ℕ) → Operation × List Attachment → Line
plain_of result (op, attached) = Line.Plain (record { result = result; operation = op; attached = attached })

unfoldable pub plain_rest : List ℕ → Reader Line
plain_rest result = made (plain_of (Some result)) (after operation (λ _. attachments))

abbrev pub defined_rest : Bool → List ℕ → Reader Line
defined_rest true result = choose (is_word (codes "phi")) (skip (the_word (codes "phi")) (phi_rest result)) (plain_rest result)
defined_rest false result = plain_rest result

abbrev pub defined_of : List ℕ × Line → Line
defined_of (_, line) = line

unfoldable pub defined_line : Bool → Reader Line
defined_line phis = made defined_of (after (one local_name) (λ result. skip (the_mark (byte "=")) (defined_rest phis result)))

abbrev pub marker_word : Reader (List ℕ)
marker_word = choose (is_word (codes "tail")) (made (λ _. codes "tail") (one (the_word (codes "tail")))) (made (λ _. codes "notail") (one (the_word (codes "notail"))))

unfoldable pub call_marker : Reader (Option (List ℕ))
call_marker = choose (is_word (codes "call")) (made (λ _. None) (one (the_word (codes "call")))) (made Some (ended marker_word (the_word (codes "call"))))

abbrev pub void_line_of : Option (List ℕ) × (Operation × List Attachment) → Line
void_line_of (_, rest) = plain_of None rest

unfoldable pub void_line : Reader Line
void_line = made void_line_of (after call_marker (λ marker. after (void_call marker) (λ _. attachments)))

abbrev pub is_call_word : List ℕ → Bool
is_call_word w = bytes_eq w (codes "call") || bytes_eq w (codes "tail") || bytes_eq w (codes "notail")

abbrev pub starts_call : Lexeme → Bool
starts_call (word w) = is_call_word w
starts_call _ = false

unfoldable pub line : Bool → Reader Line
line phis = choose starts_call void_line (defined_line phis)

abbrev pub starts_line : Lexeme → Bool
starts_line (local _) = true
starts_line nameless_local = true
starts_line (word w) = is_call_word w
starts_line _ = false

abbrev pub still_phis : Bool → Line → Bool
still_phis phis (Line.Phi _) = phis
still_phis phis (Line.Plain _) = false

unfoldable pub lines : Bool → Reader (List Line)
lines phis = many starts_line line still_phis phis

unfoldable pub block_lines : Reader BlockLines
block_lines = made lines_of (lines true)

-- a block
abbrev pub starts_label : Lexeme → Bool
starts_label (label _) = true
starts_label nameless_label = true
starts_label _ = false

abbrev pub block_of : Option (List ℕ) × (BlockLines × Terminator) → BasicBlock
block_of (name, (read, end)) = record { label = name; phis = read.phis; instructions = read.instructions; terminator = end }

abbrev pub block_labelled : Option (List ℕ) → BlockLines × Terminator → BasicBlock
block_labelled name p = block_of (name, p)

abbrev pub block_rest : Reader (BlockLines × Terminator)
block_rest = after block_lines (λ _. terminator)

unfoldable pub block_with : Reader (Option (List ℕ)) → Reader BasicBlock
block_with label_reader = made block_of (after label_reader (λ _. block_rest))

abbrev pub written_label : Reader (Option (List ℕ))
written_label = made Some (one label_name)

abbrev pub entry_label : Reader (Option (List ℕ))
entry_label = choose starts_label written_label (nothing None)

unfoldable pub further_blocks : Reader (List BasicBlock)
further_blocks = many starts_label (λ _. block_with written_label) same_state tt
