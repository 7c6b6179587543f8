-- Which trees are functions of the profile: what each production asks beside its spelling. One width stands for all
-- types of an instruction, numbers lie in the range of their type, words are those of the language.
use Rattle.std.specs.Prelude.{◌≡◌, ◌≤◌, ℕ, ◌+◌, ◌-◌, ◌^◌, ℤ, pos, neg_ℤ, ◌≤ℤ◌, ◌<ℤ◌, List, [], ◌∷◌, All, IsTrue, IsSome, Bool, true, false, not, ◌&&◌, ◌||◌, ◌==◌, nat_lt, if◌then◌else◌, Option, Some, None, IfSome, ⊤, bytes_eq, codes}
use Rattle.std.specs.List.{IsDistinct}
use Rattle.std.specs.Str.{byte}
use Rattle.std.specs.Str.Parse.{digits_value}
use Rattle.vfa_ir.specs.declared.operations.Fun1.{Fun1}
use Rattle.vfa_ir.specs.declared.syntax.Literal.{Literal}
use Rattle.vfa_ir.specs.declared.syntax.Written.{Written}
use Rattle.vfa_ir.specs.declared.syntax.Attachment.{Attachment}
use Rattle.vfa_ir.specs.declared.syntax.Parameter.{Parameter}
use Rattle.vfa_ir.specs.declared.syntax.PhiNode.{PhiNode}
use Rattle.vfa_ir.specs.declared.syntax.CallWords.{CallWords}
use Rattle.vfa_ir.specs.declared.syntax.Argument.{Argument}
use Rattle.vfa_ir.specs.declared.syntax.Operation.{Operation}
use Rattle.vfa_ir.specs.declared.syntax.Instruction.{Instruction}
use Rattle.vfa_ir.specs.declared.syntax.TerminatorKind.{TerminatorKind}
use Rattle.vfa_ir.specs.declared.syntax.Terminator.{Terminator}
use Rattle.vfa_ir.specs.declared.syntax.BasicBlock.{BasicBlock}
use Rattle.vfa_ir.specs.Lexemes.{Lexeme, metadata, mark, other}
use Rattle.vfa_ir.specs.Sentence.{Sentence}
use Rattle.vfa_ir.specs.Words.{is_among, is_digits, is_number, is_intrinsic, lead_words, parameter_words, call_words, flags_of, cast_flags_of}

-- "Integer Type": the widths of the profile
pub record IsWidth (width : ℕ) : Type 0 where
  pub least : 1 ≤ width
  pub most : width ≤ 128

-- the whole number that digits stand for, perhaps after a `-`
abbrev pub number_value : List ℕ → ℤ
number_value [] = pos 0
number_value (c ∷ digits) = if c == byte "-" then neg_ℤ (pos (digits_value 10 digits)) else pos (digits_value 10 (c ∷ digits))

-- "Simple Constants": a number from -2^(width - 1) to 2^width - 1, at width 1 `true` and `false` too
pub record IsInRange (width : ℕ) (z : ℤ) : Type 0 where
  pub least : neg_ℤ (pos (2 ^ (width - 1))) ≤ℤ z
  pub most : z <ℤ pos (2 ^ width)

pub record IsNumberOf (width : ℕ) (text : List ℕ) : Type 0 where
  pub digits : IsTrue (is_number text)
  pub in_range : IsInRange width (number_value text)

abbrev pub FitsLiteral : ℕ → Literal → Type 0
FitsLiteral width (Literal.Boolean _) = width ≡ 1
FitsLiteral width (Literal.Number text) = IsNumberOf width text

abbrev pub FitsValue : ℕ → Written → Type 0
FitsValue width (Written.Local _) = ⊤
FitsValue width (Written.Literal l) = FitsLiteral width l
FitsValue width Written.Poison = ⊤

-- "Metadata": a word, then digits
pub record FitsAttachment (a : Attachment) : Type 0 where
  pub kind : IsTrue (not (is_number a.kind))
  pub node : IsTrue (is_digits a.node)

-- "phi Instruction": at least one operand
pub record FitsPhi (p : PhiNode) : Type 0 where
  pub width : IsWidth p.width
  pub some : p.entries ≡ [] → ⊥
  pub entries : All (λ i. FitsValue p.width i.value) p.entries
  pub attached : All FitsAttachment p.attached

-- "call Instruction"
pub record FitsCall (words : CallWords) : Type 0 where
  pub marker : IfSome words.marker (λ w. IsTrue (is_among w (codes "tail" ∷ codes "notail" ∷ [])))

-- attributes of an argument or of the result
abbrev pub AreWords : List (List ℕ) → List (List ℕ) → Type 0
AreWords allowed words = All (λ w. IsTrue (is_among w allowed)) words

-- the result of a call: a number of a width, or `void`
abbrev pub FitsResultType : Option ℕ → Type 0
FitsResultType (Some width) = IsWidth width
FitsResultType None = ⊤

pub record FitsArgument (a : Argument) : Type 0 where
  pub width : IsWidth a.width
  pub words : AreWords parameter_words a.words
  pub value : FitsValue a.width a.value

-- a call of a function that is no intrinsic: `llvm.` begins the names of intrinsics alone
pub record FitsOtherCall (words : List (List ℕ)) (width : Option ℕ) (name : List ℕ) (arguments : List Argument) : Type 0 where
  pub attributes : AreWords call_words words
  pub result : FitsResultType width
  pub callee : IsTrue (not (is_intrinsic name))
  pub passed : All FitsArgument arguments

-- each flag is one that the operation may have, and stands once
pub record FitsFlags (allowed flags : List (List ℕ)) : Type 0 where
  pub known : AreWords allowed flags
  pub once : IsDistinct bytes_eq flags

-- the literal after the number of `abs`, `ctlz` and `cttz`; `ctpop` has none
abbrev pub FitsStrict : Fun1 → Option Literal → Type 0
FitsStrict Fun1.Ctpop None = ⊤
FitsStrict Fun1.Ctpop (Some _) = ⊥
FitsStrict _ None = ⊥
FitsStrict _ (Some l) = FitsLiteral 1 l

-- two operands of one type
pub record FitsPair (width : ℕ) (a b : Written) : Type 0 where
  pub of_width : IsWidth width
  pub first : FitsValue width a
  pub second : FitsValue width b

abbrev pub FitsOperation : Operation → Type 0
FitsOperation (Operation.Binary bin flags width a b) = FitsFlags (flags_of bin) flags × FitsPair width a b
FitsOperation (Operation.Compare samesign pred width a b) = FitsPair width a b
FitsOperation (Operation.Select c width a b) = FitsValue 1 c × FitsPair width a b
FitsOperation (Operation.Convert cast flags from a to) =
    FitsFlags (cast_flags_of cast) flags × IsWidth from × FitsValue from a × IsWidth to
FitsOperation (Operation.Freeze width a) = IsWidth width × FitsValue width a
FitsOperation (Operation.Extract width pair index) = IsWidth width × (index ≤ 1)
FitsOperation (Operation.Two words fun width a b) = FitsCall words × FitsPair width a b
FitsOperation (Operation.One words fun width a strict) = FitsCall words × IsWidth width × FitsValue width a × FitsStrict fun strict
FitsOperation (Operation.Over words over width a b) = FitsCall words × FitsPair width a b
FitsOperation (Operation.Assume words c) = FitsCall words × FitsValue 1 c
FitsOperation (Operation.Call words attributes width name arguments) =
    FitsCall words × FitsOtherCall attributes width name arguments

-- all but `llvm.assume` and calls of `void` have a result
abbrev pub FitsResult : Operation → Option (List ℕ) → Type 0
FitsResult (Operation.Assume _ _) None = ⊤
FitsResult (Operation.Assume _ _) (Some _) = ⊥
FitsResult (Operation.Call _ _ None _ _) None = ⊤
FitsResult (Operation.Call _ _ None _ _) (Some _) = ⊥
FitsResult _ None = ⊥
FitsResult _ (Some _) = ⊤

pub record FitsInstruction (i : Instruction) : Type 0 where
  pub result : FitsResult i.operation i.result
  pub operation : FitsOperation i.operation
  pub attached : All FitsAttachment i.attached

-- "Terminator Instructions": the cases of a switch have its type
abbrev pub FitsTerminatorKind : TerminatorKind → Type 0
FitsTerminatorKind (TerminatorKind.Return width a) = IsWidth width × FitsValue width a
FitsTerminatorKind (TerminatorKind.Always to) = ⊤
FitsTerminatorKind (TerminatorKind.Condition c taken fallen) = FitsValue 1 c
FitsTerminatorKind (TerminatorKind.Switch width on default cases) =
    IsWidth width × FitsValue width on × All (λ c. FitsLiteral width c.number) cases
FitsTerminatorKind TerminatorKind.Unreachable = ⊤

pub record FitsTerminator (t : Terminator) : Type 0 where
  pub kind : FitsTerminatorKind t.kind
  pub attached : All FitsAttachment t.attached

pub record FitsBlock (b : BasicBlock) : Type 0 where
  pub phis : All FitsPhi b.phis
  pub instructions : All FitsInstruction b.instructions
  pub terminator : FitsTerminator b.terminator

-- "Functions": there is at least one block, and all but the first have a label
abbrev pub FitsBlocks : List BasicBlock → Type 0
FitsBlocks [] = ⊥
FitsBlocks (entry ∷ blocks) = All FitsBlock (entry ∷ blocks) × All (λ b. IsSome b.label) blocks

pub record FitsParameter (p : Parameter) : Type 0 where
  pub width : IsWidth p.width
  pub words : AreWords parameter_words p.words

-- what may stand between the parameters and the body: anything but `!`, braces, metadata and unknown bytes
abbrev pub may_follow_parameters : Lexeme → Bool
may_follow_parameters (metadata _) = false
may_follow_parameters (mark c) = not (c == byte "!" || c == byte "{" || c == byte "}")
may_follow_parameters other = false
may_follow_parameters _ = true

-- each `)` has its `(` before it, and none is left open; n are open before these tokens
abbrev pub is_balanced : ℕ → List Lexeme → Bool
is_balanced n [] = n == 0
is_balanced n (mark c ∷ rest) =
    if c == byte "(" then is_balanced (n + 1) rest else if c == byte ")" then nat_lt 0 n && is_balanced (n - 1) rest else is_balanced n rest
is_balanced n (_ ∷ rest) = is_balanced n rest

pub record FitsSentence (s : Sentence) : Type 0 where
  pub lead : AreWords lead_words s.lead
  pub width : IsWidth s.width
  pub parameters : All FitsParameter s.parameters
  pub tail : All (λ t. IsTrue (may_follow_parameters t)) s.tail
  pub balanced : IsTrue (is_balanced 0 s.tail)
  pub blocks : FitsBlocks s.blocks
