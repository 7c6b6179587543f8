-- The text of a module: what is written for each of its pieces, the notes on the functions that stay as they are, and what a job makes
-- of it.
use Rattle.std.specs.Prelude.{◌≡◌, ⊤, ℕ, Bool, true, List, [], ◌∷◌, ◌++◌, length, flat_map, filter_map, if◌then◌else◌, Option, Some, None, Ok, bytes_eq, codes, decimal, slice_range}
use Rattle.vfa_ir.specs.declared.functions.Function.{Function}
use Rattle.vfa_ir.specs.declared.reasons.Kind.{Kind}
use Rattle.vfa_ir.specs.declared.reasons.Outside.{Outside}
use Rattle.vfa_ir.specs.declared.tokens.Token.{Token}
use Rattle.vfa_ir.specs.declared.tokens.TokenKind.{TokenKind}
use Rattle.vfa_ir.specs.DefinedNames.{first_repeated}
use Rattle.vfa_ir.specs.Names.{token_name}
use Rattle.vfa_ir.specs.Tokens.{tokens_of}
use Rattle.vfa_module.specs.declared.items.Item.{Item}
use Rattle.vfa_module.specs.Split.{split_of}
use Rattle.vfa_print.specs.Layout.{name_text, line_feed}
use Rattle.vfa_report.specs.Report.{IsReport}
use Rattle.vfa_opt.specs.declared.jobs.Job.{Job}
use Rattle.vfa_opt.specs.declared.questions.Question.{Question}
use Rattle.vfa_opt.specs.declared.work.Carried.{Carried}
use Rattle.vfa_opt.specs.declared.writings.Writing.{Writing}
use Rattle.vfa_opt.specs.Acceptance.{IsInside, StaysFor}
use Rattle.vfa_opt.specs.Asked.{IsAnswerText}
use Rattle.vfa_opt.specs.Generated.{generated_text, summary_text}
use Rattle.vfa_opt.specs.Optimised.{IsOptimisedText}

-- A piece of a module: bytes between defines, a define that is a function of the profile, or a define that stays as it
-- is, and why.
pub data Piece : Type 0 where
  copied : List ℕ → Piece
  accepted : Function → Piece
  carried : List ℕ → Outside → Piece

-- the piece that a define of this text is, which begins on the line
abbrev pub IsDefinePiece : ℕ → List ℕ → Piece → Type 0
IsDefinePiece line text (copied _) = ⊥
IsDefinePiece line text (accepted f) = IsInside text f
IsDefinePiece line text (carried bytes reason) = (bytes ≡ text) × StaysFor line text reason

abbrev pub IsPiece : List ℕ → Item → Piece → Type 0
IsPiece input (Item.Lines start end) piece = piece ≡ copied (slice_range input start end)
IsPiece input (Item.Define start end line) piece = IsDefinePiece line (slice_range input start end) piece

abbrev pub ArePieces : List ℕ → List Item → List Piece → Type 0
ArePieces input [] [] = ⊤
ArePieces input (item ∷ items) (piece ∷ pieces) = IsPiece input item piece × ArePieces input items pieces
ArePieces input _ _ = ⊥

-- what is written for an accepted function: the text of the optimised function, the report by its table, or nothing
abbrev pub IsFunctionText : Writing → Function → List ℕ → Type 0
IsFunctionText Writing.Optimised f text = IsOptimisedText f text
IsFunctionText Writing.Reports f text = IsReport f text
IsFunctionText Writing.Nothing f text = text ≡ []

-- what is kept of all other bytes: beside optimised functions all of them, and else none
abbrev pub kept_bytes : Writing → List ℕ → List ℕ
kept_bytes Writing.Optimised bytes = bytes
kept_bytes Writing.Reports bytes = []
kept_bytes Writing.Nothing bytes = []

-- what is written for a piece
abbrev pub IsPieceText : Writing → Piece → List ℕ → Type 0
IsPieceText writing (copied bytes) text = text ≡ kept_bytes writing bytes
IsPieceText writing (accepted f) text = IsFunctionText writing f text
IsPieceText writing (carried bytes _) text = text ≡ kept_bytes writing bytes

abbrev pub AreTexts : Writing → List Piece → List ℕ → Type 0
AreTexts writing [] text = text ≡ []
AreTexts writing (piece ∷ pieces) text =
    (first : List ℕ) × (rest : List ℕ) × IsPieceText writing piece first × AreTexts writing pieces rest × (text ≡ first ++ rest)

-- Functions

-- the name of a define: the first global name among its tokens
abbrev pub first_global : List Token → Option Token
first_global [] = None
first_global (t ∷ rest) = elim t.kind [ TokenKind.Global ↦ Some t | _ ↦ first_global rest ]

abbrev pub define_name : List ℕ → List ℕ
define_name text = elim (first_global (tokens_of text)) [ None ↦ [] | Some t ↦ token_name text t ]

-- the name of an accepted function
abbrev pub piece_name : Piece → Option (List ℕ)
piece_name (copied _) = None
piece_name (accepted f) = Some f.name
piece_name (carried _ _) = None

abbrev pub function_names : List Piece → List (List ℕ)
function_names = filter_map piece_name

-- the first accepted function of a name
abbrev pub function_of : List ℕ → Piece → Option Function
function_of name (copied _) = None
function_of name (accepted f) = if bytes_eq name f.name then Some f else None
function_of name (carried _ _) = None

abbrev pub function_named : List ℕ → List Piece → Option Function
function_named name [] = None
function_named name (piece ∷ pieces) = elim (function_of name piece) [ None ↦ function_named name pieces | Some f ↦ Some f ]

-- a function that stays as it is, and why
abbrev pub piece_carried : Piece → Option Carried
piece_carried (copied _) = None
piece_carried (accepted _) = None
piece_carried (carried text reason) = Some (record { name = define_name text; reason = reason })

abbrev pub carried_functions : List Piece → List Carried
carried_functions = filter_map piece_carried

-- Notes

abbrev pub kind_text : Kind → List ℕ
kind_text Kind.Names = codes "names"
kind_text Kind.Blocks = codes "blocks"
kind_text Kind.Cases = codes "cases"

abbrev pub local_text : List ℕ → List ℕ
local_text name = codes "%" ++ name_text name

abbrev pub reason_text : Outside → List ℕ
reason_text (Outside.Shape line) = codes "Shape at line " ++ decimal line
reason_text (Outside.TooMany kind) = codes "TooMany " ++ kind_text kind
reason_text (Outside.Duplicate name) = codes "Duplicate " ++ local_text name
reason_text (Outside.Unknown name) = codes "Unknown " ++ local_text name
reason_text (Outside.Types line) = codes "Type at line " ++ decimal line
reason_text (Outside.Phi block) = codes "Phi in " ++ local_text block
reason_text (Outside.Undefined name block) = codes "Undefined " ++ (local_text name ++ (codes " at " ++ local_text block))
reason_text Outside.Memory = []

-- a function of this name and a reason
abbrev pub named_reason : List ℕ → List ℕ → Outside → List ℕ
named_reason name between reason = codes "@" ++ (name_text name ++ (between ++ (reason_text reason ++ line_feed)))

abbrev pub note_text : Carried → List ℕ
note_text function = codes "note: " ++ named_reason function.name (codes " carried: ") function.reason

abbrev pub piece_note : Piece → List ℕ
piece_note (copied _) = []
piece_note (accepted _) = []
piece_note (carried text reason) = note_text (record { name = define_name text; reason = reason })

abbrev pub notes_of : List Piece → List ℕ
notes_of = flat_map piece_note

-- Modules

-- the pieces of a text that can be split
pub record Splits (input : List ℕ) (pieces : List Piece) : Type 0 where
  pub items : List Item
  pub split : split_of input ≡ Ok items
  pub are : ArePieces input items pieces

-- The pieces of a module: no two of its accepted functions have one name, and where it is to be strict no function stays
-- as it is.
pub record IsModule (strict : Bool) (input : List ℕ) (pieces : List Piece) : Type 0 where
  pub splits : Splits input pieces
  pub distinct : first_repeated [] (function_names pieces) ≡ None
  pub whole : strict ≡ true → carried_functions pieces ≡ []

-- Jobs

-- what a job reads: for a run on itself the generated text
abbrev pub input_of : Job → List ℕ → List ℕ
input_of Job.Opt bytes = bytes
input_of Job.Facts bytes = bytes
input_of (Job.Ask question) bytes = bytes
input_of (Job.SelfRun seed) bytes = generated_text seed

-- the text is the answer to the question, which is about the first accepted function of its name
pub record IsAskedText (question : Question) (pieces : List Piece) (text : List ℕ) : Type 0 where
  pub function : Function
  pub named : function_named question.function pieces ≡ Some function
  pub answers : IsAnswerText function question text

-- the text says how long the input and its optimised text are, and how many functions stay as they are
pub record IsSummary (seed : ℕ) (input : List ℕ) (pieces : List Piece) (text : List ℕ) : Type 0 where
  pub printed : List ℕ
  pub texts : AreTexts Writing.Optimised pieces printed
  pub is : text ≡ summary_text seed (length input) (length printed) (length (carried_functions pieces))

-- what a job makes of the pieces of its input
abbrev pub IsJobText : Job → List ℕ → List Piece → List ℕ → Type 0
IsJobText Job.Opt input pieces text = AreTexts Writing.Optimised pieces text
IsJobText Job.Facts input pieces text = AreTexts Writing.Reports pieces text
IsJobText (Job.Ask question) input pieces text = IsAskedText question pieces text
IsJobText (Job.SelfRun seed) input pieces text = IsSummary seed input pieces text

-- the job's text of a module, and the notes on it
pub record IsModuleText (job : Job) (strict : Bool) (input text notes : List ℕ) : Type 0 where
  pub pieces : List Piece
  pub «module» : IsModule strict input pieces
  pub texts : IsJobText job input pieces text
  pub notes_are : notes ≡ notes_of pieces
