-- Why a module is refused, and what is said of it. Of several reasons the first in this order is given.
use Rattle.std.specs.Prelude.{◌≡◌, ◌⊎◌, ⊤, ℕ, Bool, true, List, [], ◌∷◌, ◌++◌, codes, decimal, Option, Some, None, IsSomeAnd, Err}
use Rattle.vfa_ir.specs.DefinedNames.{first_repeated}
use Rattle.vfa_ir.specs.declared.functions.Function.{Function}
use Rattle.vfa_ir.specs.declared.reasons.Outside.{Outside}
use Rattle.vfa_module.specs.declared.items.SplitFault.{SplitFault}
use Rattle.vfa_module.specs.Split.{split_of}
use Rattle.vfa_print.specs.Layout.{name_text, line_feed}
use Rattle.vfa_opt.specs.declared.jobs.Job.{Job}
use Rattle.vfa_opt.specs.declared.questions.Question.{Question}
use Rattle.vfa_opt.specs.declared.refusals.Refused.{Refused}
use Rattle.vfa_opt.specs.declared.work.Carried.{Carried}
use Rattle.vfa_opt.specs.Asked.{CanAnswer, IsQuestionRefusal}
use Rattle.vfa_opt.specs.Module.{Piece, Splits, IsModule, function_names, function_named, carried_functions, local_text, named_reason}

-- the first function name that an accepted function has a second time
pub record RepeatsName (input name : List ℕ) : Type 0 where
  pub pieces : List Piece
  pub splits : Splits input pieces
  pub repeated : first_repeated [] (function_names pieces) ≡ Some name

-- the first function that stays as it is, where no two accepted functions have one name
pub record Carries (input name : List ℕ) (reason : Outside) : Type 0 where
  pub pieces : List Piece
  pub splits : Splits input pieces
  pub distinct : first_repeated [] (function_names pieces) ≡ None
  pub later : List Carried
  pub first : carried_functions pieces ≡ record { name = name; reason = reason } ∷ later

-- The input is no module, for this reason. That memory ran out is no reason of an input.
abbrev pub IsModuleRefusal : Bool → List ℕ → Refused → Type 0
IsModuleRefusal strict input (Refused.Unclosed start) = split_of input ≡ Err (SplitFault.Unclosed start)
IsModuleRefusal strict input (Refused.BadLine line) = split_of input ≡ Err (SplitFault.BadLine line)
IsModuleRefusal strict input (Refused.DuplicateFunction name) = RepeatsName input name
IsModuleRefusal strict input (Refused.Strict name reason) = (strict ≡ true) × Carries input name reason
IsModuleRefusal strict input _ = ⊥

-- a question has no answer, where this is the first accepted function of its name, if there is one
abbrev pub IsUnansweredBy : Question → Option Function → Refused → Type 0
IsUnansweredBy question None (Refused.NoFunction name) = name ≡ question.function
IsUnansweredBy question None _ = ⊥
IsUnansweredBy question (Some f) refused = IsQuestionRefusal f question refused

-- the job is a question about a module, and it has no answer for this reason
pub record IsUnanswered (job : Job) (strict : Bool) (input : List ℕ) (refused : Refused) : Type 0 where
  pub question : Question
  pub asks : job ≡ Job.Ask question
  pub pieces : List Piece
  pub «module» : IsModule strict input pieces
  pub why : IsUnansweredBy question (function_named question.function pieces) refused

-- the job on the input is refused for this reason
abbrev pub IsRefusal : Job → Bool → List ℕ → Refused → Type 0
IsRefusal job strict input refused = IsModuleRefusal strict input refused ⊎ IsUnanswered job strict input refused

-- the job can be done on a module of these pieces: a question about it has an answer
abbrev pub IsAnswerable : Job → List Piece → Type 0
IsAnswerable (Job.Ask question) pieces = IsSomeAnd (function_named question.function pieces) (λ f. CanAnswer f question)
IsAnswerable _ pieces = ⊤

-- the message of a refusal
abbrev pub refusal_text : Refused → List ℕ
refusal_text (Refused.Unclosed start) = codes "refused: Unclosed at byte " ++ (decimal start ++ line_feed)
refusal_text (Refused.BadLine line) = codes "refused: BadLine at line " ++ (decimal line ++ line_feed)
refusal_text (Refused.DuplicateFunction name) = codes "refused: DuplicateFunction @" ++ (name_text name ++ line_feed)
refusal_text (Refused.Strict name reason) = codes "refused: Strict " ++ named_reason name (codes ": ") reason
refusal_text (Refused.NoFunction name) = codes "refused: NoFunction @" ++ (name_text name ++ line_feed)
refusal_text (Refused.NoValue name) = codes "refused: NoValue " ++ (local_text name ++ line_feed)
refusal_text (Refused.NoBlock name) = codes "refused: NoBlock " ++ (local_text name ++ line_feed)
refusal_text (Refused.NotDefined value block) =
    codes "refused: NotDefined " ++ (local_text value ++ (codes " at " ++ (local_text block ++ line_feed)))
refusal_text Refused.Memory = []
