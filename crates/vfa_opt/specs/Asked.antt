-- Questions about a function: the value and the place that they name, what is written for the answer, and why there is none (LLVM's
-- LazyValueInfo: getConstantRange at the entry of a block, getConstantRangeOnEdge between two blocks).
--
-- Of
--   define i8 @half(i8 %x) {
--   entry:
--     %c = icmp ult i8 %x, 5
--     br i1 %c, label %a, label %b
--   a:
--     %y = add i8 %x, 1
--     br label %b
--   b:
--     ret i8 %x
--   }
-- the answer for x at a is `%x i8 00000??? [0,5) never-poison`, and that for y at b from a `%y i8 00000??? [1,6) never-poison`. For y at
-- b there is none, since the walk entry, b misses it.
use Rattle.std.specs.Prelude.{◌≡◌, ◌⊎◌, ℕ, List, [], ◌++◌, Option, Some, None, position, bytes_eq, codes}
use Rattle.vfa_ir.specs.declared.functions.Function.{Function}
use Rattle.vfa_ir.specs.Shown.{shown_value_name}
use Rattle.vfa_ir.specs.Walks.{IsEdge}
use Rattle.vfa_print.specs.Layout.{line_feed}
use Rattle.vfa_print.specs.Trees.{shown_scope}
use Rattle.vfa_xfer.specs.AnyFacts.{HoldsOf, IsAnyFact, fact_type}
use Rattle.vfa_xfer.specs.Transfers.{fact_answers}
use Rattle.vfa_xfer.specs.declared.any_fact.AnyFact.{AnyFact}
use Rattle.vfa_report.specs.FactLines.{fact_line}
use Rattle.vfa_lazy.specs.declared.questions.Answer.{Answer}
use Rattle.vfa_lazy.specs.declared.questions.Place.{Place}
use Rattle.vfa_lazy.specs.Questions.{IsAnswer, IsMissed, IsTrueOfRuns, IsTypedAnswer, place_of}
use Rattle.vfa_opt.specs.declared.questions.Question.{Question}
use Rattle.vfa_opt.specs.declared.refusals.Refused.{Refused}

-- What a question names

-- the first place of a name in a list of names
abbrev pub place_in : List ℕ → List (List ℕ) → Option ℕ
place_in name = position (bytes_eq name)

-- the value, and the block, that are shown by a name
abbrev pub value_named : Function → List ℕ → Option ℕ
value_named f name = place_in name (shown_scope f).values

abbrev pub block_named : Function → List ℕ → Option ℕ
block_named f name = place_in name (shown_scope f).blocks

-- the question names two blocks, and an edge leads from the first to the second
pub record NamesEdge (f : Function) (q : Question) (p b : ℕ) : Type 0 where
  pub from : List ℕ
  pub given : q.from ≡ Some from
  pub first : block_named f from ≡ Some p
  pub second : block_named f q.block ≡ Some b
  pub edge : IsEdge f p b

-- the place that a question is about: the entry of its block, or before its phis, where it is entered from the other
abbrev pub IsPlaceNamed : Function → Question → Place → Type 0
IsPlaceNamed f q (Place.Entry b) = (q.from ≡ None) × (block_named f q.block ≡ Some b.0)
IsPlaceNamed f q (Place.Pair p b) = NamesEdge f q p.0 b.0

-- the question is about this value at this place
pub record Concerns (f : Function) (q : Question) (v : ℕ) (place : Place) : Type 0 where
  pub value : value_named f q.value ≡ Some v
  pub names : IsPlaceNamed f q place

-- Answers

-- what is written for an answer about the value of this name: that no run comes to the place, or its fact line or lines
abbrev pub answer_text : List ℕ → Answer AnyFact → List ℕ
answer_text name Answer.NotDefined = []
answer_text name Answer.NeverReached = codes "never-reached" ++ line_feed
answer_text name (Answer.Fact d) = fact_line name d.parts ++ line_feed

-- The text is the answer: the value and the place are there, the value is defined on every walk to the place, and this is what the
-- table of the function says of it there.
pub record IsAnswerText (f : Function) (q : Question) (text : List ℕ) : Type 0 where
  pub v : ℕ
  pub place : Place
  pub concerns : Concerns f q v place
  pub answer : Answer AnyFact
  pub is_answer : IsAnswer fact_answers f place v answer
  pub told : answer ≡ Answer.NotDefined → ⊥
  pub is : text ≡ answer_text (shown_value_name f v) answer

-- the question has an answer
pub record CanAnswer (f : Function) (q : Question) : Type 0 where
  pub v : ℕ
  pub place : Place
  pub concerns : Concerns f q v place
  pub defined : IsMissed f place v → ⊥

-- What an answer says is so: whenever a run comes to the place, the fact of its line holds of the value, and no run comes to a place
-- that is never reached. The fact is of the value's type.
pub record IsTrueAnswer (f : Function) (q : Question) (text : List ℕ) : Type 0 where
  pub v : ℕ
  pub place : Place
  pub concerns : Concerns f q v place
  pub answer : Answer AnyFact
  pub is : text ≡ answer_text (shown_value_name f v) answer
  pub holds : IsTrueOfRuns HoldsOf f (place_of place) v answer
  pub typed : IsTypedAnswer fact_type IsAnyFact f v answer

-- Why a question about a function has no answer

pub record HasValue (f : Function) (q : Question) : Type 0 where
  pub v : ℕ
  pub value : value_named f q.value ≡ Some v

-- there is no block of the question's name
pub record HasNoBlock (f : Function) (q : Question) (name : List ℕ) : Type 0 where
  pub is : name ≡ q.block
  pub none : block_named f name ≡ None

-- there is one, and no block of the other name has an edge to it
pub record HasNoEdge (f : Function) (q : Question) (name : List ℕ) : Type 0 where
  pub b : ℕ
  pub block : block_named f q.block ≡ Some b
  pub from : q.from ≡ Some name
  pub none : (p : ℕ) → block_named f name ≡ Some p → IsEdge f p b → ⊥

abbrev pub HasNoPlace : Function → Question → List ℕ → Type 0
HasNoPlace f q name = HasNoBlock f q name ⊎ HasNoEdge f q name

-- some walk comes to the place without a definition of the value
pub record IsNotDefined (f : Function) (q : Question) (value block : List ℕ) : Type 0 where
  pub v : ℕ
  pub place : Place
  pub concerns : Concerns f q v place
  pub missed : IsMissed f place v
  pub value_is : value ≡ q.value
  pub block_is : block ≡ q.block

-- of several reasons the first in this order
abbrev pub IsQuestionRefusal : Function → Question → Refused → Type 0
IsQuestionRefusal f q (Refused.NoValue name) = (name ≡ q.value) × (value_named f name ≡ None)
IsQuestionRefusal f q (Refused.NoBlock name) = HasValue f q × HasNoPlace f q name
IsQuestionRefusal f q (Refused.NotDefined value block) = IsNotDefined f q value block
IsQuestionRefusal f q _ = ⊥
