-- The answer to a question about a module, and why it is refused.
use Rattle.std.proofs.Common.{◌≡◌, ◌∙◌, ◌⊎◌, inl, inr, ℕ, Bool, IsSomeAnd, Option, Some, None, Result, Ok, Err, List, refl, sym, subst}
use Rattle.std.specs.Prelude.{IsErrAnd, IfErr}
use Rattle.vfa_ir.specs.declared.functions.Function.{Function}
use Rattle.vfa_module.specs.declared.items.Item.{Item}
use Rattle.vfa_opt.specs.declared.jobs.Job.{Job}
use Rattle.vfa_opt.specs.declared.portions.Portion.{Portion}
use Rattle.vfa_opt.specs.declared.questions.Question.{Question}
use Rattle.vfa_opt.specs.declared.refusals.Refused.{Refused}
use Rattle.vfa_opt.specs.declared.writings.Writing.{Writing}
use Rattle.vfa_opt.specs.Asked.{HasNoPlace, HasValue, IsAnswerText, IsQuestionRefusal, IsTrueAnswer}
use Rattle.vfa_opt.specs.Module.{Piece, IsAskedText, IsModule, IsModuleText, function_named}
use Rattle.vfa_opt.specs.Refusals.{IsModuleRefusal, IsRefusal}
use Rattle.vfa_opt.specs.Sound.{IsSoundAnswer}
use Rattle.vfa_opt.specs.Works.{IsItemOf, IsWritten, item_named}

-- an error that is handed on
pub handed_on : {A : Type 0} (P : Refused → Type 0) (e : Refused) (r : Result A Refused) → IsErrAnd r (λ y. y ≡ e) → P e → IfErr r P
handed_on P e (Ok x) h p = absurd h
handed_on P e (Err y) h p = subst P (sym h) p

-- why an input is no module is why a job on it is refused
pub refused_by : (job : Job) (strict : Bool) (input : List ℕ) (e : Refused) → (e ≡ Refused.Memory) ⊎ IsModuleRefusal strict input e →
    (e ≡ Refused.Memory) ⊎ IsRefusal job strict input e
refused_by job strict input e (inl memory) = inl memory
refused_by job strict input e (inr is) = inr (inl is)

-- where the value is there, that there is no place is a reason
pub place_refused : (f : Function) (q : Question) → HasValue f q → (e : Refused) →
    (e ≡ Refused.Memory) ⊎ ((name : List ℕ) × (e ≡ Refused.NoBlock name) × HasNoPlace f q name) → (e ≡ Refused.Memory) ⊎ IsQuestionRefusal f q e
place_refused f q value e (inl memory) = inl memory
place_refused f q value e (inr r) = inr (subst (IsQuestionRefusal f q) (sym r.1) (value, r.2))

-- ---- answers

module _ (q : Question) (strict : Bool) (input : List ℕ) (whole : Portion) (w : IsWritten Writing.Nothing strict input whole)
    (item : Option Item) (item_is : item ≡ item_named q.function whole.accepted.items) where
  is_item : IsItemOf input item (function_named q.function w.pieces)
  is_item = subst (λ o. IsItemOf input o (function_named q.function w.pieces)) (sym item_is) (w.named q.function)

  asked_by : (out : List ℕ) (o : Option Function) → function_named q.function w.pieces ≡ o → IsSomeAnd o (λ f. IsAnswerText f q out) → IsAskedText q w.pieces out
  asked_by out None named is = absurd is
  asked_by out (Some f) named is = record { function = f; named = named; answers = is }

  pub out_text : (out notes : List ℕ) → ((o : Option Function) → IsItemOf input item o → IsSomeAnd o (λ f. IsAnswerText f q out)) →
      notes ≡ whole.notes.items → IsModuleText (Job.Ask q) strict input out notes
  out_text out notes has same = record {
    pieces = w.pieces;
    «module» = w.«module»;
    texts = asked_by out (function_named q.function w.pieces) refl (has (function_named q.function w.pieces) is_item);
    notes_are = same ∙ w.notes_are;
  }

  pub out_sound : ((f : Function) → IsItemOf input item (Some f) → (text : List ℕ) → IsAnswerText f q text → IsTrueAnswer f q text) →
      (ps : List Piece) × IsModule strict input ps × IsSoundAnswer q ps
  out_sound sound = (w.pieces, w.«module», λ f named. sound f (subst (IsItemOf input item) named is_item))
