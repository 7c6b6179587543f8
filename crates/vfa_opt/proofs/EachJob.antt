-- Each job on an input can be done, or there is one reason to refuse it; and it has at most one text.
use Rattle.std.proofs.Common.{◌≡◌, ◌⊎◌, inl, inr, ℕ, Bool, IsSomeAnd, Option, Some, None, List, length, refl, sym, ap, subst, ◌∙◌}
use Rattle.std.proofs.lemmas.Option.{same_Some}
use Rattle.vfa_ir.specs.declared.functions.Function.{Function}
use Rattle.vfa_opt.specs.declared.jobs.Job.{Job}
use Rattle.vfa_opt.specs.declared.questions.Question.{Question}
use Rattle.vfa_opt.specs.declared.refusals.Refused.{Refused}
use Rattle.vfa_opt.specs.declared.writings.Writing.{Writing}
use Rattle.vfa_opt.specs.Asked.{CanAnswer, IsAnswerText}
use Rattle.vfa_opt.specs.Generated.{summary_text}
use Rattle.vfa_opt.specs.Module.{Piece, Splits, IsModule, IsModuleText, IsAskedText, IsJobText, carried_functions, function_named, notes_of}
use Rattle.vfa_opt.specs.Refusals.{IsAnswerable, IsModuleRefusal, IsRefusal, IsUnanswered, IsUnansweredBy}
use Rattle.vfa_opt.proofs.Answerable.{OneAnswer, answer_has_no_reason, answer_or_reason, one_answer_text, one_reason, text_answers}
use Rattle.vfa_opt.proofs.EachInput.{OneList, OneOptimised, OneReport, WasChecked, module_not_refused, one_refused, one_written}

-- ---- each input

module _ (strict : Bool) (input : List ℕ) where
  abbrev Answered : Job → Type 0
  Answered job = ((pieces : List Piece) × IsModule strict input pieces × IsAnswerable job pieces) ⊎ ((reason : Refused) × IsRefusal job strict input reason)

  module _ (q : Question) (pieces : List Piece) (m : IsModule strict input pieces) where
    unanswered : (reason : Refused) (o : Option Function) → function_named q.function pieces ≡ o → IsUnansweredBy q o reason → Answered (Job.Ask q)
    unanswered reason o named why =
        inr (reason, inr (record { question = q; asks = refl; pieces = pieces; «module» = m; why = subst (λ x. IsUnansweredBy q x reason) (sym named) why }))

    by_function : (o : Option Function) → function_named q.function pieces ≡ o → Answered (Job.Ask q)
    by_function None named = unanswered (Refused.NoFunction q.function) None named refl
    by_function (Some f) named = elim (answer_or_reason f q) [
      | inl can ↦ inl (pieces, m, subst (λ o. IsSomeAnd o (λ g. CanAnswer g q)) (sym named) can)
      | inr r ↦ unanswered r.0 (Some f) named r.1
    ]

  on_module : (job : Job) (pieces : List Piece) → IsModule strict input pieces → Answered job
  on_module Job.Opt pieces m = inl (pieces, m, tt)
  on_module Job.Facts pieces m = inl (pieces, m, tt)
  on_module (Job.Ask q) pieces m = by_function q pieces m (function_named q.function pieces) refl
  on_module (Job.SelfRun seed) pieces m = inl (pieces, m, tt)

  pub done_or_refused : (job : Job) → ((pieces : List Piece) × IsModule strict input pieces) ⊎ ((reason : Refused) × IsModuleRefusal strict input reason) →
      Answered job
  done_or_refused job (inl m) = on_module job m.0 m.1
  done_or_refused job (inr r) = inr (r.0, inl r.1)

-- ---- at most one reason

same_question : (q p : Question) → Job.Ask q ≡ Job.Ask p → q ≡ p
same_question q p e = cc

one_unanswered_by : (q : Question) (o : Option Function) (a b : Refused) → IsUnansweredBy q o a → IsUnansweredBy q o b → a ≡ b
one_unanswered_by q (Some f) a b h k = one_reason f q a b h k
one_unanswered_by q None (Refused.NoFunction m) (Refused.NoFunction n) h k = ap Refused.NoFunction (h ∙ sym k)
one_unanswered_by q None (Refused.NoFunction m) (Refused.Unclosed n) h k = absurd k
one_unanswered_by q None (Refused.NoFunction m) (Refused.BadLine n) h k = absurd k
one_unanswered_by q None (Refused.NoFunction m) (Refused.DuplicateFunction n) h k = absurd k
one_unanswered_by q None (Refused.NoFunction m) (Refused.Strict n why) h k = absurd k
one_unanswered_by q None (Refused.NoFunction m) (Refused.NoValue n) h k = absurd k
one_unanswered_by q None (Refused.NoFunction m) (Refused.NoBlock n) h k = absurd k
one_unanswered_by q None (Refused.NoFunction m) (Refused.NotDefined n c) h k = absurd k
one_unanswered_by q None (Refused.NoFunction m) Refused.Memory h k = absurd k
one_unanswered_by q None (Refused.Unclosed n) b h k = absurd h
one_unanswered_by q None (Refused.BadLine n) b h k = absurd h
one_unanswered_by q None (Refused.DuplicateFunction n) b h k = absurd h
one_unanswered_by q None (Refused.Strict n why) b h k = absurd h
one_unanswered_by q None (Refused.NoValue n) b h k = absurd h
one_unanswered_by q None (Refused.NoBlock n) b h k = absurd h
one_unanswered_by q None (Refused.NotDefined n c) b h k = absurd h
one_unanswered_by q None Refused.Memory b h k = absurd h

no_reason_by : (q : Question) (o : Option Function) (reason : Refused) → IsSomeAnd o (λ f. CanAnswer f q) → IsUnansweredBy q o reason → ⊥
no_reason_by q None reason can why = can
no_reason_by q (Some f) reason can why = answer_has_no_reason f q reason can why

module _ (one : OneList) (strict : Bool) (input : List ℕ) where
  one_unanswered : (job : Job) (a b : Refused) → IsUnanswered job strict input a → IsUnanswered job strict input b → a ≡ b
  one_unanswered job a b p r =
      let same : p.question ≡ r.question = same_question p.question r.question (sym p.asks ∙ r.asks) in
      let pieces : p.pieces ≡ r.pieces = one input p.pieces r.pieces p.«module».splits r.«module».splits in
      let why : IsUnansweredBy r.question (function_named r.question.function r.pieces) a =
      subst (λ ps. IsUnansweredBy r.question (function_named r.question.function ps) a) pieces
      (subst (λ (q : Question). IsUnansweredBy q (function_named q.function p.pieces) a) same p.why) in
      one_unanswered_by r.question (function_named r.question.function r.pieces) a b why r.why

  pub one_refusal_of : (job : Job) (a b : Refused) → IsRefusal job strict input a → IsRefusal job strict input b → a ≡ b
  one_refusal_of job a b (inl p) (inl r) = one_refused one strict input a b p r
  one_refusal_of job a b (inl p) (inr r) = absurd (module_not_refused one strict input r.pieces a r.«module» p)
  one_refusal_of job a b (inr p) (inl r) = absurd (module_not_refused one strict input p.pieces b p.«module» r)
  one_refusal_of job a b (inr p) (inr r) = one_unanswered job a b p r

  answerable_question : (job : Job) (q : Question) (pieces : List Piece) → job ≡ Job.Ask q → IsAnswerable job pieces →
      IsSomeAnd (function_named q.function pieces) (λ f. CanAnswer f q)
  answerable_question job q pieces is can = subst (λ j. IsAnswerable j pieces) is can

  pub done_not_refused : (job : Job) (pieces : List Piece) (reason : Refused) → IsModule strict input pieces → IsAnswerable job pieces →
      IsRefusal job strict input reason → ⊥
  done_not_refused job pieces reason m can (inl p) = module_not_refused one strict input pieces reason m p
  done_not_refused job pieces reason m can (inr p) =
      let same : p.pieces ≡ pieces = one input p.pieces pieces p.«module».splits m.splits in
      no_reason_by p.question (function_named p.question.function pieces) reason (answerable_question job p.question pieces p.asks can)
      (subst (λ ps. IsUnansweredBy p.question (function_named p.question.function ps) reason) same p.why)

  -- a job that has a text can be done
  has_text : (job : Job) (pieces : List Piece) (text : List ℕ) → IsJobText job input pieces text → IsAnswerable job pieces
  has_text Job.Opt pieces text is = tt
  has_text Job.Facts pieces text is = tt
  has_text (Job.Ask q) pieces text is =
      subst (λ o. IsSomeAnd o (λ f. CanAnswer f q)) (sym is.named) (text_answers is.function q text is.answers)
  has_text (Job.SelfRun seed) pieces text is = tt

  pub text_not_refused : (job : Job) (text notes : List ℕ) (reason : Refused) → IsModuleText job strict input text notes →
      IsRefusal job strict input reason → ⊥
  text_not_refused job text notes reason t = done_not_refused job t.pieces reason t.«module» (has_text job t.pieces text t.texts)

-- ---- at most one text

module _ (one : OneList) (report : OneReport) (optimised : OneOptimised) (checked : WasChecked) (answer : OneAnswer) where
  one_asked : (q : Question) (pieces : List Piece) (s t : List ℕ) → IsAskedText q pieces s → IsAskedText q pieces t → s ≡ t
  one_asked q pieces s t m n =
      let same : m.function ≡ n.function = same_Some m.function n.function (sym m.named ∙ n.named) in
      one_answer_text answer n.function q s t (subst (λ f. IsAnswerText f q s) same m.answers) n.answers

  one_job_text : (job : Job) (input : List ℕ) (pieces : List Piece) → Splits input pieces → (s t : List ℕ) → IsJobText job input pieces s →
      IsJobText job input pieces t → s ≡ t
  one_job_text Job.Opt input pieces splits s t m n = one_written report optimised checked Writing.Optimised input pieces splits s t m n
  one_job_text Job.Facts input pieces splits s t m n = one_written report optimised checked Writing.Reports input pieces splits s t m n
  one_job_text (Job.Ask q) input pieces splits s t m n = one_asked q pieces s t m n
  one_job_text (Job.SelfRun seed) input pieces splits s t m n =
      let same : m.printed ≡ n.printed =
      one_written report optimised checked Writing.Optimised input pieces splits m.printed n.printed m.texts n.texts in
      m.is ∙ (ap (λ p. summary_text seed (length input) (length p) (length (carried_functions pieces))) same ∙ sym n.is)

  pub one_module_text : (job : Job) (strict : Bool) (input text other notes others : List ℕ) → IsModuleText job strict input text notes →
      IsModuleText job strict input other others → (text ≡ other) × (notes ≡ others)
  one_module_text job strict input text other notes others p q =
      let same : p.pieces ≡ q.pieces = one input p.pieces q.pieces p.«module».splits q.«module».splits in (
        one_job_text job input q.pieces q.«module».splits text other (subst (λ ps. IsJobText job input ps text) same p.texts) q.texts,
        p.notes_are ∙ ap notes_of same ∙ sym q.notes_are,
      )
