-- The line that is written for an answer is the text of the question, true, or a reason why it has none.
use Rattle.std.proofs.Common.{◌≡◌, ℕ, Result, Ok, Err, Vec, List, ap, subst, ◌∙◌}
use Rattle.std.specs.Prelude.{IfOk, OnOk}
use Rattle.vfa_ir.specs.declared.functions.Function.{Function}
use Rattle.vfa_xfer.specs.AnyFacts.{HoldsOf, IsAnyFact, fact_type}
use Rattle.vfa_xfer.specs.Transfers.{fact_answers}
use Rattle.vfa_xfer.specs.declared.any_fact.AnyFact.{AnyFact}
use Rattle.vfa_lazy.specs.declared.questions.Answer.{Answer}
use Rattle.vfa_lazy.specs.declared.questions.Place.{Place}
use Rattle.vfa_lazy.specs.Questions.{IsAnswer, IsTrueOfRuns, IsTypedAnswer, place_of}
use Rattle.vfa_opt.specs.declared.questions.Question.{Question}
use Rattle.vfa_opt.specs.declared.refusals.Refused.{Refused}
use Rattle.vfa_opt.specs.Asked.{Concerns, IsAnswerText, IsTrueAnswer, answer_text}
use Rattle.vfa_opt.proofs.Answerable.{OneAnswer, same_answer}
use Rattle.vfa_opt.proofs.Subjects.{one_place, one_value, value_shown}

module _ (f : Function) (q : Question) (v : ℕ) (place : Place) (concerns : Concerns f q v place) (a : Answer AnyFact)
    (is_answer : IsAnswer fact_answers f place v a) where
  pub told_text : {A : Type 0} (r : Result (Vec ℕ A) Refused) → IfOk r (λ text. text.items ≡ answer_text q.value a) → OnOk r (a ≡ Answer.NotDefined → ⊥) →
      IfOk r (λ text. IsAnswerText f q text.items)
  told_text (Ok text) is told = record {
    v = v;
    place = place;
    concerns = concerns;
    answer = a;
    is_answer = is_answer;
    told = told;
    is = is ∙ ap (λ name. answer_text name a) (value_shown f q.value v concerns.value);
  }
  told_text (Err e) is told = tt

  module _ (one : OneAnswer) (holds : IsTrueOfRuns HoldsOf f (place_of place) v a) (typed : IsTypedAnswer fact_type IsAnyFact f v a) where
    true_text : (text : List ℕ) → IsAnswerText f q text → IsTrueAnswer f q text
    true_text text t =
        let value : v ≡ t.v = one_value f q v t.v place t.place concerns t.concerns in
        let at : place ≡ t.place = one_place f q place t.place concerns.names t.concerns.names in
        let same : a ≡ t.answer = same_answer one f q v t.v place t.place a t.answer concerns t.concerns is_answer t.is_answer in record {
          v = t.v;
          place = t.place;
          concerns = t.concerns;
          answer = t.answer;
          is = t.is;
          holds =
              subst (λ p. IsTrueOfRuns HoldsOf f (place_of p) t.v t.answer) at
              (subst (λ w. IsTrueOfRuns HoldsOf f (place_of place) w t.answer) value (subst (λ b. IsTrueOfRuns HoldsOf f (place_of place) v b) same holds));
          typed = subst (λ w. IsTypedAnswer fact_type IsAnyFact f w t.answer) value (subst (λ b. IsTypedAnswer fact_type IsAnyFact f v b) same typed);
        }

    pub told_true : {A : Type 0} (r : Result (Vec ℕ A) Refused) → OnOk r ((text : List ℕ) → IsAnswerText f q text → IsTrueAnswer f q text)
    told_true (Ok text) = true_text
    told_true (Err e) = tt
