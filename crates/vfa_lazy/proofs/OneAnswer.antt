-- A question has at most one answer.
use Rattle.std.proofs.Common.{◌≡◌, ℕ, Some, None, refl, sym, ◌∙◌, ap}
use Rattle.std.proofs.lemmas.Option.{same_Some}
use Rattle.vfa_ir.specs.declared.functions.Function.{Function}
use Rattle.vfa_ir.specs.Defined.{line_count}
use Rattle.vfa_ir.specs.Walks.{IsDefinedAt, IsMissedAt}
use Rattle.vfa_mean.specs.FreshOperands.{IsDefinedAtPlace}
use Rattle.vfa_mean.specs.Moments.{Place, Into, At}
use Rattle.vfa_values.specs.Answers.{Answers}
use Rattle.vfa_cond.specs.States.{AbstractState}
use Rattle.vfa_walk.specs.Tables.{States, IsTableOf, state_at}
use Rattle.vfa_walk.proofs.TruthTables.{one_table_of}
use Rattle.vfa_lazy.specs.declared.questions.Answer.{Answer}
use Rattle.vfa_lazy.specs.declared.questions.Place.{Place as Asked}
use Rattle.vfa_lazy.specs.Questions.{IsAnswer, IsMissed, HasFact, HasNoState, place_of}

not_both_at : {X : Type 0} (f : Function) (b n v : ℕ) → IsDefinedAt f b n v → IsMissedAt f b n v → X
not_both_at f b n v defined m = absurd (m.missed (defined m.passed m.walk))

not_both : {X : Type 0} (f : Function) (asked : Asked) (v : ℕ) → IsDefinedAtPlace f (place_of asked) v → IsMissed f asked v → X
not_both f (Asked.Entry b) v defined m = not_both_at f b.0 0 v defined m
not_both f (Asked.Pair from to) v defined m = not_both_at f from.0 (line_count f from.0) v defined m

module _ {V : Type 0} (answers : Answers V) (f : Function) where
  -- tables that have the same entries have the same states
  same_state : (t u : States V) → ((b : ℕ) → t b ≡ u b) → (place : Place) → state_at answers f t place ≡ state_at answers f u place
  same_state t u same (At b i) = ap (λ o. state_at answers f (λ _. o) (At b i)) (same b)
  same_state t u same (Into (Some from) to) = ap (λ o. state_at answers f (λ _. o) (Into (Some from) to)) (same from)
  same_state t u same (Into None b) = same b

  one_state : (t u : States V) → IsTableOf answers f t → IsTableOf answers f u → (place : Place) → state_at answers f t place ≡ state_at answers f u place
  one_state t u is is' place = same_state t u (one_table_of answers f t u is is') place

  no_and_some : {X : Type 0} (place : Place) (v : ℕ) (d : V) → HasNoState answers f place → HasFact answers f place v d → X
  no_and_some place v d n h =
      let e = sym n.none ∙ (one_state n.table h.table n.is_table h.is_table place ∙ h.there) in absurd (cc)

  one_fact : (place : Place) (v : ℕ) (d d' : V) → HasFact answers f place v d → HasFact answers f place v d' → d ≡ d'
  one_fact place v d d' h h' =
      let same : h.state ≡ h'.state = same_Some h.state h'.state (sym h.there ∙ (one_state h.table h'.table h.is_table h'.is_table place ∙ h'.there)) in
      same_Some d d' (sym h.fact ∙ (ap (λ (s : AbstractState V). s.fact v) same ∙ h'.fact))

  pub one_answer_of : (asked : Asked) (v : ℕ) (a b : Answer V) → IsAnswer answers f asked v a → IsAnswer answers f asked v b → a ≡ b
  one_answer_of asked v Answer.NotDefined Answer.NotDefined x y = refl
  one_answer_of asked v Answer.NotDefined Answer.NeverReached x y = not_both f asked v y.0 x
  one_answer_of asked v Answer.NotDefined (Answer.Fact d) x y = not_both f asked v y.0 x
  one_answer_of asked v Answer.NeverReached Answer.NotDefined x y = not_both f asked v x.0 y
  one_answer_of asked v Answer.NeverReached Answer.NeverReached x y = refl
  one_answer_of asked v Answer.NeverReached (Answer.Fact d) x y = no_and_some (place_of asked) v d x.1 y.1
  one_answer_of asked v (Answer.Fact d) Answer.NotDefined x y = not_both f asked v x.0 y
  one_answer_of asked v (Answer.Fact d) Answer.NeverReached x y = no_and_some (place_of asked) v d y.1 x.1
  one_answer_of asked v (Answer.Fact d) (Answer.Fact d') x y = ap Answer.Fact (one_fact (place_of asked) v d d' x.1 y.1)
