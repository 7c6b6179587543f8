-- Any round that changes nothing gives the table: for widenings that settle on the states that occur.
use Rattle.std.proofs.Common.{◌≡◌, ◌<◌, ◌≤◌, ◌⊎◌, ℕ, zero, suc, min, Option, Some, None, refl, sym, ◌∙◌, ap, arith, inl, inr}
use Rattle.std.proofs.lemmas.Bool.{cases_lt}
use Rattle.std.specs.Option.{ForSome}
use Rattle.vfa_ir.specs.declared.operations.Ty.{Ty}
use Rattle.vfa_ir.specs.declared.functions.Function.{Function}
use Rattle.vfa_values.specs.Answers.{Answers}
use Rattle.vfa_values.specs.Conditions.{IsOf, width_of}
use Rattle.vfa_values.specs.Laws.{AreTyped, AreSteady}
use Rattle.vfa_cond.specs.Conditions.{name_type, AreFacts}
use Rattle.vfa_cond.specs.States.{AbstractState}
use Rattle.vfa_walk.specs.Flow.{Flow}
use Rattle.vfa_walk.specs.Passes.{Entries, merged, pass_next}
use Rattle.vfa_walk.specs.Rounds.{after_rounds, IsStill, IsTable, table_after}
use Rattle.vfa_walk.specs.Landmarks.{landmarks}
use Rattle.vfa_walk.specs.Joining.{of_both, widened}
use Rattle.vfa_walk.specs.Analysis.{Layout, last_round, flow_of}
use Rattle.vfa_walk.proofs.RoundsEnd.{pass_alike, next_alike}
use Rattle.vfa_walk.proofs.TruthFacts.{landmarks_of, at_least_one}
use Rattle.vfa_walk.proofs.TruthKept.{KeepsStates, rounds_are_good, next_is_good}

-- a widening that keeps the old state of a block keeps it in all later rounds, where both states are such as occur there
pub record SettlesOn {S : Type 0} (m : Flow S) (Good : ℕ → S → Type 0) : Type 0 where
  pub settles : (b round later : ℕ) (old new : S) → Good b old → Good b new → 1 ≤ round → round ≤ later → m.widen round old new ≡ old → m.widen later old new ≡ old

some_same : {A : Type 0} {a b : A} → Some a ≡ Some b → a ≡ b
some_same e = cc

module _ {S : Type 0} (m : Flow S) (Good Given : ℕ → S → Type 0) (keeps : KeepsStates m Good Given) (settle : SettlesOn m Good) where
  merged_settles : (b round later : ℕ) → 1 ≤ round → round ≤ later → (old new : Option S) → ForSome old (Good b) → ForSome new (Good b) → merged (m.widen round) old new ≡ old → merged (m.widen later) old new ≡ old
  merged_settles b round later one order None new good good' same = same
  merged_settles b round later one order (Some old) None good good' same = refl
  merged_settles b round later one order (Some old) (Some new) good good' same = ap Some (settle.settles b round later old new (good old refl) (good' new refl) one order (some_same same))

  next_still : (n k : ℕ) → IsStill m n → n ≤ k → ((b : ℕ) → after_rounds m k b ≡ after_rounds m n b) → (b : ℕ) → after_rounds m (suc k) b ≡ after_rounds m n b
  next_still n k still more before b =
      ap (λ old. merged (m.widen (suc k)) old (pass_next m (after_rounds m k) b)) (before b)
      ∙ ap (merged (m.widen (suc k)) (after_rounds m n b)) (next_alike m (after_rounds m k) (after_rounds m n) before b)
      ∙ merged_settles b (suc n) (suc k) (omega arith) (omega arith) (after_rounds m n b) (pass_next m (after_rounds m n) b) (rounds_are_good m Good Given keeps n b)
      (next_is_good m Good Given keeps (after_rounds m n) (rounds_are_good m Good Given keeps n) b) (still b)

  -- the states stay as they are
  pub rounds_stay : (n : ℕ) → IsStill m n → (later : ℕ) → n ≤ later → (b : ℕ) → after_rounds m later b ≡ after_rounds m n b
  rounds_stay n still zero order b = let e : zero ≡ n = omega arith in ap (λ k. after_rounds m k b) e
  rounds_stay n still (suc k) order b = elim (cases_lt k n) [
    | inl less ↦ let e : suc k ≡ n = omega arith in ap (λ k. after_rounds m k b) e
    | inr more ↦ next_still n k still more (rounds_stay n still k more) b
  ]

  -- so any round that changes nothing gives the table
  pub still_round_is_table : (t : Entries S) (n : ℕ) → IsTable m t → IsStill m n → (b : ℕ) → t b ≡ table_after m n b
  still_round_is_table t n is still b = by (cases_lt n is.rounds)
    where
      by : (n < is.rounds) ⊎ (is.rounds ≤ n) → t b ≡ table_after m n b
      by (inl less) = absurd (is.are_rounds.first n less still)
      by (inr more) =
          let same : (c : ℕ) → after_rounds m n c ≡ after_rounds m is.rounds c = rounds_stay is.rounds is.are_rounds.still n more in
          is.entries b
          ∙ sym (pass_alike m (pass_next m (after_rounds m n)) (pass_next m (after_rounds m is.rounds)) (next_alike m (after_rounds m n) (after_rounds m is.rounds) same) b)

-- ---- the widening of states settles

module _ {V : Type 0} (ty : V → Ty) (proper : V → Type 0) (answers : Answers V) (types : AreTyped (IsOf ty proper) answers) (steady : AreSteady (IsOf ty proper) answers) (f : Function) where
  fact_settles : (t : Ty) (round later : ℕ) (o o' : Option V) → 1 ≤ round → round ≤ later → ForSome o (IsOf ty proper t) → ForSome o' (IsOf ty proper t) →
      of_both (λ old new. answers.widen old new round (landmarks f (width_of t))) o o' ≡ o → of_both (λ old new. answers.widen old new later (landmarks f (width_of t))) o o' ≡ o
  fact_settles t round later None o' one order of of' same = refl
  fact_settles t round later (Some a) None one order of of' same = absurd cc
  fact_settles t round later (Some a) (Some b) one order of of' same =
      ap Some (steady.stays t a b round later (landmarks f (width_of t)) (of a refl) (of' b refl) one order (landmarks_of ty proper answers types f t a (of a refl)) (some_same same))

  state_settles : (round later : ℕ) (s t : AbstractState V) → 1 ≤ round → round ≤ later → AreFacts ty proper f s → AreFacts ty proper f t → widened answers f round s t ≡ s → widened answers f later s t ≡ s
  state_settles round later s t one order facts facts' same = λ i. record { fact = λ v. each v i; live = λ v. live v i }
    where
      each : (v : ℕ) → (widened answers f later s t).fact v ≡ s.fact v
      each v = fact_settles (name_type f v) round later (s.fact v) (t.fact v) one order (facts v) (facts' v) (ap (λ (u : AbstractState V). u.fact v) same)

      live : (v : ℕ) → (widened answers f later s t).live v ≡ s.live v
      live v = ap (λ (u : AbstractState V). u.live v) same

  pub settles_on_facts : (l : Layout) → SettlesOn (flow_of answers f l) (λ _. AreFacts ty proper f)
  settles_on_facts l = record {
    settles = λ b round later old new facts facts' one order same. state_settles (min round last_round) (min later last_round) old new (at_least_one round one) (omega (arith, order)) facts facts' same;
  }
