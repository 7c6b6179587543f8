-- The states of heads after a round, from their places to their blocks.
use Rattle.std.proofs.Common.{◌≡◌, ◌<◌, ◌≤◌, ◌+◌, ℕ, zero, suc, Bool, true, false, nat_eq, min, if◌then◌else◌, Option, Some, None, MatchBool, List, [], ◌∷◌, length, get_or, refl, sym, ◌∙◌, ap, subst, arith, ◌⊎◌, inl, inr}
use Rattle.std.specs.Option.{option_map}
use Rattle.std.specs.List.{IsDistinct}
use Rattle.std.proofs.lemmas.Bool.{cases_lt}
use Rattle.vfa_ir.specs.declared.operations.BlockId.{BlockId}
use Rattle.vfa_ir.specs.declared.functions.Function.{Function}
use Rattle.vfa_ir.specs.Walks.{is_in}
use Rattle.vfa_cfg.specs.Heads.{is_head}
use Rattle.vfa_cfg.specs.Order.{numbers}
use Rattle.vfa_cfg.proofs.Members.{false_is_no_truth}
use Rattle.vfa_values.specs.Answers.{Answers}
use Rattle.vfa_cond.specs.States.{Stored, known}
use Rattle.vfa_walk.specs.Analysis.{last_round}
use Rattle.vfa_walk.specs.Heads.{after_round, AreSame, HasChanged}
use Rattle.vfa_walk.specs.Joining.{widened}
use Rattle.vfa_walk.specs.Kept.{entry_in, kept_in_order}
use Rattle.vfa_walk.specs.Passes.{merged}
use Rattle.vfa_walk.proofs.Listed.{ordered_at, ordered_outside}
use Rattle.vfa_walk.proofs.Nexts.{HasPlace, place_of, no_block, no_head}

module _ {V : Type 0} where
  pub entry_is : (list : List (Option (Stored V))) (k : ℕ) (d : Option (Stored V)) → k < length list → entry_in list k ≡ get_or list k d
  entry_is [] k d inside = absurd (omega arith)
  entry_is (x ∷ list) zero d inside = refl
  entry_is (x ∷ list) (suc k) d inside = entry_is list k d (omega arith)

  pub kept_at_place : (order : List BlockId) (list : List (Option (Stored V))) (k : ℕ) → IsDistinct nat_eq (numbers order) → k < length order → length list ≡ length order →
      kept_in_order order list (get_or order k no_block).0 ≡ option_map known (entry_in list k)
  kept_at_place order list k distinct inside count =
      ordered_at order list k None no_block distinct inside count ∙ sym (ap (option_map known) (entry_is list k None (omega (arith, count))))

  module _ (f : Function) (order : List BlockId) (distinct : IsDistinct nat_eq (numbers order)) (old new : List (Option (Stored V))) (each_old : length old ≡ length order) (each_new : length new ≡ length order) where
    pub heads_are : (answers : Answers V) (round : ℕ) (list : List (Option (Stored V))) → length list ≡ length order → round ≤ last_round →
        ((k : ℕ) → k < length order → option_map known (entry_in list k)
        ≡ after_round answers f order round (get_or order k no_block).0 (option_map known (entry_in old k)) (option_map known (entry_in new k))) →
        (b : ℕ) → kept_in_order order list b ≡ after_round answers f order (min round last_round) b (kept_in_order order old b) (kept_in_order order new b)
    heads_are answers round list count capped each b = at (is_in b (numbers order)) refl
      where
        same : round ≡ min round last_round
        same = omega arith

        here : (k : ℕ) (c : ℕ) → k < length order → (get_or order k no_block).0 ≡ c → kept_in_order order list c ≡ after_round answers f order (min round last_round) c (kept_in_order order old c) (kept_in_order order new c)
        here k c inside is = subst (λ d. kept_in_order order list d ≡ after_round answers f order (min round last_round) d (kept_in_order order old d) (kept_in_order order new d)) is
            (kept_at_place order list k distinct inside count
            ∙ (each k inside
            ∙ (ap (λ r. after_round answers f order r (get_or order k no_block).0 (option_map known (entry_in old k)) (option_map known (entry_in new k))) same
            ∙ (ap (λ o. after_round answers f order (min round last_round) (get_or order k no_block).0 o (option_map known (entry_in new k))) (sym (kept_at_place order old k distinct inside each_old))
            ∙ ap (after_round answers f order (min round last_round) (get_or order k no_block).0 (kept_in_order order old (get_or order k no_block).0)) (sym (kept_at_place order new k distinct inside each_new))))))

        at : (found : Bool) → is_in b (numbers order) ≡ found → kept_in_order order list b ≡ after_round answers f order (min round last_round) b (kept_in_order order old b) (kept_in_order order new b)
        at true found = let p : HasPlace order b = place_of order b found in here p.place b p.inside p.is
        at false absent =
            ordered_outside order list b absent
            ∙ sym (ap (λ h. if h then merged (widened answers f (min round last_round)) (kept_in_order order old b) (kept_in_order order new b) else None) (no_head f order b absent))

    pub differs : (k : ℕ) → k < length order → is_head f order (get_or order k no_block).0 ≡ true →
        (option_map known (entry_in new k) ≡ option_map known (entry_in old k) → ⊥) → HasChanged f order old new (get_or order k no_block).0
    differs k inside head other = record {
      head = head;
      other = λ e. other (sym (kept_at_place order new k distinct inside each_new) ∙ (e ∙ kept_at_place order old k distinct inside each_old));
    }

    pub stay : ((k : ℕ) → k < length order → is_head f order (get_or order k no_block).0 ≡ true → option_map known (entry_in new k) ≡ option_map known (entry_in old k)) →
        AreSame f order old new
    stay each b head = at (is_in b (numbers order)) refl
      where
        here : (k : ℕ) → k < length order → (get_or order k no_block).0 ≡ b → kept_in_order order new b ≡ kept_in_order order old b
        here k inside is = subst (λ d. is_head f order d ≡ true → kept_in_order order new d ≡ kept_in_order order old d) is
            (λ h. kept_at_place order new k distinct inside each_new ∙ (each k inside h ∙ sym (kept_at_place order old k distinct inside each_old))) head

        at : (found : Bool) → is_in b (numbers order) ≡ found → kept_in_order order new b ≡ kept_in_order order old b
        at true found = let p : HasPlace order b = place_of order b found in here p.place p.inside p.is
        at false absent = false_is_no_truth head (no_head f order b absent)

-- what holds of the places before one, and of it
pub places_more : (P : ℕ → Type 0) (place : ℕ) → ((k : ℕ) → k < place → P k) → P place → (k : ℕ) → k < place + 1 → P k
places_more P place before here k inside = at (cases_lt k place)
  where
    at : (k < place) ⊎ (place ≤ k) → P k
    at (inl less) = before k less
    at (inr more) = let same : k ≡ place = omega arith in subst P (sym same) here

-- ---- answers of comparisons

pub both_same : {A B C : Type 0} (b : Bool) → MatchBool b A (A → ⊥) → B → (C → A) → MatchBool b (A × B) (C → ⊥)
both_same true first second part = (first, second)
both_same false first second part = λ c. first (part c)

pub some_same : {A : Type 0} (b : Bool) (x y : A) → MatchBool b (x ≡ y) (x ≡ y → ⊥) → MatchBool b (Some x ≡ Some y) (Some x ≡ Some y → ⊥)
some_same true x y same = ap Some same
some_same false x y other = λ e. other (cc)

pub told_changed : {V : Type 0} (f : Function) (order : List BlockId) (old new : List (Option (Stored V))) (b : Bool) →
    MatchBool b ((c : ℕ) × HasChanged f order old new c) (AreSame f order old new) →
    MatchBool b ((c : ℕ) × (is_head f order c ≡ true) × (kept_in_order order new c ≡ kept_in_order order old c → ⊥)) (AreSame f order old new)
told_changed f order old new true changed = (changed.0, changed.1.head, changed.1.other)
told_changed f order old new false same = same
