-- Entry states in lists.
use Rattle.std.proofs.Common.{◌≡◌, ◌<◌, ◌≤◌, ℕ, zero, suc, Bool, true, false, nat_eq, if◌then◌else◌, Option, Some, None, List, [], ◌∷◌, set, length, get_or, All, refl, sym, ◌∙◌, ap, arith, eqb-true, eq-eqb}
use Rattle.std.specs.Option.{ForSome, option_map}
use Rattle.std.specs.List.{IsDistinct, AllByRecursion}
use Rattle.std.proofs.lemmas.Bool.Decides.{nat_tests}
use Rattle.std.proofs.lemmas.List.Elements.{All-head, All-tail, All-weaker}
use Rattle.vfa_ir.specs.declared.operations.BlockId.{BlockId}
use Rattle.vfa_ir.specs.Walks.{is_in}
use Rattle.vfa_cfg.specs.Order.{numbers}
use Rattle.vfa_cfg.proofs.Members.{false_is_no_truth, no_truth, or_left, or_right}
use Rattle.vfa_cond.specs.States.{Stored, known}
use Rattle.vfa_ir.specs.declared.operations.Ty.{Ty}
use Rattle.vfa_ir.specs.declared.functions.Function.{Function}
use Rattle.vfa_walk.specs.Kept.{AreStates, IsStateOf, kept_entries, kept_in_order}

suc_eq : (a b : ℕ) → nat_eq (suc a) (suc b) ≡ nat_eq a b
suc_eq a b = grind (arith, nat_tests)

module _ {V : Type 0} where
  -- a write changes one entry
  pub kept_set : (list : List (Option (Stored V))) (place : ℕ) (e : Option (Stored V)) (b : ℕ) → place < length list →
      kept_entries (set list place e) b ≡ (if nat_eq b place then option_map known e else kept_entries list b)
  kept_set [] place e b inside = absurd (omega arith)
  kept_set (x ∷ list) zero e zero inside = refl
  kept_set (x ∷ list) zero e (suc b) inside =
      let other : nat_eq (suc b) 0 ≡ false = grind (arith, nat_tests) in
      sym (ap (λ c. if c then option_map known e else kept_entries list b) other)
  kept_set (x ∷ list) (suc place) e zero inside =
      let other : nat_eq 0 (suc place) ≡ false = grind (arith, nat_tests) in
      sym (ap (λ c. if c then option_map known e else option_map known x) other)
  kept_set (x ∷ list) (suc place) e (suc b) inside =
      kept_set list place e b (omega arith) ∙ ap (λ c. if c then option_map known e else kept_entries list b) (sym (suc_eq b place))

  pub kept_at : (list : List (Option (Stored V))) (b : ℕ) (d : Option (Stored V)) → b < length list → kept_entries list b ≡ option_map known (get_or list b d)
  kept_at [] b d inside = absurd (omega arith)
  kept_at (x ∷ list) zero d inside = refl
  kept_at (x ∷ list) (suc b) d inside = kept_at list b d (omega arith)

  pub kept_nothing : (list : List (Option (Stored V))) (b : ℕ) → All (λ e. e ≡ None) list → kept_entries list b ≡ None
  kept_nothing [] b none = refl
  kept_nothing (x ∷ list) zero none = ap (option_map known) (All-head (λ e. e ≡ None) x list none)
  kept_nothing (x ∷ list) (suc b) none = kept_nothing list b (All-tail (λ e. e ≡ None) x list none)

  pub kept_beyond : (list : List (Option (Stored V))) (b : ℕ) → length list ≤ b → kept_entries list b ≡ None
  kept_beyond [] b past = refl
  kept_beyond (x ∷ list) zero past = absurd (omega arith)
  kept_beyond (x ∷ list) (suc b) past = kept_beyond list b (omega arith)

  -- ---- one place for each block of an order

  pub ordered_outside : (order : List BlockId) (list : List (Option (Stored V))) (b : ℕ) → is_in b (numbers order) ≡ false → kept_in_order order list b ≡ None
  ordered_outside [] list b absent = refl
  ordered_outside (c ∷ order) [] b absent = refl
  ordered_outside (c ∷ order) (e ∷ list) b absent =
      skip (nat_eq c.0 b) refl (ordered_outside order list b)
    where
      skip : (same : Bool) → nat_eq c.0 b ≡ same → (is_in b (numbers order) ≡ false → kept_in_order order list b ≡ None) →
          (if nat_eq c.0 b then option_map known e else kept_in_order order list b) ≡ None
      skip true same later = let turned : nat_eq b c.0 ≡ true = eq-eqb b c.0 (sym (eqb-true c.0 b same)) in absurd (false_is_no_truth {X = ⊥} (or_left (nat_eq b c.0) (is_in b (numbers order)) turned) absent)
      skip false same later =
          ap (λ t. if t then option_map known e else kept_in_order order list b) same
          ∙ later (no_truth (is_in b (numbers order)) (λ there. false_is_no_truth {X = ⊥} (or_right (nat_eq b c.0) (is_in b (numbers order)) there) absent))

  -- the entry of the block at a place of an order without repeats
  pub ordered_at : (order : List BlockId) (list : List (Option (Stored V))) (i : ℕ) (d : Option (Stored V)) (c : BlockId) → IsDistinct nat_eq (numbers order) →
      i < length order → length list ≡ length order → kept_in_order order list (get_or order i c).0 ≡ option_map known (get_or list i d)
  unfolding IsDistinct
  ordered_at [] list i d c distinct inside same = absurd (omega arith)
  ordered_at (b ∷ order) [] i d c distinct inside same = absurd (omega arith)
  ordered_at (b ∷ order) (e ∷ list) zero d c distinct inside same = ap (λ t. if t then option_map known e else kept_in_order order list b.0) (eq-eqb b.0 b.0 refl)
  ordered_at (b ∷ order) (e ∷ list) (suc i) d c distinct inside same =
      ap (λ t. if t then option_map known e else kept_in_order order list (get_or order i c).0) (away order i distinct.0 (omega arith))
      ∙ ordered_at order list i d c distinct.1 (omega arith) (omega arith)
    where
      away : (rest : List BlockId) (k : ℕ) → AllByRecursion (λ y. nat_eq b.0 y ≡ false) (numbers rest) → k < length rest → nat_eq b.0 (get_or rest k c).0 ≡ false
      away [] k other less = absurd (omega arith)
      away (r ∷ rest) zero other less = other.0
      away (r ∷ rest) (suc k) other less = away rest k other.1 (omega arith)

-- no entries are entry states of any function
pub none_states : {V : Type 0} (ty : V → Ty) (proper : V → Type 0) (f : Function) (list : List (Option (Stored V))) → All (λ e. e ≡ None) list → AreStates ty proper f list
none_states ty proper f list none =
    All-weaker (λ e. e ≡ None) (λ e. ForSome e (IsStateOf ty proper f)) (λ e is d some. let clash : None ≡ Some d = sym is ∙ some in cc) list none
