-- What heads get, in the sequence of the order.
use Rattle.std.proofs.Common.{◌≡◌, ◌<◌, ◌≤◌, ◌+◌, ℕ, zero, suc, Bool, true, false, nat_eq, if◌then◌else◌, Option, None, List, [], ◌∷◌, ◌++◌, length, get_or, refl, sym, ◌∙◌, ap, ap₂, arith, eqb-true, eq-eqb, ◌⊎◌, inl, inr}
use Rattle.std.specs.Option.{option_map}
use Rattle.std.specs.List.{IsDistinct}
use Rattle.std.proofs.lemmas.Bool.{cases_lt}
use Rattle.vfa_ir.specs.declared.operations.BlockId.{BlockId}
use Rattle.vfa_ir.specs.declared.functions.Function.{Function}
use Rattle.vfa_ir.specs.Walks.{is_in}
use Rattle.vfa_cfg.specs.Heads.{has_edge_from, is_head}
use Rattle.vfa_cfg.specs.Order.{IsOrder, numbers}
use Rattle.vfa_cfg.proofs.Visiting.{same_visits}
use Rattle.vfa_cfg.proofs.Members.{first_or_rest, false_is_no_truth, no_truth, or_left, or_right}
use Rattle.vfa_values.specs.Answers.{Answers}
use Rattle.vfa_cond.specs.States.{AbstractState, Stored, known}
use Rattle.vfa_walk.specs.Analysis.{Layout, IsLayout, flow_of}
use Rattle.vfa_walk.specs.Flow.{Flow}
use Rattle.vfa_walk.specs.Joining.{kept_names}
use Rattle.vfa_walk.specs.Kept.{entry_in, kept_in_order}
use Rattle.vfa_walk.specs.Passes.{met, pass_next, pass_table}
use Rattle.vfa_walk.specs.Sending.{got_from, layout, next_at}
use Rattle.vfa_walk.specs.Tables.{States}
use Rattle.vfa_walk.proofs.Listed.{ordered_at, ordered_outside}
use Rattle.vfa_walk.proofs.PassEquations.{met_same, handed_same}

-- the default where a list of blocks ends
abbrev pub no_block : BlockId
no_block = record { 0 = 0 }

pub record HasPlace (order : List BlockId) (b : ℕ) : Type 0 where
  pub place : ℕ
  pub inside : place < length order
  pub is : (get_or order place no_block).0 ≡ b

pub place_of : (order : List BlockId) (b : ℕ) → is_in b (numbers order) ≡ true → HasPlace order b
place_of [] b there = absurd (cc)
place_of (c ∷ order) b there = elim (first_or_rest b c.0 (numbers order) there) [
  | inl same ↦ record { place = 0; inside = omega arith; is = sym same }
  | inr later ↦ let at : HasPlace order b = place_of order b later in record { place = suc at.place; inside = let h : at.place < length order = at.inside in omega arith; is = at.is }
]

pub no_head : (f : Function) (order : List BlockId) (b : ℕ) → is_in b (numbers order) ≡ false → is_head f order b ≡ false
no_head f [] b absent = refl
no_head f (c ∷ order) b absent = at (nat_eq c.0 b) refl (no_head f order b)
  where
    at : (same : Bool) → nat_eq c.0 b ≡ same → (is_in b (numbers order) ≡ false → is_head f order b ≡ false) → is_head f (c ∷ order) b ≡ false
    at true same later =
        let turned : nat_eq b c.0 ≡ true = eq-eqb b c.0 (sym (eqb-true c.0 b same)) in
        absurd (false_is_no_truth {X = ⊥} (or_left (nat_eq b c.0) (is_in b (numbers order)) turned) absent)
    at false same later =
        ap (λ t. if t then has_edge_from f (c ∷ order) b else is_head f order b) same
        ∙ later (no_truth (is_in b (numbers order)) (λ there. false_is_no_truth {X = ⊥} (or_right (nat_eq b c.0) (is_in b (numbers order)) there) absent))

same_blocks : (xs ys : List BlockId) → numbers xs ≡ numbers ys → xs ≡ ys
same_blocks [] [] e = refl
same_blocks [] (y ∷ ys) e = absurd (cc)
same_blocks (x ∷ xs) [] e = absurd (cc)
same_blocks (x ∷ xs) (y ∷ ys) e =
    let first : x.0 ≡ y.0 = cc in
    let rest : xs ≡ ys = same_blocks xs ys cc in
    ap₂ (λ (n : ℕ) (blocks : List BlockId). (let b : BlockId = record { 0 = n } in b) ∷ blocks) first rest

pub same_order : (f : Function) (order other : List BlockId) → IsOrder f order → IsOrder f other → order ≡ other
same_order f order other is is' = same_blocks order other (same_visits is.visits is'.visits).1

-- the layout of a function has its order
pub layout_is : (f : Function) (order : List BlockId) (l : Layout) → IsOrder f order → IsLayout f l → l ≡ layout order l.in_scope
layout_is f order l is known_layout =
    let same : l.order ≡ order = same_blocks l.order order (same_visits known_layout.is_order.visits is.visits).1 in
    λ i. record { order = same i; in_scope = l.in_scope }

module _ {V : Type 0} where
  pub entry_kept : (list : List (Option (Stored V))) (e : Option (Stored V)) (k : ℕ) → k < length list → entry_in (list ++ (e ∷ [])) k ≡ entry_in list k
  entry_kept [] e k inside = absurd (omega arith)
  entry_kept (x ∷ list) e zero inside = refl
  entry_kept (x ∷ list) e (suc k) inside = entry_kept list e k (omega arith)

  pub entry_last : (list : List (Option (Stored V))) (e : Option (Stored V)) (k : ℕ) → k ≡ length list → entry_in (list ++ (e ∷ [])) k ≡ e
  entry_last [] e zero same = refl
  entry_last [] e (suc k) same = absurd (omega arith)
  entry_last (x ∷ list) e zero same = absurd (omega arith)
  entry_last (x ∷ list) e (suc k) same = entry_last list e k (omega arith)

  pub entry_at : (list : List (Option (Stored V))) (k : ℕ) → k < length list → option_map known (entry_in list k) ≡ option_map known (get_or list k None)
  entry_at [] k inside = absurd (omega arith)
  entry_at (x ∷ list) zero inside = refl
  entry_at (x ∷ list) (suc k) inside = entry_at list k (omega arith)

  pub next_same : (f : Function) (order : List BlockId) (names : ℕ → ℕ → Bool) (got got' : States V) (b : ℕ) → got b ≡ got' b → next_at f order got names b ≡ next_at f order got' names b
  next_same f order names got got' b same = ap (λ o. if is_head f order b then option_map (kept_names (names b)) o else None) same

  -- one more of the entries
  pub nexts_more : (P : ℕ → Option (AbstractState V)) (list : List (Option (Stored V))) (place : ℕ) (e : Option (Stored V)) → length list ≡ place →
      option_map known e ≡ P place → ((k : ℕ) → k < place → option_map known (entry_in list k) ≡ P k) →
      (k : ℕ) → k < place + 1 → option_map known (entry_in (list ++ (e ∷ [])) k) ≡ P k
  nexts_more P list place e count last before k inside = at (cases_lt k place)
    where
      at : (k < place) ⊎ (place ≤ k) → option_map known (entry_in (list ++ (e ∷ [])) k) ≡ P k
      at (inl less) = ap (option_map known) (entry_kept list e k (omega arith)) ∙ before k less
      at (inr more) =
          let same : k ≡ place = omega arith in
          ap (option_map known) (entry_last list e k (omega arith)) ∙ (last ∙ ap P (sym same))

  -- they are what a pass gives the heads
  pub nexts_are : (answers : Answers V) (f : Function) (order : List BlockId) (names : ℕ → ℕ → Bool) (x t got : States V) (list : List (Option (Stored V))) →
      IsDistinct nat_eq (numbers order) → length list ≡ length order → ((b : ℕ) → is_head f order b ≡ true → got b ≡ got_from answers f t (numbers order) b) →
      ((b : ℕ) → t b ≡ pass_table (flow_of answers f (layout order names)) x b) →
      ((k : ℕ) → k < length order → option_map known (entry_in list k) ≡ next_at f order got names (get_or order k no_block).0) →
      (b : ℕ) → kept_in_order order list b ≡ pass_next (flow_of answers f (layout order names)) x b
  nexts_are answers f order names x t got list distinct count gets table each b = at (is_in b (numbers order)) refl
    where
      m : Flow (AbstractState V)
      m = flow_of answers f (layout order names)

      outside : is_head f order b ≡ false → pass_next m x b ≡ None
      outside none = ap (λ h. if h then met m (pass_table m x) b else None) none

      head : (h : Bool) → is_head f order b ≡ h → (if h then option_map (kept_names (names b)) (got b) else None) ≡ (if h then met m (pass_table m x) b else None)
      head true e = ap (option_map (kept_names (names b))) (gets b e) ∙ met_same m t (pass_table m x) b (λ q _. handed_same m t (pass_table m x) b q (table q))
      head false e = refl

      inside : HasPlace order b → kept_in_order order list b ≡ pass_next m x b
      inside p =
          let within : p.place < length order = p.inside in
          ap (kept_in_order order list) (sym p.is)
          ∙ (ordered_at order list p.place None no_block distinct p.inside count
          ∙ (sym (entry_at list p.place (omega arith)) ∙ (each p.place p.inside ∙ (ap (next_at f order got names) p.is ∙ head (is_head f order b) refl))))

      at : (here : Bool) → is_in b (numbers order) ≡ here → kept_in_order order list b ≡ pass_next m x b
      at true here = inside (place_of order b here)
      at false here = ordered_outside order list b here ∙ sym (outside (no_head f order b here))
