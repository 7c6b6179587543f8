-- A pass in code: what its loop keeps.
use Rattle.std.proofs.Common.{◌≡◌, ◌<◌, ◌+◌, ◌⊎◌, ℕ, zero, suc, Bool, true, false, ◌||◌, nat_eq, if◌then◌else◌, Option, Some, None, List, [], ◌∷◌, ◌++◌, drop, take, length, get_or, refl, sym, ◌∙◌, ap, subst, arith, eqb-true, eq-eqb, inl, inr}
use Rattle.std.specs.Option.{option_map}
use Rattle.std.specs.List.{IsDistinct, AllByRecursion}
use Rattle.std.proofs.lemmas.Bool.Decides.{nat_tests}
use Rattle.std.proofs.lemmas.List.{map-append, take-append-drop, take_more}
use Rattle.vfa_ir.specs.declared.operations.BlockId.{BlockId}
use Rattle.vfa_ir.specs.declared.functions.Function.{Function}
use Rattle.vfa_ir.specs.Walks.{is_in}
use Rattle.vfa_mean.specs.Outcomes.{first_block}
use Rattle.vfa_cfg.specs.Heads.{is_head}
use Rattle.vfa_cfg.specs.Order.{numbers}
use Rattle.vfa_cfg.proofs.Members.{false_is_no_truth, in_first, in_rest, in_right, or_left, or_right}
use Rattle.vfa_values.specs.Answers.{Answers}
use Rattle.vfa_cond.specs.States.{AbstractState, Stored, known}
use Rattle.vfa_walk.specs.Analysis.{flow_of, start_state}
use Rattle.vfa_walk.specs.Flow.{Flow}
use Rattle.vfa_walk.specs.Joining.{joined, kept_names}
use Rattle.vfa_walk.specs.Kept.{kept_in_order}
use Rattle.vfa_walk.specs.Leaving.{handed_on}
use Rattle.vfa_walk.specs.Passes.{followed, merged, entry_of, with_entry, go_through, pass_table}
use Rattle.vfa_walk.specs.Sending.{IsApart, got_from, layout}
use Rattle.vfa_walk.specs.Tables.{States}
use Rattle.vfa_walk.proofs.Going.{differs, got_more, head_apart, met_now, none_left}
use Rattle.vfa_walk.proofs.Listed.{ordered_at}
use Rattle.vfa_walk.proofs.Nexts.{no_head}
use Rattle.vfa_walk.proofs.States.{funext}
use Rattle.vfa_walk.proofs.Steps.{from_place}

pub place_in_order : (order : List BlockId) (i : ℕ) (d : BlockId) → i < length order → is_in (get_or order i d).0 (numbers order) ≡ true
place_in_order [] i d inside = absurd (omega arith)
place_in_order (b ∷ order) zero d inside = or_left (nat_eq b.0 b.0) (is_in b.0 (numbers order)) (eq-eqb b.0 b.0 refl)
place_in_order (b ∷ order) (suc i) d inside =
    or_right (nat_eq (get_or order i d).0 b.0) (is_in (get_or order i d).0 (numbers order)) (place_in_order order i d (omega arith))

-- one more of the blocks
pub numbers_from : (order : List BlockId) (i : ℕ) (d : BlockId) → i < length order → numbers (drop i order) ≡ (get_or order i d).0 ∷ numbers (drop (i + 1) order)
numbers_from order i d inside = ap numbers (from_place order i d inside)

-- ---- the blocks before a place, the one at it, and those behind it

pub split_at : (order : List BlockId) (i : ℕ) (d : BlockId) → i < length order → numbers order ≡ numbers (take i order) ++ ((get_or order i d).0 ∷ numbers (drop (i + 1) order))
split_at order i d inside =
    sym (ap numbers (take-append-drop i order)) ∙ (map-append (λ b. b.0) (take i order) (drop i order) ∙ ap (λ l. numbers (take i order) ++ l) (numbers_from order i d inside))

pub numbers_to : (order : List BlockId) (i : ℕ) (d : BlockId) → i < length order → numbers (take (i + 1) order) ≡ numbers (take i order) ++ ((get_or order i d).0 ∷ [])
numbers_to order i d inside = ap numbers (take_more order i d inside) ∙ map-append (λ b. b.0) (take i order) (get_or order i d ∷ [])

distinct_behind : (xs ys : List ℕ) → IsDistinct nat_eq (xs ++ ys) → IsDistinct nat_eq ys
unfolding IsDistinct
distinct_behind [] ys d = d
distinct_behind (x ∷ xs) ys d = distinct_behind xs ys d.1

apart_from : (x : ℕ) (xs : List ℕ) (b : ℕ) (ys : List ℕ) → AllByRecursion (λ y. nat_eq x y ≡ false) (xs ++ (b ∷ ys)) → nat_eq x b ≡ false
apart_from x [] b ys all = all.0
apart_from x (y ∷ xs) b ys all = apart_from x xs b ys all.1

turned : (a b : ℕ) → nat_eq a b ≡ nat_eq b a
turned a b = grind (arith, nat_tests)

neither : (a b : Bool) → a ≡ false → b ≡ false → (a || b) ≡ false
neither true b e h = absurd (cc)
neither false b e h = h

apart_before : (xs : List ℕ) (b : ℕ) (ys : List ℕ) → IsDistinct nat_eq (xs ++ (b ∷ ys)) → is_in b xs ≡ false
unfolding IsDistinct
apart_before [] b ys d = refl
apart_before (x ∷ xs) b ys d = neither (nat_eq b x) (is_in b xs) (turned b x ∙ apart_from x xs b ys d.0) (apart_before xs b ys d.1)

-- it has its turn yet, or gets more behind it
abbrev pub IsAwaited : Function → List BlockId → ℕ → ℕ → Type 0
IsAwaited f order place c = (is_head f order c ≡ true) ⊎ (is_in c (numbers (drop place order)) ≡ true)

module _ (f : Function) (order : List BlockId) (place c : ℕ) where
  pub awaited_inside : IsAwaited f order place c → is_in c (numbers order) ≡ true
  awaited_inside (inl head) = at (is_in c (numbers order)) refl
    where
      at : (here : Bool) → is_in c (numbers order) ≡ here → here ≡ true
      at true here = refl
      at false here = absurd (false_is_no_truth {X = ⊥} head (no_head f order c here))
  awaited_inside (inr later) =
      ap (is_in c) (sym (ap numbers (take-append-drop place order)) ∙ map-append (λ b. b.0) (take place order) (drop place order))
      ∙ in_right c (numbers (take place order)) (numbers (drop place order)) later

choice : {S : Type 0} (p q : Bool) (x y z y' z' : Option S) → y ≡ y' → z ≡ z' → (if p then x else if q then y else z) ≡ (if p then x else if q then y' else z')
choice true q x y z y' z' e h = refl
choice false true x y z y' z' e h = e
choice false false x y z y' z' e h = h

module _ {V : Type 0} (answers : Answers V) (f : Function) (order : List BlockId) (place : ℕ) (d : BlockId) (inside : place < length order) (distinct : IsDistinct nat_eq (numbers order)) where
  abbrev here : ℕ
  here = (get_or order place d).0

  abbrev done : List ℕ
  done = numbers (take place order)

  abbrev rest : List ℕ
  rest = numbers (drop (place + 1) order)

  parted : IsDistinct nat_eq (done ++ (here ∷ rest))
  parted = subst (IsDistinct nat_eq) (split_at order place d inside) distinct

  behind : IsDistinct nat_eq (here ∷ rest)
  behind = distinct_behind done (here ∷ rest) parted

  before : is_in here done ≡ false
  before = apart_before done here rest parted

  left_from : (c : ℕ) → is_in c (here ∷ rest) ≡ true → is_in c (numbers (drop place order)) ≡ true
  left_from c h = ap (is_in c) (numbers_from order place d inside) ∙ h

  pub still_left : (c : ℕ) → is_in c (numbers (drop (place + 1) order)) ≡ true → is_in c (numbers (drop place order)) ≡ true
  still_left c later = left_from c (in_rest c here rest later)

  pub left_apart : (c : ℕ) → is_in c (numbers (drop (place + 1) order)) ≡ true → nat_eq c (get_or order place d).0 ≡ false
  left_apart c later = differs c here rest later (head_apart here rest behind)

  pub here_left : is_in (get_or order place d).0 (numbers (drop place order)) ≡ true
  here_left = left_from here (in_first here rest)

  pub awaited_before : (c : ℕ) → IsAwaited f order (place + 1) c → IsAwaited f order place c
  awaited_before c (inl head) = inl head
  awaited_before c (inr later) = inr (still_left c later)

  pub awaited_apart : (c : ℕ) → IsAwaited f order (place + 1) c → IsApart f order (get_or order place d).0 c
  awaited_apart c (inl head) = at (nat_eq c here) refl
    where
      at : (same : Bool) → nat_eq c here ≡ same → IsApart f order here c
      at true e = inr (ap (is_head f order) (sym (eqb-true c here e)) ∙ head)
      at false e = inl e
  awaited_apart c (inr later) = inl (left_apart c later)

  -- the entry of a block in its turn
  pub turn_is : (names : ℕ → ℕ → Bool) (heads : List (Option (Stored V))) (t : States V) (e : Option (Stored V)) (got entry : Option (AbstractState V)) → length heads ≡ length order →
      ((c : ℕ) → is_in c (numbers (drop place order)) ≡ true → t c ≡ None) → got ≡ got_from answers f t (numbers (take place order)) (get_or order place d).0 →
      entry ≡ (if nat_eq (get_or order place d).0 first_block then Some (start_state answers f)
      else if is_head f order (get_or order place d).0 then option_map known (get_or heads place e)
      else option_map (kept_names (names (get_or order place d).0)) got) →
      entry ≡ entry_of (flow_of answers f (layout order names)) (kept_in_order order heads) t (get_or order place d).0
  turn_is names heads t e got entry each none got_is told =
      told ∙ choice (nat_eq here first_block) (is_head f order here) (Some (start_state answers f)) _ _ _ _
      (sym (ordered_at order heads place e d distinct inside each))
      (sym (met_now (flow_of answers f (layout order names)) done here rest (split_at order place d inside) behind before t got (λ p h. none p (left_from p h)) got_is))

  module _ (t t' : States V) (entry : Option (AbstractState V)) (change : (c : ℕ) → t' c ≡ (if nat_eq c (get_or order place d).0 then entry else t c)) where
    changed : with_entry t here entry ≡ t'
    changed = funext (λ c. sym (change c))

    -- what blocks have got behind its turn
    pub got_turn : (c : ℕ) (now next : Option (AbstractState V)) → now ≡ got_from answers f t (numbers (take place order)) c →
        next ≡ merged (joined answers) now (followed (handed_on answers f (get_or order place d).0 c) entry) → next ≡ got_from answers f t' (numbers (take (place + 1) order)) c
    got_turn c now next is step =
        got_more (flow_of answers f (layout order (λ _ _. false))) done here rest (split_at order place d inside) behind before t entry c now next is step
        ∙ (ap (λ list. got_from answers f (with_entry t here entry) list c) (sym (numbers_to order place d inside))
        ∙ ap (λ u. got_from answers f u (numbers (take (place + 1) order)) c) changed)

    pub none_turn : ((c : ℕ) → is_in c (numbers (drop place order)) ≡ true → t c ≡ None) → (c : ℕ) → is_in c (numbers (drop (place + 1) order)) ≡ true → t' c ≡ None
    none_turn none c later =
        sym (ap (λ u. u c) changed)
        ∙ none_left (flow_of answers f (layout order (λ _ _. false))) done here rest (split_at order place d inside) behind before t entry (λ p h. none p (left_from p h)) c later

    -- the table behind its turn
    pub go_more : (names : ℕ → ℕ → Bool) (x : States V) → entry ≡ entry_of (flow_of answers f (layout order names)) x t (get_or order place d).0 →
        ((b : ℕ) → go_through (flow_of answers f (layout order names)) x (numbers (drop place order)) t b ≡ pass_table (flow_of answers f (layout order names)) x b) →
        (b : ℕ) → go_through (flow_of answers f (layout order names)) x (numbers (drop (place + 1) order)) t' b ≡ pass_table (flow_of answers f (layout order names)) x b
    go_more names x is sofar b =
        let m : Flow (AbstractState V) = flow_of answers f (layout order names) in
        let same : t' ≡ with_entry t here (entry_of m x t here) = sym changed ∙ ap (with_entry t here) is in
        ap (λ u. go_through m x (numbers (drop (place + 1) order)) u b) same
        ∙ (sym (ap (λ list. go_through m x list t b) (numbers_from order place d inside)) ∙ sofar b)
