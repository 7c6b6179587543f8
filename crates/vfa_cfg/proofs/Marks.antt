-- Marks of the blocks to which edges lead, from the last block of the order to the first.
use Rattle.std.proofs.Common.{◌≡◌, ℕ, zero, suc, ◌+◌, ◌<◌, ◌≤◌, Bool, true, false, ◌||◌, nat_eq, List, [], ◌∷◌, ◌++◌, length, take, drop, set, get_or, Some, None, refl, sym, ap, ap₂, ◌∙◌, subst, inl, inr, arith}
use Rattle.std.proofs.lemmas.Bool.Decides.{eqb_tells}
use Rattle.std.proofs.lemmas.List.{take_more, take_all, drop_more, drop-set-lt, length-set, get_or-set_same, get_or-set_other, get_or_read}
use Rattle.std.proofs.lemmas.Option.{slice_get-map, slice_get-get_or, slice_get_within, get_or_from_slice_get}
use Rattle.std.specs.List.{slice_get}
use Rattle.std.specs.Option.{option_map}
use Rattle.vfa_ir.specs.declared.operations.BlockId.{BlockId}
use Rattle.vfa_ir.specs.declared.functions.Function.{Function}
use Rattle.vfa_ir.specs.Walks.{is_in, successors}
use Rattle.vfa_cfg.specs.Heads.{has_edge_from, heads_of}
use Rattle.vfa_cfg.specs.Order.{IsOrder, numbers}
use Rattle.vfa_cfg.proofs.Members.{in_from_place, is_in-append}
use Rattle.vfa_cfg.proofs.Visiting.{found_is_block}

pub none_is_past : {X : Type 0} (xs : List X) (k : ℕ) → None ≡ slice_get xs k → length xs ≤ k
none_is_past [] k h = omega arith
none_is_past (x ∷ xs) zero h = absurd (cc)
none_is_past (x ∷ xs) (suc k) h = let rest = none_is_past xs k h in omega arith

or_true : (a b : Bool) → ((a || (true || false)) || b) ≡ true
or_true true b = refl
or_true false b = refl

or_false : (a b : Bool) → ((a || (false || false)) || b) ≡ (a || b)
or_false true b = refl
or_false false b = refl

pub mark_step : (marks : List Bool) (xs : List ℕ) (k t b : ℕ) (old : Bool) → Some t ≡ slice_get xs k → b < length marks →
    get_or marks b false ≡ (is_in b (take k xs) || old) → get_or (set marks t true) b false ≡ (is_in b (take (k + 1) xs) || old)
mark_step marks xs k t b old h within so_far =
    let here : k < length xs = slice_get_within xs k t (sym h) in
    let more : take (k + 1) xs ≡ take k xs ++ (t ∷ []) =
    take_more xs k 0 here ∙ ap (λ x. take k xs ++ (x ∷ [])) (get_or_from_slice_get xs k t 0 (sym h)) in
    let both : is_in b (take (k + 1) xs) ≡ (is_in b (take k xs) || (nat_eq b t || false)) =
    ap (is_in b) more ∙ is_in-append b (take k xs) (t ∷ []) in
    elim (eqb_tells b t) [
      | inl w ↦
          let set_here : get_or (set marks t true) b false ≡ true =
          subst (λ y. get_or (set marks t true) y false ≡ true) (sym w.1)
          (get_or-set_same marks t true false (subst (λ y. y < length marks) w.1 within)) in
          set_here ∙ sym (rw (both, w.0) (or_true (is_in b (take k xs)) old))
      | inr w ↦ get_or-set_other marks t b true false w.1 ∙ so_far ∙ sym (rw (both, w.0) (or_false (is_in b (take k xs)) old))
    ]

pub all_marked : (marks : List Bool) (xs : List ℕ) (k b : ℕ) (old : Bool) → None ≡ slice_get xs k →
    get_or marks b false ≡ (is_in b (take k xs) || old) → get_or marks b false ≡ (is_in b xs || old)
all_marked marks xs k b old h so_far = so_far ∙ ap (λ ys. is_in b ys || old) (take_all k xs (none_is_past xs k h))

pub order_in_range : (f : Function) (order : List BlockId) → IsOrder f order → (i : ℕ) (d : BlockId) → i < length order →
    (get_or order i d).0 < length f.blocks
order_in_range f order o i d h =
    let at : slice_get (numbers order) i ≡ Some (get_or order i d).0 =
    slice_get-map (λ b. b.0) order i ∙ ap (option_map (λ b. b.0)) (slice_get-get_or order i d h) in
    found_is_block o.visits (get_or order i d).0 (in_from_place (numbers order) i (get_or order i d).0 at)

-- one more block of the order, where the marks are those of the blocks after it
pub record AreHeads (f : Function) (order : List BlockId) (place : ℕ) (marks heads : List Bool) : Type 0 where
  pub marked : length marks ≡ length f.blocks
  pub whole : length heads ≡ length order
  pub from_place : drop place heads ≡ heads_of f (drop place order)
  pub edges : (b : ℕ) → b < length f.blocks → get_or marks b false ≡ has_edge_from f (drop place order) b

pub heads_step : (f : Function) (order : List BlockId) (p place : ℕ) (o : BlockId) (marks marks' heads : List Bool) (v : Bool) →
    place ≡ p + 1 → place ≤ length order → drop p order ≡ o ∷ drop (p + 1) order → o.0 < length f.blocks →
    length marks' ≡ length marks →
    ((b : ℕ) → b < length marks → get_or marks' b false ≡ (is_in b (successors f o.0) || get_or marks b false)) →
    v ≡ get_or marks' o.0 v → AreHeads f order place marks heads → AreHeads f order p marks' (set heads p v)
heads_step f order p place o marks marks' heads v e within front in_range same step is so_far =
    let later = drop (p + 1) order in
    let known : (b : ℕ) → b < length f.blocks → get_or marks' b false ≡ has_edge_from f (drop p order) b =
    λ b l. step b (omega (arith, so_far.marked))
    ∙ ap (λ x. is_in b (successors f o.0) || x) (so_far.edges b l ∙ ap (λ n. has_edge_from f (drop n order) b) e)
    ∙ ap (λ bs. has_edge_from f bs b) (sym front) in
    let in_heads : p < length heads = omega (arith, so_far.whole) in
    let in_set : p < length (set heads p v) = omega (arith, so_far.whole, length-set heads p v) in
    let next : p < p + 1 = omega arith in
    let head : v ≡ has_edge_from f (o ∷ later) o.0 =
    get_or_read marks' o.0 v (omega (arith, so_far.marked)) is false ∙ known o.0 in_range ∙ ap (λ bs. has_edge_from f bs o.0) front in
    record {
      marked = same ∙ so_far.marked;
      whole = length-set heads p v ∙ so_far.whole;
      from_place = drop_more (set heads p v) p false in_set
          ∙ ap₂ (λ (x : Bool) (xs : List Bool). x ∷ xs) (get_or-set_same heads p v false in_heads) (drop-set-lt (p + 1) heads p v next)
          ∙ ap₂ (λ (x : Bool) (xs : List Bool). x ∷ xs) head (ap (λ n. drop n heads) (sym e) ∙ so_far.from_place ∙ ap (λ n. heads_of f (drop n order)) e)
          ∙ ap (heads_of f) (sym front);
      edges = known;
    }
