-- A question names one value and one place of a function.
use Rattle.std.proofs.Common.{◌≡◌, ◌<◌, ◌≤◌, ◌^◌, ℕ, Option, Some, None, List, [], bytes_eq, get_or, length, sym, ap, subst, ◌∙◌, arith}
use Rattle.std.proofs.lemmas.List.FromFn.{get_or-map-range_with_len, length-map-range_with_len}
use Rattle.std.proofs.lemmas.List.Quantifiers.{position-Some}
use Rattle.std.proofs.lemmas.Option.{same_Some}
use Rattle.std.proofs.lemmas.Slice.Eq.{bytes_eq-Decides}
use Rattle.vfa_ir.specs.declared.functions.Function.{Function}
use Rattle.vfa_ir.specs.declared.operations.BlockId.{BlockId}
use Rattle.vfa_ir.specs.declared.operations.ValueId.{ValueId}
use Rattle.vfa_ir.specs.Resolution.{Scope}
use Rattle.vfa_ir.specs.Shown.{shown_block_name, shown_value_name}
use Rattle.vfa_print.specs.Trees.{shown_scope}
use Rattle.vfa_check.specs.Checked.{IsSmall}
use Rattle.vfa_lazy.specs.declared.questions.Place.{Place}
use Rattle.vfa_lazy.specs.Questions.{IsAskedOf}
use Rattle.vfa_opt.specs.declared.questions.Question.{Question}
use Rattle.vfa_opt.specs.Asked.{Concerns, HasValue, IsPlaceNamed, block_named, place_in, value_named}

pub apart : {A X : Type 0} {x : A} → ◌≡◌ {A = Option A} None (Some x) → X
apart e = absurd (let never = e in cc)

-- ---- names

pub stands_at : (name : List ℕ) (names : List (List ℕ)) (i : ℕ) → place_in name names ≡ Some i → name ≡ get_or names i []
stands_at name names i e = (bytes_eq-Decides name (get_or names i [])).0 (position-Some (bytes_eq name) names i [] e).1

pub stands_within : (name : List ℕ) (names : List (List ℕ)) (i : ℕ) → place_in name names ≡ Some i → i < length names
stands_within name names i e = (position-Some (bytes_eq name) names i [] e).0

pub value_within : (f : Function) (name : List ℕ) (v : ℕ) → value_named f name ≡ Some v → v < length f.values
value_within f name v e =
    subst (λ n. v < n) (length-map-range_with_len (shown_value_name f) 0 (length f.values)) (stands_within name _ v e)

pub block_within : (f : Function) (name : List ℕ) (b : ℕ) → block_named f name ≡ Some b → b < length f.blocks
block_within f name b e =
    subst (λ n. b < n) (length-map-range_with_len (shown_block_name f) 0 (length f.blocks)) (stands_within name _ b e)

-- a function that was checked has few of them
pub few_values : (f : Function) (scope : Scope) → scope ≡ shown_scope f → IsSmall f → length scope.values ≤ 2 ^ 28
few_values f scope is small =
    let same = ap (λ (s : Scope). length s.values) is ∙ length-map-range_with_len (shown_value_name f) 0 (length f.values) in
    let few = small.values in
    omega (arith, same, few)

pub few_blocks : (f : Function) (scope : Scope) → scope ≡ shown_scope f → IsSmall f → length scope.blocks ≤ 2 ^ 28
few_blocks f scope is small =
    let same = ap (λ (s : Scope). length s.blocks) is ∙ length-map-range_with_len (shown_block_name f) 0 (length f.blocks) in
    let few = small.few.blocks in
    omega (arith, same, few)

-- a value is shown by the name that it was found by
pub value_shown : (f : Function) (name : List ℕ) (v : ℕ) → value_named f name ≡ Some v → name ≡ shown_value_name f v
value_shown f name v e =
    stands_at name _ v e ∙ get_or-map-range_with_len (shown_value_name f) 0 (length f.values) v v [] (value_within f name v e) (omega arith)

-- ---- places

pub asked_place : (f : Function) (q : Question) (place : Place) → IsPlaceNamed f q place → IsAskedOf f place
asked_place f q (Place.Entry b) named = block_within f q.block b.0 named.1
asked_place f q (Place.Pair p b) named = named.edge

abbrev entry_of : ℕ → Place
entry_of b = let block : BlockId = record { 0 = b } in Place.Entry block

abbrev pair_of : ℕ → ℕ → Place
pair_of p b = let from : BlockId = record { 0 = p } in let to : BlockId = record { 0 = b } in Place.Pair from to

pub one_place : (f : Function) (q : Question) (a b : Place) → IsPlaceNamed f q a → IsPlaceNamed f q b → a ≡ b
one_place f q (Place.Entry a) (Place.Entry b) m n =
    let same : a.0 ≡ b.0 = same_Some a.0 b.0 (sym m.1 ∙ n.1) in ap entry_of same
one_place f q (Place.Entry a) (Place.Pair p b) m n = apart (sym m.0 ∙ n.given)
one_place f q (Place.Pair p a) (Place.Entry b) m n = apart (sym n.0 ∙ m.given)
one_place f q (Place.Pair p a) (Place.Pair p' b) m n =
    let name : m.from ≡ n.from = same_Some m.from n.from (sym m.given ∙ n.given) in
    let from : p.0 ≡ p'.0 = same_Some p.0 p'.0 (sym m.first ∙ (ap (block_named f) name ∙ n.first)) in
    let to : a.0 ≡ b.0 = same_Some a.0 b.0 (sym m.second ∙ n.second) in
    ap (λ i. pair_of i a.0) from ∙ ap (pair_of p'.0) to

pub one_value : (f : Function) (q : Question) (v w : ℕ) (a b : Place) → Concerns f q v a → Concerns f q w b → v ≡ w
one_value f q v w a b c d = same_Some v w (sym c.value ∙ d.value)

-- ---- a value that is found

pub value_there : (f : Function) (q : Question) (scope : Scope) → scope ≡ shown_scope f → (v : ValueId) → Some v.0 ≡ place_in q.value scope.values →
    HasValue f q
value_there f q scope is v first = record { v = v.0; value = ap (λ (s : Scope). place_in q.value s.values) (sym is) ∙ sym first }
