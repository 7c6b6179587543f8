-- The ids of a printable function are in range, and what they are shown by is not empty.
use Rattle.std.proofs.Common.{◌≡◌, ◌∙◌, slice_get, zero, suc, ℕ, ◌<◌, ◌≤◌, List, [], ◌∷◌, length, map, flat_map, filter_map, get_or, All, Option, Some, None, decimal, refl, sym, ap, subst, arith}
use Rattle.std.specs.List.{AllByRecursion, range_with_len}
use Rattle.std.proofs.lemmas.List.{get_or-take, get_or-map, get_or_append_left, length-map, length-append, length-take-le}
use Rattle.std.proofs.lemmas.List.Elements.{recursion_from_All, All-from_get_or}
use Rattle.std.proofs.lemmas.List.FromFn.{get_or-range_with_len, get_or-map-range_with_len, length-range_with_len}
use Rattle.std.proofs.lemmas.Option.{unwrap_or-slice_get, slice_get-get_or}
use Rattle.vfa_ir.specs.declared.functions.Function.{Function}
use Rattle.vfa_ir.specs.declared.functions.Param.{Param}
use Rattle.vfa_ir.specs.declared.functions.Value.{Value}
use Rattle.vfa_ir.specs.declared.numbering.Local.{Local}
use Rattle.vfa_ir.specs.declared.operations.Ty.{Ty}
use Rattle.vfa_ir.specs.Grammar.{IsWidth}
use Rattle.vfa_ir.specs.Printable.{IsPrintable, IsKeptName, IsIntegerType, PrintableCall, kept_names, ids_of, block_call_places, block_ids, call_places}
use Rattle.vfa_ir.specs.Resolution.{Scope}
use Rattle.vfa_ir.specs.Shown.{name_of, number_of, shown_name, shown_value_name, shown_block_name}
use Rattle.vfa_print.specs.Trees.{shown_scope, name_at, width_of, width_at}
use Rattle.vfa_print.proofs.EachElement.{each_parts, each_gathered, given_at}
use Rattle.vfa_print.proofs.SignedTexts.{decimal_some}

abbrev pub IsSomeName : List ℕ → Type 0
IsSomeName name = name ≡ [] → ⊥

-- each value and each block of the function has a name in the scope
pub record HasNames (f : Function) (scope : Scope) : Type 0 where
  pub values : (v : ℕ) → v < length f.values → IsSomeName (name_at scope.values v)
  pub blocks : (b : ℕ) → b < length f.blocks → IsSomeName (name_at scope.blocks b)

pub place_some : {X : Type 0} (xs : List X) (k : ℕ) → k < length xs → slice_get xs k ≡ None → ⊥
place_some [] k lt e = absurd (omega arith)
place_some (x ∷ xs) zero lt e = cc
place_some (x ∷ xs) (suc k) lt e = place_some xs k (omega arith) e

module _ (f : Function) (printable : IsPrintable f) where
  kept_values : AllByRecursion IsKeptName (filter_map (λ v. v.name) f.values)
  kept_values = (each_parts IsKeptName (filter_map (λ v. v.name) f.values) (filter_map (λ b. b.name) f.blocks)
      (recursion_from_All IsKeptName (kept_names f) printable.names)).0

  kept_blocks : AllByRecursion IsKeptName (filter_map (λ b. b.name) f.blocks)
  kept_blocks = (each_parts IsKeptName (filter_map (λ v. v.name) f.values) (filter_map (λ b. b.name) f.blocks)
      (recursion_from_All IsKeptName (kept_names f) printable.names)).1

  kept_name_is : (local : Local) (name : List ℕ) → name_of f local ≡ Some name → IsKeptName name
  kept_name_is (Local.Value v) name e = given_at IsKeptName (λ v. v.name) f.values v name kept_values e
  kept_name_is (Local.Block b) name e = given_at IsKeptName (λ b. b.name) f.blocks b name kept_blocks e

  pub shown_some : (local : Local) → IsSomeName (shown_name f local)
  shown_some local = go (name_of f local) refl
    where
      go :
          (o : Option (List ℕ)) → name_of f local ≡ o →
          IsSomeName (elim o [ None ↦ decimal (number_of f local) | Some name ↦ name ])
      go None e = decimal_some (number_of f local)
      go (Some name) e = (kept_name_is local name e).some

  shown_at :
      (show : ℕ → List ℕ) (n k : ℕ) → ((i : ℕ) → IsSomeName (show i)) → k < n →
      IsSomeName (name_at (map show (range_with_len 0 n)) k)
  shown_at show n k some lt =
      let is : name_at (map show (range_with_len 0 n)) k ≡ show k =
      unwrap_or-slice_get (map show (range_with_len 0 n)) k [] ∙ get_or-map-range_with_len show 0 n k k [] lt (omega arith)
      in
      subst IsSomeName (sym is) (some k)

  pub has_names : HasNames f (shown_scope f)
  has_names = record {
    values = λ v lt. shown_at (shown_value_name f) (length f.values) v (λ i. shown_some (Local.Value i)) lt;
    blocks = λ b lt. shown_at (shown_block_name f) (length f.blocks) b (λ i. shown_some (Local.Block i)) lt;
  }

  -- ids
  abbrev IsValue : ℕ → Type 0
  IsValue v = v < length f.values

  range_inside : All IsValue (range_with_len 0 (length f.values))
  range_inside = All-from_get_or IsValue (range_with_len 0 (length f.values)) 0
      (λ i lt. let long = length-range_with_len 0 (length f.values) in
      let within : i < length f.values = omega arith in
      let is = get_or-range_with_len 0 (length f.values) i 0 within in
      omega arith)

  ids_inside : AllByRecursion IsValue (ids_of f)
  ids_inside = recursion_from_All IsValue (ids_of f) (subst (All IsValue) (sym printable.ids) range_inside)

  pub block_ids_inside : AllByRecursion (λ b. AllByRecursion IsValue (block_ids b)) f.blocks
  block_ids_inside = each_gathered IsValue block_ids f.blocks
      (each_parts IsValue (map (λ p. p.value.0) f.params) (flat_map block_ids f.blocks) ids_inside).1

  -- the calls, and their places
  pub each_call : AllByRecursion (PrintableCall f) f.calls
  each_call = recursion_from_All (PrintableCall f) f.calls printable.calls

  abbrev IsPlace : ℕ → Type 0
  IsPlace k = k < length f.calls

  places_inside : All IsPlace (range_with_len 0 (length f.calls))
  places_inside = All-from_get_or IsPlace (range_with_len 0 (length f.calls)) 0
      (λ i lt. let long = length-range_with_len 0 (length f.calls) in
      let within : i < length f.calls = omega arith in
      let is = get_or-range_with_len 0 (length f.calls) i 0 within in
      omega arith)

  pub call_places_inside : AllByRecursion (λ b. AllByRecursion IsPlace (block_call_places b)) f.blocks
  call_places_inside = each_gathered IsPlace block_call_places f.blocks
      (recursion_from_All IsPlace (call_places f) (subst (All IsPlace) (sym printable.call_places) places_inside))

  -- a parameter is the value of its own place
  params_within : length f.params ≤ length f.values
  params_within =
      let ids : List ℕ = map (λ p. p.value.0) f.params in
      let whole : length (ids_of f) ≡ length f.values = ap length printable.ids ∙ length-range_with_len 0 (length f.values) in
      let parts = length-append ids (flat_map block_ids f.blocks) in
      let prefix = length-map f.params (λ p. p.value.0) in
      omega arith

  param_place : (k : ℕ) (d : Param) → k < length f.params → (get_or f.params k d).value.0 ≡ k
  param_place k d lt =
      let ids : List ℕ = map (λ p. p.value.0) f.params in
      let prefix : length ids ≡ length f.params = length-map f.params (λ p. p.value.0) in
      let within : k < length f.values = let le = params_within in omega arith in
      sym (get_or-map (λ p. p.value.0) f.params k d 0 lt)
      ∙ sym (get_or_append_left ids (flat_map block_ids f.blocks) 0 k (omega arith))
      ∙ ap (λ l. get_or l k 0) printable.ids ∙ get_or-range_with_len 0 (length f.values) k 0 within ∙ omega arith

  integer_width : (ty : Ty) → IsIntegerType ty → IsWidth (width_of ty)
  integer_width (Ty.Int width) h = h
  integer_width (Ty.Pair width) h = absurd h

  width_at_is : (k : ℕ) (d : Value) → k < length f.values → width_at f.values k ≡ width_of (get_or f.values k d).ty
  width_at_is k d lt = rw (slice_get-get_or f.values k d lt, width_at) refl

  place_width : (k : ℕ) → k < length f.params → IsWidth (width_at f.values k)
  place_width k lt = go f.values refl
    where
      le : length f.params ≤ length f.values
      le = params_within

      at : (d : Value) → IsWidth (width_at f.values k)
      at d =
          let within : length f.params ≤ length f.values = le in
          let long = length-take-le (length f.params) f.values le in
          let ty = printable.types.parameters k d (omega arith) in
          let is = get_or-take (length f.params) f.values k d lt in
          let int : IsIntegerType (get_or f.values k d).ty = subst (λ v. IsIntegerType v.ty) is ty in
          subst IsWidth (sym (width_at_is k d (omega arith))) (integer_width (get_or f.values k d).ty int)

      go : (vs : List Value) → f.values ≡ vs → IsWidth (width_at f.values k)
      go [] e = let none = ap length e in let within : length f.params ≤ length f.values = le in absurd (omega arith)
      go (v ∷ vs) e = at v

  abbrev pub IsParameter : Param → Type 0
  IsParameter p = IsWidth (width_at f.values p.value.0) × (p.value.0 < length f.values)

  pub each_parameter : AllByRecursion IsParameter f.params
  each_parameter = recursion_from_All IsParameter f.params
      (λ k d lt. let place : (get_or f.params k d).value.0 ≡ k = param_place k d lt in
      let le = params_within in
      (subst (λ v. IsWidth (width_at f.values v)) (sym place) (place_width k lt), omega arith))
