-- The function of the tree of a function is that function.
use Rattle.std.proofs.Common.{◌≡◌, ◌∙◌, ℕ, zero, suc, ◌+◌, ◌<◌, ◌≤◌, ◌==◌, ◌&&◌, Bool, true, false, if◌then◌else◌, List, [], ◌∷◌, ◌++◌, map, flat_map, length, take, drop, Option, Some, None, is_none, is_some, count_by, option_map, option_and_then, slice_get, filter_map, refl, sym, ap, ap₂, arith, add-one, length-append, take-append-drop}
use Rattle.std.specs.List.{AllByRecursion, cons_option, range_with_len}
use Rattle.std.proofs.lemmas.List.{map-append}
use Rattle.std.proofs.lemmas.List.Elements.{filter_map-append, recursion_from_All}
use Rattle.std.proofs.lemmas.List.Sums.{sum_by-cons}
use Rattle.std.proofs.lemmas.List.FromFn.{length-range_with_len}
use Rattle.vfa_ir.specs.declared.functions.Block.{Block}
use Rattle.vfa_ir.specs.declared.functions.CallOp.{CallOp}
use Rattle.vfa_ir.specs.declared.functions.Function.{Function}
use Rattle.vfa_ir.specs.declared.functions.Inst.{Inst}
use Rattle.vfa_ir.specs.declared.functions.Param.{Param}
use Rattle.vfa_ir.specs.declared.functions.Phi.{Phi}
use Rattle.vfa_ir.specs.declared.functions.Value.{Value}
use Rattle.vfa_ir.specs.declared.numbering.Local.{Local}
use Rattle.vfa_ir.specs.declared.operations.Op.{Op}
use Rattle.vfa_ir.specs.declared.operations.Ty.{Ty}
use Rattle.vfa_ir.specs.declared.operations.ValueId.{ValueId}
use Rattle.vfa_ir.specs.declared.syntax.Operation.{Operation}
use Rattle.vfa_ir.specs.DefinedNames.{kept_name}
use Rattle.vfa_ir.specs.Grammar.{IsWidth}
use Rattle.vfa_ir.specs.Printable.{IsBlock, IsIntegerType, IsOperand, IsPrintable, PrintableBlock, PrintableInst, PrintablePhi, block_call_places, block_ids, call_place, block_types, inst_ids, inst_types, op_type}
use Rattle.vfa_ir.specs.Resolution.{Scope, block_calls, block_id, block_of, block_values, blocks_of, call_count, function_of, instruction_calls, instruction_value, insts_of, is_call, operand_of, operation_type, parameter_value, params_from, phi_of, phi_value, scope_of, value_id, value_of}
use Rattle.vfa_ir.specs.Shown.{shown_block_name, shown_value_name}
use Rattle.vfa_print.specs.Trees.{block_tree, blocks_tree, call_tree, entry_tree, inst_tree, label_tree, name_at, op_tree, parameter_tree, phi_tree, shown_scope, tree_of, width_at, width_of}
use Rattle.vfa_print.proofs.NameNumbers.{by_place, shifted}
use Rattle.vfa_print.proofs.OperationsBack.{block_back, made_back, op_back, operand_back, term_back, value_back}
use Rattle.vfa_print.proofs.ShownNames.{HasFewNames, kept_shown, one_if}
use Rattle.vfa_print.proofs.TreeNames.{AreWithin, all_parts, ids_within, names_of_range, tree_scope}
use Rattle.vfa_print.proofs.NamesInScope.{call_places_inside}
use Rattle.vfa_print.proofs.EachElement.{each_given}
use Rattle.vfa_print.proofs.TreeUses.{Entry}

-- parameters are the first values
params_back :
    (scope : Scope) (values : List Value) (place n : ℕ) (ps : List Param) (rest : List ℕ) →
    map (λ p. p.value.0) ps ++ rest ≡ range_with_len place n → params_from place (map (parameter_tree scope values) ps) ≡ ps
params_back scope values place n [] rest e = refl
params_back scope values place zero (p ∷ ps) rest e = cc
params_back scope values place (suc n) (p ∷ ps) rest e =
    let here : p.value.0 ≡ place = cc in
    let left : map (λ p. p.value.0) ps ++ rest ≡ range_with_len (place + 1) n = cc in
    let more = ap (λ k. params_from k (map (parameter_tree scope values) ps)) (sym (add-one place)) ∙ params_back scope values (place + 1) n ps rest left in
    let at : place ≡ p.value.0 = sym here in
    λ i. record { value = record { 0 = at i }; words = p.words } ∷ more i

-- the prefix of a range is a range
prefix_of_range : (a n : ℕ) (xs rest : List ℕ) → xs ++ rest ≡ range_with_len a n → xs ≡ range_with_len a (length xs)
prefix_of_range a n [] rest e = refl
prefix_of_range a zero (x ∷ xs) rest e = cc
prefix_of_range a (suc n) (x ∷ xs) rest e =
    let here : x ≡ a = cc in
    let left : xs ++ rest ≡ range_with_len (a + 1) n = cc in
    ap₂ (λ x xs. x ∷ xs) here (prefix_of_range (a + 1) n xs rest left)

same_values : (xs ys : List Value) → map (λ v. v.name) xs ≡ map (λ v. v.name) ys → map (λ v. v.ty) xs ≡ map (λ v. v.ty) ys → xs ≡ ys
same_values [] [] names types = refl
same_values [] (y ∷ ys) names types = cc
same_values (x ∷ xs) [] names types = cc
same_values (x ∷ xs) (y ∷ ys) names types =
    let name : x.name ≡ y.name = cc in
    let ty : x.ty ≡ y.ty = cc in
    let more_names : map (λ v. v.name) xs ≡ map (λ v. v.name) ys = cc in
    let more_types : map (λ v. v.ty) xs ≡ map (λ v. v.ty) ys = cc in
    let left = same_values xs ys more_names more_types in
    λ i. record { name = name i; ty = ty i } ∷ left i

map-map : {X Y Z : Type 0} (g : Y → Z) (h : X → Y) (xs : List X) → map g (map h xs) ≡ map (λ x. g (h x)) xs
map-map g h [] = refl
map-map g h (x ∷ xs) = ap (λ l. g (h x) ∷ l) (map-map g h xs)

map-agree : {X Y : Type 0} (g h : X → Y) → ((x : X) → g x ≡ h x) → (xs : List X) → map g xs ≡ map h xs
map-agree g h same [] = refl
map-agree g h same (x ∷ xs) = ap₂ (λ y ys. y ∷ ys) (same x) (map-agree g h same xs)

-- a range that is not empty
record RangeParts (n first : ℕ) (others : List ℕ) : Type 0 where
  left : ℕ
  same : first ≡ n
  rest : others ≡ range_with_len (suc n) left

range_parts : (n m first : ℕ) (others : List ℕ) → first ∷ others ≡ range_with_len n m → RangeParts n first others
range_parts n zero first others e = cc
range_parts n (suc m) first others e =
    let one : n + 1 ≡ suc n = add-one n in
    let left : others ≡ range_with_len (n + 1) m = cc in
    record { left = m; same = cc; rest = left ∙ ap (λ k. range_with_len k m) one }

-- and its rest after so many
record RangeRest (n : ℕ) (others : List ℕ) : Type 0 where
  left : ℕ
  rest : others ≡ range_with_len n left

range_rest : (n m : ℕ) (xs others : List ℕ) → xs ++ others ≡ range_with_len n m → RangeRest (n + length xs) others
range_rest n m [] others e = let same : n + 0 ≡ n = omega arith in record { left = m; rest = e ∙ ap (λ k. range_with_len k m) (sym same) }
range_rest n m (x ∷ xs) others e =
    let parts = range_parts n m x (xs ++ others) e in
    let rest = range_rest (suc n) parts.left xs others parts.rest in
    let same : suc n + length xs ≡ n + suc (length xs) = omega arith in
    record { left = rest.left; rest = rest.rest ∙ ap (λ k. range_with_len k rest.left) same }

abbrev is_call_operation : Operation → Bool
is_call_operation o = elim o [ Operation.Call _ _ _ _ _ ↦ true | _ ↦ false ]

-- the names and the types of what the tree defines
module _ (scope : Scope) (calls : List CallOp) where
  abbrev kept_at : ℕ → Option (List ℕ)
  kept_at v = kept_name (name_at scope.values v)

  phi_names : (ps : List Phi) → map (λ v. v.name) (map phi_value (map (phi_tree scope) ps)) ≡ map kept_at (map (λ p. p.result.0) ps)
  phi_names [] = refl
  phi_names (p ∷ ps) = ap (λ l. kept_at p.result.0 ∷ l) (phi_names ps)

  phi_types : (ps : List Phi) → map (λ v. v.ty) (map phi_value (map (phi_tree scope) ps)) ≡ map (λ p. Ty.Int p.width) ps
  phi_types [] = refl
  phi_types (p ∷ ps) = ap (λ l. Ty.Int p.width ∷ l) (phi_types ps)

  inst_names : (is : List Inst) → map (λ v. v.name) (filter_map instruction_value (map (inst_tree scope calls) is)) ≡ map kept_at (inst_ids is)
  inst_names [] = refl
  inst_names (i ∷ is) = by i.result (inst_names is)
    where
      rest : List Value
      rest = filter_map instruction_value (map (inst_tree scope calls) is)

      ty : Ty
      ty = operation_type (op_tree scope calls i.op)

      by :
          (r : Option ValueId) → map (λ v. v.name) rest ≡ map kept_at (inst_ids is) →
          map (λ v. v.name) (cons_option (option_map (λ name. value_of name ty) (option_map (λ v. name_at scope.values v.0) r)) rest)
          ≡ map kept_at (cons_option (elim r [ None ↦ None | Some v ↦ Some v.0 ]) (inst_ids is))
      by None e = e
      by (Some v) e = ap (λ l. kept_at v.0 ∷ l) e

  type_back : (op : Op) → operation_type (op_tree scope calls op) ≡ op_type op
  type_back (Op.Bin bin flags width a b) = refl
  type_back (Op.Icmp pred samesign width a b) = refl
  type_back (Op.Select width c a b) = refl
  type_back (Op.Cast cast flags from to a) = refl
  type_back (Op.Freeze width a) = refl
  type_back (Op.Two fun width a b) = refl
  type_back (Op.One fun width a strict) = refl
  type_back (Op.Over over width a b) = refl
  type_back (Op.Part width pair index) = refl
  type_back (Op.Assume c) = refl
  type_back (Op.Call width place) = by (slice_get calls place)
    where
      by : (o : Option CallOp) → operation_type (call_tree scope width o) ≡ op_type (Op.Call width place)
      by None = refl
      by (Some c) = refl

  instruction_types : (is : List Inst) → map (λ v. v.ty) (filter_map instruction_value (map (inst_tree scope calls) is)) ≡ inst_types is
  instruction_types [] = refl
  instruction_types (i ∷ is) = by i.result (instruction_types is)
    where
      rest : List Value
      rest = filter_map instruction_value (map (inst_tree scope calls) is)

      by :
          (r : Option ValueId) → map (λ v. v.ty) rest ≡ inst_types is →
          map (λ v. v.ty) (cons_option (option_map (λ name. value_of name (operation_type (op_tree scope calls i.op))) (option_map (λ v. name_at scope.values v.0) r)) rest)
          ≡ cons_option (elim r [ None ↦ None | Some _ ↦ Some (op_type i.op) ]) (inst_types is)
      by None e = e
      by (Some v) e = ap₂ (λ t l. t ∷ l) (type_back i.op) e

  block_value_names : (place : ℕ) (b : Block) → map (λ v. v.name) (block_values (block_tree scope calls place b)) ≡ map kept_at (block_ids b)
  block_value_names place b =
      map-append (λ v. v.name) (map phi_value (map (phi_tree scope) b.phis)) (filter_map instruction_value (map (inst_tree scope calls) b.insts))
      ∙ ap₂ (λ x y. x ++ y) (phi_names b.phis) (inst_names b.insts)
      ∙ sym (map-append kept_at (map (λ p. p.result.0) b.phis) (inst_ids b.insts))

  block_value_types : (place : ℕ) (b : Block) → map (λ v. v.ty) (block_values (block_tree scope calls place b)) ≡ block_types b
  block_value_types place b =
      map-append (λ v. v.ty) (map phi_value (map (phi_tree scope) b.phis)) (filter_map instruction_value (map (inst_tree scope calls) b.insts))
      ∙ ap₂ (λ x y. x ++ y) (phi_types b.phis) (instruction_types b.insts)

  blocks_value_names : (place : ℕ) (bs : List Block) → map (λ v. v.name) (flat_map block_values (blocks_tree scope calls place bs)) ≡ map kept_at (flat_map block_ids bs)
  blocks_value_names place [] = refl
  blocks_value_names place (b ∷ bs) =
      map-append (λ v. v.name) (block_values (block_tree scope calls place b)) (flat_map block_values (blocks_tree scope calls (suc place) bs))
      ∙ ap₂ (λ x y. x ++ y) (block_value_names place b) (blocks_value_names (suc place) bs)
      ∙ sym (map-append kept_at (block_ids b) (flat_map block_ids bs))

  blocks_value_types : (place : ℕ) (bs : List Block) → map (λ v. v.ty) (flat_map block_values (blocks_tree scope calls place bs)) ≡ flat_map block_types bs
  blocks_value_types place [] = refl
  blocks_value_types place (b ∷ bs) =
      map-append (λ v. v.ty) (block_values (block_tree scope calls place b)) (flat_map block_values (blocks_tree scope calls (suc place) bs))
      ∙ ap₂ (λ x y. x ++ y) (block_value_types place b) (blocks_value_types (suc place) bs)

  parameter_names_back : (values : List Value) (ps : List Param) → map (λ v. v.name) (map parameter_value (map (parameter_tree scope values) ps)) ≡ map kept_at (map (λ p. p.value.0) ps)
  parameter_names_back values [] = refl
  parameter_names_back values (p ∷ ps) = ap (λ l. kept_at p.value.0 ∷ l) (parameter_names_back values ps)

  parameter_types : (values : List Value) (ps : List Param) → map (λ v. v.ty) (map parameter_value (map (parameter_tree scope values) ps)) ≡ map (λ i. Ty.Int (width_at values i)) (map (λ p. p.value.0) ps)
  parameter_types values [] = refl
  parameter_types values (p ∷ ps) = ap (λ l. Ty.Int (width_at values p.value.0) ∷ l) (parameter_types values ps)

integer_type : (ty : Ty) → IsIntegerType ty → Ty.Int (width_of ty) ≡ ty
integer_type (Ty.Int width) h = refl
integer_type (Ty.Pair width) h = absurd h

integer_types :
    (values : List Value) (k : ℕ) → k ≤ length values → AllByRecursion (λ v. IsIntegerType v.ty) (take k values) →
    map (λ i. Ty.Int (width_at values i)) (range_with_len 0 k) ≡ map (λ v. v.ty) (take k values)
integer_types values zero h all = refl
integer_types [] (suc k) h all = absurd (omega arith)
integer_types (v ∷ values) (suc k) h all =
    ap₂ (λ x l. x ∷ l) (integer_type v.ty all.0)
    (shifted (λ i. Ty.Int (width_at (v ∷ values) i)) 0 k ∙ integer_types values k (omega arith) all.1)

module _ (f : Function) (printable : IsPrintable f) (few : HasFewNames f) where
  -- the parameters are the first values
  parameter_range : map (λ p. p.value.0) f.params ≡ range_with_len 0 (length f.params)
  parameter_range =
      prefix_of_range 0 (length f.values) (map (λ p. p.value.0) f.params) (flat_map block_ids f.blocks) printable.ids
      ∙ ap (range_with_len 0) (length-map (λ p. p.value.0) f.params)
    where
      length-map : {X Y : Type 0} (g : X → Y) (xs : List X) → length (map g xs) ≡ length xs
      length-map g [] = refl
      length-map g (x ∷ xs) = ap (λ n. suc n) (length-map g xs)

  fewer_parameters : length f.params ≤ length f.values
  fewer_parameters =
      let params = map (λ p. p.value.0) f.params in
      let results = flat_map block_ids f.blocks in
      let all = sym (length-append params results) ∙ ap length printable.ids ∙ length-range_with_len 0 (length f.values) in
      let prefix = ap length parameter_range ∙ length-range_with_len 0 (length f.params) in
      omega (arith, all, prefix)

  value_name_back : (v : ℕ) → kept_name (shown_value_name f v) ≡ option_and_then (λ x. x.name) (slice_get f.values v)
  value_name_back v = kept_shown f printable (Local.Value v)

  block_name_back : (b : ℕ) → kept_name (shown_block_name f b) ≡ option_and_then (λ x. x.name) (slice_get f.blocks b)
  block_name_back b = kept_shown f printable (Local.Block b)

  kept_value_names : map (kept_at (shown_scope f) f.calls) (range_with_len 0 (length f.values)) ≡ map (λ v. v.name) f.values
  kept_value_names =
      let n = length f.values in
      let names = (shown_scope f).values in
      sym (map-map kept_name (name_at names) (range_with_len 0 n))
      ∙ ap (map kept_name) (names_of_range (shown_value_name f) n)
      ∙ map-map kept_name (shown_value_name f) (range_with_len 0 n)
      ∙ map-agree (λ v. kept_name (shown_value_name f v)) (λ v. option_and_then (λ x. x.name) (slice_get f.values v)) value_name_back (range_with_len 0 n)
      ∙ by_place (λ x. x.name) f.values

  kept_block_names : map (λ b. kept_name (name_at (shown_scope f).blocks b)) (range_with_len 0 (length f.blocks)) ≡ map (λ b. b.name) f.blocks
  kept_block_names =
      let n = length f.blocks in
      let names = (shown_scope f).blocks in
      sym (map-map kept_name (name_at names) (range_with_len 0 n))
      ∙ ap (map kept_name) (names_of_range (shown_block_name f) n)
      ∙ map-map kept_name (shown_block_name f) (range_with_len 0 n)
      ∙ map-agree (λ b. kept_name (shown_block_name f b)) (λ b. option_and_then (λ x. x.name) (slice_get f.blocks b)) block_name_back (range_with_len 0 n)
      ∙ by_place (λ x. x.name) f.blocks

  values_back : map parameter_value (tree_of f).parameters ++ flat_map block_values (tree_of f).blocks ≡ f.values
  values_back =
      let scope = shown_scope f in
      let parameters = map parameter_value (tree_of f).parameters in
      let results = flat_map block_values (tree_of f).blocks in
      let ids = map (λ p. p.value.0) f.params in
      let k = length f.params in
      let names : map (λ v. v.name) (parameters ++ results) ≡ map (λ v. v.name) f.values =
      map-append (λ v. v.name) parameters results
      ∙ ap₂ (λ x y. x ++ y) (parameter_names_back scope f.calls f.values f.params) (blocks_value_names scope f.calls 0 f.blocks)
      ∙ sym (map-append (kept_at scope f.calls) ids (flat_map block_ids f.blocks))
      ∙ ap (map (kept_at scope f.calls)) printable.ids ∙ kept_value_names in
      let integers = integer_types f.values k fewer_parameters (recursion_from_All (λ v. IsIntegerType v.ty) (take k f.values) printable.types.parameters) in
      let types : map (λ v. v.ty) (parameters ++ results) ≡ map (λ v. v.ty) f.values =
      map-append (λ v. v.ty) parameters results
      ∙ ap₂ (λ x y. x ++ y)
      (parameter_types scope f.calls f.values f.params ∙ ap (map (λ i. Ty.Int (width_at f.values i))) parameter_range ∙ integers)
      (blocks_value_types scope f.calls 0 f.blocks ∙ sym printable.types.results)
      ∙ sym (map-append (λ v. v.ty) (take k f.values) (drop k f.values))
      ∙ ap (map (λ v. v.ty)) (take-append-drop k f.values) in
      same_values (parameters ++ results) f.values names types

  -- blocks
  entries_back :
      (width : ℕ) (es : List Entry) → IsWidth width → AllByRecursion (λ e. IsOperand f width e.0 × IsBlock f e.1) es →
      map (λ i. (operand_of (shown_scope f) width i.value, block_id (shown_scope f) i.block)) (map (entry_tree (shown_scope f) width) es) ≡ es
  entries_back width [] w h = refl
  entries_back width (e ∷ es) w h =
      let value = operand_back f printable few width e.0 w h.0.0 in
      let block = block_back f printable few e.1 h.0.1 in
      let left = entries_back width es w h.1 in
      λ i. (value i, block i) ∷ left i

  phi_back : (p : Phi) → PrintablePhi f p → p.result.0 < length f.values → phi_of (shown_scope f) (phi_tree (shown_scope f) p) ≡ p
  phi_back p h within =
      let scope = shown_scope f in
      let result = value_back f printable few p.result within in
      let entries = entries_back p.width p.entries h.width (recursion_from_All (λ e. IsOperand f p.width e.0 × IsBlock f e.1) p.entries h.entries) in
      λ i. record { result = result i; width = p.width; entries = entries i }

  phis_back :
      (ps : List Phi) → AllByRecursion (PrintablePhi f) ps → AreWithin (length f.values) (map (λ p. p.result.0) ps) →
      map (phi_of (shown_scope f)) (map (phi_tree (shown_scope f)) ps) ≡ ps
  phis_back [] h within = refl
  phis_back (p ∷ ps) h within = ap₂ (λ x l. x ∷ l) (phi_back p h.0 within.0) (phis_back ps h.1 within.1)

  -- an operation is a call in the tree where it is one
  called : (op : Op) → is_call_operation (op_tree (shown_scope f) f.calls op) ≡ is_some (call_place op)
  called (Op.Bin _ _ _ _ _) = refl
  called (Op.Icmp _ _ _ _ _) = refl
  called (Op.Select _ _ _ _) = refl
  called (Op.Cast _ _ _ _ _) = refl
  called (Op.Freeze _ _) = refl
  called (Op.Two _ _ _ _) = refl
  called (Op.One _ _ _ _) = refl
  called (Op.Over _ _ _ _) = refl
  called (Op.Part _ _ _) = refl
  called (Op.Assume _) = refl
  called (Op.Call width place) = by (slice_get f.calls place)
    where
      by : (o : Option CallOp) → is_call_operation (call_tree (shown_scope f) width o) ≡ true
      by None = refl
      by (Some c) = refl

  -- the calls among instructions are the next ones
  insts_back :
      (n m : ℕ) (is : List Inst) (rest : List ℕ) → AllByRecursion (PrintableInst f) is →
      AreWithin (length f.values) (inst_ids is) → filter_map (λ i. call_place i.op) is ++ rest ≡ range_with_len n m →
      insts_of (shown_scope f) n (map (inst_tree (shown_scope f) f.calls) is) ≡ is
  insts_back n m [] rest h within places = refl
  insts_back n m (j ∷ is) rest h within places =
      by_call (call_place j.op) refl places
      (λ k l e. insts_back k l is rest h.1 (others j.result within) e)
    where
      scope : Scope
      scope = shown_scope f

      result_back :
          (r : Option ValueId) → AreWithin (length f.values) (cons_option (elim r [ None ↦ None | Some v ↦ Some v.0 ]) (inst_ids is)) →
          option_map (value_id scope) (option_map (λ v. name_at scope.values v.0) r) ≡ r
      result_back None h = refl
      result_back (Some v) h = ap (λ v. Some v) (value_back f printable few v h.0)

      others :
          (r : Option ValueId) → AreWithin (length f.values) (cons_option (elim r [ None ↦ None | Some v ↦ Some v.0 ]) (inst_ids is)) →
          AreWithin (length f.values) (inst_ids is)
      others None h = h
      others (Some v) h = h.1

      first_back :
          (o : Option ℕ) → call_place j.op ≡ o → ((k : ℕ) → o ≡ Some k → k ≡ n) →
          insts_of scope n (map (inst_tree scope f.calls) (j ∷ is))
          ≡ j ∷ insts_of scope (if is_some o then suc n else n) (map (inst_tree scope f.calls) is)
      first_back o e next =
          let op = op_back f printable few n j.op h.0.op (λ k k_is. next k (sym e ∙ k_is)) in
          let result = result_back j.result within in
          let count = called j.op ∙ ap is_some e in
          λ i. record { result = result i; op = op i } ∷ insts_of scope (if count i then suc n else n) (map (inst_tree scope f.calls) is)

      by_call :
          (o : Option ℕ) → call_place j.op ≡ o → cons_option o (filter_map (λ i. call_place i.op) is) ++ rest ≡ range_with_len n m →
          ((k l : ℕ) → filter_map (λ i. call_place i.op) is ++ rest ≡ range_with_len k l →
          insts_of scope k (map (inst_tree scope f.calls) is) ≡ is) →
          insts_of scope n (map (inst_tree scope f.calls) (j ∷ is)) ≡ j ∷ is
      by_call None e places again = first_back None e (λ k k_is. cc) ∙ ap (λ l. j ∷ l) (again n m places)
      by_call (Some k) e places again =
          let parts = range_parts n m k (filter_map (λ i. call_place i.op) is ++ rest) places in
          first_back (Some k) e (λ l l_is. (let same : k ≡ l = cc in sym same ∙ parts.same))
          ∙ ap (λ l. j ∷ l) (again (suc n) parts.left parts.rest)

label_back :
    (scope : Scope) (place : ℕ) (b : Block) → kept_name (name_at scope.blocks place) ≡ b.name →
    elim (label_tree scope place b) [ None ↦ None | Some name ↦ kept_name name ] ≡ b.name
label_back scope place b e = by (place == 0) b.name e
  where
    by :
        (first : Bool) (name : Option (List ℕ)) → kept_name (name_at scope.blocks place) ≡ name →
        elim (if first && is_none name then None else Some (name_at scope.blocks place)) [ None ↦ None | Some name ↦ kept_name name ] ≡ name
    by true None e = refl
    by true (Some name) e = e
    by false None e = e
    by false (Some name) e = e

-- elements by their places
got_shifted :
    {X : Type 0} (x : X) (xs : List X) (a n : ℕ) →
    filter_map (slice_get (x ∷ xs)) (range_with_len (suc a) n) ≡ filter_map (slice_get xs) (range_with_len a n)
got_shifted x xs a zero = refl
got_shifted x xs a (suc n) =
    let at : suc a + 1 ≡ suc (a + 1) = omega arith in
    ap (λ k. cons_option (slice_get xs a) (filter_map (slice_get (x ∷ xs)) (range_with_len k n))) at
    ∙ ap (cons_option (slice_get xs a)) (got_shifted x xs (a + 1) n)

all_got : {X : Type 0} (xs : List X) → filter_map (slice_get xs) (range_with_len 0 (length xs)) ≡ xs
all_got [] = refl
all_got (x ∷ xs) =
    let one : 0 + 1 ≡ suc 0 = refl in
    ap (λ l. x ∷ l) (ap (λ k. filter_map (slice_get (x ∷ xs)) (range_with_len k (length xs))) one ∙ got_shifted x xs 0 (length xs) ∙ all_got xs)

module _ (f : Function) (printable : IsPrintable f) (few : HasFewNames f) where
  -- the calls of a block
  abbrev IsPlace : ℕ → Type 0
  IsPlace k = k < length f.calls

  abbrev got : List ℕ → List CallOp
  got = filter_map (slice_get f.calls)

  calls_of_insts :
      (is : List Inst) → AllByRecursion (λ i. (k : ℕ) → call_place i.op ≡ Some k → IsPlace k) is →
      instruction_calls (shown_scope f) (map (inst_tree (shown_scope f) f.calls) is) ≡ got (filter_map (λ i. call_place i.op) is)
  calls_of_insts [] h = refl
  calls_of_insts (i ∷ is) h =
      let made = made_back f printable few i.op h.0 in
      ap₂ cons_option made (calls_of_insts is h.1) ∙ by (call_place i.op)
    where
      by :
          (o : Option ℕ) →
          cons_option (option_and_then (slice_get f.calls) o) (got (filter_map (λ i. call_place i.op) is))
          ≡ got (cons_option o (filter_map (λ i. call_place i.op) is))
      by None = refl
      by (Some k) = refl

  got_append : (xs ys : List ℕ) → got (xs ++ ys) ≡ got xs ++ got ys
  got_append xs ys = filter_map-append (slice_get f.calls) xs ys

  calls_of_blocks :
      (place : ℕ) (bs : List Block) → AllByRecursion (λ b. AllByRecursion IsPlace (block_call_places b)) bs →
      flat_map (block_calls (shown_scope f)) (blocks_tree (shown_scope f) f.calls place bs) ≡ got (flat_map block_call_places bs)
  calls_of_blocks place [] h = refl
  calls_of_blocks place (b ∷ bs) h =
      ap₂ (λ x y. x ++ y) (calls_of_insts b.insts (each_given IsPlace (λ i. call_place i.op) b.insts h.0)) (calls_of_blocks (suc place) bs h.1)
      ∙ sym (got_append (block_call_places b) (flat_map block_call_places bs))

  all_calls_back : flat_map (block_calls (scope_of (tree_of f))) (tree_of f).blocks ≡ f.calls
  all_calls_back =
      ap (λ scope. flat_map (block_calls scope) (tree_of f).blocks) (tree_scope f printable)
      ∙ calls_of_blocks 0 f.blocks (call_places_inside f printable) ∙ ap got printable.call_places ∙ all_got f.calls

  -- how many there are
  counted : (is : List Inst) → count_by is_call (map (inst_tree (shown_scope f) f.calls) is) ≡ length (filter_map (λ i. call_place i.op) is)
  counted [] = refl
  counted (i ∷ is) =
      sum_by-cons (λ x. one_if (is_call x)) (inst_tree (shown_scope f) f.calls i) (map (inst_tree (shown_scope f) f.calls) is)
      ∙ ap₂ (λ x y. one_if x + y) (called f printable few i.op) (counted is) ∙ by (call_place i.op)
    where
      by :
          (o : Option ℕ) →
          one_if (is_some o) + length (filter_map (λ i. call_place i.op) is) ≡ length (cons_option o (filter_map (λ i. call_place i.op) is))
      by None = omega arith
      by (Some k) = omega arith

  whole_block :
      (place n m : ℕ) (b : Block) (rest : List ℕ) → PrintableBlock f b → AreWithin (length f.values) (block_ids b) →
      block_call_places b ++ rest ≡ range_with_len n m →
      kept_name (name_at (shown_scope f).blocks place) ≡ b.name →
      block_of (shown_scope f) n (block_tree (shown_scope f) f.calls place b) ≡ b
  whole_block place n m b rest h within places named =
      let scope = shown_scope f in
      let ids = all_parts (λ i. i < length f.values) (map (λ p. p.result.0) b.phis) (inst_ids b.insts) within in
      let name = label_back scope place b named in
      let phis = phis_back f printable few b.phis (recursion_from_All (PrintablePhi f) b.phis h.phis) ids.0 in
      let insts = insts_back f printable few n m b.insts rest (recursion_from_All (PrintableInst f) b.insts h.insts) ids.1 places in
      let term = term_back f printable few b.term h.term in
      λ i. record { name = name i; phis = phis i; insts = insts i; term = term i }

  blocks_back :
      (place n m : ℕ) (bs : List Block) → AllByRecursion (PrintableBlock f) bs → AreWithin (length f.values) (flat_map block_ids bs) →
      flat_map block_call_places bs ≡ range_with_len n m →
      map (λ b. kept_name (name_at (shown_scope f).blocks b)) (range_with_len place (length bs)) ≡ map (λ b. b.name) bs →
      blocks_of (shown_scope f) n (blocks_tree (shown_scope f) f.calls place bs) ≡ bs
  blocks_back place n m [] h within places names = refl
  blocks_back place n m (b ∷ bs) h within places names =
      let scope = shown_scope f in
      let ids = all_parts (λ i. i < length f.values) (block_ids b) (flat_map block_ids bs) within in
      let here : kept_name (name_at scope.blocks place) ≡ b.name = cc in
      let left : map (λ b. kept_name (name_at scope.blocks b)) (range_with_len (place + 1) (length bs)) ≡ map (λ b. b.name) bs = cc in
      let more = ap (λ n. map (λ b. kept_name (name_at scope.blocks b)) (range_with_len n (length bs))) (sym (add-one place)) ∙ left in
      let later = range_rest n m (block_call_places b) (flat_map block_call_places bs) places in
      let count : n + call_count (block_tree scope f.calls place b) ≡ n + length (block_call_places b) = ap (λ k. n + k) (counted b.insts) in
      ap₂ (λ x l. x ∷ l) (whole_block place n m b (flat_map block_call_places bs) h.0 ids.0 places here)
      (ap (λ k. blocks_of scope k (blocks_tree scope f.calls (suc place) bs)) count
      ∙ blocks_back (suc place) (n + length (block_call_places b)) later.left bs h.1 ids.1 later.rest more)

  all_blocks_back : blocks_of (scope_of (tree_of f)) 0 (tree_of f).blocks ≡ f.blocks
  all_blocks_back =
      let within = (all_parts (λ i. i < length f.values) (map (λ p. p.value.0) f.params) (flat_map block_ids f.blocks) (ids_within f printable)).1 in
      ap (λ scope. blocks_of scope 0 (tree_of f).blocks) (tree_scope f printable)
      ∙ blocks_back 0 0 (length f.calls) f.blocks (recursion_from_All (PrintableBlock f) f.blocks printable.blocks) within
      printable.call_places (kept_block_names f printable few)

pub function_back : (f : Function) → IsPrintable f → HasFewNames f → function_of (tree_of f) f.tail ≡ f
function_back f printable few =
    let params = params_back (shown_scope f) f.values 0 (length f.values) f.params (flat_map block_ids f.blocks) printable.ids in
    let values = values_back f printable few in
    let blocks = all_blocks_back f printable few in
    let calls = all_calls_back f printable few in
    λ i. record {
      name = f.name;
      lead = f.lead;
      width = f.width;
      params = params i;
      tail = f.tail;
      values = values i;
      blocks = blocks i;
      calls = calls i;
    }
