-- The names that the tree of a function defines: those that its values and blocks are shown by, each once.
use Rattle.std.proofs.Common.{◌≡◌, ◌∙◌, ℕ, zero, suc, ◌+◌, ◌<◌, ◌≤◌, ◌==◌, ◌&&◌, ◌||◌, Bool, false, if◌then◌else◌, List, [], ◌∷◌, ◌++◌, map, flat_map, length, Option, Some, None, is_none, option_map, unwrap_or, decimal, count_by, filter_map, option_and_then, slice_get, ne_eqb, refl, sym, ap, ap₂, subst, arith, add-one}
use Rattle.std.specs.List.{AllByRecursion, cons_option, range_with_len}
use Rattle.std.proofs.lemmas.List.{map-append}
use Rattle.std.proofs.lemmas.List.Sums.{sum_by-cons}
use Rattle.vfa_ir.specs.declared.functions.Block.{Block}
use Rattle.vfa_ir.specs.declared.functions.CallOp.{CallOp}
use Rattle.vfa_ir.specs.declared.functions.Function.{Function}
use Rattle.vfa_ir.specs.declared.functions.Inst.{Inst}
use Rattle.vfa_ir.specs.declared.functions.Param.{Param}
use Rattle.vfa_ir.specs.declared.functions.Phi.{Phi}
use Rattle.vfa_ir.specs.declared.functions.Value.{Value}
use Rattle.vfa_ir.specs.declared.numbering.Local.{Local}
use Rattle.vfa_ir.specs.declared.operations.ValueId.{ValueId}
use Rattle.vfa_ir.specs.DefinedNames.{block_name, block_names, block_results, defined_names, duplicate_of, first_repeated, is_numbered, parameter_names, value_names}
use Rattle.vfa_ir.specs.Printable.{IsPrintable, block_ids, ids_of, inst_ids}
use Rattle.vfa_ir.specs.Resolution.{Scope, scope_of}
use Rattle.vfa_ir.specs.Sentence.{Sentence}
use Rattle.vfa_ir.specs.Shown.{is_unnamed, locals_of, locals_of_block, locals_of_blocks, name_of, number_of, param_locals, phi_locals, results_of, shown_block_name, shown_name, shown_value_name}
use Rattle.vfa_ir.specs.Words.{is_among, is_digits}
use Rattle.vfa_print.specs.Trees.{block_tree, blocks_tree, inst_tree, label_tree, name_at, parameter_tree, phi_tree, shown_scope, tree_of}
use Rattle.vfa_print.proofs.NameNumbers.{name_at-range, other_text}
use Rattle.vfa_print.proofs.ShownNames.{HasFewNames, IsLocal, all_block_places, all_value_ids, block_places, count_before, count_before-cons, digits_shown, one_if, shown_alike, value_ids}

-- ids of values that there are
abbrev pub AreWithin : ℕ → List ℕ → Type 0
AreWithin n = AllByRecursion (λ i. i < n)

pub range_within : (a n m : ℕ) → a + n ≤ m → AreWithin m (range_with_len a n)
range_within a zero m h = tt
range_within a (suc n) m h = (omega arith, range_within (a + 1) n m (omega arith))

pub all_parts : {X : Type 0} (P : X → Type 0) (xs ys : List X) → AllByRecursion P (xs ++ ys) → AllByRecursion P xs × AllByRecursion P ys
all_parts P [] ys h = (tt, h)
all_parts P (x ∷ xs) ys h = let p = all_parts P xs ys h.1 in ((h.0, p.0), p.1)

pub ids_within : (f : Function) → IsPrintable f → AreWithin (length f.values) (ids_of f)
ids_within f printable =
    subst (AreWithin (length f.values)) (sym printable.ids) (range_within 0 (length f.values) (length f.values) (omega arith))

-- the names of those
pub names_within : (g : ℕ → List ℕ) (n : ℕ) (is : List ℕ) → AreWithin n is → map (name_at (map g (range_with_len 0 n))) is ≡ map g is
names_within g n [] h = refl
names_within g n (i ∷ is) h = ap₂ (λ x xs. x ∷ xs) (name_at-range g n i h.0) (names_within g n is h.1)

pub names_of_range : (g : ℕ → List ℕ) (n : ℕ) → map (name_at (map g (range_with_len 0 n))) (range_with_len 0 n) ≡ map g (range_with_len 0 n)
names_of_range g n = names_within g n (range_with_len 0 n) (range_within 0 n n (omega arith))

abbrev pub local_name : Scope → Local → List ℕ
local_name scope (Local.Value v) = name_at scope.values v
local_name scope (Local.Block b) = name_at scope.blocks b

pub local_shown : (f : Function) (a : Local) → IsLocal f a → local_name (shown_scope f) a ≡ shown_name f a
local_shown f (Local.Value v) h = name_at-range (shown_value_name f) (length f.values) v h
local_shown f (Local.Block b) h = name_at-range (shown_block_name f) (length f.blocks) b h

module _ (scope : Scope) (calls : List CallOp) where
  named_parameters :
      (values : List Value) (k : ℕ) (ps : List Param) →
      parameter_names k (map (parameter_tree scope values) ps) ≡ map (local_name scope) (param_locals ps)
  named_parameters values k [] = refl
  named_parameters values k (p ∷ ps) =
      ap (λ l. name_at scope.values p.value.0 ∷ l)
      (named_parameters values (if is_numbered (parameter_tree scope values p) then k + 1 else k) ps)

  parameter_ids : (ps : List Param) → map (local_name scope) (param_locals ps) ≡ map (name_at scope.values) (map (λ p. p.value.0) ps)
  parameter_ids [] = refl
  parameter_ids (p ∷ ps) = ap (λ l. name_at scope.values p.value.0 ∷ l) (parameter_ids ps)

  named_phis : (ps : List Phi) → map (λ p. p.result) (map (phi_tree scope) ps) ≡ map (local_name scope) (phi_locals ps)
  named_phis [] = refl
  named_phis (p ∷ ps) = ap (λ l. name_at scope.values p.result.0 ∷ l) (named_phis ps)

  phi_names : (ps : List Phi) → map (local_name scope) (phi_locals ps) ≡ map (name_at scope.values) (map (λ p. p.result.0) ps)
  phi_names [] = refl
  phi_names (p ∷ ps) = ap (λ l. name_at scope.values p.result.0 ∷ l) (phi_names ps)

  named_results : (is : List Inst) → filter_map (λ i. i.result) (map (inst_tree scope calls) is) ≡ map (local_name scope) (results_of is)
  named_results [] = refl
  named_results (i ∷ is) = by i.result (named_results is)
    where
      rest : List (List ℕ)
      rest = filter_map (λ i. i.result) (map (inst_tree scope calls) is)

      by :
          (r : Option ValueId) → rest ≡ map (local_name scope) (results_of is) →
          cons_option (option_map (λ v. name_at scope.values v.0) r) rest
          ≡ map (local_name scope) (elim r [ None ↦ results_of is | Some v ↦ Local.Value v.0 ∷ results_of is ])
      by None e = e
      by (Some v) e = ap (λ l. name_at scope.values v.0 ∷ l) e

  result_names : (is : List Inst) → map (local_name scope) (results_of is) ≡ map (name_at scope.values) (inst_ids is)
  result_names [] = refl
  result_names (i ∷ is) = by i.result (result_names is)
    where
      by :
          (r : Option ValueId) → map (local_name scope) (results_of is) ≡ map (name_at scope.values) (inst_ids is) →
          map (local_name scope) (elim r [ None ↦ results_of is | Some v ↦ Local.Value v.0 ∷ results_of is ])
          ≡ map (name_at scope.values) (cons_option (elim r [ None ↦ None | Some v ↦ Some v.0 ]) (inst_ids is))
      by None e = e
      by (Some v) e = ap (λ l. name_at scope.values v.0 ∷ l) e

  named_lines : (place : ℕ) (b : Block) → block_results (block_tree scope calls place b) ≡ map (local_name scope) (phi_locals b.phis ++ results_of b.insts)
  named_lines place b =
      ap₂ (λ x y. x ++ y) (named_phis b.phis) (named_results b.insts)
      ∙ sym (map-append (local_name scope) (phi_locals b.phis) (results_of b.insts))

  pub line_ids : (place : ℕ) (b : Block) → block_results (block_tree scope calls place b) ≡ map (name_at scope.values) (block_ids b)
  line_ids place b =
      named_lines place b ∙ map-append (local_name scope) (phi_locals b.phis) (results_of b.insts)
      ∙ ap₂ (λ x y. x ++ y) (phi_names b.phis) (result_names b.insts)
      ∙ sym (map-append (name_at scope.values) (map (λ p. p.result.0) b.phis) (inst_ids b.insts))

  blocks_ids : (place : ℕ) (bs : List Block) → flat_map block_results (blocks_tree scope calls place bs) ≡ map (name_at scope.values) (flat_map block_ids bs)
  blocks_ids place [] = refl
  blocks_ids place (b ∷ bs) =
      ap₂ (λ x y. x ++ y) (line_ids place b) (blocks_ids (suc place) bs)
      ∙ sym (map-append (name_at scope.values) (block_ids b) (flat_map block_ids bs))

  -- a block with its label, or with its number n
  label_is :
      (place : ℕ) (b : Block) (n : List ℕ) → (place ≡ 0 → b.name ≡ None → n ≡ name_at scope.blocks place) →
      unwrap_or (label_tree scope place b) n ≡ name_at scope.blocks place
  label_is place b n entry = by place b.name entry
    where
      by :
          (place : ℕ) (name : Option (List ℕ)) → (place ≡ 0 → name ≡ None → n ≡ name_at scope.blocks place) →
          unwrap_or (if place == 0 && is_none name then None else Some (name_at scope.blocks place)) n ≡ name_at scope.blocks place
      by zero None entry = entry refl refl
      by zero (Some name) entry = refl
      by (suc place) name entry =
          let later : (suc place == 0) ≡ false = ne_eqb (suc place) 0 (λ e. omega arith) in
          ap (λ t. unwrap_or (if t && is_none name then None else Some (name_at scope.blocks (suc place))) n) later

  labels :
      (s : Sentence) (place : ℕ) (bs : List Block) → 0 < place →
      map (block_name s) (blocks_tree scope calls place bs) ≡ map (name_at scope.blocks) (range_with_len place (length bs))
  labels s place [] h = refl
  labels s place (b ∷ bs) h =
      ap₂ (λ x xs. x ∷ xs) (label_is place b (decimal (count_by is_numbered s.parameters)) (λ e. absurd (omega arith)))
      (labels s (suc place) bs (omega arith) ∙ ap (λ n. map (name_at scope.blocks) (range_with_len n (length bs))) (sym (add-one place)))

  named_blocks :
      (s : Sentence) (place : ℕ) (bs : List Block) → 0 < place →
      flat_map (λ b. block_name s b ∷ block_results b) (blocks_tree scope calls place bs) ≡ map (local_name scope) (locals_of_blocks place bs)
  named_blocks s place [] h = refl
  named_blocks s place (b ∷ bs) h =
      ap₂ (λ x xs. x ++ xs)
      (ap₂ (λ x xs. x ∷ xs) (label_is place b (decimal (count_by is_numbered s.parameters)) (λ e. absurd (omega arith))) (named_lines place b))
      (named_blocks s (suc place) bs (omega arith) ∙ ap (λ n. map (local_name scope) (locals_of_blocks n bs)) (sym (add-one place)))
      ∙ sym (map-append (local_name scope) (locals_of_block place b) (locals_of_blocks (place + 1) bs))

  -- all blocks, the first of which has the number n where it has no name
  abbrev IsEntryNumber : List Block → List ℕ → Type 0
  IsEntryNumber [] n = Unit {0}
  IsEntryNumber (b ∷ bs) n = b.name ≡ None → n ≡ name_at scope.blocks 0

  all_labels :
      (s : Sentence) (bs : List Block) → IsEntryNumber bs (decimal (count_by is_numbered s.parameters)) →
      map (block_name s) (blocks_tree scope calls 0 bs) ≡ map (name_at scope.blocks) (range_with_len 0 (length bs))
  all_labels s [] h = refl
  all_labels s (b ∷ bs) h =
      ap₂ (λ x xs. x ∷ xs) (label_is 0 b (decimal (count_by is_numbered s.parameters)) (λ _. h)) (labels s 1 bs (omega arith))

  all_named_blocks :
      (s : Sentence) (bs : List Block) → IsEntryNumber bs (decimal (count_by is_numbered s.parameters)) →
      flat_map (λ b. block_name s b ∷ block_results b) (blocks_tree scope calls 0 bs) ≡ map (local_name scope) (locals_of_blocks 0 bs)
  all_named_blocks s [] h = refl
  all_named_blocks s (b ∷ bs) h =
      ap₂ (λ x xs. x ++ xs)
      (ap₂ (λ x xs. x ∷ xs) (label_is 0 b (decimal (count_by is_numbered s.parameters)) (λ _. h)) (named_lines 0 b))
      (named_blocks s 1 bs (omega arith))
      ∙ sym (map-append (local_name scope) (locals_of_block 0 b) (locals_of_blocks 1 bs))

-- the number of the entry is that of the numbered parameters
numbered_parameters :
    (f : Function) → IsPrintable f → (rest : List Local) (ps : List Param) →
    AreWithin (length f.values) (map (λ p. p.value.0) ps) →
    count_by is_numbered (map (parameter_tree (shown_scope f) f.values) ps)
    ≡ count_before (is_unnamed f) (Local.Block 0) (param_locals ps ++ Local.Block 0 ∷ rest)
numbered_parameters f printable rest [] h = sym (count_before-cons (is_unnamed f) (Local.Block 0) (Local.Block 0) rest)
numbered_parameters f printable rest (p ∷ ps) h =
    let u = is_unnamed f in
    let v : ℕ = p.value.0 in
    let t = parameter_tree (shown_scope f) f.values in
    let same : is_numbered (t p) ≡ u (Local.Value v) =
    ap is_digits (name_at-range (shown_value_name f) (length f.values) v h.0) ∙ digits_shown f printable (Local.Value v) in
    sum_by-cons (λ x. one_if (is_numbered x)) (t p) (map t ps)
    ∙ ap₂ (λ x y. one_if x + y) same (numbered_parameters f printable rest ps h.1)
    ∙ sym (count_before-cons u (Local.Block 0) (Local.Value v) (param_locals ps ++ Local.Block 0 ∷ rest))

shown_number : (f : Function) (a : Local) → name_of f a ≡ None → shown_name f a ≡ decimal (number_of f a)
shown_number f a e = ap (λ o. elim o [ None ↦ decimal (number_of f a) | Some name ↦ name ]) e

entry_number : (f : Function) → IsPrintable f → IsEntryNumber (shown_scope f) f.calls f.blocks (decimal (count_by is_numbered (tree_of f).parameters))
entry_number f printable = by f.blocks refl
  where
    by : (bs : List Block) → f.blocks ≡ bs → IsEntryNumber (shown_scope f) f.calls bs (decimal (count_by is_numbered (tree_of f).parameters))
    by [] e = tt
    by (b ∷ bs) e = λ none.
        let ids = (all_parts (λ i. i < length f.values) _ _ (ids_within f printable)).0 in
        let rest : List Local = (phi_locals b.phis ++ results_of b.insts) ++ locals_of_blocks 1 bs in
        let count = numbered_parameters f printable rest f.params ids in
        let first : locals_of f ≡ param_locals f.params ++ Local.Block 0 ∷ rest = ap (λ l. param_locals f.params ++ locals_of_blocks 0 l) e in
        let number : number_of f (Local.Block 0) ≡ count_by is_numbered (tree_of f).parameters =
        ap (count_before (is_unnamed f) (Local.Block 0)) first ∙ sym count in
        let no_name : name_of f (Local.Block 0) ≡ None = ap (λ l. option_and_then (λ x. x.name) (slice_get l 0)) e ∙ none in
        let within : 0 < length f.blocks = subst (λ l. 0 < length l) (sym e) (omega arith) in
        sym (name_at-range (shown_block_name f) (length f.blocks) 0 within ∙ shown_number f (Local.Block 0) no_name ∙ ap decimal number)

-- what the tree defines
pub tree_values : (f : Function) → IsPrintable f → value_names (tree_of f) ≡ (shown_scope f).values
tree_values f printable =
    let scope = shown_scope f in
    ap₂ (λ x y. x ++ y) (named_parameters scope f.calls f.values 0 f.params ∙ parameter_ids scope f.calls f.params) (blocks_ids scope f.calls 0 f.blocks)
    ∙ sym (map-append (name_at scope.values) (map (λ p. p.value.0) f.params) (flat_map block_ids f.blocks))
    ∙ ap (map (name_at scope.values)) printable.ids ∙ names_of_range (shown_value_name f) (length f.values)

pub tree_blocks : (f : Function) → IsPrintable f → block_names (tree_of f) ≡ (shown_scope f).blocks
tree_blocks f printable =
    all_labels (shown_scope f) f.calls (tree_of f) f.blocks (entry_number f printable)
    ∙ names_of_range (shown_block_name f) (length f.blocks)

pub tree_scope : (f : Function) → IsPrintable f → scope_of (tree_of f) ≡ shown_scope f
tree_scope f printable =
    let v = tree_values f printable in
    let b = tree_blocks f printable in
    λ i. record { values = v i; blocks = b i }

pub tree_names : (f : Function) → IsPrintable f → defined_names (tree_of f) ≡ map (local_name (shown_scope f)) (locals_of f)
tree_names f printable =
    let scope = shown_scope f in
    ap₂ (λ x y. x ++ y) (named_parameters scope f.calls f.values 0 f.params) (all_named_blocks scope f.calls (tree_of f) f.blocks (entry_number f printable))
    ∙ sym (map-append (local_name scope) (param_locals f.params) (locals_of_blocks 0 f.blocks))

pub local_alike :
    (f : Function) → IsPrintable f → HasFewNames f → (a b : Local) → IsLocal f a → IsLocal f b →
    local_name (shown_scope f) a ≡ local_name (shown_scope f) b → a ≡ b
local_alike f printable few a b p q e = shown_alike f printable few a b p q (sym (local_shown f a p) ∙ e ∙ local_shown f b q)

-- the locals from the value k and the block j on
abbrev IsLater : Function → ℕ → ℕ → Local → Type 0
IsLater f k j (Local.Value v) = (k ≤ v) × (v < length f.values)
IsLater f k j (Local.Block b) = (j ≤ b) × (b < length f.blocks)

later_local : (f : Function) (k j : ℕ) (a : Local) → IsLater f k j a → IsLocal f a
later_local f k j (Local.Value v) h = h.1
later_local f k j (Local.Block b) h = h.1

later_value : (f : Function) (k j : ℕ) (a : Local) → IsLater f (k + 1) j a → IsLater f k j a × (a ≡ Local.Value k → ⊥)
later_value f k j (Local.Value v) h = ((omega arith, h.1), λ e. (let same : v ≡ k = cc in absurd (omega arith)))
later_value f k j (Local.Block b) h = (h, λ e. cc)

later_block : (f : Function) (k j : ℕ) (a : Local) → IsLater f k (j + 1) a → IsLater f k j a × (a ≡ Local.Block j → ⊥)
later_block f k j (Local.Block b) h = ((omega arith, h.1), λ e. (let same : b ≡ j = cc in absurd (omega arith)))
later_block f k j (Local.Value v) h = (h, λ e. cc)

neither : (a b : Bool) → a ≡ false → b ≡ false → (a || b) ≡ false
neither a b p q = ap (λ t. t || b) p ∙ q

is_new : (seen : List (List ℕ)) (name : List ℕ) (rest : List (List ℕ)) → is_among name seen ≡ false → first_repeated (name ∷ seen) rest ≡ None → first_repeated seen (name ∷ rest) ≡ None
is_new seen name rest new left = ap (λ b. if b then Some name else first_repeated (name ∷ seen) rest) new ∙ left

module _ (f : Function) (printable : IsPrintable f) (few : HasFewNames f) where
  none_again :
      (k p j q : ℕ) (seen : List (List ℕ)) (ls : List Local) → k + p ≡ length f.values → j + q ≡ length f.blocks →
      value_ids ls ≡ range_with_len k p → block_places ls ≡ range_with_len j q →
      ((a : Local) → IsLater f k j a → is_among (local_name (shown_scope f) a) seen ≡ false) →
      first_repeated seen (map (local_name (shown_scope f)) ls) ≡ None
  none_again k p j q seen [] kp jq ids places new = refl
  none_again k zero j q seen (Local.Value v ∷ ls) kp jq ids places new = cc
  none_again k (suc p) j q seen (Local.Value v ∷ ls) kp jq ids places new =
      let name = local_name (shown_scope f) in
      let here : v ≡ k = cc in
      let left : value_ids ls ≡ range_with_len (k + 1) p = cc in
      let is : name (Local.Value v) ≡ name (Local.Value k) = ap (λ i. name (Local.Value i)) here in
      let inside : k < length f.values = omega arith in
      is_new seen (name (Local.Value v)) (map name ls) (ap (λ n. is_among n seen) is ∙ new (Local.Value k) (omega arith, inside))
      (none_again (k + 1) p j q (name (Local.Value v) ∷ seen) ls (omega arith) jq left places
      (λ a h. let m = later_value f k j a h in neither _ _ (other_text (name a) (name (Local.Value v))
      (λ e. m.1 (local_alike f printable few a (Local.Value k) (later_local f k j a m.0) inside (e ∙ is)))) (new a m.0)))
  none_again k p j zero seen (Local.Block b ∷ ls) kp jq ids places new = cc
  none_again k p j (suc q) seen (Local.Block b ∷ ls) kp jq ids places new =
      let name = local_name (shown_scope f) in
      let here : b ≡ j = cc in
      let left : block_places ls ≡ range_with_len (j + 1) q = cc in
      let is : name (Local.Block b) ≡ name (Local.Block j) = ap (λ i. name (Local.Block i)) here in
      let inside : j < length f.blocks = omega arith in
      is_new seen (name (Local.Block b)) (map name ls) (ap (λ n. is_among n seen) is ∙ new (Local.Block j) (omega arith, inside))
      (none_again k p (j + 1) q (name (Local.Block b) ∷ seen) ls kp (omega arith) ids left
      (λ a h. let m = later_block f k j a h in neither _ _ (other_text (name a) (name (Local.Block b))
      (λ e. m.1 (local_alike f printable few a (Local.Block j) (later_local f k j a m.0) inside (e ∙ is)))) (new a m.0)))

pub defined_once : (f : Function) → IsPrintable f → HasFewNames f → duplicate_of (tree_of f) ≡ None
defined_once f printable few =
    ap (first_repeated []) (tree_names f printable)
    ∙ none_again f printable few 0 (length f.values) 0 (length f.blocks) [] (locals_of f) (omega arith) (omega arith)
    (all_value_ids f ∙ printable.ids) (all_block_places f) (λ a h. refl)
