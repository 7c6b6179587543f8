-- Names are defined on every walk through the kept blocks where they are in the function.
use Rattle.std.proofs.Common.{◌≡◌, ℕ, zero, suc, ◌+◌, ◌<◌, ◌≤◌, Bool, true, false, List, [], ◌∷◌, ◌++◌, map, flat_map, take, length, All, Option, Some, None, refl, sym, ap, ◌∙◌, subst, inl, inr, arith}
use Rattle.std.proofs.lemmas.Bool.{cases_lt}
use Rattle.std.proofs.lemmas.List.{length-map, map-append, take-map}
use Rattle.std.proofs.lemmas.List.Elements.{All-append, All-cons, All-head, All-nil, All-tail}
use Rattle.std.proofs.lemmas.Option.{slice_get-map, slice_get_past, slice_get_within, same_Some}
use Rattle.std.specs.List.{filter_map, list_any, slice_get}
use Rattle.std.specs.Option.{option_map}
use Rattle.vfa_ir.specs.declared.operations.BlockId.{BlockId}
use Rattle.vfa_ir.specs.declared.operations.Op.{Op}
use Rattle.vfa_ir.specs.declared.operations.Operand.{Operand}
use Rattle.vfa_ir.specs.declared.functions.Block.{Block}
use Rattle.vfa_ir.specs.declared.functions.CallArg.{CallArg}
use Rattle.vfa_ir.specs.declared.functions.CallOp.{CallOp}
use Rattle.vfa_ir.specs.declared.functions.Function.{Function}
use Rattle.vfa_ir.specs.declared.functions.Inst.{Inst}
use Rattle.vfa_ir.specs.declared.functions.Param.{Param}
use Rattle.vfa_ir.specs.declared.functions.Phi.{Phi}
use Rattle.vfa_ir.specs.declared.functions.Term.{Term}
use Rattle.vfa_ir.specs.Defined.{Defined, NameUse, UseIsDefined, block_uses, inst_uses, line_count, op_names, operand_names, phi_uses, term_names, uses_at, uses_from}
use Rattle.vfa_ir.specs.PhisFit.{targets}
use Rattle.vfa_ir.specs.Printable.{block_ids, call_place, inst_ids}
use Rattle.vfa_ir.specs.Walks.{IsDefinedAt, IsEdge, IsWalk, defined_on, defined_over, is_in, is_parameter, results_before, results_in, successors}
use Rattle.vfa_mean.specs.Renaming.{Order, at_places, place_among, renamed_argument, renamed_block, renamed_call, renamed_entry, renamed_inst, renamed_op, renamed_operand, renamed_phi, renamed_target, renamed_term}
use Rattle.vfa_mean.specs.Numbering.{AreAmong, MayBeNumbered, numbered, text_order}
use Rattle.vfa_mean.proofs.FreshOperands.Definitions.{first_or_rest, in_first, in_rest, or_cases, or_left, or_right}
use Rattle.vfa_mean.proofs.KeptParts.{covers_kept, kept_number, number_kept}
use Rattle.vfa_mean.proofs.PlacesAmong.{at_its_place, place_below, place_past, same_place, stands_within}
use Rattle.vfa_mean.proofs.RenamedFlow.{count_of_blocks, kept_at, targets_renamed}
use Rattle.vfa_mean.proofs.RenamedRuns.{block_there, first_place, in_option, is_option}
use Rattle.vfa_mean.proofs.TextOrder.{ids_of_block, param_ids, phi_ids, results_ids}

-- ---- lists

in_map : (g : ℕ → ℕ) (v : ℕ) (xs : List ℕ) → is_in v xs ≡ true → is_in (g v) (map g xs) ≡ true
in_map g v [] h = absurd (cc)
in_map g v (x ∷ xs) h = elim (first_or_rest v x xs h) [
  | inl e ↦ in_first (g v) (g x) (map g xs) (ap g e)
  | inr t ↦ in_rest (g v) (g x) (map g xs) (in_map g v xs t)
]

record IsImage (g : ℕ → ℕ) (y : ℕ) (xs : List ℕ) : Type 0 where
  pub of : ℕ
  pub among : is_in of xs ≡ true
  pub is : y ≡ g of

from_map : (g : ℕ → ℕ) (y : ℕ) (xs : List ℕ) → is_in y (map g xs) ≡ true → IsImage g y xs
from_map g y [] h = absurd (cc)
from_map g y (x ∷ xs) h = elim (first_or_rest y (g x) (map g xs) h) [
  | inl e ↦ record { of = x; among = in_first x x xs refl; is = e }
  | inr t ↦ let again = from_map g y xs t in record { of = again.of; among = in_rest again.of x xs again.among; is = again.is }
]

pub all_left : {X : Type 0} (P : X → Type 0) (xs ys : List X) → All P (xs ++ ys) → All P xs
all_left P [] ys h = All-nil P
all_left P (x ∷ xs) ys h = All-cons P x xs (All-head P x (xs ++ ys) h) (all_left P xs ys (All-tail P x (xs ++ ys) h))

pub all_right : {X : Type 0} (P : X → Type 0) (xs ys : List X) → All P (xs ++ ys) → All P ys
all_right P [] ys h = h
all_right P (x ∷ xs) ys h = all_right P xs ys (All-tail P x (xs ++ ys) h)

-- ---- the uses of a block among those of a function

one_block : (P : NameUse → Type 0) (f : Function) (start : ℕ) (blocks : List Block) (i : ℕ) (x : Block) → slice_get blocks i ≡ Some x →
    All P (uses_from f start blocks) → All P (block_uses f (start + i) x)
one_block P f start [] i x is h = absurd (cc)
one_block P f start (b ∷ blocks) zero x is h =
    let first : All P (block_uses f start b) = all_left P (block_uses f start b) (uses_from f (start + 1) blocks) h in
    let at : start + 0 ≡ start = omega arith in
    subst (λ i. All P (block_uses f i x)) (sym at) (subst (λ y. All P (block_uses f start y)) (same_Some b x is) first)
one_block P f start (b ∷ blocks) (suc i) x is h =
    let at : start + 1 + i ≡ start + suc i = omega arith in
    subst (λ j. All P (block_uses f j x)) at
    (one_block P f (start + 1) blocks i x is (all_right P (block_uses f start b) (uses_from f (start + 1) blocks) h))

each_block : (P : NameUse → Type 0) (f : Function) (start : ℕ) (blocks : List Block) →
    ((i : ℕ) (x : Block) → slice_get blocks i ≡ Some x → All P (block_uses f (start + i) x)) → All P (uses_from f start blocks)
each_block P f start [] h = All-nil P
each_block P f start (b ∷ blocks) h =
    let at : start + 0 ≡ start = omega arith in
    All-append P (block_uses f start b) (uses_from f (start + 1) blocks)
    (subst (λ j. All P (block_uses f j b)) at (h 0 b refl))
    (each_block P f (start + 1) blocks (λ i x is.
    let next : start + suc i ≡ start + 1 + i = omega arith in
    subst (λ j. All P (block_uses f j x)) next (h (suc i) x is)))

-- ---- the names that are used

module _ (o : Order) where
  abbrev placed : ℕ → ℕ
  placed = place_among o.values

  names_of_operand : (a : Operand) → operand_names (renamed_operand o a) ≡ map placed (operand_names a)
  names_of_operand (Operand.Value v) = refl
  names_of_operand (Operand.Literal bits) = refl
  names_of_operand Operand.Poison = refl

  names_of_two : (a b : Operand) → operand_names (renamed_operand o a) ++ operand_names (renamed_operand o b) ≡ map placed (operand_names a ++ operand_names b)
  names_of_two a b =
      ap (λ r. r ++ operand_names (renamed_operand o b)) (names_of_operand a)
      ∙ ap (λ r. map placed (operand_names a) ++ r) (names_of_operand b)
      ∙ sym (map-append placed (operand_names a) (operand_names b))

  names_of_arguments : (args : List CallArg) →
      flat_map (λ (a : CallArg). operand_names a.value) (map (renamed_argument o) args) ≡ map placed (flat_map (λ (a : CallArg). operand_names a.value) args)
  names_of_arguments [] = refl
  names_of_arguments (a ∷ args) =
      ap (λ r. r ++ flat_map (λ (a : CallArg). operand_names a.value) (map (renamed_argument o) args)) (names_of_operand a.value)
      ∙ ap (λ r. map placed (operand_names a.value) ++ r) (names_of_arguments args)
      ∙ sym (map-append placed (operand_names a.value) (flat_map (λ (a : CallArg). operand_names a.value) args))

  names_of_term : (t : Term) → term_names (renamed_term o t) ≡ map placed (term_names t)
  names_of_term (Term.Ret w a) = names_of_operand a
  names_of_term (Term.Br to) = refl
  names_of_term (Term.CondBr c taken fallen) = names_of_operand c
  names_of_term (Term.Switch w on other cases) = names_of_operand on
  names_of_term Term.Unreachable = refl

  numbers_of_targets : (ts : List BlockId) → map (λ (t : BlockId). t.0) (map (renamed_target o) ts) ≡ map (place_among o.blocks) (map (λ (t : BlockId). t.0) ts)
  numbers_of_targets [] = refl
  numbers_of_targets (t ∷ ts) = ap (λ r. place_among o.blocks t.0 ∷ r) (numbers_of_targets ts)

abbrev names_of_call : Option CallOp → List ℕ
names_of_call found = elim found [ None ↦ [] | Some c ↦ flat_map (λ (a : CallArg). operand_names a.value) c.args ]

abbrev lines_of : Option Block → ℕ
lines_of found = elim found [ None ↦ 0 | Some b ↦ length b.insts ]

abbrev ends_of : Option Block → List ℕ
ends_of found = elim found [ None ↦ [] | Some b ↦ map (λ (t : BlockId). t.0) (targets b.term) ]

abbrev ids_in : Option Block → List ℕ
ids_in found = elim found [ None ↦ [] | Some b ↦ block_ids b ]

abbrev ids_before : Option Block → ℕ → List ℕ
ids_before found n = elim found [ None ↦ [] | Some b ↦ map (λ (p : Phi). p.result.0) b.phis ++ inst_ids (take n b.insts) ]

-- a walk through kept blocks, by the numbers that they had
record WalkBack (f : Function) (blocks : List ℕ) (b : ℕ) (passed' : List ℕ) : Type 0 where
  pub passed : List ℕ
  pub among : AreAmong passed blocks
  pub places : passed' ≡ map (place_among blocks) passed
  pub walk : IsWalk f (b ∷ passed)

record EdgeBack (f : Function) (blocks : List ℕ) (from' b : ℕ) : Type 0 where
  pub from : ℕ
  pub among : is_in from blocks ≡ true
  pub is : place_among blocks from ≡ from'
  pub edge : IsEdge f from b

module _ (f : Function) (keeps : ℕ → Bool) (h : MayBeNumbered f keeps) where
  abbrev o : Order
  o = text_order f keeps

  abbrev g : Function
  g = numbered f keeps

  abbrev new : ℕ → ℕ
  new = place_among o.values

  abbrev at : ℕ → ℕ
  at = place_among o.blocks

  -- a kept block, and what is there of it in the numbered function
  found : (b : ℕ) → is_in b o.blocks ≡ true → (block : Block) × (slice_get f.blocks b ≡ Some block) × (slice_get g.blocks (at b) ≡ Some (renamed_block o block))
  found b there =
      let block = stands_within f.blocks b (kept_number f keeps b there).within in
      (block.0, block.1, block_there o f (covers_kept f keeps h) b block.0 there block.1)

  ends_renamed : (b : ℕ) → is_in b o.blocks ≡ true → successors g (at b) ≡ map at (successors f b)
  ends_renamed b there =
      let block = found b there in
      ap ends_of block.2
      ∙ ap (map (λ (t : BlockId). t.0)) (targets_renamed o block.0.term)
      ∙ numbers_of_targets o (targets block.0.term)
      ∙ ap (λ x. map at (ends_of x)) (sym block.1)

  ids_renamed : (b : ℕ) → is_in b o.blocks ≡ true → results_in g (at b) ≡ map new (results_in f b)
  ids_renamed b there =
      let block = found b there in
      ap ids_in block.2 ∙ ids_of_block o block.0 ∙ ap (λ x. map new (ids_in x)) (sym block.1)

  before_renamed : (b n : ℕ) → is_in b o.blocks ≡ true → results_before g (at b) n ≡ map new (results_before f b n)
  before_renamed b n there =
      let block = found b there in
      let phis : List ℕ = map (λ (p : Phi). p.result.0) block.0.phis in
      ap (λ x. ids_before x n) block.2
      ∙ ap (λ r. r ++ inst_ids (take n (map (renamed_inst o) block.0.insts))) (phi_ids o block.0.phis)
      ∙ ap (λ r. map new phis ++ r) (ap inst_ids (take-map (renamed_inst o) n block.0.insts) ∙ results_ids o (take n block.0.insts))
      ∙ sym (map-append new phis (inst_ids (take n block.0.insts)))
      ∙ ap (λ x. map new (ids_before x n)) (sym block.1)

  lines_renamed : (b : ℕ) → is_in b o.blocks ≡ true → line_count g (at b) ≡ line_count f b
  lines_renamed b there =
      let block = found b there in
      ap lines_of block.2 ∙ length-map block.0.insts (renamed_inst o) ∙ ap lines_of (sym block.1)

  -- ---- walks

  no_ends : (from x : ℕ) → length o.blocks ≤ from → IsEdge g from x → ⊥
  no_ends from x l e =
      let count = count_of_blocks f keeps h in
      let none : successors g from ≡ [] = ap ends_of (slice_get_past g.blocks from (omega arith)) in
      let member : is_in x [] ≡ true = sym (ap (is_in x) none) ∙ e in
      cc

  edge_from : (from x : ℕ) → IsEdge g from x → from < length o.blocks
  edge_from from x e = elim (cases_lt from (length o.blocks)) [ inl l ↦ l | inr l ↦ absurd (no_ends from x l e) ]

  edge_back : (from' b : ℕ) → is_in b o.blocks ≡ true → IsEdge g from' (at b) → EdgeBack f o.blocks from' b
  edge_back from' b there e =
      let q = kept_at f keeps from' (edge_from from' (at b) e) in
      let member : is_in (at b) (map at (successors f q.number)) ≡ true =
      sym (ap (is_in (at b)) (ends_renamed q.number q.among)) ∙ subst (λ i. is_in (at b) (successors g i) ≡ true) (sym q.is) e in
      let image = from_map at (at b) (successors f q.number) member in
      let same : image.of ≡ b = same_place o.blocks b image.of there (sym image.is) in
      record { from = q.number; among = q.among; is = q.is; edge = subst (λ x. is_in x (successors f q.number) ≡ true) same image.among }

  walk_back : (passed' : List ℕ) (b : ℕ) → is_in b o.blocks ≡ true → IsWalk g (at b ∷ passed') → WalkBack f o.blocks b passed'
  walk_back [] b there w =
      let first = first_place o f (covers_kept f keeps h) in
      record { passed = []; among = λ n t. absurd (cc); places = refl; walk = same_place o.blocks 0 b first.0 (w ∙ sym first.1) }
  walk_back (from' ∷ rest') b there w =
      let e = edge_back from' b there w.0 in
      let again = walk_back rest' e.from e.among (subst (λ x. IsWalk g (x ∷ rest')) (sym e.is) w.1) in
      record {
        passed = e.from ∷ again.passed;
        among = λ n t. elim (first_or_rest n e.from again.passed t) [
          | inl s ↦ subst (λ x. is_in x o.blocks ≡ true) (sym s) e.among
          | inr u ↦ again.among n u
        ];
        places = ap (λ x. x ∷ rest') (sym e.is) ∙ ap (λ r. at e.from ∷ r) again.places;
        walk = (e.edge, again.walk);
      }

  -- a walk comes to kept blocks alone
  walk_within : (passed' : List ℕ) (b' : ℕ) → IsWalk g (b' ∷ passed') → b' < length o.blocks
  walk_within [] b' w =
      let first = first_place o f (covers_kept f keeps h) in
      let below = place_below o.blocks 0 first.0 in
      let zero_place = first.1 in
      omega (arith, w, below, zero_place)
  walk_within (from' ∷ rest') b' w =
      let q = kept_at f keeps from' (edge_from from' b' w.0) in
      let member : is_in b' (map at (successors f q.number)) ≡ true =
      sym (ap (is_in b') (ends_renamed q.number q.among)) ∙ subst (λ i. is_in b' (successors g i) ≡ true) (sym q.is) w.0 in
      let image = from_map at b' (successors f q.number) member in
      let to = h.edges q.number image.of (kept_number f keeps q.number q.among).kept image.among in
      subst (λ x. x < length o.blocks) (sym image.is) (place_below o.blocks image.of (number_kept f keeps image.of to.0 to.1))

  -- ---- names that are defined on walks

  results_on : (passed : List ℕ) (v : ℕ) → AreAmong passed o.blocks → list_any (λ b. is_in v (results_in f b)) passed ≡ true →
      list_any (λ b. is_in (new v) (results_in g b)) (map at passed) ≡ true
  results_on [] v among t = t
  results_on (b ∷ passed) v among t = elim (or_cases (is_in v (results_in f b)) (list_any (λ b. is_in v (results_in f b)) passed) t) [
    | inl s ↦ or_left (is_in (new v) (results_in g (at b))) (list_any (λ b. is_in (new v) (results_in g b)) (map at passed))
        (ap (is_in (new v)) (ids_renamed b (among b (in_first b b passed refl))) ∙ in_map new v (results_in f b) s)
    | inr u ↦ or_right (is_in (new v) (results_in g (at b))) (list_any (λ b. is_in (new v) (results_in g b)) (map at passed))
        (results_on passed v (λ n i. among n (in_rest n b passed i)) u)
  ]

  parameter_kept : (v : ℕ) → is_parameter f v ≡ true → is_parameter g (new v) ≡ true
  parameter_kept v t = ap (is_in (new v)) (param_ids o f.params) ∙ in_map new v (map (λ (p : Param). p.value.0) f.params) t

  over_kept : (passed : List ℕ) (v : ℕ) → AreAmong passed o.blocks → defined_over f passed v ≡ true → defined_over g (map at passed) (new v) ≡ true
  over_kept passed v among t = elim (or_cases (is_parameter f v) (list_any (λ b. is_in v (results_in f b)) passed) t) [
    | inl s ↦ or_left (is_parameter g (new v)) (list_any (λ b. is_in (new v) (results_in g b)) (map at passed)) (parameter_kept v s)
    | inr u ↦ or_right (is_parameter g (new v)) (list_any (λ b. is_in (new v) (results_in g b)) (map at passed)) (results_on passed v among u)
  ]

  on_kept : (passed : List ℕ) (b n v : ℕ) → AreAmong passed o.blocks → is_in b o.blocks ≡ true → defined_on f passed b n v ≡ true →
      defined_on g (map at passed) (at b) n (new v) ≡ true
  on_kept passed b n v among there t = elim (or_cases (defined_over f passed v) (is_in v (results_before f b n)) t) [
    | inl s ↦ or_left (defined_over g (map at passed) (new v)) (is_in (new v) (results_before g (at b) n)) (over_kept passed v among s)
    | inr u ↦ or_right (defined_over g (map at passed) (new v)) (is_in (new v) (results_before g (at b) n))
        (ap (is_in (new v)) (before_renamed b n there) ∙ in_map new v (results_before f b n) u)
  ]

  use_kept : (b n v : ℕ) → is_in b o.blocks ≡ true → IsDefinedAt f b n v → IsDefinedAt g (at b) n (new v)
  use_kept b n v there d passed' w =
      let back = walk_back passed' b there w in
      subst (λ p. defined_on g p (at b) n (new v) ≡ true) (sym back.places) (on_kept back.passed b n v back.among there (d back.passed back.walk))

  -- ---- uses

  uses_kept : (b n : ℕ) → is_in b o.blocks ≡ true → (names : List ℕ) → All (UseIsDefined f) (uses_at b n names) →
      All (UseIsDefined g) (uses_at (at b) n (map new names))
  uses_kept b n there [] d = All-nil (UseIsDefined g)
  uses_kept b n there (v ∷ names) d =
      All-cons (UseIsDefined g) (record { name = new v; block = at b; line = n }) (uses_at (at b) n (map new names))
      (use_kept b n v there (All-head (UseIsDefined f) (record { name = v; block = b; line = n }) (uses_at b n names) d))
      (uses_kept b n there names (All-tail (UseIsDefined f) (record { name = v; block = b; line = n }) (uses_at b n names) d))

  -- no walk comes to a block that is not there
  uses_nowhere : (n : ℕ) (names : List ℕ) → All (UseIsDefined g) (uses_at (length o.blocks) n names)
  uses_nowhere n [] = All-nil (UseIsDefined g)
  uses_nowhere n (v ∷ names) =
      All-cons (UseIsDefined g) (record { name = v; block = length o.blocks; line = n }) (uses_at (length o.blocks) n names)
      (λ passed w. absurd (let below = walk_within passed (length o.blocks) w in omega arith)) (uses_nowhere n names)

  abbrev entry_uses : Function → Operand × BlockId → List NameUse
  entry_uses f e = uses_at e.1.0 (line_count f e.1.0) (operand_names e.0)

  entry_kept : (e : Operand × BlockId) → All (UseIsDefined f) (entry_uses f e) → All (UseIsDefined g) (entry_uses g (renamed_entry o e))
  entry_kept e d = subst (λ names. All (UseIsDefined g) (uses_at (at e.1.0) (line_count g (at e.1.0)) names)) (sym (names_of_operand o e.0)) (by (is_in e.1.0 o.blocks) refl)
    where
      by : (t : Bool) → is_in e.1.0 o.blocks ≡ t → All (UseIsDefined g) (uses_at (at e.1.0) (line_count g (at e.1.0)) (map new (operand_names e.0)))
      by true there = subst (λ n. All (UseIsDefined g) (uses_at (at e.1.0) n (map new (operand_names e.0)))) (sym (lines_renamed e.1.0 there))
          (uses_kept e.1.0 (line_count f e.1.0) there (operand_names e.0) d)
      by false gone = subst (λ b. All (UseIsDefined g) (uses_at b (line_count g b) (map new (operand_names e.0)))) (sym (place_past o.blocks e.1.0 gone))
          (uses_nowhere (line_count g (length o.blocks)) (map new (operand_names e.0)))

  entries_kept : (entries : List (Operand × BlockId)) → All (UseIsDefined f) (flat_map (entry_uses f) entries) →
      All (UseIsDefined g) (flat_map (entry_uses g) (map (renamed_entry o) entries))
  entries_kept [] d = All-nil (UseIsDefined g)
  entries_kept (e ∷ entries) d =
      All-append (UseIsDefined g) (entry_uses g (renamed_entry o e)) (flat_map (entry_uses g) (map (renamed_entry o) entries))
      (entry_kept e (all_left (UseIsDefined f) (entry_uses f e) (flat_map (entry_uses f) entries) d))
      (entries_kept entries (all_right (UseIsDefined f) (entry_uses f e) (flat_map (entry_uses f) entries) d))

  phis_kept : (phis : List Phi) → All (UseIsDefined f) (flat_map (phi_uses f) phis) → All (UseIsDefined g) (flat_map (phi_uses g) (map (renamed_phi o) phis))
  phis_kept [] d = All-nil (UseIsDefined g)
  phis_kept (p ∷ phis) d =
      All-append (UseIsDefined g) (phi_uses g (renamed_phi o p)) (flat_map (phi_uses g) (map (renamed_phi o) phis))
      (entries_kept p.entries (all_left (UseIsDefined f) (phi_uses f p) (flat_map (phi_uses f) phis) d))
      (phis_kept phis (all_right (UseIsDefined f) (phi_uses f p) (flat_map (phi_uses f) phis) d))

  op_renamed : (op : Op) → ((place : ℕ) → call_place op ≡ Some place → is_in place o.calls ≡ true) → op_names g (renamed_op o op) ≡ map new (op_names f op)
  op_renamed (Op.Bin bin flags w a b) called = names_of_two o a b
  op_renamed (Op.Icmp pred samesign w a b) called = names_of_two o a b
  op_renamed (Op.Select w c a b) called =
      ap (λ r. r ++ (operand_names (renamed_operand o a) ++ operand_names (renamed_operand o b))) (names_of_operand o c)
      ∙ ap (λ r. map new (operand_names c) ++ r) (names_of_two o a b)
      ∙ sym (map-append new (operand_names c) (operand_names a ++ operand_names b))
  op_renamed (Op.Cast cast flags from to a) called = names_of_operand o a
  op_renamed (Op.Freeze w a) called = names_of_operand o a
  op_renamed (Op.Two fun w a b) called = names_of_two o a b
  op_renamed (Op.One fun w a strict) called = names_of_operand o a
  op_renamed (Op.Over over w a b) called = names_of_two o a b
  op_renamed (Op.Part w pair index) called = refl
  op_renamed (Op.Assume c) called = names_of_operand o c
  op_renamed (Op.Call width place) called =
      let there = called place refl in
      let call = stands_within f.calls place (h.calls place there) in
      ap names_of_call (slice_get-map (renamed_call o) (at_places f.calls o.calls) (place_among o.calls place)
      ∙ ap (option_map (renamed_call o)) (at_its_place f.calls o.calls h.calls place there ∙ call.1))
      ∙ names_of_arguments o call.0.args
      ∙ ap (λ x. map new (names_of_call x)) (sym call.1)

  abbrev inst_calls : List Inst → List ℕ
  inst_calls insts = filter_map (λ (i : Inst). call_place i.op) insts

  insts_kept : (b n : ℕ) → is_in b o.blocks ≡ true → (insts : List Inst) → AreAmong (inst_calls insts) o.calls →
      All (UseIsDefined f) (inst_uses f b n insts) → All (UseIsDefined g) (inst_uses g (at b) n (map (renamed_inst o) insts))
  insts_kept b n there [] called d = All-nil (UseIsDefined g)
  insts_kept b n there (i ∷ insts) called d =
      let names : op_names g (renamed_op o i.op) ≡ map new (op_names f i.op) =
      op_renamed i.op (λ place e. called place (is_option (call_place i.op) place (inst_calls insts) e)) in
      All-append (UseIsDefined g) (uses_at (at b) n (op_names g (renamed_op o i.op))) (inst_uses g (at b) (n + 1) (map (renamed_inst o) insts))
      (subst (λ ns. All (UseIsDefined g) (uses_at (at b) n ns)) (sym names)
      (uses_kept b n there (op_names f i.op) (all_left (UseIsDefined f) (uses_at b n (op_names f i.op)) (inst_uses f b (n + 1) insts) d)))
      (insts_kept b (n + 1) there insts (λ m t. called m (in_option (call_place i.op) m (inst_calls insts) t))
      (all_right (UseIsDefined f) (uses_at b n (op_names f i.op)) (inst_uses f b (n + 1) insts) d))

  block_kept : (b : ℕ) (block : Block) → is_in b o.blocks ≡ true → slice_get f.blocks b ≡ Some block → All (UseIsDefined f) (block_uses f b block) →
      All (UseIsDefined g) (block_uses g (at b) (renamed_block o block))
  block_kept b block there is d =
      let called = ((covers_kept f keeps h).each_block b block there is).calls in
      let phis : List NameUse = flat_map (phi_uses f) block.phis in
      let lines : List NameUse = inst_uses f b 0 block.insts in
      let last : List NameUse = uses_at b (length block.insts) (term_names block.term) in
      let behind : All (UseIsDefined f) (lines ++ last) = all_right (UseIsDefined f) phis (lines ++ last) d in
      let long : length (map (renamed_inst o) block.insts) ≡ length block.insts = length-map block.insts (renamed_inst o) in
      let end : All (UseIsDefined g) (uses_at (at b) (length block.insts) (map new (term_names block.term))) =
      uses_kept b (length block.insts) there (term_names block.term) (all_right (UseIsDefined f) lines last behind) in
      All-append (UseIsDefined g) (flat_map (phi_uses g) (map (renamed_phi o) block.phis))
      (inst_uses g (at b) 0 (map (renamed_inst o) block.insts)
      ++ uses_at (at b) (length (map (renamed_inst o) block.insts)) (term_names (renamed_term o block.term)))
      (phis_kept block.phis (all_left (UseIsDefined f) phis (lines ++ last) d))
      (All-append (UseIsDefined g) (inst_uses g (at b) 0 (map (renamed_inst o) block.insts))
      (uses_at (at b) (length (map (renamed_inst o) block.insts)) (term_names (renamed_term o block.term)))
      (insts_kept b 0 there block.insts called (all_left (UseIsDefined f) lines last behind))
      (subst (λ n. All (UseIsDefined g) (uses_at (at b) n (term_names (renamed_term o block.term)))) (sym long)
      (subst (λ ns. All (UseIsDefined g) (uses_at (at b) (length block.insts) ns)) (sym (names_of_term o block.term)) end)))

  pub names_defined : Defined f → Defined g
  names_defined d = each_block (UseIsDefined g) g 0 g.blocks (λ i x is.
      let count = count_of_blocks f keeps h in
      let within = slice_get_within g.blocks i x is in
      let q = kept_at f keeps i (omega (arith, count, within)) in
      let block = found q.number q.among in
      let same : renamed_block o block.0 ≡ x = same_Some (renamed_block o block.0) x (sym block.2 ∙ subst (λ j. slice_get g.blocks j ≡ Some x) (sym q.is) is) in
      let zero_more : 0 + i ≡ i = omega arith in
      let zero_number : 0 + q.number ≡ q.number = omega arith in
      let old : All (UseIsDefined f) (block_uses f q.number block.0) =
      subst (λ j. All (UseIsDefined f) (block_uses f j block.0)) zero_number (one_block (UseIsDefined f) f 0 f.blocks q.number block.0 block.1 d) in
      subst (λ j. All (UseIsDefined g) (block_uses g j x)) (q.is ∙ sym zero_more)
      (subst (λ y. All (UseIsDefined g) (block_uses g (at q.number) y)) same (block_kept q.number block.0 q.among block.1 old)))
