-- What is kept of a narrowed function may be numbered: it defines names of the function and makes its calls.
use Rattle.std.proofs.Common.{◌≡◌, ℕ, zero, suc, ◌+◌, ◌<◌, Bool, true, false, cond, nat_eq, ◌||◌, Option, Some, None, List, [], ◌∷◌, ◌++◌, map, flat_map, slice_get, length, refl, sym, ◌∙◌, ap, subst, arith, inl, inr}
use Rattle.std.specs.Prelude.{filter, filter_map, if◌then◌else◌}
use Rattle.std.specs.List.{AllByRecursion, IsDistinct, cons_option, range_with_len}
use Rattle.std.proofs.lemmas.List.Elements.{recursion_from_All}
use Rattle.vfa_ir.specs.declared.operations.Op.{Op}
use Rattle.vfa_ir.specs.declared.operations.Operand.{Operand}
use Rattle.vfa_ir.specs.declared.functions.Block.{Block}
use Rattle.vfa_ir.specs.declared.functions.Function.{Function}
use Rattle.vfa_ir.specs.declared.functions.Inst.{Inst}
use Rattle.vfa_ir.specs.declared.functions.Param.{Param}
use Rattle.vfa_ir.specs.declared.functions.Phi.{Phi}
use Rattle.vfa_ir.specs.declared.functions.Term.{Term}
use Rattle.vfa_ir.specs.PhisFit.{targets}
use Rattle.vfa_ir.specs.Printable.{ids_of, inst_ids, block_ids, call_place, block_call_places, call_places}
use Rattle.vfa_ir.specs.Walks.{is_in, successors}
use Rattle.vfa_mean.specs.Outcomes.{first_block}
use Rattle.vfa_mean.specs.Numbering.{MayBeNumbered, kept_blocks, kept_values, kept_calls, each_number}
use Rattle.vfa_mean.specs.Renaming.{at_places}
use Rattle.vfa_mean.proofs.FreshOperands.Definitions.{in_first, in_rest, first_or_rest}
use Rattle.vfa_demand.specs.Rows.{needs_all}
use Rattle.vfa_ir.specs.declared.operations.Cast.{Cast}
use Rattle.vfa_ir.specs.declared.functions.CallOp.{CallOp}
use Rattle.vfa_ir.specs.Operands.{without_flags}
use Rattle.vfa_check.specs.Within.{IsWithin}
use Rattle.vfa_mean.proofs.KeptParts.{from_range}
use Rattle.vfa_demand.specs.Masks.{result_mask}
use Rattle.vfa_bits.specs.Standing.{put_for}
use Rattle.vfa_bits.specs.Changed.{has_unseen_sign}
use Rattle.vfa_bits.specs.Narrowed.{Choices, with_operands, with_zeros, narrowed_cast, lost_flags, has_changed, new_calls, with_operand, new_operation, new_line, new_phi, new_block, new_blocks, rewritten, is_used, stays, block_left, left}

-- ---- some elements of a list, in order

pub data IsSublist : List ℕ → List ℕ → Type 0 where
  end : IsSublist [] []
  skip : (x : ℕ) (xs ys : List ℕ) → IsSublist xs ys → IsSublist xs (x ∷ ys)
  keep : (x : ℕ) (xs ys : List ℕ) → IsSublist xs ys → IsSublist (x ∷ xs) (x ∷ ys)

pub sublist_append : (a b c d : List ℕ) → IsSublist a b → IsSublist c d → IsSublist (a ++ c) (b ++ d)
sublist_append a b c d end h = h
sublist_append a b c d (skip x xs ys s) h = skip x (xs ++ c) (ys ++ d) (sublist_append xs ys c d s h)
sublist_append a b c d (keep x xs ys s) h = keep x (xs ++ c) (ys ++ d) (sublist_append xs ys c d s h)

pub sublist_self : (xs : List ℕ) → IsSublist xs xs
sublist_self [] = end
sublist_self (x ∷ xs) = keep x xs xs (sublist_self xs)

pub sublist_in : (xs ys : List ℕ) (n : ℕ) → IsSublist xs ys → is_in n xs ≡ true → is_in n ys ≡ true
sublist_in xs ys n end h = h
sublist_in xs ys n (skip x cs ds s) h = in_rest n x ds (sublist_in cs ds n s h)
sublist_in xs ys n (keep x cs ds s) h = elim (first_or_rest n x cs h) [ inl e ↦ in_first n x ds e | inr t ↦ in_rest n x ds (sublist_in cs ds n s t) ]

apart_sublist : (x : ℕ) (xs ys : List ℕ) → IsSublist xs ys → AllByRecursion (λ y. nat_eq x y ≡ false) ys → AllByRecursion (λ y. nat_eq x y ≡ false) xs
apart_sublist x xs ys end h = h
apart_sublist x xs ys (skip z cs ds s) h = apart_sublist x cs ds s h.1
apart_sublist x xs ys (keep z cs ds s) h = (h.0, apart_sublist x cs ds s h.1)

pub sublist_distinct : (xs ys : List ℕ) → IsSublist xs ys → IsDistinct nat_eq ys → IsDistinct nat_eq xs
unfolding IsDistinct
sublist_distinct xs ys end h = h
sublist_distinct xs ys (skip x cs ds s) h = sublist_distinct cs ds s h.1
sublist_distinct xs ys (keep x cs ds s) h = (apart_sublist x cs ds s h.0, sublist_distinct cs ds s h.1)

-- ---- all blocks are kept

all_pass : (xs : List ℕ) → filter each_number xs ≡ xs
all_pass [] = refl
all_pass (x ∷ xs) = ap (λ rest. x ∷ rest) (all_pass xs)

at_range : {A : Type 0} (all xs : List A) (a : ℕ) → ((j : ℕ) → slice_get all (a + j) ≡ slice_get xs j) → at_places all (range_with_len a (length xs)) ≡ xs
at_range all [] a h = refl
at_range all (x ∷ xs) a h =
    let here : slice_get all a ≡ Some x = ap (slice_get all) (plus_zero a) ∙ h 0 in
    let later = at_range all xs (a + 1) (λ j. ap (slice_get all) (one_more a j) ∙ h (suc j)) in
    ap (λ o. cons_option o (at_places all (range_with_len (a + 1) (length xs)))) here ∙ ap (λ rest. x ∷ rest) later
  where
    plus_zero : (n : ℕ) → n ≡ n + 0
    plus_zero n = omega arith

    one_more : (n j : ℕ) → n + 1 + j ≡ n + suc j
    one_more n j = omega arith

pub all_kept : (f : Function) → kept_blocks f each_number ≡ f.blocks
all_kept f =
    ap (at_places f.blocks) (all_pass (range_with_len 0 (length f.blocks)))
    ∙ at_range f.blocks f.blocks 0 (λ j. ap (slice_get f.blocks) (zero_plus j))
  where
    zero_plus : (j : ℕ) → 0 + j ≡ j
    zero_plus j = omega arith

pub all_values : (f : Function) → kept_values f each_number ≡ ids_of f
all_values f = ap (λ bs. map (λ (p : Param). p.value.0) f.params ++ flat_map block_ids bs) (all_kept f)

pub all_calls : (f : Function) → kept_calls f each_number ≡ call_places f
all_calls f = ap (flat_map block_call_places) (all_kept f)

-- ---- the calls that are left

with_place : (put : Operand → Operand) (op : Op) → call_place (with_operands put op) ≡ call_place op
with_place put (Op.Bin bin flags w a b) = refl
with_place put (Op.Icmp pred samesign w a b) = refl
with_place put (Op.Select w c a b) = refl
with_place put (Op.Cast cast flags v w a) = refl
with_place put (Op.Freeze w a) = refl
with_place put (Op.Two fun w a b) = refl
with_place put (Op.One fun w a strict) = refl
with_place put (Op.Over over w a b) = refl
with_place put (Op.Part w pair index) = refl
with_place put (Op.Assume c) = refl
with_place put (Op.Call width place) = refl

without_place : (op : Op) → call_place (without_flags op) ≡ call_place op
without_place (Op.Bin bin flags w a b) = refl
without_place (Op.Icmp pred samesign w a b) = refl
without_place (Op.Select w c a b) = refl
without_place (Op.Cast cast flags v w a) = refl
without_place (Op.Freeze w a) = refl
without_place (Op.Two fun w a b) = refl
without_place (Op.One fun w a strict) = refl
without_place (Op.Over over w a b) = refl
without_place (Op.Part w pair index) = refl
without_place (Op.Assume c) = refl
without_place (Op.Call width place) = refl

zeros_place : (op : Op) → call_place (with_zeros op) ≡ call_place op
zeros_place (Op.Bin bin flags w a b) = refl
zeros_place (Op.Icmp pred samesign w a b) = refl
zeros_place (Op.Select w c a b) = refl
zeros_place (Op.Cast Cast.Zext flags v w a) = refl
zeros_place (Op.Cast Cast.Sext flags v w a) = refl
zeros_place (Op.Cast Cast.Trunc flags v w a) = refl
zeros_place (Op.Freeze w a) = refl
zeros_place (Op.Two fun w a b) = refl
zeros_place (Op.One fun w a strict) = refl
zeros_place (Op.Over over w a b) = refl
zeros_place (Op.Part w pair index) = refl
zeros_place (Op.Assume c) = refl
zeros_place (Op.Call width place) = refl

place_needs : (op : Op) (p : ℕ) → call_place op ≡ Some p → needs_all op ≡ true
place_needs (Op.Bin bin flags w a b) p e = absurd (cc)
place_needs (Op.Icmp pred samesign w a b) p e = absurd (cc)
place_needs (Op.Select w c a b) p e = absurd (cc)
place_needs (Op.Cast cast flags v w a) p e = absurd (cc)
place_needs (Op.Freeze w a) p e = absurd (cc)
place_needs (Op.Two fun w a b) p e = absurd (cc)
place_needs (Op.One fun w a strict) p e = absurd (cc)
place_needs (Op.Over over w a b) p e = absurd (cc)
place_needs (Op.Part w pair index) p e = absurd (cc)
place_needs (Op.Assume c) p e = absurd (cc)
place_needs (Op.Call width place) p e = refl

pub same_targets : (put : Operand → Operand) (term : Term) → targets (with_operand put term) ≡ targets term
same_targets put (Term.Ret w a) = refl
same_targets put (Term.Br to) = refl
same_targets put (Term.CondBr c taken fallen) = refl
same_targets put (Term.Switch w on other cases) = refl
same_targets put Term.Unreachable = refl

pub lost_place : (f : Function) (masks : ℕ → ℕ) (by : Choices) (b : ℕ) (inst : Inst) → call_place (new_operation f masks by b inst) ≡ call_place inst.op
lost_place f masks by b inst =
    with_place (put_for f masks (by.reached b)) (lost_flags (has_changed f by.changed inst.op) (narrowed_cast inst.op (result_mask masks inst)))
    ∙ lost (has_changed f by.changed inst.op) (narrowed_cast inst.op (result_mask masks inst)) ∙ cast (has_unseen_sign inst.op (result_mask masks inst))
  where
    lost : (t : Bool) (op : Op) → call_place (lost_flags t op) ≡ call_place op
    lost true op = without_place op
    lost false op = refl

    cast : (t : Bool) → call_place (if t then with_zeros inst.op else inst.op) ≡ call_place inst.op
    cast true = zeros_place inst.op
    cast false = refl

-- ---- the results that are left

module _ (f : Function) (masks : ℕ → ℕ) (by : Choices) (used : ℕ → Bool) where
  phis_left : (phis : List Phi) →
      IsSublist (map (λ (p : Phi). p.result.0) (filter (λ (p : Phi). used p.result.0) (map (new_phi f masks by) phis))) (map (λ (p : Phi). p.result.0) phis)
  phis_left [] = end
  phis_left (phi ∷ rest) = here (used phi.result.0) (phis_left rest)
    where
      here : (t : Bool) → IsSublist (map (λ (p : Phi). p.result.0) (filter (λ (p : Phi). used p.result.0) (map (new_phi f masks by) rest))) (map (λ (p : Phi). p.result.0) rest) →
          IsSublist (map (λ (p : Phi). p.result.0) (cond t (new_phi f masks by phi ∷ filter (λ (p : Phi). used p.result.0) (map (new_phi f masks by) rest)) (filter (λ (p : Phi). used p.result.0) (map (new_phi f masks by) rest))))
          (phi.result.0 ∷ map (λ (p : Phi). p.result.0) rest)
      here true s = keep phi.result.0 _ _ s
      here false s = skip phi.result.0 _ _ s

  lines_left : (b : ℕ) (insts : List Inst) → IsSublist (inst_ids (filter (stays used) (map (new_line f masks by b) insts))) (inst_ids insts)
  lines_left b [] = end
  lines_left b (inst ∷ rest) = here (stays used (new_line f masks by b inst)) (lines_left b rest)
    where
      named : (o : Option ℕ) (xs ys : List ℕ) → IsSublist xs ys → IsSublist (cons_option o xs) (cons_option o ys)
      named None xs ys s = s
      named (Some v) xs ys s = keep v xs ys s

      unnamed : (o : Option ℕ) (xs ys : List ℕ) → IsSublist xs ys → IsSublist xs (cons_option o ys)
      unnamed None xs ys s = s
      unnamed (Some v) xs ys s = skip v xs ys s

      here : (t : Bool) → IsSublist (inst_ids (filter (stays used) (map (new_line f masks by b) rest))) (inst_ids rest) →
          IsSublist (inst_ids (cond t (new_line f masks by b inst ∷ filter (stays used) (map (new_line f masks by b) rest)) (filter (stays used) (map (new_line f masks by b) rest)))) (inst_ids (inst ∷ rest))
      here true s = named (elim inst.result [ None ↦ None | Some v ↦ Some v.0 ]) _ _ s
      here false s = unnamed (elim inst.result [ None ↦ None | Some v ↦ Some v.0 ]) _ _ s

  blocks_left : (n : ℕ) (blocks : List Block) → IsSublist (flat_map block_ids (map (block_left used) (new_blocks f masks by n blocks))) (flat_map block_ids blocks)
  blocks_left n [] = end
  blocks_left n (block ∷ rest) =
      sublist_append _ _ _ _ (sublist_append _ _ _ _ (phis_left block.phis) (lines_left n block.insts)) (blocks_left (suc n) rest)

  pub results_left : IsSublist (ids_of (left used (rewritten f masks by))) (ids_of f)
  results_left = sublist_append _ _ _ _ (sublist_self (map (λ (p : Param). p.value.0) f.params)) (blocks_left 0 f.blocks)

  -- ---- blocks, edges and calls are as many as before

  pub blocks_or : (n m i : ℕ) (blocks : List Block) → m ≡ n + i →
      slice_get (map (block_left used) (new_blocks f masks by n blocks)) i ≡ elim (slice_get blocks i) [ None ↦ None | Some block ↦ Some (block_left used (new_block f masks by m block)) ]
  blocks_or n m i [] e = refl
  blocks_or n m zero (c ∷ blocks) e = let same : n ≡ m = omega arith in ap (λ k. Some (block_left used (new_block f masks by k c))) same
  blocks_or n m (suc i) (c ∷ blocks) e = blocks_or (suc n) m i blocks (omega arith)

  pub block_or : (b : ℕ) →
      slice_get (map (block_left used) (new_blocks f masks by 0 f.blocks)) b ≡ elim (slice_get f.blocks b) [ None ↦ None | Some block ↦ Some (block_left used (new_block f masks by b block)) ]
  block_or b = blocks_or 0 b b f.blocks (omega arith)

  abbrev successors_in : Option Block → List ℕ
  successors_in o = elim o [ None ↦ [] | Some block ↦ map (λ t. t.0) (targets block.term) ]

  abbrev pub left_in : ℕ → Option Block → Option Block
  left_in b o = elim o [ None ↦ None | Some block ↦ Some (block_left used (new_block f masks by b block)) ]

  pub same_successors : (b : ℕ) → successors (left used (rewritten f masks by)) b ≡ successors f b
  same_successors b =
      ap successors_in (block_or b) ∙ here (slice_get f.blocks b)
    where
      here : (o : Option Block) → successors_in (left_in b o) ≡ successors_in o
      here None = refl
      here (Some block) = ap (map (λ t. t.0)) (same_targets (put_for f masks (by.reached b)) block.term)

  blocks_length : (n : ℕ) (blocks : List Block) → length (map (block_left used) (new_blocks f masks by n blocks)) ≡ length blocks
  blocks_length n [] = refl
  blocks_length n (c ∷ blocks) = ap suc (blocks_length (suc n) blocks)

  pub same_length : length (map (block_left used) (new_blocks f masks by 0 f.blocks)) ≡ length f.blocks
  same_length = blocks_length 0 f.blocks

  pub calls_length : (n : ℕ) (calls : List CallOp) → length (new_calls f masks by n calls) ≡ length calls
  calls_length n [] = refl
  calls_length n (c ∷ calls) = ap suc (calls_length (suc n) calls)

  lines_calls : (b : ℕ) (insts : List Inst) →
      filter_map (λ (i : Inst). call_place i.op) (filter (stays used) (map (new_line f masks by b) insts)) ≡ filter_map (λ (i : Inst). call_place i.op) insts
  lines_calls b [] = refl
  lines_calls b (inst ∷ rest) = here (stays used (new_line f masks by b inst)) refl (lines_calls b rest)
    where
      later : List ℕ
      later = filter_map (λ (i : Inst). call_place i.op) rest

      no_place : (o : Option ℕ) → call_place inst.op ≡ o → needs_all (new_operation f masks by b inst) ≡ false → o ≡ None
      no_place None e free = refl
      no_place (Some p) e free = absurd (let k = place_needs (new_operation f masks by b inst) p (lost_place f masks by b inst ∙ e) in cc)

      free_of : (a b : Bool) → (a || b) ≡ false → a ≡ false
      free_of true b e = absurd (cc)
      free_of false b e = refl

      here : (t : Bool) → stays used (new_line f masks by b inst) ≡ t →
          filter_map (λ (i : Inst). call_place i.op) (filter (stays used) (map (new_line f masks by b) rest)) ≡ filter_map (λ (i : Inst). call_place i.op) rest →
          filter_map (λ (i : Inst). call_place i.op) (cond t (new_line f masks by b inst ∷ filter (stays used) (map (new_line f masks by b) rest)) (filter (stays used) (map (new_line f masks by b) rest)))
          ≡ cons_option (call_place inst.op) (filter_map (λ (i : Inst). call_place i.op) rest)
      here true e again = ap (λ o. cons_option o (filter_map (λ (i : Inst). call_place i.op) (filter (stays used) (map (new_line f masks by b) rest)))) (lost_place f masks by b inst)
          ∙ ap (cons_option (call_place inst.op)) again
      here false e again =
          let none = no_place (call_place inst.op) refl (free_of (needs_all (new_operation f masks by b inst)) (is_used used inst.result) e) in
          again ∙ ap (λ o. cons_option o (filter_map (λ (i : Inst). call_place i.op) rest)) (sym none)

  blocks_calls : (n : ℕ) (blocks : List Block) → flat_map block_call_places (map (block_left used) (new_blocks f masks by n blocks)) ≡ flat_map block_call_places blocks
  blocks_calls n [] = refl
  blocks_calls n (c ∷ blocks) =
      ap (λ xs. xs ++ flat_map block_call_places (map (block_left used) (new_blocks f masks by (suc n) blocks))) (lines_calls n c.insts)
      ∙ ap (λ ys. block_call_places c ++ ys) (blocks_calls (suc n) blocks)

  pub same_calls : call_places (left used (rewritten f masks by)) ≡ call_places f
  same_calls = blocks_calls 0 f.blocks

  -- ---- so the function may be numbered

  pub may_be_numbered : IsWithin f → call_places f ≡ range_with_len 0 (length f.calls) → MayBeNumbered (left used (rewritten f masks by)) each_number
  may_be_numbered within calls_in_order = record {
    some = subst (λ n. first_block < n) (sym (blocks_length 0 f.blocks)) within.entry;
    entry = refl;
    edges = λ from to kept edge. (refl, subst (λ n. to < n) (sym (blocks_length 0 f.blocks)) (within.edges from to (ap (is_in to) (sym (same_successors from)) ∙ edge)));
    values = λ v there. below v (sublist_in _ (ids_of f) v results_left (subst (λ xs. is_in v xs ≡ true) (all_values (left used (rewritten f masks by))) there));
    calls = λ c there. subst (λ n. c < n) (sym (calls_length 0 f.calls)) (below_range c (subst (λ xs. is_in c xs ≡ true) (all_calls (left used (rewritten f masks by)) ∙ same_calls ∙ calls_in_order) there));
  }
    where
      each : (P : ℕ → Type 0) (xs : List ℕ) (n : ℕ) → AllByRecursion P xs → is_in n xs ≡ true → P n
      each P [] n all t = absurd (cc)
      each P (x ∷ xs) n all t = elim (first_or_rest n x xs t) [ inl e ↦ subst P (sym e) all.0 | inr u ↦ each P xs n all.1 u ]

      below : (v : ℕ) → is_in v (ids_of f) ≡ true → v < length f.values
      below v t = each (λ n. n < length f.values) (ids_of f) v (recursion_from_All (λ n. n < length f.values) (ids_of f) within.names) t

      below_range : (c : ℕ) → is_in c (range_with_len 0 (length f.calls)) ≡ true → c < length f.calls
      below_range c t = let l = from_range 0 (length f.calls) c t in omega (arith, l)
