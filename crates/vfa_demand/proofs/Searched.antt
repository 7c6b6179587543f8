-- The search for the least masks.
use Rattle.std.proofs.Common.{◌≡◌, ◌≢◌, ◌<◌, ◌≤◌, ℕ, zero, suc, ◌+◌, ◌*◌, ◌^◌, Bool, true, false, List, [], ◌∷◌, ◌++◌, length, get_or, set, drop, drop-cons, add-one, flat_map, replicate, Option, Some, None, if◌then◌else◌, ap, subst, arith, lit<, sym, refl, ◌∙◌, inl, inr, ◌⊎◌, length-set, length-append}
use Rattle.std.proofs.lemmas.Bool.{cases_eq, cases_lt}
use Rattle.std.proofs.lemmas.List.{get_or-set_other, get_or-set_same, get_or_default, length-replicate}
use Rattle.std.specs.Prelude.{IfSome, slice_get}
use Rattle.vfa_ir.specs.declared.operations.BlockId.{BlockId}
use Rattle.vfa_ir.specs.declared.operations.Operand.{Operand}
use Rattle.vfa_ir.specs.declared.operations.ValueId.{ValueId}
use Rattle.vfa_ir.specs.declared.functions.Block.{Block}
use Rattle.vfa_ir.specs.declared.functions.Function.{Function}
use Rattle.vfa_ir.specs.declared.functions.Inst.{Inst}
use Rattle.vfa_ir.specs.declared.functions.Phi.{Phi}
use Rattle.vfa_ir.specs.Operands.{operands_of}
use Rattle.vfa_ir.specs.Words.{is_in}
use Rattle.vfa_mean.specs.Kept.{is_marked}
use Rattle.vfa_mean.proofs.FreshOperands.Definitions.{in_cases, in_first, in_left, in_right}
use Rattle.vfa_demand.specs.Definitions.{AreDefinitions, IsAmong}
use Rattle.vfa_demand.specs.Masks.{Ask, AreMasks, Have, HaveWhatIsAsked, IsPartOf, ask_of, asks_of, block_asks, inst_asks, mask_in, operand_asks, phi_asks, result_mask, seen_in, whole_asks}
use Rattle.vfa_demand.specs.Rows.{needs_all}
use Rattle.vfa_demand.specs.Steps.{IsBlockSettled, IsSearched, IsSettled, IsStep, Waits, block_root_asks, definition_asks, left_of, line_asks_at, phi_asks_at, root_asks}
use Rattle.vfa_demand.specs.declared.definitions.Definition.{Definition}
use Rattle.vfa_demand.proofs.Parts.{have_append, have_flat, have_grown, have_left, have_parts, have_right}
use Rattle.vfa_demand.proofs.Searching.{marked_within, only}
use Rattle.vfa_demand.proofs.Users.{entries_ask_nothing, less_entries, less_operands, operands_ask_alike, operands_ask_nothing, result_fits, result_within}
use Rattle.vfa_demand.proofs.Within.{none_within}

-- ---- masks that have what all uses ask for have what one definition asks for

module _ (f : Function) (m other : ℕ → ℕ) (fits : (v : ℕ) → other v < 2 ^ 128) (m_fits : (v : ℕ) → m v < 2 ^ 128)
    (inside : (v : ℕ) → IsPartOf (m v) (other v)) where
  phi_have : (o : Option Phi) → IfSome o (λ p. Have (phi_asks other p) other) → Have (elim o [ None ↦ [] | Some p ↦ phi_asks m p ]) other
  phi_have None h = tt
  phi_have (Some p) h = less_entries p.entries (m p.result.0) (other p.result.0) other (inside p.result.0) h

  line_have : (o : Option Inst) → IfSome o (λ i. Have (inst_asks f other i) other) → Have (elim o [ None ↦ [] | Some i ↦ inst_asks f m i ]) other
  line_have None h = tt
  line_have (Some i) h =
      less_operands i.op _ _ 0 (operands_of f i.op) other (result_fits i m m_fits) (result_fits i other fits) (result_within i m other inside) h

  phis_have : (j : ℕ) (o : Option Block) → IfSome o (λ b. Have (block_asks f other b) other) →
      Have (elim o [ None ↦ [] | Some b ↦ phi_asks_at m b.phis j ]) other
  phis_have j None h = tt
  phis_have j (Some b) h =
      phi_have (slice_get b.phis j) (have_parts (phi_asks other) b.phis other
      (have_left (flat_map (phi_asks other) b.phis) (flat_map (inst_asks f other) b.insts ++ whole_asks (seen_in b.term)) other h) j)

  lines_have : (i : ℕ) (o : Option Block) → IfSome o (λ b. Have (block_asks f other b) other) →
      Have (elim o [ None ↦ [] | Some b ↦ line_asks_at f m b.insts i ]) other
  lines_have i None h = tt
  lines_have i (Some b) h =
      line_have (slice_get b.insts i) (have_parts (inst_asks f other) b.insts other
      (have_left (flat_map (inst_asks f other) b.insts) (whole_asks (seen_in b.term)) other
      (have_right (flat_map (phi_asks other) b.phis) (flat_map (inst_asks f other) b.insts ++ whole_asks (seen_in b.term)) other h)) i)

  definition_have : (d : Definition) → Have (asks_of f other) other → Have (definition_asks f m d) other
  definition_have (Definition.Phi b j) h = phis_have j (slice_get f.blocks b) (have_parts (block_asks f other) f.blocks other h b)
  definition_have (Definition.Line b i) h = lines_have i (slice_get f.blocks b) (have_parts (block_asks f other) f.blocks other h b)

-- ---- and what is asked for whatever is asked of results

root_have : (f : Function) (other : ℕ → ℕ) (i : Inst) → ((v : ℕ) → other v < 2 ^ 128) → Have (inst_asks f other i) other → Have (root_asks f i) other
root_have f other i fits h = of (needs_all i.op)
  where
    of : (b : Bool) → Have (if b then operand_asks i.op 0 0 (operands_of f i.op) else []) other
    of true = less_operands i.op 0 (result_mask other i) 0 (operands_of f i.op) other (lit< tt) (result_fits i other fits) (none_within (result_mask other i)) h
    of false = tt

line_roots_have : (f : Function) (other : ℕ → ℕ) (insts : List Inst) → ((v : ℕ) → other v < 2 ^ 128) →
    Have (flat_map (inst_asks f other) insts) other → Have (flat_map (root_asks f) insts) other
line_roots_have f other [] fits h = tt
line_roots_have f other (i ∷ insts) fits h =
    have_append (root_asks f i) (flat_map (root_asks f) insts) other
    (root_have f other i fits (have_left (inst_asks f other i) (flat_map (inst_asks f other) insts) other h))
    (line_roots_have f other insts fits (have_right (inst_asks f other i) (flat_map (inst_asks f other) insts) other h))

block_roots_have : (f : Function) (other : ℕ → ℕ) (b : Block) → ((v : ℕ) → other v < 2 ^ 128) → Have (block_asks f other b) other →
    Have (block_root_asks f b) other
block_roots_have f other b fits h =
    let below = have_right (flat_map (phi_asks other) b.phis) (flat_map (inst_asks f other) b.insts ++ whole_asks (seen_in b.term)) other h in
    have_append (flat_map (root_asks f) b.insts) (whole_asks (seen_in b.term)) other
    (line_roots_have f other b.insts fits (have_left (flat_map (inst_asks f other) b.insts) (whole_asks (seen_in b.term)) other below))
    (have_right (flat_map (inst_asks f other) b.insts) (whole_asks (seen_in b.term)) other below)

roots_have : (f : Function) (other : ℕ → ℕ) (blocks : List Block) → ((v : ℕ) → other v < 2 ^ 128) → Have (flat_map (block_asks f other) blocks) other →
    Have (flat_map (block_root_asks f) blocks) other
roots_have f other [] fits h = tt
roots_have f other (b ∷ blocks) fits h =
    have_append (block_root_asks f b) (flat_map (block_root_asks f) blocks) other
    (block_roots_have f other b fits (have_left (block_asks f other b) (flat_map (block_asks f other) blocks) other h))
    (roots_have f other blocks fits (have_right (block_asks f other b) (flat_map (block_asks f other) blocks) other h))

-- ---- at the start

no_mask : (n v : ℕ) → mask_in (replicate n 0) v ≡ 0
no_mask zero v = refl
no_mask (suc n) zero = refl
no_mask (suc n) (suc v) = no_mask n v

all_wait : (n v : ℕ) → v < n → is_marked (replicate n true) v ≡ true
all_wait zero v l = absurd (omega (arith, l))
all_wait (suc n) zero l = refl
all_wait (suc n) (suc v) l = all_wait n v (omega (arith, l))

past_masks : (bits : List ℕ) (v : ℕ) → length bits ≤ v → mask_in bits v ≡ 0
past_masks [] v h = refl
past_masks (m ∷ bits) zero h = absurd (omega (arith, h))
past_masks (m ∷ bits) (suc v) h = past_masks bits v (omega (arith, h))

of_some : {X : Type 0} (P : X → Type 0) (o : Option X) (x : X) → o ≡ Some x → IfSome o P → P x
of_some P o x e h = subst (λ o. IfSome o P) e h

pub at_start : (f : Function) (n : ℕ) (blocks : List Block) (b0 b1 : List ℕ) (w0 w1 : List Bool) (a0 a1 : List ℕ) → n ≡ length f.values → blocks ≡ f.blocks →
    b0 ≡ replicate n 0 → w0 ≡ replicate n true → ((v : ℕ) → v < n → is_in v a0 ≡ true) → ((v : ℕ) → is_in v a0 ≡ true → v < n) →
    IsStep (flat_map (block_root_asks f) blocks) b0 b1 w0 w1 a0 a1 → IsSearched f [] b1 w1 a1
at_start f n blocks b0 b1 w0 w1 a0 a1 count same zeros waiting all within step = record {
  same_length = step.same_length ∙ bits_count;
  same_names = step.same_names ∙ names_count;
  fits = step.fits (λ v. subst (λ m. m < 2 ^ 128) (sym (none v)) (lit< tt));
  least = λ other asked. step.least other
      (subst (λ (bs : List Block). Have (flat_map (block_root_asks f) bs) other) (sym same) (roots_have f other f.blocks asked.fit asked.have))
      (λ v. subst (λ m. IsPartOf m (other v)) (sym (none v)) (none_within (other v)));
  met = step.met (λ v t. all v (marked_below v t));
  within = λ v t. subst (λ k. v < k) (sym step.same_names) (step.within (λ u s. subst (λ k. u < k) (sym (ap length waiting ∙ length-replicate n true)) (within u s)) v t);
  settled = λ b block at. block_settled b block
      (of_some (λ block. Have (block_root_asks f block) (mask_in b1)) (slice_get f.blocks b) block at
      (have_parts (block_root_asks f) f.blocks (mask_in b1) (subst (λ (bs : List Block). Have (flat_map (block_root_asks f) bs) (mask_in b1)) same step.have) b));
}
  where
    bits_count : length b0 ≡ length f.values
    bits_count = ap length zeros ∙ length-replicate n 0 ∙ count

    names_count : length w0 ≡ length f.values
    names_count = ap length waiting ∙ length-replicate n true ∙ count

    none : (v : ℕ) → mask_in b0 v ≡ 0
    none v = ap (λ b. mask_in b v) zeros ∙ no_mask n v

    marked_below : (v : ℕ) → is_marked w0 v ≡ true → v < n
    marked_below v t = subst (λ k. v < k) (names_count ∙ sym count) (marked_within w0 v t)

    waits : (v : ℕ) → v < n → is_marked w1 v ≡ true
    waits v l = step.still v (subst (λ w. is_marked w v ≡ true) (sym waiting) (all_wait n v l))

    past : (v : ℕ) → n ≤ v → mask_in b1 v ≡ 0
    past v l = past_masks b1 v (omega (arith, l, step.same_length, bits_count, count))

    phi_settled : (d : Definition) (p : Phi) → (p.result.0 < n) ⊎ (n ≤ p.result.0) → IsSettled d [] w1 (Some p.result) (phi_asks (mask_in b1) p) (mask_in b1)
    phi_settled d p (inl l) = inr (inl (waits p.result.0 l))
    phi_settled d p (inr l) =
        inr (inr (subst (λ m. Have (flat_map (λ e. ask_of m e.0) p.entries) (mask_in b1)) (sym (past p.result.0 l)) (entries_ask_nothing p.entries (mask_in b1))))

    named : (d : Definition) (i : Inst) (r : Option ValueId) → needs_all i.op ≡ false →
        IsSettled d [] w1 r (operand_asks i.op (elim r [ None ↦ 0 | Some v ↦ mask_in b1 v.0 ]) 0 (operands_of f i.op)) (mask_in b1)
    named d i None none = inr (inr (operands_ask_nothing i.op 0 (operands_of f i.op) (mask_in b1) none))
    named d i (Some v) none = elim (cases_lt v.0 n) [
      | inl l ↦ inr (inl (waits v.0 l))
      | inr l ↦ inr (inr (subst (λ m. Have (operand_asks i.op m 0 (operands_of f i.op)) (mask_in b1)) (sym (past v.0 l))
          (operands_ask_nothing i.op 0 (operands_of f i.op) (mask_in b1) none)))
    ]

    line_settled : (d : Definition) (i : Inst) (b : Bool) → needs_all i.op ≡ b → Have (if b then operand_asks i.op 0 0 (operands_of f i.op) else []) (mask_in b1) →
        IsSettled d [] w1 i.result (inst_asks f (mask_in b1) i) (mask_in b1)
    line_settled d i true is h = inr (inr (subst (λ asks. Have asks (mask_in b1)) (operands_ask_alike i.op 0 _ 0 (operands_of f i.op) is) h))
    line_settled d i false is h = named d i i.result is

    block_settled : (b : ℕ) (block : Block) → Have (block_root_asks f block) (mask_in b1) → IsBlockSettled f b block [] b1 w1
    block_settled b block h = record {
      phis = λ j p at. phi_settled (Definition.Phi b j) p (cases_lt p.result.0 n);
      lines = λ i inst at. line_settled (Definition.Line b i) inst (needs_all inst.op) refl
          (of_some (λ inst. Have (root_asks f inst) (mask_in b1)) (slice_get block.insts i) inst at
          (have_parts (root_asks f) block.insts (mask_in b1) (have_left (flat_map (root_asks f) block.insts) (whole_asks (seen_in block.term)) (mask_in b1) h) i));
      end = have_right (flat_map (root_asks f) block.insts) (whole_asks (seen_in block.term)) (mask_in b1) h;
    }

-- ---- a name that waits is taken

module _ (all : List (List Definition)) (waiting : List Bool) (name : ℕ) where
  settled_still : (d : Definition) (r : Option ValueId) (asks : List Ask) (m : ℕ → ℕ) →
      ((v : ValueId) → r ≡ Some v → v.0 < length waiting → IsAmong d (get_or all v.0 [])) → IsSettled d [] waiting r asks m →
      IsSettled d (get_or all name []) (set waiting name false) r asks m
  settled_still d r asks m is (inl none) = absurd none
  settled_still d r asks m is (inr (inr h)) = inr (inr h)
  settled_still d None asks m is (inr (inl none)) = absurd none
  settled_still d (Some v) asks m is (inr (inl t)) = elim (cases_eq v.0 name) [
    | inl e ↦ inl (subst (λ n. IsAmong d (get_or all n [])) e (is v refl (marked_within waiting v.0 t)))
    | inr other ↦ inr (inl (get_or-set_other waiting name v.0 false false other ∙ t))
  ]

pub taken_name : (f : Function) (all : List (List Definition)) (bits : List ℕ) (waiting : List Bool) (ahead rest : List ℕ) (name : ℕ) (here : List Definition) →
    ahead ≡ rest ++ (name ∷ []) → AreDefinitions f all → here ≡ get_or all name [] → IsSearched f [] bits waiting ahead →
    IsSearched f here bits (set waiting name false) rest
taken_name f all bits waiting ahead rest name here split are is was = record {
  same_length = was.same_length;
  same_names = length-set waiting name false ∙ was.same_names;
  fits = was.fits;
  least = was.least;
  met = λ v t. met v t (cases_eq v name);
  within = λ v t. subst (λ n. v < n) (sym (length-set waiting name false)) (was.within v (back v t));
  settled = λ b block at. subst (λ l. IsBlockSettled f b block l bits (set waiting name false)) (sym is) (settled b block at);
}
  where
    inside : name < length waiting
    inside = was.within name (subst (λ l. is_in name l ≡ true) (sym split) (in_right name rest (name ∷ []) (in_first name name [] refl)))

    back : (v : ℕ) → is_in v rest ≡ true → is_in v ahead ≡ true
    back v t = subst (λ l. is_in v l ≡ true) (sym split) (in_left v rest (name ∷ []) t)

    met : (v : ℕ) → is_marked (set waiting name false) v ≡ true → (v ≡ name) ⊎ (v ≢ name) → is_in v rest ≡ true
    met v t (inl e) =
        let no : is_marked (set waiting name false) name ≡ false = get_or-set_same waiting name false false inside in
        let yes : is_marked (set waiting name false) name ≡ true = subst (λ n. is_marked (set waiting name false) n ≡ true) e t in
        absurd (differ (sym no ∙ yes))
      where
        differ : false ≡ true → ⊥
        differ e = cc
    met v t (inr other) = elim (in_cases v rest (name ∷ []) (subst (λ l. is_in v l ≡ true) split (was.met v (sym (get_or-set_other waiting name v false false other) ∙ t)))) [
      | inl u ↦ u
      | inr u ↦ absurd (other (only v name u))
    ]

    count : (v : ℕ) → v < length waiting → v < length all
    count v l = subst (λ n. v < n) (was.same_names ∙ sym are.whole) l

    settled : (b : ℕ) (block : Block) → slice_get f.blocks b ≡ Some block → IsBlockSettled f b block (get_or all name []) bits (set waiting name false)
    settled b block at =
        let old = was.settled b block at in
        let put = are.blocks b block at in
        record {
          phis = λ j p there. settled_still all waiting name (Definition.Phi b j) (Some p.result) (phi_asks (mask_in bits) p) (mask_in bits)
              (λ v e l. subst (λ r. IsAmong (Definition.Phi b j) (get_or all r.0 [])) (same_result p.result v e) (put.phis j p there (count p.result.0 (subst (λ r. r.0 < length waiting) (sym (same_result p.result v e)) l))))
              (old.phis j p there);
          lines = λ i inst there. settled_still all waiting name (Definition.Line b i) inst.result (inst_asks f (mask_in bits) inst) (mask_in bits)
              (λ v e l. put.lines i inst v there e (count v.0 l)) (old.lines i inst there);
          end = old.end;
        }
      where
        same_result : (r v : ValueId) → Some r ≡ Some v → r ≡ v
        same_result r v e = cc

pub less_ahead : (bits ahead rest : List ℕ) (name : ℕ) → ahead ≡ rest ++ (name ∷ []) → left_of bits rest < left_of bits ahead
less_ahead bits ahead rest name split = omega (arith, ap length split, length-append rest (name ∷ []))

pub within_names : (f : Function) (left : List Definition) (bits : List ℕ) (waiting : List Bool) (ahead rest : List ℕ) (name : ℕ) → ahead ≡ rest ++ (name ∷ []) →
    IsSearched f left bits waiting ahead → name < length f.values
within_names f left bits waiting ahead rest name split was =
    subst (λ n. name < n) was.same_names
    (was.within name (subst (λ l. is_in name l ≡ true) (sym split) (in_right name rest (name ∷ []) (in_first name name [] refl))))

pub here_is : (all : List (List Definition)) (n : ℕ) (here names : List Definition) → n < length all → here ≡ get_or all n here → names ≡ here → names ≡ get_or all n []
here_is all n here names l is same = same ∙ is ∙ get_or_default all n here [] l

-- ---- a definition is asked

abbrev mask_of : Option ValueId → (ℕ → ℕ) → ℕ
mask_of r m = elim r [ None ↦ 0 | Some v ↦ m v.0 ]

module _ (m m' : ℕ → ℕ) (waiting waiting' : List Bool) (grown : (v : ℕ) → IsPartOf (m v) (m' v))
    (put : (v : ℕ) → (m' v ≡ m v) ⊎ (is_marked waiting' v ≡ true)) (still : (v : ℕ) → is_marked waiting v ≡ true → is_marked waiting' v ≡ true) where
  later : (r : Option ValueId) (h : ℕ → List Ask) → Have (h (mask_of r m)) m' → Waits waiting' r ⊎ Have (h (mask_of r m')) m'
  later None h have = inr have
  later (Some v) h have = elim (put v.0) [
    | inl e ↦ inr (subst (λ d. Have (h d) m') (sym e) have)
    | inr t ↦ inl t
  ]

  waits_still : (r : Option ValueId) → Waits waiting r → Waits waiting' r
  waits_still None t = t
  waits_still (Some v) t = still v.0 t

  settled_later : (d e : Definition) (left : List Definition) (r : Option ValueId) (h : ℕ → List Ask) → (d ≡ e → Have (h (mask_of r m)) m') →
      IsSettled e (d ∷ left) waiting r (h (mask_of r m)) m → IsSettled e left waiting' r (h (mask_of r m')) m'
  settled_later d e left r h now (inl (inl same)) = inr (later r h (now same))
  settled_later d e left r h now (inl (inr t)) = inl t
  settled_later d e left r h now (inr (inl t)) = inr (inl (waits_still r t))
  settled_later d e left r h now (inr (inr have)) = inr (later r h (have_grown (h (mask_of r m)) m m' grown have))

at_phi : (f : Function) (m : ℕ → ℕ) (b j : ℕ) (block : Block) (p : Phi) → slice_get f.blocks b ≡ Some block → slice_get block.phis j ≡ Some p →
    definition_asks f m (Definition.Phi b j) ≡ phi_asks m p
at_phi f m b j block p at there =
    ap (λ o. elim o [ None ↦ [] | Some block ↦ phi_asks_at m block.phis j ]) at ∙ ap (λ o. elim o [ None ↦ [] | Some p ↦ phi_asks m p ]) there

at_line : (f : Function) (m : ℕ → ℕ) (b i : ℕ) (block : Block) (inst : Inst) → slice_get f.blocks b ≡ Some block → slice_get block.insts i ≡ Some inst →
    definition_asks f m (Definition.Line b i) ≡ inst_asks f m inst
at_line f m b i block inst at there =
    ap (λ o. elim o [ None ↦ [] | Some block ↦ line_asks_at f m block.insts i ]) at ∙ ap (λ o. elim o [ None ↦ [] | Some inst ↦ inst_asks f m inst ]) there

pub asked_definition : (f : Function) (d : Definition) (left : List Definition) (b0 b1 : List ℕ) (w0 w1 : List Bool) (a0 a1 : List ℕ) →
    IsSearched f (d ∷ left) b0 w0 a0 → IsStep (definition_asks f (mask_in b0) d) b0 b1 w0 w1 a0 a1 → IsSearched f left b1 w1 a1
asked_definition f d left b0 b1 w0 w1 a0 a1 was step = record {
  same_length = step.same_length ∙ was.same_length;
  same_names = step.same_names ∙ was.same_names;
  fits = step.fits was.fits;
  least = λ other asked. step.least other (definition_have f (mask_in b0) other asked.fit was.fits (was.least other asked) d asked.have) (was.least other asked);
  met = step.met was.met;
  within = λ v t. subst (λ n. v < n) (sym step.same_names) (step.within was.within v t);
  settled = λ b block at.
      let old = was.settled b block at in
      record {
        phis = λ j p there. settled_later (mask_in b0) (mask_in b1) w0 w1 step.grown step.put step.still d (Definition.Phi b j) left (Some p.result)
            (λ bits. flat_map (λ e. ask_of bits e.0) p.entries)
            (λ same. subst (λ asks. Have asks (mask_in b1)) (at_phi f (mask_in b0) b j block p at there) (subst (λ e. Have (definition_asks f (mask_in b0) e) (mask_in b1)) same step.have))
            (old.phis j p there);
        lines = λ i inst there. settled_later (mask_in b0) (mask_in b1) w0 w1 step.grown step.put step.still d (Definition.Line b i) left inst.result
            (λ bits. operand_asks inst.op bits 0 (operands_of f inst.op))
            (λ same. subst (λ asks. Have asks (mask_in b1)) (at_line f (mask_in b0) b i block inst at there) (subst (λ e. Have (definition_asks f (mask_in b0) e) (mask_in b1)) same step.have))
            (old.lines i inst there);
        end = have_grown (whole_asks (seen_in block.term)) (mask_in b0) (mask_in b1) step.grown old.end;
      };
}

-- the next one of those left
pub asked_next : (f : Function) (ds : List Definition) (i : ℕ) (d : Definition) (b0 b1 : List ℕ) (w0 w1 : List Bool) (a0 a1 : List ℕ) → i < length ds →
    IsSearched f (drop i ds) b0 w0 a0 → IsStep (definition_asks f (mask_in b0) (get_or ds i d)) b0 b1 w0 w1 a0 a1 → IsSearched f (drop (i + 1) ds) b1 w1 a1
asked_next f ds i d b0 b1 w0 w1 a0 a1 less was step =
    subst (λ k. IsSearched f (drop k ds) b1 w1 a1) (sym (add-one i))
    (asked_definition f (get_or ds i d) (drop (suc i) ds) b0 b1 w0 w1 a0 a1 (subst (λ l. IsSearched f l b0 w0 a0) (drop-cons ds i d less) was) step)

nothing_left : (ds : List Definition) (i : ℕ) → length ds ≤ i → drop i ds ≡ []
nothing_left [] zero h = refl
nothing_left [] (suc i) h = refl
nothing_left (d ∷ ds) zero h = absurd (omega (arith, h))
nothing_left (d ∷ ds) (suc i) h = nothing_left ds i (omega (arith, h))

pub all_asked : (f : Function) (ds : List Definition) (i : ℕ) (bits : List ℕ) (waiting : List Bool) (ahead : List ℕ) → length ds ≤ i →
    IsSearched f (drop i ds) bits waiting ahead → IsSearched f [] bits waiting ahead
all_asked f ds i bits waiting ahead past was = subst (λ l. IsSearched f l bits waiting ahead) (nothing_left ds i past) was

-- ---- at the end

no_wait : (waiting : List Bool) (r : Option ValueId) {X : Type 0} → ((v : ℕ) → is_marked waiting v ≡ true → ⊥) → Waits waiting r → X
no_wait waiting None none t = absurd t
no_wait waiting (Some v) none t = absurd (none v.0 t)

have_settled : (d : Definition) (waiting : List Bool) (r : Option ValueId) (asks : List Ask) (m : ℕ → ℕ) → ((v : ℕ) → is_marked waiting v ≡ true → ⊥) →
    IsSettled d [] waiting r asks m → Have asks m
have_settled d waiting r asks m none (inl t) = absurd t
have_settled d waiting r asks m none (inr (inl t)) = no_wait waiting r none t
have_settled d waiting r asks m none (inr (inr h)) = h

each_there : {X : Type 0} (P : X → Type 0) (xs : List X) (k : ℕ) → ((x : X) → slice_get xs k ≡ Some x → P x) → IfSome (slice_get xs k) P
each_there {X} P xs k h = of (slice_get xs k) refl
  where
    of : (o : Option X) → slice_get xs k ≡ o → IfSome o P
    of None e = tt
    of (Some x) e = h x e

pub found : (f : Function) (bits : List ℕ) (waiting : List Bool) (ahead : List ℕ) → ahead ≡ [] → IsSearched f [] bits waiting ahead → AreMasks f (mask_in bits)
found f bits waiting ahead none is = record {
  enough = record {
    fit = is.fits;
    have = have_flat (block_asks f (mask_in bits)) f.blocks (mask_in bits) (λ b _. each_there (λ block. Have (block_asks f (mask_in bits) block) (mask_in bits)) f.blocks b (whole b));
  };
  least = is.least;
}
  where
    nobody : (v : ℕ) → is_marked waiting v ≡ true → ⊥
    nobody v t = let u : is_in v [] ≡ true = subst (λ l. is_in v l ≡ true) none (is.met v t) in cc

    whole : (b : ℕ) (block : Block) → slice_get f.blocks b ≡ Some block → Have (block_asks f (mask_in bits) block) (mask_in bits)
    whole b block at =
        let settled = is.settled b block at in
        have_append (flat_map (phi_asks (mask_in bits)) block.phis) _ (mask_in bits)
        (have_flat (phi_asks (mask_in bits)) block.phis (mask_in bits) (λ j _. each_there (λ p. Have (phi_asks (mask_in bits) p) (mask_in bits)) block.phis j
        (λ p there. have_settled (Definition.Phi b j) waiting (Some p.result) (phi_asks (mask_in bits) p) (mask_in bits) nobody (settled.phis j p there))))
        (have_append (flat_map (inst_asks f (mask_in bits)) block.insts) (whole_asks (seen_in block.term)) (mask_in bits)
        (have_flat (inst_asks f (mask_in bits)) block.insts (mask_in bits) (λ i _. each_there (λ inst. Have (inst_asks f (mask_in bits) inst) (mask_in bits)) block.insts i
        (λ inst there. have_settled (Definition.Line b i) waiting inst.result (inst_asks f (mask_in bits) inst) (mask_in bits) nobody (settled.lines i inst there))))
        settled.end)
