-- The blocks that are left of a narrowed function are typed and may be printed, and their phis fit.
use Rattle.std.proofs.Common.{◌≡◌, ℕ, zero, suc, ◌+◌, ◌<◌, Bool, true, false, cond, nat_eq, All, Option, Some, None, List, [], ◌∷◌, ◌++◌, map, flat_map, slice_get, length, refl, sym, ◌∙◌, ap, subst, arith, inl, inr}
use Rattle.std.specs.Prelude.{filter, filter_map, fold, IfSome, slice_index_or, bytes_eq, take, IsTrue, IsSomeAnd, count_by}
use Rattle.std.specs.List.{AllByRecursion, IsDistinct, cons_option, range_with_len}
use Rattle.std.proofs.lemmas.List.Elements.{recursion_from_All, All-from_recursion}
use Rattle.std.specs.Option.{option_map_or}
use Rattle.std.proofs.lemmas.Option.{same_Some}
use Rattle.vfa_ir.specs.declared.operations.BlockId.{BlockId}
use Rattle.vfa_ir.specs.declared.operations.Op.{Op}
use Rattle.vfa_ir.specs.declared.operations.Operand.{Operand}
use Rattle.vfa_ir.specs.declared.operations.Ty.{Ty}
use Rattle.vfa_ir.specs.declared.operations.ValueId.{ValueId}
use Rattle.vfa_ir.specs.declared.functions.Block.{Block}
use Rattle.vfa_ir.specs.declared.functions.CallArg.{CallArg}
use Rattle.vfa_ir.specs.declared.functions.CallOp.{CallOp}
use Rattle.vfa_ir.specs.declared.functions.Function.{Function}
use Rattle.vfa_ir.specs.declared.functions.Inst.{Inst}
use Rattle.vfa_ir.specs.declared.functions.Param.{Param}
use Rattle.vfa_ir.specs.declared.functions.Phi.{Phi}
use Rattle.vfa_ir.specs.declared.functions.Value.{Value}
use Rattle.vfa_ir.specs.PhisFit.{targets, edge_count, PhiFits, PhisFit}
use Rattle.vfa_ir.specs.Printable.{IsKeptName, IsOperand, IsBlock, IsIntegerType, PrintableInst, PrintablePhi, PrintableBlock, PrintableCall, PrintableArgument, op_type, block_ids, inst_ids, inst_types, block_types, kept_names, call_place, block_call_places, call_places}
use Rattle.vfa_ir.specs.Typed.{TypedOp, TypedInst, TypedPhi, TypedBlock, IsOfType}
use Rattle.vfa_ir.specs.Walks.{is_in}
use Rattle.vfa_mean.specs.Moments.{IsLine}
use Rattle.vfa_mean.specs.Outcomes.{type_of, first_block}
use Rattle.vfa_mean.specs.Numbering.{each_number, kept_blocks, kept_numbers, types_at, KeptIsTyped, KeptIsPrintable, KeptPhiFits, KeptPhisFit}
use Rattle.vfa_mean.proofs.KeptParts.{number_kept}
use Rattle.vfa_mean.proofs.FreshOperands.Definitions.{in_cases, in_first, in_rest, first_or_rest}
use Rattle.vfa_bits.specs.Standing.{put_for}
use Rattle.vfa_bits.specs.Changed.{name_type}
use Rattle.vfa_bits.specs.Narrowed.{Choices, new_line, new_entry, new_phi, new_block, new_blocks, is_reached_call, new_argument, new_calls, rewritten, stays, block_left, left}
use Rattle.vfa_bits.proofs.Chains.{Known, all_at, line_typed}
use Rattle.vfa_bits.proofs.Kept.{all_kept, all_calls, same_calls, same_length, same_targets, block_or}
use Rattle.vfa_bits.proofs.LeftTyped.{put_typed_term, put_printable_term, put_types, same_pairs, line_left_typed, line_left_printable, line_left_type, line_left_result}
use Rattle.vfa_bits.proofs.Places.{get_map, call_at}
use Rattle.vfa_bits.proofs.Related.{IsTypedOperand}
use Rattle.vfa_bits.proofs.ResultTypes.{line_type, phi_type}

-- ---- elements by their places

from_get : {A : Type 0} (P : A → Type 0) (xs : List A) → ((i : ℕ) (x : A) → slice_get xs i ≡ Some x → P x) → AllByRecursion P xs
from_get P [] h = tt
from_get P (x ∷ xs) h = (h 0 x refl, from_get P xs (λ i y e. h (suc i) y e))

pub all_get : {A : Type 0} (P : A → Type 0) (xs : List A) → ((i : ℕ) (x : A) → slice_get xs i ≡ Some x → P x) → All P xs
all_get P xs h = All-from_recursion P xs (from_get P xs h)

pub record IsMapped {A B : Type 0} (h : A → B) (xs : List A) (i : ℕ) (y : B) : Type 0 where
  pub from : A
  pub there : slice_get xs i ≡ Some from
  pub is : h from ≡ y

pub mapped_at : {A B : Type 0} (h : A → B) (xs : List A) (i : ℕ) (y : B) → slice_get (map h xs) i ≡ Some y → IsMapped h xs i y
mapped_at h [] i y e = absurd (cc)
mapped_at h (x ∷ xs) zero y e = record { from = x; there = refl; is = same_Some (h x) y e }
mapped_at h (x ∷ xs) (suc i) y e = let m = mapped_at h xs i y e in record { from = m.from; there = m.there; is = m.is }

pub record IsLeft {A B : Type 0} (keep : B → Bool) (h : A → B) (xs : List A) (y : B) : Type 0 where
  pub place : ℕ
  pub from : A
  pub there : slice_get xs place ≡ Some from
  pub is : h from ≡ y
  pub kept : keep (h from) ≡ true

pub left_at : {A B : Type 0} (keep : B → Bool) (h : A → B) (xs : List A) (j : ℕ) (y : B) → slice_get (filter keep (map h xs)) j ≡ Some y → IsLeft keep h xs y
left_at keep h [] j y e = absurd (cc)
left_at {A} {B} keep h (x ∷ xs) j y e = by (keep (h x)) refl j e (λ k f. left_at keep h xs k y f)
  where
    later : IsLeft keep h xs y → IsLeft keep h (x ∷ xs) y
    later m = record { place = suc m.place; from = m.from; there = m.there; is = m.is; kept = m.kept }

    by : (t : Bool) → keep (h x) ≡ t → (j : ℕ) → slice_get (cond t (h x ∷ filter keep (map h xs)) (filter keep (map h xs))) j ≡ Some y →
        ((k : ℕ) → slice_get (filter keep (map h xs)) k ≡ Some y → IsLeft keep h xs y) → IsLeft keep h (x ∷ xs) y
    by true k zero e again = record { place = zero; from = x; there = refl; is = same_Some (h x) y e; kept = k }
    by true k (suc j) e again = later (again j e)
    by false k j e again = later (again j e)

map_both : {A B : Type 0} (h : A → B) (xs ys : List A) → map h (xs ++ ys) ≡ map h xs ++ map h ys
map_both h [] ys = refl
map_both h (x ∷ xs) ys = ap (λ rest. h x ∷ rest) (map_both h xs ys)

get_below : {A : Type 0} (xs : List A) (i : ℕ) (x : A) → slice_get xs i ≡ Some x → i < length xs
get_below [] i x e = absurd (cc)
get_below (y ∷ xs) zero x e = omega arith
get_below (y ∷ xs) (suc i) x e = let l = get_below xs i x e in omega (arith, l)

count_mapped : {A B : Type 0} (p : B → Bool) (h : A → B) (xs : List A) (a : ℕ) →
    fold (λ n y. n + cond (p y) 1 0) a (map h xs) ≡ fold (λ n x. n + cond (p (h x)) 1 0) a xs
count_mapped p h [] a = refl
count_mapped p h (x ∷ xs) a = count_mapped p h xs (a + cond (p (h x)) 1 0)

index_mapped : {A B : Type 0} (h : A → B) (xs : List A) (i : ℕ) (d : B) (d' : A) → i < length xs → slice_index_or (map h xs) i d ≡ h (slice_index_or xs i d')
index_mapped h [] i d d' l = absurd (omega arith)
index_mapped h (x ∷ xs) zero d d' l = refl
index_mapped h (x ∷ xs) (suc i) d d' l = index_mapped h xs i d d' (omega arith)

length_mapped : {A B : Type 0} (h : A → B) (xs : List A) → length (map h xs) ≡ length xs
length_mapped h [] = refl
length_mapped h (x ∷ xs) = ap suc (length_mapped h xs)

-- an element of lists joined, by its place
pub record IsWithinList {A : Type 0} (h : A → List ℕ) (xs : List A) (n : ℕ) : Type 0 where
  pub place : ℕ
  pub from : A
  pub there : slice_get xs place ≡ Some from
  pub inside : is_in n (h from) ≡ true

pub out_flat : {A : Type 0} (h : A → List ℕ) (xs : List A) (n : ℕ) → is_in n (flat_map h xs) ≡ true → IsWithinList h xs n
out_flat h [] n t = absurd (cc)
out_flat {A} h (x ∷ xs) n t = elim (in_cases n (h x) (flat_map h xs) t) [
  | inl u ↦ record { place = zero; from = x; there = refl; inside = u }
  | inr u ↦ let r = out_flat h xs n u in record { place = suc r.place; from = r.from; there = r.there; inside = r.inside }
]

out_places : (insts : List Inst) (n : ℕ) → is_in n (filter_map (λ (i : Inst). call_place i.op) insts) ≡ true →
    (i : ℕ) × (inst : Inst) × (slice_get insts i ≡ Some inst) × (call_place inst.op ≡ Some n)
out_places [] n t = absurd (cc)
out_places (i ∷ insts) n t = by (call_place i.op) refl t (out_places insts n)
  where
    Found : List Inst → Type 0
    Found all = (k : ℕ) × (inst : Inst) × (slice_get all k ≡ Some inst) × (call_place inst.op ≡ Some n)

    by : (o : Option ℕ) → call_place i.op ≡ o → is_in n (cons_option o (filter_map (λ (j : Inst). call_place j.op) insts)) ≡ true →
        (is_in n (filter_map (λ (j : Inst). call_place j.op) insts) ≡ true → (k : ℕ) × (inst : Inst) × (slice_get insts k ≡ Some inst) × (call_place inst.op ≡ Some n)) →
        (k : ℕ) × (inst : Inst) × (slice_get (i ∷ insts) k ≡ Some inst) × (call_place inst.op ≡ Some n)
    by None e t again = let r = again t in (suc r.0, r.1, r.2, r.3)
    by (Some m) e t again = elim (first_or_rest n m (filter_map (λ (j : Inst). call_place j.op) insts) t) [
      | inl same ↦ (zero, i, refl, e ∙ ap Some (sym same))
      | inr u ↦ let r = again u in (suc r.0, r.1, r.2, r.3)
    ]

pub call_is : (op : Op) (n : ℕ) → call_place op ≡ Some n → (width : Option ℕ) × (op ≡ Op.Call width n)
call_is (Op.Call width place) n e = (width, ap (Op.Call width) (same_Some place n e))
call_is (Op.Bin bin flags w a b) n e = absurd (cc)
call_is (Op.Icmp pred samesign w a b) n e = absurd (cc)
call_is (Op.Select w c a b) n e = absurd (cc)
call_is (Op.Cast cast flags v w a) n e = absurd (cc)
call_is (Op.Freeze w a) n e = absurd (cc)
call_is (Op.Two fun w a b) n e = absurd (cc)
call_is (Op.One fun w a strict) n e = absurd (cc)
call_is (Op.Over over w a b) n e = absurd (cc)
call_is (Op.Part w pair index) n e = absurd (cc)
call_is (Op.Assume c) n e = absurd (cc)

module _ (f : Function) (masks : ℕ → ℕ) (by : Choices) (used : ℕ → Bool) (known : Known f masks by.changed) where
  pub record IsLeftBlock (b : ℕ) (block' : Block) : Type 0 where
    pub block : Block
    pub there : slice_get f.blocks b ≡ Some block
    pub is : block_left used (new_block f masks by b block) ≡ block'

  pub left_block : (b : ℕ) (block' : Block) → slice_get (map (block_left used) (new_blocks f masks by 0 f.blocks)) b ≡ Some block' → IsLeftBlock b block'
  left_block b block' e = here (slice_get f.blocks b) refl (sym (block_or f masks by used b) ∙ e)
    where
      here : (o : Option Block) → slice_get f.blocks b ≡ o → elim o [ None ↦ None | Some block ↦ Some (block_left used (new_block f masks by b block)) ] ≡ Some block' → IsLeftBlock b block'
      here None k e = absurd (cc)
      here (Some block) k e = record { block = block; there = k; is = same_Some (block_left used (new_block f masks by b block)) block' e }

  -- what holds of each rewritten block holds of each that is left
  each_block : (P : Block → Type 0) → ((b : ℕ) (block : Block) → slice_get f.blocks b ≡ Some block → P (block_left used (new_block f masks by b block))) →
      All P (kept_blocks (left used (rewritten f masks by)) each_number)
  each_block P h = subst (All P) (sym (all_kept (left used (rewritten f masks by))))
      (all_get P (map (block_left used) (new_blocks f masks by 0 f.blocks)) (λ b block' e. let l = left_block b block' e in subst P l.is (h b l.block l.there)))

  module _ (b : ℕ) (block : Block) (there : slice_get f.blocks b ≡ Some block) where
    typed_block : TypedBlock f block
    typed_block = all_at (TypedBlock f) f.blocks b block known.typed there

    printable_block : PrintableBlock f block
    printable_block = all_at (PrintableBlock f) f.blocks b block known.printable.blocks there

    pub entry_types : (j : ℕ) (phi : Phi) → slice_get block.phis j ≡ Some phi → (k : ℕ) (e : Operand × BlockId) → slice_get phi.entries k ≡ Some e →
        IsTypedOperand (left used (rewritten f masks by)) phi.width (put_for f masks (by.reached e.1.0) e.0)
    entry_types j phi stands k e at = put_types f masks by used known (by.reached e.1.0) phi.width e.0 (record {
      ty = all_at (λ (d : Operand × BlockId). IsOfType f (Ty.Int phi.width) d.0) phi.entries k e (all_at (TypedPhi f) block.phis j phi typed_block.phis stands) at;
      range = (all_at (λ (d : Operand × BlockId). IsOperand f phi.width d.0 × IsBlock f d.1) phi.entries k e (all_at (PrintablePhi f) block.phis j phi printable_block.phis stands).entries at).0;
    })

    left_typed : TypedBlock (left used (rewritten f masks by)) (block_left used (new_block f masks by b block))
    left_typed = record {
      phis = all_get (TypedPhi (left used (rewritten f masks by))) (filter (λ (p : Phi). used p.result.0) (map (new_phi f masks by) block.phis)) (λ j phi' e.
          let l = left_at (λ (p : Phi). used p.result.0) (new_phi f masks by) block.phis j phi' e in
          subst (TypedPhi (left used (rewritten f masks by))) l.is
          (all_get (λ (d : Operand × BlockId). IsOfType (left used (rewritten f masks by)) (Ty.Int l.from.width) d.0) (map (new_entry f masks by) l.from.entries) (λ k d' at.
          let m = mapped_at (new_entry f masks by) l.from.entries k d' at in
          subst (λ (d : Operand × BlockId). IsOfType (left used (rewritten f masks by)) (Ty.Int l.from.width) d.0) m.is (entry_types l.place l.from l.there k m.from m.there).ty)));
      instructions = all_get (TypedInst (left used (rewritten f masks by))) (filter (stays used) (map (new_line f masks by b) block.insts)) (λ j inst' e.
          let l = left_at (stays used) (new_line f masks by b) block.insts j inst' e in
          subst (TypedInst (left used (rewritten f masks by))) l.is (line_left_typed f masks by used known b block l.place l.from (record { there = there; stands = l.there })));
      terminator = put_typed_term f (left used (rewritten f masks by)) (put_for f masks (by.reached b)) (put_types f masks by used known (by.reached b)) (same_pairs f masks by used known) refl
          block.term refl typed_block.terminator printable_block.term;
    }

    blocks_length : length (map (block_left used) (new_blocks f masks by 0 f.blocks)) ≡ length f.blocks
    blocks_length = same_length f masks by used

    pub left_printable : PrintableBlock (left used (rewritten f masks by)) (block_left used (new_block f masks by b block))
    left_printable = record {
      phis = all_get (PrintablePhi (left used (rewritten f masks by))) (filter (λ (p : Phi). used p.result.0) (map (new_phi f masks by) block.phis)) (λ j phi' e.
          let l = left_at (λ (p : Phi). used p.result.0) (new_phi f masks by) block.phis j phi' e in
          let old = all_at (PrintablePhi f) block.phis l.place l.from printable_block.phis l.there in
          subst (PrintablePhi (left used (rewritten f masks by))) l.is (record {
            width = old.width;
            some = λ none. old.some (no_entries l.from.entries none);
            entries = all_get (λ (d : Operand × BlockId). IsOperand (left used (rewritten f masks by)) l.from.width d.0 × IsBlock (left used (rewritten f masks by)) d.1) (map (new_entry f masks by) l.from.entries) (λ k d' at.
                let m = mapped_at (new_entry f masks by) l.from.entries k d' at in
                let block_of = (all_at (λ (d : Operand × BlockId). IsOperand f l.from.width d.0 × IsBlock f d.1) l.from.entries k m.from old.entries m.there).1 in
                subst (λ (d : Operand × BlockId). IsOperand (left used (rewritten f masks by)) l.from.width d.0 × IsBlock (left used (rewritten f masks by)) d.1) m.is
                ((entry_types l.place l.from l.there k m.from m.there).range, subst (λ n. m.from.1.0 < n) (sym blocks_length) block_of));
          }));
      insts = all_get (PrintableInst (left used (rewritten f masks by))) (filter (stays used) (map (new_line f masks by b) block.insts)) (λ j inst' e.
          let l = left_at (stays used) (new_line f masks by b) block.insts j inst' e in
          let line : IsLine f b block l.place l.from = record { there = there; stands = l.there } in
          let old = all_at (PrintableInst f) block.insts l.place l.from printable_block.insts l.there in
          subst (PrintableInst (left used (rewritten f masks by))) l.is (record {
            result = line_left_result f masks by used known b block l.place l.from line old.result;
            op = line_left_printable f masks by used known b block l.place l.from line;
          }));
      term = put_printable_term f (left used (rewritten f masks by)) (put_for f masks (by.reached b)) (put_types f masks by used known (by.reached b)) (same_pairs f masks by used known) refl
          blocks_length block.term typed_block.terminator printable_block.term;
    }
      where
        no_entries : (entries : List (Operand × BlockId)) → map (new_entry f masks by) entries ≡ [] → entries ≡ []
        no_entries [] e = refl
        no_entries (d ∷ rest) e = absurd (cc)

    -- ---- types of results

    phi_types : (phis : List Phi) → ((j : ℕ) (p : Phi) → slice_get phis j ≡ Some p → name_type f p.result.0 ≡ Ty.Int p.width) →
        map (λ v. type_of (left used (rewritten f masks by)) (record { 0 = v })) (map (λ (p : Phi). p.result.0) phis) ≡ map (λ (p : Phi). Ty.Int p.width) phis
    phi_types [] h = refl
    phi_types (p ∷ rest) h = ap (λ t. t ∷ map (λ v. type_of (left used (rewritten f masks by)) (record { 0 = v })) (map (λ (p : Phi). p.result.0) rest)) (h 0 p refl)
        ∙ ap (λ ts. Ty.Int p.width ∷ ts) (phi_types rest (λ j q e. h (suc j) q e))

    inst_types_are : (insts : List Inst) → ((j : ℕ) (i : Inst) (v : ValueId) → slice_get insts j ≡ Some i → i.result ≡ Some v → name_type f v.0 ≡ op_type i.op) →
        map (λ v. type_of (left used (rewritten f masks by)) (record { 0 = v })) (inst_ids insts) ≡ inst_types insts
    inst_types_are [] h = refl
    inst_types_are (i ∷ rest) h = here i.result refl (inst_types_are rest (λ j k v e r. h (suc j) k v e r))
      where
        here : (o : Option ValueId) → i.result ≡ o → map (λ v. type_of (left used (rewritten f masks by)) (record { 0 = v })) (inst_ids rest) ≡ inst_types rest →
            map (λ v. type_of (left used (rewritten f masks by)) (record { 0 = v })) (cons_option (elim o [ None ↦ None | Some v ↦ Some v.0 ]) (inst_ids rest))
            ≡ cons_option (elim o [ None ↦ None | Some v ↦ Some (op_type i.op) ]) (inst_types rest)
        here None e again = again
        here (Some v) e again = ap (λ t. t ∷ map (λ v. type_of (left used (rewritten f masks by)) (record { 0 = v })) (inst_ids rest)) (h 0 i v refl e) ∙ ap (λ ts. op_type i.op ∷ ts) again

    left_types : types_at (left used (rewritten f masks by)) (block_ids (block_left used (new_block f masks by b block))) ≡ block_types (block_left used (new_block f masks by b block))
    left_types =
        let phis = filter (λ (p : Phi). used p.result.0) (map (new_phi f masks by) block.phis) in
        let insts = filter (stays used) (map (new_line f masks by b) block.insts) in
        map_both (λ v. type_of (left used (rewritten f masks by)) (record { 0 = v })) (map (λ (p : Phi). p.result.0) phis) (inst_ids insts)
        ∙ ap (λ ts. ts ++ map (λ v. type_of (left used (rewritten f masks by)) (record { 0 = v })) (inst_ids insts)) (phi_types phis (λ j p e.
        let l = left_at (λ (p : Phi). used p.result.0) (new_phi f masks by) block.phis j p e in
        subst (λ (q : Phi). name_type f q.result.0 ≡ Ty.Int q.width) l.is (phi_type f b block l.place l.from known.printable there l.there)))
        ∙ ap (λ ts. map (λ (p : Phi). Ty.Int p.width) phis ++ ts) (inst_types_are insts (λ j i v e r.
        let l = left_at (stays used) (new_line f masks by b) block.insts j i e in
        let line : IsLine f b block l.place l.from = record { there = there; stands = l.there } in
        let named : l.from.result ≡ Some v = ap (λ (k : Inst). k.result) l.is ∙ r in
        line_type f b block l.place l.from v known.printable line named ∙ sym (line_left_type f masks by used known b block l.place l.from line) ∙ ap (λ (k : Inst). op_type k.op) l.is))

  pub kept_typed : KeptIsTyped (left used (rewritten f masks by)) each_number
  kept_typed = each_block (TypedBlock (left used (rewritten f masks by))) left_typed

  -- ---- phis fit the edges

  abbrev edges_in : ℕ → Option Block → ℕ
  edges_in to o = elim o [ None ↦ 0 | Some b ↦ count_by (λ t. nat_eq t.0 to) (targets b.term) ]

  abbrev left_in : ℕ → Option Block → Option Block
  left_in b o = elim o [ None ↦ None | Some block ↦ Some (block_left used (new_block f masks by b block)) ]

  pub same_edges : (from to : ℕ) → edge_count (left used (rewritten f masks by)) from to ≡ edge_count f from to
  same_edges from to = ap (edges_in to) (block_or f masks by used from) ∙ here (slice_get f.blocks from)
    where
      here : (o : Option Block) → edges_in to (left_in from o) ≡ edges_in to o
      here None = refl
      here (Some block) = ap (count_by (λ (t : BlockId). nat_eq t.0 to)) (same_targets (put_for f masks (by.reached from)) block.term)

  left_phi_fits : (b : ℕ) (block : Block) (j : ℕ) (phi : Phi) → slice_get f.blocks b ≡ Some block → slice_get block.phis j ≡ Some phi → PhisFit f →
      KeptPhiFits (left used (rewritten f masks by)) each_number b (new_phi f masks by phi)
  left_phi_fits b block j phi there stands fit =
      let printable = all_at (PrintablePhi f) block.phis j phi (printable_block b block there).phis stands in
      let old = all_at (PhiFits f b) block.phis j phi (subst (λ o. IfSome o (λ (c : Block). All (PhiFits f b) c.phis)) there (fit b (get_below f.blocks b block there)).phis) stands in
      record {
        kept = all_get (λ (e : Operand × BlockId). IsTrue (is_in e.1.0 (kept_numbers (left used (rewritten f masks by)) each_number))) (map (new_entry f masks by) phi.entries) (λ k e' at.
            let m = mapped_at (new_entry f masks by) phi.entries k e' at in
            let below = (all_at (λ (d : Operand × BlockId). IsOperand f phi.width d.0 × IsBlock f d.1) phi.entries k m.from printable.entries m.there).1 in
            subst (λ (e : Operand × BlockId). is_in e.1.0 (kept_numbers (left used (rewritten f masks by)) each_number) ≡ true) m.is
            (number_kept (left used (rewritten f masks by)) each_number m.from.1.0 refl (subst (λ n. m.from.1.0 < n) (sym (same_length f masks by used)) below)));
        each_edge = λ from kept. count_mapped (λ (e : Operand × BlockId). nat_eq e.1.0 from) (new_entry f masks by) phi.entries 0 ∙ old.each_edge from ∙ sym (same_edges from b);
        one_operand = λ i k d before inside same_block.
            let n = length_mapped (new_entry f masks by) phi.entries in
            let below : k < length phi.entries = omega (arith, n, inside) in
            let first = index_mapped (new_entry f masks by) phi.entries i d d (omega arith) in
            let second = index_mapped (new_entry f masks by) phi.entries k d d below in
            let e = slice_index_or phi.entries i d in
            let h = slice_index_or phi.entries k d in
            let blocks : e.1 ≡ h.1 = sym (ap (λ (x : Operand × BlockId). x.1) first) ∙ same_block ∙ ap (λ (x : Operand × BlockId). x.1) second in
            let operands : e.0 ≡ h.0 = old.one_operand i k d before below blocks in
            ap (λ (x : Operand × BlockId). x.0) first
            ∙ ap (λ (c : BlockId). put_for f masks (by.reached c.0) e.0) blocks ∙ ap (put_for f masks (by.reached h.1.0)) operands
            ∙ sym (ap (λ (x : Operand × BlockId). x.0) second);
      }

  pub kept_phis_fit : PhisFit f → 0 < length f.blocks → KeptPhisFit (left used (rewritten f masks by)) each_number
  kept_phis_fit fit some = record {
    phis = λ b block' kept there. let l = left_block b block' there in
        subst (λ (c : Block). All (KeptPhiFits (left used (rewritten f masks by)) each_number b) c.phis) l.is
        (all_get (KeptPhiFits (left used (rewritten f masks by)) each_number b) (filter (λ (p : Phi). used p.result.0) (map (new_phi f masks by) l.block.phis)) (λ j phi' e.
        let m = left_at (λ (p : Phi). used p.result.0) (new_phi f masks by) l.block.phis j phi' e in
        subst (KeptPhiFits (left used (rewritten f masks by)) each_number b) m.is (left_phi_fits b l.block m.place m.from l.there m.there fit)));
    entry = λ from kept. same_edges from first_block ∙ (fit 0 some).entry refl from;
  }

  -- ---- calls

  pub called_left : (b : ℕ) (block : Block) (i : ℕ) (inst : Inst) (width : Option ℕ) (c : ℕ) → IsLine f b block i inst → inst.op ≡ Op.Call width c →
      IsSomeAnd (slice_get (new_calls f masks by 0 f.calls) c) (PrintableCall (left used (rewritten f masks by)))
  called_left b block i inst width c line is =
      by_call (slice_get f.calls c) refl (subst (TypedOp f) is (line_typed f masks by.changed used known b block i inst line))
    where
      args_left : (args : List CallArg) → AllByRecursion (λ (a : CallArg). IsOfType f (Ty.Int a.width) a.value) args → AllByRecursion (PrintableArgument f) args →
          AllByRecursion (PrintableArgument (left used (rewritten f masks by))) (map (new_argument (put_for f masks (is_reached_call by c 0 f.blocks))) args)
      args_left [] types ranges = tt
      args_left (a ∷ args) types ranges = (
        record {
          width = ranges.0.width;
          words = ranges.0.words;
          value = (put_types f masks by used known (is_reached_call by c 0 f.blocks) a.width a.value (record { ty = types.0; range = ranges.0.value })).range;
        },
        args_left args types.1 ranges.1,
      )

      by_call : (o : Option CallOp) → slice_get f.calls c ≡ o → IsSomeAnd (slice_get f.calls c) (λ (d : CallOp). All (λ (a : CallArg). IsOfType f (Ty.Int a.width) a.value) d.args) →
          IsSomeAnd (slice_get (new_calls f masks by 0 f.calls) c) (PrintableCall (left used (rewritten f masks by)))
      by_call None e t = absurd (subst (λ o. IsSomeAnd o (λ (d : CallOp). All (λ (a : CallArg). IsOfType f (Ty.Int a.width) a.value) d.args)) e t)
      by_call (Some d) e t =
          let types = subst (λ o. IsSomeAnd o (λ (d : CallOp). All (λ (a : CallArg). IsOfType f (Ty.Int a.width) a.value) d.args)) e t in
          let old = all_at (PrintableCall f) f.calls c d known.printable.calls e in
          subst (λ o. IsSomeAnd o (PrintableCall (left used (rewritten f masks by)))) (sym (call_at f masks by c d e)) (record {
            some = old.some;
            no_intrinsic = old.no_intrinsic;
            words = old.words;
            arguments = All-from_recursion (PrintableArgument (left used (rewritten f masks by))) (map (new_argument (put_for f masks (is_reached_call by c 0 f.blocks))) d.args)
                (args_left d.args (recursion_from_All (λ (a : CallArg). IsOfType f (Ty.Int a.width) a.value) d.args types) (recursion_from_All (PrintableArgument f) d.args old.arguments));
          })

  -- ---- names

  block_names : (n : ℕ) (blocks : List Block) → filter_map (λ (b : Block). b.name) (map (block_left used) (new_blocks f masks by n blocks)) ≡ filter_map (λ (b : Block). b.name) blocks
  block_names n [] = refl
  block_names n (c ∷ blocks) = ap (cons_option c.name) (block_names (suc n) blocks)

  same_names : kept_names (left used (rewritten f masks by)) ≡ kept_names f
  same_names = ap (λ ns. filter_map (λ (v : Value). v.name) f.values ++ ns) (block_names 0 f.blocks)

  left_call : (c : ℕ) → is_in c (call_places f) ≡ true → IsSomeAnd (slice_get (new_calls f masks by 0 f.calls) c) (PrintableCall (left used (rewritten f masks by)))
  left_call c called =
      let in_block = out_flat block_call_places f.blocks c called in
      let in_line = out_places in_block.from.insts c in_block.inside in
      let call = call_is in_line.1.op c in_line.3 in
      called_left in_block.place in_block.from in_line.0 in_line.1 call.0 c (record { there = in_block.there; stands = in_line.2 }) call.1

  -- ---- parameters

  first_ids : (xs ys : List ℕ) (a n k x : ℕ) → xs ++ ys ≡ range_with_len a n → slice_get xs k ≡ Some x → (x ≡ a + k) × (x < a + n)
  first_ids [] ys a n k x e s = absurd (cc)
  first_ids (z ∷ xs) ys a zero k x e s = absurd (cc)
  first_ids (z ∷ xs) ys a (suc n) zero x e s =
      let first : z ≡ a = cc in
      let same = same_Some z x s in
      (omega (arith, first, same), omega (arith, first, same))
  first_ids (z ∷ xs) ys a (suc n) (suc k) x e s =
      let rest : xs ++ ys ≡ range_with_len (a + 1) n = cc in
      let r = first_ids xs ys (a + 1) n k x rest s in
      let p = r.0 in let q = r.1 in
      (omega (arith, p), omega (arith, q))

  get_take : {A : Type 0} (xs : List A) (m k : ℕ) → k < m → slice_get (take m xs) k ≡ slice_get xs k
  get_take xs zero k l = absurd (omega arith)
  get_take [] (suc m) k l = refl
  get_take (x ∷ xs) (suc m) zero l = refl
  get_take (x ∷ xs) (suc m) (suc k) l = get_take xs m k (omega arith)

  get_some : {A : Type 0} (xs : List A) (k : ℕ) → k < length xs → (x : A) × (slice_get xs k ≡ Some x)
  get_some [] k l = absurd (omega arith)
  get_some (x ∷ xs) zero l = (x, refl)
  get_some (x ∷ xs) (suc k) l = get_some xs k (omega arith)

  parameter_types_are : All (λ (p : Param). IsIntegerType (type_of f p.value)) f.params
  parameter_types_are = all_get (λ (p : Param). IsIntegerType (type_of f p.value)) f.params (λ k p e.
      let place = first_ids (map (λ (q : Param). q.value.0) f.params) (flat_map block_ids f.blocks) 0 (length f.values) k p.value.0 known.printable.ids (get_mapped k p e) in
      let id : p.value.0 ≡ k = let h = place.0 in omega (arith, h) in
      let below : p.value.0 < length f.values = let h = place.1 in omega (arith, h) in
      let value = get_some f.values p.value.0 below in
      let within : p.value.0 < length f.params = let l = get_below f.params k p e in omega (arith, l, id) in
      let taken : slice_get (take (length f.params) f.values) p.value.0 ≡ Some value.0 = get_take f.values (length f.params) p.value.0 within ∙ value.1 in
      let fits = all_at (λ (v : Value). IsIntegerType v.ty) (take (length f.params) f.values) p.value.0 value.0 known.printable.types.parameters taken in
      subst (λ o. IsIntegerType (option_map_or (λ (v : Value). v.ty) o (Ty.Int 1))) (sym value.1) fits)
    where
      get_mapped : (k : ℕ) (p : Param) → slice_get f.params k ≡ Some p → slice_get (map (λ (q : Param). q.value.0) f.params) k ≡ Some p.value.0
      get_mapped k p e = get_map (λ (q : Param). q.value.0) f.params k p e

  pub kept_printable : KeptIsPrintable (left used (rewritten f masks by)) each_number
  kept_printable = record {
    name = known.printable.name;
    lead = known.printable.lead;
    width = known.printable.width;
    words = known.printable.words;
    tail = known.printable.tail;
    parameters = parameter_types_are;
    results = each_block (λ b. types_at (left used (rewritten f masks by)) (block_ids b) ≡ block_types b) left_types;
    names = subst (All IsKeptName) (sym same_names) known.printable.names;
    distinct = subst (IsDistinct bytes_eq) (sym same_names) known.printable.distinct;
    blocks = each_block (PrintableBlock (left used (rewritten f masks by))) left_printable;
    calls = subst (All (λ c. IsSomeAnd (slice_get (new_calls f masks by 0 f.calls) c) (PrintableCall (left used (rewritten f masks by)))))
        (sym (all_calls (left used (rewritten f masks by)) ∙ same_calls f masks by used))
        (all_get (λ c. IsSomeAnd (slice_get (new_calls f masks by 0 f.calls) c) (PrintableCall (left used (rewritten f masks by)))) (call_places f) (λ i c e. left_call c (get_in (call_places f) i c e)));
  }
    where
      get_in : (xs : List ℕ) (i n : ℕ) → slice_get xs i ≡ Some n → is_in n xs ≡ true
      get_in [] i n e = absurd (cc)
      get_in (x ∷ xs) zero n e = in_first n x xs (sym (same_Some x n e))
      get_in (x ∷ xs) (suc i) n e = in_rest n x xs (get_in xs i n e)
