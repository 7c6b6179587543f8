-- The blocks that are left: what they define and call, and that they are typed and may be printed.
use Rattle.std.proofs.Common.{◌≡◌, ℕ, suc, ◌+◌, ◌++◌, Bool, true, false, Option, Some, None, List, [], ◌∷◌, map, flat_map, filter_map, length, slice_get, refl, sym, ap, ◌∙◌, subst, inl, inr}
use Rattle.std.specs.List.{AllByRecursion, cons_option}
use Rattle.vfa_ir.specs.declared.operations.ValueId.{ValueId}
use Rattle.vfa_ir.specs.declared.functions.Block.{Block}
use Rattle.vfa_ir.specs.declared.functions.Function.{Function}
use Rattle.vfa_ir.specs.declared.functions.Inst.{Inst}
use Rattle.vfa_ir.specs.declared.functions.Phi.{Phi}
use Rattle.vfa_ir.specs.Printable.{inst_ids, block_ids, block_call_places, call_place}
use Rattle.vfa_ir.specs.Words.{is_in}
use Rattle.vfa_mean.proofs.FreshOperands.Definitions.{in_cases, first_or_rest}
use Rattle.vfa_rewrite.specs.Findings.{Findings}
use Rattle.vfa_rewrite.specs.Marks.{IsLeftLine}
use Rattle.vfa_rewrite.specs.Rewritten.{Marks, if_left, changed, if_stays, if_met, lines_left, phi_left, kept_phis, phis_if_met, phis_left, rewritten_block}
use Rattle.vfa_rewrite.proofs.Left.{AreFrom, head_from, rest_from, all_from}
use Rattle.vfa_rewrite.proofs.LeftLines.{Known, form}
use Rattle.vfa_rewrite.proofs.LeftParts.{with_fresh, result_with_fresh, places_in, IsGoodLine, lines_good, lines_ids, lines_places}
use Rattle.vfa_rewrite.proofs.Sublists.{IsSublist, end, skip, keep, sublist_append, sublist_none, sublist_behind, sublist_in}

-- ---- lists

pub from_get : {A : Type 0} (P : A → Type 0) (xs : List A) → ((i : ℕ) (x : A) → slice_get xs i ≡ Some x → P x) → AllByRecursion P xs
from_get P [] h = tt
from_get P (x ∷ xs) h = (h 0 x refl, from_get P xs (λ i y e. h (suc i) y e))

pub all_both : {A : Type 0} (P : A → Type 0) (xs ys : List A) → AllByRecursion P xs → AllByRecursion P ys → AllByRecursion P (xs ++ ys)
all_both P [] ys h k = k
all_both P (x ∷ xs) ys h k = (h.0, all_both P xs ys h.1 k)

pub all_turned : {A : Type 0} (P Q : A → Type 0) (xs : List A) → ((x : A) → P x → Q x) → AllByRecursion P xs → AllByRecursion Q xs
all_turned P Q [] h all = tt
all_turned P Q (x ∷ xs) h all = (h x all.0, all_turned P Q xs h all.1)

joined : {B : Type 0} (o : Option B) (xs ys : List B) → cons_option o (xs ++ ys) ≡ cons_option o xs ++ ys
joined None xs ys = refl
joined (Some x) xs ys = refl

pub picked_both : {A B : Type 0} (h : A → Option B) (xs ys : List A) → filter_map h (xs ++ ys) ≡ filter_map h xs ++ filter_map h ys
picked_both h [] ys = refl
picked_both h (x ∷ xs) ys = ap (cons_option (h x)) (picked_both h xs ys) ∙ joined (h x) (filter_map h xs) (filter_map h ys)

pub flat_both : {A B : Type 0} (h : A → List B) (xs ys : List A) → flat_map h (xs ++ ys) ≡ flat_map h xs ++ flat_map h ys
flat_both h [] ys = refl
flat_both h (x ∷ xs) ys = ap (λ rest. h x ++ rest) (flat_both h xs ys) ∙ sym (grouped (h x) (flat_map h xs) (flat_map h ys))
  where
    grouped : {B : Type 0} (a b c : List B) → (a ++ b) ++ c ≡ a ++ (b ++ c)
    grouped [] b c = refl
    grouped (y ∷ a) b c = ap (λ rest. y ∷ rest) (grouped a b c)

abbrev id_of : Inst → Option ℕ
id_of i = elim i.result [ None ↦ None | Some v ↦ Some v.0 ]

more_ids : (n : ℕ) (r : Option ValueId) (ids more : List ℕ) → IsSublist ids (flat_map (with_fresh n) more) →
    IsSublist ids (flat_map (with_fresh n) (cons_option (elim r [ None ↦ None | Some v ↦ Some v.0 ]) more))
more_ids n None ids more s = s
more_ids n (Some v) ids more s = sublist_behind ids (flat_map (with_fresh n) more) (with_fresh n v.0) s

both_ids : (n : ℕ) (r : Option ValueId) (here ids more : List ℕ) → IsSublist here (result_with_fresh n r) → IsSublist ids (flat_map (with_fresh n) more) →
    IsSublist (here ++ ids) (flat_map (with_fresh n) (cons_option (elim r [ None ↦ None | Some v ↦ Some v.0 ]) more))
both_ids n None here ids more s t = sublist_append here [] ids (flat_map (with_fresh n) more) s t
both_ids n (Some v) here ids more s t = sublist_append here (with_fresh n v.0) ids (flat_map (with_fresh n) more) s t

module _ (f : Function) (found : Findings) (m : Marks) (known : Known f found m) (b : ℕ) (block : Block) (there : slice_get f.blocks b ≡ Some block) (reached : m.reached b ≡ true) where
  -- ---- lines

  pub left_line : (inst : Inst) (rest : List Inst) (n : ℕ) → AreFrom block.insts (inst ∷ rest) n → m.met b n ≡ true → IsLeftLine f m b block n inst
  left_line inst rest n from met = record { line = record { there = there; stands = head_from block.insts inst rest n from }; reached = reached; met = met }

  pub all_lines : (P : Inst → Type 0) → ((i : ℕ) (inst : Inst) → IsLeftLine f m b block i inst → m.stays b i ≡ true → AllByRecursion P (changed m b i inst)) →
      (rest : List Inst) (n : ℕ) → ((j : ℕ) (inst : Inst) → slice_get rest j ≡ Some inst → slice_get block.insts (n + j) ≡ Some inst) → AllByRecursion P (lines_left m b n rest)
  all_lines P each [] n from = tt
  all_lines P each (inst ∷ rest) n from = by (m.met b n) refl (all_lines P each rest (suc n) (rest_from block.insts inst rest n from))
    where
      staying : m.met b n ≡ true → (t : Bool) → m.stays b n ≡ t → AllByRecursion P (lines_left m b (suc n) rest) → AllByRecursion P (if_stays t (changed m b n inst) (lines_left m b (suc n) rest))
      staying met true s later = all_both P (changed m b n inst) (lines_left m b (suc n) rest) (each n inst (left_line inst rest n from met) s) later
      staying met false s later = later

      by : (t : Bool) → m.met b n ≡ t → AllByRecursion P (lines_left m b (suc n) rest) → AllByRecursion P (if_met t (if_stays (m.stays b n) (changed m b n inst) (lines_left m b (suc n) rest)))
      by true met later = staying met (m.stays b n) refl later
      by false met later = tt

  pub good_lines : AllByRecursion (λ (line : Inst). (i : ℕ) × (inst : Inst) × (left : IsLeftLine f m b block i inst) × IsGoodLine f found m known b block i inst left line) (lines_left m b 0 block.insts)
  good_lines = all_lines (λ (line : Inst). (i : ℕ) × (inst : Inst) × (left : IsLeftLine f m b block i inst) × IsGoodLine f found m known b block i inst left line)
      (λ i inst left stays. all_turned (IsGoodLine f found m known b block i inst left) (λ (line : Inst). (i : ℕ) × (inst : Inst) × (left : IsLeftLine f m b block i inst) × IsGoodLine f found m known b block i inst left line) (changed m b i inst)
      (λ line good. (i, inst, left, good))
      (lines_good f found m known b block i inst left (changed m b i inst) (form f found m known b block i inst left stays)))
      block.insts 0 (all_from block.insts)

  ids_left : (rest : List Inst) (n : ℕ) → ((j : ℕ) (inst : Inst) → slice_get rest j ≡ Some inst → slice_get block.insts (n + j) ≡ Some inst) →
      IsSublist (inst_ids (lines_left m b n rest)) (flat_map (with_fresh (length f.values)) (inst_ids rest))
  ids_left [] n from = end
  ids_left (inst ∷ rest) n from = by (m.met b n) refl (ids_left rest (suc n) (rest_from block.insts inst rest n from))
    where
      staying : m.met b n ≡ true → (t : Bool) → m.stays b n ≡ t → IsSublist (inst_ids (lines_left m b (suc n) rest)) (flat_map (with_fresh (length f.values)) (inst_ids rest)) →
          IsSublist (inst_ids (if_stays t (changed m b n inst) (lines_left m b (suc n) rest))) (flat_map (with_fresh (length f.values)) (inst_ids (inst ∷ rest)))
      staying met true s t =
          let left = left_line inst rest n from met in
          subst (λ xs. IsSublist xs (flat_map (with_fresh (length f.values)) (inst_ids (inst ∷ rest)))) (sym (picked_both id_of (changed m b n inst) (lines_left m b (suc n) rest)))
          (both_ids (length f.values) inst.result (inst_ids (changed m b n inst)) (inst_ids (lines_left m b (suc n) rest)) (inst_ids rest)
          (lines_ids f found m known b block n inst left (changed m b n inst) (form f found m known b block n inst left s)) t)
      staying met false s t = more_ids (length f.values) inst.result (inst_ids (lines_left m b (suc n) rest)) (inst_ids rest) t

      by : (t : Bool) → m.met b n ≡ t → IsSublist (inst_ids (lines_left m b (suc n) rest)) (flat_map (with_fresh (length f.values)) (inst_ids rest)) →
          IsSublist (inst_ids (if_met t (if_stays (m.stays b n) (changed m b n inst) (lines_left m b (suc n) rest)))) (flat_map (with_fresh (length f.values)) (inst_ids (inst ∷ rest)))
      by true met s = staying met (m.stays b n) refl s
      by false met s = sublist_none _

  places_left : (rest : List Inst) (n : ℕ) → ((j : ℕ) (inst : Inst) → slice_get rest j ≡ Some inst → slice_get block.insts (n + j) ≡ Some inst) →
      IsSublist (places_in (lines_left m b n rest)) (places_in rest)
  places_left [] n from = end
  places_left (inst ∷ rest) n from = by (m.met b n) refl (places_left rest (suc n) (rest_from block.insts inst rest n from))
    where
      split : (o : Option ℕ) (xs : List ℕ) → cons_option o [] ++ xs ≡ cons_option o xs
      split None xs = refl
      split (Some x) xs = refl

      staying : m.met b n ≡ true → (t : Bool) → m.stays b n ≡ t → IsSublist (places_in (lines_left m b (suc n) rest)) (places_in rest) →
          IsSublist (places_in (if_stays t (changed m b n inst) (lines_left m b (suc n) rest))) (places_in (inst ∷ rest))
      staying met true s t =
          let left = left_line inst rest n from met in
          subst (λ xs. IsSublist xs (places_in (inst ∷ rest))) (sym (picked_both (λ (i : Inst). call_place i.op) (changed m b n inst) (lines_left m b (suc n) rest)))
          (subst (λ ys. IsSublist (places_in (changed m b n inst) ++ places_in (lines_left m b (suc n) rest)) ys) (split (call_place inst.op) (places_in rest))
          (sublist_append (places_in (changed m b n inst)) (cons_option (call_place inst.op) []) (places_in (lines_left m b (suc n) rest)) (places_in rest)
          (lines_places f found m known b block n inst left (changed m b n inst) (form f found m known b block n inst left s)) t))
      staying met false s t =
          subst (λ ys. IsSublist (places_in (lines_left m b (suc n) rest)) ys) (split (call_place inst.op) (places_in rest))
          (sublist_behind (places_in (lines_left m b (suc n) rest)) (places_in rest) (cons_option (call_place inst.op) []) t)

      by : (t : Bool) → m.met b n ≡ t → IsSublist (places_in (lines_left m b (suc n) rest)) (places_in rest) →
          IsSublist (places_in (if_met t (if_stays (m.stays b n) (changed m b n inst) (lines_left m b (suc n) rest)))) (places_in (inst ∷ rest))
      by true met s = staying met (m.stays b n) refl s
      by false met s = sublist_none _

  -- ---- phis

  pub all_phis : (P : Phi → Type 0) (phis : List Phi) → ((j : ℕ) (phi : Phi) → slice_get phis j ≡ Some phi → m.keeps phi.result.0 ≡ true → P (phi_left f m b phi)) →
      AllByRecursion P (kept_phis f m b phis)
  all_phis P [] each = tt
  all_phis P (phi ∷ rest) each = by (m.keeps phi.result.0) refl (all_phis P rest (λ j other e. each (suc j) other e))
    where
      by : (t : Bool) → m.keeps phi.result.0 ≡ t → AllByRecursion P (kept_phis f m b rest) → AllByRecursion P (if_left t (phi_left f m b phi) (kept_phis f m b rest))
      by true k later = (each 0 phi refl k, later)
      by false k later = later

  pub all_met_phis : (P : Phi → Type 0) → ((j : ℕ) (phi : Phi) → slice_get block.phis j ≡ Some phi → m.keeps phi.result.0 ≡ true → m.met b 0 ≡ true → P (phi_left f m b phi)) →
      AllByRecursion P (phis_left f m b block.phis)
  all_met_phis P each = by (m.met b 0) refl
    where
      by : (t : Bool) → m.met b 0 ≡ t → AllByRecursion P (phis_if_met t (kept_phis f m b block.phis))
      by true met = all_phis P block.phis (λ j phi e k. each j phi e k met)
      by false met = tt

  abbrev phi_names : List Phi → List ℕ
  phi_names phis = map (λ (p : Phi). p.result.0) phis

  phi_ids_left : (phis : List Phi) → IsSublist (phi_names (kept_phis f m b phis)) (flat_map (with_fresh (length f.values)) (phi_names phis))
  phi_ids_left [] = end
  phi_ids_left (phi ∷ rest) = by (m.keeps phi.result.0) (phi_ids_left rest)
    where
      by : (t : Bool) → IsSublist (phi_names (kept_phis f m b rest)) (flat_map (with_fresh (length f.values)) (phi_names rest)) →
          IsSublist (phi_names (if_left t (phi_left f m b phi) (kept_phis f m b rest))) (with_fresh (length f.values) phi.result.0 ++ flat_map (with_fresh (length f.values)) (phi_names rest))
      by true s = skip _ _ _ (skip _ _ _ (skip _ _ _ (keep phi.result.0 _ _ s)))
      by false s = sublist_behind _ _ (with_fresh (length f.values) phi.result.0) s

  met_phi_ids : (t : Bool) → IsSublist (phi_names (phis_if_met t (kept_phis f m b block.phis))) (flat_map (with_fresh (length f.values)) (phi_names block.phis))
  met_phi_ids true = phi_ids_left block.phis
  met_phi_ids false = sublist_none _

  pub block_ids_left : IsSublist (block_ids (rewritten_block f m b block)) (flat_map (with_fresh (length f.values)) (block_ids block))
  block_ids_left =
      subst (λ ys. IsSublist (block_ids (rewritten_block f m b block)) ys) (sym (flat_both (with_fresh (length f.values)) (phi_names block.phis) (inst_ids block.insts)))
      (sublist_append (phi_names (phis_left f m b block.phis)) _ (inst_ids (lines_left m b 0 block.insts)) _ (met_phi_ids (m.met b 0)) (ids_left block.insts 0 (all_from block.insts)))

  pub block_places_left : IsSublist (block_call_places (rewritten_block f m b block)) (block_call_places block)
  block_places_left = places_left block.insts 0 (all_from block.insts)

  -- ---- calls

  -- an instruction that is left makes the call
  pub record IsCallLeft (c : ℕ) : Type 0 where
    pub place : ℕ
    pub inst : Inst
    pub left : IsLeftLine f m b block place inst
    pub calls : call_place inst.op ≡ Some c

  one_place : (o : Option ℕ) (c : ℕ) → is_in c (cons_option o []) ≡ true → o ≡ Some c
  one_place None c t = absurd (cc)
  one_place (Some d) c t = elim (first_or_rest c d [] t) [ inl e ↦ ap Some (sym e) | inr r ↦ absurd (let s : false ≡ true = r in cc) ]

  calls_from : (rest : List Inst) (n c : ℕ) → ((j : ℕ) (inst : Inst) → slice_get rest j ≡ Some inst → slice_get block.insts (n + j) ≡ Some inst) →
      is_in c (places_in (lines_left m b n rest)) ≡ true → IsCallLeft c
  calls_from [] n c from t = absurd (cc)
  calls_from (inst ∷ rest) n c from t = by (m.met b n) refl t (calls_from rest (suc n) c (rest_from block.insts inst rest n from))
    where
      staying : m.met b n ≡ true → (s : Bool) → m.stays b n ≡ s → is_in c (places_in (if_stays s (changed m b n inst) (lines_left m b (suc n) rest))) ≡ true →
          (is_in c (places_in (lines_left m b (suc n) rest)) ≡ true → IsCallLeft c) → IsCallLeft c
      staying met false s t again = again t
      staying met true s t again =
          let left = left_line inst rest n from met in
          elim (in_cases c (places_in (changed m b n inst)) (places_in (lines_left m b (suc n) rest))
          (sym (ap (is_in c) (picked_both (λ (i : Inst). call_place i.op) (changed m b n inst) (lines_left m b (suc n) rest))) ∙ t)) [
            | inr r ↦ again r
            | inl l ↦ record {
              place = n;
              inst = inst;
              left = left;
              calls = one_place (call_place inst.op) c (sublist_in (places_in (changed m b n inst)) (cons_option (call_place inst.op) []) c
                  (lines_places f found m known b block n inst left (changed m b n inst) (form f found m known b block n inst left s)) l);
            }
          ]

      by : (s : Bool) → m.met b n ≡ s → is_in c (places_in (if_met s (if_stays (m.stays b n) (changed m b n inst) (lines_left m b (suc n) rest)))) ≡ true →
          (is_in c (places_in (lines_left m b (suc n) rest)) ≡ true → IsCallLeft c) → IsCallLeft c
      by true met t again = staying met (m.stays b n) refl t again
      by false met t again = absurd (cc)

  pub call_left_in : (c : ℕ) → is_in c (block_call_places (rewritten_block f m b block)) ≡ true → IsCallLeft c
  call_left_in c t = calls_from block.insts 0 c (all_from block.insts) t
