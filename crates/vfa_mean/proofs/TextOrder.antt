-- The ids and calls of a numbered function stand in text order.
use Rattle.std.proofs.Common.{◌≡◌, ℕ, zero, suc, ◌+◌, Bool, false, nat_eq, if◌then◌else◌, List, [], ◌∷◌, ◌++◌, map, flat_map, length, Option, Some, None, refl, sym, ap, ◌∙◌, add-one}
use Rattle.std.proofs.lemmas.List.{map-append, length-map}
use Rattle.std.proofs.lemmas.Bool.{eq-eqb}
use Rattle.std.specs.List.{AllByRecursion, IsDistinct, cons_option, filter_map, range_with_len}
use Rattle.std.specs.Option.{option_map}
use Rattle.vfa_ir.specs.declared.operations.Op.{Op}
use Rattle.vfa_ir.specs.declared.operations.ValueId.{ValueId}
use Rattle.vfa_ir.specs.declared.functions.Block.{Block}
use Rattle.vfa_ir.specs.declared.functions.Function.{Function}
use Rattle.vfa_ir.specs.declared.functions.Inst.{Inst}
use Rattle.vfa_ir.specs.declared.functions.Param.{Param}
use Rattle.vfa_ir.specs.declared.functions.Phi.{Phi}
use Rattle.vfa_ir.specs.Printable.{block_call_places, block_ids, call_place, inst_ids}
use Rattle.vfa_mean.specs.Renaming.{Order, at_places, place_among, renamed_block, renamed_call, renamed_inst, renamed_op, renamed_param, renamed_phi, renamed_value}
use Rattle.vfa_mean.specs.Numbering.{DefinesKeptOnce, IsInTextOrder, MayBeNumbered, kept_blocks, kept_calls, kept_values, numbered, text_order}
use Rattle.vfa_mean.proofs.PlacesAmong.{length-at_places}

-- ---- the places of distinct numbers

map_suc : (a n : ℕ) → map suc (range_with_len a n) ≡ range_with_len (a + 1) n
map_suc a zero = refl
map_suc a (suc n) = ap (λ k. k ∷ map suc (range_with_len (a + 1) n)) (sym (add-one a)) ∙ ap (λ r. (a + 1) ∷ r) (map_suc (a + 1) n)

places_later : (x : ℕ) (xs ys : List ℕ) → AllByRecursion (λ y. nat_eq x y ≡ false) ys → map (place_among (x ∷ xs)) ys ≡ map suc (map (place_among xs) ys)
places_later x xs [] d = refl
places_later x xs (y ∷ ys) d =
    ap (λ t. (if t then 0 else suc (place_among xs y)) ∷ map (place_among (x ∷ xs)) ys) d.0
    ∙ ap (λ r. suc (place_among xs y) ∷ r) (places_later x xs ys d.1)

pub places_in_order : (xs : List ℕ) → IsDistinct nat_eq xs → map (place_among xs) xs ≡ range_with_len 0 (length xs)
unfolding IsDistinct
places_in_order [] d = refl
places_in_order (x ∷ xs) d =
    ap (λ t. (if t then 0 else suc (place_among xs x)) ∷ map (place_among (x ∷ xs)) xs) (eq-eqb x x refl)
    ∙ ap (λ r. 0 ∷ r) (places_later x xs xs d.0 ∙ ap (map suc) (places_in_order xs d.1) ∙ map_suc 0 (length xs))

-- ---- ids

pub param_ids : (o : Order) (ps : List Param) → map (λ (p : Param). p.value.0) (map (renamed_param o) ps) ≡ map (place_among o.values) (map (λ (p : Param). p.value.0) ps)
param_ids o [] = refl
param_ids o (p ∷ ps) = ap (λ r. place_among o.values p.value.0 ∷ r) (param_ids o ps)

pub phi_ids : (o : Order) (ps : List Phi) → map (λ (p : Phi). p.result.0) (map (renamed_phi o) ps) ≡ map (place_among o.values) (map (λ (p : Phi). p.result.0) ps)
phi_ids o [] = refl
phi_ids o (p ∷ ps) = ap (λ r. place_among o.values p.result.0 ∷ r) (phi_ids o ps)

pub results_ids : (o : Order) (is : List Inst) → inst_ids (map (renamed_inst o) is) ≡ map (place_among o.values) (inst_ids is)
results_ids o [] = refl
results_ids o (i ∷ is) = go i.result (results_ids o is)
  where
    go : (name : Option ValueId) → inst_ids (map (renamed_inst o) is) ≡ map (place_among o.values) (inst_ids is) →
        cons_option (elim (option_map (renamed_value o) name) [ None ↦ None | Some v ↦ Some v.0 ]) (inst_ids (map (renamed_inst o) is))
        ≡ map (place_among o.values) (cons_option (elim name [ None ↦ None | Some v ↦ Some v.0 ]) (inst_ids is))
    go None again = again
    go (Some v) again = ap (λ r. place_among o.values v.0 ∷ r) again

pub ids_of_block : (o : Order) (b : Block) → block_ids (renamed_block o b) ≡ map (place_among o.values) (block_ids b)
ids_of_block o b =
    ap (λ r. r ++ inst_ids (map (renamed_inst o) b.insts)) (phi_ids o b.phis)
    ∙ ap (λ r. map (place_among o.values) (map (λ (p : Phi). p.result.0) b.phis) ++ r) (results_ids o b.insts)
    ∙ sym (map-append (place_among o.values) (map (λ (p : Phi). p.result.0) b.phis) (inst_ids b.insts))

ids_of_blocks : (o : Order) (bs : List Block) → flat_map block_ids (map (renamed_block o) bs) ≡ map (place_among o.values) (flat_map block_ids bs)
ids_of_blocks o [] = refl
ids_of_blocks o (b ∷ bs) =
    ap (λ r. r ++ flat_map block_ids (map (renamed_block o) bs)) (ids_of_block o b)
    ∙ ap (λ r. map (place_among o.values) (block_ids b) ++ r) (ids_of_blocks o bs)
    ∙ sym (map-append (place_among o.values) (block_ids b) (flat_map block_ids bs))

-- ---- calls

place_of_call : (o : Order) (op : Op) → call_place (renamed_op o op) ≡ option_map (place_among o.calls) (call_place op)
place_of_call o (Op.Bin bin flags w x y) = refl
place_of_call o (Op.Icmp pred samesign w x y) = refl
place_of_call o (Op.Select w z x y) = refl
place_of_call o (Op.Cast cast flags v w x) = refl
place_of_call o (Op.Freeze w x) = refl
place_of_call o (Op.Two fun w x y) = refl
place_of_call o (Op.One fun w x strict) = refl
place_of_call o (Op.Over over w x y) = refl
place_of_call o (Op.Part w pair index) = refl
place_of_call o (Op.Assume x) = refl
place_of_call o (Op.Call width call) = refl

abbrev inst_calls : List Inst → List ℕ
inst_calls insts = filter_map (λ (i : Inst). call_place i.op) insts

calls_of_lines : (o : Order) (is : List Inst) → inst_calls (map (renamed_inst o) is) ≡ map (place_among o.calls) (inst_calls is)
calls_of_lines o [] = refl
calls_of_lines o (i ∷ is) =
    ap (λ c. cons_option c (inst_calls (map (renamed_inst o) is))) (place_of_call o i.op) ∙ go (call_place i.op) (calls_of_lines o is)
  where
    go : (c : Option ℕ) → inst_calls (map (renamed_inst o) is) ≡ map (place_among o.calls) (inst_calls is) →
        cons_option (option_map (place_among o.calls) c) (inst_calls (map (renamed_inst o) is)) ≡ map (place_among o.calls) (cons_option c (inst_calls is))
    go None again = again
    go (Some c) again = ap (λ r. place_among o.calls c ∷ r) again

calls_of_blocks : (o : Order) (bs : List Block) →
    flat_map block_call_places (map (renamed_block o) bs) ≡ map (place_among o.calls) (flat_map block_call_places bs)
calls_of_blocks o [] = refl
calls_of_blocks o (b ∷ bs) =
    ap (λ r. r ++ flat_map block_call_places (map (renamed_block o) bs)) (calls_of_lines o b.insts)
    ∙ ap (λ r. map (place_among o.calls) (block_call_places b) ++ r) (calls_of_blocks o bs)
    ∙ sym (map-append (place_among o.calls) (block_call_places b) (flat_map block_call_places bs))

-- ---- text order

pub in_text_order : (f : Function) (keeps : ℕ → Bool) → MayBeNumbered f keeps → DefinesKeptOnce f keeps → IsInTextOrder (numbered f keeps)
in_text_order f keeps h once =
    let o = text_order f keeps in
    let params : List ℕ = map (λ (p : Param). p.value.0) f.params in
    let results : List ℕ = flat_map block_ids (kept_blocks f keeps) in
    record {
      ids =
          ap (λ r. r ++ flat_map block_ids (map (renamed_block o) (kept_blocks f keeps))) (param_ids o f.params)
          ∙ ap (λ r. map (place_among o.values) params ++ r) (ids_of_blocks o (kept_blocks f keeps))
          ∙ sym (map-append (place_among o.values) params results)
          ∙ places_in_order (kept_values f keeps) once.names
          ∙ ap (range_with_len 0) (sym (length-at_places f.values (kept_values f keeps) h.values));
      calls =
          calls_of_blocks o (kept_blocks f keeps)
          ∙ places_in_order (kept_calls f keeps) once.calls
          ∙ ap (range_with_len 0) (sym (length-map (at_places f.calls (kept_calls f keeps)) (renamed_call o)
          ∙ length-at_places f.calls (kept_calls f keeps) h.calls));
    }
