-- Results have the types of what defines them.
use Rattle.std.proofs.Common.{◌≡◌, ◌+◌, ◌-◌, ℕ, zero, suc, Option, Some, None, List, [], ◌∷◌, ◌++◌, map, length, drop, slice_get, refl, sym, ◌∙◌, ap, subst, arith, add-zero}
use Rattle.std.specs.Option.{option_map_or}
use Rattle.std.specs.List.{AllZip, cons_option, flat_map, range_with_len}
use Rattle.std.proofs.lemmas.Option.{same_Some}
use Rattle.vfa_ir.specs.declared.operations.Op.{Op}
use Rattle.vfa_ir.specs.declared.operations.Ty.{Ty}
use Rattle.vfa_ir.specs.declared.operations.ValueId.{ValueId}
use Rattle.vfa_ir.specs.declared.functions.Block.{Block}
use Rattle.vfa_ir.specs.declared.functions.Function.{Function}
use Rattle.vfa_ir.specs.declared.functions.Inst.{Inst}
use Rattle.vfa_ir.specs.declared.functions.Phi.{Phi}
use Rattle.vfa_ir.specs.declared.functions.Value.{Value}
use Rattle.vfa_ir.specs.Printable.{IsPrintable, op_type, block_ids, inst_ids, block_types, inst_types}
use Rattle.vfa_mean.specs.Moments.{IsLine}
use Rattle.vfa_bits.specs.Changed.{name_type}

-- ---- ids and types side by side

-- the id has the type
abbrev HasIts : Function → ℕ → Ty → Type 0
HasIts f v t = name_type f v ≡ t

-- two lists that begin with lists of one length agree in both parts
zip_first : (f : Function) (xs ys : List ℕ) (us vs : List Ty) → length xs ≡ length us → AllZip (HasIts f) (xs ++ ys) (us ++ vs) → AllZip (HasIts f) xs us
zip_first f [] ys [] vs e zip = tt
zip_first f [] ys (u ∷ us) vs e zip = absurd (omega arith)
zip_first f (x ∷ xs) ys [] vs e zip = absurd (omega arith)
zip_first f (x ∷ xs) ys (u ∷ us) vs e zip = (zip.0, zip_first f xs ys us vs (omega arith) zip.1)

zip_second : (f : Function) (xs ys : List ℕ) (us vs : List Ty) → length xs ≡ length us → AllZip (HasIts f) (xs ++ ys) (us ++ vs) → AllZip (HasIts f) ys vs
zip_second f [] ys [] vs e zip = zip
zip_second f [] ys (u ∷ us) vs e zip = absurd (omega arith)
zip_second f (x ∷ xs) ys [] vs e zip = absurd (omega arith)
zip_second f (x ∷ xs) ys (u ∷ us) vs e zip = zip_second f xs ys us vs (omega arith) zip.1

inst_lengths : (insts : List Inst) → length (inst_ids insts) ≡ length (inst_types insts)
inst_lengths [] = refl
inst_lengths (i ∷ rest) = at i.result refl (inst_lengths rest)
  where
    at : (o : Option ValueId) → i.result ≡ o → length (inst_ids rest) ≡ length (inst_types rest) → length (inst_ids (i ∷ rest)) ≡ length (inst_types (i ∷ rest))
    at None e later = rw e later
    at (Some r) e later = rw e (ap suc later)

phi_lengths : (phis : List Phi) → length (map (λ (p : Phi). p.result.0) phis) ≡ length (map (λ (p : Phi). Ty.Int p.width) phis)
phi_lengths [] = refl
phi_lengths (p ∷ rest) = ap suc (phi_lengths rest)

length_append : {A : Type 0} (xs ys : List A) → length (xs ++ ys) ≡ length xs + length ys
length_append [] ys = omega arith
length_append (x ∷ xs) ys = omega (arith, length_append xs ys)

block_lengths : (b : Block) → length (block_ids b) ≡ length (block_types b)
block_lengths b =
    length_append (map (λ (p : Phi). p.result.0) b.phis) (inst_ids b.insts)
    ∙ (ap (λ k. k + length (inst_ids b.insts)) (phi_lengths b.phis)
    ∙ (ap (λ k. length (map (λ (p : Phi). Ty.Int p.width) b.phis) + k) (inst_lengths b.insts)
    ∙ sym (length_append (map (λ (p : Phi). Ty.Int p.width) b.phis) (inst_types b.insts))))

abbrev id_in : Option ValueId → Option ℕ
id_in o = elim o [ None ↦ None | Some r ↦ Some r.0 ]

abbrev type_in : Option ValueId → Op → Option Ty
type_in o op = elim o [ None ↦ None | Some _ ↦ Some (op_type op) ]

rest_zips : (f : Function) (o : Option ValueId) (op : Op) (ids : List ℕ) (types : List Ty) → AllZip (HasIts f) (cons_option (id_in o) ids) (cons_option (type_in o op) types) → AllZip (HasIts f) ids types
rest_zips f None op ids types zip = zip
rest_zips f (Some r) op ids types zip = zip.1

-- ---- the ids stand in text order

after_first : (xs ys : List ℕ) (a n : ℕ) → xs ++ ys ≡ range_with_len a n → ys ≡ range_with_len (a + length xs) (n - length xs)
after_first [] ys a n e = let first : a ≡ a + 0 = omega arith in let count : n ≡ n - 0 = omega arith in subst (λ k. ys ≡ range_with_len k (n - 0)) first (subst (λ k. ys ≡ range_with_len a k) count e)
after_first (x ∷ xs) ys a zero e = absurd cc
after_first (x ∷ xs) ys a (suc n) e =
    let tail : xs ++ ys ≡ range_with_len (a + 1) n = cc in
    let first : a + 1 + length xs ≡ a + length (x ∷ xs) = omega arith in
    let count : n - length xs ≡ suc n - length (x ∷ xs) = omega arith in
    subst (λ k. ys ≡ range_with_len k (suc n - length (x ∷ xs))) first (subst (λ k. ys ≡ range_with_len (a + 1 + length xs) k) count (after_first xs ys (a + 1) n tail))

get_drop : {A : Type 0} (xs : List A) (i j : ℕ) → slice_get (drop i xs) j ≡ slice_get xs (i + j)
get_drop xs zero j = ap (slice_get xs) (omega arith)
get_drop [] (suc i) j = refl
get_drop (x ∷ xs) (suc i) j = let e : suc i + j ≡ suc (i + j) = omega arith in get_drop xs i j ∙ sym (ap (slice_get (x ∷ xs)) e)

types_zip : (f : Function) (values : List Value) (a : ℕ) → ((j : ℕ) → slice_get f.values (a + j) ≡ slice_get values j) → AllZip (HasIts f) (range_with_len a (length values)) (map (λ (v : Value). v.ty) values)
types_zip f [] a at = tt
types_zip f (v ∷ rest) a at = (
  ap (λ o. option_map_or (λ (x : Value). x.ty) o (Ty.Int 1)) (ap (slice_get f.values) (sym (add-zero a)) ∙ at 0),
  types_zip f rest (a + 1) (λ j. let e : a + 1 + j ≡ a + suc j = omega arith in ap (slice_get f.values) e ∙ at (suc j)),
)

length_drop : {A : Type 0} (xs : List A) (i : ℕ) → length (drop i xs) ≡ length xs - i
length_drop xs zero = omega arith
length_drop [] (suc i) = omega arith
length_drop (x ∷ xs) (suc i) = omega (arith, length_drop xs i)

length_map : {A B : Type 0} (g : A → B) (xs : List A) → length (map g xs) ≡ length xs
length_map g [] = refl
length_map g (x ∷ xs) = ap suc (length_map g xs)

results_zip : (f : Function) → IsPrintable f → AllZip (HasIts f) (flat_map block_ids f.blocks) (flat_map block_types f.blocks)
results_zip f printable =
    let params : List ℕ = map (λ p. p.value.0) f.params in
    let count : length params ≡ length f.params = length_map (λ p. p.value.0) f.params in
    let after : flat_map block_ids f.blocks ≡ range_with_len (0 + length params) (length f.values - length params) = after_first params (flat_map block_ids f.blocks) 0 (length f.values) printable.ids in
    let left : length (drop (length f.params) f.values) ≡ length f.values - length params = omega (arith, length_drop f.values (length f.params), count) in
    let start : 0 + length params ≡ length f.params = omega (arith, count) in
    let ids : flat_map block_ids f.blocks ≡ range_with_len (length f.params) (length (drop (length f.params) f.values)) =
    subst (λ k. flat_map block_ids f.blocks ≡ range_with_len (length f.params) k) (sym left) (subst (λ k. flat_map block_ids f.blocks ≡ range_with_len k (length f.values - length params)) start after) in
    let zip = types_zip f (drop (length f.params) f.values) (length f.params) (λ j. sym (get_drop f.values (length f.params) j)) in
    subst (λ l. AllZip (HasIts f) l (flat_map block_types f.blocks)) (sym ids) (subst (λ l. AllZip (HasIts f) (range_with_len (length f.params) (length (drop (length f.params) f.values))) l) printable.types.results zip)

-- ---- the type of a result

some_result : (f : Function) (o : Option ValueId) (op : Op) (v : ValueId) (ids : List ℕ) (types : List Ty) → o ≡ Some v →
    AllZip (HasIts f) (cons_option (id_in o) ids) (cons_option (type_in o op) types) → name_type f v.0 ≡ op_type op
some_result f None op v ids types e zip = absurd (cc)
some_result f (Some r) op v ids types e zip = subst (λ (u : ValueId). name_type f u.0 ≡ op_type op) (same_Some r v e) zip.0

type_among : (f : Function) (insts : List Inst) (i : ℕ) (inst : Inst) (v : ValueId) → AllZip (HasIts f) (inst_ids insts) (inst_types insts) →
    slice_get insts i ≡ Some inst → inst.result ≡ Some v → name_type f v.0 ≡ op_type inst.op
type_among f [] i inst v zip there is = absurd (cc)
type_among f (j ∷ rest) zero inst v zip there is =
    subst (λ (k : Inst). k.result ≡ Some v → name_type f v.0 ≡ op_type k.op) (same_Some j inst there)
    (λ e. some_result f j.result j.op v (inst_ids rest) (inst_types rest) e zip) is
type_among f (j ∷ rest) (suc i) inst v zip there is =
    type_among f rest i inst v (rest_zips f j.result j.op (inst_ids rest) (inst_types rest) zip) there is

phi_among : (f : Function) (phis : List Phi) (j : ℕ) (phi : Phi) → AllZip (HasIts f) (map (λ (p : Phi). p.result.0) phis) (map (λ (p : Phi). Ty.Int p.width) phis) →
    slice_get phis j ≡ Some phi → name_type f phi.result.0 ≡ Ty.Int phi.width
phi_among f [] j phi zip there = absurd (cc)
phi_among f (p ∷ rest) zero phi zip there = subst (λ (k : Phi). name_type f k.result.0 ≡ Ty.Int k.width) (same_Some p phi there) zip.0
phi_among f (p ∷ rest) (suc j) phi zip there = phi_among f rest j phi zip.1 there

zip_of_block : (f : Function) (blocks : List Block) (b : ℕ) (block : Block) → AllZip (HasIts f) (flat_map block_ids blocks) (flat_map block_types blocks) →
    slice_get blocks b ≡ Some block → AllZip (HasIts f) (block_ids block) (block_types block)
zip_of_block f [] b block zip there = absurd (cc)
zip_of_block f (c ∷ rest) zero block zip there =
    subst (λ k. AllZip (HasIts f) (block_ids k) (block_types k)) (same_Some c block there)
    (zip_first f (block_ids c) (flat_map block_ids rest) (block_types c) (flat_map block_types rest) (block_lengths c) zip)
zip_of_block f (c ∷ rest) (suc b) block zip there =
    zip_of_block f rest b block (zip_second f (block_ids c) (flat_map block_ids rest) (block_types c) (flat_map block_types rest) (block_lengths c) zip) there

pub line_type : (f : Function) (b : ℕ) (block : Block) (i : ℕ) (inst : Inst) (v : ValueId) → IsPrintable f → IsLine f b block i inst → inst.result ≡ Some v →
    name_type f v.0 ≡ op_type inst.op
line_type f b block i inst v printable line is =
    let zip = zip_of_block f f.blocks b block (results_zip f printable) line.there in
    type_among f block.insts i inst v
    (zip_second f (map (λ (p : Phi). p.result.0) block.phis) (inst_ids block.insts) (map (λ (p : Phi). Ty.Int p.width) block.phis) (inst_types block.insts) (phi_lengths block.phis) zip)
    line.stands is

pub phi_type : (f : Function) (b : ℕ) (block : Block) (j : ℕ) (phi : Phi) → IsPrintable f → slice_get f.blocks b ≡ Some block → slice_get block.phis j ≡ Some phi →
    name_type f phi.result.0 ≡ Ty.Int phi.width
phi_type f b block j phi printable there stands =
    let zip = zip_of_block f f.blocks b block (results_zip f printable) there in
    phi_among f block.phis j phi
    (zip_first f (map (λ (p : Phi). p.result.0) block.phis) (inst_ids block.insts) (map (λ (p : Phi). Ty.Int p.width) block.phis) (inst_types block.insts) (phi_lengths block.phis) zip)
    stands
