-- The equations of a function that some text reads as, and that is well typed, are typed.
use Rattle.std.proofs.Common.{◌≡◌, ◌≤◌, ◌+◌, ◌-◌, ℕ, zero, suc, Bool, true, false, not, if◌then◌else◌, Option, Some, None, List, [], ◌∷◌, ◌++◌, map, length, take, drop, All, slice_get, refl, sym, ◌∙◌, ap, subst, arith, eqb-true, add-zero}
use Rattle.std.specs.Option.{ForSome, option_map_or}
use Rattle.std.specs.List.{AllZip, cons_option, flat_map, range_with_len}
use Rattle.std.proofs.lemmas.List.Elements.{All-head, All-tail}
use Rattle.vfa_ir.specs.declared.operations.Op.{Op}
use Rattle.vfa_ir.specs.declared.operations.Ty.{Ty}
use Rattle.vfa_ir.specs.declared.operations.ValueId.{ValueId}
use Rattle.vfa_ir.specs.declared.functions.Block.{Block}
use Rattle.vfa_ir.specs.declared.functions.Function.{Function}
use Rattle.vfa_ir.specs.declared.functions.Inst.{Inst}
use Rattle.vfa_ir.specs.declared.functions.Phi.{Phi}
use Rattle.vfa_ir.specs.declared.functions.Value.{Value}
use Rattle.vfa_ir.specs.Printable.{IsPrintable, PrintableOp, op_type, block_ids, inst_ids, block_types, inst_types}
use Rattle.vfa_ir.specs.Typed.{Typed, TypedOp}
use Rattle.vfa_mean.specs.Moments.{is_call}
use Rattle.vfa_cond.specs.Conditions.{name_type, HasTypedEquations}
use Rattle.vfa_cond.specs.Equations.{is_result, is_definition, equation_among, or_else, equation_in}
use Rattle.vfa_cond.specs.TypedLines.{IsTypedLine}
use Rattle.vfa_cond.proofs.Fitting.{and_second}

-- ---- what holds of all instructions holds of the one that an equation is read from

among : (P : Op → Type 0) (v : ℕ) (op : Op) (insts : List Inst) → All (λ (i : Inst). P i.op) insts → equation_among v insts ≡ Some op → P op
among P v op [] all e = absurd cc
among P v op (i ∷ rest) all e = at (is_definition v i) e (among P v op rest (All-tail (λ (j : Inst). P j.op) i rest all))
  where
    at : (b : Bool) → (if b then Some i.op else equation_among v rest) ≡ Some op → (equation_among v rest ≡ Some op → P op) → P op
    at true e later = let same : i.op ≡ op = cc in subst P same (All-head (λ (j : Inst). P j.op) i rest all)
    at false e later = later e

inside : (P : Op → Type 0) (v : ℕ) (op : Op) (blocks : List Block) → All (λ (b : Block). All (λ (i : Inst). P i.op) b.insts) blocks → equation_in v blocks ≡ Some op → P op
inside P v op [] all e = absurd cc
inside P v op (b ∷ rest) all e =
    at (equation_among v b.insts) refl e (inside P v op rest (All-tail (λ (c : Block). All (λ (i : Inst). P i.op) c.insts) b rest all))
  where
    here : All (λ (i : Inst). P i.op) b.insts
    here = All-head (λ (c : Block). All (λ (i : Inst). P i.op) c.insts) b rest all

    at : (o : Option Op) → equation_among v b.insts ≡ o → or_else o (equation_in v rest) ≡ Some op → (equation_in v rest ≡ Some op → P op) → P op
    at None is e later = later e
    at (Some found) is e later = among P v op b.insts here (is ∙ e)

-- the same of a fact that speaks of the result too
given_among : (P : ℕ → Op → Type 0) (v : ℕ) (op : Op) (insts : List Inst) → All (λ (i : Inst). ForSome i.result (λ r. P r.0 i.op)) insts → equation_among v insts ≡ Some op → P v op
given_among P v op [] all e = absurd cc
given_among P v op (i ∷ rest) all e = at (is_definition v i) refl e (given_among P v op rest (All-tail (λ (j : Inst). ForSome j.result (λ r. P r.0 j.op)) i rest all))
  where
    named : (o : Option ValueId) → is_result v o ≡ true → ForSome o (λ r. P r.0 i.op) → P v i.op
    named None is some = absurd cc
    named (Some r) is some = subst (λ k. P k i.op) (eqb-true r.0 v is) (some r refl)

    at : (b : Bool) → is_definition v i ≡ b → (if b then Some i.op else equation_among v rest) ≡ Some op → (equation_among v rest ≡ Some op → P v op) → P v op
    at true is e later =
        let same : i.op ≡ op = cc in
        subst (P v) same (named i.result (and_second (not (is_call i.op)) (is_result v i.result) is) (All-head (λ (j : Inst). ForSome j.result (λ r. P r.0 j.op)) i rest all))
    at false is e later = later e

given_inside : (P : ℕ → Op → Type 0) (v : ℕ) (op : Op) (blocks : List Block) → All (λ (b : Block). All (λ (i : Inst). ForSome i.result (λ r. P r.0 i.op)) b.insts) blocks → equation_in v blocks ≡ Some op → P v op
given_inside P v op [] all e = absurd cc
given_inside P v op (b ∷ rest) all e =
    at (equation_among v b.insts) refl e (given_inside P v op rest (All-tail (λ (c : Block). All (λ (i : Inst). ForSome i.result (λ r. P r.0 i.op)) c.insts) b rest all))
  where
    here : All (λ (i : Inst). ForSome i.result (λ r. P r.0 i.op)) b.insts
    here = All-head (λ (c : Block). All (λ (i : Inst). ForSome i.result (λ r. P r.0 i.op)) c.insts) b rest all

    at : (o : Option Op) → equation_among v b.insts ≡ o → or_else o (equation_in v rest) ≡ Some op → (equation_in v rest ≡ Some op → P v op) → P v op
    at None is e later = later e
    at (Some found) is e later = given_among P v op b.insts here (is ∙ e)

pub taken_whole : {A : Type 0} (xs : List A) (i : ℕ) → length xs ≤ i → take i xs ≡ xs
taken_whole [] zero le = refl
taken_whole [] (suc i) le = refl
taken_whole (x ∷ xs) zero le = absurd (omega arith)
taken_whole (x ∷ xs) (suc i) le = ap (λ l. x ∷ l) (taken_whole xs i (omega arith))

-- where each instruction is typed, each equation is
pub lines_typed : (f : Function) → All (λ (b : Block). All (IsTypedLine f) b.insts) f.blocks → HasTypedEquations f
lines_typed f all v op e = record {
  ranges = inside (PrintableOp f) v op f.blocks (λ k d below. (λ j i within. (all k d below j i within).ranges)) e;
  operands = inside (TypedOp f) v op f.blocks (λ k d below. (λ j i within. (all k d below j i within).operands)) e;
  result = given_inside (λ u o. name_type f u ≡ op_type o) v op f.blocks (λ k d below. (λ j i within. (all k d below j i within).result)) e;
}

-- ---- ids and types side by side

-- the id has the type
abbrev pub HasIts : Function → ℕ → Ty → Type 0
HasIts f v t = name_type f v ≡ t

-- two lists that begin with lists of one length agree in both parts
pub zip_first : (f : Function) (xs ys : List ℕ) (us vs : List Ty) → length xs ≡ length us → AllZip (HasIts f) (xs ++ ys) (us ++ vs) → AllZip (HasIts f) xs us
zip_first f [] ys [] vs e zip = tt
zip_first f [] ys (u ∷ us) vs e zip = absurd (omega arith)
zip_first f (x ∷ xs) ys [] vs e zip = absurd (omega arith)
zip_first f (x ∷ xs) ys (u ∷ us) vs e zip = (zip.0, zip_first f xs ys us vs (omega arith) zip.1)

pub zip_second : (f : Function) (xs ys : List ℕ) (us vs : List Ty) → length xs ≡ length us → AllZip (HasIts f) (xs ++ ys) (us ++ vs) → AllZip (HasIts f) ys vs
zip_second f [] ys [] vs e zip = zip
zip_second f [] ys (u ∷ us) vs e zip = absurd (omega arith)
zip_second f (x ∷ xs) ys [] vs e zip = absurd (omega arith)
zip_second f (x ∷ xs) ys (u ∷ us) vs e zip = zip_second f xs ys us vs (omega arith) zip.1

inst_lengths : (insts : List Inst) → length (inst_ids insts) ≡ length (inst_types insts)
inst_lengths [] = refl
inst_lengths (i ∷ rest) = at i.result refl (inst_lengths rest)
  where
    at : (o : Option ValueId) → i.result ≡ o → length (inst_ids rest) ≡ length (inst_types rest) → length (inst_ids (i ∷ rest)) ≡ length (inst_types (i ∷ rest))
    at None e later = rw e later
    at (Some r) e later = rw e (ap suc later)

pub phi_lengths : (phis : List Phi) → length (map (λ (p : Phi). p.result.0) phis) ≡ length (map (λ (p : Phi). Ty.Int p.width) phis)
phi_lengths [] = refl
phi_lengths (p ∷ rest) = ap suc (phi_lengths rest)

length_append : {A : Type 0} (xs ys : List A) → length (xs ++ ys) ≡ length xs + length ys
length_append [] ys = omega arith
length_append (x ∷ xs) ys = omega (arith, length_append xs ys)

pub block_lengths : (b : Block) → length (block_ids b) ≡ length (block_types b)
block_lengths b =
    length_append (map (λ (p : Phi). p.result.0) b.phis) (inst_ids b.insts)
    ∙ (ap (λ k. k + length (inst_ids b.insts)) (phi_lengths b.phis)
    ∙ (ap (λ k. length (map (λ (p : Phi). Ty.Int p.width) b.phis) + k) (inst_lengths b.insts)
    ∙ sym (length_append (map (λ (p : Phi). Ty.Int p.width) b.phis) (inst_types b.insts))))

abbrev id_in : Option ValueId → Option ℕ
id_in o = elim o [ None ↦ None | Some r ↦ Some r.0 ]

abbrev type_in : Option ValueId → Op → Option Ty
type_in o op = elim o [ None ↦ None | Some _ ↦ Some (op_type op) ]

pub rest_zips : (f : Function) (o : Option ValueId) (op : Op) (ids : List ℕ) (types : List Ty) → AllZip (HasIts f) (cons_option (id_in o) ids) (cons_option (type_in o op) types) → AllZip (HasIts f) ids types
rest_zips f None op ids types zip = zip
rest_zips f (Some r) op ids types zip = zip.1

result_zips : (f : Function) (v : ℕ) (o : Option ValueId) (op : Op) (ids : List ℕ) (types : List Ty) → is_result v o ≡ true → AllZip (HasIts f) (cons_option (id_in o) ids) (cons_option (type_in o op) types) → HasIts f v (op_type op)
result_zips f v None op ids types is zip = absurd cc
result_zips f v (Some r) op ids types is zip = subst (λ k. HasIts f k (op_type op)) (eqb-true r.0 v is) zip.0

-- the result of the instruction has the type of its operation
result_among : (f : Function) (v : ℕ) (op : Op) (insts : List Inst) → AllZip (HasIts f) (inst_ids insts) (inst_types insts) → equation_among v insts ≡ Some op → HasIts f v (op_type op)
result_among f v op [] zip e = absurd cc
result_among f v op (i ∷ rest) zip e =
    at (is_definition v i) refl e (result_among f v op rest (rest_zips f i.result i.op (inst_ids rest) (inst_types rest) zip))
  where
    at : (b : Bool) → is_definition v i ≡ b → (if b then Some i.op else equation_among v rest) ≡ Some op → (equation_among v rest ≡ Some op → HasIts f v (op_type op)) → HasIts f v (op_type op)
    at true is e later =
        let same : i.op ≡ op = cc in
        subst (λ k. HasIts f v (op_type k)) same (result_zips f v i.result i.op (inst_ids rest) (inst_types rest) (and_second (not (is_call i.op)) (is_result v i.result) is) zip)
    at false is e later = later e

result_inside : (f : Function) (v : ℕ) (op : Op) (blocks : List Block) → AllZip (HasIts f) (flat_map block_ids blocks) (flat_map block_types blocks) → equation_in v blocks ≡ Some op → HasIts f v (op_type op)
result_inside f v op [] zip e = absurd cc
result_inside f v op (b ∷ rest) zip e =
    at (equation_among v b.insts) refl e
    (result_inside f v op rest (zip_second f (block_ids b) (flat_map block_ids rest) (block_types b) (flat_map block_types rest) (block_lengths b) zip))
  where
    here : AllZip (HasIts f) (block_ids b) (block_types b)
    here = zip_first f (block_ids b) (flat_map block_ids rest) (block_types b) (flat_map block_types rest) (block_lengths b) zip

    at : (o : Option Op) → equation_among v b.insts ≡ o → or_else o (equation_in v rest) ≡ Some op → (equation_in v rest ≡ Some op → HasIts f v (op_type op)) → HasIts f v (op_type op)
    at None is e later = later e
    at (Some found) is e later =
        result_among f v op b.insts
        (zip_second f (map (λ (p : Phi). p.result.0) b.phis) (inst_ids b.insts) (map (λ (p : Phi). Ty.Int p.width) b.phis) (inst_types b.insts) (phi_lengths b.phis) here) (is ∙ e)

-- ---- the ids stand in text order

after_first : (xs ys : List ℕ) (a n : ℕ) → xs ++ ys ≡ range_with_len a n → ys ≡ range_with_len (a + length xs) (n - length xs)
after_first [] ys a n e = let first : a ≡ a + 0 = omega arith in let count : n ≡ n - 0 = omega arith in subst (λ k. ys ≡ range_with_len k (n - 0)) first (subst (λ k. ys ≡ range_with_len a k) count e)
after_first (x ∷ xs) ys a zero e = absurd cc
after_first (x ∷ xs) ys a (suc n) e =
    let tail : xs ++ ys ≡ range_with_len (a + 1) n = cc in
    let first : a + 1 + length xs ≡ a + length (x ∷ xs) = omega arith in
    let count : n - length xs ≡ suc n - length (x ∷ xs) = omega arith in
    subst (λ k. ys ≡ range_with_len k (suc n - length (x ∷ xs))) first (subst (λ k. ys ≡ range_with_len (a + 1 + length xs) k) count (after_first xs ys (a + 1) n tail))

get_drop : {A : Type 0} (xs : List A) (i j : ℕ) → slice_get (drop i xs) j ≡ slice_get xs (i + j)
get_drop xs zero j = ap (slice_get xs) (omega arith)
get_drop [] (suc i) j = refl
get_drop (x ∷ xs) (suc i) j = let e : suc i + j ≡ suc (i + j) = omega arith in get_drop xs i j ∙ sym (ap (slice_get (x ∷ xs)) e)

types_zip : (f : Function) (values : List Value) (a : ℕ) → ((j : ℕ) → slice_get f.values (a + j) ≡ slice_get values j) → AllZip (HasIts f) (range_with_len a (length values)) (map (λ (v : Value). v.ty) values)
types_zip f [] a at = tt
types_zip f (v ∷ rest) a at = (
  ap (λ o. option_map_or (λ (x : Value). x.ty) o (Ty.Int 1)) (ap (slice_get f.values) (sym (add-zero a)) ∙ at 0),
  types_zip f rest (a + 1) (λ j. let e : a + 1 + j ≡ a + suc j = omega arith in ap (slice_get f.values) e ∙ at (suc j)),
)

length_drop : {A : Type 0} (xs : List A) (i : ℕ) → length (drop i xs) ≡ length xs - i
length_drop xs zero = omega arith
length_drop [] (suc i) = omega arith
length_drop (x ∷ xs) (suc i) = omega (arith, length_drop xs i)

length_map : {A B : Type 0} (g : A → B) (xs : List A) → length (map g xs) ≡ length xs
length_map g [] = refl
length_map g (x ∷ xs) = ap suc (length_map g xs)

pub results_zip : (f : Function) → IsPrintable f → AllZip (HasIts f) (flat_map block_ids f.blocks) (flat_map block_types f.blocks)
results_zip f printable =
    let params : List ℕ = map (λ p. p.value.0) f.params in
    let count : length params ≡ length f.params = length_map (λ p. p.value.0) f.params in
    let after : flat_map block_ids f.blocks ≡ range_with_len (0 + length params) (length f.values - length params) = after_first params (flat_map block_ids f.blocks) 0 (length f.values) printable.ids in
    let left : length (drop (length f.params) f.values) ≡ length f.values - length params = omega (arith, length_drop f.values (length f.params), count) in
    let start : 0 + length params ≡ length f.params = omega (arith, count) in
    let ids : flat_map block_ids f.blocks ≡ range_with_len (length f.params) (length (drop (length f.params) f.values)) =
    subst (λ k. flat_map block_ids f.blocks ≡ range_with_len (length f.params) k) (sym left) (subst (λ k. flat_map block_ids f.blocks ≡ range_with_len k (length f.values - length params)) start after) in
    let zip = types_zip f (drop (length f.params) f.values) (length f.params) (λ j. sym (get_drop f.values (length f.params) j)) in
    subst (λ l. AllZip (HasIts f) l (flat_map block_types f.blocks)) (sym ids) (subst (λ l. AllZip (HasIts f) (range_with_len (length f.params) (length (drop (length f.params) f.values))) l) printable.types.results zip)

pub typed_equations : (f : Function) → IsPrintable f → Typed f → HasTypedEquations f
typed_equations f printable typed v op e = record {
  ranges = inside (PrintableOp f) v op f.blocks (λ k d below. (λ j i within. ((printable.blocks k d below).insts j i within).op)) e;
  operands = inside (TypedOp f) v op f.blocks (λ k d below. (typed k d below).instructions) e;
  result = result_inside f v op f.blocks (results_zip f printable) e;
}
