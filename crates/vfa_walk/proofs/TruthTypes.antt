-- Types in a function that some text reads as and that is well typed: of parameters, of results and of operands.
use Rattle.std.proofs.Common.{◌≡◌, ◌≤◌, ◌+◌, ℕ, zero, suc, false, Option, Some, None, List, [], ◌∷◌, ◌++◌, map, length, take, All, slice_get, refl, sym, ◌∙◌, ap, subst, arith, lit≤}
use Rattle.std.specs.Option.{option_map_or}
use Rattle.std.specs.List.{AllZip, AllByRecursion, cons_option, flat_map, range_with_len}
use Rattle.std.proofs.lemmas.List.Elements.{All-head, All-tail}
use Rattle.std.proofs.lemmas.Option.{same_Some}
use Rattle.vfa_ir.specs.declared.operations.Op.{Op}
use Rattle.vfa_ir.specs.declared.operations.Operand.{Operand}
use Rattle.vfa_ir.specs.declared.operations.Ty.{Ty}
use Rattle.vfa_ir.specs.declared.operations.ValueId.{ValueId}
use Rattle.vfa_ir.specs.declared.functions.Block.{Block}
use Rattle.vfa_ir.specs.declared.functions.Function.{Function}
use Rattle.vfa_ir.specs.declared.functions.Inst.{Inst}
use Rattle.vfa_ir.specs.declared.functions.Param.{Param}
use Rattle.vfa_ir.specs.declared.functions.Phi.{Phi}
use Rattle.vfa_ir.specs.declared.functions.Value.{Value}
use Rattle.vfa_ir.specs.Grammar.{IsWidth as IsWrittenWidth}
use Rattle.vfa_ir.specs.Printable.{IsPrintable, PrintableOp, PrintableInst, PrintableBlock, IsOperand, IsIntegerType, op_type, block_ids, inst_ids, block_types, inst_types}
use Rattle.vfa_ir.specs.Typed.{Typed, TypedOp, TypedInst, TypedBlock, IsOfType}
use Rattle.vfa_word.specs.Numbers.{IsWidth}
use Rattle.vfa_mean.specs.Moments.{is_call, IsLine}
use Rattle.vfa_mean.specs.Operands.{IsOperation}
use Rattle.vfa_mean.specs.Outcomes.{type_of}
use Rattle.vfa_values.specs.Conditions.{IsType}
use Rattle.vfa_cond.specs.Conditions.{name_type, IsNumberOperand}
use Rattle.vfa_cond.proofs.Accepted.{HasIts, results_zip, zip_first, zip_second, rest_zips, block_lengths, phi_lengths}
use Rattle.vfa_cond.proofs.Fitting.{bit_width}

pub written_width : (w : ℕ) → IsWrittenWidth w → IsWidth w
written_width w h = record { least = h.least; most = h.most }

-- ---- what holds of all holds of each

pub each_of : {A : Type 0} (P : A → Type 0) (xs : List A) (i : ℕ) (x : A) → All P xs → slice_get xs i ≡ Some x → P x
each_of P [] i x all e = absurd cc
each_of P (y ∷ xs) zero x all e = subst P (same_Some y x e) (All-head P y xs all)
each_of P (y ∷ xs) (suc i) x all e = each_of P xs i x (All-tail P y xs all) e

-- ---- types of results

block_zips : (f : Function) (blocks : List Block) (b : ℕ) (block : Block) → slice_get blocks b ≡ Some block →
    AllZip (HasIts f) (flat_map block_ids blocks) (flat_map block_types blocks) → AllZip (HasIts f) (block_ids block) (block_types block)
block_zips f [] b block there zip = absurd cc
block_zips f (c ∷ rest) zero block there zip =
    subst (λ (d : Block). AllZip (HasIts f) (block_ids d) (block_types d)) (same_Some c block there)
    (zip_first f (block_ids c) (flat_map block_ids rest) (block_types c) (flat_map block_types rest) (block_lengths c) zip)
block_zips f (c ∷ rest) (suc b) block there zip =
    block_zips f rest b block there (zip_second f (block_ids c) (flat_map block_ids rest) (block_types c) (flat_map block_types rest) (block_lengths c) zip)

line_zips : (f : Function) (insts : List Inst) (i : ℕ) (inst : Inst) (r : ValueId) → slice_get insts i ≡ Some inst → inst.result ≡ Some r →
    AllZip (HasIts f) (inst_ids insts) (inst_types insts) → name_type f r.0 ≡ op_type inst.op
line_zips f [] i inst r stands e zip = absurd cc
line_zips f (j ∷ rest) zero inst r stands e zip =
    let same : j ≡ inst = same_Some j inst stands in
    at j.result (ap (λ (k : Inst). k.result) same ∙ e) zip ∙ ap (λ (k : Inst). op_type k.op) same
  where
    at : (o : Option ValueId) → o ≡ Some r →
        AllZip (HasIts f) (cons_option (elim o [ None ↦ None | Some v ↦ Some v.0 ]) (inst_ids rest)) (cons_option (elim o [ None ↦ None | Some v ↦ Some (op_type j.op) ]) (inst_types rest)) →
        name_type f r.0 ≡ op_type j.op
    at None e zip = absurd cc
    at (Some s) e zip = let same : s ≡ r = same_Some s r e in subst (λ (t : ValueId). name_type f t.0 ≡ op_type j.op) same zip.0
line_zips f (j ∷ rest) (suc i) inst r stands e zip = line_zips f rest i inst r stands e (rest_zips f j.result j.op (inst_ids rest) (inst_types rest) zip)

phi_zips : (f : Function) (phis : List Phi) → AllZip (HasIts f) (map (λ (p : Phi). p.result.0) phis) (map (λ (p : Phi). Ty.Int p.width) phis) →
    AllByRecursion (λ (p : Phi). name_type f p.result.0 ≡ Ty.Int p.width) phis
phi_zips f [] zip = tt
phi_zips f (p ∷ rest) zip = (zip.0, phi_zips f rest zip.1)

module _ (f : Function) (printable : IsPrintable f) where
  whole_zips : (b : ℕ) (block : Block) → slice_get f.blocks b ≡ Some block → AllZip (HasIts f) (block_ids block) (block_types block)
  whole_zips b block there = block_zips f f.blocks b block there (results_zip f printable)

  -- the result of an instruction, a call or another, is of the operation's type
  pub line_type : (b i : ℕ) (block : Block) (inst : Inst) (r : ValueId) → IsLine f b block i inst → inst.result ≡ Some r → name_type f r.0 ≡ op_type inst.op
  line_type b i block inst r line e =
      line_zips f block.insts i inst r line.stands e
      (zip_second f (map (λ (p : Phi). p.result.0) block.phis) (inst_ids block.insts) (map (λ (p : Phi). Ty.Int p.width) block.phis) (inst_types block.insts) (phi_lengths block.phis)
      (whole_zips b block line.there))

  -- that of a phi of its width
  pub phi_types : (b : ℕ) (block : Block) → slice_get f.blocks b ≡ Some block → AllByRecursion (λ (p : Phi). name_type f p.result.0 ≡ Ty.Int p.width) block.phis
  phi_types b block there =
      phi_zips f block.phis
      (zip_first f (map (λ (p : Phi). p.result.0) block.phis) (inst_ids block.insts) (map (λ (p : Phi). Ty.Int p.width) block.phis) (inst_types block.insts) (phi_lengths block.phis)
      (whole_zips b block there))

  -- ---- parameters

  get_take : {A : Type 0} (xs : List A) (n k : ℕ) (x : A) → suc k ≤ n → slice_get xs k ≡ Some x → slice_get (take n xs) k ≡ Some x
  get_take [] n k x less e = absurd cc
  get_take (y ∷ xs) zero k x less e = absurd (omega arith)
  get_take (y ∷ xs) (suc n) zero x less e = e
  get_take (y ∷ xs) (suc n) (suc k) x less e = get_take xs n k x (omega arith) e

  integer_at : (k : ℕ) → suc k ≤ length f.params → IsIntegerType (name_type f k)
  integer_at k less = of (slice_get f.values k) refl
    where
      of : (o : Option Value) → slice_get f.values k ≡ o → IsIntegerType (option_map_or (λ (value : Value). value.ty) o (Ty.Int 1))
      of None e = record { least = omega arith; most = lit≤ tt }
      of (Some v) e = each_of (λ (v : Value). IsIntegerType v.ty) (take (length f.params) f.values) k v printable.types.parameters (get_take f.values (length f.params) k v less e)

  integers_from : (params : List Param) (a n : ℕ) (ids : List ℕ) → map (λ p. p.value.0) params ++ ids ≡ range_with_len a n → a + length params ≡ length f.params →
      AllByRecursion (λ (p : Param). IsIntegerType (type_of f p.value)) params
  integers_from [] a n ids e count = tt
  integers_from (p ∷ rest) a zero ids e count = absurd cc
  integers_from (p ∷ rest) a (suc n) ids e count =
      let first : p.value.0 ≡ a = cc in
      let later : map (λ p. p.value.0) rest ++ ids ≡ range_with_len (a + 1) n = cc in
      (subst (λ k. IsIntegerType (name_type f k)) (sym first) (integer_at a (omega arith)), integers_from rest (a + 1) n ids later (omega arith))

  -- each parameter is of an integer type
  pub parameters_are_integers : AllByRecursion (λ (p : Param). IsIntegerType (type_of f p.value)) f.params
  parameters_are_integers = integers_from f.params 0 (length f.values) (flat_map block_ids f.blocks) printable.ids (omega arith)

pub integer_is_type : (t : Ty) → IsIntegerType t → IsType t
integer_is_type (Ty.Int w) is = written_width w is
integer_is_type (Ty.Pair w) is = absurd is

-- ---- operands

-- the widths and literals of the operation lie in their ranges, its operands are of the types that it writes
pub record IsTypedOp (f : Function) (op : Op) : Type 0 where
  pub ranges : PrintableOp f op
  pub operands : TypedOp f op

pub line_is_typed : (f : Function) → IsPrintable f → Typed f → (b i : ℕ) (block : Block) (inst : Inst) → IsLine f b block i inst → IsTypedOp f inst.op
line_is_typed f printable typed b i block inst line = record {
  ranges = (each_of (PrintableInst f) block.insts i inst (each_of (PrintableBlock f) f.blocks b block printable.blocks line.there).insts line.stands).op;
  operands = each_of (TypedInst f) block.insts i inst (each_of (TypedBlock f) f.blocks b block typed line.there).instructions line.stands;
}

pub number_operand : (f : Function) (w : ℕ) (x : Operand) → IsWrittenWidth w → IsOperand f w x → IsOfType f (Ty.Int w) x → IsNumberOperand f w x
number_operand f w x width range typed = record { width = written_width w width; range = range; typed = typed }

pub bit_operand : (f : Function) (x : Operand) → IsOperand f 1 x → IsOfType f (Ty.Int 1) x → IsNumberOperand f 1 x
bit_operand f x range typed = record { width = bit_width; range = range; typed = typed }

pub is_operation : (f : Function) (op : Op) → is_call op ≡ false → IsTypedOp f op → IsOperation op
is_operation f (Op.Bin bin flags w a b) n t = written_width w t.ranges.1.of_width
is_operation f (Op.Icmp pred samesign w a b) n t = written_width w t.ranges.of_width
is_operation f (Op.Select w c a b) n t = written_width w t.ranges.1.of_width
is_operation f (Op.Cast cast flags from to a) n t = (written_width from t.ranges.1, written_width to t.ranges.3, t.operands.1)
is_operation f (Op.Freeze w a) n t = written_width w t.ranges.0
is_operation f (Op.Two fun w a b) n t = written_width w t.ranges.of_width
is_operation f (Op.One fun w a strict) n t = written_width w t.ranges.0
is_operation f (Op.Over over w a b) n t = written_width w t.ranges.of_width
is_operation f (Op.Part w pair index) n t = (written_width w t.ranges.0, t.ranges.2)
is_operation f (Op.Assume c) n t = tt
is_operation f (Op.Call width place) n t = absurd cc
