-- What stands in place of an operand agrees with it on the bits that are asked for.
use Rattle.std.proofs.Common.{◌≡◌, ℕ, zero, suc, ◌^◌, ◌<◌, min, Bool, true, false, Option, Some, None, List, [], ◌∷◌, ◌++◌, flat_map, slice_get, refl, sym, ◌∙◌, ap, subst, arith, inl, inr, ◌⊎◌, bit_and, bit_or, bit_xor}
use Rattle.std.specs.Prelude.{nat_eq, if◌then◌else◌}
use Rattle.std.specs.Int.{bit_at, bit_not, w128}
use Rattle.std.specs.Int.Bits.{and_self}
use Rattle.std.proofs.lemmas.Bool.{eqb-true}
use Rattle.std.proofs.lemmas.Nat.{and_comm, or_comm, xor_comm}
use Rattle.std.proofs.lemmas.Nat.Bits.{bit_at-lt, bit_at-zero, bit_at_and, bit_at_or, bit_at_xor, bit_at_not, same_from_bits}
use Rattle.std.proofs.lemmas.Option.{same_Some}
use Rattle.vfa_dom.proofs.Bests.{digit_cases}
use Rattle.vfa_ir.specs.declared.operations.Bin.{Bin}
use Rattle.vfa_ir.specs.declared.operations.Flags.{Flags}
use Rattle.vfa_ir.specs.declared.operations.Op.{Op}
use Rattle.vfa_ir.specs.declared.operations.Operand.{Operand}
use Rattle.vfa_ir.specs.declared.operations.ValueId.{ValueId}
use Rattle.vfa_ir.specs.declared.functions.Block.{Block}
use Rattle.vfa_ir.specs.declared.functions.Function.{Function}
use Rattle.vfa_ir.specs.declared.functions.Inst.{Inst}
use Rattle.vfa_mean.specs.declared.value.Val.{Val}
use Rattle.vfa_mean.specs.Meaning.{Gave, Allowed, binary}
use Rattle.vfa_mean.specs.Rows.{number_unless}
use Rattle.vfa_mean.specs.FreshOperands.{IsResultAt}
use Rattle.vfa_mean.specs.Moments.{is_call}
use Rattle.vfa_demand.specs.Masks.{IsPartOf}
use Rattle.vfa_demand.specs.Rows.{let_through, left_open, first_of_binary}
use Rattle.vfa_bits.specs.Standing.{Beside, beside_literal, leaves_bits, if_leaves, same_bits_operand, is_result, operation_among, operation_of, replacement}
use Rattle.vfa_bits.proofs.SameBits.{SameOn, on_below}
use Rattle.vfa_bits.proofs.Agreeing.{AgreesOn}

-- ---- an operation by a literal that leaves bits as they are

part_at : (a b i : ℕ) → bit_and a b ≡ a → bit_at a i ≡ 1 → bit_at b i ≡ 1
part_at a b i part on =
    let law : min (bit_at a i) (bit_at b i) ≡ bit_at a i = sym (bit_at_and a b i) ∙ ap (λ n. bit_at n i) part in
    let small = bit_at-lt b i in
    omega arith

none_at : (a b i : ℕ) → bit_and a b ≡ 0 → bit_at a i ≡ 1 → bit_at b i ≡ 0
none_at a b i none on =
    let law : min (bit_at a i) (bit_at b i) ≡ 0 = sym (bit_at_and a b i) ∙ ap (λ n. bit_at n i) none ∙ bit_at-zero i in
    let small = bit_at-lt b i in
    omega arith

and_leaves : (d c x : ℕ) → bit_and d c ≡ d → SameOn d (bit_and x c) x
and_leaves d c x part = record {
  at = λ i on. bit_at_and x c i ∙ (let k = part_at d c i part on in let small = bit_at-lt x i in omega arith);
}

or_leaves : (d c x : ℕ) → bit_and d c ≡ 0 → SameOn d (bit_or x c) x
or_leaves d c x none = record {
  at = λ i on. bit_at_or x c i ∙ (let k = none_at d c i none on in omega arith);
}

xor_leaves : (d c x : ℕ) → bit_and d c ≡ 0 → SameOn d (bit_xor x c) x
xor_leaves d c x none = record {
  at = λ i on. bit_at_xor x c i ∙ (let k = none_at d c i none on in let small = bit_at-lt x i in omega arith);
}

gave_poison : (d : ℕ) (r u : Val) → Gave r ≡ Gave Val.Poison → AgreesOn d r u
gave_poison d r u e = let is : Val.Poison ≡ r = cc in subst (λ v. AgreesOn d v u) is tt

gave_number : (d n x : ℕ) (r : Val) → SameOn d n x → Gave r ≡ Gave (Val.Number n) → AgreesOn d r (Val.Number x)
gave_number d n x r same e = let is : Val.Number n ≡ r = cc in subst (λ v. AgreesOn d v (Val.Number x)) is same

unless_number : (d n x : ℕ) (broken : Bool) (r : Val) → SameOn d n x → Allowed (number_unless broken n) (Gave r) → AgreesOn d r (Val.Number x)
unless_number d n x true r same e = gave_poison d r (Val.Number x) e
unless_number d n x false r same e = gave_number d n x r same e

-- the result agrees with the operand beside the literal, which is the second operand, or the first
pub leaves_first : (bin : Bin) (flags : Flags) (w d c : ℕ) (u r : Val) → leaves_bits bin d c ≡ true → Allowed (binary bin flags w u (Val.Number c)) (Gave r) → AgreesOn d r u
leaves_first Bin.And flags w d c Val.Poison r l e = gave_poison d r Val.Poison e
leaves_first Bin.And flags w d c (Val.Pair x o) r l e = gave_poison d r (Val.Pair x o) e
leaves_first Bin.And flags w d c (Val.Number x) r l e = gave_number d (bit_and x c) x r (and_leaves d c x (eqb-true (bit_and d c) d l)) e
leaves_first Bin.Or flags w d c Val.Poison r l e = gave_poison d r Val.Poison e
leaves_first Bin.Or flags w d c (Val.Pair x o) r l e = gave_poison d r (Val.Pair x o) e
leaves_first Bin.Or flags w d c (Val.Number x) r l e = unless_number d (bit_or x c) x _ r (or_leaves d c x (eqb-true (bit_and d c) 0 l)) e
leaves_first Bin.Xor flags w d c Val.Poison r l e = gave_poison d r Val.Poison e
leaves_first Bin.Xor flags w d c (Val.Pair x o) r l e = gave_poison d r (Val.Pair x o) e
leaves_first Bin.Xor flags w d c (Val.Number x) r l e = gave_number d (bit_xor x c) x r (xor_leaves d c x (eqb-true (bit_and d c) 0 l)) e
leaves_first Bin.Add flags w d c u r l e = absurd (cc)
leaves_first Bin.Sub flags w d c u r l e = absurd (cc)
leaves_first Bin.Mul flags w d c u r l e = absurd (cc)
leaves_first Bin.Shl flags w d c u r l e = absurd (cc)
leaves_first Bin.Udiv flags w d c u r l e = absurd (cc)
leaves_first Bin.Sdiv flags w d c u r l e = absurd (cc)
leaves_first Bin.Lshr flags w d c u r l e = absurd (cc)
leaves_first Bin.Ashr flags w d c u r l e = absurd (cc)
leaves_first Bin.Urem flags w d c u r l e = absurd (cc)
leaves_first Bin.Srem flags w d c u r l e = absurd (cc)

pub leaves_second : (bin : Bin) (flags : Flags) (w d c : ℕ) (u r : Val) → leaves_bits bin d c ≡ true → Allowed (binary bin flags w (Val.Number c) u) (Gave r) → AgreesOn d r u
leaves_second Bin.And flags w d c Val.Poison r l e = gave_poison d r Val.Poison e
leaves_second Bin.And flags w d c (Val.Pair x o) r l e = gave_poison d r (Val.Pair x o) e
leaves_second Bin.And flags w d c (Val.Number x) r l e =
    gave_number d (bit_and c x) x r (subst (λ n. SameOn d n x) (and_comm x c) (and_leaves d c x (eqb-true (bit_and d c) d l))) e
leaves_second Bin.Or flags w d c Val.Poison r l e = gave_poison d r Val.Poison e
leaves_second Bin.Or flags w d c (Val.Pair x o) r l e = gave_poison d r (Val.Pair x o) e
leaves_second Bin.Or flags w d c (Val.Number x) r l e =
    unless_number d (bit_or c x) x _ r (subst (λ n. SameOn d n x) (or_comm x c) (or_leaves d c x (eqb-true (bit_and d c) 0 l))) e
leaves_second Bin.Xor flags w d c Val.Poison r l e = gave_poison d r Val.Poison e
leaves_second Bin.Xor flags w d c (Val.Pair x o) r l e = gave_poison d r (Val.Pair x o) e
leaves_second Bin.Xor flags w d c (Val.Number x) r l e =
    gave_number d (bit_xor c x) x r (subst (λ n. SameOn d n x) (xor_comm x c) (xor_leaves d c x (eqb-true (bit_and d c) 0 l))) e
leaves_second Bin.Add flags w d c u r l e = absurd (cc)
leaves_second Bin.Sub flags w d c u r l e = absurd (cc)
leaves_second Bin.Mul flags w d c u r l e = absurd (cc)
leaves_second Bin.Shl flags w d c u r l e = absurd (cc)
leaves_second Bin.Udiv flags w d c u r l e = absurd (cc)
leaves_second Bin.Sdiv flags w d c u r l e = absurd (cc)
leaves_second Bin.Lshr flags w d c u r l e = absurd (cc)
leaves_second Bin.Ashr flags w d c u r l e = absurd (cc)
leaves_second Bin.Urem flags w d c u r l e = absurd (cc)
leaves_second Bin.Srem flags w d c u r l e = absurd (cc)

-- all bits that are asked of the result are asked of the operand
open_whole : (d c : ℕ) → d < 2 ^ 128 → c < 2 ^ 128 → bit_and d c ≡ 0 → IsPartOf d (bit_and d (bit_not w128 c))
open_whole d c fits small none = same_from_bits (bit_and d (bit_and d (bit_not w128 c))) d (λ i.
    bit_at_and d (bit_and d (bit_not w128 c)) i ∙ ap (min (bit_at d i)) (bit_at_and d (bit_not w128 c) i) ∙ by i (digit_cases d i))
  where
    by : (i : ℕ) → (bit_at d i ≡ 0) ⊎ (bit_at d i ≡ 1) → min (bit_at d i) (min (bit_at d i) (bit_at (bit_not w128 c) i)) ≡ bit_at d i
    by i (inl off) = omega arith
    by i (inr on) = let n = bit_at_not w128 c i small (on_below d 128 i fits on) in let k = none_at d c i none on in omega arith

pub leaves_asked : (bin : Bin) (w d c : ℕ) → leaves_bits bin d c ≡ true → d < 2 ^ 128 → c < 2 ^ 128 → IsPartOf d (first_of_binary bin w (Operand.Literal c) d)
unfolding first_of_binary let_through left_open
leaves_asked Bin.And w d c l fits small = let e = eqb-true (bit_and d c) d l in ap (bit_and d) e ∙ and_self d
leaves_asked Bin.Or w d c l fits small = open_whole d c fits small (eqb-true (bit_and d c) 0 l)
leaves_asked Bin.Xor w d c l fits small = and_self d
leaves_asked Bin.Add w d c l fits small = absurd (cc)
leaves_asked Bin.Sub w d c l fits small = absurd (cc)
leaves_asked Bin.Mul w d c l fits small = absurd (cc)
leaves_asked Bin.Shl w d c l fits small = absurd (cc)
leaves_asked Bin.Udiv w d c l fits small = absurd (cc)
leaves_asked Bin.Sdiv w d c l fits small = absurd (cc)
leaves_asked Bin.Lshr w d c l fits small = absurd (cc)
leaves_asked Bin.Ashr w d c l fits small = absurd (cc)
leaves_asked Bin.Urem w d c l fits small = absurd (cc)
leaves_asked Bin.Srem w d c l fits small = absurd (cc)

-- ---- the operand beside a literal, and the instruction

pub record IsBeside (op : Op) (d : ℕ) (x : Operand) : Type 0 where
  pub bin : Bin
  pub flags : Flags
  pub width : ℕ
  pub a : Operand
  pub b : Operand
  pub literal : ℕ
  pub op_is : op ≡ Op.Bin bin flags width a b
  pub leaves : leaves_bits bin d literal ≡ true
  pub sides : ((a ≡ x) × (b ≡ Operand.Literal literal)) ⊎ ((a ≡ Operand.Literal literal) × (b ≡ x))

sides_of : (a b : Operand) (s : Beside) → beside_literal a b ≡ Some s →
    ((a ≡ s.operand) × (b ≡ Operand.Literal s.literal)) ⊎ ((a ≡ Operand.Literal s.literal) × (b ≡ s.operand))
sides_of a (Operand.Literal c) s e = let k = same_Some (record { operand = a; literal = c }) s e in inl (ap (λ (t : Beside). t.operand) k, ap (λ (t : Beside). Operand.Literal t.literal) k)
sides_of (Operand.Literal c) (Operand.Value v) s e =
    let k = same_Some (record { operand = Operand.Value v; literal = c }) s e in inr (ap (λ (t : Beside). Operand.Literal t.literal) k, ap (λ (t : Beside). t.operand) k)
sides_of (Operand.Literal c) Operand.Poison s e =
    let k = same_Some (record { operand = Operand.Poison; literal = c }) s e in inr (ap (λ (t : Beside). Operand.Literal t.literal) k, ap (λ (t : Beside). t.operand) k)
sides_of (Operand.Value u) (Operand.Value v) s e = absurd (cc)
sides_of (Operand.Value u) Operand.Poison s e = absurd (cc)
sides_of Operand.Poison (Operand.Value v) s e = absurd (cc)
sides_of Operand.Poison Operand.Poison s e = absurd (cc)

beside_of : (op : Op) (d : ℕ) (x : Operand) → same_bits_operand op d ≡ Some x → IsBeside op d x
beside_of (Op.Bin bin flags w a b) d x e = by (beside_literal a b) refl e
  where
    by : (o : Option Beside) → beside_literal a b ≡ o → if_leaves bin d o ≡ Some x → IsBeside (Op.Bin bin flags w a b) d x
    by None is e = absurd (cc)
    by (Some s) is e = test (leaves_bits bin d s.literal) refl e
      where
        test : (t : Bool) → leaves_bits bin d s.literal ≡ t → (if t then Some s.operand else None) ≡ Some x → IsBeside (Op.Bin bin flags w a b) d x
        test true l e =
            let operand : s.operand ≡ x = same_Some s.operand x e in
            record {
              bin = bin;
              flags = flags;
              width = w;
              a = a;
              b = b;
              literal = s.literal;
              op_is = refl;
              leaves = l;
              sides = subst (λ y. ((a ≡ y) × (b ≡ Operand.Literal s.literal)) ⊎ ((a ≡ Operand.Literal s.literal) × (b ≡ y))) operand (sides_of a b s is);
            }
        test false l e = absurd (cc)
beside_of (Op.Icmp pred samesign w a b) d x e = absurd (cc)
beside_of (Op.Select w c a b) d x e = absurd (cc)
beside_of (Op.Cast cast flags v w a) d x e = absurd (cc)
beside_of (Op.Freeze w a) d x e = absurd (cc)
beside_of (Op.Two fun w a b) d x e = absurd (cc)
beside_of (Op.One fun w a strict) d x e = absurd (cc)
beside_of (Op.Over over w a b) d x e = absurd (cc)
beside_of (Op.Part w pair index) d x e = absurd (cc)
beside_of (Op.Assume c) d x e = absurd (cc)
beside_of (Op.Call width place) d x e = absurd (cc)

-- the instruction among others whose result the name is
record IsFound (insts : List Inst) (v : ℕ) (op : Op) : Type 0 where
  place : ℕ
  inst : Inst
  result : ValueId
  there : slice_get insts place ≡ Some inst
  named : inst.result ≡ Some result
  is_name : result.0 ≡ v
  op_is : inst.op ≡ op

found_among : (insts : List Inst) (v : ℕ) (op : Op) → operation_among v insts ≡ Some op → IsFound insts v op
found_among [] v op e = absurd (cc)
found_among (i ∷ rest) v op e = by i.result refl e (found_among rest v op)
  where
    later : IsFound rest v op → IsFound (i ∷ rest) v op
    later k = record { place = suc k.place; inst = k.inst; result = k.result; there = k.there; named = k.named; is_name = k.is_name; op_is = k.op_is }

    by : (o : Option ValueId) → i.result ≡ o → (if is_result v o then Some i.op else operation_among v rest) ≡ Some op →
        (operation_among v rest ≡ Some op → IsFound rest v op) → IsFound (i ∷ rest) v op
    by None is e again = later (again e)
    by (Some r) is e again = test (nat_eq r.0 v) refl e
      where
        test : (t : Bool) → nat_eq r.0 v ≡ t → (if t then Some i.op else operation_among v rest) ≡ Some op → IsFound (i ∷ rest) v op
        test true k e = record { place = zero; inst = i; result = r; there = refl; named = is; is_name = eqb-true r.0 v k; op_is = same_Some i.op op e }
        test false k e = later (again e)

get_append : {A : Type 0} (xs ys : List A) (i : ℕ) (x : A) → slice_get (xs ++ ys) i ≡ Some x → (slice_get xs i ≡ Some x) ⊎ ((j : ℕ) × (slice_get ys j ≡ Some x))
get_append [] ys i x e = inr (i, e)
get_append (y ∷ xs) ys zero x e = inl e
get_append (y ∷ xs) ys (suc i) x e = get_append xs ys i x e

record InBlocks (blocks : List Block) (inst : Inst) : Type 0 where
  number : ℕ
  block : Block
  line : ℕ
  there : slice_get blocks number ≡ Some block
  stands : slice_get block.insts line ≡ Some inst

in_blocks : (blocks : List Block) (i : ℕ) (inst : Inst) → slice_get (flat_map (λ (b : Block). b.insts) blocks) i ≡ Some inst → InBlocks blocks inst
in_blocks [] i inst e = absurd (cc)
in_blocks (c ∷ blocks) i inst e = elim (get_append c.insts (flat_map (λ (b : Block). b.insts) blocks) i inst e) [
  | inl k ↦ record { number = zero; block = c; line = i; there = refl; stands = k }
  | inr k ↦
      let r = in_blocks blocks k.0 inst k.1 in
      record { number = suc r.number; block = r.block; line = r.line; there = r.there; stands = r.stands }
]

-- a name that is replaced, its definition and the operand that takes its place
pub record IsReplaced (f : Function) (v d : ℕ) (x : Operand) : Type 0 where
  pub number : ℕ
  pub line : ℕ
  pub inst : Inst
  pub result : ValueId
  pub is_name : result.0 ≡ v
  pub at : IsResultAt f number line inst result
  pub beside : IsBeside inst.op d x

pub replaced_by : (f : Function) (v d : ℕ) (x : Operand) → replacement f v d ≡ Some x → IsReplaced f v d x
replaced_by f v d x e = by (operation_of f v) refl e
  where
    by : (o : Option Op) → operation_of f v ≡ o → elim o [ None ↦ None | Some op ↦ same_bits_operand op d ] ≡ Some x → IsReplaced f v d x
    by None is e = absurd (cc)
    by (Some op) is e =
        let k = found_among (flat_map (λ (b : Block). b.insts) f.blocks) v op is in
        let place = in_blocks f.blocks k.place k.inst k.there in
        let beside : IsBeside k.inst.op d x = subst (λ o. IsBeside o d x) (sym k.op_is) (beside_of op d x e) in
        record {
          number = place.number;
          line = place.line;
          inst = k.inst;
          result = k.result;
          is_name = k.is_name;
          at = record {
            block = place.block;
            line = record { there = place.there; stands = place.stands };
            result = k.named;
            operation = ap is_call beside.op_is;
          };
          beside = beside;
        }
