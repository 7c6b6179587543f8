-- What stands in place of an operand, read in the environment of the narrowed function, agrees with the operand on the bits that
-- are asked of it; where its name is not changed, it is allowed by it.
use Rattle.std.proofs.Common.{◌≡◌, ℕ, zero, suc, ◌^◌, ◌<◌, ◌≤◌, Bool, true, false, ◌||◌, ◌&&◌, All, Option, Some, None, List, [], ◌∷◌, ◌++◌, slice_get, refl, sym, ◌∙◌, ap, subst, subst₂, arith, pow_mono, inl, inr, bit_and}
use Rattle.std.specs.Prelude.{nat_eq, if◌then◌else◌, not}
use Rattle.std.specs.Int.Bits.{and_self}
use Rattle.std.specs.List.{AllByRecursion}
use Rattle.std.proofs.lemmas.Bool.{eqb-true}
use Rattle.std.proofs.lemmas.Nat.{and_assoc, and_comm, pow_pos}
use Rattle.std.proofs.lemmas.List.Elements.{recursion_from_All}
use Rattle.std.proofs.lemmas.Option.{same_Some}
use Rattle.vfa_ir.specs.declared.operations.Bin.{Bin}
use Rattle.vfa_ir.specs.declared.operations.Flags.{Flags}
use Rattle.vfa_ir.specs.declared.operations.Op.{Op}
use Rattle.vfa_ir.specs.declared.operations.Operand.{Operand}
use Rattle.vfa_ir.specs.declared.operations.Ty.{Ty}
use Rattle.vfa_ir.specs.declared.operations.ValueId.{ValueId}
use Rattle.vfa_ir.specs.declared.functions.Block.{Block}
use Rattle.vfa_ir.specs.declared.functions.Function.{Function}
use Rattle.vfa_ir.specs.declared.functions.Inst.{Inst}
use Rattle.vfa_ir.specs.Defined.{Defined, op_names, operand_names}
use Rattle.vfa_ir.specs.Operands.{operands_of}
use Rattle.vfa_ir.specs.Printable.{IsPrintable, IsOperand, PrintableOp, PrintableBlock, PrintableInst}
use Rattle.vfa_ir.specs.Typed.{Typed, TypedOp, TypedInst, TypedBlock}
use Rattle.vfa_ir.specs.Walks.{is_in}
use Rattle.vfa_mean.specs.declared.value.Val.{Val}
use Rattle.vfa_mean.specs.Values.{Env, AllowsValue, IsInt, operand_value}
use Rattle.vfa_mean.specs.Meaning.{Gave, Gives, Allowed, binary, done}
use Rattle.vfa_mean.specs.FreshOperands.{DefinesOnce, IsDefinedAtPlace}
use Rattle.vfa_mean.specs.Moments.{Place, IsLine}
use Rattle.vfa_mean.proofs.FreshOperands.{gives_now}
use Rattle.vfa_mean.proofs.FreshOperands.Definitions.{in_first, in_left, in_right}
use Rattle.vfa_demand.specs.Masks.{IsPartOf, Have, AreMasks, number_width, ask_of, operand_asks, result_mask}
use Rattle.vfa_demand.specs.Rows.{all_bits, needs_all, first_of_binary, second_of_binary, of_operand, asked}
use Rattle.vfa_bits.specs.Standing.{leaves_bits, replacement, standing}
use Rattle.vfa_bits.specs.Changed.{name_type, is_number, is_short, is_replaced, by_replacement, AreChanged}
use Rattle.vfa_bits.proofs.SameBits.{SameOn, same_self, same_none, same_part}
use Rattle.vfa_bits.proofs.Agreeing.{AgreesOn, agrees_part, whole_allows}
use Rattle.vfa_bits.proofs.AskedBits.{line_has, name_asked, have_right}
use Rattle.vfa_bits.proofs.Related.{Related, ForName, for_name, IsTypedOperand, has_type, operand_fits}
use Rattle.vfa_ir.specs.Printable.{op_type}
use Rattle.vfa_bits.proofs.ResultTypes.{line_type}
use Rattle.vfa_bits.proofs.StandsFor.{leaves_first, leaves_second, leaves_asked, IsBeside, IsReplaced, replaced_by}
use Rattle.vfa_bits.proofs.StillDefined.{still_defined}

-- ---- facts of each element, by its place

each_at : {A : Type 0} (P : A → Type 0) (xs : List A) (i : ℕ) (x : A) → AllByRecursion P xs → slice_get xs i ≡ Some x → P x
each_at P [] i x all e = absurd (cc)
each_at P (y ∷ xs) zero x all e = subst P (same_Some y x e) all.0
each_at P (y ∷ xs) (suc i) x all e = each_at P xs i x all.1 e

pub all_at : {A : Type 0} (P : A → Type 0) (xs : List A) (i : ℕ) (x : A) → All P xs → slice_get xs i ≡ Some x → P x
all_at P xs i x all e = each_at P xs i x (recursion_from_All P xs all) e

pub part_trans : (a b c : ℕ) → IsPartOf a b → IsPartOf b c → IsPartOf a c
part_trans a b c h k = ap (λ x. bit_and x c) (sym h) ∙ and_assoc c a b ∙ ap (bit_and a) k ∙ h

same_trans : (q x y z : ℕ) → SameOn q x y → SameOn q y z → SameOn q x z
same_trans q x y z a b = record { at = λ i on. a.at i on ∙ b.at i on }

agrees_trans : (q : ℕ) (u v w : Val) → AgreesOn q u v → AgreesOn q v w → AgreesOn q u w
agrees_trans q Val.Poison v w a b = tt
agrees_trans q (Val.Number x) (Val.Number y) (Val.Number z) a b = same_trans q x y z a b
agrees_trans q (Val.Number x) (Val.Number y) Val.Poison a b = b
agrees_trans q (Val.Number x) (Val.Number y) (Val.Pair z o) a b = b
agrees_trans q (Val.Number x) Val.Poison w a b = absurd a
agrees_trans q (Val.Number x) (Val.Pair y o) w a b = absurd a
agrees_trans q (Val.Pair x o) v w a b = subst (λ v. AgreesOn q v w) (sym a) b

-- nothing is asked: any number will do
none_agrees : (w q n : ℕ) (v : Val) → IsPartOf q 0 → IsInt w v → AgreesOn q v (Val.Number n)
none_agrees w q n Val.Poison part i = tt
none_agrees w q n (Val.Number x) part i = same_part q 0 x n part (same_none x n)
none_agrees w q n (Val.Pair x o) part i = absurd i

-- ---- what is known of a replaced name

beside_agrees : (op : Op) (d : ℕ) (x : Operand) (env : Env) (r : Val) → IsBeside op d x → Gives op env (Gave r) → AgreesOn d r (operand_value env x)
unfolding done
beside_agrees op d x env r k gives =
    let g : Gives (Op.Bin k.bin k.flags k.width k.a k.b) env (Gave r) = subst (λ o. Gives o env (Gave r)) k.op_is gives in
    elim k.sides [
      | inl s ↦ leaves_first k.bin k.flags k.width d k.literal (operand_value env x) r k.leaves
          (subst₂ (λ p q. Allowed (binary k.bin k.flags k.width (operand_value env p) (operand_value env q)) (Gave r)) s.0 s.1 g)
      | inr s ↦ leaves_second k.bin k.flags k.width d k.literal (operand_value env x) r k.leaves
          (subst₂ (λ p q. Allowed (binary k.bin k.flags k.width (operand_value env p) (operand_value env q)) (Gave r)) s.0 s.1 g)
    ]

pub beside_names : (f : Function) (op : Op) (d : ℕ) (x : Operand) (u : ℕ) → IsBeside op d x → is_in u (operand_names x) ≡ true → is_in u (op_names f op) ≡ true
beside_names f op d x u k h = subst (λ o. is_in u (op_names f o) ≡ true) (sym k.op_is) (elim k.sides [
  | inl s ↦ in_left u (operand_names k.a) (operand_names k.b) (subst (λ o. is_in u (operand_names o) ≡ true) (sym s.0) h)
  | inr s ↦ in_right u (operand_names k.a) (operand_names k.b) (subst (λ o. is_in u (operand_names o) ≡ true) (sym s.1) h)
])

-- an operation of a literal that leaves bits is no division, and asks for the bits
is_plain : (bin : Bin) (d c : ℕ) (flags : Flags) (w : ℕ) (a b : Operand) → leaves_bits bin d c ≡ true → needs_all (Op.Bin bin flags w a b) ≡ false
is_plain Bin.And d c flags w a b l = refl
is_plain Bin.Or d c flags w a b l = refl
is_plain Bin.Xor d c flags w a b l = refl
is_plain Bin.Add d c flags w a b l = absurd (cc)
is_plain Bin.Sub d c flags w a b l = absurd (cc)
is_plain Bin.Mul d c flags w a b l = absurd (cc)
is_plain Bin.Shl d c flags w a b l = absurd (cc)
is_plain Bin.Udiv d c flags w a b l = absurd (cc)
is_plain Bin.Sdiv d c flags w a b l = absurd (cc)
is_plain Bin.Lshr d c flags w a b l = absurd (cc)
is_plain Bin.Ashr d c flags w a b l = absurd (cc)
is_plain Bin.Urem d c flags w a b l = absurd (cc)
is_plain Bin.Srem d c flags w a b l = absurd (cc)

asked_second : (bin : Bin) (w d c : ℕ) → leaves_bits bin d c ≡ true → d < 2 ^ 128 → c < 2 ^ 128 → IsPartOf d (second_of_binary bin w (Operand.Literal c) d)
asked_second Bin.And w d c l fits small = leaves_asked Bin.And w d c l fits small
asked_second Bin.Or w d c l fits small = leaves_asked Bin.Or w d c l fits small
asked_second Bin.Xor w d c l fits small = leaves_asked Bin.Xor w d c l fits small
asked_second Bin.Add w d c l fits small = absurd (cc)
asked_second Bin.Sub w d c l fits small = absurd (cc)
asked_second Bin.Mul w d c l fits small = absurd (cc)
asked_second Bin.Shl w d c l fits small = absurd (cc)
asked_second Bin.Udiv w d c l fits small = absurd (cc)
asked_second Bin.Sdiv w d c l fits small = absurd (cc)
asked_second Bin.Lshr w d c l fits small = absurd (cc)
asked_second Bin.Ashr w d c l fits small = absurd (cc)
asked_second Bin.Urem w d c l fits small = absurd (cc)
asked_second Bin.Srem w d c l fits small = absurd (cc)

asked_of : (t z : Bool) (p q : ℕ) → t ≡ false → z ≡ false → (if t then p else (if z then 0 else q)) ≡ q
asked_of false false p q e f = refl
asked_of false true p q e f = absurd (cc)
asked_of true z p q e f = absurd (cc)

asked_is : (op : Op) (w place d : ℕ) → needs_all op ≡ false → nat_eq d 0 ≡ false → asked op w place d ≡ of_operand op w place d
unfolding asked
asked_is op w place d e f = asked_of (needs_all op) (nat_eq d 0) (all_bits w) (of_operand op w place d) e f

more_asked : (d p : ℕ) (masks : ℕ → ℕ) (x : Operand) → IsPartOf d p → ForName (λ u. IsPartOf p (masks u)) x → ForName (λ u. IsPartOf d (masks u)) x
more_asked d p masks (Operand.Value v) part h = part_trans d p (masks v.0) part h
more_asked d p masks (Operand.Literal c) part h = tt
more_asked d p masks Operand.Poison part h = tt

beside_asked : (f : Function) (masks : ℕ → ℕ) (op : Op) (d : ℕ) (x : Operand) → nat_eq d 0 ≡ false → d < 2 ^ 128 → PrintableOp f op → IsBeside op d x →
    Have (operand_asks op d 0 (operands_of f op)) masks → ForName (λ u. IsPartOf d (masks u)) x
unfolding of_operand
beside_asked f masks op d x some fits printable k have =
    let bin_op = Op.Bin k.bin k.flags k.width k.a k.b in
    let asks : Have (operand_asks bin_op d 0 (operands_of f bin_op)) masks = subst (λ o. Have (operand_asks o d 0 (operands_of f o)) masks) k.op_is have in
    let ranges : PrintableOp f bin_op = subst (PrintableOp f) k.op_is printable in
    let plain = is_plain k.bin d k.literal k.flags k.width k.a k.b k.leaves in
    let fits_width : k.width ≤ 128 = ranges.1.of_width.most in
    let most : 2 ^ k.width ≤ 2 ^ 128 = pow_mono fits_width in
    elim k.sides [
      | inl s ↦
          let small : k.literal < 2 ^ k.width = subst (IsOperand f k.width) s.1 ranges.1.second in
          let first = name_asked masks (asked bin_op k.width 0 d) k.a _ asks in
          let whole : IsPartOf d (first_of_binary k.bin k.width k.b d) =
          subst (λ o. IsPartOf d (first_of_binary k.bin k.width o d)) (sym s.1) (leaves_asked k.bin k.width d k.literal k.leaves fits (omega (arith, small, most))) in
          subst (ForName (λ u. IsPartOf d (masks u))) s.0
          (more_asked d (asked bin_op k.width 0 d) masks k.a (subst (IsPartOf d) (sym (asked_is bin_op k.width 0 d plain some)) whole) first)
      | inr s ↦
          let small : k.literal < 2 ^ k.width = subst (IsOperand f k.width) s.0 ranges.1.first in
          let second : ForName (λ u. IsPartOf (asked bin_op k.width 1 d) (masks u)) k.b =
          name_asked masks (asked bin_op k.width 1 d) k.b [] (have_right masks (ask_of (asked bin_op k.width 0 d) k.a) (ask_of (asked bin_op k.width 1 d) k.b ++ []) asks) in
          let whole : IsPartOf d (second_of_binary k.bin k.width k.a d) =
          subst (λ o. IsPartOf d (second_of_binary k.bin k.width o d)) (sym s.0) (asked_second k.bin k.width d k.literal k.leaves fits (omega (arith, small, most))) in
          subst (ForName (λ u. IsPartOf d (masks u))) s.1
          (more_asked d (asked bin_op k.width 1 d) masks k.b (subst (IsPartOf d) (sym (asked_is bin_op k.width 1 d plain some)) whole) second)
    ]

beside_typed : (f : Function) (op : Op) (d : ℕ) (x : Operand) → PrintableOp f op → TypedOp f op → (k : IsBeside op d x) → IsTypedOperand f k.width x
beside_typed f op d x printable typed k =
    let ranges : PrintableOp f (Op.Bin k.bin k.flags k.width k.a k.b) = subst (PrintableOp f) k.op_is printable in
    let types : TypedOp f (Op.Bin k.bin k.flags k.width k.a k.b) = subst (TypedOp f) k.op_is typed in
    elim k.sides [
      | inl s ↦ subst (IsTypedOperand f k.width) s.0 (record { ty = types.first; range = ranges.1.first })
      | inr s ↦ subst (IsTypedOperand f k.width) s.1 (record { ty = types.second; range = ranges.1.second })
    ]

-- ---- chains of replaced names

abbrev pub IsDone : Function → (ℕ → Bool) → Operand → Type 0
IsDone f used a = (u : ℕ) → is_in u (operand_names a) ≡ true → used u ≡ true

pub record Known (f : Function) (masks : ℕ → ℕ) (changed : ℕ → Bool) : Type 0 where
  pub printable : IsPrintable f
  pub typed : Typed f
  pub once : DefinesOnce f
  pub defined : Defined f
  pub are : AreMasks f masks
  pub are_changed : AreChanged f masks changed

module _ (f : Function) (masks : ℕ → ℕ) (changed used : ℕ → Bool) (known : Known f masks changed) where
  -- the operands of the instruction that defines a replaced name
  pub line_printable : (b : ℕ) (block : Block) (i : ℕ) (inst : Inst) → IsLine f b block i inst → PrintableOp f inst.op
  line_printable b block i inst line =
      (all_at (PrintableInst f) block.insts i inst (all_at (PrintableBlock f) f.blocks b block known.printable.blocks line.there).insts line.stands).op

  pub line_typed : (b : ℕ) (block : Block) (i : ℕ) (inst : Inst) → IsLine f b block i inst → TypedOp f inst.op
  line_typed b block i inst line =
      all_at (TypedInst f) block.insts i inst (all_at (TypedBlock f) f.blocks b block known.typed line.there).instructions line.stands

  replaced_typed : (v d : ℕ) (x : Operand) → (r : IsReplaced f v d x) → IsTypedOperand f r.beside.width x
  replaced_typed v d x r =
      beside_typed f r.inst.op d x (line_printable r.number r.at.block r.line r.inst r.at.line) (line_typed r.number r.at.block r.line r.inst r.at.line) r.beside

  result_asked : (o : Option ValueId) (r : ValueId) → o ≡ Some r → elim o [ None ↦ 0 | Some v ↦ masks v.0 ] ≡ masks r.0
  result_asked None r e = absurd (cc)
  result_asked (Some v) r e = ap (λ (u : ValueId). masks u.0) (same_Some v r e)

  replaced_asked : (v : ℕ) (x : Operand) → nat_eq (masks v) 0 ≡ false → IsReplaced f v (masks v) x → ForName (λ u. IsPartOf (masks v) (masks u)) x
  replaced_asked v x some r =
      let mask : result_mask masks r.inst ≡ masks v = result_asked r.inst.result r.result r.at.result ∙ ap masks r.is_name in
      let have = line_has f masks known.are r.number r.at.block r.at.line.there r.line r.inst r.at.line.stands in
      beside_asked f masks r.inst.op (masks v) x some (known.are.enough.fit v) (line_printable r.number r.at.block r.line r.inst r.at.line) r.beside
      (subst (λ m. Have (operand_asks r.inst.op m 0 (operands_of f r.inst.op)) masks) mask have)

  -- the width of the operation is that of the name
  replaced_width : (v d w : ℕ) (x : Operand) (r : IsReplaced f v d x) → name_type f v ≡ Ty.Int w → r.beside.width ≡ w
  replaced_width v d w x r e =
      let result = line_type f r.number r.at.block r.line r.inst r.result known.printable r.at.line r.at.result in
      let ty : name_type f v ≡ Ty.Int r.beside.width =
      ap (name_type f) (sym r.is_name) ∙ result ∙ ap op_type r.beside.op_is in
      cc

  module _ (place : Place) (env env' : Env) (rel : Related f masks changed used place env env') where
    abbrev pub AreDefined : Operand → Type 0
    AreDefined a = ForName (λ v. IsDefinedAtPlace f place v) a

    replaced_value : (v d : ℕ) (x : Operand) → IsReplaced f v d x → IsDefinedAtPlace f place v → AgreesOn d (env v) (operand_value env x)
    replaced_value v d x r live =
        let here : IsDefinedAtPlace f place r.result.0 = subst (IsDefinedAtPlace f place) (sym r.is_name) live in
        let gives = gives_now f known.once known.defined r.number r.line r.inst r.result place env r.at here rel.moment in
        subst (λ u. AgreesOn d (env u) (operand_value env x)) r.is_name (beside_agrees r.inst.op d x env (env r.result.0) r.beside gives)

    replaced_defined : (v d : ℕ) (x : Operand) → IsReplaced f v d x → IsDefinedAtPlace f place v → AreDefined x
    replaced_defined v d x r live =
        let here : IsDefinedAtPlace f place r.result.0 = subst (IsDefinedAtPlace f place) (sym r.is_name) live in
        for_name (λ u. IsDefinedAtPlace f place u) x (λ u h.
        still_defined f r.number r.line r.inst r.result place u known.once known.defined r.at (beside_names f r.inst.op d x u r.beside h) here)

    -- a name of its type that is not replaced
    itself_agrees : (v : ValueId) (q : ℕ) → nat_eq (masks v.0) 0 ≡ false → IsPartOf q (masks v.0) → used v.0 ≡ true → AgreesOn q (env v.0) (env' v.0)
    itself_agrees v q some part is_used = agrees_part q (masks v.0) (env v.0) (env' v.0) part (rel.tied v.0 some is_used).agrees

    nothing_agrees : (w q : ℕ) (v : ValueId) → nat_eq (masks v.0) 0 ≡ true → IsPartOf q (masks v.0) → IsTypedOperand f w (Operand.Value v) →
        AgreesOn q (env v.0) (Val.Number 0)
    nothing_agrees w q v none part typed =
        none_agrees w q 0 (env v.0) (subst (IsPartOf q) (eqb-true (masks v.0) 0 none) part) (operand_fits f env w (Operand.Value v) rel.fits typed)

    pub standing_agrees : (n w q : ℕ) (a : Operand) → IsTypedOperand f w a → AreDefined a → ForName (λ v. IsPartOf q (masks v)) a → IsDone f used (standing f masks n a) →
        AgreesOn q (operand_value env a) (operand_value env' (standing f masks n a))
    unfolding standing
    standing_agrees n w q (Operand.Literal c) typed live part is_used = same_self q c
    standing_agrees n w q Operand.Poison typed live part is_used = tt
    standing_agrees zero w q (Operand.Value v) typed live part is_used = by (nat_eq (masks v.0) 0) refl is_used
      where
        by : (t : Bool) → nat_eq (masks v.0) 0 ≡ t → IsDone f used (if t then Operand.Literal 0 else Operand.Value v) →
            AgreesOn q (env v.0) (operand_value env' (if t then Operand.Literal 0 else Operand.Value v))
        by true e is_used = nothing_agrees w q v e part typed
        by false e is_used = itself_agrees v q e part (is_used v.0 (in_first v.0 v.0 [] refl))
    standing_agrees (suc n) w q (Operand.Value v) typed live part is_used =
        by (nat_eq (masks v.0) 0) refl is_used (λ x w' t l p u. standing_agrees n w' q x t l p u)
      where
        Again : Type 0
        Again = (x : Operand) (w' : ℕ) → IsTypedOperand f w' x → AreDefined x → ForName (λ u. IsPartOf q (masks u)) x → IsDone f used (standing f masks n x) →
            AgreesOn q (operand_value env x) (operand_value env' (standing f masks n x))

        chosen : nat_eq (masks v.0) 0 ≡ false → (o : Option Operand) → replacement f v.0 (masks v.0) ≡ o →
            IsDone f used (elim o [ None ↦ Operand.Value v | Some x ↦ standing f masks n x ]) → Again →
            AgreesOn q (env v.0) (operand_value env' (elim o [ None ↦ Operand.Value v | Some x ↦ standing f masks n x ]))
        chosen e None is is_used again = itself_agrees v q e part (is_used v.0 (in_first v.0 v.0 [] refl))
        chosen e (Some x) is is_used again =
            let r = replaced_by f v.0 (masks v.0) x is in
            agrees_trans q (env v.0) (operand_value env x) (operand_value env' (standing f masks n x))
            (agrees_part q (masks v.0) (env v.0) (operand_value env x) part (replaced_value v.0 (masks v.0) x r live))
            (again x r.beside.width (replaced_typed v.0 (masks v.0) x r) (replaced_defined v.0 (masks v.0) x r live)
            (more_asked q (masks v.0) masks x part (replaced_asked v.0 x e r)) is_used)

        by : (t : Bool) → nat_eq (masks v.0) 0 ≡ t →
            IsDone f used (if t then Operand.Literal 0 else elim (replacement f v.0 (masks v.0)) [ None ↦ Operand.Value v | Some x ↦ standing f masks n x ]) → Again →
            AgreesOn q (env v.0) (operand_value env' (if t then Operand.Literal 0 else elim (replacement f v.0 (masks v.0)) [ None ↦ Operand.Value v | Some x ↦ standing f masks n x ]))
        by true e is_used again = nothing_agrees w q v e part typed
        by false e is_used again = chosen e (replacement f v.0 (masks v.0)) refl is_used again

  -- what stands for an operand has its type
  pub standing_typed : (n w : ℕ) (a : Operand) → IsTypedOperand f w a → IsTypedOperand f w (standing f masks n a)
  unfolding standing
  standing_typed n w (Operand.Literal c) typed = typed
  standing_typed n w Operand.Poison typed = typed
  standing_typed zero w (Operand.Value v) typed = zeroed_typed (nat_eq (masks v.0) 0)
    where
      zeroed_typed : (t : Bool) → IsTypedOperand f w (if t then Operand.Literal 0 else Operand.Value v)
      zeroed_typed true = record { ty = tt; range = pow_pos w }
      zeroed_typed false = typed
  standing_typed (suc n) w (Operand.Value v) typed = by (nat_eq (masks v.0) 0) (λ x t. standing_typed n w x t)
    where
      Again : Type 0
      Again = (x : Operand) → IsTypedOperand f w x → IsTypedOperand f w (standing f masks n x)

      chosen : (o : Option Operand) → replacement f v.0 (masks v.0) ≡ o → Again → IsTypedOperand f w (elim o [ None ↦ Operand.Value v | Some x ↦ standing f masks n x ])
      chosen None is again = typed
      chosen (Some x) is again =
          let r = replaced_by f v.0 (masks v.0) x is in
          let width : r.beside.width ≡ w = replaced_width v.0 (masks v.0) w x r (has_type f (Ty.Int w) v typed.ty) in
          again x (subst (λ k. IsTypedOperand f k x) width (replaced_typed v.0 (masks v.0) x r))

      by : (t : Bool) → Again → IsTypedOperand f w (if t then Operand.Literal 0 else elim (replacement f v.0 (masks v.0)) [ None ↦ Operand.Value v | Some x ↦ standing f masks n x ])
      by true again = record { ty = tt; range = pow_pos w }
      by false again = chosen (replacement f v.0 (masks v.0)) refl again

  -- ---- a name that is not changed

  pub whole_mask : (v w : ℕ) → name_type f v ≡ Ty.Int w → is_short f masks v ≡ false → IsPartOf (all_bits w) (masks v)
  whole_mask v w ty short =
      let all = all_bits (number_width (name_type f v)) in
      let whole : bit_and (masks v) (all_bits (number_width (name_type f v))) ≡ all_bits (number_width (name_type f v)) =
      eqb-true _ _ (not_short (nat_eq (bit_and (masks v) (all_bits (number_width (name_type f v)))) (all_bits (number_width (name_type f v)))) short) in
      let same = subst (λ t. bit_and (masks v) (all_bits (number_width t)) ≡ all_bits (number_width t)) ty whole in
      and_comm (all_bits w) (masks v) ∙ same
    where
      not_short : (t : Bool) → not t ≡ false → t ≡ true
      not_short true e = refl
      not_short false e = absurd (cc)

  not_replaced : (v w : ℕ) → name_type f v ≡ Ty.Int w → is_replaced f masks v ≡ false → (nat_eq (masks v) 0 ≡ false) × (replacement f v (masks v) ≡ None)
  not_replaced v w ty e = by (nat_eq (masks v) 0) (replacement f v (masks v)) (subst (λ t. (nat_eq (masks v) 0 && is_number t || elim (replacement f v (masks v)) [ None ↦ false | Some a ↦ true ]) ≡ false) ty e)
    where
      by : (t : Bool) (o : Option Operand) → (t && true || elim o [ None ↦ false | Some a ↦ true ]) ≡ false → (t ≡ false) × (o ≡ None)
      by true o h = absurd (cc)
      by false None h = (refl, refl)
      by false (Some x) h = absurd (cc)

  standing_itself : (n : ℕ) (v : ValueId) → nat_eq (masks v.0) 0 ≡ false → replacement f v.0 (masks v.0) ≡ None → standing f masks n (Operand.Value v) ≡ Operand.Value v
  unfolding standing
  standing_itself zero v e k = ap (λ t. if t then Operand.Literal 0 else Operand.Value v) e
  standing_itself (suc n) v e k =
      ap (λ t. if t then Operand.Literal 0 else elim (replacement f v.0 (masks v.0)) [ None ↦ Operand.Value v | Some x ↦ standing f masks n x ]) e
      ∙ ap (λ o. elim o [ None ↦ Operand.Value v | Some x ↦ standing f masks n x ]) k

  pub standing_literal : (n c : ℕ) → standing f masks n (Operand.Literal c) ≡ Operand.Literal c
  unfolding standing
  standing_literal n c = refl

  pub standing_allows : (place : Place) (env env' : Env) (n w : ℕ) (a : Operand) → Related f masks changed used place env env' → IsTypedOperand f w a →
      ForName (λ v. IsDefinedAtPlace f place v) a → ForName (λ v. changed v ≡ false) a → IsDone f used (standing f masks n a) →
      AllowsValue (operand_value env a) (operand_value env' (standing f masks n a))
  standing_allows place env env' n w Operand.Poison rel typed live same is_used = tt
  standing_allows place env env' n w (Operand.Literal c) rel typed live same is_used = subst (λ o. Val.Number c ≡ operand_value env' o) (sym (standing_literal n c)) refl
  standing_allows place env env' n w (Operand.Value v) rel typed live same is_used =
      by (is_short f masks v.0) refl (is_replaced f masks v.0) refl
    where
      ty : name_type f v.0 ≡ Ty.Int w
      ty = has_type f (Ty.Int w) v typed.ty

      by : (t : Bool) → is_short f masks v.0 ≡ t → (s : Bool) → is_replaced f masks v.0 ≡ s → AllowsValue (env v.0) (operand_value env' (standing f masks n (Operand.Value v)))
      by false short s e =
          whole_allows w (masks v.0) (env v.0) (operand_value env' (standing f masks n (Operand.Value v))) (whole_mask v.0 w ty short)
          (operand_fits f env w (Operand.Value v) rel.fits typed)
          (operand_fits f env' w (standing f masks n (Operand.Value v)) rel.fits' (standing_typed n w (Operand.Value v) typed))
          (standing_agrees place env env' rel n w (masks v.0) (Operand.Value v) typed live (and_self (masks v.0)) is_used)
      by true short true e = absurd (let k = (known.are_changed v.0).1 (by_replacement v.0 short e) in cc)
      by true short false e =
          let k = not_replaced v.0 w ty e in
          let itself = standing_itself n v k.0 k.1 in
          let is_used' : used v.0 ≡ true = is_used v.0 (ap (λ o. is_in v.0 (operand_names o)) itself ∙ in_first v.0 v.0 [] refl) in
          subst (λ o. AllowsValue (env v.0) (operand_value env' o)) (sym itself) ((rel.tied v.0 k.0 is_used').allows same)
