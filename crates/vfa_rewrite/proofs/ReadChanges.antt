-- The operands of an instruction after a change, and the operand that takes the place of its result.
use Rattle.std.proofs.Common.{◌≡◌, ◌⊎◌, ℕ, Bool, true, false, nat_eq, ◌&&◌, if◌then◌else◌, Option, Some, None, IsTrue, List, [], ◌∷◌, refl, inl, inr}
use Rattle.std.specs.Bool.{⊤}
use Rattle.std.specs.List.{fold, AllByRecursion}
use Rattle.std.specs.Option.{option_map}
use Rattle.vfa_ir.specs.declared.operations.Bin.{Bin}
use Rattle.vfa_ir.specs.declared.operations.Flags.{Flags}
use Rattle.vfa_ir.specs.declared.operations.Fun2.{Fun2}
use Rattle.vfa_ir.specs.declared.operations.Op.{Op}
use Rattle.vfa_ir.specs.declared.operations.Operand.{Operand}
use Rattle.vfa_ir.specs.declared.operations.Ty.{Ty}
use Rattle.vfa_ir.specs.declared.operations.ValueId.{ValueId}
use Rattle.vfa_ir.specs.declared.functions.Function.{Function}
use Rattle.vfa_ir.specs.Operands.{operands_of}
use Rattle.vfa_word.specs.declared.arith.Arith.{Arith}
use Rattle.vfa_dom.specs.Sets.{single_of}
use Rattle.vfa_wrap.specs.declared.reading.Reading.{Reading}
use Rattle.vfa_fact.specs.Cells.{in_cell}
use Rattle.vfa_mean.specs.Meaning.{operand_a, operand_b}
use Rattle.vfa_mean.specs.Rows.{overflow_arith}
use Rattle.vfa_rules.specs.declared.change.Change.{Change}
use Rattle.vfa_rules.specs.declared.change.OverflowCall.{OverflowCall}
use Rattle.vfa_rules.specs.Conditions.{is_only, stays_in_range}
use Rattle.vfa_rules.specs.Facts.{number_cell, bit_cell}
use Rattle.vfa_rules.specs.Order.{Known, Rule, PlainArithmetic, UnsignedForm, NarrowedDivision, GainedWords, FrozenAlready, AssumedAlready, KeptOperand, then_by, changed}
use Rattle.vfa_rules.specs.Rules.{replaced, first_or_second, binary_gives_first, binary_gives, extreme_gives, plain, no_wrap, plain_if, range_of_overflow, extracted, unsigned_binary, narrowed, narrow_width}
use Rattle.vfa_walk.specs.TruthReads.{may_give_way}

-- the operands of an overflow intrinsic, where there is one
abbrev pub CallIsAll : (Operand → Type 0) → Option OverflowCall → Type 0
CallIsAll P None = ⊤
CallIsAll P (Some call) = P call.a × P call.b

module _ (f : Function) (k : Known) (P : Operand → Type 0) where
  abbrev pub AreAll : Op → Type 0
  AreAll op = AllByRecursion (λ (o : Ty × Operand). P o.1) (operands_of f op)

  -- The operands after a change are among these where those before are. Only some operations are replaced, and by an operand of theirs.
  abbrev pub Stays : Op → Change → Type 0
  Stays op (Change.Keep o) = AreAll o
  Stays op (Change.Narrow o v) = AreAll o
  Stays op (Change.Uses u) = IsTrue (may_give_way op) × ((u ≡ operand_a op) ⊎ (u ≡ operand_b op))
  Stays op Change.Gone = ⊤

  abbrev later : Change → List Rule → Change
  later change rules = fold (then_by k) change rules

  -- ---- binary operations

  module _ (flags : Flags) (w : ℕ) (a b : Operand) (first : P a) (second : P b) where
    abbrev of : Bin → Op
    of bin = Op.Bin bin flags w a b

    abbrev unsigned : Bin → Op
    unsigned bin = Op.Bin (unsigned_binary bin (number_cell k.a) (number_cell k.b)) flags w a b

    narrow_way : (bin : Bin) (o : Option ℕ) → Stays (of bin) (later (narrowed (unsigned bin) o) (GainedWords ∷ (FrozenAlready ∷ (AssumedAlready ∷ []))))
    narrow_way bin None = (first, (second, tt))
    narrow_way bin (Some v) = (first, (second, tt))

    stays_way : (bin : Bin) → Stays (of bin) (later (narrowed (unsigned bin) (narrow_width k.used (number_cell k.a) (number_cell k.b) (unsigned bin))) (GainedWords ∷ (FrozenAlready ∷ (AssumedAlready ∷ []))))
    stays_way bin = narrow_way bin (narrow_width k.used (number_cell k.a) (number_cell k.b) (unsigned bin))

    kept_way : (bin : Bin) → IsTrue (may_give_way (of bin)) → (s t : Bool) →
        Stays (of bin) (later (replaced (of bin) (first_or_second s t a b)) (PlainArithmetic ∷ (UnsignedForm ∷ (NarrowedDivision ∷ (GainedWords ∷ (FrozenAlready ∷ (AssumedAlready ∷ [])))))))
    kept_way bin may true t = (may, inl refl)
    kept_way bin may false true = (may, inr refl)
    kept_way bin may false false = stays_way bin

    bin_way : (bin : Bin) → Stays (of bin) (changed k (of bin))
    unfolding changed
    bin_way Bin.And = kept_way Bin.And refl (binary_gives_first Bin.And (number_cell k.a) (number_cell k.b)) (binary_gives Bin.And (number_cell k.b) (number_cell k.a))
    bin_way Bin.Or = kept_way Bin.Or refl (binary_gives_first Bin.Or (number_cell k.a) (number_cell k.b)) (binary_gives Bin.Or (number_cell k.b) (number_cell k.a))
    bin_way Bin.Urem = kept_way Bin.Urem refl (binary_gives_first Bin.Urem (number_cell k.a) (number_cell k.b)) (binary_gives Bin.Urem (number_cell k.b) (number_cell k.a))
    bin_way Bin.Add = stays_way Bin.Add
    bin_way Bin.Sub = stays_way Bin.Sub
    bin_way Bin.Mul = stays_way Bin.Mul
    bin_way Bin.Udiv = stays_way Bin.Udiv
    bin_way Bin.Sdiv = stays_way Bin.Sdiv
    bin_way Bin.Srem = stays_way Bin.Srem
    bin_way Bin.Shl = stays_way Bin.Shl
    bin_way Bin.Lshr = stays_way Bin.Lshr
    bin_way Bin.Ashr = stays_way Bin.Ashr
    bin_way Bin.Xor = stays_way Bin.Xor

  -- ---- plain arithmetic in place of an intrinsic

  plain_way : (old : Op) (op : Arith) (flags : Flags) (w : ℕ) (a b : Operand) → P a → P b →
      Stays old (later (Change.Keep (Op.Bin (plain op) flags w a b)) (UnsignedForm ∷ (NarrowedDivision ∷ (GainedWords ∷ (FrozenAlready ∷ (AssumedAlready ∷ []))))))
  plain_way old Arith.Add flags w a b first second = (first, (second, tt))
  plain_way old Arith.Sub flags w a b first second = (first, (second, tt))
  plain_way old Arith.Mul flags w a b first second = (first, (second, tt))
  plain_way old Arith.Shl flags w a b first second = (first, (second, tt))

  module _ (w : ℕ) (a b : Operand) (first : P a) (second : P b) where
    plain_or_stays : (fun : Fun2) (t : Bool) (op : Arith) (reading : Reading) → Stays (Op.Two fun w a b)
        (later (Change.Keep (plain_if t op reading w a b (Op.Two fun w a b))) (UnsignedForm ∷ (NarrowedDivision ∷ (GainedWords ∷ (FrozenAlready ∷ (AssumedAlready ∷ []))))))
    plain_or_stays fun true op reading = plain_way (Op.Two fun w a b) op (no_wrap reading) w a b first second
    plain_or_stays fun false op reading = (first, (second, tt))

    extreme_way : (fun : Fun2) → IsTrue (may_give_way (Op.Two fun w a b)) → (later_way : Stays (Op.Two fun w a b)
        (later (Change.Keep (Op.Two fun w a b)) (PlainArithmetic ∷ (UnsignedForm ∷ (NarrowedDivision ∷ (GainedWords ∷ (FrozenAlready ∷ (AssumedAlready ∷ [])))))))) → (s t : Bool) →
        Stays (Op.Two fun w a b)
        (later (replaced (Op.Two fun w a b) (first_or_second s t a b)) (PlainArithmetic ∷ (UnsignedForm ∷ (NarrowedDivision ∷ (GainedWords ∷ (FrozenAlready ∷ (AssumedAlready ∷ [])))))))
    extreme_way fun may rest true t = (may, inl refl)
    extreme_way fun may rest false true = (may, inr refl)
    extreme_way fun may rest false false = rest

    two_way : (fun : Fun2) → Stays (Op.Two fun w a b) (changed k (Op.Two fun w a b))
    unfolding changed
    two_way Fun2.Umin = extreme_way Fun2.Umin refl (first, (second, tt)) (extreme_gives Fun2.Umin (number_cell k.a) (number_cell k.b)) (extreme_gives Fun2.Umin (number_cell k.b) (number_cell k.a))
    two_way Fun2.Umax = extreme_way Fun2.Umax refl (first, (second, tt)) (extreme_gives Fun2.Umax (number_cell k.a) (number_cell k.b)) (extreme_gives Fun2.Umax (number_cell k.b) (number_cell k.a))
    two_way Fun2.Smin = extreme_way Fun2.Smin refl (first, (second, tt)) (extreme_gives Fun2.Smin (number_cell k.a) (number_cell k.b)) (extreme_gives Fun2.Smin (number_cell k.b) (number_cell k.a))
    two_way Fun2.Smax = extreme_way Fun2.Smax refl (first, (second, tt)) (extreme_gives Fun2.Smax (number_cell k.a) (number_cell k.b)) (extreme_gives Fun2.Smax (number_cell k.b) (number_cell k.a))
    two_way Fun2.UaddSat = plain_or_stays Fun2.UaddSat (stays_in_range Arith.Add Reading.Unsigned (number_cell k.a) (number_cell k.b)) Arith.Add Reading.Unsigned
    two_way Fun2.UsubSat = plain_or_stays Fun2.UsubSat (stays_in_range Arith.Sub Reading.Unsigned (number_cell k.a) (number_cell k.b)) Arith.Sub Reading.Unsigned
    two_way Fun2.SaddSat = plain_or_stays Fun2.SaddSat (stays_in_range Arith.Add Reading.Signed (number_cell k.a) (number_cell k.b)) Arith.Add Reading.Signed
    two_way Fun2.SsubSat = plain_or_stays Fun2.SsubSat (stays_in_range Arith.Sub Reading.Signed (number_cell k.a) (number_cell k.b)) Arith.Sub Reading.Signed

  -- ---- a part of a pair

  part_way : (w : ℕ) (pair : ValueId) (index : ℕ) → P (Operand.Value pair) → CallIsAll P k.call → Stays (Op.Part w pair index) (changed k (Op.Part w pair index))
  unfolding changed
  part_way w pair index own of_call = by k.call of_call
    where
      plain_or_part : (t : Bool) (call : OverflowCall) → P call.a × P call.b → Stays (Op.Part w pair index)
          (later (Change.Keep (plain_if t (overflow_arith call.over) (range_of_overflow call.over) w call.a call.b (Op.Part w pair index))) (UnsignedForm ∷ (NarrowedDivision ∷ (GainedWords ∷ (FrozenAlready ∷ (AssumedAlready ∷ []))))))
      plain_or_part true call all = plain_way (Op.Part w pair index) (overflow_arith call.over) (no_wrap (range_of_overflow call.over)) w call.a call.b all.0 all.1
      plain_or_part false call all = (own, tt)

      by : (o : Option OverflowCall) → CallIsAll P o → Stays (Op.Part w pair index)
          (later (Change.Keep (extracted o (bit_cell k.c) w pair index)) (UnsignedForm ∷ (NarrowedDivision ∷ (GainedWords ∷ (FrozenAlready ∷ (AssumedAlready ∷ []))))))
      by None all = (own, tt)
      by (Some call) all = plain_or_part (nat_eq index 0 && is_only (bit_cell k.c) 0) call all

  -- ---- the other operations

  select_way : (w : ℕ) (c a b : Operand) → AreAll (Op.Select w c a b) → Stays (Op.Select w c a b) (changed k (Op.Select w c a b))
  unfolding changed
  select_way w c a b all = by (single_of (number_cell k.c).width (in_cell (number_cell k.c)))
    where
      arm : (t : Bool) → Stays (Op.Select w c a b) (Change.Uses (if t then b else a))
      arm true = (refl, inr refl)
      arm false = (refl, inl refl)

      by : (o : Option ℕ) → Stays (Op.Select w c a b)
          (later (replaced (Op.Select w c a b) (option_map (λ n. if nat_eq n 0 then b else a) o)) (KeptOperand ∷ (PlainArithmetic ∷ (UnsignedForm ∷ (NarrowedDivision ∷ (GainedWords ∷ (FrozenAlready ∷ (AssumedAlready ∷ []))))))))
      by None = all
      by (Some n) = arm (nat_eq n 0)

  freeze_way : (w : ℕ) (a : Operand) → AreAll (Op.Freeze w a) → Stays (Op.Freeze w a) (changed k (Op.Freeze w a))
  unfolding changed
  freeze_way w a all = by (number_cell k.a).never_poison
    where
      by : (t : Bool) → Stays (Op.Freeze w a) (later (replaced (Op.Freeze w a) (if t then Some a else None)) (AssumedAlready ∷ []))
      by true = (refl, inl refl)
      by false = all

  assume_way : (c : Operand) → AreAll (Op.Assume c) → Stays (Op.Assume c) (changed k (Op.Assume c))
  unfolding changed
  assume_way c all = by (is_only (number_cell k.c) 1)
    where
      by : (t : Bool) → Stays (Op.Assume c) (if t then Change.Gone else Change.Keep (Op.Assume c))
      by true = tt
      by false = all

  abbrev pub HasItsCall : Op → Type 0
  HasItsCall (Op.Part w pair index) = CallIsAll P k.call
  HasItsCall op = ⊤

  pub all_stay : (op : Op) → AreAll op → HasItsCall op → Stays op (changed k op)
  unfolding changed
  all_stay (Op.Bin bin flags w a b) all call = bin_way flags w a b all.0 all.1.0 bin
  all_stay (Op.Icmp pred samesign w a b) all call = all
  all_stay (Op.Select w c a b) all call = select_way w c a b all
  all_stay (Op.Cast cast flags v w a) all call = all
  all_stay (Op.Freeze w a) all call = freeze_way w a all
  all_stay (Op.Two fun w a b) all call = two_way w a b all.0 all.1.0 fun
  all_stay (Op.One fun w a strict) all call = all
  all_stay (Op.Over over w a b) all call = all
  all_stay (Op.Part w pair index) all call = part_way w pair index all.0 call
  all_stay (Op.Assume c) all call = assume_way c all
  all_stay (Op.Call w call) all has = all
