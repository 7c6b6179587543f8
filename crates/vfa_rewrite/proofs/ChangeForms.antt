-- The forms of changes: an operation of the same type on operands that may be used, a division at a lesser width, one of the
-- operands, or nothing in place of an `assume`.
use Rattle.std.proofs.Common.{◌≡◌, ◌<◌, ◌^◌, ℕ, ◌&&◌, Bool, true, false, nat_eq, nat_lt, if◌then◌else◌, Option, Some, None, List, [], ◌∷◌, refl, sym, ap, subst, inl, inr, arith, find}
use Rattle.std.proofs.lemmas.Bool.{ltb-true}
use Rattle.std.specs.Option.{ForSome, option_map}
use Rattle.std.specs.List.{fold}
use Rattle.vfa_ir.specs.declared.operations.Bin.{Bin}
use Rattle.vfa_ir.specs.declared.operations.Cast.{Cast}
use Rattle.vfa_ir.specs.declared.operations.Flags.{Flags}
use Rattle.vfa_ir.specs.declared.operations.Fun2.{Fun2}
use Rattle.vfa_ir.specs.declared.operations.Op.{Op}
use Rattle.vfa_ir.specs.declared.operations.Operand.{Operand}
use Rattle.vfa_ir.specs.declared.operations.Ty.{Ty}
use Rattle.vfa_ir.specs.declared.operations.ValueId.{ValueId}
use Rattle.vfa_ir.specs.declared.functions.Function.{Function}
use Rattle.vfa_ir.specs.Printable.{op_type}
use Rattle.vfa_ir.specs.Typed.{Converts}
use Rattle.vfa_word.specs.declared.arith.Arith.{Arith}
use Rattle.vfa_word.specs.Numbers.{IsWidth}
use Rattle.vfa_dom.specs.Sets.{single_of}
use Rattle.vfa_wrap.specs.Ends.{EndsOf}
use Rattle.vfa_wrap.specs.declared.reading.Reading.{Reading}
use Rattle.vfa_fact.specs.CellCuts.{cell_ends}
use Rattle.vfa_fact.specs.Cells.{CellValue, in_cell}
use Rattle.vfa_mean.specs.Moments.{Place, is_call}
use Rattle.vfa_mean.specs.Operands.{IsOperation}
use Rattle.vfa_mean.specs.Rows.{overflow_arith}
use Rattle.vfa_rules.specs.declared.change.Change.{Change}
use Rattle.vfa_rules.specs.declared.change.OverflowCall.{OverflowCall}
use Rattle.vfa_rules.specs.Conditions.{is_only, stays_in_range, is_natural}
use Rattle.vfa_rules.specs.Facts.{number_cell, bit_cell}
use Rattle.vfa_rules.specs.Order.{Known, Rule, PlainArithmetic, UnsignedForm, NarrowedDivision, GainedWords, FrozenAlready, AssumedAlready, KeptOperand, then_by, changed}
use Rattle.vfa_rules.specs.Rules.{replaced, first_or_second, binary_gives_first, binary_gives, extreme_gives, plain, no_wrap, plain_if, range_of_overflow, extracted, unsigned_binary, unsigned_cast, division_widths, width_for, if_below, lesser_width, divides_unsigned, narrowed, narrow_width}
use Rattle.vfa_rewrite.specs.Findings.{IsUsable, AreUsable, ChangeFits}

-- ---- the lesser width

abbrev IsLesser : ℕ → ℕ → Type 0
IsLesser w v = IsWidth v × (v < w)

below_is_lesser : (w : ℕ) (o : Option ℕ) → ForSome o IsWidth → ForSome (if_below w o) (IsLesser w)
below_is_lesser w None h = λ x e. absurd (cc)
below_is_lesser w (Some v) h = by (nat_lt v w) refl
  where
    by : (t : Bool) → nat_lt v w ≡ t → ForSome (if t then Some v else None) (IsLesser w)
    by true e = λ x s. let same : v ≡ x = cc in subst (IsLesser w) same (h v refl, ltb-true v w e)
    by false e = λ x s. absurd (cc)

eight : IsWidth 8
eight = record { least = omega arith; most = omega arith }

sixteen : IsWidth 16
sixteen = record { least = omega arith; most = omega arith }

thirty_two : IsWidth 32
thirty_two = record { least = omega arith; most = omega arith }

sixty_four : IsWidth 64
sixty_four = record { least = omega arith; most = omega arith }

found_is_width : (test : ℕ → Bool) → ForSome (find test division_widths) IsWidth
found_is_width test = by (test 8) (test 16) (test 32) (test 64)
  where
    is : (v : ℕ) → IsWidth v → ForSome (Some v) IsWidth
    is v h = λ x e. let same : v ≡ x = cc in subst IsWidth same h

    by : (a b c d : Bool) → ForSome (if a then Some 8 else (if b then Some 16 else (if c then Some 32 else (if d then Some 64 else None)))) IsWidth
    by true b c d = is 8 eight
    by false true c d = is 16 sixteen
    by false false true d = is 32 thirty_two
    by false false false true = is 64 sixty_four
    by false false false false = λ x e. absurd (cc)

lesser_is_lesser : (w : ℕ) (x y : Option EndsOf) → ForSome (lesser_width w x y) (IsLesser w)
lesser_is_lesser w (Some x) (Some y) = below_is_lesser w (width_for x y) (found_is_width (λ v. nat_lt x.hi (2 ^ v) && nat_lt y.hi (2 ^ v)))
lesser_is_lesser w (Some x) None = λ v e. absurd (cc)
lesser_is_lesser w None y = λ v e. absurd (cc)

narrow_is_lesser : (used : Bool) (x y : CellValue) (bin : Bin) (flags : Flags) (w : ℕ) (a b : Operand) → ForSome (narrow_width used x y (Op.Bin bin flags w a b)) (IsLesser w)
narrow_is_lesser used x y bin flags w a b = by (divides_unsigned bin && used)
  where
    by : (t : Bool) → ForSome (if t then lesser_width w (cell_ends x) (cell_ends y) else None) (IsLesser w)
    by true = lesser_is_lesser w (cell_ends x) (cell_ends y)
    by false = λ v e. absurd (cc)

-- ---- conversions

converts_still : (cast : Cast) (x : CellValue) (v w : ℕ) → Converts cast v w → Converts (unsigned_cast cast x) v w
converts_still Cast.Zext x v w h = h
converts_still Cast.Trunc x v w h = h
converts_still Cast.Sext x v w h = by (is_natural x)
  where
    by : (t : Bool) → Converts (if t then Cast.Zext else Cast.Sext) v w
    by true = h
    by false = h

module _ (f : Function) (place : Place) (k : Known) where
  abbrev later : Change → List Rule → Change
  later change rules = fold (then_by k) change rules

  -- ---- binary operations

  module _ (bin : Bin) (flags : Flags) (w : ℕ) (a b : Operand) (width : IsWidth w) (usable : IsUsable f place (Ty.Int w) a × IsUsable f place (Ty.Int w) b) where
    abbrev here : Op
    here = Op.Bin bin flags w a b

    abbrev unsigned : Bin
    unsigned = unsigned_binary bin (number_cell k.a) (number_cell k.b)

    after_narrowing : (o : Option ℕ) → ForSome o (IsLesser w) →
        ChangeFits f place (Op.Bin bin flags w a b) (later (narrowed (Op.Bin unsigned flags w a b) o) (GainedWords ∷ (FrozenAlready ∷ (AssumedAlready ∷ []))))
    after_narrowing None h = record { fits = (refl, width); usable = usable }
    after_narrowing (Some v) h = let l = h v refl in record { fits = (refl, width, l.0, l.1); usable = usable }

    after_kept : (s t : Bool) → ChangeFits f place (Op.Bin bin flags w a b)
        (later (replaced (Op.Bin bin flags w a b) (first_or_second s t a b)) (PlainArithmetic ∷ (UnsignedForm ∷ (NarrowedDivision ∷ (GainedWords ∷ (FrozenAlready ∷ (AssumedAlready ∷ [])))))))
    after_kept true t = record { fits = (inl refl, usable.0.typed); usable = usable }
    after_kept false true = record { fits = (inr refl, usable.1.typed); usable = usable }
    after_kept false false =
        after_narrowing (narrow_width k.used (number_cell k.a) (number_cell k.b) (Op.Bin unsigned flags w a b))
        (narrow_is_lesser k.used (number_cell k.a) (number_cell k.b) unsigned flags w a b)

    bin_formed : ChangeFits f place (Op.Bin bin flags w a b) (changed k (Op.Bin bin flags w a b))
    unfolding changed
    bin_formed = after_kept (binary_gives_first bin (number_cell k.a) (number_cell k.b)) (binary_gives bin (number_cell k.b) (number_cell k.a))

  -- ---- plain arithmetic in place of an intrinsic

  plain_formed : (old : Op) (op : Arith) (flags : Flags) (w : ℕ) (a b : Operand) → op_type old ≡ Ty.Int w → IsWidth w → IsUsable f place (Ty.Int w) a × IsUsable f place (Ty.Int w) b →
      ChangeFits f place old (later (Change.Keep (Op.Bin (plain op) flags w a b)) (UnsignedForm ∷ (NarrowedDivision ∷ (GainedWords ∷ (FrozenAlready ∷ (AssumedAlready ∷ []))))))
  plain_formed old Arith.Add flags w a b same width usable = record { fits = (sym same, width); usable = usable }
  plain_formed old Arith.Sub flags w a b same width usable = record { fits = (sym same, width); usable = usable }
  plain_formed old Arith.Mul flags w a b same width usable = record { fits = (sym same, width); usable = usable }
  plain_formed old Arith.Shl flags w a b same width usable = record { fits = (sym same, width); usable = usable }

  module _ (fun : Fun2) (w : ℕ) (a b : Operand) (width : IsWidth w) (usable : IsUsable f place (Ty.Int w) a × IsUsable f place (Ty.Int w) b) where
    two_stays : ChangeFits f place (Op.Two fun w a b) (Change.Keep (Op.Two fun w a b))
    two_stays = record { fits = (refl, width); usable = usable }

    plain_or_two : (t : Bool) (op : Arith) (reading : Reading) → ChangeFits f place (Op.Two fun w a b)
        (later (Change.Keep (plain_if t op reading w a b (Op.Two fun w a b))) (UnsignedForm ∷ (NarrowedDivision ∷ (GainedWords ∷ (FrozenAlready ∷ (AssumedAlready ∷ []))))))
    plain_or_two true op reading = plain_formed (Op.Two fun w a b) op (no_wrap reading) w a b refl width usable
    plain_or_two false op reading = two_stays

  two_after_kept : (fun : Fun2) (w : ℕ) (a b : Operand) → IsWidth w → IsUsable f place (Ty.Int w) a × IsUsable f place (Ty.Int w) b → (s t : Bool) →
      ChangeFits f place (Op.Two fun w a b)
      (later (replaced (Op.Two fun w a b) (first_or_second s t a b)) (PlainArithmetic ∷ (UnsignedForm ∷ (NarrowedDivision ∷ (GainedWords ∷ (FrozenAlready ∷ (AssumedAlready ∷ [])))))))
  two_after_kept fun w a b width usable true t = record { fits = (inl refl, usable.0.typed); usable = usable }
  two_after_kept fun w a b width usable false true = record { fits = (inr refl, usable.1.typed); usable = usable }
  two_after_kept Fun2.Umin w a b width usable false false = two_stays Fun2.Umin w a b width usable
  two_after_kept Fun2.Umax w a b width usable false false = two_stays Fun2.Umax w a b width usable
  two_after_kept Fun2.Smin w a b width usable false false = two_stays Fun2.Smin w a b width usable
  two_after_kept Fun2.Smax w a b width usable false false = two_stays Fun2.Smax w a b width usable
  two_after_kept Fun2.UaddSat w a b width usable false false =
      plain_or_two Fun2.UaddSat w a b width usable (stays_in_range Arith.Add Reading.Unsigned (number_cell k.a) (number_cell k.b)) Arith.Add Reading.Unsigned
  two_after_kept Fun2.UsubSat w a b width usable false false =
      plain_or_two Fun2.UsubSat w a b width usable (stays_in_range Arith.Sub Reading.Unsigned (number_cell k.a) (number_cell k.b)) Arith.Sub Reading.Unsigned
  two_after_kept Fun2.SaddSat w a b width usable false false =
      plain_or_two Fun2.SaddSat w a b width usable (stays_in_range Arith.Add Reading.Signed (number_cell k.a) (number_cell k.b)) Arith.Add Reading.Signed
  two_after_kept Fun2.SsubSat w a b width usable false false =
      plain_or_two Fun2.SsubSat w a b width usable (stays_in_range Arith.Sub Reading.Signed (number_cell k.a) (number_cell k.b)) Arith.Sub Reading.Signed

  two_formed : (fun : Fun2) (w : ℕ) (a b : Operand) → IsWidth w → IsUsable f place (Ty.Int w) a × IsUsable f place (Ty.Int w) b →
      ChangeFits f place (Op.Two fun w a b) (changed k (Op.Two fun w a b))
  unfolding changed
  two_formed fun w a b width usable =
      two_after_kept fun w a b width usable (extreme_gives fun (number_cell k.a) (number_cell k.b)) (extreme_gives fun (number_cell k.b) (number_cell k.a))

  -- ---- a part of a pair

  -- the operands of the overflow intrinsic may be used
  abbrev pub CallIsUsable : Option OverflowCall → ℕ → Type 0
  CallIsUsable None w = Unit {0}
  CallIsUsable (Some call) w = IsUsable f place (Ty.Int w) call.a × IsUsable f place (Ty.Int w) call.b

  module _ (w : ℕ) (pair : ValueId) (index : ℕ) (is : IsOperation (Op.Part w pair index)) (usable : IsUsable f place (Ty.Pair w) (Operand.Value pair)) where
    part_stays : ChangeFits f place (Op.Part w pair index) (Change.Keep (Op.Part w pair index))
    part_stays = record { fits = (refl, is); usable = usable }

    part_by : (o : Option OverflowCall) → CallIsUsable o w → ChangeFits f place (Op.Part w pair index)
        (later (Change.Keep (extracted o (bit_cell k.c) w pair index)) (UnsignedForm ∷ (NarrowedDivision ∷ (GainedWords ∷ (FrozenAlready ∷ (AssumedAlready ∷ []))))))
    part_by None h = part_stays
    part_by (Some call) h = by (nat_eq index 0) refl (is_only (bit_cell k.c) 0)
      where
        by : (s : Bool) → nat_eq index 0 ≡ s → (t : Bool) → ChangeFits f place (Op.Part w pair index)
            (later (Change.Keep (plain_if (s && t) (overflow_arith call.over) (range_of_overflow call.over) w call.a call.b (Op.Part w pair index))) (UnsignedForm ∷ (NarrowedDivision ∷ (GainedWords ∷ (FrozenAlready ∷ (AssumedAlready ∷ []))))))
        by true e true =
            plain_formed (Op.Part w pair index) (overflow_arith call.over) (no_wrap (range_of_overflow call.over)) w call.a call.b
            (ap (λ t. if t then Ty.Int w else Ty.Int 1) e) is.0 h
        by true e false = part_stays
        by false e t = part_stays

    part_formed : CallIsUsable k.call w → ChangeFits f place (Op.Part w pair index) (changed k (Op.Part w pair index))
    unfolding changed
    part_formed h = part_by k.call h

  -- ---- the other operations

  select_formed : (w : ℕ) (c a b : Operand) → IsWidth w → AreUsable f place (Op.Select w c a b) → ChangeFits f place (Op.Select w c a b) (changed k (Op.Select w c a b))
  unfolding changed
  select_formed w c a b width usable = by (single_of (number_cell k.c).width (in_cell (number_cell k.c)))
    where
      arm : (t : Bool) → ChangeFits f place (Op.Select w c a b) (Change.Uses (if t then b else a))
      arm true = record { fits = (inr refl, usable.2.typed); usable = usable }
      arm false = record { fits = (inl refl, usable.1.typed); usable = usable }

      by : (o : Option ℕ) → ChangeFits f place (Op.Select w c a b)
          (later (replaced (Op.Select w c a b) (option_map (λ n. if nat_eq n 0 then b else a) o)) (KeptOperand ∷ (PlainArithmetic ∷ (UnsignedForm ∷ (NarrowedDivision ∷ (GainedWords ∷ (FrozenAlready ∷ (AssumedAlready ∷ []))))))))
      by None = record { fits = (refl, width); usable = usable }
      by (Some n) = arm (nat_eq n 0)

  freeze_formed : (w : ℕ) (a : Operand) → IsWidth w → IsUsable f place (Ty.Int w) a → ChangeFits f place (Op.Freeze w a) (changed k (Op.Freeze w a))
  unfolding changed
  freeze_formed w a width usable = by (number_cell k.a).never_poison
    where
      by : (t : Bool) → ChangeFits f place (Op.Freeze w a) (later (replaced (Op.Freeze w a) (if t then Some a else None)) (AssumedAlready ∷ []))
      by true = record { fits = (inl refl, usable.typed); usable = usable }
      by false = record { fits = (refl, width); usable = usable }

  assume_formed : (c : Operand) → IsUsable f place (Ty.Int 1) c → ChangeFits f place (Op.Assume c) (changed k (Op.Assume c))
  unfolding changed
  assume_formed c usable = by (is_only (number_cell k.c) 1)
    where
      by : (t : Bool) → ChangeFits f place (Op.Assume c) (if t then Change.Gone else Change.Keep (Op.Assume c))
      by true = record { fits = tt; usable = usable }
      by false = record { fits = (refl, tt); usable = usable }

  abbrev pub CallFits : Op → Type 0
  CallFits (Op.Part w pair index) = CallIsUsable k.call w
  CallFits op = Unit {0}

  pub formed : (op : Op) → is_call op ≡ false → IsOperation op → AreUsable f place op → CallFits op → ChangeFits f place op (changed k op)
  unfolding changed
  formed (Op.Bin bin flags w a b) plain is usable call = bin_formed bin flags w a b is usable
  formed (Op.Icmp pred samesign w a b) plain is usable call = record { fits = (refl, is); usable = usable }
  formed (Op.Select w c a b) plain is usable call = select_formed w c a b is usable
  formed (Op.Cast cast flags v w a) plain is usable call =
      record { fits = (refl, (is.0, is.1, converts_still cast (number_cell k.a) v w is.2)); usable = usable }
  formed (Op.Freeze w a) plain is usable call = freeze_formed w a is usable
  formed (Op.Two fun w a b) plain is usable call = two_formed fun w a b is usable
  formed (Op.One fun w a strict) plain is usable call = record { fits = (refl, is); usable = usable }
  formed (Op.Over over w a b) plain is usable call = record { fits = (refl, is); usable = usable }
  formed (Op.Part w pair index) plain is usable call = part_formed w pair index is usable call
  formed (Op.Assume c) plain is usable call = assume_formed c usable
  formed (Op.Call w c) plain is usable call = absurd (cc)
