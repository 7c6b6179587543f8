-- Only a division or remainder is done at a lesser width.
use Rattle.std.specs.Prelude.{⊤}
use Rattle.std.proofs.Common.{◌≡◌, ℕ, ◌&&◌, Bool, true, false, nat_eq, if◌then◌else◌, Option, Some, None, List, [], ◌∷◌, refl}
use Rattle.std.specs.Option.{option_map}
use Rattle.std.specs.List.{fold}
use Rattle.vfa_ir.specs.declared.operations.Bin.{Bin}
use Rattle.vfa_ir.specs.declared.operations.Flags.{Flags}
use Rattle.vfa_ir.specs.declared.operations.Fun2.{Fun2}
use Rattle.vfa_ir.specs.declared.operations.Op.{Op}
use Rattle.vfa_ir.specs.declared.operations.Operand.{Operand}
use Rattle.vfa_ir.specs.declared.operations.ValueId.{ValueId}
use Rattle.vfa_word.specs.declared.arith.Arith.{Arith}
use Rattle.vfa_wrap.specs.declared.reading.Reading.{Reading}
use Rattle.vfa_dom.specs.Sets.{single_of}
use Rattle.vfa_fact.specs.CellCuts.{cell_ends}
use Rattle.vfa_fact.specs.Cells.{in_cell}
use Rattle.vfa_mean.specs.Moments.{is_call}
use Rattle.vfa_mean.specs.Rows.{overflow_arith}
use Rattle.vfa_walk.specs.Stepping.{is_division}
use Rattle.vfa_rules.specs.declared.change.Change.{Change}
use Rattle.vfa_rules.specs.declared.change.OverflowCall.{OverflowCall}
use Rattle.vfa_rules.specs.Conditions.{is_only, stays_in_range}
use Rattle.vfa_rules.specs.Facts.{number_cell, bit_cell}
use Rattle.vfa_rules.specs.Order.{Known, Rule, PlainArithmetic, UnsignedForm, NarrowedDivision, GainedWords, FrozenAlready, AssumedAlready, KeptOperand, then_by, changed}
use Rattle.vfa_rules.specs.Rules.{replaced, first_or_second, binary_gives_first, binary_gives, extreme_gives, plain, no_wrap, plain_if, range_of_overflow, extracted, unsigned_binary, divides_unsigned, lesser_width, narrowed, narrow_width}

abbrev pub NarrowsDivision : Change → Type 0
NarrowsDivision (Change.Narrow (Op.Bin bin flags w a b) v) = is_division bin ≡ true
NarrowsDivision (Change.Narrow op v) = ⊥
NarrowsDivision (Change.Keep op) = ⊤
NarrowsDivision (Change.Uses u) = ⊤
NarrowsDivision Change.Gone = ⊤

divides : (bin : Bin) (used : Bool) → (divides_unsigned bin && used) ≡ true → is_division bin ≡ true
divides Bin.Udiv used e = refl
divides Bin.Urem used e = refl
divides Bin.Add used e = absurd (cc)
divides Bin.Sub used e = absurd (cc)
divides Bin.Mul used e = absurd (cc)
divides Bin.Shl used e = absurd (cc)
divides Bin.Sdiv used e = absurd (cc)
divides Bin.Lshr used e = absurd (cc)
divides Bin.Ashr used e = absurd (cc)
divides Bin.Srem used e = absurd (cc)
divides Bin.And used e = absurd (cc)
divides Bin.Or used e = absurd (cc)
divides Bin.Xor used e = absurd (cc)

module _ (k : Known) where
  abbrev later : Change → List Rule → Change
  later change rules = fold (then_by k) change rules

  abbrev last_rules : List Rule
  last_rules = GainedWords ∷ (FrozenAlready ∷ (AssumedAlready ∷ []))

  module _ (bin : Bin) (flags : Flags) (w : ℕ) (a b : Operand) where
    at_width : is_division bin ≡ true → (o : Option ℕ) → NarrowsDivision (later (narrowed (Op.Bin bin flags w a b) o) last_rules)
    at_width d None = tt
    at_width d (Some v) = d

    after_unsigned : NarrowsDivision (later (narrowed (Op.Bin bin flags w a b) (narrow_width k.used (number_cell k.a) (number_cell k.b) (Op.Bin bin flags w a b))) last_rules)
    after_unsigned = by (divides_unsigned bin && k.used) refl
      where
        by : (t : Bool) → (divides_unsigned bin && k.used) ≡ t →
            NarrowsDivision (later (narrowed (Op.Bin bin flags w a b) (if t then lesser_width w (cell_ends (number_cell k.a)) (cell_ends (number_cell k.b)) else None)) last_rules)
        by true e = at_width (divides bin k.used e) (lesser_width w (cell_ends (number_cell k.a)) (cell_ends (number_cell k.b)))
        by false e = tt

  module _ (bin : Bin) (flags : Flags) (w : ℕ) (a b : Operand) where
    after_kept : (s t : Bool) → NarrowsDivision
        (later (replaced (Op.Bin bin flags w a b) (first_or_second s t a b)) (PlainArithmetic ∷ (UnsignedForm ∷ (NarrowedDivision ∷ last_rules))))
    after_kept true t = tt
    after_kept false true = tt
    after_kept false false = after_unsigned (unsigned_binary bin (number_cell k.a) (number_cell k.b)) flags w a b

    bin_narrows : NarrowsDivision (changed k (Op.Bin bin flags w a b))
    unfolding changed
    bin_narrows = after_kept (binary_gives_first bin (number_cell k.a) (number_cell k.b)) (binary_gives bin (number_cell k.b) (number_cell k.a))

  abbrev plain_later : Change → Change
  plain_later change = fold (then_by k) change (UnsignedForm ∷ (NarrowedDivision ∷ last_rules))

  plain_narrows : (op : Arith) (flags : Flags) (w : ℕ) (a b : Operand) → NarrowsDivision (plain_later (Change.Keep (Op.Bin (plain op) flags w a b)))
  plain_narrows Arith.Add flags w a b = tt
  plain_narrows Arith.Sub flags w a b = tt
  plain_narrows Arith.Mul flags w a b = tt
  plain_narrows Arith.Shl flags w a b = tt

  plain_or_two : (fun : Fun2) (w : ℕ) (a b : Operand) (t : Bool) (op : Arith) (reading : Reading) → NarrowsDivision (plain_later (Change.Keep (plain_if t op reading w a b (Op.Two fun w a b))))
  plain_or_two fun w a b true op reading = plain_narrows op (no_wrap reading) w a b
  plain_or_two fun w a b false op reading = tt

  two_after_kept : (fun : Fun2) (w : ℕ) (a b : Operand) → (s t : Bool) → NarrowsDivision
      (later (replaced (Op.Two fun w a b) (first_or_second s t a b)) (PlainArithmetic ∷ (UnsignedForm ∷ (NarrowedDivision ∷ last_rules))))
  two_after_kept fun w a b true t = tt
  two_after_kept fun w a b false true = tt
  two_after_kept Fun2.Umin w a b false false = tt
  two_after_kept Fun2.Umax w a b false false = tt
  two_after_kept Fun2.Smin w a b false false = tt
  two_after_kept Fun2.Smax w a b false false = tt
  two_after_kept Fun2.UaddSat w a b false false =
      plain_or_two Fun2.UaddSat w a b (stays_in_range Arith.Add Reading.Unsigned (number_cell k.a) (number_cell k.b)) Arith.Add Reading.Unsigned
  two_after_kept Fun2.UsubSat w a b false false =
      plain_or_two Fun2.UsubSat w a b (stays_in_range Arith.Sub Reading.Unsigned (number_cell k.a) (number_cell k.b)) Arith.Sub Reading.Unsigned
  two_after_kept Fun2.SaddSat w a b false false =
      plain_or_two Fun2.SaddSat w a b (stays_in_range Arith.Add Reading.Signed (number_cell k.a) (number_cell k.b)) Arith.Add Reading.Signed
  two_after_kept Fun2.SsubSat w a b false false =
      plain_or_two Fun2.SsubSat w a b (stays_in_range Arith.Sub Reading.Signed (number_cell k.a) (number_cell k.b)) Arith.Sub Reading.Signed

  two_narrows : (fun : Fun2) (w : ℕ) (a b : Operand) → NarrowsDivision (changed k (Op.Two fun w a b))
  unfolding changed
  two_narrows fun w a b = two_after_kept fun w a b (extreme_gives fun (number_cell k.a) (number_cell k.b)) (extreme_gives fun (number_cell k.b) (number_cell k.a))

  module _ (w : ℕ) (pair : ValueId) (index : ℕ) where
    part_by : (o : Option OverflowCall) → NarrowsDivision (plain_later (Change.Keep (extracted o (bit_cell k.c) w pair index)))
    part_by None = tt
    part_by (Some call) = by (nat_eq index 0) (is_only (bit_cell k.c) 0)
      where
        by : (s t : Bool) → NarrowsDivision (plain_later (Change.Keep (plain_if (s && t) (overflow_arith call.over) (range_of_overflow call.over) w call.a call.b (Op.Part w pair index))))
        by true true = plain_narrows (overflow_arith call.over) (no_wrap (range_of_overflow call.over)) w call.a call.b
        by true false = tt
        by false t = tt

    part_narrows : NarrowsDivision (changed k (Op.Part w pair index))
    unfolding changed
    part_narrows = part_by k.call

  select_narrows : (w : ℕ) (c a b : Operand) → NarrowsDivision (changed k (Op.Select w c a b))
  unfolding changed
  select_narrows w c a b = by (single_of (number_cell k.c).width (in_cell (number_cell k.c)))
    where
      by : (o : Option ℕ) → NarrowsDivision (later (replaced (Op.Select w c a b) (option_map (λ n. if nat_eq n 0 then b else a) o))
          (KeptOperand ∷ (PlainArithmetic ∷ (UnsignedForm ∷ (NarrowedDivision ∷ last_rules)))))
      by None = tt
      by (Some n) = tt

  freeze_narrows : (w : ℕ) (a : Operand) → NarrowsDivision (changed k (Op.Freeze w a))
  unfolding changed
  freeze_narrows w a = by (number_cell k.a).never_poison
    where
      by : (t : Bool) → NarrowsDivision (later (replaced (Op.Freeze w a) (if t then Some a else None)) (AssumedAlready ∷ []))
      by true = tt
      by false = tt

  assume_narrows : (c : Operand) → NarrowsDivision (changed k (Op.Assume c))
  unfolding changed
  assume_narrows c = by (is_only (number_cell k.c) 1)
    where
      by : (t : Bool) → NarrowsDivision (if t then Change.Gone else Change.Keep (Op.Assume c))
      by true = tt
      by false = tt

  pub narrows_division : (op : Op) → is_call op ≡ false → NarrowsDivision (changed k op)
  unfolding changed
  narrows_division (Op.Bin bin flags w a b) none = bin_narrows bin flags w a b
  narrows_division (Op.Icmp pred samesign w a b) none = tt
  narrows_division (Op.Select w c a b) none = select_narrows w c a b
  narrows_division (Op.Cast cast flags v w a) none = tt
  narrows_division (Op.Freeze w a) none = freeze_narrows w a
  narrows_division (Op.Two fun w a b) none = two_narrows fun w a b
  narrows_division (Op.One fun w a strict) none = tt
  narrows_division (Op.Over over w a b) none = tt
  narrows_division (Op.Part w pair index) none = part_narrows w pair index
  narrows_division (Op.Assume c) none = assume_narrows c
  narrows_division (Op.Call w c) none = absurd (cc)
