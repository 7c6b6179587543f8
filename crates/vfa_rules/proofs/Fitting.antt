-- A changed instruction is printable and well typed again.
use Rattle.std.proofs.Common.{◌≡◌, ℕ, ◌^◌, ◌<◌, ◌≤◌, Bool, true, false, ◌&&◌, ◌||◌, cond, if◌then◌else◌, refl, sym, ◌∙◌, ap, subst, arith, lit≤, lit<, Option, Some, None, List, [], ◌∷◌, inl, inr}
use Rattle.std.specs.Prelude.{nat_eq, nat_lt, find, Contains, IfSome}
use Rattle.std.specs.Option.{option_map}
use Rattle.std.proofs.lemmas.Bool.{true≢false, and_parts, ltb-true, eqb-true}
use Rattle.vfa_ir.specs.Operands.{operands_of, pair_of_width}
use Rattle.vfa_ir.specs.Printable.{PrintableOp, AreOperands, HasItsFlags, HasItsCastFlags, op_type}
use Rattle.vfa_ir.specs.Typed.{TypedOp, AreOfWidth, Converts}
use Rattle.vfa_ir.specs.declared.functions.Function.{Function}
use Rattle.vfa_ir.specs.declared.operations.Bin.{Bin}
use Rattle.vfa_ir.specs.declared.operations.Cast.{Cast}
use Rattle.vfa_ir.specs.declared.operations.CastFlags.{CastFlags}
use Rattle.vfa_ir.specs.declared.operations.Flags.{Flags}
use Rattle.vfa_ir.specs.declared.operations.Fun2.{Fun2}
use Rattle.vfa_ir.specs.declared.operations.Op.{Op}
use Rattle.vfa_ir.specs.declared.operations.Operand.{Operand}
use Rattle.vfa_ir.specs.declared.operations.Ty.{Ty}
use Rattle.vfa_ir.specs.declared.operations.ValueId.{ValueId}
use Rattle.vfa_mean.specs.Rows.{overflow_arith}
use Rattle.vfa_word.specs.Numbers.{IsWidth}
use Rattle.vfa_word.specs.declared.arith.Arith.{Arith}
use Rattle.vfa_dom.specs.Sets.{single_of}
use Rattle.vfa_wrap.specs.Ends.{EndsOf}
use Rattle.vfa_wrap.specs.declared.reading.Reading.{Reading}
use Rattle.vfa_fact.specs.CellCuts.{cell_ends}
use Rattle.vfa_fact.specs.Cells.{CellValue, in_cell}
use Rattle.vfa_rules.specs.declared.change.Change.{Change}
use Rattle.vfa_rules.specs.declared.change.OverflowCall.{OverflowCall}
use Rattle.vfa_rules.specs.Conditions.{is_natural, is_only, stays_in_range}
use Rattle.vfa_rules.specs.Facts.{number_cell, bit_cell}
use Rattle.vfa_rules.specs.Order.{Known, changed}
use Rattle.vfa_rules.specs.Rules.{first_or_second, binary_gives, binary_gives_first, extreme_gives, plain, plain_if, no_wrap, range_of_overflow, unsigned_form, unsigned_binary, unsigned_cast, division_widths, width_for, if_below, lesser_width, divides_unsigned, narrow_width, gained_words, gained_flags, gained_cast_flags, without_assume}
use Rattle.vfa_rules.specs.Shapes.{FitsChange, IsFitting, IsInPlaceOf, IsNarrower, HasOperandsOf}
use Rattle.vfa_rules.proofs.Chains.{chain, chain_is, or_else, or_kept, after_gain}

-- ---- words

module _ (x y : CellValue) (flags : Flags) where
  quotient_words : (t : Bool) → HasItsFlags Bin.Sdiv flags → HasItsFlags (if t then Bin.Udiv else Bin.Sdiv) flags
  quotient_words true h = record { nuw = h.nuw; nsw = h.nsw; exact = h.exact; disjoint = h.disjoint }
  quotient_words false h = h

  remainder_words : (t : Bool) → HasItsFlags Bin.Srem flags → HasItsFlags (if t then Bin.Urem else Bin.Srem) flags
  remainder_words true h = record { nuw = h.nuw; nsw = h.nsw; exact = h.exact; disjoint = h.disjoint }
  remainder_words false h = h

  shift_words : (t : Bool) → HasItsFlags Bin.Ashr flags → HasItsFlags (if t then Bin.Lshr else Bin.Ashr) flags
  shift_words true h = record { nuw = h.nuw; nsw = h.nsw; exact = h.exact; disjoint = h.disjoint }
  shift_words false h = h

  unsigned_words : (bin : Bin) → HasItsFlags bin flags → HasItsFlags (unsigned_binary bin x y) flags
  unsigned_words Bin.Sdiv h = quotient_words _ h
  unsigned_words Bin.Srem h = remainder_words _ h
  unsigned_words Bin.Ashr h = shift_words _ h
  unsigned_words Bin.Add h = h
  unsigned_words Bin.Sub h = h
  unsigned_words Bin.Mul h = h
  unsigned_words Bin.Shl h = h
  unsigned_words Bin.Udiv h = h
  unsigned_words Bin.Lshr h = h
  unsigned_words Bin.Urem h = h
  unsigned_words Bin.And h = h
  unsigned_words Bin.Or h = h
  unsigned_words Bin.Xor h = h

  more_words : (bin : Bin) → HasItsFlags bin flags → HasItsFlags bin (gained_flags bin flags x y)
  more_words Bin.Add h = record { nuw = λ _. refl; nsw = λ _. refl; exact = h.exact; disjoint = h.disjoint }
  more_words Bin.Sub h = record { nuw = λ _. refl; nsw = λ _. refl; exact = h.exact; disjoint = h.disjoint }
  more_words Bin.Mul h = record { nuw = λ _. refl; nsw = λ _. refl; exact = h.exact; disjoint = h.disjoint }
  more_words Bin.Shl h = record { nuw = λ _. refl; nsw = λ _. refl; exact = h.exact; disjoint = h.disjoint }
  more_words Bin.Or h = record { nuw = h.nuw; nsw = h.nsw; exact = h.exact; disjoint = λ _. refl }
  more_words Bin.Sdiv h = h
  more_words Bin.Srem h = h
  more_words Bin.Ashr h = h
  more_words Bin.Udiv h = h
  more_words Bin.Lshr h = h
  more_words Bin.Urem h = h
  more_words Bin.And h = h
  more_words Bin.Xor h = h

no_wrap_words : (arith : Arith) (r : Reading) → HasItsFlags (plain arith) (no_wrap r)
no_wrap_words Arith.Add Reading.Unsigned = record { nuw = λ _. refl; nsw = λ _. refl; exact = λ e. absurd (true≢false (sym e)); disjoint = λ e. absurd (true≢false (sym e)) }
no_wrap_words Arith.Add Reading.Signed = record { nuw = λ _. refl; nsw = λ _. refl; exact = λ e. absurd (true≢false (sym e)); disjoint = λ e. absurd (true≢false (sym e)) }
no_wrap_words Arith.Sub Reading.Unsigned = record { nuw = λ _. refl; nsw = λ _. refl; exact = λ e. absurd (true≢false (sym e)); disjoint = λ e. absurd (true≢false (sym e)) }
no_wrap_words Arith.Sub Reading.Signed = record { nuw = λ _. refl; nsw = λ _. refl; exact = λ e. absurd (true≢false (sym e)); disjoint = λ e. absurd (true≢false (sym e)) }
no_wrap_words Arith.Mul Reading.Unsigned = record { nuw = λ _. refl; nsw = λ _. refl; exact = λ e. absurd (true≢false (sym e)); disjoint = λ e. absurd (true≢false (sym e)) }
no_wrap_words Arith.Mul Reading.Signed = record { nuw = λ _. refl; nsw = λ _. refl; exact = λ e. absurd (true≢false (sym e)); disjoint = λ e. absurd (true≢false (sym e)) }
no_wrap_words Arith.Shl Reading.Unsigned = record { nuw = λ _. refl; nsw = λ _. refl; exact = λ e. absurd (true≢false (sym e)); disjoint = λ e. absurd (true≢false (sym e)) }
no_wrap_words Arith.Shl Reading.Signed = record { nuw = λ _. refl; nsw = λ _. refl; exact = λ e. absurd (true≢false (sym e)); disjoint = λ e. absurd (true≢false (sym e)) }

module _ (x : CellValue) (flags : CastFlags) where
  unsigned_cast_words : (cast : Cast) → HasItsCastFlags cast flags → HasItsCastFlags (unsigned_cast cast x) flags
  unsigned_cast_words Cast.Zext h = h
  unsigned_cast_words Cast.Trunc h = h
  unsigned_cast_words Cast.Sext h = at (is_natural x)
    where
      at : (t : Bool) → HasItsCastFlags (if t then Cast.Zext else Cast.Sext) flags
      at true = record { nuw = h.nuw; nsw = h.nsw; nneg = λ _. refl }
      at false = h

  more_cast_words : (cast : Cast) (w : ℕ) → HasItsCastFlags cast flags → HasItsCastFlags cast (gained_cast_flags cast flags w x)
  more_cast_words Cast.Zext w h = record { nuw = h.nuw; nsw = h.nsw; nneg = λ _. refl }
  more_cast_words Cast.Trunc w h = record { nuw = λ _. refl; nsw = λ _. refl; nneg = h.nneg }
  more_cast_words Cast.Sext w h = h

  converts_alike : (cast : Cast) (v w : ℕ) → Converts cast v w → Converts (unsigned_cast cast x) v w
  converts_alike Cast.Zext v w h = h
  converts_alike Cast.Trunc v w h = h
  converts_alike Cast.Sext v w h = at (is_natural x)
    where
      at : (t : Bool) → Converts (if t then Cast.Zext else Cast.Sext) v w
      at true = h
      at false = h

-- ---- the lesser width

some_width : (p : ℕ → Bool) (v : ℕ) → find p division_widths ≡ Some v → IsWidth v
some_width p v e = first (p 8) refl e
  where
    fourth : (t : Bool) → cond t (Some 64) None ≡ Some v → IsWidth v
    fourth true e = let same : 64 ≡ v = cc in subst IsWidth same (record { least = lit≤ tt; most = lit≤ tt })
    fourth false e = absurd (cc)

    third : (t : Bool) → cond t (Some 32) (cond (p 64) (Some 64) None) ≡ Some v → IsWidth v
    third true e = let same : 32 ≡ v = cc in subst IsWidth same (record { least = lit≤ tt; most = lit≤ tt })
    third false e = fourth (p 64) e

    second : (t : Bool) → cond t (Some 16) (cond (p 32) (Some 32) (cond (p 64) (Some 64) None)) ≡ Some v → IsWidth v
    second true e = let same : 16 ≡ v = cc in subst IsWidth same (record { least = lit≤ tt; most = lit≤ tt })
    second false e = third (p 32) e

    first : (t : Bool) → p 8 ≡ t → cond t (Some 8) (cond (p 16) (Some 16) (cond (p 32) (Some 32) (cond (p 64) (Some 64) None))) ≡ Some v → IsWidth v
    first true is e = let same : 8 ≡ v = cc in subst IsWidth same (record { least = lit≤ tt; most = lit≤ tt })
    first false is e = second (p 16) e

lesser_fits : (w v : ℕ) (o p : Option EndsOf) → lesser_width w o p ≡ Some v → IsWidth v × (v < w)
lesser_fits w v (Some x) None e = absurd (cc)
lesser_fits w v None p e = absurd (cc)
lesser_fits w v (Some x) (Some y) e = at (width_for x y) refl e
  where
    below : (u : ℕ) (t : Bool) → nat_lt u w ≡ t → (if t then Some u else None) ≡ Some v → IsWidth u → IsWidth v × (v < w)
    below u true is e of = let same : u ≡ v = cc in (subst IsWidth same of, subst (λ n. n < w) same (ltb-true u w is))
    below u false is e of = absurd (cc)

    at : (o : Option ℕ) → width_for x y ≡ o → if_below w o ≡ Some v → IsWidth v × (v < w)
    at None is e = absurd (cc)
    at (Some u) is e = below u (nat_lt u w) refl e (some_width (λ n. nat_lt x.hi (2 ^ n) && nat_lt y.hi (2 ^ n)) u is)

-- ---- changes that fit

module _ (f : Function) (k : Known) where
  stays : (op : Op) → PrintableOp f op → TypedOp f op → HasOperandsOf f k op op → FitsChange f k op (Change.Keep op)
  stays op printable typed operands = record { printable = printable; typed = typed; same_type = refl; operands = operands }

  pub bin_fits : (used : Bool) (call : Option OverflowCall) (x y z bit : CellValue) (bin : Bin) (flags : Flags) (w : ℕ) (a b : Operand) →
      HasItsFlags bin flags → AreOperands f w a b → AreOfWidth f w a b →
      FitsChange f k (Op.Bin bin flags w a b) (chain call x y z bit used (Op.Bin bin flags w a b))
  bin_fits used call x y z bit bin flags w a b words operands typed =
      at (binary_gives_first bin x y) (binary_gives bin y x) (narrow_width used x y (Op.Bin (unsigned_binary bin x y) flags w a b)) refl
    where
      asked : (t : Bool) (o : Option ℕ) (n : ℕ) → (if t then o else None) ≡ Some n → o ≡ Some n
      asked true o n e = e
      asked false o n e = absurd (cc)

      at : (s t : Bool) (o : Option ℕ) → narrow_width used x y (Op.Bin (unsigned_binary bin x y) flags w a b) ≡ o →
          FitsChange f k (Op.Bin bin flags w a b) (or_else (first_or_second s t a b) (or_kept o (Op.Bin (unsigned_binary bin x y) flags w a b)
          (Change.Keep (Op.Bin (unsigned_binary bin x y) (gained_flags (unsigned_binary bin x y) flags x y) w a b))))
      at true t o is = (0, lit< tt, refl)
      at false true o is = (1, lit< tt, refl)
      at false false (Some n) is = (
        record { printable = (unsigned_words x y flags bin words, operands); typed = typed; same_type = refl; operands = refl },
        lesser_fits w n (cell_ends x) (cell_ends y) (asked (divides_unsigned (unsigned_binary bin x y) && used) _ n is),
      )
      at false false None is = record {
        printable = (more_words x y flags (unsigned_binary bin x y) (unsigned_words x y flags bin words), operands);
        typed = typed;
        same_type = refl;
        operands = refl;
      }

  module _ (call : Option OverflowCall) (x y z bit : CellValue) where
    rest_of : Bool → Op → Change
    rest_of used op = or_kept (narrow_width used x y (unsigned_form x y op)) (unsigned_form x y op) (after_gain call x y z bit (unsigned_form x y op))

    plain_fits : (op : Op) (arith : Arith) (r : Reading) (used : Bool) (w : ℕ) (a b : Operand) → AreOperands f w a b → AreOfWidth f w a b → Ty.Int w ≡ op_type op →
        ((bin : Bin) (flags : Flags) → HasOperandsOf f k op (Op.Bin bin flags w a b)) → FitsChange f k op (rest_of used (Op.Bin (plain arith) (no_wrap r) w a b))
    unfolding rest_of
    plain_fits op Arith.Add r used w a b operands typed ty same = record { printable = (more_words x y (no_wrap r) Bin.Add (no_wrap_words Arith.Add r), operands); typed = typed; same_type = ty; operands = same _ _ }
    plain_fits op Arith.Sub r used w a b operands typed ty same = record { printable = (more_words x y (no_wrap r) Bin.Sub (no_wrap_words Arith.Sub r), operands); typed = typed; same_type = ty; operands = same _ _ }
    plain_fits op Arith.Mul r used w a b operands typed ty same = record { printable = (more_words x y (no_wrap r) Bin.Mul (no_wrap_words Arith.Mul r), operands); typed = typed; same_type = ty; operands = same _ _ }
    plain_fits op Arith.Shl r used w a b operands typed ty same = record { printable = (more_words x y (no_wrap r) Bin.Shl (no_wrap_words Arith.Shl r), operands); typed = typed; same_type = ty; operands = same _ _ }

    saturation_fits : (s : Bool) (fun : Fun2) (arith : Arith) (r : Reading) (used : Bool) (w : ℕ) (a b : Operand) → AreOperands f w a b → AreOfWidth f w a b →
        FitsChange f k (Op.Two fun w a b) (rest_of used (plain_if s arith r w a b (Op.Two fun w a b)))
    unfolding rest_of
    saturation_fits true fun arith r used w a b operands typed = plain_fits (Op.Two fun w a b) arith r used w a b operands typed refl (λ bin flags. refl)
    saturation_fits false fun arith r used w a b operands typed = stays (Op.Two fun w a b) operands typed refl

    extreme_fits : (s t : Bool) (fun : Fun2) (w : ℕ) (a b : Operand) → AreOperands f w a b → AreOfWidth f w a b →
        FitsChange f k (Op.Two fun w a b) (or_else (first_or_second s t a b) (Change.Keep (Op.Two fun w a b)))
    extreme_fits true t fun w a b operands typed = (0, lit< tt, refl)
    extreme_fits false true fun w a b operands typed = (1, lit< tt, refl)
    extreme_fits false false fun w a b operands typed = stays (Op.Two fun w a b) operands typed refl

    two_fits : (used : Bool) (fun : Fun2) (w : ℕ) (a b : Operand) → AreOperands f w a b → AreOfWidth f w a b → FitsChange f k (Op.Two fun w a b) (chain call x y z bit used (Op.Two fun w a b))
    unfolding rest_of
    two_fits used Fun2.Umin w a b operands typed = extreme_fits (extreme_gives Fun2.Umin x y) (extreme_gives Fun2.Umin y x) Fun2.Umin w a b operands typed
    two_fits used Fun2.Umax w a b operands typed = extreme_fits (extreme_gives Fun2.Umax x y) (extreme_gives Fun2.Umax y x) Fun2.Umax w a b operands typed
    two_fits used Fun2.Smin w a b operands typed = extreme_fits (extreme_gives Fun2.Smin x y) (extreme_gives Fun2.Smin y x) Fun2.Smin w a b operands typed
    two_fits used Fun2.Smax w a b operands typed = extreme_fits (extreme_gives Fun2.Smax x y) (extreme_gives Fun2.Smax y x) Fun2.Smax w a b operands typed
    two_fits used Fun2.UaddSat w a b operands typed = saturation_fits (stays_in_range Arith.Add Reading.Unsigned x y) Fun2.UaddSat Arith.Add Reading.Unsigned used w a b operands typed
    two_fits used Fun2.UsubSat w a b operands typed = saturation_fits (stays_in_range Arith.Sub Reading.Unsigned x y) Fun2.UsubSat Arith.Sub Reading.Unsigned used w a b operands typed
    two_fits used Fun2.SaddSat w a b operands typed = saturation_fits (stays_in_range Arith.Add Reading.Signed x y) Fun2.SaddSat Arith.Add Reading.Signed used w a b operands typed
    two_fits used Fun2.SsubSat w a b operands typed = saturation_fits (stays_in_range Arith.Sub Reading.Signed x y) Fun2.SsubSat Arith.Sub Reading.Signed used w a b operands typed

    select_fits : (o : Option ℕ) (w : ℕ) (c a b : Operand) → PrintableOp f (Op.Select w c a b) → TypedOp f (Op.Select w c a b) →
        FitsChange f k (Op.Select w c a b) (or_else (option_map (λ n. if nat_eq n 0 then b else a) o) (Change.Keep (Op.Select w c a b)))
    select_fits None w c a b printable typed = stays (Op.Select w c a b) printable typed refl
    select_fits (Some n) w c a b printable typed = arm (nat_eq n 0)
      where
        arm : (t : Bool) → Contains (operands_of f (Op.Select w c a b)) (Ty.Int w, if t then b else a)
        arm true = (2, lit< tt, refl)
        arm false = (1, lit< tt, refl)

    freeze_fits : (t : Bool) (w : ℕ) (a : Operand) → PrintableOp f (Op.Freeze w a) → TypedOp f (Op.Freeze w a) → FitsChange f k (Op.Freeze w a) (or_else (if t then Some a else None) (Change.Keep (Op.Freeze w a)))
    freeze_fits true w a printable typed = (0, lit< tt, refl)
    freeze_fits false w a printable typed = stays (Op.Freeze w a) printable typed refl

    assume_fits : (t : Bool) (c : Operand) → PrintableOp f (Op.Assume c) → TypedOp f (Op.Assume c) → FitsChange f k (Op.Assume c) (if t then Change.Gone else Change.Keep (Op.Assume c))
    assume_fits true c printable typed = tt
    assume_fits false c printable typed = stays (Op.Assume c) printable typed refl

  part_fits : (w : ℕ) (pair : ValueId) (index : ℕ) → PrintableOp f (Op.Part w pair index) → TypedOp f (Op.Part w pair index) → (call : Option OverflowCall) → k.call ≡ call →
      IfSome call (λ (c : OverflowCall). AreOperands f w c.a c.b × AreOfWidth f w c.a c.b) →
      FitsChange f k (Op.Part w pair index) (chain call (number_cell k.a) (number_cell k.b) (number_cell k.c) (bit_cell k.c) k.used (Op.Part w pair index))
  unfolding rest_of
  part_fits w pair index printable typed None is h = stays (Op.Part w pair index) printable typed refl
  part_fits w pair index printable typed (Some c) is h = at (nat_eq index 0 && is_only (bit_cell k.c) 0) refl
    where
      operands_are : (bin : Bin) (flags : Flags) → IfSome k.call (λ (d : OverflowCall). pair_of_width w c.a c.b ≡ pair_of_width w d.a d.b)
      operands_are bin flags = subst (λ (o : Option OverflowCall). IfSome o (λ (d : OverflowCall). pair_of_width w c.a c.b ≡ pair_of_width w d.a d.b)) (sym is) refl

      at : (s : Bool) → (nat_eq index 0 && is_only (bit_cell k.c) 0) ≡ s →
          FitsChange f k (Op.Part w pair index) (
          let op = plain_if s (overflow_arith c.over) (range_of_overflow c.over) w c.a c.b (Op.Part w pair index) in
          let u = unsigned_form (number_cell k.a) (number_cell k.b) op in
          or_kept (narrow_width k.used (number_cell k.a) (number_cell k.b) u) u (after_gain (Some c) (number_cell k.a) (number_cell k.b) (number_cell k.c) (bit_cell k.c) u))
      at false e = stays (Op.Part w pair index) printable typed refl
      at true e =
          let zero : nat_eq index 0 ≡ true = (and_parts (nat_eq index 0) (is_only (bit_cell k.c) 0) e).0 in
          plain_fits (Some c) (number_cell k.a) (number_cell k.b) (number_cell k.c) (bit_cell k.c) (Op.Part w pair index) (overflow_arith c.over) (range_of_overflow c.over) k.used w c.a c.b
          h.0 h.1 (sym (ap (λ (t : Bool). if t then Ty.Int w else Ty.Int 1) zero)) operands_are

  by_operation : (op : Op) → IsFitting f k op → FitsChange f k op (chain k.call (number_cell k.a) (number_cell k.b) (number_cell k.c) (bit_cell k.c) k.used op)
  by_operation (Op.Bin bin flags w a b) fits = bin_fits k.used k.call (number_cell k.a) (number_cell k.b) (number_cell k.c) (bit_cell k.c) bin flags w a b fits.printable.0 fits.printable.1 fits.typed
  by_operation (Op.Icmp pred samesign w a b) fits = record { printable = fits.printable; typed = fits.typed; same_type = refl; operands = refl }
  by_operation (Op.Select w c a b) fits =
      let z = number_cell k.c in select_fits k.call (number_cell k.a) (number_cell k.b) z (bit_cell k.c) (single_of z.width (in_cell z)) w c a b fits.printable fits.typed
  by_operation (Op.Cast cast flags v w a) fits =
      let x = number_cell k.a in
      record {
        printable = (more_cast_words x flags (unsigned_cast cast x) w (unsigned_cast_words x flags cast fits.printable.0), fits.printable.1, fits.printable.2, fits.printable.3);
        typed = (fits.typed.0, converts_alike x flags cast v w fits.typed.1);
        same_type = refl;
        operands = refl;
      }
  by_operation (Op.Freeze w a) fits =
      let x = number_cell k.a in freeze_fits k.call x (number_cell k.b) (number_cell k.c) (bit_cell k.c) x.never_poison w a fits.printable fits.typed
  by_operation (Op.Two fun w a b) fits = two_fits k.call (number_cell k.a) (number_cell k.b) (number_cell k.c) (bit_cell k.c) k.used fun w a b fits.printable fits.typed
  by_operation (Op.One fun w a strict) fits = stays (Op.One fun w a strict) fits.printable fits.typed refl
  by_operation (Op.Over over w a b) fits = stays (Op.Over over w a b) fits.printable fits.typed refl
  by_operation (Op.Part w pair index) fits = part_fits w pair index fits.printable fits.typed k.call refl fits.call
  by_operation (Op.Assume c) fits = assume_fits k.call (number_cell k.a) (number_cell k.b) (number_cell k.c) (bit_cell k.c) (is_only (number_cell k.c) 1) c fits.printable fits.typed
  by_operation (Op.Call width place) fits = stays (Op.Call width place) fits.printable fits.typed refl

pub changed_fits : (f : Function) (k : Known) (op : Op) → IsFitting f k op → FitsChange f k op (changed k op)
changed_fits f k op fits = subst (FitsChange f k op) (chain_is k op) (by_operation f k op fits)
