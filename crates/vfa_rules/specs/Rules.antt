-- What facts about its operands make of one instruction, a rule at a time, after LLVM's Correlated Value Propagation (its
-- processBinOp, processSaturatingInst, processOverflowIntrinsic, processSDiv, processSRem, processAShr, processSExt,
-- narrowUDivOrURem) and InstCombine. A rule leaves an instruction as it is where its condition does not hold.
use Rattle.std.specs.Prelude.{ℕ, ◌^◌, Bool, true, false, ◌&&◌, ◌||◌, nat_eq, nat_lt, List, [], ◌∷◌, find, Option, Some, None, if◌then◌else◌}
use Rattle.std.specs.Option.{option_map}
use Rattle.vfa_word.specs.declared.arith.Arith.{Arith}
use Rattle.vfa_dom.specs.Sets.{single_of}
use Rattle.vfa_ir.specs.declared.operations.Bin.{Bin}
use Rattle.vfa_ir.specs.declared.operations.Cast.{Cast}
use Rattle.vfa_ir.specs.declared.operations.CastFlags.{CastFlags}
use Rattle.vfa_ir.specs.declared.operations.Flags.{Flags}
use Rattle.vfa_ir.specs.declared.operations.Fun2.{Fun2}
use Rattle.vfa_ir.specs.declared.operations.Op.{Op}
use Rattle.vfa_ir.specs.declared.operations.Operand.{Operand}
use Rattle.vfa_ir.specs.declared.operations.Over.{Over}
use Rattle.vfa_ir.specs.declared.operations.Pred.{Pred}
use Rattle.vfa_ir.specs.declared.operations.ValueId.{ValueId}
use Rattle.vfa_wrap.specs.Ends.{EndsOf}
use Rattle.vfa_wrap.specs.declared.reading.Reading.{Reading}
use Rattle.vfa_fact.specs.CellCuts.{cell_ends}
use Rattle.vfa_fact.specs.Cells.{CellValue, in_cell}
use Rattle.vfa_mean.specs.Rows.{overflow_arith, has_signed_range}
use Rattle.vfa_rules.specs.declared.change.Change.{Change}
use Rattle.vfa_rules.specs.declared.change.OverflowCall.{OverflowCall}
use Rattle.vfa_rules.specs.Conditions.{is_only, all_less, all_at_most, all_at_most_signed, is_natural, have_one_sign, fits_width, fits_width_signed, ones_are_covered, ones_are_apart, numbers_pass, stays_in_range}

-- the operand takes the place of the instruction's result, where there is one
abbrev pub replaced : Op → Option Operand → Change
replaced op (Some u) = Change.Uses u
replaced op None = Change.Keep op

-- ---- chosen arm: a `select` whose condition is one number becomes its arm

abbrev pub chosen_arm : CellValue → Op → Option Operand
chosen_arm condition (Op.Select w c a b) =
    option_map (λ n. if nat_eq n 0 then b else a) (single_of condition.width (in_cell condition))
chosen_arm condition op = None

-- ---- kept operand: an operation that gives one of its operands becomes it; the first where it gives both

-- whether the operation gives the kept operand, by the kept and the other: `and` where each place at which the kept may have
-- a one is a one of the other, `or` where each at which the other may have one is a one of the kept
abbrev pub binary_gives : Bin → CellValue → CellValue → Bool
binary_gives Bin.And kept other = numbers_pass ones_are_covered kept other
binary_gives Bin.Or kept other = numbers_pass ones_are_covered other kept
binary_gives _ kept other = false

-- `urem` by more than the dividend gives the dividend
abbrev pub binary_gives_first : Bin → CellValue → CellValue → Bool
binary_gives_first Bin.Urem x y = all_less x y
binary_gives_first bin x y = binary_gives bin x y

-- the lesser and the greater of two that are in order
abbrev pub extreme_gives : Fun2 → CellValue → CellValue → Bool
extreme_gives Fun2.Umin kept other = all_at_most kept other
extreme_gives Fun2.Umax kept other = all_at_most other kept
extreme_gives Fun2.Smin kept other = all_at_most_signed kept other
extreme_gives Fun2.Smax kept other = all_at_most_signed other kept
extreme_gives _ kept other = false

abbrev pub first_or_second : Bool → Bool → Operand → Operand → Option Operand
first_or_second first second a b = if first then Some a else (if second then Some b else None)

abbrev pub kept_operand : CellValue → CellValue → Op → Option Operand
kept_operand x y (Op.Bin bin flags w a b) = first_or_second (binary_gives_first bin x y) (binary_gives bin y x) a b
kept_operand x y (Op.Two fun w a b) = first_or_second (extreme_gives fun x y) (extreme_gives fun y x) a b
kept_operand x y op = None

-- ---- saturation to plain arithmetic, and the number of an overflow intrinsic: where no whole result leaves the range the
-- operation is the plain one, which does not wrap

abbrev pub no_wrap : Reading → Flags
no_wrap Reading.Unsigned = record { nuw = true; nsw = false; exact = false; disjoint = false }
no_wrap Reading.Signed = record { nuw = false; nsw = true; exact = false; disjoint = false }

abbrev pub plain : Arith → Bin
plain Arith.Add = Bin.Add
plain Arith.Sub = Bin.Sub
plain Arith.Mul = Bin.Mul
plain Arith.Shl = Bin.Shl

abbrev pub plain_if : Bool → Arith → Reading → ℕ → Operand → Operand → Op → Op
plain_if stays arith reading w a b op = if stays then Op.Bin (plain arith) (no_wrap reading) w a b else op

abbrev pub unsaturated : Fun2 → CellValue → CellValue → ℕ → Operand → Operand → Op
unsaturated Fun2.UaddSat x y w a b = plain_if (stays_in_range Arith.Add Reading.Unsigned x y) Arith.Add Reading.Unsigned w a b (Op.Two Fun2.UaddSat w a b)
unsaturated Fun2.UsubSat x y w a b = plain_if (stays_in_range Arith.Sub Reading.Unsigned x y) Arith.Sub Reading.Unsigned w a b (Op.Two Fun2.UsubSat w a b)
unsaturated Fun2.SaddSat x y w a b = plain_if (stays_in_range Arith.Add Reading.Signed x y) Arith.Add Reading.Signed w a b (Op.Two Fun2.SaddSat w a b)
unsaturated Fun2.SsubSat x y w a b = plain_if (stays_in_range Arith.Sub Reading.Signed x y) Arith.Sub Reading.Signed w a b (Op.Two Fun2.SsubSat w a b)
unsaturated fun x y w a b = Op.Two fun w a b

abbrev pub range_of_overflow : Over → Reading
range_of_overflow over = if has_signed_range over then Reading.Signed else Reading.Unsigned

-- the number of the pair, where its bit is 0 alone
abbrev pub extracted : Option OverflowCall → CellValue → ℕ → ValueId → ℕ → Op
extracted (Some call) bit w pair index =
    plain_if (nat_eq index 0 && is_only bit 0) (overflow_arith call.over) (range_of_overflow call.over) w call.a call.b (Op.Part w pair index)
extracted None bit w pair index = Op.Part w pair index

abbrev pub plain_arithmetic : Option OverflowCall → CellValue → CellValue → CellValue → Op → Op
plain_arithmetic call bit x y (Op.Two fun w a b) = unsaturated fun x y w a b
plain_arithmetic call bit x y (Op.Part w pair index) = extracted call bit w pair index
plain_arithmetic call bit x y op = op

-- ---- signed to unsigned: an operation whose signed operands are not negative becomes the unsigned one, and so does a
-- signed comparison of numbers of one sign

abbrev pub unsigned_binary : Bin → CellValue → CellValue → Bin
unsigned_binary Bin.Sdiv x y = if is_natural x && is_natural y then Bin.Udiv else Bin.Sdiv
unsigned_binary Bin.Srem x y = if is_natural x && is_natural y then Bin.Urem else Bin.Srem
unsigned_binary Bin.Ashr x y = if is_natural x then Bin.Lshr else Bin.Ashr
unsigned_binary bin x y = bin

abbrev pub unsigned_cast : Cast → CellValue → Cast
unsigned_cast Cast.Sext x = if is_natural x then Cast.Zext else Cast.Sext
unsigned_cast cast x = cast

abbrev pub unsigned_order : Pred → Pred
unsigned_order Pred.Sgt = Pred.Ugt
unsigned_order Pred.Sge = Pred.Uge
unsigned_order Pred.Slt = Pred.Ult
unsigned_order Pred.Sle = Pred.Ule
unsigned_order pred = pred

-- with `samesign` the numbers are of one sign, or the result is poison
abbrev pub unsigned_predicate : Pred → Bool → CellValue → CellValue → Pred
unsigned_predicate pred samesign x y = if samesign || have_one_sign x y then unsigned_order pred else pred

abbrev pub unsigned_form : CellValue → CellValue → Op → Op
unsigned_form x y (Op.Bin bin flags w a b) = Op.Bin (unsigned_binary bin x y) flags w a b
unsigned_form x y (Op.Cast cast flags v w a) = Op.Cast (unsigned_cast cast x) flags v w a
unsigned_form x y (Op.Icmp pred samesign w a b) = Op.Icmp (unsigned_predicate pred samesign x y) samesign w a b
unsigned_form x y op = op

-- ---- narrowed division: `udiv` or `urem` of numbers that a lesser width has is done at that width

-- the widths that processors divide at
abbrev pub division_widths : List ℕ
division_widths = 8 ∷ 16 ∷ 32 ∷ 64 ∷ []

-- the least of them at which both greatest numbers are
abbrev pub width_for : EndsOf → EndsOf → Option ℕ
width_for x y = find (λ v. nat_lt x.hi (2 ^ v) && nat_lt y.hi (2 ^ v)) division_widths

abbrev pub if_below : ℕ → Option ℕ → Option ℕ
if_below w (Some v) = if nat_lt v w then Some v else None
if_below w None = None

abbrev pub lesser_width : ℕ → Option EndsOf → Option EndsOf → Option ℕ
lesser_width w (Some x) (Some y) = if_below w (width_for x y)
lesser_width w (Some x) None = None
lesser_width w None y = None

abbrev pub divides_unsigned : Bin → Bool
divides_unsigned Bin.Udiv = true
divides_unsigned Bin.Urem = true
divides_unsigned _ = false

abbrev pub narrowed : Op → Option ℕ → Change
narrowed op (Some v) = Change.Narrow op v
narrowed op None = Change.Keep op

-- only where the result is used
abbrev pub narrow_width : Bool → CellValue → CellValue → Op → Option ℕ
narrow_width used x y (Op.Bin bin flags w a b) = if divides_unsigned bin && used then lesser_width w (cell_ends x) (cell_ends y) else None
narrow_width used x y op = None

-- ---- gained words: a word that no numbers of the facts break is added to those that the operation has

abbrev pub gained_no_wrap : Arith → Flags → CellValue → CellValue → Flags
gained_no_wrap op flags x y = record flags {
  nuw = flags.nuw || stays_in_range op Reading.Unsigned x y;
  nsw = flags.nsw || stays_in_range op Reading.Signed x y;
}

abbrev pub gained_flags : Bin → Flags → CellValue → CellValue → Flags
gained_flags Bin.Add flags x y = gained_no_wrap Arith.Add flags x y
gained_flags Bin.Sub flags x y = gained_no_wrap Arith.Sub flags x y
gained_flags Bin.Mul flags x y = gained_no_wrap Arith.Mul flags x y
gained_flags Bin.Shl flags x y = gained_no_wrap Arith.Shl flags x y
gained_flags Bin.Or flags x y = record flags { disjoint = flags.disjoint || numbers_pass ones_are_apart x y }
gained_flags bin flags x y = flags

abbrev pub gained_cast_flags : Cast → CastFlags → ℕ → CellValue → CastFlags
gained_cast_flags Cast.Zext flags w x = record flags { nneg = flags.nneg || is_natural x }
gained_cast_flags Cast.Trunc flags w x = record flags {
  nuw = flags.nuw || fits_width w x;
  nsw = flags.nsw || fits_width_signed w x;
}
gained_cast_flags cast flags w x = flags

-- the predicates other than `eq` and `ne`
abbrev pub is_order : Pred → Bool
is_order Pred.Eq = false
is_order Pred.Ne = false
is_order _ = true

abbrev pub gained_words : CellValue → CellValue → Op → Op
gained_words x y (Op.Bin bin flags w a b) = Op.Bin bin (gained_flags bin flags x y) w a b
gained_words x y (Op.Cast cast flags v w a) = Op.Cast cast (gained_cast_flags cast flags w x) v w a
gained_words x y (Op.Icmp pred samesign w a b) = Op.Icmp pred (samesign || (is_order pred && have_one_sign x y)) w a b
gained_words x y op = op

-- ---- frozen already: a `freeze` of what is never poison becomes its operand

abbrev pub frozen_operand : CellValue → Op → Option Operand
frozen_operand x (Op.Freeze w a) = if x.never_poison then Some a else None
frozen_operand x op = None

-- ---- assumed already: an `assume` of a condition whose one number is 1 goes

abbrev pub without_assume : CellValue → Op → Change
without_assume condition (Op.Assume c) = if is_only condition 1 then Change.Gone else Change.Keep (Op.Assume c)
without_assume condition op = Change.Keep op
