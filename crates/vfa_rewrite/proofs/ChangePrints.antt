-- What a table of facts and the rules make of an instruction may be printed: flags fit, and it has a result where it had one.
use Rattle.std.proofs.Common.{◌≡◌, ℕ, ◌&&◌, Bool, true, false, nat_eq, if◌then◌else◌, Option, Some, None, List, [], ◌∷◌, is_some, refl, sym, subst}
use Rattle.std.specs.Prelude.{IfSome}
use Rattle.std.specs.Option.{option_map}
use Rattle.std.specs.List.{fold}
use Rattle.vfa_ir.specs.declared.operations.Bin.{Bin}
use Rattle.vfa_ir.specs.declared.operations.Flags.{Flags}
use Rattle.vfa_ir.specs.declared.operations.Fun2.{Fun2}
use Rattle.vfa_ir.specs.declared.operations.Op.{Op}
use Rattle.vfa_ir.specs.declared.operations.Operand.{Operand}
use Rattle.vfa_ir.specs.declared.operations.ValueId.{ValueId}
use Rattle.vfa_ir.specs.declared.functions.Function.{Function}
use Rattle.vfa_ir.specs.declared.functions.Inst.{Inst}
use Rattle.vfa_ir.specs.Printable.{IsPrintable, HasItsResult, AreOperands, PrintableOp, PrintableInst, PrintableBlock}
use Rattle.vfa_ir.specs.Typed.{Typed, AreOfWidth}
use Rattle.vfa_word.specs.declared.arith.Arith.{Arith}
use Rattle.vfa_wrap.specs.declared.reading.Reading.{Reading}
use Rattle.vfa_dom.specs.Sets.{single_of}
use Rattle.vfa_fact.specs.Cells.{in_cell}
use Rattle.vfa_mean.specs.Moments.{At, is_call}
use Rattle.vfa_mean.specs.Rows.{overflow_arith}
use Rattle.vfa_walk.proofs.TruthTypes.{each_of, line_is_typed, IsTypedOp}
use Rattle.vfa_rules.specs.declared.change.Change.{Change}
use Rattle.vfa_rules.specs.declared.change.OverflowCall.{OverflowCall}
use Rattle.vfa_rules.specs.Conditions.{is_only, stays_in_range}
use Rattle.vfa_rules.specs.Facts.{number_cell, bit_cell}
use Rattle.vfa_rules.specs.Order.{Known, Rule, PlainArithmetic, UnsignedForm, NarrowedDivision, GainedWords, FrozenAlready, AssumedAlready, KeptOperand, then_by, changed}
use Rattle.vfa_rules.specs.Rules.{replaced, first_or_second, binary_gives_first, binary_gives, extreme_gives, plain, no_wrap, plain_if, range_of_overflow, extracted, unsigned_binary, narrowed, narrow_width}
use Rattle.vfa_rules.specs.Shapes.{FitsCall, FitsChange, IsFitting}
use Rattle.vfa_rules.specs.Uses.{overflow_call}
use Rattle.vfa_rules.proofs.Fitting.{changed_fits}
use Rattle.vfa_rules.proofs.Found.{has_source}
use Rattle.vfa_rewrite.specs.ByFacts.{FactState, FactTable, fact_state, facts_known, change_in, findings_of}
use Rattle.vfa_rewrite.specs.Findings.{operation_of, ChangesPrint}
use Rattle.vfa_rewrite.specs.Rewritten.{line_of}

-- ---- results

-- the operation after the change has a result where the one before has
abbrev StillHas : Op → Change → Type 0
StillHas op change = (r : Option ValueId) → HasItsResult op r → HasItsResult (operation_of change op) r

module _ (k : Known) where
  abbrev later : Change → List Rule → Change
  later change rules = fold (then_by k) change rules

  module _ (bin : Bin) (flags : Flags) (w : ℕ) (a b : Operand) where
    abbrev unsigned : Bin
    unsigned = unsigned_binary bin (number_cell k.a) (number_cell k.b)

    after_narrowing : (o : Option ℕ) → StillHas (Op.Bin bin flags w a b) (later (narrowed (Op.Bin unsigned flags w a b) o) (GainedWords ∷ (FrozenAlready ∷ (AssumedAlready ∷ []))))
    after_narrowing None r h = h
    after_narrowing (Some v) r h = h

    after_kept : (s t : Bool) → StillHas (Op.Bin bin flags w a b)
        (later (replaced (Op.Bin bin flags w a b) (first_or_second s t a b)) (PlainArithmetic ∷ (UnsignedForm ∷ (NarrowedDivision ∷ (GainedWords ∷ (FrozenAlready ∷ (AssumedAlready ∷ [])))))))
    after_kept true t r h = h
    after_kept false true r h = h
    after_kept false false r h = after_narrowing (narrow_width k.used (number_cell k.a) (number_cell k.b) (Op.Bin unsigned flags w a b)) r h

    bin_still : StillHas (Op.Bin bin flags w a b) (changed k (Op.Bin bin flags w a b))
    unfolding changed
    bin_still r h = after_kept (binary_gives_first bin (number_cell k.a) (number_cell k.b)) (binary_gives bin (number_cell k.b) (number_cell k.a)) r h

  abbrev plain_later : Change → Change
  plain_later change = fold (then_by k) change (UnsignedForm ∷ (NarrowedDivision ∷ (GainedWords ∷ (FrozenAlready ∷ (AssumedAlready ∷ [])))))

  plain_still : (old : Op) (op : Arith) (flags : Flags) (w : ℕ) (a b : Operand) (r : Option ValueId) →
      HasItsResult (Op.Bin (plain op) flags w a b) r → HasItsResult (operation_of (plain_later (Change.Keep (Op.Bin (plain op) flags w a b))) old) r
  plain_still old Arith.Add flags w a b r h = h
  plain_still old Arith.Sub flags w a b r h = h
  plain_still old Arith.Mul flags w a b r h = h
  plain_still old Arith.Shl flags w a b r h = h

  two_as_bin : (fun : Fun2) (bin : Bin) (flags : Flags) (w : ℕ) (a b : Operand) (r : Option ValueId) → HasItsResult (Op.Two fun w a b) r → HasItsResult (Op.Bin bin flags w a b) r
  two_as_bin fun bin flags w a b None h = h
  two_as_bin fun bin flags w a b (Some v) h = tt

  plain_or_two : (fun : Fun2) (w : ℕ) (a b : Operand) (t : Bool) (op : Arith) (reading : Reading) → StillHas (Op.Two fun w a b) (plain_later (Change.Keep (plain_if t op reading w a b (Op.Two fun w a b))))
  plain_or_two fun w a b true op reading r h = plain_still (Op.Two fun w a b) op (no_wrap reading) w a b r (two_as_bin fun (plain op) (no_wrap reading) w a b r h)
  plain_or_two fun w a b false op reading r h = h

  two_after_kept : (fun : Fun2) (w : ℕ) (a b : Operand) → (s t : Bool) → StillHas (Op.Two fun w a b)
      (later (replaced (Op.Two fun w a b) (first_or_second s t a b)) (PlainArithmetic ∷ (UnsignedForm ∷ (NarrowedDivision ∷ (GainedWords ∷ (FrozenAlready ∷ (AssumedAlready ∷ [])))))))
  two_after_kept fun w a b true t r h = h
  two_after_kept fun w a b false true r h = h
  two_after_kept Fun2.Umin w a b false false r h = h
  two_after_kept Fun2.Umax w a b false false r h = h
  two_after_kept Fun2.Smin w a b false false r h = h
  two_after_kept Fun2.Smax w a b false false r h = h
  two_after_kept Fun2.UaddSat w a b false false r h =
      plain_or_two Fun2.UaddSat w a b (stays_in_range Arith.Add Reading.Unsigned (number_cell k.a) (number_cell k.b)) Arith.Add Reading.Unsigned r h
  two_after_kept Fun2.UsubSat w a b false false r h =
      plain_or_two Fun2.UsubSat w a b (stays_in_range Arith.Sub Reading.Unsigned (number_cell k.a) (number_cell k.b)) Arith.Sub Reading.Unsigned r h
  two_after_kept Fun2.SaddSat w a b false false r h =
      plain_or_two Fun2.SaddSat w a b (stays_in_range Arith.Add Reading.Signed (number_cell k.a) (number_cell k.b)) Arith.Add Reading.Signed r h
  two_after_kept Fun2.SsubSat w a b false false r h =
      plain_or_two Fun2.SsubSat w a b (stays_in_range Arith.Sub Reading.Signed (number_cell k.a) (number_cell k.b)) Arith.Sub Reading.Signed r h

  two_still : (fun : Fun2) (w : ℕ) (a b : Operand) → StillHas (Op.Two fun w a b) (changed k (Op.Two fun w a b))
  unfolding changed
  two_still fun w a b r h = two_after_kept fun w a b (extreme_gives fun (number_cell k.a) (number_cell k.b)) (extreme_gives fun (number_cell k.b) (number_cell k.a)) r h

  module _ (w : ℕ) (pair : ValueId) (index : ℕ) where
    part_as_bin : (bin : Bin) (flags : Flags) (a b : Operand) (r : Option ValueId) → HasItsResult (Op.Part w pair index) r → HasItsResult (Op.Bin bin flags w a b) r
    part_as_bin bin flags a b None h = h
    part_as_bin bin flags a b (Some v) h = tt

    part_by : (o : Option OverflowCall) → StillHas (Op.Part w pair index) (plain_later (Change.Keep (extracted o (bit_cell k.c) w pair index)))
    part_by None r h = h
    part_by (Some call) r h = by (nat_eq index 0) (is_only (bit_cell k.c) 0)
      where
        by : (s t : Bool) → HasItsResult (operation_of (plain_later (Change.Keep (plain_if (s && t) (overflow_arith call.over) (range_of_overflow call.over) w call.a call.b (Op.Part w pair index)))) (Op.Part w pair index)) r
        by true true = plain_still (Op.Part w pair index) (overflow_arith call.over) (no_wrap (range_of_overflow call.over)) w call.a call.b r
            (part_as_bin (plain (overflow_arith call.over)) (no_wrap (range_of_overflow call.over)) call.a call.b r h)
        by true false = h
        by false t = h

    part_still : StillHas (Op.Part w pair index) (changed k (Op.Part w pair index))
    unfolding changed
    part_still r h = part_by k.call r h

  select_still : (w : ℕ) (c a b : Operand) → StillHas (Op.Select w c a b) (changed k (Op.Select w c a b))
  unfolding changed
  select_still w c a b r h = by (single_of (number_cell k.c).width (in_cell (number_cell k.c)))
    where
      arm : (t : Bool) → HasItsResult (operation_of (Change.Uses (if t then b else a)) (Op.Select w c a b)) r
      arm t = h

      by : (o : Option ℕ) → HasItsResult (operation_of (later (replaced (Op.Select w c a b) (option_map (λ n. if nat_eq n 0 then b else a) o))
          (KeptOperand ∷ (PlainArithmetic ∷ (UnsignedForm ∷ (NarrowedDivision ∷ (GainedWords ∷ (FrozenAlready ∷ (AssumedAlready ∷ [])))))))) (Op.Select w c a b)) r
      by None = h
      by (Some n) = arm (nat_eq n 0)

  freeze_still : (w : ℕ) (a : Operand) → StillHas (Op.Freeze w a) (changed k (Op.Freeze w a))
  unfolding changed
  freeze_still w a r h = by (number_cell k.a).never_poison
    where
      by : (t : Bool) → HasItsResult (operation_of (later (replaced (Op.Freeze w a) (if t then Some a else None)) (AssumedAlready ∷ [])) (Op.Freeze w a)) r
      by true = h
      by false = h

  assume_still : (c : Operand) → StillHas (Op.Assume c) (changed k (Op.Assume c))
  unfolding changed
  assume_still c r h = by (is_only (number_cell k.c) 1)
    where
      by : (t : Bool) → HasItsResult (operation_of (if t then Change.Gone else Change.Keep (Op.Assume c)) (Op.Assume c)) r
      by true = h
      by false = h

  still_has : (op : Op) → is_call op ≡ false → StillHas op (changed k op)
  unfolding changed
  still_has (Op.Bin bin flags w a b) none r h = bin_still bin flags w a b r h
  still_has (Op.Icmp pred samesign w a b) none r h = h
  still_has (Op.Select w c a b) none r h = select_still w c a b r h
  still_has (Op.Cast cast flags v w a) none r h = h
  still_has (Op.Freeze w a) none r h = freeze_still w a r h
  still_has (Op.Two fun w a b) none r h = two_still fun w a b r h
  still_has (Op.One fun w a strict) none r h = h
  still_has (Op.Over over w a b) none r h = h
  still_has (Op.Part w pair index) none r h = part_still w pair index r h
  still_has (Op.Assume c) none r h = assume_still c r h
  still_has (Op.Call w c) none r h = absurd (cc)

-- ---- widths, numbers and flags

operation_prints : (f : Function) (k : Known) (op : Op) (c : Change) → PrintableOp f op → FitsChange f k op c → PrintableOp f (operation_of c op)
operation_prints f k op (Change.Keep o) old fits = fits.printable
operation_prints f k op (Change.Narrow o v) old fits = fits.0.printable
operation_prints f k op (Change.Uses u) old fits = old
operation_prints f k op Change.Gone old fits = old

module _ (f : Function) (printable : IsPrintable f) (typed : Typed f) where
  -- the overflow intrinsic of a part has operands of its width
  call_fits : (w : ℕ) (pair : ValueId) (index : ℕ) (o : Option OverflowCall) → overflow_call f (Op.Part w pair index) ≡ o → IfSome o (λ (c : OverflowCall). AreOperands f w c.a c.b × AreOfWidth f w c.a c.b)
  call_fits w pair index None e = tt
  call_fits w pair index (Some call) e =
      let l = has_source f w index pair call e in
      let is = subst (λ op. IsTypedOp f op) l.operation (line_is_typed f printable typed l.block_number l.line_number l.block l.inst l.line) in
      (is.ranges, is.operands)

  pub fitting : (s : FactState) (inst : Inst) → IsTypedOp f inst.op → IsFitting f (facts_known f s inst) inst.op
  fitting s inst is = record { printable = is.ranges; typed = is.operands; call = by inst.op refl }
    where
      by : (op : Op) → inst.op ≡ op → FitsCall f (facts_known f s inst) op
      by (Op.Part w pair index) e =
          subst (λ o. IfSome (overflow_call f o) (λ (c : OverflowCall). AreOperands f w c.a c.b × AreOfWidth f w c.a c.b)) (sym e) (call_fits w pair index (overflow_call f (Op.Part w pair index)) refl)
      by (Op.Bin bin flags w a b) e = tt
      by (Op.Icmp pred samesign w a b) e = tt
      by (Op.Select w c a b) e = tt
      by (Op.Cast cast flags v w a) e = tt
      by (Op.Freeze w a) e = tt
      by (Op.Two fun w a b) e = tt
      by (Op.One fun w a strict) e = tt
      by (Op.Over over w a b) e = tt
      by (Op.Assume c) e = tt
      by (Op.Call w call) e = tt

  pub changes_print : (t : FactTable) → ChangesPrint f (findings_of f t)
  changes_print t b block i inst line met none = by (fact_state f t (At b i)) met
    where
      old : PrintableInst f inst
      old = each_of (PrintableInst f) block.insts i inst (each_of (PrintableBlock f) f.blocks b block printable.blocks line.there).insts line.stands

      by : (o : Option FactState) → is_some o ≡ true → PrintableInst f (line_of inst.result (operation_of (change_in f o inst) inst.op))
      by None met = absurd (cc)
      by (Some s) met = record {
        result = still_has (facts_known f s inst) inst.op none inst.result old.result;
        op = operation_prints f (facts_known f s inst) inst.op (changed (facts_known f s inst) inst.op) old.op
            (changed_fits f (facts_known f s inst) inst.op (fitting s inst (line_is_typed f printable typed b i block inst line)));
      }
