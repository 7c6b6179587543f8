-- What an instruction gives after the rules is allowed by what it gave before.
use Rattle.std.proofs.Common.{◌≡◌, ℕ, ◌≤◌, ◌<◌, ◌^◌, Bool, true, false, ◌&&◌, ◌||◌, if◌then◌else◌, refl, sym, ◌∙◌, ap, subst, lit≤, Option, Some, None}
use Rattle.std.specs.Prelude.{nat_eq, IfSome}
use Rattle.std.specs.Option.{option_map}
use Rattle.std.proofs.lemmas.Bool.{true≢false, and_parts, eqb-true}
use Rattle.vfa_ir.specs.declared.operations.Bin.{Bin}
use Rattle.vfa_ir.specs.declared.operations.Cast.{Cast}
use Rattle.vfa_ir.specs.declared.operations.CastFlags.{CastFlags}
use Rattle.vfa_ir.specs.declared.operations.Flags.{Flags}
use Rattle.vfa_ir.specs.declared.operations.Fun1.{Fun1}
use Rattle.vfa_ir.specs.declared.operations.Fun2.{Fun2}
use Rattle.vfa_ir.specs.declared.operations.Op.{Op}
use Rattle.vfa_ir.specs.declared.operations.Operand.{Operand}
use Rattle.vfa_ir.specs.declared.operations.Over.{Over}
use Rattle.vfa_ir.specs.declared.operations.Pred.{Pred}
use Rattle.vfa_ir.specs.declared.operations.Ty.{Ty}
use Rattle.vfa_ir.specs.declared.operations.ValueId.{ValueId}
use Rattle.vfa_ir.specs.Typed.{Converts}
use Rattle.vfa_word.specs.Numbers.{IsWidth}
use Rattle.vfa_word.specs.declared.arith.Arith.{Arith}
use Rattle.vfa_dom.specs.Sets.{single_of}
use Rattle.vfa_wrap.specs.declared.reading.Reading.{Reading}
use Rattle.vfa_fact.specs.declared.cell.Parts.{Parts}
use Rattle.vfa_fact.specs.CellCuts.{cell_ends}
use Rattle.vfa_fact.specs.Cells.{CellValue, in_cell}
use Rattle.vfa_mean.specs.declared.value.Done.{Done}
use Rattle.vfa_mean.specs.declared.value.Val.{Val}
use Rattle.vfa_mean.specs.Values.{Env, operand_value, AllowsValue}
use Rattle.vfa_mean.specs.Laws.{AllowsDone, AllowsResult, is_freeze}
use Rattle.vfa_mean.specs.Meaning.{Result, Undefined, Gave, Allowed, Gives, binary, assumed, chosen, frozen, part_of, of_one, of_two, done, done_in, operand_a, operand_b, operand_c}
use Rattle.vfa_mean.specs.Moments.{is_call}
use Rattle.vfa_mean.specs.Operands.{IsOperation}
use Rattle.vfa_mean.specs.Rows.{bit_of, overflow_arith, with_overflow, two_numbers, compare, convert}
use Rattle.vfa_mean.proofs.Refining.{AllowsValue-refl}
use Rattle.vfa_mean.proofs.Results.{one_result}
use Rattle.vfa_values.specs.Conditions.{IsOf, width_of}
use Rattle.vfa_rules.specs.declared.change.Change.{Change}
use Rattle.vfa_rules.specs.declared.change.OverflowCall.{OverflowCall}
use Rattle.vfa_rules.specs.Conditions.{is_only, stays_in_range}
use Rattle.vfa_rules.specs.Facts.{type_of_parts, AreCells, CellHolds, PartsHold, number_cell, bit_cell}
use Rattle.vfa_rules.specs.Order.{Known, changed}
use Rattle.vfa_rules.specs.Results.{AreFactsFor, FactsHold, ChangeGives, IsAllowed, AllowsChange, AllowsUses, AllowsDropped, IsSoundAt, IsSound}
use Rattle.vfa_rules.specs.Rules.{chosen_arm, kept_operand, first_or_second, binary_gives, binary_gives_first, extreme_gives, plain, plain_if, plain_arithmetic, extracted, no_wrap, range_of_overflow, unsigned_form, unsigned_binary, unsigned_cast, unsigned_predicate, divides_unsigned, lesser_width, narrow_width, gained_words, gained_flags, frozen_operand, without_assume}
use Rattle.vfa_rules.proofs.Allowing.{same_done, value_allows, AllowsResult-refl, AllowsResult-trans, AllowsDone-trans}
use Rattle.vfa_rules.proofs.BinaryGained.{gained_sound}
use Rattle.vfa_rules.proofs.BinaryKept.{gives_first, gives_second, extreme_first, extreme_second}
use Rattle.vfa_rules.proofs.BinaryUnsigned.{unsigned_sound}
use Rattle.vfa_rules.proofs.Chains.{chain, chain_is, or_else, or_kept, after_gain, plain_unsigned}
use Rattle.vfa_rules.proofs.Converted.{cast_unsigned_sound, cast_gained_sound}
use Rattle.vfa_rules.proofs.Lifting.{Held, number_shown}
use Rattle.vfa_rules.proofs.Narrowing.{narrow_fits, narrowed_sound}
use Rattle.vfa_rules.proofs.OneSign.{predicate_sound, samesign_sound}
use Rattle.vfa_rules.proofs.Shown.{only_tells, single_is}
use Rattle.vfa_rules.proofs.Unclamped.{sum_unsigned, difference_unsigned, sum_signed, difference_signed, extracted_sound, HasNoOverflow}

-- the cell of an operand's fact holds of its value
held : (w : ℕ) (p : Parts) (v : Val) → IsOf type_of_parts AreCells (Ty.Int w) p → PartsHold p v → Held w (number_cell p) v
held w (Parts.One c) v is h = record { width = ap width_of is.typed; holds = h }
held w (Parts.Two c d) v is h = absurd (let e = is.typed in cc)

-- ---- changes that are sound

module _ (env : Env) where
  pub keeps : (op op' : Op) → AllowsDone (done_in op env) (done_in op' env) → IsSoundAt op env (Change.Keep op')
  keeps op op' h = record {
    results = record { each = λ r' given. let a = h.each r' given in record { result = a.0; gives = a.1; allows = a.2 } };
    replaced = tt;
    dropped = tt;
  }

  same : (op : Op) → IsSoundAt op env (Change.Keep op)
  same op = keeps op op (same_done _ _ refl)

  -- of an operation with one result
  uses : (op : Op) (u : Operand) → is_freeze op ≡ false → AllowsDone (done_in op env) (Done.Is (operand_value env u)) → IsSoundAt op env (Change.Uses u)
  uses op u fixed h = record {
    results = record { each = λ r' given. let a = h.each r' given in record { result = a.0; gives = a.1; allows = a.2 } };
    replaced = λ v gave.
        let a = h.each (Gave (operand_value env u)) refl in
        subst (λ r. AllowsResult r (Gave (operand_value env u)))
        (one_result op (operand_value env (operand_a op)) (operand_value env (operand_b op)) (operand_value env (operand_c op)) a.0 (Gave v) fixed a.1 gave) a.2;
    dropped = tt;
  }

  -- ---- two operands of one width

  module _ (w : ℕ) (one : 1 ≤ w) (call : Option OverflowCall) (x y z bit : CellValue) (a b : Operand)
      (p : Held w x (operand_value env a)) (q : Held w y (operand_value env b)) where
    bin_reformed : (bin : Bin) (flags : Flags) → AllowsDone (binary bin flags w (operand_value env a) (operand_value env b))
        (binary (unsigned_binary bin x y) (gained_flags (unsigned_binary bin x y) flags x y) w (operand_value env a) (operand_value env b))
    bin_reformed bin flags = AllowsDone-trans _ _ _
        (unsigned_sound w one x y (operand_value env a) (operand_value env b) p q bin flags)
        (gained_sound w one x y (operand_value env a) (operand_value env b) p q (unsigned_binary bin x y) flags)

    bin_narrowed : (bin : Bin) (flags : Flags) (used : Bool) (n : ℕ) → narrow_width used x y (Op.Bin (unsigned_binary bin x y) flags w a b) ≡ Some n →
        IsSoundAt (Op.Bin bin flags w a b) env (Change.Narrow (Op.Bin (unsigned_binary bin x y) flags w a b) n)
    unfolding done
    bin_narrowed bin flags used n e = record {
      results = record {
        each = λ r' given.
            let asked = narrow_asked (divides_unsigned (unsigned_binary bin x y) && used) _ n e in
            let fits = narrow_fits w n x y asked.1 in
            let d = narrowed_sound w n one x y fits.0 fits.1 (operand_value env a) (operand_value env b) p q (unsigned_binary bin x y) flags r'
            (and_parts (divides_unsigned (unsigned_binary bin x y)) used asked.0).0 given in
            let c = (unsigned_sound w one x y (operand_value env a) (operand_value env b) p q bin flags).each d.result d.gives in
            record { result = c.0; gives = c.1; allows = AllowsResult-trans c.0 d.result r' c.2 d.allows };
      };
      replaced = tt;
      dropped = tt;
    }
      where
        narrow_asked : (t : Bool) (o : Option ℕ) (n : ℕ) → (if t then o else None) ≡ Some n → (t ≡ true) × (o ≡ Some n)
        narrow_asked true o n e = (refl, e)
        narrow_asked false o n e = absurd (cc)

    bin_sound : (used : Bool) (bin : Bin) (flags : Flags) → IsSoundAt (Op.Bin bin flags w a b) env (chain call x y z bit used (Op.Bin bin flags w a b))
    unfolding done
    bin_sound used bin flags = at (binary_gives_first bin x y) refl (binary_gives bin y x) refl (narrow_width used x y (Op.Bin (unsigned_binary bin x y) flags w a b)) refl
      where
        at : (s : Bool) → binary_gives_first bin x y ≡ s → (t : Bool) → binary_gives bin y x ≡ t → (o : Option ℕ) →
            narrow_width used x y (Op.Bin (unsigned_binary bin x y) flags w a b) ≡ o →
            IsSoundAt (Op.Bin bin flags w a b) env (or_else (first_or_second s t a b) (or_kept o (Op.Bin (unsigned_binary bin x y) flags w a b)
            (Change.Keep (Op.Bin (unsigned_binary bin x y) (gained_flags (unsigned_binary bin x y) flags x y) w a b))))
        at true es t et o eo = uses (Op.Bin bin flags w a b) a refl (gives_first w one x y (operand_value env a) (operand_value env b) p q bin flags es)
        at false es true et o eo = uses (Op.Bin bin flags w a b) b refl (gives_second w one x y (operand_value env a) (operand_value env b) p q bin flags et)
        at false es false et (Some n) eo = bin_narrowed bin flags used n eo
        at false es false et None eo = keeps (Op.Bin bin flags w a b) _ (bin_reformed bin flags)

    -- an operation that becomes plain arithmetic, and words that this gains
    plain_sound : (op : Op) (arith : Arith) (r : Reading) (used : Bool) → AllowsDone (done_in op env) (binary (plain arith) (no_wrap r) w (operand_value env a) (operand_value env b)) →
        IsSoundAt op env (let bin = Op.Bin (plain arith) (no_wrap r) w a b in
        or_kept (narrow_width used x y (unsigned_form x y bin)) (unsigned_form x y bin) (after_gain call x y z bit (unsigned_form x y bin)))
    unfolding done
    plain_sound op Arith.Add r used h = keeps op _ (AllowsDone-trans _ _ _ h (gained_sound w one x y (operand_value env a) (operand_value env b) p q Bin.Add (no_wrap r)))
    plain_sound op Arith.Sub r used h = keeps op _ (AllowsDone-trans _ _ _ h (gained_sound w one x y (operand_value env a) (operand_value env b) p q Bin.Sub (no_wrap r)))
    plain_sound op Arith.Mul r used h = keeps op _ (AllowsDone-trans _ _ _ h (gained_sound w one x y (operand_value env a) (operand_value env b) p q Bin.Mul (no_wrap r)))
    plain_sound op Arith.Shl r used h = keeps op _ (AllowsDone-trans _ _ _ h (gained_sound w one x y (operand_value env a) (operand_value env b) p q Bin.Shl (no_wrap r)))

    abbrev rest_of : Bool → Op → Change
    rest_of used op = or_kept (narrow_width used x y (unsigned_form x y op)) (unsigned_form x y op) (after_gain call x y z bit (unsigned_form x y op))

    saturation_sound : (fun : Fun2) (arith : Arith) (r : Reading) (used : Bool) →
        (stays_in_range arith r x y ≡ true → AllowsDone (of_two (two_numbers fun w) (operand_value env a) (operand_value env b)) (binary (plain arith) (no_wrap r) w (operand_value env a) (operand_value env b))) →
        IsSoundAt (Op.Two fun w a b) env (rest_of used (plain_if (stays_in_range arith r x y) arith r w a b (Op.Two fun w a b)))
    unfolding done
    saturation_sound fun arith r used h = at (stays_in_range arith r x y) refl
      where
        at : (s : Bool) → stays_in_range arith r x y ≡ s → IsSoundAt (Op.Two fun w a b) env (rest_of used (plain_if s arith r w a b (Op.Two fun w a b)))
        at true e = plain_sound (Op.Two fun w a b) arith r used (h e)
        at false e = same (Op.Two fun w a b)

    extreme_sound : (fun : Fun2) → IsSoundAt (Op.Two fun w a b) env (or_else (first_or_second (extreme_gives fun x y) (extreme_gives fun y x) a b) (Change.Keep (Op.Two fun w a b)))
    unfolding done
    extreme_sound fun = at (extreme_gives fun x y) refl (extreme_gives fun y x) refl
      where
        at : (s : Bool) → extreme_gives fun x y ≡ s → (t : Bool) → extreme_gives fun y x ≡ t →
            IsSoundAt (Op.Two fun w a b) env (or_else (first_or_second s t a b) (Change.Keep (Op.Two fun w a b)))
        at true es t et = uses (Op.Two fun w a b) a refl (extreme_first w one x y (operand_value env a) (operand_value env b) p q fun es)
        at false es true et = uses (Op.Two fun w a b) b refl (extreme_second w one x y (operand_value env a) (operand_value env b) p q fun et)
        at false es false et = same (Op.Two fun w a b)

    two_operands_sound : (used : Bool) (fun : Fun2) → IsSoundAt (Op.Two fun w a b) env (chain call x y z bit used (Op.Two fun w a b))
    two_operands_sound used Fun2.Umin = extreme_sound Fun2.Umin
    two_operands_sound used Fun2.Umax = extreme_sound Fun2.Umax
    two_operands_sound used Fun2.Smin = extreme_sound Fun2.Smin
    two_operands_sound used Fun2.Smax = extreme_sound Fun2.Smax
    two_operands_sound used Fun2.UaddSat = saturation_sound Fun2.UaddSat Arith.Add Reading.Unsigned used (sum_unsigned w one x y (operand_value env a) (operand_value env b) p q)
    two_operands_sound used Fun2.UsubSat = saturation_sound Fun2.UsubSat Arith.Sub Reading.Unsigned used (difference_unsigned w one x y (operand_value env a) (operand_value env b) p q)
    two_operands_sound used Fun2.SaddSat = saturation_sound Fun2.SaddSat Arith.Add Reading.Signed used (sum_signed w one x y (operand_value env a) (operand_value env b) p q)
    two_operands_sound used Fun2.SsubSat = saturation_sound Fun2.SsubSat Arith.Sub Reading.Signed used (difference_signed w one x y (operand_value env a) (operand_value env b) p q)

    icmp_sound : (used : Bool) (pred : Pred) (samesign : Bool) → IsSoundAt (Op.Icmp pred samesign w a b) env (chain call x y z bit used (Op.Icmp pred samesign w a b))
    unfolding done
    icmp_sound used pred samesign = keeps (Op.Icmp pred samesign w a b) _ (AllowsDone-trans _ _ _
        (predicate_sound w one x y (operand_value env a) (operand_value env b) p q pred samesign)
        (samesign_sound w one x y (operand_value env a) (operand_value env b) p q (unsigned_predicate pred samesign x y) samesign))

  -- ---- one operand

  module _ (call : Option OverflowCall) (x y z bit : CellValue) where
    arm_value : (t : Bool) (a b : Operand) → (if t then operand_value env b else operand_value env a) ≡ operand_value env (if t then b else a)
    arm_value true a b = refl
    arm_value false a b = refl

    arm_allowed : (a b : Operand) (n : ℕ) → single_of z.width (in_cell z) ≡ Some n → (v : Val) → Held 1 z v →
        AllowsDone (chosen v (operand_value env a) (operand_value env b)) (Done.Is (operand_value env (if nat_eq n 0 then b else a)))
    arm_allowed a b n is (Val.Number m) h =
        let number = number_shown 1 (lit≤ tt) z m h in
        same_done _ _ (ap Done.Is (ap (λ (i : ℕ). if nat_eq i 0 then operand_value env b else operand_value env a) (single_is 1 z m number n is) ∙ arm_value (nat_eq n 0) a b))
    arm_allowed a b n is Val.Poison h = value_allows Val.Poison _ tt
    arm_allowed a b n is (Val.Pair m o) h = absurd h.holds

    select_sound : (used : Bool) (w : ℕ) (c a b : Operand) → Held 1 z (operand_value env c) → IsSoundAt (Op.Select w c a b) env (chain call x y z bit used (Op.Select w c a b))
    unfolding done
    select_sound used w c a b h = at (single_of z.width (in_cell z)) refl
      where
        at : (o : Option ℕ) → single_of z.width (in_cell z) ≡ o →
            IsSoundAt (Op.Select w c a b) env (or_else (option_map (λ n. if nat_eq n 0 then b else a) o) (Change.Keep (Op.Select w c a b)))
        at None is = same (Op.Select w c a b)
        at (Some n) is = uses (Op.Select w c a b) (if nat_eq n 0 then b else a) refl (arm_allowed a b n is (operand_value env c) h)

    cast_sound : (used : Bool) (v w : ℕ) → 1 ≤ v → (cast : Cast) (flags : CastFlags) → Converts cast v w → (a : Operand) → Held v x (operand_value env a) →
        IsSoundAt (Op.Cast cast flags v w a) env (chain call x y z bit used (Op.Cast cast flags v w a))
    unfolding done
    cast_sound used v w one cast flags converts a h = keeps (Op.Cast cast flags v w a) _ (AllowsDone-trans _ _ _
        (cast_unsigned_sound v w one x (operand_value env a) h cast flags converts)
        (cast_gained_sound v w one x (operand_value env a) h (unsigned_cast cast x) flags))

    frozen_is : (w : ℕ) → x.never_poison ≡ true → (v : Val) → Held w x v → frozen w v ≡ Done.Is v
    frozen_is w never (Val.Number m) h = refl
    frozen_is w never Val.Poison h = absurd (true≢false (sym never ∙ h.holds))
    frozen_is w never (Val.Pair m o) h = absurd h.holds

    same_value : (v v' : Val) → Gave v' ≡ Gave v → AllowsValue v' v
    same_value v v' e = let is : v' ≡ v = cc in subst (AllowsValue v') is (AllowsValue-refl v')

    freeze_sound : (used : Bool) (w : ℕ) (a : Operand) → Held w x (operand_value env a) → IsSoundAt (Op.Freeze w a) env (chain call x y z bit used (Op.Freeze w a))
    unfolding done
    freeze_sound used w a h = at x.never_poison refl
      where
        at : (t : Bool) → x.never_poison ≡ t → IsSoundAt (Op.Freeze w a) env (or_else (if t then Some a else None) (Change.Keep (Op.Freeze w a)))
        at false e = same (Op.Freeze w a)
        at true e =
            let is = frozen_is w e (operand_value env a) h in
            record {
              results = record {
                each = λ r' given. record {
                  result = r';
                  gives = subst (λ d. Allowed d r') (sym is) given;
                  allows = AllowsResult-refl r';
                };
              };
              replaced = λ v gave. same_value (operand_value env a) v (subst (λ d. Allowed d (Gave v)) is gave);
              dropped = tt;
            }

    true_value : is_only z 1 ≡ true → (v : Val) → Held 1 z v → AllowsValue v (Val.Number 1)
    true_value e (Val.Number m) h = ap Val.Number (only_tells 1 z m (number_shown 1 (lit≤ tt) z m h) 1 e)
    true_value e Val.Poison h = tt
    true_value e (Val.Pair m o) h = absurd h.holds

    true_allowed : (v : Val) → AllowsValue v (Val.Number 1) → (r' : Result) → r' ≡ Gave (Val.Number 1) → (r : Result) × Allowed (assumed v) r × AllowsResult r r'
    true_allowed (Val.Number m) is r' e = (Gave (Val.Number 1), subst (λ (u : Val). Allowed (assumed u) (Gave (Val.Number 1))) (sym is) refl, subst (AllowsResult (Gave (Val.Number 1))) (sym e) refl)
    true_allowed Val.Poison is r' e = (Undefined, refl, tt)
    true_allowed (Val.Pair m o) is r' e = (Undefined, refl, tt)

    assume_sound : (used : Bool) (c : Operand) → Held 1 z (operand_value env c) → IsSoundAt (Op.Assume c) env (chain call x y z bit used (Op.Assume c))
    unfolding done
    assume_sound used c h = at (is_only z 1) refl
      where
        at : (t : Bool) → is_only z 1 ≡ t → IsSoundAt (Op.Assume c) env (if t then Change.Gone else Change.Keep (Op.Assume c))
        at false e = same (Op.Assume c)
        at true e =
            let is = true_value e (operand_value env c) h in
            record {
              results = record { each = λ r' given. let a = true_allowed (operand_value env c) is r' given in record { result = a.0; gives = a.1; allows = a.2 } };
              replaced = tt;
              dropped = is;
            }

  -- ---- a part of a pair

  bit_is_off : (w : ℕ) (p : Parts) (v : Val) → IsOf type_of_parts AreCells (Ty.Pair w) p → PartsHold p v → is_only (bit_cell p) 0 ≡ true → HasNoOverflow v
  bit_is_off w (Parts.One c) v is h e = absurd (let k = is.typed in cc)
  bit_is_off w (Parts.Two c d) (Val.Number m) is h e = tt
  bit_is_off w (Parts.Two c d) Val.Poison is h e = tt
  bit_is_off w (Parts.Two c d) (Val.Pair m o) is h e =
      only_tells 1 d (bit_of o) (number_shown 1 (lit≤ tt) d (bit_of o) (record { width = is.is_proper.2; holds = h.1 })) 0 e

  number_part : (c : OverflowCall) (w : ℕ) (pair : ValueId) (index : ℕ) → index ≡ 0 → Gives (Op.Over c.over w c.a c.b) env (Gave (env pair.0)) → HasNoOverflow (env pair.0) →
      AllowsDone (done_in (Op.Part w pair index) env) (binary (plain (overflow_arith c.over)) (no_wrap (range_of_overflow c.over)) w (operand_value env c.a) (operand_value env c.b))
  unfolding done
  number_part c w pair index zero given off =
      subst (λ i. AllowsDone (part_of i (env pair.0)) (binary (plain (overflow_arith c.over)) (no_wrap (range_of_overflow c.over)) w (operand_value env c.a) (operand_value env c.b))) (sym zero)
      (extracted_sound c.over w (operand_value env c.a) (operand_value env c.b) (env pair.0) given off)

  part_sound : (k : Known) (w : ℕ) → 1 ≤ w → (pair : ValueId) (index : ℕ) (call : Option OverflowCall) →
      IsOf type_of_parts AreCells (Ty.Pair w) k.c → PartsHold k.c (env pair.0) →
      IfSome call (λ (c : OverflowCall). IsOf type_of_parts AreCells (Ty.Int w) k.a × IsOf type_of_parts AreCells (Ty.Int w) k.b) →
      IfSome call (λ (c : OverflowCall). PartsHold k.a (operand_value env c.a) × PartsHold k.b (operand_value env c.b) × Gives (Op.Over c.over w c.a c.b) env (Gave (env pair.0))) →
      IsSoundAt (Op.Part w pair index) env (chain call (number_cell k.a) (number_cell k.b) (number_cell k.c) (bit_cell k.c) k.used (Op.Part w pair index))
  part_sound k w one pair index None of h facts holds = same (Op.Part w pair index)
  part_sound k w one pair index (Some c) of h facts holds = at (nat_eq index 0 && is_only (bit_cell k.c) 0) refl
    where
      at : (s : Bool) → (nat_eq index 0 && is_only (bit_cell k.c) 0) ≡ s →
          IsSoundAt (Op.Part w pair index) env (
          let op = plain_if s (overflow_arith c.over) (range_of_overflow c.over) w c.a c.b (Op.Part w pair index) in
          let u = unsigned_form (number_cell k.a) (number_cell k.b) op in
          or_kept (narrow_width k.used (number_cell k.a) (number_cell k.b) u) u (after_gain (Some c) (number_cell k.a) (number_cell k.b) (number_cell k.c) (bit_cell k.c) u))
      at false e = same (Op.Part w pair index)
      at true e =
          let parts = and_parts (nat_eq index 0) (is_only (bit_cell k.c) 0) e in
          plain_sound w one (Some c) (number_cell k.a) (number_cell k.b) (number_cell k.c) (bit_cell k.c) c.a c.b
          (held w k.a (operand_value env c.a) facts.0 holds.0) (held w k.b (operand_value env c.b) facts.1 holds.1)
          (Op.Part w pair index) (overflow_arith c.over) (range_of_overflow c.over) k.used
          (number_part c w pair index (eqb-true index 0 parts.0) holds.2 (bit_is_off w k.c (env pair.0) of h parts.1))

-- ---- all operations

module _ (k : Known) (env : Env) where
  by_operation : (op : Op) → AreFactsFor k op → (is_call op ≡ false → IsOperation op) → FactsHold k op env →
      IsSoundAt op env (chain k.call (number_cell k.a) (number_cell k.b) (number_cell k.c) (bit_cell k.c) k.used op)
  by_operation (Op.Bin bin flags w a b) facts is hold =
      bin_sound env w (is refl).least k.call (number_cell k.a) (number_cell k.b) (number_cell k.c) (bit_cell k.c) a b
      (held w k.a (operand_value env a) facts.operands.0 hold.operands.0) (held w k.b (operand_value env b) facts.operands.1 hold.operands.1) k.used bin flags
  by_operation (Op.Icmp pred samesign w a b) facts is hold =
      icmp_sound env w (is refl).least k.call (number_cell k.a) (number_cell k.b) (number_cell k.c) (bit_cell k.c) a b
      (held w k.a (operand_value env a) facts.operands.0 hold.operands.0) (held w k.b (operand_value env b) facts.operands.1 hold.operands.1) k.used pred samesign
  by_operation (Op.Select w c a b) facts is hold =
      select_sound env k.call (number_cell k.a) (number_cell k.b) (number_cell k.c) (bit_cell k.c) k.used w c a b (held 1 k.c (operand_value env c) facts.operands.2 hold.operands.2)
  by_operation (Op.Cast cast flags v w a) facts is hold =
      cast_sound env k.call (number_cell k.a) (number_cell k.b) (number_cell k.c) (bit_cell k.c) k.used v w (is refl).0.least cast flags (is refl).2 a (held v k.a (operand_value env a) facts.operands hold.operands)
  by_operation (Op.Freeze w a) facts is hold =
      freeze_sound env k.call (number_cell k.a) (number_cell k.b) (number_cell k.c) (bit_cell k.c) k.used w a (held w k.a (operand_value env a) facts.operands hold.operands)
  by_operation (Op.Two fun w a b) facts is hold =
      two_operands_sound env w (is refl).least k.call (number_cell k.a) (number_cell k.b) (number_cell k.c) (bit_cell k.c) a b
      (held w k.a (operand_value env a) facts.operands.0 hold.operands.0) (held w k.b (operand_value env b) facts.operands.1 hold.operands.1) k.used fun
  by_operation (Op.One fun w a strict) facts is hold = same env (Op.One fun w a strict)
  by_operation (Op.Over over w a b) facts is hold = same env (Op.Over over w a b)
  by_operation (Op.Part w pair index) facts is hold =
      part_sound env k w (is refl).0.least pair index k.call facts.operands hold.operands facts.call_operands hold.call_operands
  by_operation (Op.Assume c) facts is hold =
      assume_sound env k.call (number_cell k.a) (number_cell k.b) (number_cell k.c) (bit_cell k.c) k.used c (held 1 k.c (operand_value env c) facts.operands hold.operands)
  by_operation (Op.Call width place) facts is hold = same env (Op.Call width place)

pub changed_sound : (k : Known) (op : Op) → AreFactsFor k op → (is_call op ≡ false → IsOperation op) → IsSound k op (changed k op)
changed_sound k op facts is env hold = subst (IsSoundAt op env) (chain_is k op) (by_operation k env op facts is hold)
