-- The rules together leave an instruction as it is exactly where each of them does.
use Rattle.std.proofs.Common.{◌≡◌, ℕ, Bool, true, false, ◌&&◌, ◌||◌, if◌then◌else◌, refl, sym, ◌∙◌, ap, subst, Option, Some, None, List, [], ◌∷◌}
use Rattle.std.specs.Prelude.{fold}
use Rattle.vfa_ir.specs.declared.operations.Bin.{Bin}
use Rattle.vfa_ir.specs.declared.operations.Cast.{Cast}
use Rattle.vfa_ir.specs.declared.operations.CastFlags.{CastFlags}
use Rattle.vfa_ir.specs.declared.operations.Flags.{Flags}
use Rattle.vfa_ir.specs.declared.operations.Fun2.{Fun2}
use Rattle.vfa_ir.specs.declared.operations.Op.{Op}
use Rattle.vfa_ir.specs.declared.operations.Operand.{Operand}
use Rattle.vfa_ir.specs.declared.operations.Pred.{Pred}
use Rattle.vfa_ir.specs.declared.operations.ValueId.{ValueId}
use Rattle.vfa_mean.specs.Rows.{overflow_arith}
use Rattle.vfa_word.specs.declared.arith.Arith.{Arith}
use Rattle.vfa_wrap.specs.declared.reading.Reading.{Reading}
use Rattle.vfa_fact.specs.Cells.{CellValue}
use Rattle.vfa_rules.specs.declared.change.Change.{Change}
use Rattle.vfa_rules.specs.declared.change.OverflowCall.{OverflowCall}
use Rattle.vfa_rules.specs.Conditions.{is_only, have_one_sign}
use Rattle.vfa_rules.specs.Facts.{number_cell, bit_cell}
use Rattle.vfa_rules.specs.Order.{Known, Rule, ChosenArm, KeptOperand, PlainArithmetic, UnsignedForm, NarrowedDivision, GainedWords, FrozenAlready, AssumedAlready, by_rule, then_by, changed, IsUnchanged}
use Rattle.vfa_rules.specs.Rules.{replaced, chosen_arm, kept_operand, plain_arithmetic, plain_if, extracted, range_of_overflow, unsigned_form, unsigned_binary, unsigned_cast, unsigned_predicate, narrowed, narrow_width, gained_words, gained_flags, gained_cast_flags, is_order, frozen_operand, without_assume}
use Rattle.vfa_rules.proofs.Chains.{chain, chain_is, or_else, or_kept, after_gain, plain_unsigned}

-- ---- where each rule keeps it

abbrev after : Known → List Rule → Change → Change
after k rest change = fold (then_by k) change rest

pub unchanged_kept : (k : Known) (op : Op) → IsUnchanged k op → changed k op ≡ Change.Keep op
unfolding changed
unchanged_kept k op h =
    ap (after k (KeptOperand ∷ PlainArithmetic ∷ UnsignedForm ∷ NarrowedDivision ∷ GainedWords ∷ FrozenAlready ∷ AssumedAlready ∷ [])) (h ChosenArm)
    ∙ ap (after k (PlainArithmetic ∷ UnsignedForm ∷ NarrowedDivision ∷ GainedWords ∷ FrozenAlready ∷ AssumedAlready ∷ [])) (h KeptOperand)
    ∙ ap (after k (UnsignedForm ∷ NarrowedDivision ∷ GainedWords ∷ FrozenAlready ∷ AssumedAlready ∷ [])) (h PlainArithmetic)
    ∙ ap (after k (NarrowedDivision ∷ GainedWords ∷ FrozenAlready ∷ AssumedAlready ∷ [])) (h UnsignedForm)
    ∙ ap (after k (GainedWords ∷ FrozenAlready ∷ AssumedAlready ∷ [])) (h NarrowedDivision)
    ∙ ap (after k (FrozenAlready ∷ AssumedAlready ∷ [])) (h GainedWords)
    ∙ ap (after k (AssumedAlready ∷ [])) (h FrozenAlready)
    ∙ h AssumedAlready

-- ---- where it stays, each rule keeps it

-- the operation after the rules that change operations
abbrev reformed : Option OverflowCall → (x y bit : CellValue) → Op → Op
reformed call x y bit op = gained_words x y (unsigned_form x y (plain_arithmetic call bit x y op))

record IsSteady (call : Option OverflowCall) (x y bit : CellValue) (op : Op) : Type 0 where
  pub plain : plain_arithmetic call bit x y op ≡ op
  pub unsigned : unsigned_form x y op ≡ op
  pub gained : gained_words x y op ≡ op

module _ (call : Option OverflowCall) (x y bit : CellValue) where
  steady_bin : (bin : Bin) (flags : Flags) (w : ℕ) (a b : Operand) → reformed call x y bit (Op.Bin bin flags w a b) ≡ Op.Bin bin flags w a b → IsSteady call x y bit (Op.Bin bin flags w a b)
  steady_bin bin flags w a b e =
      let same : unsigned_binary bin x y ≡ bin = cc in
      let words : gained_flags (unsigned_binary bin x y) flags x y ≡ flags = cc in
      record {
        plain = refl;
        unsigned = ap (λ (c : Bin). Op.Bin c flags w a b) same;
        gained = ap (λ (f : Flags). Op.Bin bin f w a b) (subst (λ (c : Bin). gained_flags c flags x y ≡ flags) same words);
      }

  steady_cast : (cast : Cast) (flags : CastFlags) (v w : ℕ) (a : Operand) → reformed call x y bit (Op.Cast cast flags v w a) ≡ Op.Cast cast flags v w a → IsSteady call x y bit (Op.Cast cast flags v w a)
  steady_cast cast flags v w a e =
      let same : unsigned_cast cast x ≡ cast = cc in
      let words : gained_cast_flags (unsigned_cast cast x) flags w x ≡ flags = cc in
      record {
        plain = refl;
        unsigned = ap (λ (c : Cast). Op.Cast c flags v w a) same;
        gained = ap (λ (f : CastFlags). Op.Cast cast f v w a) (subst (λ (c : Cast). gained_cast_flags c flags w x ≡ flags) same words);
      }

  steady_icmp : (pred : Pred) (samesign : Bool) (w : ℕ) (a b : Operand) → reformed call x y bit (Op.Icmp pred samesign w a b) ≡ Op.Icmp pred samesign w a b → IsSteady call x y bit (Op.Icmp pred samesign w a b)
  steady_icmp pred samesign w a b e =
      let same : unsigned_predicate pred samesign x y ≡ pred = cc in
      let word : (samesign || (is_order (unsigned_predicate pred samesign x y) && have_one_sign x y)) ≡ samesign = cc in
      record {
        plain = refl;
        unsigned = ap (λ (p : Pred). Op.Icmp p samesign w a b) same;
        gained = ap (λ (s : Bool). Op.Icmp pred s w a b) (subst (λ (p : Pred). (samesign || (is_order p && have_one_sign x y)) ≡ samesign) same word);
      }

  -- an intrinsic that becomes plain arithmetic is not the same
  not_plain_two : (s : Bool) (arith : Arith) (r : Reading) (fun : Fun2) (w : ℕ) (a b : Operand) →
      gained_words x y (unsigned_form x y (plain_if s arith r w a b (Op.Two fun w a b))) ≡ Op.Two fun w a b → plain_if s arith r w a b (Op.Two fun w a b) ≡ Op.Two fun w a b
  not_plain_two true arith r fun w a b e = absurd (cc)
  not_plain_two false arith r fun w a b e = refl

  not_plain_part : (s : Bool) (arith : Arith) (r : Reading) (w : ℕ) (a b : Operand) (pair : ValueId) (index : ℕ) →
      gained_words x y (unsigned_form x y (plain_if s arith r w a b (Op.Part w pair index))) ≡ Op.Part w pair index → plain_if s arith r w a b (Op.Part w pair index) ≡ Op.Part w pair index
  not_plain_part true arith r w a b pair index e = absurd (cc)
  not_plain_part false arith r w a b pair index e = refl

  steady_two : (fun : Fun2) (w : ℕ) (a b : Operand) → reformed call x y bit (Op.Two fun w a b) ≡ Op.Two fun w a b → plain_arithmetic call bit x y (Op.Two fun w a b) ≡ Op.Two fun w a b
  steady_two Fun2.Umin w a b e = refl
  steady_two Fun2.Umax w a b e = refl
  steady_two Fun2.Smin w a b e = refl
  steady_two Fun2.Smax w a b e = refl
  steady_two Fun2.UaddSat w a b e = not_plain_two _ Arith.Add Reading.Unsigned Fun2.UaddSat w a b e
  steady_two Fun2.UsubSat w a b e = not_plain_two _ Arith.Sub Reading.Unsigned Fun2.UsubSat w a b e
  steady_two Fun2.SaddSat w a b e = not_plain_two _ Arith.Add Reading.Signed Fun2.SaddSat w a b e
  steady_two Fun2.SsubSat w a b e = not_plain_two _ Arith.Sub Reading.Signed Fun2.SsubSat w a b e

steady_part : (call : Option OverflowCall) (x y bit : CellValue) (w : ℕ) (pair : ValueId) (index : ℕ) → reformed call x y bit (Op.Part w pair index) ≡ Op.Part w pair index →
    extracted call bit w pair index ≡ Op.Part w pair index
steady_part None x y bit w pair index e = refl
steady_part (Some c) x y bit w pair index e = not_plain_part (Some c) x y bit _ (overflow_arith c.over) (range_of_overflow c.over) w c.a c.b pair index e

steady : (call : Option OverflowCall) (x y bit : CellValue) (op : Op) → reformed call x y bit op ≡ op → IsSteady call x y bit op
steady call x y bit (Op.Bin bin flags w a b) e = steady_bin call x y bit bin flags w a b e
steady call x y bit (Op.Icmp pred samesign w a b) e = steady_icmp call x y bit pred samesign w a b e
steady call x y bit (Op.Select w c a b) e = record { plain = refl; unsigned = refl; gained = refl }
steady call x y bit (Op.Cast cast flags v w a) e = steady_cast call x y bit cast flags v w a e
steady call x y bit (Op.Freeze w a) e = record { plain = refl; unsigned = refl; gained = refl }
steady call x y bit (Op.Two fun w a b) e = record { plain = steady_two call x y bit fun w a b e; unsigned = refl; gained = refl }
steady call x y bit (Op.One fun w a strict) e = record { plain = refl; unsigned = refl; gained = refl }
steady call x y bit (Op.Over over w a b) e = record { plain = refl; unsigned = refl; gained = refl }
steady call x y bit (Op.Part w pair index) e = record { plain = steady_part call x y bit w pair index e; unsigned = refl; gained = refl }
steady call x y bit (Op.Assume c) e = record { plain = refl; unsigned = refl; gained = refl }
steady call x y bit (Op.Call width place) e = record { plain = refl; unsigned = refl; gained = refl }

no_operand : (o : Option Operand) (rest : Change) (op : Op) → or_else o rest ≡ Change.Keep op → (o ≡ None) × (rest ≡ Change.Keep op)
no_operand None rest op e = (refl, e)
no_operand (Some u) rest op e = absurd (cc)

no_narrow : (o : Option ℕ) (u : Op) (rest : Change) (op : Op) → or_kept o u rest ≡ Change.Keep op → (o ≡ None) × (rest ≡ Change.Keep op)
no_narrow None u rest op e = (refl, e)
no_narrow (Some v) u rest op e = absurd (cc)

keep_same : (g op : Op) → Change.Keep g ≡ Change.Keep op → g ≡ op
keep_same g op e = cc

-- what is left over is the same
kept_left : (z : CellValue) (g op : Op) → without_assume z g ≡ Change.Keep op → g ≡ op
kept_left z (Op.Assume c) op e = at (is_only z 1) e
  where
    at : (t : Bool) → (if t then Change.Gone else Change.Keep (Op.Assume c)) ≡ Change.Keep op → Op.Assume c ≡ op
    at true e = absurd (cc)
    at false e = keep_same (Op.Assume c) op e
kept_left z (Op.Bin bin flags w a b) op e = keep_same _ op e
kept_left z (Op.Icmp pred samesign w a b) op e = keep_same _ op e
kept_left z (Op.Select w c a b) op e = keep_same _ op e
kept_left z (Op.Cast cast flags v w a) op e = keep_same _ op e
kept_left z (Op.Freeze w a) op e = keep_same _ op e
kept_left z (Op.Two fun w a b) op e = keep_same _ op e
kept_left z (Op.One fun w a strict) op e = keep_same _ op e
kept_left z (Op.Over over w a b) op e = keep_same _ op e
kept_left z (Op.Part w pair index) op e = keep_same _ op e
kept_left z (Op.Call width place) op e = keep_same _ op e

record AllKept (k : Known) (op : Op) : Type 0 where
  pub arm : chosen_arm (number_cell k.c) op ≡ None
  pub operand : kept_operand (number_cell k.a) (number_cell k.b) op ≡ None
  pub plain : plain_arithmetic k.call (bit_cell k.c) (number_cell k.a) (number_cell k.b) op ≡ op
  pub unsigned : unsigned_form (number_cell k.a) (number_cell k.b) op ≡ op
  pub narrow : narrow_width k.used (number_cell k.a) (number_cell k.b) op ≡ None
  pub gained : gained_words (number_cell k.a) (number_cell k.b) op ≡ op
  pub frozen : frozen_operand (number_cell k.a) op ≡ None
  pub assumed : without_assume (number_cell k.c) op ≡ Change.Keep op

all_kept : (k : Known) (op : Op) → changed k op ≡ Change.Keep op → AllKept k op
all_kept k op e =
    let x = number_cell k.a in let y = number_cell k.b in let z = number_cell k.c in let bit = bit_cell k.c in
    let u = plain_unsigned k.call x y z bit op in
    let arm = no_operand (chosen_arm z op) _ op (chain_is k op ∙ e) in
    let operand = no_operand (kept_operand x y op) _ op arm.1 in
    let narrow = no_narrow (narrow_width k.used x y u) u _ op operand.1 in
    let frozen = no_operand (frozen_operand x (gained_words x y u)) _ op narrow.1 in
    let same : gained_words x y u ≡ op = kept_left z (gained_words x y u) op frozen.1 in
    let s = steady k.call x y bit op same in
    let left : u ≡ op = ap (unsigned_form x y) s.plain ∙ s.unsigned in
    record {
      arm = arm.0;
      operand = operand.0;
      plain = s.plain;
      unsigned = s.unsigned;
      narrow = ap (narrow_width k.used x y) (sym left) ∙ narrow.0;
      gained = s.gained;
      frozen = ap (frozen_operand x) (sym same) ∙ frozen.0;
      assumed = ap (without_assume z) (sym same) ∙ frozen.1;
    }

pub kept_unchanged : (k : Known) (op : Op) → changed k op ≡ Change.Keep op → IsUnchanged k op
kept_unchanged k op e ChosenArm = ap (replaced op) (all_kept k op e).arm
kept_unchanged k op e KeptOperand = ap (replaced op) (all_kept k op e).operand
kept_unchanged k op e PlainArithmetic = ap Change.Keep (all_kept k op e).plain
kept_unchanged k op e UnsignedForm = ap Change.Keep (all_kept k op e).unsigned
kept_unchanged k op e NarrowedDivision = ap (narrowed op) (all_kept k op e).narrow
kept_unchanged k op e GainedWords = ap Change.Keep (all_kept k op e).gained
kept_unchanged k op e FrozenAlready = ap (replaced op) (all_kept k op e).frozen
kept_unchanged k op e AssumedAlready = (all_kept k op e).assumed
