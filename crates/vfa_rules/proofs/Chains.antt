-- The rules in their order, as one choice after another.
use Rattle.std.proofs.Common.{◌≡◌, ℕ, Bool, true, false, ◌&&◌, cond, refl, sym, ◌∙◌, ap, Option, Some, None, List, [], ◌∷◌}
use Rattle.std.specs.Prelude.{fold}
use Rattle.vfa_ir.specs.declared.operations.Bin.{Bin}
use Rattle.vfa_ir.specs.declared.operations.Fun2.{Fun2}
use Rattle.vfa_ir.specs.declared.operations.Op.{Op}
use Rattle.vfa_ir.specs.declared.operations.Operand.{Operand}
use Rattle.vfa_ir.specs.declared.operations.Over.{Over}
use Rattle.vfa_ir.specs.declared.operations.ValueId.{ValueId}
use Rattle.vfa_mean.specs.Rows.{overflow_arith}
use Rattle.vfa_word.specs.declared.arith.Arith.{Arith}
use Rattle.vfa_wrap.specs.declared.reading.Reading.{Reading}
use Rattle.vfa_fact.specs.CellCuts.{cell_ends}
use Rattle.vfa_fact.specs.Cells.{CellValue}
use Rattle.vfa_rules.specs.declared.change.Change.{Change}
use Rattle.vfa_rules.specs.declared.change.OverflowCall.{OverflowCall}
use Rattle.vfa_rules.specs.Facts.{number_cell, bit_cell}
use Rattle.vfa_rules.specs.Order.{Known, Rule, NarrowedDivision, PlainArithmetic, UnsignedForm, GainedWords, FrozenAlready, AssumedAlready, KeptOperand, then_by, changed}
use Rattle.vfa_rules.specs.Ready.{is_division}
use Rattle.vfa_rules.specs.Rules.{replaced, chosen_arm, kept_operand, plain_arithmetic, plain_if, plain, no_wrap, unsigned_form, unsigned_binary, divides_unsigned, narrowed, narrow_width, lesser_width, extracted, range_of_overflow, gained_words, frozen_operand, without_assume}

-- the operand takes the place, or what else becomes of it
abbrev pub or_else : Option Operand → Change → Change
or_else (Some u) rest = Change.Uses u
or_else None rest = rest

abbrev pub or_kept : Option ℕ → Op → Change → Change
or_kept (Some v) op rest = Change.Narrow op v
or_kept None op rest = rest

module _ (call : Option OverflowCall) (x y z bit : CellValue) where
  abbrev pub after_gain : Op → Change
  after_gain op = let gained = gained_words x y op in or_else (frozen_operand x gained) (without_assume z gained)

  abbrev pub plain_unsigned : Op → Op
  plain_unsigned op = unsigned_form x y (plain_arithmetic call bit x y op)

  abbrev pub chain : Bool → Op → Change
  chain used op = or_else (chosen_arm z op) (or_else (kept_operand x y op)
      (or_kept (narrow_width used x y (plain_unsigned op)) (plain_unsigned op) (after_gain (plain_unsigned op))))

module _ (k : Known) where
  last : (o : Option Operand) (op : Op) → or_else o (without_assume (number_cell k.c) op) ≡ fold (then_by k) (replaced op o) (AssumedAlready ∷ [])
  last (Some u) op = refl
  last None op = refl

  narrows : (o : Option ℕ) (op : Op) →
      or_kept o op (after_gain k.call (number_cell k.a) (number_cell k.b) (number_cell k.c) (bit_cell k.c) op)
      ≡ fold (then_by k) (narrowed op o) (GainedWords ∷ FrozenAlready ∷ AssumedAlready ∷ [])
  narrows (Some v) op = refl
  narrows None op = let gained = gained_words (number_cell k.a) (number_cell k.b) op in last (frozen_operand (number_cell k.a) gained) gained

  keeps : (o : Option Operand) (op : Op) →
      or_else o (
      let u = plain_unsigned k.call (number_cell k.a) (number_cell k.b) (number_cell k.c) (bit_cell k.c) op in
      or_kept (narrow_width k.used (number_cell k.a) (number_cell k.b) u) u (after_gain k.call (number_cell k.a) (number_cell k.b) (number_cell k.c) (bit_cell k.c) u))
      ≡ fold (then_by k) (replaced op o) (PlainArithmetic ∷ UnsignedForm ∷ NarrowedDivision ∷ GainedWords ∷ FrozenAlready ∷ AssumedAlready ∷ [])
  keeps (Some u) op = refl
  keeps None op =
      let u = plain_unsigned k.call (number_cell k.a) (number_cell k.b) (number_cell k.c) (bit_cell k.c) op in
      narrows (narrow_width k.used (number_cell k.a) (number_cell k.b) u) u

  chooses : (o : Option Operand) (op : Op) →
      or_else o (or_else (kept_operand (number_cell k.a) (number_cell k.b) op) (
      let u = plain_unsigned k.call (number_cell k.a) (number_cell k.b) (number_cell k.c) (bit_cell k.c) op in
      or_kept (narrow_width k.used (number_cell k.a) (number_cell k.b) u) u (after_gain k.call (number_cell k.a) (number_cell k.b) (number_cell k.c) (bit_cell k.c) u)))
      ≡ fold (then_by k) (replaced op o) (KeptOperand ∷ PlainArithmetic ∷ UnsignedForm ∷ NarrowedDivision ∷ GainedWords ∷ FrozenAlready ∷ AssumedAlready ∷ [])
  chooses (Some u) op = refl
  chooses None op = keeps (kept_operand (number_cell k.a) (number_cell k.b) op) op

  pub chain_is : (op : Op) → chain k.call (number_cell k.a) (number_cell k.b) (number_cell k.c) (bit_cell k.c) k.used op ≡ changed k op
  unfolding changed
  chain_is op = chooses (chosen_arm (number_cell k.c) op) op

-- ---- the exits of the code

module _ (k : Known) (op : Op) (x y z bit : CellValue) (ex : x ≡ number_cell k.a) (ey : y ≡ number_cell k.b) (ez : z ≡ number_cell k.c) (eb : bit ≡ bit_cell k.c) where
  whole : chain k.call x y z bit k.used op ≡ changed k op
  whole = (λ i. chain k.call (ex i) (ey i) (ez i) (eb i) k.used op) ∙ chain_is k op

  u : Op
  u = plain_unsigned k.call x y z bit op

  module _ (arm : Option Operand) (ea : arm ≡ chosen_arm z op) where
    from_arm : (o : Option Operand) → arm ≡ o →
        or_else o (or_else (kept_operand x y op) (or_kept (narrow_width k.used x y (plain_unsigned k.call x y z bit op)) (plain_unsigned k.call x y z bit op) (after_gain k.call x y z bit (plain_unsigned k.call x y z bit op)))) ≡ changed k op
    from_arm o is = ap (λ p. or_else p (or_else (kept_operand x y op) (or_kept (narrow_width k.used x y (plain_unsigned k.call x y z bit op)) (plain_unsigned k.call x y z bit op) (after_gain k.call x y z bit (plain_unsigned k.call x y z bit op))))) (sym is ∙ ea) ∙ whole

    pub by_arm : (v : Operand) → arm ≡ Some v → Change.Uses v ≡ changed k op
    by_arm v is = from_arm (Some v) is

    module _ (none : arm ≡ None) (kept : Option Operand) (ek : kept ≡ kept_operand x y op) where
      from_kept : (o : Option Operand) → kept ≡ o →
          or_else o (or_kept (narrow_width k.used x y (plain_unsigned k.call x y z bit op)) (plain_unsigned k.call x y z bit op) (after_gain k.call x y z bit (plain_unsigned k.call x y z bit op))) ≡ changed k op
      from_kept o is = ap (λ p. or_else p (or_kept (narrow_width k.used x y (plain_unsigned k.call x y z bit op)) (plain_unsigned k.call x y z bit op) (after_gain k.call x y z bit (plain_unsigned k.call x y z bit op)))) (sym is ∙ ek) ∙ from_arm None none

      pub by_kept : (v : Operand) → kept ≡ Some v → Change.Uses v ≡ changed k op
      by_kept v is = from_kept (Some v) is

      module _ (no_kept : kept ≡ None) (p r : Op) (ep : p ≡ plain_arithmetic k.call bit x y op) (er : r ≡ unsigned_form x y p) (narrow : Option ℕ) (en : narrow ≡ narrow_width k.used x y r) where
        same : r ≡ plain_unsigned k.call x y z bit op
        same = er ∙ ap (unsigned_form x y) ep

        from_narrow : (o : Option ℕ) → narrow ≡ o → or_kept o r (after_gain k.call x y z bit r) ≡ changed k op
        from_narrow o is = ap (λ n. or_kept n r (after_gain k.call x y z bit r)) (sym is ∙ en)
            ∙ ap (λ (s : Op). or_kept (narrow_width k.used x y s) s (after_gain k.call x y z bit s)) same ∙ from_kept None no_kept

        pub by_narrow : (v : ℕ) → narrow ≡ Some v → Change.Narrow r v ≡ changed k op
        by_narrow v is = from_narrow (Some v) is

        module _ (no_narrow : narrow ≡ None) (g : Op) (eg : g ≡ gained_words x y r) (frozen : Option Operand) (ef : frozen ≡ frozen_operand x g) where
          from_frozen : (o : Option Operand) → frozen ≡ o → or_else o (without_assume z g) ≡ changed k op
          from_frozen o is = ap (λ q. or_else q (without_assume z g)) (sym is ∙ ef)
              ∙ ap (λ (s : Op). or_else (frozen_operand x s) (without_assume z s)) eg ∙ from_narrow None no_narrow

          pub by_frozen : (v : Operand) → frozen ≡ Some v → Change.Uses v ≡ changed k op
          by_frozen v is = from_frozen (Some v) is

          pub by_assume : (change : Change) → frozen ≡ None → change ≡ without_assume z g → change ≡ changed k op
          by_assume change is ec = ec ∙ from_frozen None is

-- ---- whether the result is used matters for divisions alone

abbrev divides : Op → Bool
divides (Op.Bin bin flags w a b) = divides_unsigned bin
divides _ = false

no_width : (used : Bool) (x y : CellValue) (op : Op) → divides op ≡ false → narrow_width used x y op ≡ None
no_width used x y (Op.Bin bin flags w a b) e = ap (λ d. cond (d && used) (lesser_width w (cell_ends x) (cell_ends y)) None) e
no_width used x y (Op.Icmp _ _ _ _ _) e = refl
no_width used x y (Op.Select _ _ _ _) e = refl
no_width used x y (Op.Cast _ _ _ _ _) e = refl
no_width used x y (Op.Freeze _ _) e = refl
no_width used x y (Op.Two _ _ _ _) e = refl
no_width used x y (Op.One _ _ _ _) e = refl
no_width used x y (Op.Over _ _ _ _) e = refl
no_width used x y (Op.Part _ _ _) e = refl
no_width used x y (Op.Assume _) e = refl
no_width used x y (Op.Call _ _) e = refl

module _ (x y : CellValue) where
  undivided_plain : (s : Bool) (arith : Arith) (r : Reading) (w : ℕ) (a b : Operand) (op : Op) → divides (unsigned_form x y op) ≡ false →
      divides (unsigned_form x y (plain_if s arith r w a b op)) ≡ false
  undivided_plain true Arith.Add r w a b op h = refl
  undivided_plain true Arith.Sub r w a b op h = refl
  undivided_plain true Arith.Mul r w a b op h = refl
  undivided_plain true Arith.Shl r w a b op h = refl
  undivided_plain false arith r w a b op h = h

  undivided_two : (call : Option OverflowCall) (bit : CellValue) (fun : Fun2) (w : ℕ) (a b : Operand) → divides (unsigned_form x y (plain_arithmetic call bit x y (Op.Two fun w a b))) ≡ false
  undivided_two call bit Fun2.Umin w a b = refl
  undivided_two call bit Fun2.Umax w a b = refl
  undivided_two call bit Fun2.Smin w a b = refl
  undivided_two call bit Fun2.Smax w a b = refl
  undivided_two call bit Fun2.UaddSat w a b = undivided_plain _ Arith.Add Reading.Unsigned w a b (Op.Two Fun2.UaddSat w a b) refl
  undivided_two call bit Fun2.UsubSat w a b = undivided_plain _ Arith.Sub Reading.Unsigned w a b (Op.Two Fun2.UsubSat w a b) refl
  undivided_two call bit Fun2.SaddSat w a b = undivided_plain _ Arith.Add Reading.Signed w a b (Op.Two Fun2.SaddSat w a b) refl
  undivided_two call bit Fun2.SsubSat w a b = undivided_plain _ Arith.Sub Reading.Signed w a b (Op.Two Fun2.SsubSat w a b) refl

  undivided_part : (call : Option OverflowCall) (bit : CellValue) (w : ℕ) (pair : ValueId) (index : ℕ) → divides (unsigned_form x y (extracted call bit w pair index)) ≡ false
  undivided_part None bit w pair index = refl
  undivided_part (Some c) bit w pair index = undivided_plain _ (overflow_arith c.over) (range_of_overflow c.over) w c.a c.b (Op.Part w pair index) refl

  shifted : (s : Bool) → divides_unsigned (cond s Bin.Lshr Bin.Ashr) ≡ false
  shifted true = refl
  shifted false = refl

  undivided : (call : Option OverflowCall) (z bit : CellValue) (op : Op) → is_division op ≡ false → divides (plain_unsigned call x y z bit op) ≡ false
  undivided call z bit (Op.Bin Bin.Add flags w a b) e = refl
  undivided call z bit (Op.Bin Bin.Sub flags w a b) e = refl
  undivided call z bit (Op.Bin Bin.Mul flags w a b) e = refl
  undivided call z bit (Op.Bin Bin.Shl flags w a b) e = refl
  undivided call z bit (Op.Bin Bin.Udiv flags w a b) e = absurd (cc)
  undivided call z bit (Op.Bin Bin.Sdiv flags w a b) e = absurd (cc)
  undivided call z bit (Op.Bin Bin.Lshr flags w a b) e = refl
  undivided call z bit (Op.Bin Bin.Ashr flags w a b) e = shifted _
  undivided call z bit (Op.Bin Bin.Urem flags w a b) e = absurd (cc)
  undivided call z bit (Op.Bin Bin.Srem flags w a b) e = absurd (cc)
  undivided call z bit (Op.Bin Bin.And flags w a b) e = refl
  undivided call z bit (Op.Bin Bin.Or flags w a b) e = refl
  undivided call z bit (Op.Bin Bin.Xor flags w a b) e = refl
  undivided call z bit (Op.Icmp _ _ _ _ _) e = refl
  undivided call z bit (Op.Select _ _ _ _) e = refl
  undivided call z bit (Op.Cast _ _ _ _ _) e = refl
  undivided call z bit (Op.Freeze _ _) e = refl
  undivided call z bit (Op.Two fun w a b) e = undivided_two call bit fun w a b
  undivided call z bit (Op.One _ _ _ _) e = refl
  undivided call z bit (Op.Over _ _ _ _) e = refl
  undivided call z bit (Op.Part w pair index) e = undivided_part call bit w pair index
  undivided call z bit (Op.Assume _) e = refl
  undivided call z bit (Op.Call _ _) e = refl

-- of an operation that does not divide it is no matter whether its result is used
pub used_alike : (k : Known) (op : Op) (used : Bool) → is_division op ≡ false → changed (record k { used = used }) op ≡ changed k op
used_alike k op used e =
    let x = number_cell k.a in let y = number_cell k.b in let z = number_cell k.c in let bit = bit_cell k.c in
    let none = λ (u : Bool). no_width u x y (plain_unsigned k.call x y z bit op) (undivided x y k.call z bit op e) in
    sym (chain_is (record k { used = used }) op)
    ∙ ap (λ o. or_else (chosen_arm z op) (or_else (kept_operand x y op) (or_kept o (plain_unsigned k.call x y z bit op) (after_gain k.call x y z bit (plain_unsigned k.call x y z bit op))))) (none used ∙ sym (none k.used))
    ∙ chain_is k op

-- the code asks only for a division whether its result is used
pub asked_used : (k : Known) (op : Op) (asked used : Bool) → asked ≡ is_division op → changed (record k { used = asked && used }) op ≡ changed (record k { used = used }) op
asked_used k op true used e = refl
asked_used k op false used e = used_alike k op false (sym e) ∙ sym (used_alike k op used (sym e))
