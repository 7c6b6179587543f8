use Rattle.std.proofs.Common.{◌≡◌, ◌<◌, ℕ, ◌^◌, IsTrue, sym, ◌∙◌, subst}
use Rattle.std.proofs.lemmas.Bool.{lt-ltb}
use Rattle.std.proofs.lemmas.Nat.{pow_below}
use Rattle.vfa_ir.specs.declared.operations.Pred.{Pred}
use Rattle.vfa_ir.specs.declared.operations.Ty.{Ty}
use Rattle.vfa_ir.specs.Predicates.{by_order}
use Rattle.vfa_word.specs.Numbers.{IsWidth}
use Rattle.vfa_word.specs.Operations.{equal, unsigned_less, signed_less}
use Rattle.vfa_values.specs.Conditions.{IsInteger, width_of}
use Rattle.vfa_values.proofs.tests.odd_below.Goals as goal

is_below : (w x y : ℕ) → x < y → IsTrue (by_order Pred.Ult equal unsigned_less (signed_less w) x y)
unfolding by_order
is_below w x y less = lt-ltb x y less

one_fits : (w : ℕ) → IsWidth w → 1 < 2 ^ w
one_fits w width = pow_below 0 w width.least

one_fits_type : {V : Type 0} (ty : V → Ty) (w : ℕ) (d : V) → IsWidth w → ty d ≡ Ty.Int w → 1 < 2 ^ width_of (ty d)
one_fits_type ty w d width typed = subst (λ t. 1 < 2 ^ width_of t) (sym typed) (one_fits w width)

pub with_bits-requires-clause-integer : goal.with_bits-requires-clause-integer
with_bits-requires-clause-integer g c =
    let laws = g.met.V.Values.lawful in
    let left = laws.typed.compare _ _ _ Pred.Ult c.requires.value c.requires.bound _ (sym c.compare.ensures ∙ c.in_ok-compare.was) in
    subst IsInteger (sym left.typed) tt

pub with_bits-requires-clause-mask : goal.with_bits-requires-clause-mask
with_bits-requires-clause-mask g c =
    let laws = g.met.V.Values.lawful in
    let left = laws.typed.compare _ _ _ Pred.Ult c.requires.value c.requires.bound _ (sym c.compare.ensures ∙ c.in_ok-compare.was) in
    one_fits_type g.V.Values.ty c.args.width _ c.requires.width left.typed

pub with_bits-requires-clause-value : goal.with_bits-requires-clause-value
with_bits-requires-clause-value g c =
    let laws = g.met.V.Values.lawful in
    let left = laws.typed.compare _ _ _ Pred.Ult c.requires.value c.requires.bound _ (sym c.compare.ensures ∙ c.in_ok-compare.was) in
    one_fits_type g.V.Values.ty c.args.width _ c.requires.width left.typed

pub returns-in_err-compare : goal.returns-in_err-compare
returns-in_err-compare g c =
    let laws = g.met.V.Values.lawful in
    let none = sym c.compare.ensures ∙ c.in_err-compare.was in
    record {
      kept = λ x y holds bound less odd.
          absurd (rw none at (laws.sound.compare _ x y _ _ Pred.Ult c.requires.value c.requires.bound holds bound (is_below _ x y less)));
    }

pub returns : goal.returns
returns g c =
    let laws = g.met.V.Values.lawful in
    let some = sym c.compare.ensures ∙ c.in_ok-compare.was in
    let left = laws.typed.compare _ _ _ Pred.Ult c.requires.value c.requires.bound _ some in
    let fits = one_fits c.args.width c.requires.width in
    record {
      kept = λ x y holds bound less odd.
          let kept = rw some at (laws.sound.compare _ x y _ _ Pred.Ult c.requires.value c.requires.bound holds bound (is_below _ x y less)) in
          rw c.with_bits.ensures (laws.sound.with_bits _ x 1 1 _ left fits fits kept odd);
    }
