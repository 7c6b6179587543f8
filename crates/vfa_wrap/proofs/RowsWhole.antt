-- The rows of all operations: they hold every result, and are empty just where there is no divisor but 0.
use Rattle.std.proofs.Common.{◌≡◌, ℕ, ◌-◌, ◌^◌, ◌<◌, ◌≤◌, Bool, true, false, cond, ℤ, pos, refl, sym, ◌∙◌, subst, arith, Option, Some, None}
use Rattle.std.proofs.lemmas.Bool.{false≢true}
use Rattle.std.specs.Prelude.{IsNone, ◌↔◌, unsigned_abs, nat_lt, ◌==◌}
use Rattle.std.specs.Option.{option_map}
use Rattle.std.proofs.lemmas.Nat.{pow_pos}
use Rattle.std.proofs.lemmas.Bool.Decides.{nat_tests}
use Rattle.vfa_word.specs.Numbers.{IsWidth, wrap, signed_of}
use Rattle.vfa_wrap.specs.Arc.{Span}
use Rattle.vfa_wrap.specs.Ends.{EndsOf}
use Rattle.vfa_wrap.specs.Between.{AreEnds}
use Rattle.vfa_wrap.specs.Rows.{row_by_ends, udiv_row, urem_row, sdiv_row, srem_row, size_of, HoldsResults, HasNoDivisor, AreSecondEnds}
use Rattle.vfa_wrap.specs.declared.ends_op.EndsOp.{EndsOp}
use Rattle.vfa_wrap.specs.declared.ends_op.EndsOp.TheVariants.{Mul, And, Or, Shl, Lshr, Ashr, Udiv, Sdiv, Urem, Srem, Umin, Umax, Smin, Smax, UaddSat, UsubSat, SaddSat, SsubSat}
use Rattle.vfa_wrap.proofs.RowLaws.{and_holds, or_holds, shl_holds, lshr_holds, udiv_holds, urem_holds}
use Rattle.vfa_wrap.proofs.SignedRowLaws.{ashr_holds, sdiv_holds, srem_holds, size_bound, signed_size}
use Rattle.vfa_wrap.proofs.ProductLaws.{mul_holds}
use Rattle.vfa_wrap.proofs.OrderRowLaws.{umin_holds, umax_holds, smin_holds, smax_holds}
use Rattle.vfa_wrap.proofs.SpanLaws.{saturation_holds, none_of_map}
use Rattle.vfa_wrap.specs.RowResults.{result_of}
use Rattle.vfa_word.specs.declared.arith.Arith.TheVariants.{Add, Sub}
use Rattle.vfa_wrap.specs.declared.reading.Reading.TheVariants.{Unsigned, Signed}

row_holds : (op : EndsOp) (w : ℕ) (a b : EndsOf) → IsWidth w → AreEnds w a → AreSecondEnds op w b → HoldsResults op w a b (row_by_ends op w a b)
unfolding row_by_ends result_of
row_holds Mul w a b h ea eb = mul_holds w a b h.least
row_holds And w a b h ea eb = and_holds w a b ea
row_holds Or w a b h ea eb = or_holds w a b
row_holds Shl w a b h ea eb = shl_holds w a b
row_holds Lshr w a b h ea eb = lshr_holds w a b ea
row_holds Ashr w a b h ea eb = ashr_holds w a b h.least ea
row_holds Udiv w a b h ea eb = udiv_holds w a b ea eb
row_holds Sdiv w a b h ea eb = sdiv_holds w a b h.least ea eb
row_holds Urem w a b h ea eb = urem_holds w a b ea eb
row_holds Srem w a b h ea eb = srem_holds w a b h.least ea eb
row_holds Umin w a b h ea eb = umin_holds w a b ea
row_holds Umax w a b h ea eb = umax_holds w a b ea eb
row_holds Smin w a b h ea eb = smin_holds w a b h.least ea eb
row_holds Smax w a b h ea eb = smax_holds w a b h.least ea eb
row_holds UaddSat w a b h ea eb = saturation_holds UaddSat Add Unsigned w a b h.least (λ x y r e. cc)
row_holds UsubSat w a b h ea eb = saturation_holds UsubSat Sub Unsigned w a b h.least (λ x y r e. cc)
row_holds SaddSat w a b h ea eb = saturation_holds SaddSat Add Signed w a b h.least (λ x y r e. cc)
row_holds SsubSat w a b h ea eb = saturation_holds SsubSat Sub Signed w a b h.least (λ x y r e. cc)

pub same_row_holds : (op : EndsOp) (w : ℕ) (a b : EndsOf) (o : Option Span) → IsWidth w → AreEnds w a → AreSecondEnds op w b → o ≡ row_by_ends op w a b → HoldsResults op w a b o
same_row_holds op w a b o h ea eb e = subst (HoldsResults op w a b) (sym e) (row_holds op w a b h ea eb)

-- ---- the empty rows
zero_reads : (w : ℕ) (z : ℤ) → wrap w z ≡ 0 → signed_of w (wrap w z) ≡ z → unsigned_abs z ≡ 0
zero_reads w z e f =
    let d : nat_lt 0 (2 ^ (w - 1)) ≡ true = grind (arith, nat_tests, pow_pos (w - 1)) in
    let g : signed_of w 0 ≡ z = rw e at f in
    let h : pos 0 ≡ z = rw d at g in
    rw (← h) refl

size_zero : (w : ℕ) (b : EndsOf) → AreEnds w b → b.hi ≡ 0 → size_of b ≡ 0
unfolding size_of
size_zero w b e h =
    let p : unsigned_abs b.slo ≡ 0 = zero_reads w b.slo (omega (arith, e.slo.upto)) e.slo_read in
    let q : unsigned_abs b.shi ≡ 0 = zero_reads w b.shi (omega (arith, e.shi.upto)) e.shi_read in
    omega arith

zero_size : (w : ℕ) (b : EndsOf) → 1 ≤ w → AreEnds w b → size_of b ≡ 0 → b.hi ≡ 0
zero_size w b one e h = zero_or (b.hi) (λ p. omega (arith, signed_size w b.hi one p e.hi.fits, size_bound w b b.hi e.hi))
  where
    zero_or : (n : ℕ) → (0 < n → ⊥) → n ≡ 0
    zero_or n f = grind (arith, f)

-- empty just where the fact holds
abbrev pub EmptyWhere : Option Span → Type 0 → Type 0
EmptyWhere o P = (o ≡ None → P) × (P → o ≡ None)

never_empty : (s : Span) → EmptyWhere (Some s) ⊥
never_empty s = (λ e. cc, λ f. absurd f)

-- a row that is empty where its test passes, and elsewhere is another that is empty just then
empty_cases : (b : Bool) (o : Option Span) (P : Type 0) → (b ≡ true → P) → (P → b ≡ true) → (o ≡ None → P) → EmptyWhere (cond b None o) P
empty_cases true o P f h k = (λ _. f refl, λ _. refl)
empty_cases false o P f h k = (k, λ p. absurd (false≢true (h p)))

zero_tells : (n : ℕ) → ((n == 0) ≡ true → n ≡ 0) × (n ≡ 0 → (n == 0) ≡ true)
zero_tells n = (λ e. grind (arith, nat_tests, e), λ e. grind (arith, nat_tests, e))

empty_at : (n : ℕ) (s : Span) → EmptyWhere (cond (n == 0) None (Some s)) (n ≡ 0)
empty_at n s = empty_cases (n == 0) (Some s) (n ≡ 0) (zero_tells n).0 (zero_tells n).1 (λ e. cc)

some_of_two : (b : Bool) (s t : Span) (P : Type 0) → cond b (Some s) (Some t) ≡ None → P
some_of_two true s t P e = cc
some_of_two false s t P e = cc

one_or_some : (b : Bool) (o : Option Span) (s : Span) (P : Type 0) → (o ≡ None → P) → cond b o (Some s) ≡ None → P
one_or_some true o s P f e = f e
one_or_some false o s P f e = cc

by_size : (w : ℕ) (b : EndsOf) (o : Option Span) → 1 ≤ w → AreEnds w b → (o ≡ None → b.hi ≡ 0) → EmptyWhere (cond (size_of b == 0) None o) (b.hi ≡ 0)
by_size w b o one e f =
    empty_cases (size_of b == 0) o (b.hi ≡ 0)
    (λ h. zero_size w b one e ((zero_tells (size_of b)).0 h))
    (λ h. (zero_tells (size_of b)).1 (size_zero w b e h)) f

udiv_empty : (w : ℕ) (a b : EndsOf) → EmptyWhere (udiv_row w a b) (b.hi ≡ 0)
unfolding udiv_row
udiv_empty w a b = empty_at b.hi _

row_empty : (op : EndsOp) (w : ℕ) (a b : EndsOf) → IsWidth w → AreSecondEnds op w b → EmptyWhere (row_by_ends op w a b) (HasNoDivisor op b)
unfolding row_by_ends urem_row sdiv_row srem_row
row_empty Mul w a b h e = never_empty _
row_empty And w a b h e = never_empty _
row_empty Or w a b h e = never_empty _
row_empty Shl w a b h e = never_empty _
row_empty Lshr w a b h e = never_empty _
row_empty Ashr w a b h e = never_empty _
row_empty Udiv w a b h e = udiv_empty w a b
row_empty Sdiv w a b h e =
    by_size w b _ h.least e.0 (one_or_some _ (udiv_row w a b) _ (b.hi ≡ 0) (udiv_empty w a b).0)
row_empty Urem w a b h e =
    empty_cases (b.hi == 0) _ (b.hi ≡ 0) (zero_tells b.hi).0 (zero_tells b.hi).1 (some_of_two _ _ _ (b.hi ≡ 0))
row_empty Srem w a b h e = by_size w b _ h.least e.0 (λ f. cc)
row_empty Umin w a b h e = never_empty _
row_empty Umax w a b h e = never_empty _
row_empty Smin w a b h e = never_empty _
row_empty Smax w a b h e = never_empty _
row_empty UaddSat w a b h e = never_empty _
row_empty UsubSat w a b h e = never_empty _
row_empty SaddSat w a b h e = never_empty _
row_empty SsubSat w a b h e = never_empty _

pub same_row_empty : {X : Type 0} (op : EndsOp) (w : ℕ) (a b : EndsOf) (o : Option X) (f : X → Span) → IsWidth w → AreSecondEnds op w b → option_map f o ≡ row_by_ends op w a b → IsNone o ↔ HasNoDivisor op b
same_row_empty op w a b o f h e d =
    let k = row_empty op w a b h e in
    let n = none_of_map o f in
    (λ i. k.0 (sym d ∙ n.0 i), λ p. n.1 (d ∙ k.1 p))
