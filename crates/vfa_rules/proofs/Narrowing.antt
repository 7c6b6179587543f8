-- Divisions at a lesser width.
use Rattle.std.proofs.Common.{◌≡◌, ℕ, ◌%◌, ◌≤◌, ◌<◌, ◌^◌, Bool, true, false, ◌&&◌, if◌then◌else◌, cond, refl, sym, ◌∙◌, ap, subst, arith, mod-eq_of_lt, Option, Some, None, List, [], ◌∷◌, inl, inr}
use Rattle.std.specs.Prelude.{nat_eq, nat_lt, find}
use Rattle.std.proofs.lemmas.Bool.{true≢false, and_parts, cases_Bool}
use Rattle.std.proofs.lemmas.Bool.Decides.{nat_tests}
use Rattle.vfa_ir.specs.Operands.{no_cast_flags}
use Rattle.vfa_ir.specs.declared.operations.Bin.{Bin}
use Rattle.vfa_ir.specs.declared.operations.Cast.{Cast}
use Rattle.vfa_ir.specs.declared.operations.Flags.{Flags}
use Rattle.vfa_wrap.specs.Ends.{EndsOf}
use Rattle.vfa_fact.specs.CellCuts.{cell_ends}
use Rattle.vfa_fact.specs.Cells.{CellValue}
use Rattle.vfa_mean.specs.declared.value.Done.{Done}
use Rattle.vfa_mean.specs.declared.value.Val.{Val}
use Rattle.vfa_mean.specs.Laws.{AllowsResult}
use Rattle.vfa_mean.specs.Meaning.{Result, Undefined, Gave, Allowed, binary, of_one}
use Rattle.vfa_mean.specs.Rows.{number_unless, convert, divide, remainder}
use Rattle.vfa_rules.specs.Conditions.{fits_width, where_some}
use Rattle.vfa_rules.specs.Results.{Extended, NarrowedGives}
use Rattle.vfa_rules.specs.Rules.{division_widths, width_for, if_below, lesser_width, divides_unsigned}
use Rattle.vfa_rules.proofs.Lifting.{Held, number_shown}
use Rattle.vfa_rules.proofs.Shown.{Shown, ends_tell}

-- ---- the lesser width has all numbers

find_passes : (p : ℕ → Bool) (xs : List ℕ) (v : ℕ) → find p xs ≡ Some v → p v ≡ true
find_passes p [] v e = absurd (cc)
find_passes p (x ∷ xs) v e = elim (cases_Bool (p x)) [
  | inl passes ↦
      let same : Some x ≡ Some v = sym (ap (λ t. cond t (Some x) (find p xs)) passes) ∙ e in
      let is : x ≡ v = cc in ap p (sym is) ∙ passes
  | inr fails ↦ find_passes p xs v (sym (ap (λ t. cond t (Some x) (find p xs)) fails) ∙ e)
]

below_is : (w u v : ℕ) → if_below w (Some u) ≡ Some v → u ≡ v
below_is w u v e = at (nat_lt u w) e
  where
    at : (t : Bool) → (if t then Some u else None) ≡ Some v → u ≡ v
    at true e = cc
    at false e = absurd (cc)

width_passes : (w : ℕ) (x y : EndsOf) (v : ℕ) → if_below w (width_for x y) ≡ Some v → (nat_lt x.hi (2 ^ v) && nat_lt y.hi (2 ^ v)) ≡ true
width_passes w x y v e = at (width_for x y) refl e
  where
    at : (o : Option ℕ) → width_for x y ≡ o → if_below w o ≡ Some v → (nat_lt x.hi (2 ^ v) && nat_lt y.hi (2 ^ v)) ≡ true
    at None is e = absurd (cc)
    at (Some u) is e = subst (λ n. (nat_lt x.hi (2 ^ n) && nat_lt y.hi (2 ^ n)) ≡ true) (below_is w u v e)
        (find_passes (λ n. nat_lt x.hi (2 ^ n) && nat_lt y.hi (2 ^ n)) division_widths u is)

ends_pass_both : (w v : ℕ) (o p : Option EndsOf) → lesser_width w o p ≡ Some v →
    (where_some (λ e. nat_lt e.hi (2 ^ v)) o ≡ true) × (where_some (λ e. nat_lt e.hi (2 ^ v)) p ≡ true)
ends_pass_both w v (Some x) (Some y) e = and_parts (nat_lt x.hi (2 ^ v)) (nat_lt y.hi (2 ^ v)) (width_passes w x y v e)
ends_pass_both w v (Some x) None e = absurd (cc)
ends_pass_both w v None p e = absurd (cc)

pub narrow_fits : (w v : ℕ) (a b : CellValue) → lesser_width w (cell_ends a) (cell_ends b) ≡ Some v → (fits_width v a ≡ true) × (fits_width v b ≡ true)
narrow_fits w v a b e = ends_pass_both w v (cell_ends a) (cell_ends b) e

-- ---- truncated operands are the same values

truncated_same : (w v : ℕ) → 1 ≤ w → (a : CellValue) → fits_width v a ≡ true → (x first : Val) → Held w a x →
    Allowed (of_one (convert Cast.Trunc no_cast_flags w v) x) (Gave first) → first ≡ x
truncated_same w v one a fits (Val.Number x) first p given =
    let shown = number_shown w one a x p in
    let low = ends_tell w a x shown (λ e. nat_lt e.hi (2 ^ v)) fits in
    let upto = shown.between.upto in
    let small : x < 2 ^ v = grind (arith, nat_tests) in
    let is : first ≡ Val.Number (x % 2 ^ v) = cc in
    is ∙ ap Val.Number (mod-eq_of_lt small)
truncated_same w v one a fits Val.Poison first p given = cc
truncated_same w v one a fits (Val.Pair x o) first p given = absurd p.holds

-- ---- the extended result

-- a number or poison, or undefined behaviour
abbrev pub IsNoPair : Result → Type 0
IsNoPair (Gave (Val.Pair x o)) = ⊥
IsNoPair _ = Unit {0}

extended_allows : (v w : ℕ) (middle r : Result) → IsNoPair middle → Extended v w middle r → AllowsResult middle r
extended_allows v w Undefined r single is = tt
extended_allows v w (Gave (Val.Number n)) r single is = subst (AllowsResult (Gave (Val.Number n))) (sym is) refl
extended_allows v w (Gave Val.Poison) r single is = subst (AllowsResult (Gave Val.Poison)) (sym is) tt
extended_allows v w (Gave (Val.Pair n o)) r single is = absurd single

no_pair_if : (t b : Bool) (n : ℕ) (r : Result) → Allowed (if t then Done.Ub else number_unless b n) r → IsNoPair r
no_pair_if true b n r given = subst IsNoPair (sym given) tt
no_pair_if false true n r given = subst IsNoPair (sym given) tt
no_pair_if false false n r given = subst IsNoPair (sym given) tt

no_pair_poison : (t : Bool) (r : Result) → Allowed (if t then Done.Ub else Done.Is Val.Poison) r → IsNoPair r
no_pair_poison true r given = subst IsNoPair (sym given) tt
no_pair_poison false r given = subst IsNoPair (sym given) tt

quotient_no_pair : (flags : Flags) (w : ℕ) (x y : Val) (r : Result) → Allowed (binary Bin.Udiv flags w x y) r → IsNoPair r
quotient_no_pair flags w (Val.Number x) (Val.Number y) r given = no_pair_if (nat_eq y 0) _ _ r given
quotient_no_pair flags w Val.Poison (Val.Number y) r given = no_pair_poison (nat_eq y 0) r given
quotient_no_pair flags w (Val.Pair x o) (Val.Number y) r given = no_pair_poison (nat_eq y 0) r given
quotient_no_pair flags w (Val.Number x) Val.Poison r given = subst IsNoPair (sym given) tt
quotient_no_pair flags w (Val.Number x) (Val.Pair y o) r given = subst IsNoPair (sym given) tt
quotient_no_pair flags w Val.Poison Val.Poison r given = subst IsNoPair (sym given) tt
quotient_no_pair flags w Val.Poison (Val.Pair y o) r given = subst IsNoPair (sym given) tt
quotient_no_pair flags w (Val.Pair x o) Val.Poison r given = subst IsNoPair (sym given) tt
quotient_no_pair flags w (Val.Pair x o) (Val.Pair y q) r given = subst IsNoPair (sym given) tt

remainder_no_pair : (flags : Flags) (w : ℕ) (x y : Val) (r : Result) → Allowed (binary Bin.Urem flags w x y) r → IsNoPair r
remainder_no_pair flags w (Val.Number x) (Val.Number y) r given = no_pair_if (nat_eq y 0) false _ r given
remainder_no_pair flags w Val.Poison (Val.Number y) r given = no_pair_poison (nat_eq y 0) r given
remainder_no_pair flags w (Val.Pair x o) (Val.Number y) r given = no_pair_poison (nat_eq y 0) r given
remainder_no_pair flags w (Val.Number x) Val.Poison r given = subst IsNoPair (sym given) tt
remainder_no_pair flags w (Val.Number x) (Val.Pair y o) r given = subst IsNoPair (sym given) tt
remainder_no_pair flags w Val.Poison Val.Poison r given = subst IsNoPair (sym given) tt
remainder_no_pair flags w Val.Poison (Val.Pair y o) r given = subst IsNoPair (sym given) tt
remainder_no_pair flags w (Val.Pair x o) Val.Poison r given = subst IsNoPair (sym given) tt
remainder_no_pair flags w (Val.Pair x o) (Val.Pair y q) r given = subst IsNoPair (sym given) tt

-- a result that the division gives at its own width, and that allows the narrowed one
pub record IsDividedBy (bin : Bin) (flags : Flags) (w : ℕ) (x y : Val) (r : Result) : Type 0 where
  pub result : Result
  pub gives : Allowed (binary bin flags w x y) result
  pub allows : AllowsResult result r

module _ (w v : ℕ) (one : 1 ≤ w) (a b : CellValue) (fa : fits_width v a ≡ true) (fb : fits_width v b ≡ true) (x y : Val) (p : Held w a x) (q : Held w b y) where
  pub narrowed_sound : (bin : Bin) (flags : Flags) (r : Result) → divides_unsigned bin ≡ true → NarrowedGives bin flags v w x y r → IsDividedBy bin flags w x y r
  narrowed_sound Bin.Udiv flags r e n =
      let s = truncated_same w v one a fa x n.first p n.first_truncated in
      let t = truncated_same w v one b fb y n.second q n.second_truncated in
      let given : Allowed (binary Bin.Udiv flags w x y) n.middle = subst (λ c. Allowed (binary Bin.Udiv flags w x c) n.middle) t (subst (λ c. Allowed (binary Bin.Udiv flags w c n.second) n.middle) s n.done_narrow) in
      record { result = n.middle; gives = given; allows = extended_allows v w n.middle r (quotient_no_pair flags w x y n.middle given) n.extended }
  narrowed_sound Bin.Urem flags r e n =
      let s = truncated_same w v one a fa x n.first p n.first_truncated in
      let t = truncated_same w v one b fb y n.second q n.second_truncated in
      let given : Allowed (binary Bin.Urem flags w x y) n.middle = subst (λ c. Allowed (binary Bin.Urem flags w x c) n.middle) t (subst (λ c. Allowed (binary Bin.Urem flags w c n.second) n.middle) s n.done_narrow) in
      record { result = n.middle; gives = given; allows = extended_allows v w n.middle r (remainder_no_pair flags w x y n.middle given) n.extended }
  narrowed_sound Bin.Add flags r e n = absurd (true≢false (sym e))
  narrowed_sound Bin.Sub flags r e n = absurd (true≢false (sym e))
  narrowed_sound Bin.Mul flags r e n = absurd (true≢false (sym e))
  narrowed_sound Bin.Shl flags r e n = absurd (true≢false (sym e))
  narrowed_sound Bin.Sdiv flags r e n = absurd (true≢false (sym e))
  narrowed_sound Bin.Lshr flags r e n = absurd (true≢false (sym e))
  narrowed_sound Bin.Ashr flags r e n = absurd (true≢false (sym e))
  narrowed_sound Bin.Srem flags r e n = absurd (true≢false (sym e))
  narrowed_sound Bin.And flags r e n = absurd (true≢false (sym e))
  narrowed_sound Bin.Or flags r e n = absurd (true≢false (sym e))
  narrowed_sound Bin.Xor flags r e n = absurd (true≢false (sym e))
