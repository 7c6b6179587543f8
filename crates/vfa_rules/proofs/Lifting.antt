-- From numbers that cells hold to values: what becomes of poison.
use Rattle.std.proofs.Common.{◌≡◌, ℕ, ◌≤◌, ◌<◌, ◌^◌, Bool, true, false, ◌||◌, ◌&&◌, if◌then◌else◌, refl, sym, ◌∙◌, ap, subst}
use Rattle.std.specs.Prelude.{nat_eq}
use Rattle.vfa_fact.specs.Cells.{CellValue}
use Rattle.vfa_mean.specs.declared.value.Done.{Done}
use Rattle.vfa_mean.specs.declared.value.Val.{Val}
use Rattle.vfa_mean.specs.Laws.{AllowsDone}
use Rattle.vfa_mean.specs.Meaning.{of_one, of_two, unsigned_division, signed_division, minus_one}
use Rattle.vfa_rules.specs.Facts.{CellHolds}
use Rattle.vfa_rules.proofs.Allowing.{same_done, ub_allows, value_allows}
use Rattle.vfa_rules.proofs.Shown.{Shown, shown}

-- an operand of width w whose value the cell holds of
pub record Held (w : ℕ) (c : CellValue) (v : Val) : Type 0 where
  pub width : c.width ≡ w
  pub holds : CellHolds c v

module _ (w : ℕ) (one : 1 ≤ w) (a : CellValue) where
  pub number_shown : (x : ℕ) → Held w a (Val.Number x) → Shown w a x
  number_shown x p = shown w a x one p.width p.holds

  pub one_sound : (row row' : ℕ → Done) → ((x : ℕ) → Shown w a x → AllowsDone (row x) (row' x)) → (u : Val) → Held w a u →
      AllowsDone (of_one row u) (of_one row' u)
  one_sound row row' h (Val.Number x) p = h x (number_shown x p)
  one_sound row row' h Val.Poison p = same_done _ _ refl
  one_sound row row' h (Val.Pair x o) p = absurd p.holds

module _ (w : ℕ) (one : 1 ≤ w) (a b : CellValue) where
  pub two_sound : (row row' : ℕ → ℕ → Done) → ((x y : ℕ) → Shown w a x → Shown w b y → AllowsDone (row x y) (row' x y)) → (u v : Val) → Held w a u → Held w b v →
      AllowsDone (of_two row u v) (of_two row' u v)
  two_sound row row' h (Val.Number x) (Val.Number y) p q = h x y (number_shown w one a x p) (number_shown w one b y q)
  two_sound row row' h (Val.Number x) Val.Poison p q = same_done _ _ refl
  two_sound row row' h (Val.Number x) (Val.Pair y o) p q = absurd q.holds
  two_sound row row' h Val.Poison v p q = same_done _ _ refl
  two_sound row row' h (Val.Pair x o) v p q = absurd p.holds

  -- the first or the second operand in place of the result
  pub two_first : (row : ℕ → ℕ → Done) → ((x y : ℕ) → Shown w a x → Shown w b y → AllowsDone (row x y) (Done.Is (Val.Number x))) → (u v : Val) → Held w a u → Held w b v →
      AllowsDone (of_two row u v) (Done.Is u)
  two_first row h (Val.Number x) (Val.Number y) p q = h x y (number_shown w one a x p) (number_shown w one b y q)
  two_first row h (Val.Number x) Val.Poison p q = value_allows Val.Poison _ tt
  two_first row h (Val.Number x) (Val.Pair y o) p q = absurd q.holds
  two_first row h Val.Poison v p q = value_allows Val.Poison _ tt
  two_first row h (Val.Pair x o) v p q = absurd p.holds

  pub two_second : (row : ℕ → ℕ → Done) → ((x y : ℕ) → Shown w a x → Shown w b y → AllowsDone (row x y) (Done.Is (Val.Number y))) → (u v : Val) → Held w a u → Held w b v →
      AllowsDone (of_two row u v) (Done.Is v)
  two_second row h (Val.Number x) (Val.Number y) p q = h x y (number_shown w one a x p) (number_shown w one b y q)
  two_second row h (Val.Number x) Val.Poison p q = value_allows Val.Poison _ tt
  two_second row h (Val.Number x) (Val.Pair y o) p q = absurd q.holds
  two_second row h Val.Poison v p q = value_allows Val.Poison _ tt
  two_second row h (Val.Pair x o) v p q = absurd p.holds

  ub_or_poison : (t s : Bool) → (s ≡ true → t ≡ true) → AllowsDone (if t then Done.Ub else Done.Is Val.Poison) (if s then Done.Ub else Done.Is Val.Poison)
  ub_or_poison true s h = ub_allows _
  ub_or_poison false true h = absurd (let e = h refl in cc)
  ub_or_poison false false h = same_done _ _ refl

  either_true : (s t : Bool) → s ≡ true → (s || t) ≡ true
  either_true true t e = refl
  either_true false t e = absurd (cc)

  -- a signed division and an unsigned one, by numbers for which the signed one is not defined less often
  pub division_sound : (row row' : ℕ → ℕ → Done) →
      ((x y : ℕ) → Shown w a x → Shown w b y → AllowsDone (signed_division w row (Val.Number x) (Val.Number y)) (unsigned_division row' (Val.Number x) (Val.Number y))) →
      (u v : Val) → Held w a u → Held w b v → AllowsDone (signed_division w row u v) (unsigned_division row' u v)
  division_sound row row' h (Val.Number x) (Val.Number y) p q = h x y (number_shown w one a x p) (number_shown w one b y q)
  division_sound row row' h Val.Poison (Val.Number y) p q =
      ub_or_poison (nat_eq y 0 || nat_eq y (minus_one w)) (nat_eq y 0) (either_true (nat_eq y 0) (nat_eq y (minus_one w)))
  division_sound row row' h (Val.Pair x o) (Val.Number y) p q = absurd p.holds
  division_sound row row' h (Val.Number x) Val.Poison p q = ub_allows _
  division_sound row row' h Val.Poison Val.Poison p q = ub_allows _
  division_sound row row' h (Val.Pair x o) Val.Poison p q = ub_allows _
  division_sound row row' h u (Val.Pair y o) p q = absurd q.holds

  ub_allows_poison : (t : Bool) (d : Done) → AllowsDone (if t then Done.Ub else Done.Is Val.Poison) (Done.Is Val.Poison)
  ub_allows_poison true d = ub_allows _
  ub_allows_poison false d = same_done _ _ refl

  -- the dividend in place of an unsigned remainder
  pub dividend_first : (row : ℕ → ℕ → Done) → ((x y : ℕ) → Shown w a x → Shown w b y → AllowsDone (unsigned_division row (Val.Number x) (Val.Number y)) (Done.Is (Val.Number x))) →
      (u v : Val) → Held w a u → Held w b v → AllowsDone (unsigned_division row u v) (Done.Is u)
  dividend_first row h (Val.Number x) (Val.Number y) p q = h x y (number_shown w one a x p) (number_shown w one b y q)
  dividend_first row h Val.Poison (Val.Number y) p q = ub_allows_poison (nat_eq y 0) Done.Ub
  dividend_first row h (Val.Pair x o) (Val.Number y) p q = absurd p.holds
  dividend_first row h (Val.Number x) Val.Poison p q = ub_allows _
  dividend_first row h Val.Poison Val.Poison p q = ub_allows _
  dividend_first row h (Val.Pair x o) Val.Poison p q = ub_allows _
  dividend_first row h u (Val.Pair y o) p q = absurd q.holds
