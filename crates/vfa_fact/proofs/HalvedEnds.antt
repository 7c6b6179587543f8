-- The ends of the members between two numbers, by the members below the middle and those from there on, and their mask.
use Rattle.std.proofs.Common.{◌≡◌, ℕ, ℤ, ◌-◌, ◌*◌, ◌%◌, ◌^◌, ◌<◌, ◌≤◌, Bool, true, sym, ◌∙◌, subst, arith, ◌⊎◌, inl, inr, min, max, Option, Some, None}
use Rattle.std.specs.Prelude.{IsTrue, IfSome, MatchOption}
use Rattle.std.specs.Option.{option_or}
use Rattle.std.proofs.lemmas.Bool.{cases_lt, true≢false}
use Rattle.std.proofs.lemmas.Nat.{one_shl, pow_pos}
use Rattle.vfa_word.specs.Numbers.{IsWidth, signed_of}
use Rattle.vfa_dom.specs.Sets.{meet, is_empty}
use Rattle.vfa_wrap.specs.Ends.{EndsOf}
use Rattle.vfa_wrap.proofs.Truth.{untrue}
use Rattle.vfa_fact.specs.declared.numbers.Numbers.{Numbers}
use Rattle.vfa_fact.specs.Cuts.{ends_in}
use Rattle.vfa_fact.specs.Fact.{IsFact}
use Rattle.vfa_fact.specs.Interval.{interval, Reaches}
use Rattle.vfa_fact.proofs.ArcIntervals.{cut_from, cut_parts}
use Rattle.vfa_fact.proofs.CutEnds.{ends_none, ends_of_both, ends_of_low, ends_of_high}
use Rattle.vfa_fact.proofs.Partnered.{empty_tells}

of_some : (a b : Numbers) → Some a ≡ Some b → a ≡ b
of_some a b e = cc

-- what a part of a set shows
abbrev pub Shows : ℕ → (ℕ → Bool) → Option Numbers → Type 0
Shows w S o = MatchOption o (IsTrue (is_empty w S)) (λ n. Reaches S n.first n.last)

module _ (w low high bound start half : ℕ) (S : ℕ → Bool) (width : IsWidth w) (fits : (x : ℕ) → S x ≡ true → x < 2 ^ w)
    (middle : half ≡ 1 * 2 ^ (w - 1) % 2 ^ 128) (upto : bound ≡ min high (half - 1)) (from : start ≡ max low half) where
  half_is : half ≡ 2 ^ (w - 1)
  half_is = let one = width.least in let most = width.most in middle ∙ one_shl (w - 1) 128 (omega arith)

  all_fit : (x : ℕ) → meet (interval low high) S x ≡ true → x < 2 ^ w
  all_fit x member = fits x ((cut_parts low high S x member).2)

  low_part : (x : ℕ) → meet (interval low bound) S x ≡ true → (meet (interval low high) S x ≡ true) × (x < 2 ^ (w - 1))
  low_part x member =
      let parts = cut_parts low bound S x member in let h = half_is in let some = pow_pos (w - 1) in
      (cut_from low high S x parts.0 (omega (arith, parts.1)) parts.2, omega (arith, parts.1))

  high_part : (x : ℕ) → meet (interval start high) S x ≡ true → (meet (interval low high) S x ≡ true) × (2 ^ (w - 1) ≤ x)
  high_part x member =
      let parts = cut_parts start high S x member in let h = half_is in
      (cut_from low high S x (omega (arith, parts.0)) parts.1 parts.2, omega (arith, parts.0))

  split_part : (x : ℕ) → meet (interval low high) S x ≡ true → (meet (interval low bound) S x ≡ true) ⊎ (meet (interval start high) S x ≡ true)
  split_part x member =
      let parts = cut_parts low high S x member in let h = half_is in
      elim (cases_lt x (2 ^ (w - 1))) [
        | inl below ↦ inl (cut_from low bound S x parts.0 (omega (arith, parts.1)) parts.2)
        | inr above ↦ inr (cut_from start high S x (omega (arith, parts.0)) parts.1 parts.2)
      ]

  no_low : is_empty w (meet (interval low bound) S) ≡ true → (x : ℕ) → meet (interval low bound) S x ≡ true → ⊥
  no_low empty x member =
      true≢false (sym member ∙ empty_tells w (meet (interval low bound) S) empty x (fits x ((cut_parts low bound S x member).2)))

  no_high : is_empty w (meet (interval start high) S) ≡ true → (x : ℕ) → meet (interval start high) S x ≡ true → ⊥
  no_high empty x member =
      true≢false (sym member ∙ empty_tells w (meet (interval start high) S) empty x (fits x ((cut_parts start high S x member).2)))

  pub halves_none : (b u : Option Numbers) → Shows w (meet (interval low bound) S) b → Shows w (meet (interval start high) S) u → option_or b u ≡ None →
      ends_in w (meet (interval low high) S) ≡ None
  halves_none (Some m) u below above none = absurd (cc)
  halves_none None (Some n) below above none = absurd (cc)
  halves_none None None below above none = ends_none w (meet (interval low high) S) (λ x fit. untrue _ (λ member. elim (split_part x member) [
    | inl here ↦ no_low below x here
    | inr there ↦ no_high above x there
  ]))

  -- the ends that the lower part there is and the upper part there is give
  abbrev Gives : Numbers → Numbers → Type 0
  Gives l r = ends_in w (meet (interval low high) S) ≡ Some (record { lo = l.first; hi = r.last; slo = signed_of w r.first; shi = signed_of w l.last })

  pub halves_some : (b u : Option Numbers) (l r : Numbers) → Shows w (meet (interval low bound) S) b → Shows w (meet (interval start high) S) u →
      option_or b u ≡ Some l → option_or u b ≡ Some r → Gives l r
  halves_some None None l r below above el er = absurd (cc)
  halves_some (Some m) (Some n) l r below above el er =
      subst (λ (k : Numbers). Gives k r) (of_some m l el) (subst (λ (k : Numbers). Gives m k) (of_some n r er)
      (ends_of_both w (meet (interval low high) S) (meet (interval low bound) S) (meet (interval start high) S) width.least all_fit low_part high_part split_part
      m.first m.last n.first n.last below above))
  halves_some (Some m) None l r below above el er =
      subst (λ (k : Numbers). Gives k r) (of_some m l el) (subst (λ (k : Numbers). Gives m k) (of_some m r er)
      (ends_of_low w (meet (interval low high) S) (meet (interval low bound) S) (meet (interval start high) S) width.least all_fit low_part high_part split_part
      m.first m.last below (no_high above)))
  halves_some None (Some n) l r below above el er =
      subst (λ (k : Numbers). Gives k r) (of_some n l el) (subst (λ (k : Numbers). Gives n k) (of_some n r er)
      (ends_of_high w (meet (interval low high) S) (meet (interval low bound) S) (meet (interval start high) S) width.least all_fit low_part high_part split_part
      n.first n.last above (no_low below)))

-- whichever part is there is a fact
pub or_fact : (w : ℕ) (b u : Option Numbers) (n : Numbers) → IfSome b (IsFact w) → IfSome u (IsFact w) → option_or b u ≡ Some n → IsFact w n
or_fact w None None n one two is = absurd (cc)
or_fact w None (Some k) n one two is = subst (IsFact w) (of_some k n is) two
or_fact w (Some k) u n one two is = subst (IsFact w) (of_some k n is) one

pub equal_ends : (lo hi : ℕ) (a b a' b' : ℤ) → a ≡ a' → b ≡ b' →
    ◌≡◌ {A = Option EndsOf} (Some (record { lo = lo; hi = hi; slo = a; shi = b })) (Some (record { lo = lo; hi = hi; slo = a'; shi = b' }))
equal_ends lo hi a b a' b' ea eb = cc
