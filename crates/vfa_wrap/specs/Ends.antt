-- The least and the greatest members of a set in both readings, as LLVM's ConstantRange gives them by getUnsignedMin,
-- getUnsignedMax, getSignedMin and getSignedMax.
use Rattle.std.specs.Prelude.{ℕ, ◌^◌, Bool, ℤ}
use Rattle.vfa_dom.specs.Search.{least_below, greatest_below}
use Rattle.vfa_wrap.specs.Places.{in_signed_order, reading_at}
use Rattle.vfa_wrap.specs.declared.ends.Ends.{Ends}

-- the least and greatest numbers, and the least and greatest signed readings
pub record EndsOf : Type 0 where
  pub lo : ℕ
  pub hi : ℕ
  pub slo : ℤ
  pub shi : ℤ

-- the ends of the set of the numbers of width w that pass, of which there is one
unfoldable pub ends_of : ℕ → (ℕ → Bool) → EndsOf
ends_of w S = record {
  lo = least_below (2 ^ w) S;
  hi = greatest_below (2 ^ w) S;
  slo = reading_at w (least_below (2 ^ w) (λ k. S (in_signed_order w k)));
  shi = reading_at w (greatest_below (2 ^ w) (λ k. S (in_signed_order w k)));
}

-- the ends that a value of the program shows
abbrev pub shown_ends : {W : ℕ} → Ends W → EndsOf
shown_ends e = record { lo = e.lo; hi = e.hi; slo = e.slo; shi = e.shi }
