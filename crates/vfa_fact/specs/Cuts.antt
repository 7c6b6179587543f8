-- The ends of the members that an operation can use. They are not the ends of a fact of these members, which may have
-- more numbers: at width 6, the amounts below the width of the arc from 3 to 1 are 0, 1, 3, 4 and 5, with 5 as the
-- greatest, and the fact of them in that arc has 7.
use Rattle.std.specs.Prelude.{ℕ, ◌^◌, Bool, cond, not, nat_eq, nat_lt, Option, Some, None}
use Rattle.std.specs.Option.{option_map}
use Rattle.vfa_dom.specs.Search.{some_below, bits_below}
use Rattle.vfa_dom.specs.Sets.{meet}
use Rattle.vfa_wrap.specs.Ends.{EndsOf, ends_of, shown_ends}
use Rattle.vfa_fact.specs.declared.cuts.Amounts.{Amounts}

-- the ends of a set; there are none where it has no member
unfoldable pub ends_in : ℕ → (ℕ → Bool) → Option EndsOf
ends_in w S = cond (some_below (2 ^ w) S) (Some (ends_of w S)) None

-- the members below the width: the amounts of a shift, which gives poison by any other (LLVM Language Reference, "shl")
abbrev pub amounts_in : ℕ → (ℕ → Bool) → ℕ → Bool
amounts_in w S = meet (λ t. nat_lt t w) S

-- the members other than 0, by which a division is undefined (LLVM Language Reference, "udiv")
abbrev pub divisors_in : (ℕ → Bool) → ℕ → Bool
divisors_in S = meet (λ y. not (nat_eq y 0)) S

-- amounts: bit t of the mask says that t is one
pub record AmountsOf : Type 0 where
  pub mask : ℕ
  pub ends : EndsOf

-- the amounts of a shift among the members of a set; there are none where no member is below the width
unfoldable pub amounts_of : ℕ → (ℕ → Bool) → Option AmountsOf
amounts_of w S = option_map (λ e. record { mask = bits_below w S; ends = e }) (ends_in w (amounts_in w S))

-- the ends of the divisors among the members of a set; there are none where no member but 0 is there
unfoldable pub divisors_of : ℕ → (ℕ → Bool) → Option EndsOf
divisors_of w S = ends_in w (divisors_in S)

-- the amounts that a value of the program shows
abbrev pub shown_amounts : {W : ℕ} → Amounts W → AmountsOf
shown_amounts a = record { mask = a.mask; ends = shown_ends a.ends }
