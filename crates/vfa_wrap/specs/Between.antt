-- Numbers between the ends of a set of numbers of one width.
use Rattle.std.specs.Prelude.{◌≡◌, ℕ, ◌^◌, ◌<◌, ◌≤◌, ◌≤ℤ◌}
use Rattle.vfa_word.specs.Numbers.{wrap, signed_of}
use Rattle.vfa_wrap.specs.Ends.{EndsOf}

-- a number of width w that lies between the ends in both readings
pub record Between (w : ℕ) (e : EndsOf) (x : ℕ) : Type 0 where
  pub fits : x < 2 ^ w
  pub from : e.lo ≤ x
  pub upto : x ≤ e.hi
  pub signed_from : e.slo ≤ℤ signed_of w x
  pub signed_upto : signed_of w x ≤ℤ e.shi

-- the ends of some set of numbers of width w: each of the four is reached by a number that lies between all of them
pub record AreEnds (w : ℕ) (e : EndsOf) : Type 0 where
  pub lo : Between w e e.lo
  pub hi : Between w e e.hi
  pub slo : Between w e (wrap w e.slo)
  pub shi : Between w e (wrap w e.shi)
  pub slo_read : signed_of w (wrap w e.slo) ≡ e.slo
  pub shi_read : signed_of w (wrap w e.shi) ≡ e.shi
