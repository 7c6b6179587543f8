-- Saturation and overflow intrinsics whose results stay in the range.
use Rattle.std.proofs.Common.{◌≡◌, ◌≢◌, ℕ, ◌≤◌, ◌<◌, ◌^◌, Bool, true, false, not, ◌&&◌, ◌||◌, if◌then◌else◌, refl, sym, ◌∙◌, ap, subst, arith, pos}
use Rattle.std.specs.Prelude.{nat_eq}
use Rattle.std.proofs.lemmas.Bool.{true≢false}
use Rattle.vfa_ir.specs.declared.operations.Bin.{Bin}
use Rattle.vfa_ir.specs.declared.operations.Fun2.{Fun2}
use Rattle.vfa_ir.specs.declared.operations.Over.{Over}
use Rattle.vfa_word.specs.Numbers.{wrap, whole_result, fits_unsigned, fits_signed, signed_of}
use Rattle.vfa_word.specs.Operations.{whole_signed, whole_unsigned}
use Rattle.vfa_word.specs.declared.arith.Arith.{Arith}
use Rattle.vfa_wrap.specs.WholeSpans.{fits_read, whole_read, clamped_read}
use Rattle.vfa_wrap.specs.declared.reading.Reading.{Reading}
use Rattle.vfa_wrap.proofs.WholePlaceLaws.{clamped_within, read_number, unsigned_number}
use Rattle.vfa_fact.specs.Cells.{CellValue}
use Rattle.vfa_mean.specs.declared.value.Done.{Done}
use Rattle.vfa_mean.specs.declared.value.Val.{Val}
use Rattle.vfa_mean.specs.Laws.{AllowsDone}
use Rattle.vfa_mean.specs.Meaning.{Allowed, Gave, binary, of_two, part_of}
use Rattle.vfa_mean.specs.Rows.{number_unless, two_numbers, with_overflow, overflow_arith, overflows, leaves_unsigned, leaves_signed, arithmetic, bit_of}
use Rattle.vfa_rules.specs.Conditions.{stays_in_range}
use Rattle.vfa_rules.specs.Rules.{plain, no_wrap, range_of_overflow}
use Rattle.vfa_rules.proofs.Allowing.{same_done}
use Rattle.vfa_rules.proofs.Lifting.{Held, two_sound}
use Rattle.vfa_rules.proofs.Shown.{Shown, stays_tells}

-- the plain operation on numbers whose whole result stays in the range gives its number
plain_gives : (op : Arith) → op ≢ Arith.Shl → (r : Reading) (w x y : ℕ) → fits_read r w (whole_read r w op x y) ≡ true →
    arithmetic op (no_wrap r) w x y ≡ Done.Is (Val.Number (wrap w (whole_result op (pos x) (pos y))))
plain_gives Arith.Add other Reading.Unsigned w x y fits = ap (λ t. number_unless (not t || false) (wrap w (whole_result Arith.Add (pos x) (pos y)))) fits
plain_gives Arith.Add other Reading.Signed w x y fits = ap (λ t. number_unless (not t) (wrap w (whole_result Arith.Add (pos x) (pos y)))) fits
plain_gives Arith.Sub other Reading.Unsigned w x y fits = ap (λ t. number_unless (not t || false) (wrap w (whole_result Arith.Sub (pos x) (pos y)))) fits
plain_gives Arith.Sub other Reading.Signed w x y fits = ap (λ t. number_unless (not t) (wrap w (whole_result Arith.Sub (pos x) (pos y)))) fits
plain_gives Arith.Mul other Reading.Unsigned w x y fits = ap (λ t. number_unless (not t || false) (wrap w (whole_result Arith.Mul (pos x) (pos y)))) fits
plain_gives Arith.Mul other Reading.Signed w x y fits = ap (λ t. number_unless (not t) (wrap w (whole_result Arith.Mul (pos x) (pos y)))) fits
plain_gives Arith.Shl other r w x y fits = absurd (other refl)

-- that is the clamped result
clamped_is : (op : Arith) → op ≢ Arith.Shl → (r : Reading) (w x y : ℕ) → 1 ≤ w → x < 2 ^ w → y < 2 ^ w → fits_read r w (whole_read r w op x y) ≡ true →
    clamped_read r w (whole_read r w op x y) ≡ wrap w (whole_result op (pos x) (pos y))
clamped_is op other r w x y one hx hy fits =
    sym (clamped_within r w (whole_read r w op x y) one fits) ∙ read_number r op w x y hx hy (λ e. absurd (other e)) ∙ sym (unsigned_number op w x y)

module _ (w : ℕ) (one : 1 ≤ w) (a b : CellValue) (u v : Val) (p : Held w a u) (q : Held w b v) where
  saturated : (row : ℕ → ℕ → Done) (op : Arith) (r : Reading) → op ≢ Arith.Shl → stays_in_range op r a b ≡ true →
      ((x y : ℕ) → row x y ≡ Done.Is (Val.Number (clamped_read r w (whole_read r w op x y)))) →
      AllowsDone (of_two row u v) (of_two (arithmetic op (no_wrap r) w) u v)
  saturated row op r other stays is = two_sound w one a b row (arithmetic op (no_wrap r) w) (λ x y hx hy.
      let fits = stays_tells w a b x y hx hy one op r stays (λ e. absurd (other e)) in
      same_done _ _ (is x y ∙ ap (λ n. Done.Is (Val.Number n)) (clamped_is op other r w x y one hx.fits hy.fits fits) ∙ sym (plain_gives op other r w x y fits))) u v p q

  pub sum_unsigned : stays_in_range Arith.Add Reading.Unsigned a b ≡ true → AllowsDone (of_two (two_numbers Fun2.UaddSat w) u v) (binary Bin.Add (no_wrap Reading.Unsigned) w u v)
  sum_unsigned e = saturated (two_numbers Fun2.UaddSat w) Arith.Add Reading.Unsigned (λ s. cc) e (λ x y. refl)

  pub difference_unsigned : stays_in_range Arith.Sub Reading.Unsigned a b ≡ true → AllowsDone (of_two (two_numbers Fun2.UsubSat w) u v) (binary Bin.Sub (no_wrap Reading.Unsigned) w u v)
  difference_unsigned e = saturated (two_numbers Fun2.UsubSat w) Arith.Sub Reading.Unsigned (λ s. cc) e (λ x y. refl)

  pub sum_signed : stays_in_range Arith.Add Reading.Signed a b ≡ true → AllowsDone (of_two (two_numbers Fun2.SaddSat w) u v) (binary Bin.Add (no_wrap Reading.Signed) w u v)
  sum_signed e = saturated (two_numbers Fun2.SaddSat w) Arith.Add Reading.Signed (λ s. cc) e (λ x y. refl)

  pub difference_signed : stays_in_range Arith.Sub Reading.Signed a b ≡ true → AllowsDone (of_two (two_numbers Fun2.SsubSat w) u v) (binary Bin.Sub (no_wrap Reading.Signed) w u v)
  difference_signed e = saturated (two_numbers Fun2.SsubSat w) Arith.Sub Reading.Signed (λ s. cc) e (λ x y. refl)

-- ---- the number of an overflow intrinsic's pair

not_is : (t : Bool) → not t ≡ false → t ≡ true
not_is true e = refl
not_is false e = absurd (true≢false e)

stayed : (over : Over) (w x y : ℕ) → overflows over w x y ≡ false → fits_read (range_of_overflow over) w (whole_read (range_of_overflow over) w (overflow_arith over) x y) ≡ true
stayed Over.Uadd w x y e = not_is _ e
stayed Over.Sadd w x y e = not_is _ e
stayed Over.Usub w x y e = not_is _ e
stayed Over.Ssub w x y e = not_is _ e
stayed Over.Umul w x y e = not_is _ e
stayed Over.Smul w x y e = not_is _ e

no_shift : (over : Over) → overflow_arith over ≢ Arith.Shl
no_shift Over.Uadd e = cc
no_shift Over.Sadd e = cc
no_shift Over.Usub e = cc
no_shift Over.Ssub e = cc
no_shift Over.Umul e = cc
no_shift Over.Smul e = cc

plain_row : (op : Arith) → op ≢ Arith.Shl → (r : Reading) (w : ℕ) (u v : Val) → binary (plain op) (no_wrap r) w u v ≡ of_two (arithmetic op (no_wrap r) w) u v
plain_row Arith.Add other r w u v = refl
plain_row Arith.Sub other r w u v = refl
plain_row Arith.Mul other r w u v = refl
plain_row Arith.Shl other r w u v = absurd (other refl)

-- the overflow bit of a pair is 0
abbrev pub HasNoOverflow : Val → Type 0
HasNoOverflow (Val.Pair n o) = bit_of o ≡ 0
HasNoOverflow _ = Unit {0}

bit_off : (o : Bool) → bit_of o ≡ 0 → o ≡ false
bit_off true e = absurd (omega arith)
bit_off false e = refl

-- the number of a pair whose bit is 0 is what the plain operation gives
pub extracted_sound : (over : Over) (w : ℕ) (u v z : Val) → Allowed (of_two (with_overflow over w) u v) (Gave z) → HasNoOverflow z →
    AllowsDone (part_of 0 z) (binary (plain (overflow_arith over)) (no_wrap (range_of_overflow over)) w u v)
extracted_sound over w u v z given off = subst (λ d. AllowsDone (part_of 0 z) d) (sym (plain_row (overflow_arith over) (no_shift over) (range_of_overflow over) w u v)) (at u v given)
  where
    poison : (d : Done) → Gave z ≡ Gave Val.Poison → AllowsDone (part_of 0 z) (Done.Is Val.Poison)
    poison d e = same_done _ _ (ap (part_of 0) (let same : z ≡ Val.Poison = cc in same))

    at : (u v : Val) → Allowed (of_two (with_overflow over w) u v) (Gave z) → AllowsDone (part_of 0 z) (of_two (arithmetic (overflow_arith over) (no_wrap (range_of_overflow over)) w) u v)
    at (Val.Number x) (Val.Number y) given =
        let n : ℕ = wrap w (whole_result (overflow_arith over) (pos x) (pos y)) in
        let same : z ≡ Val.Pair n (overflows over w x y) = cc in
        let none : overflows over w x y ≡ false = bit_off _ (subst HasNoOverflow same off) in
        same_done _ _ (ap (part_of 0) same ∙ sym (plain_gives (overflow_arith over) (no_shift over) (range_of_overflow over) w x y (stayed over w x y none)))
    at (Val.Number x) Val.Poison given = poison Done.Ub given
    at (Val.Number x) (Val.Pair y o) given = poison Done.Ub given
    at Val.Poison v given = poison Done.Ub given
    at (Val.Pair x o) v given = poison Done.Ub given
