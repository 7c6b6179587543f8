-- The numbers that a restriction wants, as the code tests them.
use Rattle.std.proofs.Common.{◌≡◌, ℕ, ◌+◌, ◌-◌, ◌%◌, ◌^◌, ◌<◌, min, mod-eq_of_lt, Bool, true, ◌&&◌, inl, inr, sym, ◌∙◌, ap, subst, arith, bit_and, bit_xor, pos, ◌-ℤ◌}
use Rattle.std.specs.Int.{bit_at}
use Rattle.std.specs.Prelude.{IsTrue}
use Rattle.std.proofs.lemmas.Bool.{cases_Bool, eq-eqb, eqb-true}
use Rattle.std.proofs.lemmas.Nat.{and_le_l, xor_lt, mod_below, pow_pos}
use Rattle.std.proofs.lemmas.Nat.Bits.{bit_at-lt, bit_at_and, bit_at_xor, same_from_bits}
use Rattle.vfa_word.specs.Numbers.{wrap}
use Rattle.vfa_word.proofs.Wrapping.{wrap_difference_is}
use Rattle.vfa_dom.specs.Best.{Masks}
use Rattle.vfa_dom.specs.Sets.{meet}
use Rattle.vfa_known.specs.Cube.{IsCube, InCube, in_masks}
use Rattle.vfa_known.specs.Known.{masks_of, in_known}
use Rattle.vfa_known.proofs.Cubes.{apart_from_bits, in_masks_from, in_masks_at}
use Rattle.vfa_wrap.specs.Arc.{Span, IsArc, steps, in_span, arc_from}
use Rattle.vfa_wrap.specs.Wrapped.{in_arc}
use Rattle.vfa_wrap.proofs.Circle.{wrapped_sum, steps_is, steps_back, in_from, in_to, in_ahead, ahead_in, arc_from-steps}
use Rattle.vfa_fact.specs.declared.numbers.Numbers.{Numbers}
use Rattle.vfa_fact.specs.Compare.{Agree}
use Rattle.vfa_fact.specs.Fact.{masks_in, span_in, in_numbers, IsFact}
use Rattle.vfa_fact.specs.declared.test.Test.{Test}
use Rattle.vfa_fact.specs.Views.{in_test}
use Rattle.vfa_fact.specs.Sharp.{sharp_in}
use Rattle.vfa_fact.proofs.SharpSets.{sharp_alike}
use Rattle.vfa_xfer.specs.Restrictions.{kept_of, agrees_under, lands_in}

same_answers : (b c : Bool) → (b ≡ true → c ≡ true) → (c ≡ true → b ≡ true) → b ≡ c
same_answers b c there back = elim (cases_Bool b) [
  | inl on ↦ on ∙ sym (there on)
  | inr off ↦ elim (cases_Bool c) [ inl on ↦ back on ∙ sym on | inr off' ↦ off ∙ sym off' ]
]

-- ---- agreement under a mask

masked_cube : (w mask value : ℕ) → mask < 2 ^ w → IsCube w (bit_xor mask (bit_and mask value)) (bit_and mask value)
masked_cube w mask value fits = record {
  zeros_fit = let less = and_le_l mask value in xor_lt w mask (bit_and mask value) fits (omega arith);
  ones_fit = let less = and_le_l mask value in omega arith;
  apart = apart_from_bits (bit_xor mask (bit_and mask value)) (bit_and mask value) (λ i on.
      let x = bit_at_xor mask (bit_and mask value) i in let a = bit_at_and mask value i in
      let m = bit_at-lt mask i in let v = bit_at-lt value i in let r = bit_at-lt (bit_and mask value) i in grind arith);
}

pub masked_is_cube : (w mask value o z : ℕ) → mask < 2 ^ w → o ≡ bit_and mask value → z ≡ bit_xor mask o → IsCube w z o
masked_is_cube w mask value o z fits eo ez =
    subst (λ (n : ℕ). IsCube w n o) (sym ez) (subst (λ (n : ℕ). IsCube w (bit_xor mask n) n) (sym eo) (masked_cube w mask value fits))

-- the digits that a mask asks for
module _ (m v x a z : ℕ) (hm : m < 2) (hv : v < 2) (hx : x < 2) (ea : a ≡ min m v) (ez : z ≡ (m + a) % 2) where
  asks_zero : min x m ≡ min v m → z ≡ 1 → x ≡ 0
  asks_zero same on = grind arith

  asks_one : min x m ≡ min v m → a ≡ 1 → x ≡ 1
  asks_one same on = grind arith

  asked : (z ≡ 1 → x ≡ 0) → (a ≡ 1 → x ≡ 1) → min x m ≡ min v m
  asked zero one = grind arith

module _ (w mask value : ℕ) (fits : mask < 2 ^ w) where
  agrees_in : (x : ℕ) → x < 2 ^ w → bit_and x mask ≡ bit_and value mask → InCube w (bit_xor mask (bit_and mask value)) (bit_and mask value) x
  agrees_in x hx same = record {
    fits = hx;
    zero = λ i on. asks_zero (bit_at mask i) (bit_at value i) (bit_at x i) (bit_at (bit_and mask value) i) (bit_at (bit_xor mask (bit_and mask value)) i)
        (bit_at-lt mask i) (bit_at-lt value i) (bit_at-lt x i) (bit_at_and mask value i) (bit_at_xor mask (bit_and mask value) i)
        (sym (bit_at_and x mask i) ∙ ap (λ n. bit_at n i) same ∙ bit_at_and value mask i) on;
    one = λ i on. asks_one (bit_at mask i) (bit_at value i) (bit_at x i) (bit_at (bit_and mask value) i) (bit_at (bit_xor mask (bit_and mask value)) i)
        (bit_at-lt mask i) (bit_at-lt value i) (bit_at-lt x i) (bit_at_and mask value i) (bit_at_xor mask (bit_and mask value) i)
        (sym (bit_at_and x mask i) ∙ ap (λ n. bit_at n i) same ∙ bit_at_and value mask i) on;
  }

  agrees_at : (x : ℕ) → InCube w (bit_xor mask (bit_and mask value)) (bit_and mask value) x → bit_and x mask ≡ bit_and value mask
  agrees_at x member = same_from_bits (bit_and x mask) (bit_and value mask) (λ i.
      bit_at_and x mask i
      ∙ asked (bit_at mask i) (bit_at value i) (bit_at x i) (bit_at (bit_and mask value) i) (bit_at (bit_xor mask (bit_and mask value)) i)
      (bit_at-lt mask i) (bit_at-lt value i) (bit_at-lt x i) (bit_at_and mask value i) (bit_at_xor mask (bit_and mask value) i)
      (member.zero i) (member.one i)
      ∙ sym (bit_at_and value mask i))

  masks_agree : (x : ℕ) → x < 2 ^ w → in_masks w (record { zeros = bit_xor mask (bit_and mask value); ones = bit_and mask value }) x ≡ agrees_under mask value x
  unfolding agrees_under
  masks_agree x hx =
      let cube = masked_cube w mask value fits in
      same_answers _ _
      (λ member. eq-eqb (bit_and x mask) (bit_and value mask) (agrees_at x (in_masks_at w (bit_xor mask (bit_and mask value)) (bit_and mask value) cube x member)))
      (λ same. in_masks_from w (bit_xor mask (bit_and mask value)) (bit_and mask value) cube x (agrees_in x hx (eqb-true (bit_and x mask) (bit_and value mask) same)))

masks_agree_under : (w mask value o z x : ℕ) → mask < 2 ^ w → o ≡ bit_and mask value → z ≡ bit_xor mask o → x < 2 ^ w →
    in_masks w (record { zeros = z; ones = o }) x ≡ agrees_under mask value x
masks_agree_under w mask value o z x fits eo ez hx =
    ap (λ (n : ℕ). in_masks w (record { zeros = n; ones = o }) x) ez
    ∙ ap (λ (n : ℕ). in_masks w (record { zeros = bit_xor mask n; ones = n }) x) eo
    ∙ masks_agree w mask value fits x hx

and_all : (a b c : Bool) → b ≡ true → c ≡ true → (a && (b && c)) ≡ a
and_all a b c e f = grind arith

-- the test of the cube of the bits that are asked for, with two arcs of all numbers
pub agreeing_test : {W : ℕ} (t : Test W) (mask value o z : ℕ) → mask < 2 ^ W → o ≡ bit_and mask value → z ≡ bit_xor mask o →
    masks_of t.cube ≡ record { zeros = z; ones = o } → ((x : ℕ) → x < 2 ^ W → IsTrue (in_arc W t.one x)) → ((x : ℕ) → x < 2 ^ W → IsTrue (in_arc W t.two x)) →
    Agree W (in_test W t) (agrees_under mask value)
unfolding in_test
agreeing_test {W} t mask value o z fits eo ez em one two = record {
  alike = λ x hx.
      and_all (in_known W t.cube x) (in_arc W t.one x) (in_arc W t.two x) (one x hx) (two x hx)
      ∙ ap (λ (m : Masks). in_masks W m x) em ∙ masks_agree_under W mask value o z x fits eo ez hx;
}

-- ---- arcs moved back

module _ (w c : ℕ) (hc : c < 2 ^ w) where
  moved_steps : (f x : ℕ) → f < 2 ^ w → x < 2 ^ w → steps w ((f + (2 ^ w - c)) % 2 ^ w) x ≡ steps w f ((x + c) % 2 ^ w)
  moved_steps f x hf hx =
      let back = wrapped_sum (2 ^ w) (f + (2 ^ w - c)) (omega arith) in
      let on = wrapped_sum (2 ^ w) (x + c) (omega arith) in
      let hb : (f + (2 ^ w - c)) % 2 ^ w < 2 ^ w = mod_below (f + (2 ^ w - c)) (2 ^ w) (omega arith) in
      let ho : (x + c) % 2 ^ w < 2 ^ w = mod_below (x + c) (2 ^ w) (omega arith) in
      let one = steps_is w ((f + (2 ^ w - c)) % 2 ^ w) x hb hx in
      let two = steps_is w f ((x + c) % 2 ^ w) hf ho in
      grind (arith, back, on, one, two)

  there_again : (l : ℕ) → l < 2 ^ w → ((l + (2 ^ w - c)) % 2 ^ w + c) % 2 ^ w ≡ l
  there_again l hl =
      let back = wrapped_sum (2 ^ w) (l + (2 ^ w - c)) (omega arith) in
      let hb : (l + (2 ^ w - c)) % 2 ^ w < 2 ^ w = mod_below (l + (2 ^ w - c)) (2 ^ w) (omega arith) in
      let on = wrapped_sum (2 ^ w) ((l + (2 ^ w - c)) % 2 ^ w + c) (omega arith) in
      let ho : ((l + (2 ^ w - c)) % 2 ^ w + c) % 2 ^ w < 2 ^ w = mod_below ((l + (2 ^ w - c)) % 2 ^ w + c) (2 ^ w) (omega arith) in
      grind (arith, back, on)

-- the numbers of the arc moved back by c are those whose sum with c is in the arc
module _ (w c : ℕ) (s : Span) (hc : c < 2 ^ w) (is : IsArc w s) where
  start : ℕ
  start = (s.first + (2 ^ w - c)) % 2 ^ w

  size : ℕ
  size = steps w s.first s.last

  start_fits : (s.first + (2 ^ w - c)) % 2 ^ w < 2 ^ w
  start_fits = let some = pow_pos w in mod_below (s.first + (2 ^ w - c)) (2 ^ w) some

  end_fits : (s.last + (2 ^ w - c)) % 2 ^ w < 2 ^ w
  end_fits = let some = pow_pos w in mod_below (s.last + (2 ^ w - c)) (2 ^ w) some

  size_fits : steps w s.first s.last < 2 ^ w
  size_fits = (steps_is w s.first s.last is.first_fits is.last_fits).0

  -- it has as many numbers
  same_size : steps w ((s.first + (2 ^ w - c)) % 2 ^ w) ((s.last + (2 ^ w - c)) % 2 ^ w) ≡ steps w s.first s.last
  same_size = moved_steps w c hc s.first ((s.last + (2 ^ w - c)) % 2 ^ w) is.first_fits end_fits ∙ ap (steps w s.first) (there_again w c hc s.last is.last_fits)

  moved_arc : arc_from w ((s.first + (2 ^ w - c)) % 2 ^ w) ((s.last + (2 ^ w - c)) % 2 ^ w)
      ≡ arc_from w ((s.first + (2 ^ w - c)) % 2 ^ w) ((s.first + (2 ^ w - c)) % 2 ^ w + steps w s.first s.last)
  moved_arc =
      sym (arc_from-steps w ((s.first + (2 ^ w - c)) % 2 ^ w) ((s.last + (2 ^ w - c)) % 2 ^ w) start_fits end_fits)
      ∙ ap (λ k. arc_from w ((s.first + (2 ^ w - c)) % 2 ^ w) ((s.first + (2 ^ w - c)) % 2 ^ w + k)) same_size

  moved_in : (x : ℕ) → x < 2 ^ w → in_span w (arc_from w ((s.first + (2 ^ w - c)) % 2 ^ w) ((s.last + (2 ^ w - c)) % 2 ^ w)) x ≡ lands_in w c s x
  unfolding lands_in
  moved_in x hx =
      let p : ℕ = (s.first + (2 ^ w - c)) % 2 ^ w in
      let n : ℕ = steps w s.first s.last in
      let some = pow_pos w in
      let y_fits : (x + c) % 2 ^ w < 2 ^ w = mod_below (x + c) (2 ^ w) some in
      let shift = moved_steps w c hc s.first x is.first_fits hx in
      ap (λ (a : Span). in_span w a x) moved_arc
      ∙ same_answers _ _
      (λ member. let near = (ahead_in w p n x start_fits size_fits member).1 in in_to w s ((x + c) % 2 ^ w) y_fits (omega arith))
      (λ lands. let near = (in_from w s ((x + c) % 2 ^ w) lands).1 in
      ap (in_span w (arc_from w p (p + n))) (sym (steps_back w p x start_fits hx))
      ∙ in_ahead w p n (steps w p x) start_fits size_fits (omega arith))

pub moved_back_in : (w c b f l : ℕ) (s r : Span) → IsArc w s → c < 2 ^ w → b ≡ c % 2 ^ w → f ≡ wrap w (pos s.first -ℤ pos b) → l ≡ wrap w (pos s.last -ℤ pos b) →
    r ≡ arc_from w f l → Agree w (in_span w r) (lands_in w c s)
moved_back_in w c b f l s r is hc eb ef el er = record {
  alike = λ x hx.
      let eb' : b ≡ c = eb ∙ mod-eq_of_lt hc in
      let ef' : f ≡ (s.first + (2 ^ w - c)) % 2 ^ w = ef ∙ wrap_difference_is w s.first b (omega arith) ∙ ap (λ k. (s.first + (2 ^ w - k)) % 2 ^ w) eb' in
      let el' : l ≡ (s.last + (2 ^ w - c)) % 2 ^ w = el ∙ wrap_difference_is w s.last b (omega arith) ∙ ap (λ k. (s.last + (2 ^ w - k)) % 2 ^ w) eb' in
      ap (λ (a : Span). in_span w a x) (er ∙ ap (λ k. arc_from w k l) ef' ∙ ap (arc_from w ((s.first + (2 ^ w - c)) % 2 ^ w)) el')
      ∙ moved_in w c s hc is x hx;
}

-- ---- what is kept of a fact

in_any_order : (k s q t : Bool) → t ≡ q → (s && (k && q)) ≡ (s && ((k && s) && t))
in_any_order k s q t e = grind arith

pub kept_is : {W : ℕ} (n : Numbers) (K : ℕ → Bool) (arc : Span) (T wanted : ℕ → Bool) → IsFact W n → arc ≡ span_in n → ((x : ℕ) → K x ≡ in_masks W (masks_in n) x) →
    Agree W T wanted → sharp_in W arc (meet K T) ≡ kept_of W n wanted
unfolding meet kept_of in_numbers
kept_is {W} n K arc T wanted is ea ek agree =
    ap (λ (s : Span). sharp_in W s (meet K T)) ea
    ∙ sharp_alike W n.first _ _ is.arc.first_fits (λ x hx.
    ap (λ b. in_span W (span_in n) x && (b && T x)) (ek x)
    ∙ in_any_order (in_masks W (masks_in n) x) (in_span W (span_in n) x) (T x) (wanted x) (sym (agree.alike x hx)))
