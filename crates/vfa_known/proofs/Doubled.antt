-- What is known over a run of amounts, shifted on, is known over as many further ones.
use Rattle.std.proofs.Common.{◌≡◌, ℕ, ◌+◌, ◌-◌, ◌<◌, ◌≤◌, Bool, sym, ◌∙◌, ap, subst, arith, inl, inr, bit_and}
use Rattle.std.specs.Int.{bit_at}
use Rattle.std.proofs.lemmas.Bool.{cases_lt}
use Rattle.std.proofs.lemmas.Nat.Bits.{bit_at_above}
use Rattle.vfa_dom.specs.Best.{Masks, zeros_of, ones_of, best_of}
use Rattle.vfa_dom.proofs.Bests.{digit_cases}
use Rattle.vfa_word.specs.Numbers.{IsWidth}
use Rattle.vfa_known.specs.declared.shift.Shift.{Shift}
use Rattle.vfa_known.specs.declared.shift.Shift.TheVariants.{Left, Logical, Arithmetic}
use Rattle.vfa_known.specs.AmountRuns.{AreKnownOverRun}
use Rattle.vfa_known.specs.Cube.{IsCube}
use Rattle.vfa_known.proofs.Amounts.{best_zeros, best_ones, parts_on, parts_off}
use Rattle.vfa_known.proofs.EndRuns.{place_within}
use Rattle.vfa_known.proofs.Lasting.{shifted_by, zero_from, zero_tells, one_from, one_tells}
use Rattle.vfa_known.proofs.Places.{place_of, place_below, place_above}

-- ---- a shift after a shift

both_places : (shift : Shift) (w s t i : ℕ) → place_of shift w s i < w → place_of shift w t (place_of shift w s i) ≡ place_of shift w (t + s) i
both_places Left w s t i within = elim (cases_lt i s) [
  | inl low ↦ absurd (let none = place_below w s i low in omega arith)
  | inr high ↦ ap (place_of Left w t) (place_above w s i high) ∙ elim (cases_lt (i - s) t) [
    | inl short ↦ place_below w t (i - s) short ∙ sym (place_below w (t + s) i (omega arith))
    | inr far ↦ place_above w t (i - s) far ∙ (let same : i - s - t ≡ i - (t + s) = omega arith in same) ∙ sym (place_above w (t + s) i (omega arith))
  ]
]
both_places Logical w s t i within = omega arith
both_places Arithmetic w s t i within = omega arith

outside_both : (shift : Shift) (w s t i : ℕ) → 1 ≤ w → i < w → w ≤ place_of shift w s i → w ≤ place_of shift w (t + s) i
outside_both Left w s t i least below past = elim (cases_lt i s) [
  | inl low ↦ let none = place_below w (t + s) i (omega arith) in omega arith
  | inr high ↦ absurd (let place = place_above w s i high in omega arith)
]
outside_both Logical w s t i least below past = omega arith
outside_both Arithmetic w s t i least below past = absurd (omega arith)

-- ---- known over a run

pub of_first : (w : ℕ) (S : ℕ → (ℕ → Bool)) (first : ℕ) (m : Masks) → m ≡ best_of w (S first) → AreKnownOverRun w S first 1 m
of_first w S first m is = record {
  zero_all = λ t i from upto on. subst (λ k. bit_at (zeros_of w (S k)) i ≡ 1) (only t from upto) (ap (λ n. bit_at n i) (sym (best_zeros w (S first) m is)) ∙ on);
  one_all = λ t i from upto on. subst (λ k. bit_at (ones_of w (S k)) i ≡ 1) (only t from upto) (ap (λ n. bit_at n i) (sym (best_ones w (S first) m is)) ∙ on);
  zero_some = λ i below clear. (first, omega arith, omega arith, ap (λ n. bit_at n i) (sym (best_zeros w (S first) m is)) ∙ clear);
  one_some = λ i below clear. (first, omega arith, omega arith, ap (λ n. bit_at n i) (sym (best_ones w (S first) m is)) ∙ clear);
}
  where
    only : (t : ℕ) → first ≤ t → t < first + 1 → first ≡ t
    only t from upto = omega arith

module _ (shift : Shift) (w zeros ones first done more : ℕ) (old other : Masks) (width : IsWidth w) (cube : IsCube w zeros ones)
    (old_cube : IsCube w old.zeros old.ones) (some : 1 ≤ more) (fewer : more ≤ done) (below : first + (done + more) ≤ w)
    (known : AreKnownOverRun w (λ t. shifted_by shift w zeros ones t) first done old)
    (is : other ≡ best_of w (shifted_by shift w old.zeros old.ones more)) where
  more_below : more < w
  more_below = omega arith

  other_zeros : (i : ℕ) → bit_at other.zeros i ≡ bit_at (zeros_of w (shifted_by shift w old.zeros old.ones more)) i
  other_zeros i = ap (λ n. bit_at n i) (best_zeros w (shifted_by shift w old.zeros old.ones more) other is)

  other_ones : (i : ℕ) → bit_at other.ones i ≡ bit_at (ones_of w (shifted_by shift w old.zeros old.ones more)) i
  other_ones i = ap (λ n. bit_at n i) (best_ones w (shifted_by shift w old.zeros old.ones more) other is)

  -- the amount t, which is more than one seen
  before : (t : ℕ) → first + done ≤ t → t - more + more ≡ t
  before t past = omega arith

  later_zero : (t i : ℕ) → first + done ≤ t → t < first + (done + more) → i < w → bit_at other.zeros i ≡ 1 →
      bit_at (zeros_of w (shifted_by shift w zeros ones t)) i ≡ 1
  later_zero t i past upto small on =
      zero_from shift w t zeros ones width cube (omega arith) i small (λ inside.
      elim (cases_lt (place_of shift w more i) w) [
        | inr out ↦ absurd (let far = outside_both shift w more (t - more) i width.least small out in
            let same = ap (λ k. place_of shift w k i) (before t past) in omega arith)
        | inl within ↦
            let same = both_places shift w more (t - more) i within ∙ ap (λ k. place_of shift w k i) (before t past) in
            let there = zero_tells shift w more old.zeros old.ones width old_cube more_below i small within (sym (other_zeros i) ∙ on) in
            let seen = known.zero_all (t - more) (place_of shift w more i) (omega arith) (omega arith) there in
            subst (λ p. bit_at zeros p ≡ 1) same
            (zero_tells shift w (t - more) zeros ones width cube (omega arith) (place_of shift w more i) within (subst (λ p. p < w) (sym same) inside) seen)
      ])

  later_one : (t i : ℕ) → first + done ≤ t → t < first + (done + more) → i < w → bit_at other.ones i ≡ 1 →
      bit_at (ones_of w (shifted_by shift w zeros ones t)) i ≡ 1
  later_one t i past upto small on =
      let there = one_tells shift w more old.zeros old.ones width old_cube more_below i small (sym (other_ones i) ∙ on) in
      let within = place_within w old.ones (place_of shift w more i) old_cube.ones_fit there in
      let same = both_places shift w more (t - more) i within ∙ ap (λ k. place_of shift w k i) (before t past) in
      let seen = known.one_all (t - more) (place_of shift w more i) (omega arith) (omega arith) there in
      one_from shift w t zeros ones width cube (omega arith) i small
      (subst (λ p. bit_at ones p ≡ 1) same (one_tells shift w (t - more) zeros ones width cube (omega arith) (place_of shift w more i) within seen))

  -- a bit that is not known of the shifts shifted on is not known of one of them
  open_zero : (i : ℕ) → i < w → bit_at other.zeros i ≡ 0 → (t : ℕ) × (first ≤ t) × (t < first + (done + more)) × (bit_at (zeros_of w (shifted_by shift w zeros ones t)) i ≡ 0)
  open_zero i small clear = elim (cases_lt (place_of shift w more i) w) [
    | inr out ↦ absurd (let on = zero_from shift w more old.zeros old.ones width old_cube more_below i small (λ inside. absurd (omega arith)) in let same = other_zeros i in omega arith)
    | inl within ↦
        let off : bit_at old.zeros (place_of shift w more i) ≡ 0 = elim (digit_cases old.zeros (place_of shift w more i)) [
          | inl none ↦ none
          | inr on ↦ absurd (let known_there = zero_from shift w more old.zeros old.ones width old_cube more_below i small (λ inside. on) in let same = other_zeros i in omega arith)
        ] in
        let t = known.zero_some (place_of shift w more i) within off in let from = t.1 in let upto = t.2 in (
          t.0 + more,
          omega arith,
          omega arith,
          elim (digit_cases (zeros_of w (shifted_by shift w zeros ones (t.0 + more))) i) [
            | inl none ↦ none
            | inr on ↦ absurd (
                let same = both_places shift w more t.0 i within in
                let known_there = zero_from shift w t.0 zeros ones width cube (omega arith) (place_of shift w more i) within (λ inside.
                subst (λ p. bit_at zeros p ≡ 1) (sym same)
                (zero_tells shift w (t.0 + more) zeros ones width cube (omega arith) i small (subst (λ p. p < w) same inside) on)) in
                let clear_there = t.3 in omega arith)
          ],
        )
  ]

  open_one : (i : ℕ) → i < w → bit_at other.ones i ≡ 0 → (t : ℕ) × (first ≤ t) × (t < first + (done + more)) × (bit_at (ones_of w (shifted_by shift w zeros ones t)) i ≡ 0)
  open_one i small clear = elim (cases_lt (place_of shift w more i) w) [
    | inr out ↦
        let far = outside_both shift w more first i width.least small out in (
          first + more,
          omega arith,
          omega arith,
          elim (digit_cases (ones_of w (shifted_by shift w zeros ones (first + more))) i) [
            | inl none ↦ none
            | inr on ↦ absurd (let there = one_tells shift w (first + more) zeros ones width cube (omega arith) i small on in
                let none = bit_at_above ones w (place_of shift w (first + more) i) cube.ones_fit far in omega arith)
          ],
        )
    | inl within ↦
        let off : bit_at old.ones (place_of shift w more i) ≡ 0 = elim (digit_cases old.ones (place_of shift w more i)) [
          | inl none ↦ none
          | inr on ↦ absurd (let known_there = one_from shift w more old.zeros old.ones width old_cube more_below i small on in let same = other_ones i in omega arith)
        ] in
        let t = known.one_some (place_of shift w more i) within off in let from = t.1 in let upto = t.2 in (
          t.0 + more,
          omega arith,
          omega arith,
          elim (digit_cases (ones_of w (shifted_by shift w zeros ones (t.0 + more))) i) [
            | inl none ↦ none
            | inr on ↦ absurd (
                let same = both_places shift w more t.0 i within in
                let there = one_tells shift w (t.0 + more) zeros ones width cube (omega arith) i small on in
                let known_there = one_from shift w t.0 zeros ones width cube (omega arith) (place_of shift w more i) within (subst (λ p. bit_at ones p ≡ 1) (sym same) there) in
                let clear_there = t.3 in omega arith)
          ],
        )
  ]

  pub doubled : AreKnownOverRun w (λ t. shifted_by shift w zeros ones t) first (done + more) (record { zeros = bit_and old.zeros other.zeros; ones = bit_and old.ones other.ones })
  doubled = record {
    zero_all = λ t i from upto on. let parts = parts_on w (λ t. shifted_by shift w zeros ones t) 0 old.zeros other.zeros i on in
        elim (cases_lt t (first + done)) [
          | inl seen ↦ known.zero_all t i from seen parts.0
          | inr past ↦ later_zero t i past upto (place_within w old.zeros i old_cube.zeros_fit parts.0) parts.1
        ];
    one_all = λ t i from upto on. let parts = parts_on w (λ t. shifted_by shift w zeros ones t) 0 old.ones other.ones i on in
        elim (cases_lt t (first + done)) [
          | inl seen ↦ known.one_all t i from seen parts.0
          | inr past ↦ later_one t i past upto (place_within w old.ones i old_cube.ones_fit parts.0) parts.1
        ];
    zero_some = λ i small clear. elim (parts_off w (λ t. shifted_by shift w zeros ones t) 0 old.zeros other.zeros i clear) [
      | inl off ↦ let t = known.zero_some i small off in let upto = t.2 in (t.0, t.1, omega arith, t.3)
      | inr off ↦ open_zero i small off
    ];
    one_some = λ i small clear. elim (parts_off w (λ t. shifted_by shift w zeros ones t) 0 old.ones other.ones i clear) [
      | inl off ↦ let t = known.one_some i small off in let upto = t.2 in (t.0, t.1, omega arith, t.3)
      | inr off ↦ open_one i small off
    ];
  }

  pub doubled_at : (n : Masks) → n ≡ record { zeros = bit_and old.zeros other.zeros; ones = bit_and old.ones other.ones } →
      AreKnownOverRun w (λ t. shifted_by shift w zeros ones t) first (done + more) n
  doubled_at n alike = subst (AreKnownOverRun w (λ t. shifted_by shift w zeros ones t) first (done + more)) (sym alike) doubled
