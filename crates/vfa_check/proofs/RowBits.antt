-- Bits of rows: all ones, one more one, the ones of two rows.
use Rattle.std.proofs.Common.{◌≡◌, ℕ, ◌+◌, ◌-◌, ◌/◌, ◌%◌, ◌*◌, ◌^◌, ◌<◌, ◌≤◌, Bool, true, false, not, ◌&&◌, ◌||◌, nat_eq, min, List, length, set, sum, get_or, replicate, bit_and, bit_or, refl, sym, ap, ap₂, ◌∙◌, subst, inl, inr, ◌⊎◌, arith, w64}
use Rattle.std.specs.Int.{bit_at}
use Rattle.std.proofs.lemmas.Bool.Decides.{eqb_tells, leb_tells}
use Rattle.std.proofs.lemmas.List.{get_or-replicate, get_or-set_same, get_or-set_other, length-set, get_or_past, get_or_default, set-get_or}
use Rattle.std.proofs.lemmas.List.Sums.{sum_by-set}
use Rattle.std.proofs.lemmas.Nat.{and_le_l}
use Rattle.std.proofs.lemmas.Nat.Bits.{bit_at_ones, bit_at_set_same, bit_at_set_other, bit_at_and, bit_at-lt}
use Rattle.vfa_check.specs.declared.name_rows.NameRow.{NameRow}
use Rattle.vfa_check.specs.NameRows.{is_one, has_name}

pub all_ones : (n v : ℕ) → is_one (replicate (n / 64 + 1) (2 ^ 64 - 1)) (min v n) ≡ true
all_ones n v =
    let within : min v n / 64 < n / 64 + 1 = omega arith in
    let less : min v n % 64 < 64 = omega arith in
    ap (λ x. nat_eq (bit_at x (min v n % 64)) 1) (get_or-replicate (n / 64 + 1) (min v n / 64) (2 ^ 64 - 1) 0 within)
    ∙ ap (λ x. nat_eq x 1) (bit_at_ones 64 (min v n % 64) less)

-- one more bit
pub set_one : (words : List ℕ) (v w old : ℕ) → v / 64 < length words → old ≡ get_or words (v / 64) 0 →
    is_one (set words (v / 64) (bit_or old (1 * 2 ^ (v % 64) % 2 ^ 64))) w ≡ (nat_eq w v || is_one words w)
set_one words v w old within is =
    let new = bit_or old (1 * 2 ^ (v % 64) % 2 ^ 64) in
    let less : v % 64 < 64 = omega arith in
    elim (eqb_tells (w / 64) (v / 64)) [
      | inl d ↦
          let here : get_or (set words (v / 64) new) (w / 64) 0 ≡ new =
          subst (λ y. get_or (set words (v / 64) new) y 0 ≡ new) (sym d.1) (get_or-set_same words (v / 64) new 0 within) in
          let was : get_or words (w / 64) 0 ≡ old = subst (λ y. get_or words y 0 ≡ old) (sym d.1) (sym is) in
          elim (eqb_tells w v) [
            | inl e ↦
                let same : w % 64 ≡ v % 64 = ap (λ x. x % 64) e.1 in
                let one : bit_at new (w % 64) ≡ 1 = subst (λ y. bit_at new y ≡ 1) (sym same) (bit_at_set_same w64 old (v % 64) less) in
                rw e.0 (ap (λ x. nat_eq (bit_at x (w % 64)) 1) here ∙ ap (λ x. nat_eq x 1) one)
            | inr e ↦
                let apart : w % 64 ≡ v % 64 → ⊥ = λ q. e.1 (omega (arith, q, d.1)) in
                let kept : bit_at new (w % 64) ≡ bit_at old (w % 64) = bit_at_set_other w64 old (v % 64) less (w % 64) apart in
                rw e.0 (ap (λ x. nat_eq (bit_at x (w % 64)) 1) here ∙ ap (λ x. nat_eq x 1) kept
                ∙ ap (λ x. nat_eq (bit_at x (w % 64)) 1) (sym was))
          ]
      | inr d ↦
          let there : get_or (set words (v / 64) new) (w / 64) 0 ≡ get_or words (w / 64) 0 = get_or-set_other words (v / 64) (w / 64) new 0 d.1 in
          elim (eqb_tells w v) [
            | inl e ↦ absurd (d.1 (ap (λ x. x / 64) e.1))
            | inr e ↦ rw e.0 (ap (λ x. nat_eq (bit_at x (w % 64)) 1) there)
          ]
    ]

same_below : (w v n : ℕ) → v < n → nat_eq (min w n) v ≡ nat_eq w v
same_below w v n h = elim (eqb_tells (min w n) v) [
  | inl a ↦ elim (eqb_tells w v) [ inl b ↦ a.0 ∙ sym b.0 | inr b ↦ absurd (b.1 (omega (arith, a.1))) ]
  | inr a ↦ elim (eqb_tells w v) [ inl b ↦ absurd (a.1 (omega (arith, b.1))) | inr b ↦ a.0 ∙ sym b.0 ]
]

pub add_name : (words : List ℕ) (n v w old : ℕ) → v < n → length words ≡ n / 64 + 1 → old ≡ get_or words (v / 64) old →
    is_one (set words (v / 64) (bit_or old (1 * 2 ^ (v % 64) % 2 ^ 64))) (min w n) ≡ (nat_eq w v || is_one words (min w n))
add_name words n v w old less whole is =
    let within : v / 64 < length words = omega (arith, whole) in
    let read : old ≡ get_or words (v / 64) 0 = is ∙ get_or_default words (v / 64) old 0 within in
    set_one words v (min w n) old within read ∙ ap (λ x. x || is_one words (min w n)) (same_below w v n less)

-- the ones of two rows

ones_of_both : (a b : ℕ) → a < 2 → b < 2 → nat_eq (min a b) 1 ≡ (nat_eq a 1 && nat_eq b 1)
ones_of_both a b p q = elim (eqb_tells a 1) [
  | inl x ↦ elim (eqb_tells b 1) [
    | inl y ↦ elim (eqb_tells (min a b) 1) [
      | inl z ↦ z.0 ∙ sym (ap₂ ◌&&◌ x.0 y.0)
      | inr z ↦ absurd (z.1 (omega (arith, x.1, y.1)))
    ]
    | inr y ↦ elim (eqb_tells (min a b) 1) [
      | inl z ↦ absurd (y.1 (omega (arith, x.1, z.1, q)))
      | inr z ↦ z.0 ∙ sym (ap₂ ◌&&◌ x.0 y.0)
    ]
  ]
  | inr x ↦ elim (eqb_tells (min a b) 1) [
    | inl z ↦ absurd (x.1 (omega (arith, z.1, p)))
    | inr z ↦ z.0 ∙ sym (ap (λ t. t && nat_eq b 1) x.0)
  ]
]

or_false : (a b : Bool) → (a || b) ≡ false → (a ≡ false) × (b ≡ false)
or_false true b h = absurd (cc)
or_false false b h = (refl, h)

no_not : (a : Bool) → a ≡ false → not a ≡ false → ⊥
no_not true e h = absurd (cc)
no_not false e h = absurd (cc)

no_true : (a : Bool) → a ≡ true → not a ≡ true → ⊥
no_true true e h = absurd (cc)
no_true false e h = absurd (cc)

or_true : (a b : Bool) → (a || b) ≡ true → (a ≡ true) ⊎ (b ≡ true)
or_true true b h = inl refl
or_true false b h = inr h

-- the first k words have been cut to those of the other row
pub record AreCut (old other now : List ℕ) (k : ℕ) (lost : Bool) : Type 0 where
  pub whole : length now ≡ length old
  pub cut : (i : ℕ) → i < k → get_or now i 0 ≡ bit_and (get_or old i 0) (get_or other i 0)
  pub rest : (i : ℕ) → k ≤ i → get_or now i 0 ≡ get_or old i 0
  pub same : lost ≡ false → now ≡ old
  pub fewer : lost ≡ true → sum now < sum old
  pub no_more : sum now ≤ sum old

pub none_cut : (old other : List ℕ) → AreCut old other old 0 false
none_cut old other = record {
  whole = refl;
  cut = λ i h. absurd (omega arith);
  rest = λ i h. refl;
  same = λ e. refl;
  fewer = λ e. absurd (cc);
  no_more = omega arith;
}

pub all_cut : (old other now : List ℕ) (k : ℕ) (lost : Bool) → length other ≡ length old → length old ≤ k → AreCut old other now k lost → (i : ℕ) →
    get_or now i 0 ≡ bit_and (get_or old i 0) (get_or other i 0)
all_cut old other now k lost same end c i = elim (leb_tells (length old) i) [
  | inl h ↦
      get_or_past now i 0 (omega (arith, h.1, c.whole))
      ∙ sym (ap₂ bit_and (get_or_past old i 0 h.1) (get_or_past other i 0 (omega (arith, h.1, same))))
  | inr h ↦ c.cut i (omega (arith, h.1))
]

pub cut_more : (old other now : List ℕ) (k word by : ℕ) (lost : Bool) → k < length now → length other ≡ length old → word ≡ get_or now k 0 →
    by ≡ get_or other k 0 → AreCut old other now k lost →
    AreCut old other (set now k (bit_and word by)) (k + 1) (lost || not (nat_eq (bit_and word by) word))
cut_more old other now k word by lost within same is_word is_by c =
    let new = set now k (bit_and word by) in
    let read : word ≡ get_or now k 0 = is_word in
    let was : get_or old k 0 ≡ word = sym (c.rest k (omega arith)) ∙ sym read in
    let is : get_or other k 0 ≡ by = sym is_by in
    let here : get_or new k 0 ≡ bit_and word by = get_or-set_same now k (bit_and word by) 0 within in
    let total = sum_by-set (λ x. x) now k (bit_and word by) 0 within in
    let less = and_le_l word by in
    record {
      whole = length-set now k (bit_and word by) ∙ c.whole;
      cut = λ i h. elim (eqb_tells i k) [
        | inl e ↦ subst (λ j. get_or new j 0 ≡ bit_and (get_or old j 0) (get_or other j 0)) (sym e.1) (here ∙ sym (ap₂ bit_and was is))
        | inr e ↦ get_or-set_other now k i (bit_and word by) 0 e.1 ∙ c.cut i (omega (arith, e.1))
      ];
      rest = λ i h. get_or-set_other now k i (bit_and word by) 0 (omega arith) ∙ c.rest i (omega arith);
      same = λ e.
          let parts = or_false lost (not (nat_eq (bit_and word by) word)) e in
          elim (eqb_tells (bit_and word by) word) [
            | inl q ↦ ap (set now k) (q.1 ∙ read) ∙ set-get_or now k 0 ∙ c.same parts.0
            | inr q ↦ absurd (no_not (nat_eq (bit_and word by) word) q.0 parts.1)
          ];
      fewer = λ e. elim (or_true lost (not (nat_eq (bit_and word by) word)) e) [
        | inl h ↦ omega (arith, total, less, read, c.fewer h)
        | inr h ↦ elim (eqb_tells (bit_and word by) word) [
          | inl q ↦ absurd (no_true (nat_eq (bit_and word by) word) q.0 h)
          | inr q ↦ omega (arith, total, less, read, q.1, c.no_more)
        ]
      ];
      no_more = omega (arith, total, less, read, c.no_more);
    }

pub cut_rows : (old other now : NameRow) → other.names ≡ old.names → now.names ≡ old.names →
    ((i : ℕ) → get_or now.words.items i 0 ≡ bit_and (get_or old.words.items i 0) (get_or other.words.items i 0)) → (v : ℕ) →
    has_name now v ≡ (has_name old v && has_name other v)
cut_rows old other now names_other names_now words v =
    let place : ℕ = min v old.names in
    let a : ℕ = get_or old.words.items (place / 64) 0 in
    let b : ℕ = get_or other.words.items (place / 64) 0 in
    ap (λ n. is_one now.words.items (min v n)) names_now
    ∙ ap (λ x. nat_eq (bit_at x (place % 64)) 1) (words (place / 64))
    ∙ ap (λ x. nat_eq x 1) (bit_at_and a b (place % 64))
    ∙ ones_of_both _ _ (bit_at-lt a (place % 64)) (bit_at-lt b (place % 64))
    ∙ ap (λ n. is_one old.words.items place && is_one other.words.items (min v n)) (sym names_other)
