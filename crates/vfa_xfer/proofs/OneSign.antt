-- Pairs of numbers of one sign.
use Rattle.std.proofs.Common.{◌≡◌, ℕ, ◌-◌, ◌^◌, ◌<◌, ◌≤◌, Bool, true, false, not, ◌&&◌, ◌||◌, refl, sym, ◌∙◌, ap, arith, ◌⊎◌, inl, inr, Option, Some, None, nat_lt, nat_le, nat_eq, if◌then◌else◌, unwrap_or}
use Rattle.std.proofs.lemmas.Bool.{cases_lt, and_parts, and_from, true≢false, or_cases, or_left, or_right, leb-true, le-leb, eqb-true}
use Rattle.std.proofs.lemmas.Bool.Decides.{nat_tests}
use Rattle.std.proofs.lemmas.Int.{ints}
use Rattle.std.proofs.lemmas.Nat.{pow_pos}
use Rattle.vfa_dom.specs.Sets.{meet}
use Rattle.vfa_dom.proofs.SetSearches.{meet_from, meet_parts}
use Rattle.vfa_word.specs.Operations.{signed_less}
use Rattle.vfa_word.proofs.Readings.{reading_low, reading_high}
use Rattle.vfa_wrap.proofs.RowArcs.{half_twice}
use Rattle.vfa_mean.specs.Rows.{is_negative}
use Rattle.vfa_fact.specs.declared.numbers.Numbers.{Numbers}
use Rattle.vfa_ir.specs.Predicates.{by_order}
use Rattle.vfa_ir.specs.declared.operations.Pred.{Pred}
use Rattle.vfa_fact.specs.Compare.{satisfies, decided, decide_of}
use Rattle.vfa_fact.specs.Interval.{interval}
use Rattle.vfa_fact.proofs.Decisions.{Members, Decides, decided_tells}
use Rattle.vfa_fact.proofs.Partnered.{empty_tells}
use Rattle.vfa_xfer.specs.declared.comparisons.Answers.{Answers}
use Rattle.vfa_xfer.specs.declared.comparisons.Halves.{Halves}
use Rattle.vfa_xfer.specs.Comparisons.{counts, some_pair, answers_by, answers_of}
use Rattle.vfa_xfer.specs.Halves.{EndsOfPart, related_by, related_halves}
use Rattle.vfa_xfer.specs.Pairs.{Passing, pair_from, pair_at, pair_is, passing_too, pairs_alike, answers_same}

-- ---- signs

none_below : (x : ℕ) → nat_lt x 0 ≡ false
none_below x = grind (arith, nat_tests)

pub negative_low : (w x : ℕ) → x < 2 ^ (w - 1) → is_negative w x ≡ false
negative_low w x low = rw (reading_low w x low) (none_below x)

pub negative_high : (w x : ℕ) → 2 ^ (w - 1) ≤ x → x < 2 ^ w → is_negative w x ≡ true
negative_high w x high fits = rw (reading_high w x high fits) refl

counts_at : (m n : Bool) → m ≡ n → not (if m then not n else n) ≡ true
counts_at true n e = grind arith
counts_at false n e = grind arith

alike_signs : (m n : Bool) → not (if m then not n else n) ≡ true → m ≡ n
alike_signs true n e = grind arith
alike_signs false n e = grind arith

pub counts_low : (w x y : ℕ) → x < 2 ^ (w - 1) → y < 2 ^ (w - 1) → counts true w x y ≡ true
counts_low w x y hx hy = counts_at (is_negative w x) (is_negative w y) (negative_low w x hx ∙ sym (negative_low w y hy))

pub counts_high : (w x y : ℕ) → 2 ^ (w - 1) ≤ x → x < 2 ^ w → 2 ^ (w - 1) ≤ y → y < 2 ^ w → counts true w x y ≡ true
counts_high w x y hx fx hy fy = counts_at (is_negative w x) (is_negative w y) (negative_high w x hx fx ∙ sym (negative_high w y hy fy))

pub counts_itself : (w x : ℕ) → counts true w x x ≡ true
counts_itself w x = counts_at (is_negative w x) (is_negative w x) refl

pub counts_cases : (w x y : ℕ) → x < 2 ^ w → y < 2 ^ w → counts true w x y ≡ true →
    ((x < 2 ^ (w - 1)) × (y < 2 ^ (w - 1))) ⊎ ((2 ^ (w - 1) ≤ x) × (2 ^ (w - 1) ≤ y))
counts_cases w x y fx fy one =
    let same = alike_signs (is_negative w x) (is_negative w y) one in
    elim (cases_lt x (2 ^ (w - 1))) [
      | inl lx ↦ elim (cases_lt y (2 ^ (w - 1))) [
        | inl ly ↦ inl (lx, ly)
        | inr hy ↦ absurd (true≢false (sym (negative_high w y hy fy) ∙ sym same ∙ negative_low w x lx))
      ]
      | inr hx ↦ elim (cases_lt y (2 ^ (w - 1))) [
        | inl ly ↦ absurd (true≢false (sym (negative_high w x hx fx) ∙ same ∙ negative_low w y ly))
        | inr hy ↦ inr (hx, hy)
      ]
    ]

counted_turn : (m n : Bool) → not (if m then not n else n) ≡ not (if n then not m else m)
counted_turn true true = refl
counted_turn true false = refl
counted_turn false true = refl
counted_turn false false = refl

pub counts_turned : (w x y : ℕ) → counts true w x y ≡ counts true w y x
counts_turned w x y = counted_turn (is_negative w x) (is_negative w y)

-- the signed order of numbers of one sign is the unsigned one
pub signed_alike : (w x y : ℕ) → x < 2 ^ w → y < 2 ^ w → counts true w x y ≡ true → signed_less w x y ≡ nat_lt x y
signed_alike w x y fx fy one = elim (counts_cases w x y fx fy one) [
  | inl low ↦ rw (reading_low w x low.0, reading_low w y low.1) (grind (arith, nat_tests, ints))
  | inr high ↦ rw (reading_high w x high.0 fx, reading_high w y high.1 fy) (grind (arith, nat_tests, ints))
]

-- ---- tests that agree on the pairs that count

and_alike : (c s t : Bool) → (c ≡ true → s ≡ t) → (c && s) ≡ (c && t)
and_alike true s t e = e refl
and_alike false s t e = refl

pub answers_alike : (samesign : Bool) (w : ℕ) (S T : ℕ → ℕ → Bool) (A B : ℕ → Bool) →
    ((x y : ℕ) → x < 2 ^ w → y < 2 ^ w → counts samesign w x y ≡ true → S x y ≡ T x y) → answers_by samesign w S A B ≡ answers_by samesign w T A B
unfolding answers_by
answers_alike samesign w S T A B alike =
    let y = pairs_alike w (λ x y. counts samesign w x y && S x y) (λ x y. counts samesign w x y && T x y) A B
    (λ x y hx hy. and_alike (counts samesign w x y) (S x y) (T x y) (alike x y hx hy)) in
    let n = pairs_alike w (λ x y. counts samesign w x y && not (S x y)) (λ x y. counts samesign w x y && not (T x y)) A B
    (λ x y hx hy. and_alike (counts samesign w x y) (not (S x y)) (not (T x y)) (λ c. ap not (alike x y hx hy c))) in
    answers_same _ _ _ _ y n

twice_not : (b : Bool) → not (not b) ≡ b
twice_not true = refl
twice_not false = refl

pub answers_negated : (samesign : Bool) (w : ℕ) (T : ℕ → ℕ → Bool) (A B : ℕ → Bool) (r : Answers) → r ≡ answers_by samesign w T A B →
    record { yes = r.no; no = r.yes } ≡ answers_by samesign w (λ x y. not (T x y)) A B
unfolding answers_by
answers_negated samesign w T A B r e =
    let back = pairs_alike w (λ x y. counts samesign w x y && not (not (T x y))) (λ x y. counts samesign w x y && T x y) A B
    (λ x y hx hy. ap (λ b. counts samesign w x y && b) (twice_not (T x y))) in
    let y : r.yes ≡ some_pair w (λ x y. counts samesign w x y && T x y) A B = ap (λ (a : Answers). a.yes) e in
    let n : r.no ≡ some_pair w (λ x y. counts samesign w x y && not (T x y)) A B = ap (λ (a : Answers). a.no) e in
    answers_same _ _ _ _ n (y ∙ sym back)

turn_pair : (w : ℕ) (T : ℕ → ℕ → Bool) (A B : ℕ → Bool) → Passing w T A B → Passing w (λ x y. T y x) B A
turn_pair w T A B p = record {
  left = p.right;
  right = p.left;
  left_fits = p.right_fits;
  right_fits = p.left_fits;
  left_in = p.right_in;
  right_in = p.left_in;
  is = p.is;
}

pub pairs_turned : (w : ℕ) (T : ℕ → ℕ → Bool) (A B : ℕ → Bool) → some_pair w T B A ≡ some_pair w (λ x y. T y x) A B
pairs_turned w T A B = pair_is w (λ x y. T y x) A B (some_pair w T B A)
    (λ e. turn_pair w T B A (pair_at w T B A e)) (λ p. pair_from w T B A (turn_pair w (λ x y. T y x) A B p))

pub answers_turned : (w : ℕ) (T : ℕ → ℕ → Bool) (A B : ℕ → Bool) → answers_by true w T B A ≡ answers_by true w (λ x y. T y x) A B
unfolding answers_by
answers_turned w T A B =
    let y = pairs_turned w (λ x y. counts true w x y && T x y) A B
    ∙ pairs_alike w (λ x y. counts true w y x && T y x) (λ x y. counts true w x y && T y x) A B (λ x y hx hy. ap (λ c. c && T y x) (counts_turned w y x)) in
    let n = pairs_turned w (λ x y. counts true w x y && not (T x y)) A B
    ∙ pairs_alike w (λ x y. counts true w y x && not (T y x)) (λ x y. counts true w x y && not (T y x)) A B (λ x y hx hy. ap (λ c. c && not (T y x)) (counts_turned w y x)) in
    answers_same _ _ _ _ y n

-- ---- halves

-- the relation goes from lesser to greater numbers
pub record Rises (relation : ℕ → ℕ → Bool) : Type 0 where
  pub rises : (x y x' y' : ℕ) → x' ≤ x → y ≤ y' → relation x y ≡ true → relation x' y' ≡ true

pub less_rises : Rises nat_lt
less_rises = record { rises = λ x y x' y' hx hy less. grind (arith, nat_tests) }

pub at_most_rises : Rises nat_le
at_most_rises = record { rises = λ x y x' y' hx hy less. grind (arith, nat_tests) }

-- a pair of numbers from lo up to hi that stand in the relation
record Between (lo hi : ℕ) (relation : ℕ → ℕ → Bool) (A B : ℕ → Bool) : Type 0 where
  pub left : ℕ
  pub right : ℕ
  pub left_in : A left ≡ true
  pub right_in : B right ≡ true
  pub left_from : lo ≤ left
  pub left_upto : left ≤ hi
  pub right_from : lo ≤ right
  pub right_upto : right ≤ hi
  pub is : relation left right ≡ true

inside : (lo hi x : ℕ) → interval lo hi x ≡ true → (lo ≤ x) × (x ≤ hi)
unfolding interval
inside lo hi x e = let p = and_parts (nat_le lo x) (nat_le x hi) e in (leb-true lo x p.0, leb-true x hi p.1)

inside_from : (lo hi x : ℕ) → lo ≤ x → x ≤ hi → interval lo hi x ≡ true
unfolding interval
inside_from lo hi x from upto = and_from (nat_le lo x) (nat_le x hi) (le-leb lo x from) (le-leb x hi upto)

module _ (w lo hi : ℕ) (relation : ℕ → ℕ → Bool) (A B : ℕ → Bool) where
  part_yes : (o p : Option Numbers) → EndsOfPart w A lo hi o → EndsOfPart w B lo hi p → related_by relation o p ≡ true → Between lo hi relation A B
  part_yes None p a b e = absurd (true≢false (sym e))
  part_yes (Some m) None a b e = absurd (true≢false (sym e))
  part_yes (Some m) (Some n) a b e =
      let one = meet_parts (interval lo hi) A m.first a.first_in in
      let two = meet_parts (interval lo hi) B n.last b.last_in in
      let left = inside lo hi m.first one.0 in
      let right = inside lo hi n.last two.0 in
      record {
        left = m.first;
        right = n.last;
        left_in = one.1;
        right_in = two.1;
        left_from = left.0;
        left_upto = left.1;
        right_from = right.0;
        right_upto = right.1;
        is = e;
      }

  part_back : (o p : Option Numbers) → hi < 2 ^ w → EndsOfPart w A lo hi o → EndsOfPart w B lo hi p → Rises relation → Between lo hi relation A B → related_by relation o p ≡ true
  part_back None p top a b up pair = absurd (true≢false
      (sym (meet_from (interval lo hi) A pair.left (inside_from lo hi pair.left pair.left_from pair.left_upto) pair.left_in)
      ∙ empty_tells w (meet (interval lo hi) A) a pair.left (let u = pair.left_upto in omega arith)))
  part_back (Some m) None top a b up pair = absurd (true≢false
      (sym (meet_from (interval lo hi) B pair.right (inside_from lo hi pair.right pair.right_from pair.right_upto) pair.right_in)
      ∙ empty_tells w (meet (interval lo hi) B) b pair.right (let u = pair.right_upto in omega arith)))
  part_back (Some m) (Some n) top a b up pair =
      up.rises pair.left pair.right m.first n.last
      (a.from pair.left (meet_from (interval lo hi) A pair.left (inside_from lo hi pair.left pair.left_from pair.left_upto) pair.left_in))
      (b.upto pair.right (meet_from (interval lo hi) B pair.right (inside_from lo hi pair.right pair.right_from pair.right_upto) pair.right_in))
      pair.is

-- the halves of a set
pub record AreHalves (w : ℕ) (S : ℕ → Bool) (h : Halves) : Type 0 where
  pub low : EndsOfPart w S 0 (2 ^ (w - 1) - 1) h.low
  pub high : EndsOfPart w S (2 ^ (w - 1)) (2 ^ w - 1) h.high

module _ (w : ℕ) (relation : ℕ → ℕ → Bool) (A B : ℕ → Bool) (a b : Halves) (wide : 1 ≤ w) (up : Rises relation) (one : AreHalves w A a) (two : AreHalves w B b) where
  abbrev test : ℕ → ℕ → Bool
  test x y = counts true w x y && relation x y

  halves_yes : related_halves relation a b ≡ true → Passing w test A B
  halves_yes e =
      let half = half_twice w wide in
      let some = pow_pos (w - 1) in
      elim (or_cases (related_by relation a.low b.low) (related_by relation a.high b.high) e) [
        | inl low ↦
            let p = part_yes w 0 (2 ^ (w - 1) - 1) relation A B a.low b.low one.low two.low low in
            let lx : p.left < 2 ^ (w - 1) = (let u = p.left_upto in omega arith) in
            let ly : p.right < 2 ^ (w - 1) = (let u = p.right_upto in omega arith) in
            record {
              left = p.left;
              right = p.right;
              left_fits = omega arith;
              right_fits = omega arith;
              left_in = p.left_in;
              right_in = p.right_in;
              is = and_from (counts true w p.left p.right) (relation p.left p.right) (counts_low w p.left p.right lx ly) p.is;
            }
        | inr high ↦
            let p = part_yes w (2 ^ (w - 1)) (2 ^ w - 1) relation A B a.high b.high one.high two.high high in
            let fx : p.left < 2 ^ w = (let u = p.left_upto in omega arith) in
            let fy : p.right < 2 ^ w = (let u = p.right_upto in omega arith) in
            record {
              left = p.left;
              right = p.right;
              left_fits = fx;
              right_fits = fy;
              left_in = p.left_in;
              right_in = p.right_in;
              is = and_from (counts true w p.left p.right) (relation p.left p.right) (counts_high w p.left p.right p.left_from fx p.right_from fy) p.is;
            }
      ]

  halves_back : Passing w test A B → related_halves relation a b ≡ true
  halves_back p =
      let half = half_twice w wide in
      let some = pow_pos (w - 1) in
      let parts = and_parts (counts true w p.left p.right) (relation p.left p.right) p.is in
      let fx = p.left_fits in
      let fy = p.right_fits in
      elim (counts_cases w p.left p.right p.left_fits p.right_fits parts.0) [
        | inl low ↦ or_left (related_by relation a.low b.low) (related_by relation a.high b.high)
            (part_back w 0 (2 ^ (w - 1) - 1) relation A B a.low b.low (omega arith) one.low two.low up (record {
              left = p.left;
              right = p.right;
              left_in = p.left_in;
              right_in = p.right_in;
              left_from = omega arith;
              left_upto = (let l = low.0 in omega arith);
              right_from = omega arith;
              right_upto = (let l = low.1 in omega arith);
              is = parts.1;
            }))
        | inr high ↦ or_right (related_by relation a.low b.low) (related_by relation a.high b.high)
            (part_back w (2 ^ (w - 1)) (2 ^ w - 1) relation A B a.high b.high (omega arith) one.high two.high up (record {
              left = p.left;
              right = p.right;
              left_in = p.left_in;
              right_in = p.right_in;
              left_from = high.0;
              left_upto = omega arith;
              right_from = high.1;
              right_upto = omega arith;
              is = parts.1;
            }))
      ]

  pub halves_are : related_halves relation a b ≡ some_pair w (λ x y. counts true w x y && relation x y) A B
  halves_are = pair_is w test A B (related_halves relation a b) halves_yes halves_back

not_less : (x y : ℕ) → nat_le y x ≡ not (nat_lt x y)
not_less x y = grind (arith, nat_tests)

pub before_is : (w : ℕ) (A B : ℕ → Bool) (a b : Halves) → 1 ≤ w → AreHalves w A a → AreHalves w B b →
    record { yes = related_halves nat_lt a b; no = related_halves nat_le b a } ≡ answers_by true w nat_lt A B
unfolding answers_by
before_is w A B a b wide one two =
    let y = halves_are w nat_lt A B a b wide less_rises one two in
    let n = halves_are w nat_le B A b a wide at_most_rises two one
    ∙ pairs_turned w (λ x y. counts true w x y && nat_le x y) A B
    ∙ pairs_alike w (λ x y. counts true w y x && nat_le y x) (λ x y. counts true w x y && not (nat_lt x y)) A B
    (λ x y hx hy. ap (λ c. c && nat_le y x) (counts_turned w y x) ∙ ap (λ l. counts true w x y && l) (not_less x y)) in
    answers_same _ _ _ _ y n

-- ---- the same number

some_same : (w : ℕ) (A B : ℕ → Bool) (o : Option Bool) → Members w A B → Decides w nat_eq A B o → unwrap_or o true ≡ some_pair w nat_eq A B
some_same w A B (Some true) m alike = sym (pair_from w nat_eq A B (record {
  left = m.left;
  right = m.right;
  left_fits = m.left_fits;
  right_fits = m.right_fits;
  left_in = m.left_in;
  right_in = m.right_in;
  is = alike.each m.left m.right m.left_fits m.right_fits m.left_in m.right_in;
}))
some_same w A B (Some false) m alike = pair_is w nat_eq A B false (λ e. absurd (true≢false (sym e)))
    (λ p. sym (alike.each p.left p.right p.left_fits p.right_fits p.left_in p.right_in) ∙ p.is)
some_same w A B None m pairs = sym (pair_from w nat_eq A B pairs.0)

counted_same : (c e : Bool) → (e ≡ true → c ≡ true) → e ≡ (c && e)
counted_same c true f = sym (and_from c true (f refl) refl)
counted_same true false f = refl
counted_same false false f = refl

apart_cases : (c l m e : Bool) → (l || m) ≡ not e → ((c && l) || (c && m)) ≡ (c && not e)
apart_cases true l m e h = h
apart_cases false l m e h = refl

less_or_more : (x y : ℕ) → (nat_lt x y || nat_lt y x) ≡ not (nat_eq x y)
less_or_more x y = grind (arith, nat_tests)

some_either : (w : ℕ) (S T : ℕ → ℕ → Bool) (A B : ℕ → Bool) → (some_pair w S A B || some_pair w T A B) ≡ some_pair w (λ x y. S x y || T x y) A B
some_either w S T A B = let either : ℕ → ℕ → Bool = (λ (x y : ℕ). S x y || T x y) in pair_is w either A B (some_pair w S A B || some_pair w T A B)
    (λ e. elim (or_cases (some_pair w S A B) (some_pair w T A B) e) [
      | inl s ↦ let p = pair_at w S A B s in passing_too w S either A B true p (or_left (S p.left p.right) (T p.left p.right) p.is)
      | inr t ↦ let p = pair_at w T A B t in passing_too w T either A B true p (or_right (S p.left p.right) (T p.left p.right) p.is)
    ])
    (λ p. elim (or_cases (S p.left p.right) (T p.left p.right) p.is) [
      | inl s ↦ or_left (some_pair w S A B) (some_pair w T A B) (pair_from w S A B (passing_too w either S A B true p s))
      | inr t ↦ or_right (some_pair w S A B) (some_pair w T A B) (pair_from w T A B (passing_too w either T A B true p t))
    ])

pub same_is : (w : ℕ) (A B : ℕ → Bool) (a b : Halves) (o : Option Bool) → 1 ≤ w → AreHalves w A a → AreHalves w B b → Members w A B → o ≡ decided w nat_eq A B →
    record { yes = unwrap_or o true; no = related_halves nat_lt a b || related_halves nat_lt b a } ≡ answers_by true w nat_eq A B
unfolding answers_by
same_is w A B a b o wide one two m e =
    let y : unwrap_or o true ≡ some_pair w (λ x y. counts true w x y && nat_eq x y) A B =
    ap (λ (d : Option Bool). unwrap_or d true) e ∙ some_same w A B (decided w nat_eq A B) m (decided_tells w nat_eq A B)
    ∙ pairs_alike w nat_eq (λ x y. counts true w x y && nat_eq x y) A B
    (λ x y hx hy. counted_same (counts true w x y) (nat_eq x y) (λ s. ap (counts true w x) (sym (eqb-true x y s)) ∙ counts_itself w x)) in
    let more = halves_are w nat_lt B A b a wide less_rises two one ∙ pairs_turned w (λ x y. counts true w x y && nat_lt x y) A B
    ∙ pairs_alike w (λ x y. counts true w y x && nat_lt y x) (λ x y. counts true w x y && nat_lt y x) A B (λ x y hx hy. ap (λ c. c && nat_lt y x) (counts_turned w y x)) in
    let n : (related_halves nat_lt a b || related_halves nat_lt b a) ≡ some_pair w (λ x y. counts true w x y && not (nat_eq x y)) A B =
    ap (λ l. l || related_halves nat_lt b a) (halves_are w nat_lt A B a b wide less_rises one two)
    ∙ ap (λ l. some_pair w (λ x y. counts true w x y && nat_lt x y) A B || l) more
    ∙ some_either w (λ x y. counts true w x y && nat_lt x y) (λ x y. counts true w x y && nat_lt y x) A B
    ∙ pairs_alike w _ (λ x y. counts true w x y && not (nat_eq x y)) A B
    (λ x y hx hy. apart_cases (counts true w x y) (nat_lt x y) (nat_lt y x) (nat_eq x y) (less_or_more x y)) in
    answers_same _ _ _ _ y n

-- ---- the comparisons

pub decided_same : (w : ℕ) (A B : ℕ → Bool) → decide_of w Pred.Eq A B ≡ decided w nat_eq A B
unfolding decide_of satisfies by_order
decided_same w A B = refl

module _ (w : ℕ) (A B : ℕ → Bool) (r : Answers) where
  pub for_equal : r ≡ answers_by true w nat_eq A B → r ≡ answers_of Pred.Eq true w A B
  unfolding satisfies by_order
  for_equal e = e

  pub for_unequal : r ≡ answers_by true w nat_eq A B → record { yes = r.no; no = r.yes } ≡ answers_of Pred.Ne true w A B
  unfolding satisfies by_order
  for_unequal e = answers_negated true w nat_eq A B r e

  pub for_less : r ≡ answers_by true w nat_lt A B → r ≡ answers_of Pred.Ult true w A B
  unfolding satisfies by_order
  for_less e = e

  pub for_less_signed : r ≡ answers_by true w nat_lt A B → r ≡ answers_of Pred.Slt true w A B
  unfolding satisfies by_order
  for_less_signed e = e ∙ answers_alike true w nat_lt (signed_less w) A B (λ x y hx hy c. sym (signed_alike w x y hx hy c))

  pub for_not_less : r ≡ answers_by true w nat_lt A B → record { yes = r.no; no = r.yes } ≡ answers_of Pred.Uge true w A B
  unfolding satisfies by_order
  for_not_less e = answers_negated true w nat_lt A B r e

  pub for_not_less_signed : r ≡ answers_by true w nat_lt A B → record { yes = r.no; no = r.yes } ≡ answers_of Pred.Sge true w A B
  unfolding satisfies by_order
  for_not_less_signed e = answers_negated true w nat_lt A B r e
      ∙ answers_alike true w (λ x y. not (nat_lt x y)) (λ x y. not (signed_less w x y)) A B (λ x y hx hy c. ap not (sym (signed_alike w x y hx hy c)))

  pub for_more : r ≡ answers_by true w nat_lt B A → r ≡ answers_of Pred.Ugt true w A B
  unfolding satisfies by_order
  for_more e = e ∙ answers_turned w nat_lt A B

  turned_signed : (x y : ℕ) → x < 2 ^ w → y < 2 ^ w → counts true w x y ≡ true → nat_lt y x ≡ signed_less w y x
  turned_signed x y hx hy c = sym (signed_alike w y x hy hx (sym (counts_turned w x y) ∙ c))

  pub for_more_signed : r ≡ answers_by true w nat_lt B A → r ≡ answers_of Pred.Sgt true w A B
  unfolding satisfies by_order
  for_more_signed e = e ∙ answers_turned w nat_lt A B ∙ answers_alike true w (λ x y. nat_lt y x) (λ x y. signed_less w y x) A B turned_signed

  pub for_not_more : r ≡ answers_by true w nat_lt B A → record { yes = r.no; no = r.yes } ≡ answers_of Pred.Ule true w A B
  unfolding satisfies by_order
  for_not_more e = answers_negated true w (λ x y. nat_lt y x) A B r (e ∙ answers_turned w nat_lt A B)

  pub for_not_more_signed : r ≡ answers_by true w nat_lt B A → record { yes = r.no; no = r.yes } ≡ answers_of Pred.Sle true w A B
  unfolding satisfies by_order
  for_not_more_signed e = answers_negated true w (λ x y. nat_lt y x) A B r (e ∙ answers_turned w nat_lt A B)
      ∙ answers_alike true w (λ x y. not (nat_lt y x)) (λ x y. not (signed_less w y x)) A B (λ x y hx hy c. ap not (turned_signed x y hx hy c))

-- ---- all pairs

module _ (w : ℕ) (test : ℕ → ℕ → Bool) (A B : ℕ → Bool) (m : Members w A B) where
  none_such : (T : ℕ → ℕ → Bool) → ((x y : ℕ) → x < 2 ^ w → y < 2 ^ w → A x ≡ true → B y ≡ true → T x y ≡ false) → false ≡ some_pair w T A B
  none_such T out = pair_is w T A B false (λ e. absurd (true≢false (sym e)))
      (λ p. sym (out p.left p.right p.left_fits p.right_fits p.left_in p.right_in) ∙ p.is)

  some_such : (T : ℕ → ℕ → Bool) → ((x y : ℕ) → x < 2 ^ w → y < 2 ^ w → A x ≡ true → B y ≡ true → T x y ≡ true) → true ≡ some_pair w T A B
  some_such T each = sym (pair_from w T A B (record {
    left = m.left;
    right = m.right;
    left_fits = m.left_fits;
    right_fits = m.right_fits;
    left_in = m.left_in;
    right_in = m.right_in;
    is = each m.left m.right m.left_fits m.right_fits m.left_in m.right_in;
  }))

  all_answers : (o : Option Bool) → Decides w test A B o → (one two : Bool) → o ≡ Some one → two ≡ not one → record { yes = one; no = two } ≡ answers_by false w test A B
  unfolding answers_by
  all_answers (Some true) alike one two e f =
      let y : one ≡ some_pair w test A B = (let t : one ≡ true = cc in t ∙ some_such test (λ x z hx hz m n. alike.each x z hx hz m n)) in
      let n : two ≡ some_pair w (λ x z. not (test x z)) A B =
      (let t : two ≡ false = cc in t ∙ none_such (λ x z. not (test x z)) (λ x z hx hz m n. ap not (alike.each x z hx hz m n))) in
      answers_same _ _ _ _ y n
  all_answers (Some false) alike one two e f =
      let y : one ≡ some_pair w test A B = (let t : one ≡ false = cc in t ∙ none_such test (λ x z hx hz m n. alike.each x z hx hz m n)) in
      let n : two ≡ some_pair w (λ x z. not (test x z)) A B =
      (let t : two ≡ true = cc in t ∙ some_such (λ x z. not (test x z)) (λ x z hx hz m n. ap not (alike.each x z hx hz m n))) in
      answers_same _ _ _ _ y n
  all_answers None pairs one two e f = absurd (cc)

  pub one_answer : (o : Option Bool) (yes no : Bool) → o ≡ decided w test A B → o ≡ Some yes → no ≡ not yes → record { yes = yes; no = no } ≡ answers_by false w test A B
  one_answer o one two e is f = all_answers (decided w test A B) (decided_tells w test A B) one two (sym e ∙ is) f

  both_at : (o : Option Bool) → Decides w test A B o → o ≡ None → record { yes = true; no = true } ≡ answers_by false w test A B
  unfolding answers_by
  both_at (Some b) alike e = absurd (cc)
  both_at None pairs e =
      let y : true ≡ some_pair w test A B = sym (pair_from w test A B pairs.0) in
      let n : true ≡ some_pair w (λ x z. not (test x z)) A B = (let p = pairs.1 in sym (pair_from w (λ x z. not (test x z)) A B (passing_too w test (λ x z. not (test x z)) A B false p (ap not p.is)))) in
      answers_same _ _ _ _ y n

  pub both_answers : (o : Option Bool) → o ≡ decided w test A B → o ≡ None → record { yes = true; no = true } ≡ answers_by false w test A B
  both_answers o e is = both_at (decided w test A B) (decided_tells w test A B) (sym e ∙ is)

-- a set without members has no answer
pub no_answers : (samesign : Bool) (w : ℕ) (T : ℕ → ℕ → Bool) (A B : ℕ → Bool) → ((x y : ℕ) → A x ≡ true → B y ≡ true → ⊥) → record { yes = false; no = false } ≡ answers_by samesign w T A B
unfolding answers_by
no_answers samesign w T A B none =
    let y : false ≡ some_pair w (λ x z. counts samesign w x z && T x z) A B =
    pair_is w (λ x z. counts samesign w x z && T x z) A B false (λ e. absurd (true≢false (sym e))) (λ p. absurd (none p.left p.right p.left_in p.right_in)) in
    let n : false ≡ some_pair w (λ x z. counts samesign w x z && not (T x z)) A B =
    pair_is w (λ x z. counts samesign w x z && not (T x z)) A B false (λ e. absurd (true≢false (sym e))) (λ p. absurd (none p.left p.right p.left_in p.right_in)) in
    answers_same _ _ _ _ y n
