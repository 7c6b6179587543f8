-- The laws of the widening of cells: what it covers, that it settles, and that ranks fall.
use Rattle.std.proofs.Common.{◌≡◌, ℕ, ◌+◌, ◌-◌, ◌*◌, ◌%◌, ◌^◌, ◌<◌, ◌≤◌, ◌⊎◌, Bool, true, false, not, ◌||◌, inl, inr, refl, sym, ◌∙◌, ap, subst, arith, List, Option, Some, None, nat_eq, nat_lt, bit_xor, if◌then◌else◌}
use Rattle.std.proofs.lemmas.Bool.{cases_Bool, cases_lt, true≢false, eq-eqb, eqb-true, and_parts, and_from, lt-ltb, le-ltb, or_right}
use Rattle.std.proofs.lemmas.Nat.{pow_pos}
use Rattle.std.proofs.lemmas.Nat.Bits.{bit_at_above}
use Rattle.vfa_dom.specs.Best.{Masks}
use Rattle.vfa_dom.specs.Search.{flag}
use Rattle.vfa_dom.specs.Sets.{meet}
use Rattle.vfa_dom.proofs.Bests.{digit_cases}
use Rattle.vfa_dom.proofs.SetSearches.{meet_from}
use Rattle.vfa_known.specs.Cube.{IsCube, in_masks}
use Rattle.vfa_known.proofs.Cubes.{in_masks_from, in_masks_at}
use Rattle.vfa_wrap.specs.Arc.{Span, IsArc, steps, in_span, full_span}
use Rattle.vfa_wrap.specs.Rounding.{fall_of, rise_of, rounded_out}
use Rattle.vfa_wrap.proofs.Circle.{steps_is, in_from, in_full, full_is_arc, part_is_arc, arc_ahead_part}
use Rattle.vfa_wrap.proofs.Marks.{rounded_full, rounded_part, rounded_holds}
use Rattle.vfa_fact.specs.declared.numbers.Numbers.{Numbers}
use Rattle.vfa_fact.specs.Cells.{in_option}
use Rattle.vfa_fact.specs.Fact.{masks_in, span_in, in_numbers, in_numbers_fits, IsFact}
use Rattle.vfa_fact.proofs.Facts.{numbers_parts, fact_best, fact_cube}
use Rattle.vfa_fact.proofs.SharpArcs.{sharp_in_fact, sharp_in_has}
use Rattle.vfa_fact.proofs.SharpSets.{sharp_tells}
use Rattle.vfa_values.specs.Laws.{first_falling_round}
use Rattle.vfa_xfer.specs.LowBits.{IsWeaker, weaker_through, low_weaker, weaker_in, low_cube, low_again, cube_numbers, low_all, low_span_is, weaker_counts}
use Rattle.vfa_xfer.specs.Ranks.{known_count, low_span, fact_rank}
use Rattle.vfa_xfer.specs.Widening.{first_landmark_round, low_masks, is_same_span, reached_span, low_in, widened_fact}

of_some : {A : Type 0} (a b : A) → Some a ≡ Some b → a ≡ b
of_some a b e = cc

-- ---- spans

pub same_span_from : (s t : Span) → is_same_span s t ≡ true → s ≡ t
unfolding is_same_span
same_span_from s t same =
    let parts = and_parts (nat_eq s.first t.first) (nat_eq s.last t.last) same in
    ap (λ (n : ℕ). record { first = n; last = s.last }) (eqb-true s.first t.first parts.0)
    ∙ ap (λ (n : ℕ). record { first = t.first; last = n }) (eqb-true s.last t.last parts.1)

pub same_span_to : (s t : Span) → s ≡ t → is_same_span s t ≡ true
unfolding is_same_span
same_span_to s t same =
    and_from (nat_eq s.first t.first) (nat_eq s.last t.last)
    (eq-eqb s.first t.first (ap (λ (r : Span). r.first) same)) (eq-eqb s.last t.last (ap (λ (r : Span). r.last) same))

-- ---- an arc rounded out

-- it is full, or it begins some steps before the arc and ends some steps after it
pub data Rounded (w : ℕ) (arc old : Span) (marks : List ℕ) : Type 0 where
  all : rounded_out w arc old marks ≡ full_span w → Rounded w arc old marks
  more : (fall rise : ℕ) → steps w arc.first arc.last + 1 + fall + rise < 2 ^ w →
      rounded_out w arc old marks ≡ record { first = steps w fall arc.first; last = (steps w fall arc.first + (steps w arc.first arc.last + fall + rise)) % 2 ^ w } →
      Rounded w arc old marks

pub rounded_cases : (w : ℕ) (arc old : Span) (marks : List ℕ) → IsArc w arc → Rounded w arc old marks
rounded_cases w arc old marks is =
    let fall : ℕ = fall_of w arc old marks in
    let rise : ℕ = rise_of w arc old marks in
    let own : ℕ = steps w arc.first arc.last in
    elim (cases_lt (own + 1 + fall + rise) (2 ^ w)) [
      | inr full ↦ all (sym (rounded_full w fall rise arc old marks refl refl full))
      | inl part ↦
          let start = steps_is w fall arc.first (omega arith) is.first_fits in
          more fall rise part (sym (rounded_part w fall rise own arc old marks is refl refl refl part)
          ∙ arc_ahead_part w (steps w fall arc.first) (own + fall + rise) start.0 (omega arith))
    ]

rounded_arc : (w : ℕ) (arc old : Span) (marks : List ℕ) → IsArc w arc → IsArc w (rounded_out w arc old marks)
rounded_arc w arc old marks is = elim (rounded_cases w arc old marks is) [
  | all same ↦ subst (IsArc w) (sym same) (let some = pow_pos w in full_is_arc w (2 ^ w - 1) (omega arith))
  | more fall rise room same ↦ subst (IsArc w) (sym same)
      (let start = steps_is w fall arc.first (omega arith) is.first_fits in
      part_is_arc w (steps w fall arc.first) (steps w arc.first arc.last + fall + rise) _ start.0 (omega arith) (λ e. omega arith) refl)
]

rounded_has : (w : ℕ) (arc old : Span) (marks : List ℕ) (x : ℕ) → IsArc w arc → in_span w arc x ≡ true → in_span w (rounded_out w arc old marks) x ≡ true
rounded_has w arc old marks x is here = elim (rounded_cases w arc old marks is) [
  | all same ↦ ap (λ (s : Span). in_span w s x) same ∙ in_full w x (in_from w arc x here).0
  | more fall rise room same ↦
      let start = steps_is w fall arc.first (omega arith) is.first_fits in
      ap (λ (s : Span). in_span w s x) (same ∙ sym (arc_ahead_part w (steps w fall arc.first) (steps w arc.first arc.last + fall + rise) start.0 (omega arith)))
      ∙ rounded_holds w fall rise (steps w arc.first arc.last) x arc is refl room here
]

-- ---- the arc that a widening goes on to

if_true : {A : Type 0} (b : Bool) (x y : A) → b ≡ true → (if b then x else y) ≡ x
if_true true x y e = refl
if_true false x y e = cc

if_false : {A : Type 0} (b : Bool) (x y : A) → b ≡ false → (if b then x else y) ≡ y
if_false true x y e = cc
if_false false x y e = refl

pub reached_early : (w round : ℕ) (marks : List ℕ) (old arc : Span) → round < first_falling_round → reached_span w round marks old arc ≡ rounded_out w arc old marks
unfolding reached_span
reached_early w round marks old arc early = if_true (nat_lt round first_falling_round) (rounded_out w arc old marks) (full_span w) (lt-ltb round first_falling_round early)

pub reached_late : (w round : ℕ) (marks : List ℕ) (old arc : Span) → first_falling_round ≤ round → reached_span w round marks old arc ≡ full_span w
unfolding reached_span
reached_late w round marks old arc late = if_false (nat_lt round first_falling_round) (rounded_out w arc old marks) (full_span w) (le-ltb round first_falling_round late)

reached_arc : (w round : ℕ) (marks : List ℕ) (old arc : Span) → IsArc w arc → IsArc w (reached_span w round marks old arc)
reached_arc w round marks old arc is = elim (cases_lt round first_falling_round) [
  | inl early ↦ subst (IsArc w) (sym (reached_early w round marks old arc early)) (rounded_arc w arc old marks is)
  | inr late ↦ subst (IsArc w) (sym (reached_late w round marks old arc late)) (let some = pow_pos w in full_is_arc w (2 ^ w - 1) (omega arith))
]

reached_has : (w round : ℕ) (marks : List ℕ) (old arc : Span) (x : ℕ) → IsArc w arc → in_span w arc x ≡ true → in_span w (reached_span w round marks old arc) x ≡ true
reached_has w round marks old arc x is here = elim (cases_lt round first_falling_round) [
  | inl early ↦ ap (λ (s : Span). in_span w s x) (reached_early w round marks old arc early) ∙ rounded_has w arc old marks x is here
  | inr late ↦ ap (λ (s : Span). in_span w s x) (reached_late w round marks old arc late) ∙ in_full w x (in_from w arc x here).0
]

-- ---- the two ways of a widening

pub widened_to_joined : (w round : ℕ) (marks : List ℕ) (old joined : Numbers) → (nat_lt round first_landmark_round || is_same_span (span_in joined) (span_in old)) ≡ true →
    widened_fact w round marks old joined ≡ Some joined
unfolding widened_fact
widened_to_joined w round marks old joined stays =
    if_true (nat_lt round first_landmark_round || is_same_span (span_in joined) (span_in old)) (Some joined)
    (low_in w (reached_span w round marks (span_in old) (span_in joined)) (masks_in joined)) stays

pub widened_to_low : (w round : ℕ) (marks : List ℕ) (old joined : Numbers) → (nat_lt round first_landmark_round || is_same_span (span_in joined) (span_in old)) ≡ false →
    widened_fact w round marks old joined ≡ low_in w (reached_span w round marks (span_in old) (span_in joined)) (masks_in joined)
unfolding widened_fact
widened_to_low w round marks old joined stays =
    if_false (nat_lt round first_landmark_round || is_same_span (span_in joined) (span_in old)) (Some joined)
    (low_in w (reached_span w round marks (span_in old) (span_in joined)) (masks_in joined)) stays

-- a fact widened to itself
pub widened_same : (w round : ℕ) (marks : List ℕ) (n : Numbers) → widened_fact w round marks n n ≡ Some n
widened_same w round marks n =
    widened_to_joined w round marks n n (or_right (nat_lt round first_landmark_round) _ (same_span_to (span_in n) (span_in n) refl))

-- each number of the first is one of the second
abbrev pub Within : ℕ → Numbers → Numbers → Type 0
Within w a b = (x : ℕ) → in_numbers w a x ≡ true → in_numbers w b x ≡ true

module _ (w : ℕ) (old joined : Numbers) (is : IsFact w old) (is' : IsFact w joined) where
  in_low : (x : ℕ) → in_numbers w joined x ≡ true → in_masks w (low_masks w (masks_in joined)) x ≡ true
  in_low x member =
      let cube = fact_cube w joined is' in
      let low = low_cube w (masks_in joined) cube in
      in_masks_from w (low_masks w (masks_in joined)).zeros (low_masks w (masks_in joined)).ones low x
      (weaker_in w (low_masks w (masks_in joined)) (masks_in joined) x (low_weaker w (masks_in joined))
      (in_masks_at w joined.zeros joined.ones cube x (numbers_parts w joined x member).0))

  -- a widening is a fact, and has each number of the join
  pub widened_is_fact : (round : ℕ) (marks : List ℕ) (n : Numbers) → widened_fact w round marks old joined ≡ Some n → IsFact w n
  unfolding low_in
  widened_is_fact round marks n some = elim (cases_Bool (nat_lt round first_landmark_round || is_same_span (span_in joined) (span_in old))) [
    | inl stays ↦ subst (IsFact w) (of_some joined n (sym (widened_to_joined w round marks old joined stays) ∙ some)) is'
    | inr moves ↦
        let arc : Span = reached_span w round marks (span_in old) (span_in joined) in
        sharp_in_fact w arc (in_masks w (low_masks w (masks_in joined)))
        (reached_arc w round marks (span_in old) (span_in joined) is'.arc) n (sym (widened_to_low w round marks old joined moves) ∙ some)
  ]

  pub widened_has : (round : ℕ) (marks : List ℕ) (x : ℕ) → in_numbers w joined x ≡ true → in_option w (widened_fact w round marks old joined) x ≡ true
  unfolding in_option low_in
  widened_has round marks x member = elim (cases_Bool (nat_lt round first_landmark_round || is_same_span (span_in joined) (span_in old))) [
    | inl stays ↦ ap (λ (o : Option Numbers). in_option w o x) (widened_to_joined w round marks old joined stays) ∙ member
    | inr moves ↦
        let arc : Span = reached_span w round marks (span_in old) (span_in joined) in
        sharp_in_has w arc (in_masks w (low_masks w (masks_in joined))) (reached_arc w round marks (span_in old) (span_in joined) is'.arc)
        (widened_fact w round marks old joined) (widened_to_low w round marks old joined moves) x (in_numbers_fits w joined x member)
        (reached_has w round marks (span_in old) (span_in joined) x is'.arc (numbers_parts w joined x member).1) (in_low x member)
  ]

  pub widened_some : (round : ℕ) (marks : List ℕ) → widened_fact w round marks old joined ≡ None → ⊥
  unfolding in_option
  widened_some round marks none =
      true≢false (sym (widened_has round marks joined.first is'.first_in) ∙ ap (λ (o : Option Numbers). in_option w o joined.first) none)

-- ---- a widening that gives the old fact

-- the steps from where the rounded arc begins to a number of the arc
steps_before : (w fall own rise f x : ℕ) → f < 2 ^ w → x < 2 ^ w → own + 1 + fall + rise < 2 ^ w → steps w f x ≤ own →
    steps w (steps w fall f) x ≡ fall + steps w f x
steps_before w fall own rise f x hf hx room near =
    let start = steps_is w fall f (omega arith) hf in
    let to = steps_is w f x hf hx in
    let from = steps_is w (steps w fall f) x start.0 hx in
    grind (arith, start, to, from)

same_steps : (w p x y : ℕ) → p < 2 ^ w → x < 2 ^ w → y < 2 ^ w → steps w p x ≡ steps w p y → x ≡ y
same_steps w p x y hp hx hy e = let one = steps_is w p x hp hx in let two = steps_is w p y hp hy in grind (arith, one, two)

module _ (w : ℕ) (old joined : Numbers) (is : IsFact w old) (is' : IsFact w joined) (within : Within w old joined) where
  -- the numbers of the rounded arc with the lowest known bits have the arc of the join, where they are the old ones and
  -- the rounded arc is not full
  module _ (fall rise : ℕ) (room : steps w joined.first joined.last + 1 + fall + rise < 2 ^ w)
      (some : low_in w (record { first = steps w fall joined.first; last = (steps w fall joined.first + (steps w joined.first joined.last + fall + rise)) % 2 ^ w }) (masks_in joined) ≡ Some old)
      (inside : (x : ℕ) → in_span w (span_in joined) x ≡ true →
      in_span w (record { first = steps w fall joined.first; last = (steps w fall joined.first + (steps w joined.first joined.last + fall + rise)) % 2 ^ w }) x ≡ true) where
    start_fits : steps w fall joined.first < 2 ^ w
    start_fits = (steps_is w fall joined.first (omega arith) is'.arc.first_fits).0

    in_set : (x : ℕ) → in_numbers w joined x ≡ true →
        meet (in_span w (record { first = steps w fall joined.first; last = (steps w fall joined.first + (steps w joined.first joined.last + fall + rise)) % 2 ^ w }))
        (in_masks w (low_masks w (masks_in joined))) x ≡ true
    in_set x member = meet_from _ _ x (inside x (numbers_parts w joined x member).1) (in_low w old joined is is' x member)

    near : (x : ℕ) → in_numbers w old x ≡ true → steps w joined.first x ≤ steps w joined.first joined.last
    near x member = (in_from w (span_in joined) x (numbers_parts w joined x (within x member)).1).1

    ahead_of : (x : ℕ) → x < 2 ^ w → steps w joined.first x ≤ steps w joined.first joined.last → steps w (steps w fall joined.first) x ≡ fall + steps w joined.first x
    ahead_of x fits close = steps_before w fall (steps w joined.first joined.last) rise joined.first x is'.arc.first_fits fits room close

    same_first : joined.first ≡ old.first
    unfolding low_in
    same_first =
        let sharp = sharp_tells w (steps w fall joined.first) _ old start_fits some in
        let less = sharp.first.first joined.first is'.arc.first_fits (in_set joined.first is'.first_in) in
        let none = steps_is w joined.first joined.first is'.arc.first_fits is'.arc.first_fits in
        let one = ahead_of old.first is.arc.first_fits (near old.first is.first_in) in
        let two = ahead_of joined.first is'.arc.first_fits (grind (arith, none)) in
        same_steps w joined.first joined.first old.first is'.arc.first_fits is'.arc.first_fits is.arc.first_fits (grind (arith, less, none, one, two))

    same_last : joined.last ≡ old.last
    unfolding low_in
    same_last =
        let sharp = sharp_tells w (steps w fall joined.first) _ old start_fits some in
        let more = sharp.last.last joined.last is'.arc.last_fits (in_set joined.last is'.last_in) in
        let close = near old.last is.last_in in
        let one = ahead_of old.last is.arc.last_fits close in
        let two = ahead_of joined.last is'.arc.last_fits (omega arith) in
        same_steps w joined.first joined.last old.last is'.arc.first_fits is'.arc.last_fits is.arc.last_fits (omega arith)

    same_spans : is_same_span (span_in joined) (span_in old) ≡ true
    same_spans = same_span_to (span_in joined) (span_in old)
        (ap (λ (n : ℕ). record { first = n; last = joined.last }) same_first ∙ ap (λ (n : ℕ). record { first = old.first; last = n }) same_last)

  -- where rounding out gives the old fact, so does going on to all numbers
  settled_low : (marks : List ℕ) → is_same_span (span_in joined) (span_in old) ≡ false →
      low_in w (rounded_out w (span_in joined) (span_in old) marks) (masks_in joined) ≡ Some old → low_in w (full_span w) (masks_in joined) ≡ Some old
  settled_low marks moves same = elim (rounded_cases w (span_in joined) (span_in old) marks is'.arc) [
    | all full ↦ ap (λ (s : Span). low_in w s (masks_in joined)) (sym full) ∙ same
    | more fall rise room part ↦ absurd (true≢false (sym (same_spans fall rise room
        (ap (λ (s : Span). low_in w s (masks_in joined)) (sym part) ∙ same)
        (λ x here. ap (λ (s : Span). in_span w s x) (sym part) ∙ rounded_has w (span_in joined) (span_in old) marks x is'.arc here)) ∙ moves))
  ]

  moved_later : (round later : ℕ) (marks : List ℕ) → round ≤ later → is_same_span (span_in joined) (span_in old) ≡ false →
      low_in w (reached_span w round marks (span_in old) (span_in joined)) (masks_in joined) ≡ Some old →
      low_in w (reached_span w later marks (span_in old) (span_in joined)) (masks_in joined) ≡ Some old
  moved_later round later marks order moves same = elim (cases_lt later first_falling_round) [
    | inl early ↦
        ap (λ (s : Span). low_in w s (masks_in joined))
        (reached_early w later marks (span_in old) (span_in joined) early ∙ sym (reached_early w round marks (span_in old) (span_in joined) (omega arith)))
        ∙ same
    | inr late ↦ ap (λ (s : Span). low_in w s (masks_in joined)) (reached_late w later marks (span_in old) (span_in joined) late)
        ∙ elim (cases_lt round first_falling_round) [
          | inl early ↦ settled_low marks moves (ap (λ (s : Span). low_in w s (masks_in joined)) (sym (reached_early w round marks (span_in old) (span_in joined) early)) ∙ same)
          | inr late' ↦ ap (λ (s : Span). low_in w s (masks_in joined)) (sym (reached_late w round marks (span_in old) (span_in joined) late')) ∙ same
        ]
  ]

  -- a widening that gives the old fact gives it in every later round
  pub fact_stays : (round later : ℕ) (marks : List ℕ) → round ≤ later → widened_fact w round marks old joined ≡ Some old → widened_fact w later marks old joined ≡ Some old
  fact_stays round later marks order same = elim (cases_Bool (is_same_span (span_in joined) (span_in old))) [
    | inl spans ↦
        widened_to_joined w later marks old joined (either_right (nat_lt later first_landmark_round) _ spans)
        ∙ sym (widened_to_joined w round marks old joined (either_right (nat_lt round first_landmark_round) _ spans)) ∙ same
    | inr moves ↦ elim (cases_lt round first_landmark_round) [
      | inl early ↦
          let joined_is : Some joined ≡ Some old = sym (widened_to_joined w round marks old joined (either_left (nat_lt round first_landmark_round) _ (lt-ltb round first_landmark_round early))) ∙ same in
          absurd (true≢false (sym (same_span_to (span_in joined) (span_in old) (ap span_in (of_some joined old joined_is))) ∙ moves))
      | inr late ↦
          widened_to_low w later marks old joined (neither_test (nat_lt later first_landmark_round) _ (le-ltb later first_landmark_round (omega arith)) moves)
          ∙ moved_later round later marks order moves
          (sym (widened_to_low w round marks old joined (neither_test (nat_lt round first_landmark_round) _ (le-ltb round first_landmark_round late) moves)) ∙ same)
    ]
  ]
    where
      either_left : (a b : Bool) → a ≡ true → (a || b) ≡ true
      either_left a b e = grind arith

      either_right : (a b : Bool) → b ≡ true → (a || b) ≡ true
      either_right a b e = grind arith

      neither_test : (a b : Bool) → a ≡ false → b ≡ false → (a || b) ≡ false
      neither_test a b e f = grind arith

-- ---- ranks fall

-- what is known of more numbers is known of fewer
weaker_from : (w : ℕ) (a b : Numbers) → IsFact w a → IsFact w b → Within w a b → IsWeaker (masks_in b) (masks_in a)
weaker_from w a b is is' within =
    let best = fact_best w a is in
    let wide = fact_best w b is' in
    record {
      zeros = λ i on. elim (digit_cases a.zeros i) [
        | inr here ↦ here
        | inl off ↦ absurd (elim (cases_lt i w) [
          | inl below ↦
              let has = best.some_one i below off in
              let none = wide.zero has.0 i (record { fits = has.1.fits; is = within has.0 has.1.is }) on in
              let some = has.2 in omega arith
          | inr past ↦ let none = bit_at_above b.zeros w i ((fact_cube w b is').zeros_fit) past in omega arith
        ])
      ];
      ones = λ i on. elim (digit_cases a.ones i) [
        | inr here ↦ here
        | inl off ↦ absurd (elim (cases_lt i w) [
          | inl below ↦
              let has = best.some_zero i below off in
              let some = wide.one has.0 i (record { fits = has.1.fits; is = within has.0 has.1.is }) on in
              let none = has.2 in omega arith
          | inr past ↦ let none = bit_at_above b.ones w i ((fact_cube w b is').ones_fit) past in omega arith
        ])
      ];
    }

same_numbers : (a b : Numbers) → masks_in a ≡ masks_in b → span_in a ≡ span_in b → a ≡ b
same_numbers a b masks spans =
    ap (λ (m : Masks). record { zeros = m.zeros; ones = m.ones; first = a.first; last = a.last }) masks
    ∙ ap (λ (s : Span). record { zeros = b.zeros; ones = b.ones; first = s.first; last = s.last }) spans

flag_most : (b : Bool) → flag b ≤ 1
unfolding flag
flag_most true = omega arith
flag_most false = omega arith

-- fewer known bits count more than the arc
fewer_known : (w : ℕ) (a b : Numbers) → known_count (masks_in a) < known_count (masks_in b) → fact_rank w a < fact_rank w b
unfolding fact_rank
fewer_known w a b less =
    let most = flag_most (not (is_same_span (span_in a) (low_span w (masks_in a)))) in omega arith

-- the arc of the lowest known bits, where these are the known bits, is that of the fact of all numbers with them
cube_span : (w : ℕ) (m : Masks) → IsCube w m.zeros m.ones → span_in (cube_numbers w (low_masks w m)) ≡ low_span w (low_masks w m)
cube_span w m cube =
    sym (low_span_is w (low_masks w m) (low_cube w m cube)
    ∙ ap (λ (l : Masks). record { first = l.ones; last = bit_xor (2 ^ w - 1) l.zeros }) (low_again w m))

least_rank : (w : ℕ) (m : Masks) → IsCube w m.zeros m.ones → fact_rank w (cube_numbers w (low_masks w m)) ≡ 2 * known_count (low_masks w m)
unfolding fact_rank flag
least_rank w m cube = rw (same_span_to _ _ (cube_span w m cube)) (omega arith)

-- the same known bits, with another arc than that of the lowest ones
more_rank : (w : ℕ) (n : Numbers) → is_same_span (span_in n) (low_span w (masks_in n)) ≡ false → fact_rank w n ≡ 2 * known_count (masks_in n) + 1
unfolding fact_rank flag
more_rank w n other = rw other refl

module _ (w : ℕ) (old joined : Numbers) (is : IsFact w old) (is' : IsFact w joined) (within : Within w old joined) where
  -- the join with the old arc
  joined_falls : span_in joined ≡ span_in old → (joined ≡ old) ⊎ (fact_rank w joined < fact_rank w old)
  joined_falls spans =
      elim (weaker_counts w (masks_in joined) (masks_in old) (weaker_from w old joined is is' within) (fact_cube w joined is') (fact_cube w old is)) [
        | inl same ↦ inl (same_numbers joined old same spans)
        | inr less ↦ inr (fewer_known w joined old less)
      ]

  -- all numbers with the lowest known bits
  low_falls : (cube_numbers w (low_masks w (masks_in joined)) ≡ old) ⊎ (fact_rank w (cube_numbers w (low_masks w (masks_in joined))) < fact_rank w old)
  low_falls =
      let m : Masks = masks_in joined in
      let low : Masks = low_masks w m in
      let cube = fact_cube w joined is' in
      let weaker : IsWeaker low (masks_in old) = weaker_through low m (masks_in old) (low_weaker w m) (weaker_from w old joined is is' within) in
      elim (weaker_counts w low (masks_in old) weaker (low_cube w m cube) (fact_cube w old is)) [
        | inr less ↦ inr (fewer_known w (cube_numbers w low) old less)
        | inl same ↦ elim (cases_Bool (is_same_span (span_in old) (low_span w (masks_in old)))) [
          | inl fills ↦ inl (same_numbers (cube_numbers w low) old same
              (cube_span w m cube ∙ ap (low_span w) same ∙ sym (same_span_from (span_in old) (low_span w (masks_in old)) fills)))
          | inr other ↦ inr (let one = least_rank w m cube in let two = more_rank w old other in let count = ap known_count same in omega arith)
        ]
      ]

  -- a late widening is the old fact, or lower in rank
  pub fact_falls : (round : ℕ) (marks : List ℕ) (n : Numbers) → first_falling_round ≤ round → widened_fact w round marks old joined ≡ Some n →
      (n ≡ old) ⊎ (fact_rank w n < fact_rank w old)
  fact_falls round marks n late some =
      let early : nat_lt round first_landmark_round ≡ false = le-ltb round first_landmark_round (omega arith) in
      elim (cases_Bool (is_same_span (span_in joined) (span_in old))) [
        | inl spans ↦
            let n_is : joined ≡ n = of_some joined n (sym (widened_to_joined w round marks old joined (either_right (nat_lt round first_landmark_round) _ spans)) ∙ some) in
            subst (λ (n : Numbers). (n ≡ old) ⊎ (fact_rank w n < fact_rank w old)) n_is (joined_falls (same_span_from (span_in joined) (span_in old) spans))
        | inr moves ↦
            let n_is : cube_numbers w (low_masks w (masks_in joined)) ≡ n = of_some _ n
            (sym (low_all w (masks_in joined) (fact_cube w joined is'))
            ∙ ap (λ (s : Span). low_in w s (masks_in joined)) (sym (reached_late w round marks (span_in old) (span_in joined) late))
            ∙ sym (widened_to_low w round marks old joined (neither_test (nat_lt round first_landmark_round) _ early moves)) ∙ some) in
            subst (λ (n : Numbers). (n ≡ old) ⊎ (fact_rank w n < fact_rank w old)) n_is low_falls
      ]
    where
      either_right : (a b : Bool) → b ≡ true → (a || b) ≡ true
      either_right a b e = grind arith

      neither_test : (a b : Bool) → a ≡ false → b ≡ false → (a || b) ≡ false
      neither_test a b e f = grind arith
