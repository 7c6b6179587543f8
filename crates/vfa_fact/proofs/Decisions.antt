-- What one answer over all pairs of two sets means.
use Rattle.std.proofs.Common.{◌≡◌, ℕ, ◌^◌, ◌<◌, Bool, true, false, cond, not, ◌||◌, refl, sym, ◌∙◌, ap, subst, inl, inr, Option, Some, None}
use Rattle.std.proofs.lemmas.Bool.{cases_Bool, or_left, or_right, or_parts, cond-true, cond-false, not_from_true, not_from_false, true≢false}
use Rattle.std.specs.Option.{option_map}
use Rattle.vfa_dom.specs.Search.{all_below}
use Rattle.vfa_dom.proofs.Searches.{all_from, all_fails, all_alike, found_failing}
use Rattle.vfa_fact.specs.Compare.{all_pairs, decided}

-- a pair of a number of A and one of B to which the test gives this answer
pub record Pair (w : ℕ) (test : ℕ → ℕ → Bool) (A B : ℕ → Bool) (answer : Bool) : Type 0 where
  pub left : ℕ
  pub right : ℕ
  pub left_fits : left < 2 ^ w
  pub right_fits : right < 2 ^ w
  pub left_in : A left ≡ true
  pub right_in : B right ≡ true
  pub is : test left right ≡ answer

-- each pair has this answer
pub record Alike (w : ℕ) (test : ℕ → ℕ → Bool) (A B : ℕ → Bool) (answer : Bool) : Type 0 where
  pub each : (x y : ℕ) → x < 2 ^ w → y < 2 ^ w → A x ≡ true → B y ≡ true → test x y ≡ answer

-- what an answer says of the pairs
abbrev pub Decides : ℕ → (ℕ → ℕ → Bool) → (ℕ → Bool) → (ℕ → Bool) → Option Bool → Type 0
Decides w test A B (Some answer) = Alike w test A B answer
Decides w test A B None = Pair w test A B true × Pair w test A B false

true_of_not : (b : Bool) → not b ≡ false → b ≡ true
true_of_not true e = refl
true_of_not false e = cc

false_of_not : (b : Bool) → not b ≡ true → b ≡ false
false_of_not true e = cc
false_of_not false e = refl

or_false : (a b : Bool) → a ≡ false → b ≡ false → (a || b) ≡ false
or_false a b one two = cc

pub all_pairs_from : (w : ℕ) (test : ℕ → ℕ → Bool) (A B : ℕ → Bool) → Alike w test A B true → all_pairs w A B test ≡ true
unfolding all_pairs
all_pairs_from w test A B alike =
    all_from (2 ^ w) (λ x. not (A x) || all_below (2 ^ w) (λ y. not (B y) || test x y)) (λ x hx. elim (cases_Bool (A x)) [
      | inr out ↦ or_left (not (A x)) (all_below (2 ^ w) (λ y. not (B y) || test x y)) (not_from_false (A x) out)
      | inl member ↦ or_right (not (A x)) (all_below (2 ^ w) (λ y. not (B y) || test x y))
          (all_from (2 ^ w) (λ y. not (B y) || test x y) (λ y hy. elim (cases_Bool (B y)) [
            | inr out ↦ or_left (not (B y)) (test x y) (not_from_false (B y) out)
            | inl other ↦ or_right (not (B y)) (test x y) (alike.each x y hx hy member other)
          ]))
    ])

pub all_pairs_fail : (w : ℕ) (test : ℕ → ℕ → Bool) (A B : ℕ → Bool) → Pair w test A B false → all_pairs w A B test ≡ false
unfolding all_pairs
all_pairs_fail w test A B pair =
    all_fails (2 ^ w) (λ x. not (A x) || all_below (2 ^ w) (λ y. not (B y) || test x y)) pair.left pair.left_fits
    (or_false (not (A pair.left)) (all_below (2 ^ w) (λ y. not (B y) || test pair.left y)) (not_from_true (A pair.left) pair.left_in)
    (all_fails (2 ^ w) (λ y. not (B y) || test pair.left y) pair.right pair.right_fits
    (or_false (not (B pair.right)) (test pair.left pair.right) (not_from_true (B pair.right) pair.right_in) pair.is)))

-- a member of each set
pub record Members (w : ℕ) (A B : ℕ → Bool) : Type 0 where
  pub left : ℕ
  pub right : ℕ
  pub left_fits : left < 2 ^ w
  pub right_fits : right < 2 ^ w
  pub left_in : A left ≡ true
  pub right_in : B right ≡ true

negated_alike : (w : ℕ) (test : ℕ → ℕ → Bool) (A B : ℕ → Bool) → Alike w test A B false → Alike w (λ x y. not (test x y)) A B true
negated_alike w test A B alike =
    record { each = λ x y hx hy one two. not_from_false (test x y) (alike.each x y hx hy one two) }

negated_pair : (w : ℕ) (test : ℕ → ℕ → Bool) (A B : ℕ → Bool) → Pair w test A B true → Pair w (λ x y. not (test x y)) A B false
negated_pair w test A B pair = record {
  left = pair.left;
  right = pair.right;
  left_fits = pair.left_fits;
  right_fits = pair.right_fits;
  left_in = pair.left_in;
  right_in = pair.right_in;
  is = not_from_true (test pair.left pair.right) pair.is;
}

some_pair : (w : ℕ) (test : ℕ → ℕ → Bool) (A B : ℕ → Bool) → Members w A B → Alike w test A B false → Pair w test A B false
some_pair w test A B members alike = record {
  left = members.left;
  right = members.right;
  left_fits = members.left_fits;
  right_fits = members.right_fits;
  left_in = members.left_in;
  right_in = members.right_in;
  is = alike.each members.left members.right members.left_fits members.right_fits members.left_in members.right_in;
}

-- the answer that says what is so of the pairs is the one answer over all pairs
pub decides_is : (w : ℕ) (test : ℕ → ℕ → Bool) (A B : ℕ → Bool) (o : Option Bool) → Members w A B → Decides w test A B o → o ≡ decided w test A B
unfolding decided
decides_is w test A B (Some true) members alike =
    sym (cond-true (all_pairs w A B test) (Some true) (cond (all_pairs w A B (λ x y. not (test x y))) (Some false) None) (all_pairs_from w test A B alike))
decides_is w test A B (Some false) members alike =
    sym (cond-false (all_pairs w A B test) (Some true) (cond (all_pairs w A B (λ x y. not (test x y))) (Some false) None)
    (all_pairs_fail w test A B (some_pair w test A B members alike))
    ∙ cond-true (all_pairs w A B (λ x y. not (test x y))) (Some false) None
    (all_pairs_from w (λ x y. not (test x y)) A B (negated_alike w test A B alike)))
decides_is w test A B None members pairs =
    sym (cond-false (all_pairs w A B test) (Some true) (cond (all_pairs w A B (λ x y. not (test x y))) (Some false) None)
    (all_pairs_fail w test A B pairs.1)
    ∙ cond-false (all_pairs w A B (λ x y. not (test x y))) (Some false) None
    (all_pairs_fail w (λ x y. not (test x y)) A B (negated_pair w test A B pairs.0)))

-- ---- what the one answer says

found_pair : (w : ℕ) (test : ℕ → ℕ → Bool) (A B : ℕ → Bool) → all_pairs w A B test ≡ false → Pair w test A B false
unfolding all_pairs
found_pair w test A B fails =
    let one = found_failing (2 ^ w) (λ x. not (A x) || all_below (2 ^ w) (λ y. not (B y) || test x y)) fails in
    let x = one.at in
    let out = false_of_not (not (A one.at) || all_below (2 ^ w) (λ y. not (B y) || test one.at y)) one.passes in
    let parts = or_parts (not (A one.at)) (all_below (2 ^ w) (λ y. not (B y) || test one.at y)) out in
    let two = found_failing (2 ^ w) (λ y. not (B y) || test one.at y) parts.1 in
    let out' = false_of_not (not (B two.at) || test one.at two.at) two.passes in
    let parts' = or_parts (not (B two.at)) (test one.at two.at) out' in
    record {
      left = one.at;
      right = two.at;
      left_fits = one.below;
      right_fits = two.below;
      left_in = true_of_not (A one.at) parts.0;
      right_in = true_of_not (B two.at) parts'.0;
      is = parts'.1;
    }

all_tell : (w : ℕ) (test : ℕ → ℕ → Bool) (A B : ℕ → Bool) → all_pairs w A B test ≡ true → Alike w test A B true
all_tell w test A B all = record {
  each = λ x y hx hy one two. elim (cases_Bool (test x y)) [
    | inl passes ↦ passes
    | inr not_so ↦
        let fails : all_pairs w A B test ≡ false = all_pairs_fail w test A B (record {
          left = x;
          right = y;
          left_fits = hx;
          right_fits = hy;
          left_in = one;
          right_in = two;
          is = not_so;
        }) in
        absurd (true≢false (sym all ∙ fails))
  ];
}

unnegated_alike : (w : ℕ) (test : ℕ → ℕ → Bool) (A B : ℕ → Bool) → Alike w (λ x y. not (test x y)) A B true → Alike w test A B false
unnegated_alike w test A B alike =
    record { each = λ x y hx hy one two. false_of_not (test x y) (alike.each x y hx hy one two) }

unnegated_pair : (w : ℕ) (test : ℕ → ℕ → Bool) (A B : ℕ → Bool) → Pair w (λ x y. not (test x y)) A B false → Pair w test A B true
unnegated_pair w test A B pair = record {
  left = pair.left;
  right = pair.right;
  left_fits = pair.left_fits;
  right_fits = pair.right_fits;
  left_in = pair.left_in;
  right_in = pair.right_in;
  is = true_of_not (test pair.left pair.right) pair.is;
}

-- the one answer over all pairs says what is so of them
pub decided_tells : (w : ℕ) (test : ℕ → ℕ → Bool) (A B : ℕ → Bool) → Decides w test A B (decided w test A B)
unfolding decided
decided_tells w test A B = elim (cases_Bool (all_pairs w A B test)) [
  | inl all ↦
      let same = cond-true (all_pairs w A B test) (Some true) (cond (all_pairs w A B (λ x y. not (test x y))) (Some false) None) all in
      subst (Decides w test A B) (sym same) (all_tell w test A B all)
  | inr fails ↦
      let first = cond-false (all_pairs w A B test) (Some true) (cond (all_pairs w A B (λ x y. not (test x y))) (Some false) None) fails in
      elim (cases_Bool (all_pairs w A B (λ x y. not (test x y)))) [
        | inl none ↦
            let same = first ∙ cond-true (all_pairs w A B (λ x y. not (test x y))) (Some false) None none in
            subst (Decides w test A B) (sym same)
            (unnegated_alike w test A B (all_tell w (λ x y. not (test x y)) A B none))
        | inr some ↦
            let same = first ∙ cond-false (all_pairs w A B (λ x y. not (test x y))) (Some false) None some in
            subst (Decides w test A B) (sym same)
            (unnegated_pair w test A B (found_pair w (λ x y. not (test x y)) A B some), found_pair w test A B fails)
      ]
]

-- ---- the sides exchanged, the test negated

turned_pair : (w : ℕ) (test : ℕ → ℕ → Bool) (A B : ℕ → Bool) (answer : Bool) → Pair w test A B answer → Pair w (λ x y. test y x) B A answer
turned_pair w test A B answer pair = record {
  left = pair.right;
  right = pair.left;
  left_fits = pair.right_fits;
  right_fits = pair.left_fits;
  left_in = pair.right_in;
  right_in = pair.left_in;
  is = pair.is;
}

turned : (w : ℕ) (test : ℕ → ℕ → Bool) (A B : ℕ → Bool) (o : Option Bool) → Decides w test A B o → Decides w (λ x y. test y x) B A o
turned w test A B (Some answer) alike = record { each = λ x y hx hy one two. alike.each y x hy hx two one }
turned w test A B None pairs = (turned_pair w test A B true pairs.0, turned_pair w test A B false pairs.1)

pub members_turned : (w : ℕ) (A B : ℕ → Bool) → Members w A B → Members w B A
members_turned w A B members = record {
  left = members.right;
  right = members.left;
  left_fits = members.right_fits;
  right_fits = members.left_fits;
  left_in = members.right_in;
  right_in = members.left_in;
}

pub decided_turned : (w : ℕ) (test : ℕ → ℕ → Bool) (A B : ℕ → Bool) → Members w A B → decided w test B A ≡ decided w (λ x y. test y x) A B
decided_turned w test A B members =
    decides_is w (λ x y. test y x) A B (decided w test B A) members (turned w test B A (decided w test B A) (decided_tells w test B A))

opposite_alike : (w : ℕ) (test : ℕ → ℕ → Bool) (A B : ℕ → Bool) (answer : Bool) → Alike w test A B answer → Alike w (λ x y. not (test x y)) A B (not answer)
opposite_alike w test A B answer alike =
    record { each = λ x y hx hy one two. ap not (alike.each x y hx hy one two) }

opposite_pair : (w : ℕ) (test : ℕ → ℕ → Bool) (A B : ℕ → Bool) (answer : Bool) → Pair w test A B answer → Pair w (λ x y. not (test x y)) A B (not answer)
opposite_pair w test A B answer pair = record {
  left = pair.left;
  right = pair.right;
  left_fits = pair.left_fits;
  right_fits = pair.right_fits;
  left_in = pair.left_in;
  right_in = pair.right_in;
  is = ap not pair.is;
}

opposite : (w : ℕ) (test : ℕ → ℕ → Bool) (A B : ℕ → Bool) (o : Option Bool) → Decides w test A B o → Decides w (λ x y. not (test x y)) A B (option_map not o)
opposite w test A B (Some answer) alike = opposite_alike w test A B answer alike
opposite w test A B None pairs = (opposite_pair w test A B false pairs.1, opposite_pair w test A B true pairs.0)

pub decided_negated : (w : ℕ) (test : ℕ → ℕ → Bool) (A B : ℕ → Bool) → Members w A B → option_map not (decided w test A B) ≡ decided w (λ x y. not (test x y)) A B
decided_negated w test A B members =
    decides_is w (λ x y. not (test x y)) A B (option_map not (decided w test A B)) members
    (opposite w test A B (decided w test A B) (decided_tells w test A B))

-- tests that agree on the numbers of the width decide alike
pub decided_alike : (w : ℕ) (test test' : ℕ → ℕ → Bool) (A B : ℕ → Bool) → ((x y : ℕ) → x < 2 ^ w → y < 2 ^ w → test x y ≡ test' x y) → decided w test A B ≡ decided w test' A B
unfolding decided all_pairs
decided_alike w test test' A B alike =
    let same : all_pairs w A B test ≡ all_pairs w A B test' =
    all_alike (2 ^ w) _ _ (λ x hx. ap (λ b. not (A x) || b) (all_alike (2 ^ w) _ _ (λ y hy. ap (λ b. not (B y) || b) (alike x y hx hy))))
    in
    let none : all_pairs w A B (λ x y. not (test x y)) ≡ all_pairs w A B (λ x y. not (test' x y)) =
    all_alike (2 ^ w) _ _ (λ x hx. ap (λ b. not (A x) || b) (all_alike (2 ^ w) _ _ (λ y hy. ap (λ b. not (B y) || not b) (alike x y hx hy))))
    in
    rw (same, none) refl
