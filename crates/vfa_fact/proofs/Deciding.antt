-- The answers over all pairs of numbers of two sets, of "comes before" and of "is the same as".
use Rattle.std.proofs.Common.{◌≡◌, ℕ, ◌^◌, ◌<◌, ◌≤◌, Bool, true, false, not, refl, sym, ◌∙◌, ap, arith, inl, inr, Option, Some, None}
use Rattle.std.specs.Prelude.{nat_eq}
use Rattle.std.specs.Option.{option_map}
use Rattle.std.proofs.lemmas.Bool.{cases_eq, eqb-true, eq-eqb, ne_eqb, true≢false}
use Rattle.vfa_dom.specs.Search.{least_below, greatest_below}
use Rattle.vfa_dom.specs.Sets.{meet, meets, single_of}
use Rattle.vfa_dom.proofs.Searches.{some_found, found_some, none_passes, least_found, greatest_found}
use Rattle.vfa_dom.proofs.SetSearches.{meet_from, meet_parts, single_of_tells, single_of_is, not_above, not_below}
use Rattle.vfa_fact.specs.Compare.{decided}
use Rattle.vfa_fact.specs.Order.{comes_before, first_place, last_place}
use Rattle.vfa_fact.proofs.Decisions.{Pair, Members, decides_is, decided_negated}
use Rattle.vfa_fact.proofs.MemberPlaces.{spread, all_before, none_before, some_before, some_not_before}

-- ---- comes before

-- the places of both sets
pub record Stand (w base : ℕ) (A B : ℕ → Bool) (fa la fb lb : ℕ) : Type 0 where
  pub base_fits : base < 2 ^ w
  pub members : Members w A B
  pub fa_is : fa ≡ first_place w base A
  pub la_is : la ≡ last_place w base A
  pub fb_is : fb ≡ first_place w base B
  pub lb_is : lb ≡ last_place w base B

pub before_yes : (w base : ℕ) (A B : ℕ → Bool) (fa la fb lb : ℕ) → Stand w base A B fa la fb lb → la < fb → Some true ≡ decided w (comes_before w base) A B
before_yes w base A B fa la fb lb s h =
    let m = s.members in
    let a = spread w base A m.left s.base_fits m.left_fits m.left_in in
    let b = spread w base B m.right s.base_fits m.right_fits m.right_in in
    decides_is w (comes_before w base) A B (Some true) m (all_before w base A B _ _ _ _ a b (omega (arith, s.la_is, s.fb_is)))

pub before_no : (w base : ℕ) (A B : ℕ → Bool) (fa la fb lb : ℕ) → Stand w base A B fa la fb lb → lb ≤ fa → Some false ≡ decided w (comes_before w base) A B
before_no w base A B fa la fb lb s h =
    let m = s.members in
    let a = spread w base A m.left s.base_fits m.left_fits m.left_in in
    let b = spread w base B m.right s.base_fits m.right_fits m.right_in in
    decides_is w (comes_before w base) A B (Some false) m (none_before w base A B _ _ _ _ a b (omega (arith, s.fa_is, s.lb_is)))

pub before_open : (w base : ℕ) (A B : ℕ → Bool) (fa la fb lb : ℕ) → Stand w base A B fa la fb lb → fb ≤ la → fa < lb → None ≡ decided w (comes_before w base) A B
before_open w base A B fa la fb lb s h l =
    let m = s.members in
    let a = spread w base A m.left s.base_fits m.left_fits m.left_in in
    let b = spread w base B m.right s.base_fits m.right_fits m.right_in in
    decides_is w (comes_before w base) A B None m (
      some_before w base A B _ _ _ _ a b (omega (arith, s.fa_is, s.lb_is)),
      some_not_before w base A B _ _ _ _ a b (omega (arith, s.la_is, s.fb_is)),
    )

pub negated_is : (w : ℕ) (test : ℕ → ℕ → Bool) (A B : ℕ → Bool) (n o : Option Bool) → Members w A B → n ≡ option_map not o → o ≡ decided w test A B →
    n ≡ decided w (λ x y. not (test x y)) A B
negated_is w test A B n o members e is = e ∙ ap (option_map not) is ∙ decided_negated w test A B members

-- ---- is the same as

pub apart : (w : ℕ) (A B : ℕ → Bool) → Members w A B → meets w A B ≡ false → Some false ≡ decided w nat_eq A B
unfolding meets
apart w A B members none = decides_is w nat_eq A B (Some false) members (record {
  each = λ x y hx hy one two. elim (cases_eq x y) [
    | inl same ↦
        let both : meet A B x ≡ true = meet_from A B x one (ap B same ∙ two) in
        absurd (true≢false (sym both ∙ none_passes (2 ^ w) (meet A B) none x hx))
    | inr other ↦ ne_eqb x y other
  ];
})

-- a number of both sets
common : (w : ℕ) (A B : ℕ → Bool) → meets w A B ≡ true → Pair w nat_eq A B true
unfolding meets
common w A B some =
    let found = found_some (2 ^ w) (meet A B) some in
    let parts = meet_parts A B found.at found.passes in
    record {
      left = found.at;
      right = found.at;
      left_fits = found.below;
      right_fits = found.below;
      left_in = parts.0;
      right_in = parts.1;
      is = eq-eqb found.at found.at refl;
    }

-- a member that is not x
pub record Another (w : ℕ) (S : ℕ → Bool) (x : ℕ) : Type 0 where
  pub at : ℕ
  pub fits : at < 2 ^ w
  pub passes : S at ≡ true
  pub other : at ≡ x → ⊥

none_not_some : (x : ℕ) → ◌≡◌ {A = Option ℕ} None (Some x) → ⊥
none_not_some x e = cc

pub another : (w : ℕ) (S : ℕ → Bool) (x y : ℕ) → y < 2 ^ w → S y ≡ true → single_of w S ≡ None → Another w S x
another w S x y hy member none =
    let some = some_found (2 ^ w) S y hy member in
    let least = least_found (2 ^ w) S some in
    let greatest = greatest_found (2 ^ w) S some in
    elim (cases_eq (least_below (2 ^ w) S) x) [
      | inr other ↦ record { at = least_below (2 ^ w) S; fits = least.below; passes = least.passes; other = other }
      | inl low ↦ elim (cases_eq (greatest_below (2 ^ w) S) x) [
        | inr other ↦ record { at = greatest_below (2 ^ w) S; fits = greatest.below; passes = greatest.passes; other = other }
        | inl high ↦
            let only : single_of w S ≡ Some x = single_of_is w S x (omega (arith, low, least.below)) (ap S (sym low) ∙ least.passes)
            (λ z hz pz.
            let from = not_above (2 ^ w) S z least pz in
            let upto = not_below (2 ^ w) S z hz greatest pz in
            omega arith)
            in
            absurd (none_not_some x (sym none ∙ only))
      ]
    ]

pub left_several : (w : ℕ) (A B : ℕ → Bool) → Members w A B → meets w A B ≡ true → single_of w A ≡ None → None ≡ decided w nat_eq A B
left_several w A B members some none =
    let other = another w A members.right members.left members.left_fits members.left_in none in
    decides_is w nat_eq A B None members (
      common w A B some,
      record {
        left = other.at;
        right = members.right;
        left_fits = other.fits;
        right_fits = members.right_fits;
        left_in = other.passes;
        right_in = members.right_in;
        is = ne_eqb other.at members.right other.other;
      },
    )

pub right_several : (w : ℕ) (A B : ℕ → Bool) → Members w A B → meets w A B ≡ true → single_of w B ≡ None → None ≡ decided w nat_eq A B
right_several w A B members some none =
    let other = another w B members.left members.right members.right_fits members.right_in none in
    decides_is w nat_eq A B None members (
      common w A B some,
      record {
        left = members.left;
        right = other.at;
        left_fits = members.left_fits;
        right_fits = other.fits;
        left_in = members.left_in;
        right_in = other.passes;
        is = ne_eqb members.left other.at (λ e. other.other (sym e));
      },
    )

pub one_alike : (w : ℕ) (A B : ℕ → Bool) (x y : ℕ) → Members w A B → meets w A B ≡ true → single_of w A ≡ Some x → single_of w B ≡ Some y → Some true ≡ decided w nat_eq A B
one_alike w A B x y members some one two =
    let pair = common w A B some in
    let left = single_of_tells w A x one in
    let right = single_of_tells w B y two in
    let is : pair.left ≡ pair.right = eqb-true pair.left pair.right pair.is in
    let at_left : pair.left ≡ x = left.2 pair.left pair.left_fits pair.left_in in
    let at_right : pair.right ≡ y = right.2 pair.right pair.right_fits pair.right_in in
    decides_is w nat_eq A B (Some true) members (record {
      each = λ a b ha hb ma mb.
          let ea : a ≡ x = left.2 a ha ma in
          let eb : b ≡ y = right.2 b hb mb in
          eq-eqb a b (ea ∙ sym at_left ∙ is ∙ at_right ∙ sym eb);
    })
