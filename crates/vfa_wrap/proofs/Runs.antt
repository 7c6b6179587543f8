use Rattle.std.proofs.Common.{◌≡◌, refl, sym, ◌∙◌, ap, ℕ, ◌+◌, ◌-◌, ◌%◌, ◌^◌, ◌<◌, ◌≤◌, Bool, true, false, not, ◌&&◌, ◌⊎◌, inl, inr, arith, min, Some, None}
use Rattle.std.proofs.lemmas.Bool.{not-true, cases_lt, cases_Bool, and_parts, and_from, lt-ltb, le-ltb}
use Rattle.std.proofs.lemmas.Nat.{mod_below}
use Rattle.std.specs.Option.{option_or, option_and}
use Rattle.vfa_dom.specs.Search.{some_below, all_below, least_below, greatest_below}
use Rattle.vfa_dom.specs.Sets.{meet}
use Rattle.vfa_dom.proofs.Searches.{some_found, none_found, least_is, greatest_is}
use Rattle.vfa_dom.proofs.SetSearches.{meet_from}
use Rattle.vfa_wrap.specs.Arc.{Span, steps, in_span, IsArc}
use Rattle.vfa_wrap.specs.Pieces.{begins_run, run_length, run_from, run_at, runs_of}
use Rattle.vfa_wrap.proofs.Truth.{untrue}
use Rattle.vfa_wrap.proofs.Circle.{outside, steps_is, ahead, in_from, in_to, wrapped_sum}
use Rattle.vfa_wrap.proofs.SmallestArc.{steps_by}

-- ---- the length of a run

pub run_is : (w : ℕ) (S : ℕ → Bool) (p k : ℕ) → k < 2 ^ w → S ((p + k + 1) % 2 ^ w) ≡ false → ((j : ℕ) → j < k → S ((p + j + 1) % 2 ^ w) ≡ true) →
    run_from w S p ≡ record { first = p; last = (p + k) % 2 ^ w }
unfolding run_from run_length
run_is w S p k hk out within =
    let size : least_below (2 ^ w) (λ j. not (S ((p + j + 1) % 2 ^ w))) ≡ k = least_is (2 ^ w) _ k (record {
      below = hk;
      passes = ap not out;
      first = λ j less. ap not (within j less);
    }) in
    rw size refl

-- the number after p + k
pub next : (w p k : ℕ) → p < 2 ^ w → k + 1 < 2 ^ w → ((p + k + 1) % 2 ^ w < 2 ^ w) × (steps w p ((p + k + 1) % 2 ^ w) ≡ k + 1)
next w p k hp hk = let e : p + (k + 1) ≡ p + k + 1 = omega arith in rw e at (ahead w p (k + 1) hp hk)

pub meet_left : (S T : ℕ → Bool) (x : ℕ) → S x ≡ false → meet S T x ≡ false
unfolding meet
meet_left S T x e = rw e refl

pub meet_right : (S T : ℕ → Bool) (x : ℕ) → T x ≡ false → meet S T x ≡ false
unfolding meet
meet_right S T x e = grind arith

-- the common numbers from the first number of t on
pub common_run : (w : ℕ) (s t : Span) → IsArc w s → IsArc w t → steps w s.first s.last + 1 < 2 ^ w → steps w t.first t.last + 1 < 2 ^ w →
    steps w s.first t.first ≤ steps w s.first s.last →
    run_from w (meet (in_span w s) (in_span w t)) t.first ≡ record { first = t.first; last = (t.first + min (steps w s.first s.last - steps w s.first t.first) (steps w t.first t.last)) % 2 ^ w }
common_run w s t hs ht own more near =
    let gap = steps w s.first t.first in
    let k = min (steps w s.first s.last - gap) (steps w t.first t.last) in
    run_is w (meet (in_span w s) (in_span w t)) t.first k (omega arith)
    (let x = (t.first + k + 1) % 2 ^ w in
    let here = next w t.first k ht.first_fits (omega arith) in
    let there = steps_by w s.first t.first x hs.first_fits ht.first_fits here.0 in
    let fits = steps_is w s.first x hs.first_fits here.0 in
    elim (cases_lt (steps w t.first t.last) (k + 1)) [
      | inl past ↦ meet_right _ _ x (outside w t x (λ _ low. omega (arith, here.1)))
      | inr left ↦ meet_left _ _ x (outside w s x (λ _ low. grind (arith, there, here, fits, low, left, near, own)))
    ])
    (λ j less.
    let x = (t.first + j + 1) % 2 ^ w in
    let here = next w t.first j ht.first_fits (omega arith) in
    let there = steps_by w s.first t.first x hs.first_fits ht.first_fits here.0 in
    let fits = steps_is w s.first x hs.first_fits here.0 in
    meet_from _ _ x (in_to w s x here.0 (grind (arith, there, here, fits, less, near, own))) (in_to w t x here.0 (omega (arith, here.1))))

-- ---- where runs begin

-- an arc without all numbers leaves out the one behind its last
pub left_out : (w : ℕ) (s : Span) → IsArc w s → steps w s.first s.last + 1 < 2 ^ w →
    ((s.first + steps w s.first s.last + 1) % 2 ^ w < 2 ^ w) × (in_span w s ((s.first + steps w s.first s.last + 1) % 2 ^ w) ≡ false)
left_out w s hs own =
    let here = next w s.first (steps w s.first s.last) hs.first_fits own in
    (here.0, outside w s _ (λ _ low. omega (arith, here.1)))

-- the number below x on the circle
below : (w p x : ℕ) → p < 2 ^ w → x < 2 ^ w → ((x + (2 ^ w - 1)) % 2 ^ w < 2 ^ w) ×
    (((steps w p x ≡ 0) × (steps w p ((x + (2 ^ w - 1)) % 2 ^ w) + 1 ≡ 2 ^ w)) ⊎ (steps w p ((x + (2 ^ w - 1)) % 2 ^ w) + 1 ≡ steps w p x))
below w p x hp hx =
    let cut : (x + (2 ^ w - 1)) % 2 ^ w < 2 ^ w = mod_below (x + (2 ^ w - 1)) (2 ^ w) (omega arith) in
    let two = wrapped_sum (2 ^ w) (x + (2 ^ w - 1)) (omega arith) in
    let here = steps_is w p x hp hx in
    let there = steps_is w p ((x + (2 ^ w - 1)) % 2 ^ w) hp cut in
    (cut, grind (arith, two, here, there))

at_first : (w : ℕ) (s : Span) (x : ℕ) → IsArc w s → x < 2 ^ w → steps w s.first x ≡ 0 → x ≡ s.first
at_first w s x hs hx e = let to = steps_is w s.first x hs.first_fits hx in grind (arith, to, e)

-- a run of a set inside an arc begins at the arc's first number where the number below is no member of that arc
pub begins_inside : (w : ℕ) (s : Span) (x : ℕ) → IsArc w s → x < 2 ^ w → in_span w s x ≡ true → in_span w s ((x + (2 ^ w - 1)) % 2 ^ w) ≡ false → x ≡ s.first
begins_inside w s x hs hx member out =
    let here = in_from w s x member in
    let down = below w s.first x hs.first_fits hx in
    elim down.1 [
      | inl first ↦ at_first w s x hs hx first.0
      | inr more ↦
          let held : in_span w s ((x + (2 ^ w - 1)) % 2 ^ w) ≡ true = in_to w s _ down.0 (omega (arith, more, here.1)) in
          absurd (cc)
    ]

pub begins_first : (w : ℕ) (s : Span) → IsArc w s → steps w s.first s.last + 1 < 2 ^ w → in_span w s ((s.first + (2 ^ w - 1)) % 2 ^ w) ≡ false
begins_first w s hs own =
    let here = steps_is w s.first s.first hs.first_fits hs.first_fits in
    let down = below w s.first s.first hs.first_fits hs.first_fits in
    outside w s _ (λ _ low. grind (arith, here, down, low, own))

and_false : (a b : Bool) → (a && b) ≡ false → (a ≡ false) ⊎ (b ≡ false)
and_false false b e = inl refl
and_false true b e = inr e

pub begins_from : (w : ℕ) (S : ℕ → Bool) (x : ℕ) → begins_run w S x ≡ true → (S x ≡ true) × (S ((x + (2 ^ w - 1)) % 2 ^ w) ≡ false)
unfolding begins_run
begins_from w S x h = let two = and_parts _ _ h in (two.0, not-true _ two.1)

pub begins_to : (w : ℕ) (S : ℕ → Bool) (x : ℕ) → S x ≡ true → S ((x + (2 ^ w - 1)) % 2 ^ w) ≡ false → begins_run w S x ≡ true
unfolding begins_run
begins_to w S x h l = and_from _ _ h (ap not l)

-- runs of common numbers begin with the first number of one of the two arcs
pub common_begins : (w : ℕ) (s t : Span) (x : ℕ) → IsArc w s → IsArc w t → x < 2 ^ w → begins_run w (meet (in_span w s) (in_span w t)) x ≡ true →
    (meet (in_span w s) (in_span w t) x ≡ true) × ((x ≡ s.first) ⊎ (x ≡ t.first))
unfolding meet
common_begins w s t x hs ht hx h =
    let two = begins_from w (meet (in_span w s) (in_span w t)) x h in
    let both = and_parts _ _ two.0 in (
      two.0,
      elim (and_false _ _ two.1) [
        | inl out ↦ inl (begins_inside w s x hs hx both.0 out)
        | inr out ↦ inr (begins_inside w t x ht hx both.1 out)
      ],
    )

pub begins_left : (w : ℕ) (s t : Span) → IsArc w s → steps w s.first s.last + 1 < 2 ^ w → meet (in_span w s) (in_span w t) s.first ≡ true →
    begins_run w (meet (in_span w s) (in_span w t)) s.first ≡ true
begins_left w s t hs own h = begins_to w _ s.first h (meet_left _ _ _ (begins_first w s hs own))

pub begins_right : (w : ℕ) (s t : Span) → IsArc w t → steps w t.first t.last + 1 < 2 ^ w → meet (in_span w s) (in_span w t) t.first ≡ true →
    begins_run w (meet (in_span w s) (in_span w t)) t.first ≡ true
begins_right w s t ht more h = begins_to w _ t.first h (meet_right _ _ _ (begins_first w t ht more))

-- ---- the runs in order

-- a set that lacks a number, and whose runs begin nowhere but at p and q
pub record BeginsAt (w : ℕ) (S : ℕ → Bool) (p q : ℕ) : Type 0 where
  pub lower_fits : p < 2 ^ w
  pub upper_fits : q < 2 ^ w
  pub lacks : all_below (2 ^ w) S ≡ false
  pub lower : S p ≡ true → begins_run w S p ≡ true
  pub upper : S q ≡ true → begins_run w S q ≡ true
  pub nowhere : (x : ℕ) → x < 2 ^ w → begins_run w S x ≡ true → (S x ≡ true) × ((x ≡ p) ⊎ (x ≡ q))

starts_at : (w : ℕ) (S : ℕ → Bool) (p q x : ℕ) → BeginsAt w S p q → x < 2 ^ w → (x ≡ p → S p ≡ true → ⊥) → (x ≡ q → S q ≡ true → ⊥) → begins_run w S x ≡ false
starts_at w S p q x at hx not_p not_q = untrue _ (λ h. let where_ = at.nowhere x hx h in elim where_.1 [
  | inl e ↦ not_p e (sym (ap S e) ∙ where_.0)
  | inr e ↦ not_q e (sym (ap S e) ∙ where_.0)
])

pub runs_both : (w : ℕ) (S : ℕ → Bool) (p q : ℕ) → BeginsAt w S p q → p < q → S p ≡ true → S q ≡ true →
    runs_of w S ≡ record { one = Some (run_from w S p); two = Some (run_from w S q) }
unfolding runs_of
runs_both w S p q at less sp sq =
    let some : some_below (2 ^ w) (begins_run w S) ≡ true = some_found (2 ^ w) _ p at.lower_fits (at.lower sp) in
    let least : least_below (2 ^ w) (begins_run w S) ≡ p = least_is (2 ^ w) _ p (record {
      below = at.lower_fits;
      passes = at.lower sp;
      first = λ k l. starts_at w S p q k at (omega (arith, at.lower_fits)) (λ e _. omega arith) (λ e _. omega arith);
    }) in
    let greatest : greatest_below (2 ^ w) (begins_run w S) ≡ q = greatest_is (2 ^ w) _ q (record {
      below = at.upper_fits;
      passes = at.upper sq;
      last = λ k l fits. starts_at w S p q k at fits (λ e _. omega arith) (λ e _. omega arith);
    }) in
    rw (at.lacks, some, least, greatest, lt-ltb _ _ less) refl

pub runs_one : (w : ℕ) (S : ℕ → Bool) (p q : ℕ) → BeginsAt w S p q → (S q ≡ true → q ≡ p) → S p ≡ true →
    runs_of w S ≡ record { one = Some (run_from w S p); two = None }
unfolding runs_of
runs_one w S p q at alone sp =
    let some : some_below (2 ^ w) (begins_run w S) ≡ true = some_found (2 ^ w) _ p at.lower_fits (at.lower sp) in
    let least : least_below (2 ^ w) (begins_run w S) ≡ p = least_is (2 ^ w) _ p (record {
      below = at.lower_fits;
      passes = at.lower sp;
      first = λ k l. starts_at w S p q k at (omega (arith, at.lower_fits)) (λ e _. omega arith) (λ e sq. let same = alone sq in omega arith);
    }) in
    let greatest : greatest_below (2 ^ w) (begins_run w S) ≡ p = greatest_is (2 ^ w) _ p (record {
      below = at.lower_fits;
      passes = at.lower sp;
      last = λ k l fits. starts_at w S p q k at fits (λ e _. omega arith) (λ e sq. let same = alone sq in omega arith);
    }) in
    let le : p ≤ p = omega arith in
    rw (at.lacks, some, least, greatest, le-ltb _ _ le) refl

pub runs_none : (w : ℕ) (S : ℕ → Bool) (p q : ℕ) → BeginsAt w S p q → S p ≡ false → S q ≡ false →
    runs_of w S ≡ record { one = None; two = None }
unfolding runs_of
runs_none w S p q at sp sq =
    let none : some_below (2 ^ w) (begins_run w S) ≡ false = none_found (2 ^ w) _ (λ x hx. starts_at w S p q x at hx (λ _ s. let no : S p ≡ false = sp in absurd (cc)) (λ _ s. let no : S q ≡ false = sq in absurd (cc))) in
    rw (at.lacks, none) refl

pub turned : (w : ℕ) (S : ℕ → Bool) (p q : ℕ) → BeginsAt w S p q → BeginsAt w S q p
turned w S p q at = record {
  lower_fits = at.upper_fits;
  upper_fits = at.lower_fits;
  lacks = at.lacks;
  lower = at.upper;
  upper = at.lower;
  nowhere = λ x hx h. let from = at.nowhere x hx h in (from.0, elim from.1 [ inl e ↦ inr e | inr e ↦ inl e ]);
}

pub runs_ordered : (w : ℕ) (S : ℕ → Bool) (p q : ℕ) → BeginsAt w S p q → p < q →
    runs_of w S ≡ record { one = option_or (run_at w S p) (run_at w S q); two = option_and (run_at w S p) (run_at w S q) }
unfolding run_at
runs_ordered w S p q at less = elim (cases_Bool (S p)) [
  | inl sp ↦ elim (cases_Bool (S q)) [
    | inl sq ↦ rw (sp, sq) (runs_both w S p q at less sp sq)
    | inr sq ↦ rw (sp, sq) (runs_one w S p q at (λ s. absurd (cc)) sp)
  ]
  | inr sp ↦ elim (cases_Bool (S q)) [
    | inl sq ↦ rw (sp, sq) (runs_one w S q p (turned w S p q at) (λ s. absurd (cc)) sq)
    | inr sq ↦ rw (sp, sq) (runs_none w S p q at sp sq)
  ]
]
