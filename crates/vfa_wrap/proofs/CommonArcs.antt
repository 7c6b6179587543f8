use Rattle.std.proofs.Common.{◌≡◌, refl, sym, ◌∙◌, ap, ℕ, ◌+◌, ◌-◌, ◌%◌, ◌^◌, ◌<◌, ◌≤◌, Bool, true, false, not, ◌||◌, ◌⊎◌, inl, inr, arith, min, Option, Some, None}
use Rattle.std.proofs.Math.Bool.{or_comm, and_comm, or-false}
use Rattle.std.proofs.lemmas.Bool.{or_cases, or_left, or_right, cases_lt}
use Rattle.std.proofs.lemmas.Nat.{mod_below}
use Rattle.std.specs.Option.{option_or, option_and}
use Rattle.vfa_dom.specs.Search.{all_below, least_below}
use Rattle.vfa_dom.specs.Sets.{meet}
use Rattle.vfa_dom.proofs.Searches.{all_from, all_fails}
use Rattle.vfa_dom.proofs.SetSearches.{meet_from, meet_parts}
use Rattle.vfa_wrap.specs.Arc.{Span, steps, in_span, IsArc, full_span}
use Rattle.vfa_wrap.specs.Pieces.{begins_run, run_length, run_from, run_at, runs_of, in_spans, in_option}
use Rattle.vfa_wrap.proofs.Truth.{same_answers}
use Rattle.vfa_wrap.proofs.Circle.{outside, steps_is, ahead, in_from, in_to, in_full}
use Rattle.vfa_wrap.proofs.SmallestArc.{steps_by}
use Rattle.vfa_wrap.proofs.ArcSets.{first_in, span_at}
use Rattle.vfa_wrap.proofs.ArcEnds.{least_alike}
use Rattle.vfa_wrap.proofs.Runs.{run_is, common_run, next, left_out, begins_from, begins_to, begins_inside, begins_first, common_begins, begins_left, begins_right, BeginsAt, turned, runs_one, runs_ordered, meet_left}

-- ---- full arcs

pub full_from : (w : ℕ) (s : Span) → IsArc w s → steps w s.first s.last + 1 ≡ 2 ^ w → s ≡ full_span w
full_from w s hs e =
    let zero_first : s.first ≡ 0 = hs.normal e in
    let to = steps_is w s.first s.last hs.first_fits hs.last_fits in
    let top : s.last ≡ 2 ^ w - 1 = grind (arith, to, zero_first, e) in
    ap (λ (n : ℕ). record { first = n; last = s.last }) zero_first ∙ ap (λ (n : ℕ). record { first = 0; last = n }) top

pub free_from : (w : ℕ) (s : Span) → IsArc w s → (s ≡ full_span w → ⊥) → steps w s.first s.last + 1 < 2 ^ w
free_from w s hs h =
    let to = steps_is w s.first s.last hs.first_fits hs.last_fits in
    elim (cases_lt (steps w s.first s.last + 1) (2 ^ w)) [
      | inl free ↦ free
      | inr top ↦ absurd (h (full_from w s hs (omega (arith, to.0))))
    ]

-- ---- a set that is one arc

run_at_first : (w : ℕ) (S : ℕ → Bool) (s : Span) → IsArc w s → steps w s.first s.last + 1 < 2 ^ w → ((x : ℕ) → x < 2 ^ w → S x ≡ in_span w s x) → run_from w S s.first ≡ s
run_at_first w S s hs own alike =
    let out = left_out w s hs own in
    run_is w S s.first (steps w s.first s.last) (omega arith) (alike _ out.0 ∙ out.1) (λ j less.
    let here = next w s.first j hs.first_fits (omega arith) in
    alike _ here.0 ∙ in_to w s _ here.0 (omega (arith, here.1)))
    ∙ span_at w s hs

all_runs : (w : ℕ) (S : ℕ → Bool) → all_below (2 ^ w) S ≡ true → runs_of w S ≡ record { one = Some (full_span w); two = None }
unfolding runs_of
all_runs w S all = rw all refl

pub runs_arc : (w : ℕ) (S : ℕ → Bool) (s : Span) → IsArc w s → ((x : ℕ) → x < 2 ^ w → S x ≡ in_span w s x) → runs_of w S ≡ record { one = Some s; two = None }
runs_arc w S s hs alike =
    let to = steps_is w s.first s.last hs.first_fits hs.last_fits in
    elim (cases_lt (steps w s.first s.last + 1) (2 ^ w)) [
      | inl own ↦
          let out = left_out w s hs own in
          let down : (s.first + (2 ^ w - 1)) % 2 ^ w < 2 ^ w = mod_below (s.first + (2 ^ w - 1)) (2 ^ w) (omega arith) in
          let begins : begins_run w S s.first ≡ true = begins_to w S s.first (alike s.first hs.first_fits ∙ first_in w s hs) (alike _ down ∙ begins_first w s hs own) in
          runs_one w S s.first s.first (record {
            lower_fits = hs.first_fits;
            upper_fits = hs.first_fits;
            lacks = all_fails (2 ^ w) S _ out.0 (alike _ out.0 ∙ out.1);
            lower = λ _. begins;
            upper = λ _. begins;
            nowhere = λ x hx h.
                let two = begins_from w S x h in
                let low : (x + (2 ^ w - 1)) % 2 ^ w < 2 ^ w = mod_below (x + (2 ^ w - 1)) (2 ^ w) (omega arith) in
                (two.0, inl (begins_inside w s x hs hx (sym (alike x hx) ∙ two.0) (sym (alike _ low) ∙ two.1)));
          })
          (λ _. refl) (alike s.first hs.first_fits ∙ first_in w s hs)
          ∙ ap (λ (a : Span). record { one = Some a; two = None }) (run_at_first w S s hs own alike)
      | inr top ↦
          let all : all_below (2 ^ w) S ≡ true = all_from (2 ^ w) S (λ x hx. let far = steps_is w s.first x hs.first_fits hx in alike x hx ∙ in_to w s x hx (omega (arith, far.0))) in
          all_runs w S all ∙ ap (λ (a : Span). record { one = Some a; two = None }) (sym (full_from w s hs (omega (arith, to.0))))
    ]

-- ---- two arcs

pub meet_full_left : (w x : ℕ) (s t : Span) → s ≡ full_span w → x < 2 ^ w → meet (in_span w s) (in_span w t) x ≡ in_span w t x
unfolding meet
meet_full_left w x s t e hx =
    let member : in_span w s x ≡ true = ap (λ (a : Span). in_span w a x) e ∙ in_full w x hx in
    rw member refl

pub meet_full_right : (w x : ℕ) (s t : Span) → t ≡ full_span w → x < 2 ^ w → meet (in_span w s) (in_span w t) x ≡ in_span w s x
unfolding meet
meet_full_right w x s t e hx =
    let member : in_span w t x ≡ true = ap (λ (a : Span). in_span w a x) e ∙ in_full w x hx in
    grind (arith, member)

pub common_begin : (w : ℕ) (s t : Span) → IsArc w s → IsArc w t → steps w s.first s.last + 1 < 2 ^ w → steps w t.first t.last + 1 < 2 ^ w →
    BeginsAt w (meet (in_span w s) (in_span w t)) s.first t.first
common_begin w s t hs ht own more =
    let out = left_out w s hs own in
    record {
      lower_fits = hs.first_fits;
      upper_fits = ht.first_fits;
      lacks = all_fails (2 ^ w) _ _ out.0 (meet_left _ _ _ out.1);
      lower = begins_left w s t hs own;
      upper = begins_right w s t ht more;
      nowhere = λ x hx h. common_begins w s t x hs ht hx h;
    }

run_at_alike : (w : ℕ) (S T : ℕ → Bool) (p : ℕ) → p < 2 ^ w → ((x : ℕ) → S x ≡ T x) → run_at w S p ≡ run_at w T p
unfolding run_at run_from run_length
run_at_alike w S T p hp alike =
    let size : least_below (2 ^ w) (λ k. not (S ((p + k + 1) % 2 ^ w))) ≡ least_below (2 ^ w) (λ k. not (T ((p + k + 1) % 2 ^ w))) =
    least_alike (2 ^ w) _ _ (λ k _. ap not (alike ((p + k + 1) % 2 ^ w))) in
    rw (alike p, size) refl

swapped : (S T : ℕ → Bool) (x : ℕ) → meet S T x ≡ meet T S x
unfolding meet
swapped S T x = and_comm (S x) (T x)

pub run_at_swapped : (w : ℕ) (S T : ℕ → Bool) (p : ℕ) → p < 2 ^ w → run_at w (meet S T) p ≡ run_at w (meet T S) p
run_at_swapped w S T p hp = run_at_alike w (meet S T) (meet T S) p hp (swapped S T)

-- the common numbers from the first number of t on, where it lies in s and where it does not
pub run_right : (w k : ℕ) (s t : Span) → IsArc w s → IsArc w t → steps w s.first s.last + 1 < 2 ^ w → steps w t.first t.last + 1 < 2 ^ w →
    steps w s.first t.first ≤ steps w s.first s.last → k ≡ min (steps w s.first s.last - steps w s.first t.first) (steps w t.first t.last) →
    Some (record { first = t.first; last = (t.first + k) % 2 ^ w }) ≡ run_at w (meet (in_span w s) (in_span w t)) t.first
unfolding run_at
run_right w k s t hs ht own more near e =
    let member : meet (in_span w s) (in_span w t) t.first ≡ true = meet_from _ _ t.first (in_to w s t.first ht.first_fits near) (first_in w t ht) in
    rw (member, e) (ap Some (sym (common_run w s t hs ht own more near)))

pub run_right_none : (w : ℕ) (s t : Span) → steps w s.first s.last < steps w s.first t.first →
    None ≡ run_at w (meet (in_span w s) (in_span w t)) t.first
unfolding run_at
run_right_none w s t far =
    let out : meet (in_span w s) (in_span w t) t.first ≡ false = meet_left _ _ t.first (outside w s t.first (λ _ low. omega (arith, low, far))) in
    rw out refl

-- ---- the pieces hold the common numbers

shared : (w x : ℕ) (s t : Span) → IsArc w s → IsArc w t → x < 2 ^ w → steps w s.first x ≤ steps w s.first s.last → steps w t.first x ≤ steps w t.first t.last →
    ((steps w t.first s.first ≤ steps w t.first t.last) × (steps w s.first x ≤ min (steps w t.first t.last - steps w t.first s.first) (steps w s.first s.last)))
    ⊎ ((steps w s.first t.first ≤ steps w s.first s.last) × (steps w t.first x ≤ min (steps w s.first s.last - steps w s.first t.first) (steps w t.first t.last)))
shared w x s t hs ht hx one two =
    let a = steps_is w s.first t.first hs.first_fits ht.first_fits in
    let b = steps_is w t.first s.first ht.first_fits hs.first_fits in
    let c = steps_is w s.first x hs.first_fits hx in
    let d = steps_is w t.first x ht.first_fits hx in
    grind (arith, a, b, c, d)

in_run : (w p k x : ℕ) → p < 2 ^ w → k < 2 ^ w → x < 2 ^ w → steps w p x ≤ k → in_span w (record { first = p; last = (p + k) % 2 ^ w }) x ≡ true
in_run w p k x hp hk hx h = let last = ahead w p k hp hk in in_to w (record { first = p; last = (p + k) % 2 ^ w }) x hx (omega (arith, last.1))

from_run : (w p k x : ℕ) → p < 2 ^ w → k < 2 ^ w → in_span w (record { first = p; last = (p + k) % 2 ^ w }) x ≡ true → (x < 2 ^ w) × (steps w p x ≤ k)
from_run w p k x hp hk h =
    let last = ahead w p k hp hk in
    let member = in_from w (record { first = p; last = (p + k) % 2 ^ w }) x h in
    (member.0, omega (arith, last.1, member.1))

-- each number of such a piece is common
pub piece_to : (w x : ℕ) (s t : Span) → IsArc w s → IsArc w t → steps w s.first s.last + 1 < 2 ^ w → steps w t.first t.last + 1 < 2 ^ w →
    in_option w (run_at w (meet (in_span w s) (in_span w t)) t.first) x ≡ true → meet (in_span w s) (in_span w t) x ≡ true
piece_to w x s t hs ht own more h = elim (cases_lt (steps w s.first s.last) (steps w s.first t.first)) [
  | inl far ↦
      let none : false ≡ true = ap (λ (o : Option Span). in_option w o x) (run_right_none w s t far) ∙ h in absurd (cc)
  | inr near ↦
      let k = min (steps w s.first s.last - steps w s.first t.first) (steps w t.first t.last) in
      let some = ap (λ (o : Option Span). in_option w o x) (run_right w k s t hs ht own more near refl) ∙ h in
      let member = from_run w t.first k x ht.first_fits (omega arith) some in
      let by = steps_by w s.first t.first x hs.first_fits ht.first_fits member.0 in
      let fits = steps_is w s.first x hs.first_fits member.0 in
      meet_from _ _ x (in_to w s x member.0 (grind (arith, by, fits, member.1, near, own))) (in_to w t x member.0 (omega (arith, member.1)))
]

pub piece_from : (w x : ℕ) (s t : Span) → IsArc w s → IsArc w t → steps w s.first s.last + 1 < 2 ^ w → steps w t.first t.last + 1 < 2 ^ w → x < 2 ^ w →
    steps w s.first t.first ≤ steps w s.first s.last → steps w t.first x ≤ min (steps w s.first s.last - steps w s.first t.first) (steps w t.first t.last) →
    in_option w (run_at w (meet (in_span w s) (in_span w t)) t.first) x ≡ true
piece_from w x s t hs ht own more hx near h =
    let k = min (steps w s.first s.last - steps w s.first t.first) (steps w t.first t.last) in
    ap (λ (o : Option Span). in_option w o x) (sym (run_right w k s t hs ht own more near refl)) ∙ in_run w t.first k x ht.first_fits (omega arith) hx h

pub pieces_hold : (w x : ℕ) (s t : Span) → IsArc w s → IsArc w t → steps w s.first s.last + 1 < 2 ^ w → steps w t.first t.last + 1 < 2 ^ w →
    (in_option w (run_at w (meet (in_span w s) (in_span w t)) s.first) x || in_option w (run_at w (meet (in_span w s) (in_span w t)) t.first) x) ≡ meet (in_span w s) (in_span w t) x
pieces_hold w x s t hs ht own more = same_answers _ _
    (λ h. elim (or_cases _ _ h) [
      | inl left ↦ swapped (in_span w s) (in_span w t) x ∙ piece_to w x t s ht hs more own (ap (λ (o : Option Span). in_option w o x) (sym (run_at_swapped w (in_span w s) (in_span w t) s.first hs.first_fits)) ∙ left)
      | inr right ↦ piece_to w x s t hs ht own more right
    ])
    (λ h.
    let both = meet_parts _ _ x h in
    let one = in_from w s x both.0 in
    let two = in_from w t x both.1 in
    elim (shared w x s t hs ht one.0 one.1 two.1) [
      | inl left ↦ or_left _ _ (ap (λ (o : Option Span). in_option w o x) (run_at_swapped w (in_span w s) (in_span w t) s.first hs.first_fits) ∙ piece_from w x t s ht hs more own one.0 left.0 left.1)
      | inr right ↦ or_right _ _ (piece_from w x s t hs ht own more one.0 right.0 right.1)
    ])

-- ---- the answers

pub left_full : (w : ℕ) (s t : Span) → IsArc w t → s ≡ full_span w → record { one = Some t; two = None } ≡ runs_of w (meet (in_span w s) (in_span w t))
left_full w s t ht e = sym (runs_arc w _ t ht (λ x hx. meet_full_left w x s t e hx))

pub right_full : (w : ℕ) (s t : Span) → IsArc w s → t ≡ full_span w → record { one = Some s; two = None } ≡ runs_of w (meet (in_span w s) (in_span w t))
right_full w s t hs e = sym (runs_arc w _ s hs (λ x hx. meet_full_right w x s t e hx))

out_of_range : (w x : ℕ) (s : Span) → 2 ^ w ≤ x → in_span w s x ≡ false
out_of_range w x s h = outside w s x (λ fits _. omega arith)

pub left_full_holds : (w x : ℕ) (s t : Span) → s ≡ full_span w → in_spans w (record { one = Some t; two = None }) x ≡ meet (in_span w s) (in_span w t) x
left_full_holds w x s t e = or-false (in_span w t x) ∙ elim (cases_lt x (2 ^ w)) [
  | inl fits ↦ sym (meet_full_left w x s t e fits)
  | inr high ↦ out_of_range w x t high ∙ sym (meet_left _ _ x (out_of_range w x s high))
]

pub right_full_holds : (w x : ℕ) (s t : Span) → t ≡ full_span w → in_spans w (record { one = Some s; two = None }) x ≡ meet (in_span w s) (in_span w t) x
right_full_holds w x s t e = or-false (in_span w s x) ∙ elim (cases_lt x (2 ^ w)) [
  | inl fits ↦ sym (meet_full_right w x s t e fits)
  | inr high ↦ out_of_range w x s high ∙ sym (meet_left _ _ x (out_of_range w x s high))
]

run_at_member : (w : ℕ) (S : ℕ → Bool) (p : ℕ) → S p ≡ true → run_at w S p ≡ Some (run_from w S p)
unfolding run_at
run_at_member w S p h = rw h refl

pub same_first : (w : ℕ) (s t : Span) (o : Option Span) → IsArc w s → IsArc w t → steps w s.first s.last + 1 < 2 ^ w → steps w t.first t.last + 1 < 2 ^ w →
    s.first ≡ t.first → o ≡ run_at w (meet (in_span w s) (in_span w t)) t.first → record { one = o; two = None } ≡ runs_of w (meet (in_span w s) (in_span w t))
same_first w s t o hs ht own more e eo =
    let S = meet (in_span w s) (in_span w t) in
    let in_s : in_span w s t.first ≡ true = ap (in_span w s) (sym e) ∙ first_in w s hs in
    let member : S t.first ≡ true = meet_from (in_span w s) (in_span w t) t.first in_s (first_in w t ht) in
    let here : o ≡ Some (run_from w S t.first) = eo ∙ run_at_member w S t.first member in
    let all = runs_one w S t.first s.first (turned w S s.first t.first (common_begin w s t hs ht own more)) (λ _. e) member in
    ap (λ (a : Option Span). record { one = a; two = None }) here ∙ sym all

pub same_first_holds : (w x : ℕ) (s t : Span) (o : Option Span) → IsArc w s → IsArc w t → steps w s.first s.last + 1 < 2 ^ w → steps w t.first t.last + 1 < 2 ^ w →
    s.first ≡ t.first → o ≡ run_at w (meet (in_span w s) (in_span w t)) t.first → in_spans w (record { one = o; two = None }) x ≡ meet (in_span w s) (in_span w t) x
same_first_holds w x s t o hs ht own more e eo =
    let S = meet (in_span w s) (in_span w t) in
    let held = pieces_hold w x s t hs ht own more in
    let twice : (in_option w (run_at w S t.first) x || in_option w (run_at w S t.first) x) ≡ S x = ap (λ (p : ℕ). in_option w (run_at w S p) x || in_option w (run_at w S t.first) x) (sym e) ∙ held in
    ap (λ (a : Option Span). in_option w a x || false) eo ∙ or-false (in_option w (run_at w S t.first) x) ∙ sym (or_twice (in_option w (run_at w S t.first) x)) ∙ twice where
      or_twice : (b : Bool) → (b || b) ≡ b
      or_twice true = refl
      or_twice false = refl

pub in_order : (w : ℕ) (s t : Span) (x y : Option Span) → IsArc w s → IsArc w t → steps w s.first s.last + 1 < 2 ^ w → steps w t.first t.last + 1 < 2 ^ w →
    s.first < t.first → x ≡ run_at w (meet (in_span w s) (in_span w t)) s.first → y ≡ run_at w (meet (in_span w s) (in_span w t)) t.first →
    record { one = option_or x y; two = option_and x y } ≡ runs_of w (meet (in_span w s) (in_span w t))
in_order w s t x y hs ht own more less ex ey =
    rw (ex, ey) (sym (runs_ordered w _ s.first t.first (common_begin w s t hs ht own more) less))

pub in_turn : (w : ℕ) (s t : Span) (x y : Option Span) → IsArc w s → IsArc w t → steps w s.first s.last + 1 < 2 ^ w → steps w t.first t.last + 1 < 2 ^ w →
    t.first < s.first → x ≡ run_at w (meet (in_span w s) (in_span w t)) s.first → y ≡ run_at w (meet (in_span w s) (in_span w t)) t.first →
    record { one = option_or y x; two = option_and y x } ≡ runs_of w (meet (in_span w s) (in_span w t))
in_turn w s t x y hs ht own more less ex ey =
    rw (ex, ey) (sym (runs_ordered w _ t.first s.first (turned w _ s.first t.first (common_begin w s t hs ht own more)) less))

spans_or : (w x : ℕ) (a b : Option Span) → in_spans w (record { one = option_or a b; two = option_and a b }) x ≡ (in_option w a x || in_option w b x)
spans_or w x None None = refl
spans_or w x None (Some b) = or-false (in_span w b x)
spans_or w x (Some a) None = refl
spans_or w x (Some a) (Some b) = refl

pub in_order_holds : (w n : ℕ) (s t : Span) (x y : Option Span) → IsArc w s → IsArc w t → steps w s.first s.last + 1 < 2 ^ w → steps w t.first t.last + 1 < 2 ^ w →
    x ≡ run_at w (meet (in_span w s) (in_span w t)) s.first → y ≡ run_at w (meet (in_span w s) (in_span w t)) t.first →
    in_spans w (record { one = option_or x y; two = option_and x y }) n ≡ meet (in_span w s) (in_span w t) n
in_order_holds w n s t x y hs ht own more ex ey =
    spans_or w n x y ∙ ap (λ (a : Option Span). in_option w a n || in_option w y n) ex ∙ ap (λ (a : Option Span). in_option w (run_at w (meet (in_span w s) (in_span w t)) s.first) n || in_option w a n) ey
    ∙ pieces_hold w n s t hs ht own more

pub in_turn_holds : (w n : ℕ) (s t : Span) (x y : Option Span) → IsArc w s → IsArc w t → steps w s.first s.last + 1 < 2 ^ w → steps w t.first t.last + 1 < 2 ^ w →
    x ≡ run_at w (meet (in_span w s) (in_span w t)) s.first → y ≡ run_at w (meet (in_span w s) (in_span w t)) t.first →
    in_spans w (record { one = option_or y x; two = option_and y x }) n ≡ meet (in_span w s) (in_span w t) n
in_turn_holds w n s t x y hs ht own more ex ey =
    spans_or w n y x ∙ or_comm (in_option w y n) (in_option w x n) ∙ sym (spans_or w n x y) ∙ in_order_holds w n s t x y hs ht own more ex ey
