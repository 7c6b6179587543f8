-- The join of two facts.
use Rattle.std.proofs.Common.{◌≡◌, ℕ, ◌^◌, ◌<◌, true, sym, ◌∙◌, ap, Some, None}
use Rattle.std.proofs.lemmas.Bool.{true≢false}
use Rattle.vfa_dom.specs.Sets.{meet}
use Rattle.vfa_dom.specs.Best.{Masks}
use Rattle.vfa_dom.proofs.SetSearches.{meet_from}
use Rattle.vfa_known.specs.Cube.{in_masks}
use Rattle.vfa_wrap.specs.Arc.{Span, IsArc, in_span}
use Rattle.vfa_wrap.proofs.ArcSets.{hull_holds_left, hull_holds_right}
use Rattle.vfa_fact.specs.declared.numbers.Numbers.{Numbers}
use Rattle.vfa_fact.specs.Fact.{span_in, in_numbers}
use Rattle.vfa_fact.specs.Join.{alike, hull_in, join_of}
use Rattle.vfa_fact.specs.Cells.{in_option}
use Rattle.vfa_fact.specs.Sharp.{sharp_in}
use Rattle.vfa_fact.proofs.SharpSets.{sharp_none_tells}
use Rattle.vfa_fact.proofs.SharpArcs.{sharp_in_has}

-- m and s are the masks and the arc of the join, before they sharpen each other
module _ (w : ℕ) (a b : Numbers) (m : Masks) (s : Span) (arc : IsArc w s) (right : s ≡ hull_in w a b) (left : m ≡ alike a b) where
  pub joined_is : sharp_in w s (in_masks w m) ≡ join_of w a b
  unfolding join_of
  joined_is =
      ap (λ (k : Masks). sharp_in w s (in_masks w k)) left
      ∙ ap (λ (t : Span). sharp_in w t (in_masks w (alike a b))) right

  -- a number of the masks and the arc is one of the fact
  pub some_joined : (x : ℕ) → x < 2 ^ w → in_masks w m x ≡ true → in_span w s x ≡ true → sharp_in w s (in_masks w m) ≡ None → ⊥
  some_joined x fits cube here none =
      true≢false (sym (meet_from (in_span w s) (in_masks w m) x here cube)
      ∙ sharp_none_tells w s.first (meet (in_span w s) (in_masks w m)) arc.first_fits none x fits)

  pub joined_has : (n : Numbers) → sharp_in w s (in_masks w m) ≡ Some n →
      (x : ℕ) → x < 2 ^ w → in_masks w m x ≡ true → in_span w s x ≡ true → in_numbers w n x ≡ true
  unfolding in_option
  joined_has n is x fits cube here = sharp_in_has w s (in_masks w m) arc (Some n) (sym is) x fits here cube

pub hull_left : (w : ℕ) (a b : Numbers) (s : Span) (x : ℕ) → IsArc w (span_in a) → IsArc w (span_in b) → s ≡ hull_in w a b → in_span w (span_in a) x ≡ true → in_span w s x ≡ true
hull_left w a b s x left right same member = ap (λ (t : Span). in_span w t x) same ∙ hull_holds_left w (span_in a) (span_in b) x left right member

pub hull_right : (w : ℕ) (a b : Numbers) (s : Span) (x : ℕ) → IsArc w (span_in a) → IsArc w (span_in b) → s ≡ hull_in w a b → in_span w (span_in b) x ≡ true → in_span w s x ≡ true
hull_right w a b s x left right same member = ap (λ (t : Span). in_span w t x) same ∙ hull_holds_right w (span_in a) (span_in b) x left right member
