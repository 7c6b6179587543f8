use Rattle.std.proofs.Common.{◌≡◌, ◌∙◌, ap, ◌+◌, ◌^◌, ◌<◌, ◌-◌, ◌≤◌, ℕ, Some, arith, min}
use Rattle.vfa_dom.specs.Sets.{meet}
use Rattle.vfa_wrap.specs.Arc.{Span, arc_from, steps, in_span, IsArc}
use Rattle.vfa_wrap.specs.Pieces.{run_at}
use Rattle.vfa_wrap.specs.Wrapped.{span_of}
use Rattle.vfa_wrap.proofs.Circle.{arc_ahead_part}
use Rattle.vfa_wrap.proofs.CommonArcs.{free_from, run_right, run_right_none}
use Rattle.vfa_wrap.proofs.arc.Wrapped.common_from.Goals as goal

pub returns-then-own-gap : goal.returns-then-own-gap
returns-then-own-gap g c = run_right_none g.row.W (span_of c.args.self.now) (span_of c.args.other.now) (omega (arith, c.extent-own.ensures.value, c.steps_up-gap.ensures.value))

reached : (w own gap more k : ℕ) (s t r : Span) → IsArc w s → IsArc w t → steps w s.first s.last + 1 < 2 ^ w → steps w t.first t.last + 1 < 2 ^ w →
    own ≡ steps w s.first s.last → gap ≡ steps w s.first t.first → more ≡ steps w t.first t.last → gap ≤ own → k ≡ min (own - gap) more →
    r ≡ arc_from w t.first (t.first + k) → Some r ≡ run_at w (meet (in_span w s) (in_span w t)) t.first
reached w own gap more k s t r hs ht free_s free_t eo eg em near ek er =
    ap Some (er ∙ arc_ahead_part w t.first k ht.first_fits (omega (arith, eo, eg, em)))
    ∙ run_right w k s t hs ht free_s free_t (omega (arith, eo, eg)) (omega (arith, eo, eg, em, ek))

pub returns : goal.returns
returns g c =
    reached g.row.W c.extent-own.result c.steps_up-gap.result c.extent.result c.min.result (span_of c.args.self.now) (span_of c.args.other.now) (span_of c.reaching.result)
    c.args.self.now.arc c.args.other.now.arc (free_from g.row.W (span_of c.args.self.now) c.args.self.now.arc c.requires.own) (free_from g.row.W (span_of c.args.other.now) c.args.other.now.arc c.requires.more)
    c.extent-own.ensures.value c.steps_up-gap.ensures.value c.extent.ensures.value (omega arith) c.min.ensures c.reaching.ensures
