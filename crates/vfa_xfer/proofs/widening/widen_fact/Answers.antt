use Rattle.std.proofs.Common.{◌∙◌, ap, sym, nat_lt}
use Rattle.std.specs.Option.{option_map}
use Rattle.std.proofs.lemmas.Bool.{lt-ltb, or_left, or_right}
use Rattle.vfa_fact.specs.Fact.{span_in}
use Rattle.vfa_fact.specs.Views.{numbers_of}
use Rattle.vfa_wrap.specs.Arc.{Span}
use Rattle.vfa_wrap.specs.Wrapped.{span_of}
use Rattle.vfa_xfer.specs.Widening.{first_landmark_round, is_same_span}
use Rattle.vfa_xfer.specs.WideningLaws.{widened_to_joined, widened_some}
use Rattle.vfa_xfer.proofs.Widened.{goes_on}
use Rattle.vfa_xfer.proofs.widening.widen_fact.Goals as goal

pub returns-then-round-lt-FIRST_LANDMARK_ROUND : goal.returns-then-round-lt-FIRST_LANDMARK_ROUND
returns-then-round-lt-FIRST_LANDMARK_ROUND g c =
    sym (widened_to_joined g.row.W c.args.round c.args.marks.now (numbers_of c.args.old.now) (numbers_of c.args.joined.now)
    (or_left (nat_lt c.args.round first_landmark_round) _ (lt-ltb c.args.round first_landmark_round c.if-round-lt-FIRST_LANDMARK_ROUND.true)))

pub returns-then-same_arc : goal.returns-then-same_arc
returns-then-same_arc g c =
    sym (widened_to_joined g.row.W c.args.round c.args.marks.now (numbers_of c.args.old.now) (numbers_of c.args.joined.now)
    (or_right (nat_lt c.args.round first_landmark_round) _
    (ap (λ (s : Span). is_same_span s (span_in (numbers_of c.args.old.now))) (sym c.arc-arc.ensures.span)
    ∙ ap (is_same_span (span_of c.arc-arc.result)) (sym c.arc-old_arc.ensures.span) ∙ sym c.same_arc.ensures ∙ c.if-same_arc.true)))

pub returns : goal.returns
returns g c =
    ap (option_map numbers_of) (sym c.in-Some.is)
    ∙ goes_on g.row.W c.args.round c.args.marks.now (numbers_of c.args.old.now) (numbers_of c.args.joined.now)
    (span_of c.arc-arc.result) (span_of c.arc-old_arc.result) (span_of c.reached.result) c.same_arc.result (option_map numbers_of c.low_within.result)
    c.arc-arc.ensures.span c.arc-old_arc.ensures.span c.same_arc.ensures c.if-same_arc.false c.if-round-lt-FIRST_LANDMARK_ROUND.false
    c.reached.ensures c.low_within.ensures

pub unreachable-requires : goal.unreachable-requires
unreachable-requires g c =
    widened_some g.row.W (numbers_of c.args.old.now) (numbers_of c.args.joined.now) c.args.old.now.sharp c.args.joined.now.sharp c.args.round c.args.marks.now
    (sym (ap (option_map numbers_of) (sym c.in_default.is)
    ∙ goes_on g.row.W c.args.round c.args.marks.now (numbers_of c.args.old.now) (numbers_of c.args.joined.now)
    (span_of c.arc-arc.result) (span_of c.arc-old_arc.result) (span_of c.reached.result) c.same_arc.result (option_map numbers_of c.low_within.result)
    c.arc-arc.ensures.span c.arc-old_arc.ensures.span c.same_arc.ensures c.if-same_arc.false c.if-round-lt-FIRST_LANDMARK_ROUND.false
    c.reached.ensures c.low_within.ensures))
