use Rattle.std.proofs.Common.{◌≡◌, ◌+◌, ◌^◌, ◌<◌, ◌∙◌, ℕ, max, sym, arith}
use Rattle.std.proofs.lemmas.Bool.Decides.{nat_tests}
use Rattle.vfa_wrap.specs.Arc.{Span, steps}
use Rattle.vfa_wrap.specs.Wrapped.{span_of}
use Rattle.vfa_wrap.proofs.SmallestArc.{reach_steps, reach_is}
use Rattle.vfa_wrap.proofs.arc.Wrapped.reach.Goals as goal

round : (w top gap size : ℕ) (s t : Span) → gap ≡ steps w s.first t.first → size ≡ steps w t.first t.last → top + 1 ≡ 2 ^ w → top < gap + size → top ≡ reach_steps w s t
unfolding reach_steps
round w top gap size s t eg es et h = grind (arith, nat_tests)

straight : (w own gap size : ℕ) (s t : Span) → own ≡ steps w s.first s.last → gap ≡ steps w s.first t.first → size ≡ steps w t.first t.last → gap + size < 2 ^ w →
    max own (gap + size) ≡ reach_steps w s t
unfolding reach_steps
straight w own gap size s t eo eg es h = grind (arith, nat_tests)

pub returns-then-size-most-clause-value : goal.returns-then-size-most-clause-value
returns-then-size-most-clause-value g c =
    let s = span_of c.args.self.now in
    let t = span_of c.args.other.now in
    round g.row.W c.most-then-size-most.result c.steps_up-gap.result c.extent-size.result s t c.steps_up-gap.ensures.value c.extent-size.ensures.value c.most-then-size-most.ensures (omega arith)
    ∙ sym (reach_is g.row.W s t c.args.self.now.arc c.args.other.now.arc)

pub returns-clause-value : goal.returns-clause-value
returns-clause-value g c =
    let s = span_of c.args.self.now in
    let t = span_of c.args.other.now in
    c.max.ensures
    ∙ straight g.row.W c.extent.result c.steps_up-gap.result c.extent-size.result s t c.extent.ensures.value c.steps_up-gap.ensures.value c.extent-size.ensures.value (omega arith)
    ∙ sym (reach_is g.row.W s t c.args.self.now.arc c.args.other.now.arc)
