use Rattle.std.proofs.Common.{ℤ, ◌-◌, ◌^◌, ◌∙◌, ap, pos, neg_ℤ, FitsSigned, rules}
use Rattle.std.specs.Prelude.{int_lt}
use Rattle.std.specs.Int.{w128}
use Rattle.std.proofs.lemmas.Int.{to_z-of_z}
use Rattle.vfa_word.specs.Operations.{clamped_signed}
use Rattle.vfa_fact.specs.CellCuts.{shown_cell_ends}
use Rattle.vfa_wrap.specs.Arc.{sarc}
use Rattle.vfa_wrap.specs.Wrapped.{span_of}
use Rattle.vfa_xfer.proofs.CastRows.{signed_below, signed_above, signed_some}
use Rattle.vfa_xfer.proofs.casts.signed_bound.Goals as goal

pub returns-then-is_below : goal.returns-then-is_below
returns-then-is_below g c =
    let fits : FitsSigned w128 c.args.ends.now.shi = search rules in
    signed_below g.row.W (shown_cell_ends c.args.ends.now) c.is_below.result
    (c.is_below.ensures ∙ ap (λ (z : ℤ). int_lt z (neg_ℤ (pos (2 ^ (g.row.W - 1))))) (to_z-of_z w128 c.args.ends.now.shi fits)) c.if-is_below.true

pub returns-then-is_above : goal.returns-then-is_above
returns-then-is_above g c =
    let fits : FitsSigned w128 c.args.ends.now.slo = search rules in
    signed_above g.row.W (shown_cell_ends c.args.ends.now) c.is_above.result
    (c.is_above.ensures ∙ ap (λ (z : ℤ). int_lt (pos (2 ^ (g.row.W - 1) - 1)) z) (to_z-of_z w128 c.args.ends.now.slo fits)) c.if-is_above.true

pub returns : goal.returns
returns g c =
    let low : FitsSigned w128 c.args.ends.now.slo = search rules in
    let high : FitsSigned w128 c.args.ends.now.shi = search rules in
    let p : FitsSigned w128 c.clamped.result = record { sfits = c.clamped.type_inv } in
    let q : FitsSigned w128 c.clamped-2.result = record { sfits = c.clamped-2.type_inv } in
    signed_some g.row.W (shown_cell_ends c.args.ends.now) c.is_below.result c.is_above.result c.clamped.result c.clamped-2.result (span_of c.signed_arc.result)
    (c.is_below.ensures ∙ ap (λ (z : ℤ). int_lt z (neg_ℤ (pos (2 ^ (g.row.W - 1))))) (to_z-of_z w128 c.args.ends.now.shi high)) c.if-is_below.false
    (c.is_above.ensures ∙ ap (λ (z : ℤ). int_lt (pos (2 ^ (g.row.W - 1) - 1)) z) (to_z-of_z w128 c.args.ends.now.slo low)) c.if-is_above.false
    (c.clamped.ensures ∙ ap (clamped_signed g.row.W) (to_z-of_z w128 c.args.ends.now.slo low))
    (c.clamped-2.ensures ∙ ap (clamped_signed g.row.W) (to_z-of_z w128 c.args.ends.now.shi high))
    (c.signed_arc.ensures ∙ (λ i. sarc g.row.W (to_z-of_z w128 c.clamped.result p i) (to_z-of_z w128 c.clamped-2.result q i)))
