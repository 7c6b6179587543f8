use Rattle.std.proofs.Common.{◌-◌, ℕ, length, refl, sym, ap, ◌∙◌}
use Rattle.std.proofs.lemmas.Option.{slice_get_read, slice_get_past}
use Rattle.std.specs.Option.{option_map}
use Rattle.vfa_ir.specs.declared.operations.BlockId.{BlockId}
use Rattle.vfa_cfg.specs.declared.listing.Way.{Way}
use Rattle.vfa_cfg.specs.Edges.{edge}
use Rattle.vfa_walk.proofs.Edges.{case_edge}
use Rattle.vfa_walk.proofs.leaving.switch_edge.Goals as goal

pub returns-in-Some-clause-edge : goal.returns-in-Some-clause-edge
returns-in-Some-clause-edge c =
    let cases = c.args.cases.now in
    let read = c.in-Some.ensures.lookup in
    sym (case_edge c.args.from.0 (edge c.args.from.0 c.args.other Way.Other) cases c.args.k c.if-k-eq0.false
    ∙ ap (option_map (λ (e : ℕ × BlockId). edge c.args.from.0 e.1 (Way.Case (c.args.k - 1)))) (slice_get_read cases (length cases) (c.args.k - 1) c.in-Some.case.now refl read.3.0 read.1))

pub returns-in-None-clause-edge : goal.returns-in-None-clause-edge
returns-in-None-clause-edge c =
    let cases = c.args.cases.now in
    sym (case_edge c.args.from.0 (edge c.args.from.0 c.args.other Way.Other) cases c.args.k c.if-k-eq0.false
    ∙ ap (option_map (λ (e : ℕ × BlockId). edge c.args.from.0 e.1 (Way.Case (c.args.k - 1)))) (slice_get_past cases (c.args.k - 1) c.in-None.ensures.lookup.3))
