use Rattle.std.proofs.Common.{sym, ◌∙◌, arith}
use Rattle.vfa_known.specs.Known.{masks_of}
use Rattle.vfa_fact.proofs.Turns.{or_one}
use Rattle.vfa_fact.proofs.CubeCuts.{none_after, none_before, none_between, cut_made}
use Rattle.vfa_fact.proofs.sharp.between.Goals as goal

pub returns-in_err-first : goal.returns-in_err-first
returns-in_err-first g c = let cube = c.args.cube.now in
    c.from_residual.ensures
    ∙ sym (none_after g.row.W c.args.low c.args.high (masks_of cube) cube.cube (sym c.first_at_or_after.ensures ∙ c.in_err-first.was))

pub returns-in_err-last : goal.returns-in_err-last
returns-in_err-last g c = let cube = c.args.cube.now in
    c.from_residual-in_err-last.ensures
    ∙ sym (none_before g.row.W c.args.low c.args.high (masks_of cube) cube.cube (sym c.last_at_or_before.ensures ∙ c.in_err-last.was))

pub returns-then-last-first : goal.returns-then-last-first
returns-then-last-first g c = let cube = c.args.cube.now in
    sym (none_between g.row.W c.args.low c.args.high (masks_of cube) cube.cube c.in_ok-first.first c.in_ok-last.last
    (sym c.first_at_or_after.ensures ∙ c.in_ok-first.was) (sym c.last_at_or_before.ensures ∙ c.in_ok-last.was) (omega arith))

pub ilog2-turn-requires : goal.ilog2-turn-requires
ilog2-turn-requires g c = or_one _

pub returns : goal.returns
returns g c = let cube = c.args.cube.now in let turn = c.ilog2-turn in
    cut_made g.row.W c.args.low c.args.high (masks_of cube) cube.cube c.in_ok-first.first c.in_ok-last.last
    (sym c.first_at_or_after.ensures ∙ c.in_ok-first.was) (sym c.last_at_or_before.ensures ∙ c.in_ok-last.was)
    c.most.result turn.result c.zeros.result c.ones.result c.requires.width c.most.ensures (omega arith) c.zeros.ensures c.ones.ensures
    turn.ensures.power_le turn.ensures.next_power_gt
