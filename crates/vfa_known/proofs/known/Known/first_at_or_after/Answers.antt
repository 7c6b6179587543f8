use Rattle.std.proofs.Common.{◌-◌, ◌^◌, refl, sym}
use Rattle.vfa_known.proofs.Searching.{member_itself}
use Rattle.vfa_known.proofs.Searched.{right_in, top_of, answer_none, answer_some, rising, shift_positive}
use Rattle.vfa_known.proofs.known.Known.first_at_or_after.Goals as goal

pub returns-then-wrong-eq0 : goal.returns-then-wrong-eq0
returns-then-wrong-eq0 g c = let one = c.args.self.now in
    sym (member_itself g.row.W one.zeros one.ones c.args.x one.cube
    (right_in g.row.W (2 ^ g.row.W - 1) 128 one.zeros one.ones c.args.x _ one.width.most (top_of g.row.W) one.cube c.requires refl c.if-wrong-eq0.true))

pub returns-then-full-most : goal.returns-then-full-most
returns-then-full-most g c = let one = c.args.self.now in let turn = c.ilog2-turn in
    sym (answer_none g.row.W c.most.result one.zeros one.ones c.args.x turn.result 0 one.width.most c.most.ensures one.cube c.requires
    turn.ensures.bound turn.ensures.power_le turn.ensures.next_power_gt c.if-full-most.true)

pub overflow_shl-low : goal.overflow_shl-low
overflow_shl-low g c = let one = c.args.self.now in let turn = c.ilog2-turn in
    (rising g.row.W c.most.result one.zeros one.ones c.args.x turn.result c.trailing_ones-rise.result one.width.most c.most.ensures one.cube c.requires
    turn.ensures.bound turn.ensures.power_le turn.ensures.next_power_gt c.if-full-most.false c.trailing_ones-rise.ensures).within

pub overflow_shl-result : goal.overflow_shl-result
overflow_shl-result g c = let one = c.args.self.now in let turn = c.ilog2-turn in
    (rising g.row.W c.most.result one.zeros one.ones c.args.x turn.result c.trailing_ones-rise.result one.width.most c.most.ensures one.cube c.requires
    turn.ensures.bound turn.ensures.power_le turn.ensures.next_power_gt c.if-full-most.false c.trailing_ones-rise.ensures).within

pub overflow_sub-low : goal.overflow_sub-low
overflow_sub-low g c = let one = c.args.self.now in let turn = c.ilog2-turn in
    shift_positive c.trailing_ones-rise.result
    (rising g.row.W c.most.result one.zeros one.ones c.args.x turn.result c.trailing_ones-rise.result one.width.most c.most.ensures one.cube c.requires
    turn.ensures.bound turn.ensures.power_le turn.ensures.next_power_gt c.if-full-most.false c.trailing_ones-rise.ensures).within

pub returns : goal.returns
returns g c = let one = c.args.self.now in let turn = c.ilog2-turn in
    answer_some g.row.W c.most.result one.zeros one.ones c.args.x turn.result c.trailing_ones-rise.result one.width.most c.most.ensures one.cube c.requires
    turn.ensures.bound turn.ensures.power_le turn.ensures.next_power_gt c.if-full-most.false c.trailing_ones-rise.ensures
