use Rattle.std.proofs.Common.{◌-◌, ◌<◌, arith, length, get_or}
use Rattle.std.proofs.lemmas.List.{drop_more}
use Rattle.vfa_ir.specs.declared.operations.BlockId.{BlockId}
use Rattle.vfa_cfg.proofs.Marks.{heads_step, order_in_range}
use Rattle.vfa_cfg.proofs.loops.heads.Goals as goal

pub index-requires : goal.index-requires
index-requires c =
    let d : BlockId = record { 0 = 0 } in
    let p = c.places.place - 1 in
    let within : p < length c.args.order.now = omega arith in
    let in_range = order_in_range c.args.f.now c.args.order.now c.requires.order p d within in
    omega (arith, c.places.invariant.marked, c.mark_successors.ensures.length)

pub places-preserved : goal.places-preserved
places-preserved c =
    let d : BlockId = record { 0 = 0 } in
    let p = c.places.place - 1 in
    let within : p < length c.args.order.now = omega arith in
    heads_step c.args.f.now c.args.order.now p c.places.place (get_or c.args.order.now p d) _ _ _ _
    (omega arith) (omega arith) (drop_more c.args.order.now p d within)
    (order_in_range c.args.f.now c.args.order.now c.requires.order p d within)
    c.mark_successors.ensures.length c.mark_successors.ensures.marks c.index.ensures c.places.invariant
