use Rattle.std.proofs.Common.{◌++◌, flat_map}
use Rattle.vfa_ir.specs.declared.functions.Inst.{Inst}
use Rattle.vfa_walk.specs.Landmarks.{phi_literals, op_literals, term_literals}
use Rattle.vfa_walk.proofs.Marking.{then_more}
use Rattle.vfa_walk.proofs.landmarks.add_block.Goals as goal

pub returns : goal.returns
returns c =
    let old = c.args.marks.now.items in
    let w = c.args.width in
    let f = c.args.f.now in
    let phis = flat_map (phi_literals w) c.as_slice.result.now in
    let insts = flat_map (λ (i : Inst). op_literals f w i.op) c.as_slice-2.result.now in
    let first = c.as_slice.ensures in
    let second = c.as_slice-2.ensures in
    let whole = then_more old c.add_phis.new.marks.items c.add_term.new.marks.items phis (insts ++ term_literals w c.args.block.now.term) c.in_ok-add_phis.ensures
    (then_more c.add_phis.new.marks.items c.add_insts.new.marks.items c.add_term.new.marks.items insts (term_literals w c.args.block.now.term) c.in_ok-add_insts.ensures c.in_ok-add_term.ensures) in
    cc
