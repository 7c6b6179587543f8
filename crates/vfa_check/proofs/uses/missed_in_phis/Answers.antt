use Rattle.std.proofs.Common.{sym, ◌∙◌}
use Rattle.vfa_ir.specs.Defined.{phi_uses}
use Rattle.vfa_check.proofs.UsesTold.{part_here, part_later, parts_end, read_part}
use Rattle.vfa_check.proofs.uses.missed_in_phis.Goals as goal

pub returns-then-is_some : goal.returns-then-is_some
returns-then-is_some c =
    let f = c.args.f.now in
    let phi = c.phi-item.result in
    let found = c.missed_in_phi-missed.result in
    part_here f (phi_uses f) c.args.phis.now c.phis.phi-index phi found c.phis-test.true (sym c.is_some.ensures ∙ c.if-is_some.true)
    (read_part f (phi_uses f) c.args.phis.now c.phis.phi-index phi found c.phi-item.is c.missed_in_phi-missed.ensures) c.phis.invariant

pub phis-preserved : goal.phis-preserved
phis-preserved c =
    let f = c.args.f.now in
    let phi = c.phi-item.result in
    let found = c.missed_in_phi-missed.result in
    part_later f (phi_uses f) c.args.phis.now c.phis.phi-index phi found c.phis-test.true (sym c.is_some.ensures ∙ c.if-is_some.false)
    (read_part f (phi_uses f) c.args.phis.now c.phis.phi-index phi found c.phi-item.is c.missed_in_phi-missed.ensures) c.phis.invariant

pub returns : goal.returns
returns c =
    let f = c.args.f.now in
    parts_end f (phi_uses f) c.args.phis.now c.phis.phi-index c.phis-test.false c.phis.invariant
