use Rattle.std.proofs.Common.{◌+◌, ◌∷◌, [], drop, subst}
use Rattle.vfa_read.specs.Resolving.{Left}
use Rattle.vfa_read.proofs.Definitions.{left_then, left_repeated, room_for, err_is, phi_names, next_phi}
use Rattle.vfa_read.proofs.resolution.table.SymbolTable.define_phis.Goals as goal

pub define_phi-requires : goal.define_phi-requires
define_phi-requires c =
    let xs = c.args.phis.now in
    let i = c.each.phi-index in
    let x = c.phi-item.result in
    let left = subst (Left c.args.self.now (phi_names xs) c.each.self) (next_phi xs i x c.each-test.true c.phi-item.is) c.each.invariant in
    room_for c.args.self.now (phi_names xs) c.each.self (phi_names (x ∷ [])) (phi_names (drop (i + 1) xs)) 4096 left c.requires

pub each-preserved : goal.each-preserved
each-preserved c =
    let xs = c.args.phis.now in
    let i = c.each.phi-index in
    let x = c.phi-item.result in
    let left = subst (Left c.args.self.now (phi_names xs) c.each.self) (next_phi xs i x c.each-test.true c.phi-item.is) c.each.invariant in
    left_then c.args.self.now (phi_names xs) c.each.self c.define_phi.new.self (phi_names (x ∷ [])) (phi_names (drop (i + 1) xs)) left c.in_ok-define_phi.ensures.ok

pub returns-in_err-define_phi-clause-err : goal.returns-in_err-define_phi-clause-err
returns-in_err-define_phi-clause-err c =
    let xs = c.args.phis.now in
    let i = c.each.phi-index in
    let x = c.phi-item.result in
    let left = subst (Left c.args.self.now (phi_names xs) c.each.self) (next_phi xs i x c.each-test.true c.phi-item.is) c.each.invariant in
    err_is _ _ _ c.from_residual.ensures.1 (left_repeated c.args.self.now (phi_names xs) c.each.self (phi_names (x ∷ [])) (phi_names (drop (i + 1) xs)) c.in_err-define_phi.field-0.0 left c.in_err-define_phi.ensures.err)
