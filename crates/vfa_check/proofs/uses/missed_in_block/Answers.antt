use Rattle.std.proofs.Common.{◌≡◌, false, All, flat_map, subst, sym, ◌∙◌}
use Rattle.std.specs.Option.{is_some}
use Rattle.vfa_ir.specs.Defined.{UseIsDefined, phi_uses}
use Rattle.vfa_check.proofs.UsesTold.{after_phis, no_phi}
use Rattle.vfa_check.proofs.uses.missed_in_block.Goals as goal

pub returns : goal.returns
returns c =
    let f = c.args.f.now in
    let block = c.args.block.now in
    let missed = c.missed_in_phis-missed.result in
    let none : is_some missed ≡ false = sym c.is_some.ensures ∙ c.if-is_some.false in
    let phis : All (UseIsDefined f) (flat_map (phi_uses f) block.phis) =
    subst (λ ps. All (UseIsDefined f) (flat_map (phi_uses f) ps)) c.as_slice.ensures
    (no_phi f (flat_map (phi_uses f) c.as_slice.result.now) missed none c.missed_in_phis-missed.ensures) in
    after_phis f c.args.b.0 block c.missed_in_lines.result phis c.missed_in_lines.ensures
