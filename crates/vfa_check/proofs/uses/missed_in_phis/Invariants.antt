use Rattle.std.proofs.Common.{drop, flat_map}
use Rattle.vfa_ir.specs.Defined.{phi_uses}
use Rattle.vfa_check.proofs.UsesTold.{Continues}
use Rattle.vfa_check.proofs.uses.missed_in_phis.Given as goal

abbrev pub invariant-phis : goal.invariant-phis
invariant-phis l = Continues l.f (flat_map (phi_uses l.f) l.phis) (flat_map (phi_uses l.f) (drop l.phi-index l.phis))
