use Rattle.std.proofs.Common.{drop, flat_map}
use Rattle.vfa_ir.specs.Defined.{line_count, operand_names, uses_at}
use Rattle.vfa_check.proofs.UsesTold.{Continues}
use Rattle.vfa_check.proofs.uses.missed_in_phi.Given as goal

abbrev pub invariant-entries : goal.invariant-entries
invariant-entries l =
    Continues l.f (flat_map (λ e. uses_at e.1.0 (line_count l.f e.1.0) (operand_names e.0)) l.entry-items)
    (flat_map (λ e. uses_at e.1.0 (line_count l.f e.1.0) (operand_names e.0)) (drop l.entry-index l.entry-items))
