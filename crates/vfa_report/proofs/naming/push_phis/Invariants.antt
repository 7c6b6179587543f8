use Rattle.std.proofs.Common.{◌≡◌, ◌++◌, codes, flat_map, take}
use Rattle.vfa_cond.specs.States.{known}
use Rattle.vfa_report.specs.Writing.{lines_at}
use Rattle.vfa_report.proofs.naming.push_phis.Given as goal

abbrev pub invariant-phis : goal.invariant-phis
invariant-phis l = l.text.items ≡ l.initial.text.items ++ flat_map (λ p. lines_at l.names (codes "    def ") (known l.state) p.result.0) (take l.phi-index l.phis)
