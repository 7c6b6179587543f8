use Rattle.std.proofs.Common.{◌≡◌, ◌++◌, codes, flat_map, take}
use Rattle.vfa_cond.specs.States.{known}
use Rattle.vfa_report.specs.Writing.{lines_at}
use Rattle.vfa_report.proofs.naming.push_parameters.Given as goal

abbrev pub invariant-params : goal.invariant-params
invariant-params l = l.text.items ≡ l.initial.text.items ++ flat_map (λ p. lines_at l.names (codes "  param ") (known l.state) p.value.0) (take l.param-index l.params)
