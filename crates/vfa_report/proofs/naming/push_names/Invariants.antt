use Rattle.std.proofs.Common.{◌≡◌, ◌++◌, codes, flat_map, take}
use Rattle.vfa_cond.specs.States.{known}
use Rattle.vfa_report.specs.Writing.{lines_at}
use Rattle.vfa_report.proofs.naming.push_names.Given as goal

abbrev pub invariant-used : goal.invariant-used
invariant-used l = l.text.items ≡ l.initial.text.items ++ flat_map (λ v. lines_at l.names (codes "    in ") (known l.state) v.0) (take l.v-index l.used)
