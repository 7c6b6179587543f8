use Rattle.std.proofs.Common.{◌≡◌, ◌-◌, ◌++◌}
use Rattle.vfa_report.specs.FactLines.{bits_text}
use Rattle.vfa_report.proofs.cells.push_bits.Given as goal

abbrev pub invariant-places : goal.invariant-places
invariant-places l = l.text.items ++ bits_text l.numbers (l.width - l.above) ≡ l.initial.text.items ++ bits_text l.numbers l.width
