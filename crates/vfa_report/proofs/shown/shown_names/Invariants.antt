use Rattle.std.proofs.Common.{◌≡◌, ◌≤◌, drop}
use Rattle.vfa_print.specs.Numbered.{named_from}
use Rattle.vfa_report.proofs.shown.shown_names.Given as goal

abbrev pub invariant-all : goal.invariant-all
invariant-all l =
    (named_from l.f 0 l.initial.names l.local-items ≡ named_from l.f l.number l.names (drop l.local-index l.local-items))
    × (l.number ≤ l.local-index)
