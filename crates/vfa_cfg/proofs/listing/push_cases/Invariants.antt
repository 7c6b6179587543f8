use Rattle.std.proofs.Common.{◌≡◌, ◌++◌, drop}
use Rattle.vfa_cfg.specs.Edges.{case_edges}
use Rattle.vfa_cfg.proofs.listing.push_cases.Given as goal

abbrev pub invariant-cases : goal.invariant-cases
invariant-cases l = (l.number ≡ l.case-index)
    × (l.initial.all.items ++ case_edges l.from.0 0 l.cases ≡ l.all.items ++ case_edges l.from.0 l.number (drop l.case-index l.cases))
