use Rattle.std.proofs.Common.{◌≡◌, ◌++◌, drop, flat_map}
use Rattle.vfa_walk.specs.Kept.{kept_entries}
use Rattle.vfa_report.specs.Report.{line_text, lines_from}
use Rattle.vfa_report.proofs.reporting.push_blocks.Given as goal

abbrev pub invariant-all : goal.invariant-all
invariant-all l =
    (l.text.items ++ flat_map (line_text l.f) (lines_from l.f (kept_entries l.table) l.b (drop l.block-index l.blocks))
    ≡ l.initial.text.items ++ flat_map (line_text l.f) (lines_from l.f (kept_entries l.table) 0 l.blocks))
    × (l.b ≡ l.block-index)
