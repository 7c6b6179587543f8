use Rattle.std.proofs.Common.{◌≡◌, ◌++◌, drop, false}
use Rattle.std.specs.Prelude.{slice_index_or}
use Rattle.vfa_demand.specs.Needed.{joined_from, names_if, needed_by}
use Rattle.vfa_demand.proofs.used.push_lines.Given as goal

abbrev pub invariant-each : goal.invariant-each
invariant-each l = (l.place ≡ l.inst-index)
    × (l.initial.names.items ++ needed_by l.f (λ i. slice_index_or l.must i false) l.insts
    ≡ l.names.items ++ joined_from (λ i inst. names_if l.f (slice_index_or l.must i false) inst) l.place (drop l.inst-index l.insts))
