use Rattle.std.proofs.Common.{◌≡◌, ◌++◌, drop}
use Rattle.vfa_demand.specs.Needed.{joined_from, needed_in, needed_names}
use Rattle.vfa_demand.specs.Used.{must_in}
use Rattle.vfa_demand.proofs.used.needed.Given as goal

abbrev pub invariant-each : goal.invariant-each
invariant-each l = (l.number ≡ l.block-index)
    × (needed_names l.f (must_in l.must)
    ≡ l.names.items ++ joined_from (λ b block. needed_in l.f (must_in l.must b) block) l.number (drop l.block-index l.f.blocks))
