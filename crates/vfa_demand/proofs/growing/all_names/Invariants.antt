use Rattle.std.proofs.Common.{◌≡◌, ◌<◌, ℕ, true}
use Rattle.vfa_ir.specs.Words.{is_in}
use Rattle.vfa_demand.proofs.growing.all_names.Given as goal

abbrev pub invariant-each : goal.invariant-each
invariant-each l = ((v : ℕ) → v < l.name → is_in v l.names.items ≡ true) × ((v : ℕ) → is_in v l.names.items ≡ true → v < l.name)
