use Rattle.std.proofs.Common.{◌≡◌, ◌*◌, ◌≤◌}
use Rattle.vfa_opt.specs.Generated.{state_after}
use Rattle.vfa_opt.specs.GeneratedLines.{functions_bytes}
use Rattle.vfa_opt.proofs.generator.generated.Given as goal

abbrev pub invariant-functions : goal.invariant-functions
invariant-functions l = record {
  some : 1 ≤ l.number;
  text : l.text.items ≡ functions_bytes l.seed l.number;
  state : l.draws.state ≡ state_after (165 * l.number) l.seed;
}
