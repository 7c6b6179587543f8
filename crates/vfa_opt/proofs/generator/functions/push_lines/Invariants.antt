use Rattle.std.proofs.Common.{◌≡◌, ◌*◌, ◌++◌}
use Rattle.vfa_opt.specs.Generated.{state_after}
use Rattle.vfa_opt.specs.GeneratedLines.{lines_bytes}
use Rattle.vfa_opt.proofs.generator.functions.push_lines.Given as goal

abbrev pub invariant-lines : goal.invariant-lines
invariant-lines l = record {
  text : l.text.items ≡ l.initial.text.items ++ lines_bytes l.fn.width l.place l.initial.draws.state;
  state : l.draws.state ≡ state_after (4 * l.place) l.initial.draws.state;
}
