use Rattle.std.proofs.Common.{◌≡◌, ◌≤◌, ◌+◌, ◌-◌, ◌++◌, length}
use Rattle.vfa_ir.specs.Tokens as spec
use Rattle.vfa_lex.proofs.reading.tokens.Given as goal

abbrev pub invariant-loop-token : goal.invariant-loop-token
invariant-loop-token l = record {
  within : l.at ≤ length l.bytes;
  lines : l.line ≤ 1 + l.at;
  same : spec.tokens_of l.bytes ≡ l.all.items ++ spec.tokens_from l.bytes l.at l.line;
}

abbrev pub decreases-loop-token : goal.decreases-loop-token
decreases-loop-token l = length l.bytes - l.at
