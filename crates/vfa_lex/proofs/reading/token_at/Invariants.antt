use Rattle.std.proofs.Common.{◌≡◌, ◌≤◌, ◌+◌, ◌-◌, length}
use Rattle.vfa_ir.specs.Tokens as spec
use Rattle.vfa_lex.proofs.reading.token_at.Given as goal

abbrev pub invariant-loop-at : goal.invariant-loop-at
invariant-loop-at l = record {
  within : l.at ≤ length l.bytes;
  lines : l.line + l.fn.from ≤ l.fn.line + l.at;
  same : spec.tokens_from l.bytes l.fn.from l.fn.line ≡ spec.tokens_from l.bytes l.at l.line;
}

abbrev pub decreases-loop-at : goal.decreases-loop-at
decreases-loop-at l = length l.bytes - l.at
