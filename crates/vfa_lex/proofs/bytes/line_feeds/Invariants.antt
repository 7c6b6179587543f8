use Rattle.std.proofs.Common.{◌≡◌, ◌≤◌, ◌+◌, drop}
use Rattle.vfa_ir.specs.Tokens as spec
use Rattle.vfa_lex.proofs.bytes.line_feeds.Given as goal

abbrev pub invariant-loop-b : goal.invariant-loop-b
invariant-loop-b l = record {
  so_far : l.count + spec.line_feeds (drop l.b-index l.bytes) ≡ spec.line_feeds l.bytes;
  bound : l.count ≤ l.b-index;
}
