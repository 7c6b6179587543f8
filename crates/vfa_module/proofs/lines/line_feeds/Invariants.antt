use Rattle.std.proofs.Common.{◌≡◌, ◌≤◌, ◌+◌, drop}
use Rattle.vfa_ir.specs.Tokens as tokens
use Rattle.vfa_module.proofs.lines.line_feeds.Given as goal

abbrev pub invariant-loop-b : goal.invariant-loop-b
invariant-loop-b l = record {
  so_far : l.count + tokens.line_feeds (drop l.b-index l.bytes) ≡ tokens.line_feeds l.bytes;
  bound : l.count ≤ l.b-index;
}
