use Rattle.std.proofs.Common.{◌≡◌, ◌≤◌, ◌-◌, ℕ, length}
use Rattle.vfa_module.specs.Scan.{tokens_on}
use Rattle.vfa_module.specs.Split as spec
use Rattle.vfa_module.proofs.braces.closing_of_body.Given as goal

abbrev pub invariant-loop-at : goal.invariant-loop-at
invariant-loop-at l = record {
  after : l.fn.from ≤ l.at;
  within : l.at ≤ length l.bytes;
  braces : l.braces ≤ l.at;
  same :
      (start line : ℕ) → start ≤ l.fn.from →
      spec.closing_of_body l.bytes 0 (tokens_on l.bytes start line l.fn.from) ≡
      spec.closing_of_body l.bytes l.braces (tokens_on l.bytes start line l.at);
}

abbrev pub decreases-loop-at : goal.decreases-loop-at
decreases-loop-at l = length l.bytes - l.at
