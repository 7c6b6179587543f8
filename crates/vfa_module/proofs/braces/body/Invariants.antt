use Rattle.std.proofs.Common.{◌≡◌, ◌≤◌, ◌-◌, ℕ, length}
use Rattle.vfa_module.specs.Scan.{tokens_on}
use Rattle.vfa_module.specs.Split as spec
use Rattle.vfa_module.proofs.braces.body.Given as goal

abbrev pub invariant-loop-at : goal.invariant-loop-at
invariant-loop-at l = record {
  after : l.fn.start ≤ l.at;
  within : l.at ≤ length l.bytes;
  parens : l.parens ≤ l.at;
  same :
      (line : ℕ) →
      spec.closing_brace l.bytes l.fn.start line ≡
      spec.closing_of_define l.bytes l.named l.parens (tokens_on l.bytes l.fn.start line l.at);
}

abbrev pub decreases-loop-at : goal.decreases-loop-at
decreases-loop-at l = length l.bytes - l.at
