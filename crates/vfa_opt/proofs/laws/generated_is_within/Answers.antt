use Rattle.std.proofs.Common.{◌≤◌, ◌^◌, length, subst}
use Rattle.vfa_opt.proofs.GeneratedLimit.{within_limit}
use Rattle.vfa_opt.proofs.GeneratedPrinted.{generated_is}
use Rattle.vfa_opt.proofs.laws.generated_is_within.Goals as goal

pub returns : goal.returns
returns c seed = subst (λ text. length text ≤ 2 ^ 24) (generated_is seed) (within_limit seed)
