use Rattle.std.proofs.Common.{◌≡◌, drop}
use Rattle.vfa_opt.specs.Module.{first_global as first_of}
use Rattle.vfa_opt.proofs.defines.first_global.Given as goal

abbrev pub invariant-tokens : goal.invariant-tokens
invariant-tokens l = first_of (drop l.token-index l.all) ≡ first_of l.all
