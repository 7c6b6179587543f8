use Rattle.std.proofs.Common.{◌≡◌, ◌++◌, map, drop}
use Rattle.vfa_mean.proofs.kept.push_phis.Given as goal

abbrev pub invariant-each : goal.invariant-each
invariant-each l =
    l.initial.ids.items ++ map (λ p. p.result.0) l.phis ≡ l.ids.items ++ map (λ p. p.result.0) (drop l.phi-index l.phis)
