use Rattle.std.proofs.Common.{◌≡◌, ◌++◌, map, drop}
use Rattle.vfa_mean.proofs.kept.push_params.Given as goal

abbrev pub invariant-each : goal.invariant-each
invariant-each l =
    l.initial.ids.items ++ map (λ p. p.value.0) l.params ≡ l.ids.items ++ map (λ p. p.value.0) (drop l.param-index l.params)
