use Rattle.std.specs.Option.{option_map}
use Rattle.vfa_cond.specs.States.{known}
use Rattle.vfa_rewrite.specs.Putting.{ArePutFrom, put_by}
use Rattle.vfa_rewrite.proofs.putting_phis.put_from.Given as goal

abbrev pub invariant-each : goal.invariant-each
invariant-each l = ArePutFrom l.from.0 (put_by l.f l.others (option_map (λ s. known s.now) l.state)) l.entries l.initial.all.items l.j l.all.items
