use Rattle.std.proofs.Common.{◌≡◌, map, take}
use Rattle.std.specs.Option.{option_map}
use Rattle.vfa_cond.specs.States.{known}
use Rattle.vfa_rewrite.specs.Putting.{put_by}
use Rattle.vfa_rewrite.specs.Rewritten.{argument_left}
use Rattle.vfa_rewrite.proofs.putting_calls.put_args.Given as goal

abbrev pub invariant-each : goal.invariant-each
invariant-each l =
    l.all.items ≡ map (argument_left (put_by l.f l.others (option_map (λ s. known s.now) l.state))) (take l.arg-index l.args)
