use Rattle.std.proofs.Common.{◌≡◌, map, take}
use Rattle.vfa_mean.specs.Renaming.{at_places, renamed_call}
use Rattle.vfa_mean.proofs.text_order.calls_of.Given as goal

abbrev pub invariant-each : goal.invariant-each
invariant-each l =
    l.all.items ≡ map (renamed_call l.order) (at_places l.calls (take l.place-index l.place-items))
