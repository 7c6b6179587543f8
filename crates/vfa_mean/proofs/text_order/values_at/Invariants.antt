use Rattle.std.proofs.Common.{◌≡◌, take}
use Rattle.vfa_mean.specs.Renaming.{at_places}
use Rattle.vfa_mean.proofs.text_order.values_at.Given as goal

abbrev pub invariant-each : goal.invariant-each
invariant-each l =
    l.all.items ≡ at_places l.values (take l.id-index l.ids)
