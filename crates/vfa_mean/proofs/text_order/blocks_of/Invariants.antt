use Rattle.std.proofs.Common.{◌≡◌, map, take}
use Rattle.vfa_mean.specs.Renaming.{at_places, renamed_block}
use Rattle.vfa_mean.proofs.text_order.blocks_of.Given as goal

abbrev pub invariant-each : goal.invariant-each
invariant-each l =
    l.all.items ≡ map (renamed_block l.order) (at_places l.blocks (take l.number-index l.number-items))
