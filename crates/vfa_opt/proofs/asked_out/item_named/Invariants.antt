use Rattle.std.proofs.Common.{◌≡◌, drop}
use Rattle.vfa_opt.specs.Works.{item_named}
use Rattle.vfa_opt.proofs.asked_out.item_named.Given as goal

abbrev pub invariant-functions : goal.invariant-functions
invariant-functions l = item_named l.name (drop l.function-index l.all) ≡ item_named l.name l.all
