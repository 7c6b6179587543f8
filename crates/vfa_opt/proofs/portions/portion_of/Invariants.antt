use Rattle.std.proofs.Common.{◌≤◌, take}
use Rattle.vfa_opt.specs.Works.{IsPortion}
use Rattle.vfa_opt.proofs.portions.portion_of.Given as goal

abbrev pub invariant-items : goal.invariant-items
invariant-items l = record {
  makes : IsPortion l.writing l.bytes (take l.item-index l.items) l.all;
  few : l.all.carried ≤ l.item-index;
}
