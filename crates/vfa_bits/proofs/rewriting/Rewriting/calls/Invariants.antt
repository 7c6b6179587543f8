use Rattle.std.proofs.Common.{◌≡◌, ◌++◌, drop}
use Rattle.vfa_demand.specs.Masks.{mask_in}
use Rattle.vfa_bits.specs.Choosing.{choices_in}
use Rattle.vfa_bits.specs.Narrowed.{new_calls}
use Rattle.vfa_bits.proofs.rewriting.Rewriting.calls.Given as goal

abbrev pub invariant-each : goal.invariant-each
invariant-each l = record {
  counted : l.place ≡ l.call-index;
  made : l.all.items ++ new_calls l.self.f.now (mask_in l.self.masks.now) (choices_in l.self.reached.now l.self.changed.now) l.place (drop l.call-index l.calls)
      ≡ new_calls l.self.f.now (mask_in l.self.masks.now) (choices_in l.self.reached.now l.self.changed.now) 0 l.calls;
}
