use Rattle.std.proofs.Common.{◌≡◌, ◌+◌, ◌++◌, flat_map, filter_map, slice_get, sum_by}
use Rattle.std.specs.Option.{option_or}
use Rattle.vfa_opt.specs.Works.{portion_accepted, portion_carried, portion_first, portion_notes, portion_out}
use Rattle.vfa_opt.proofs.portions.Portion.append_all.Given as goal

abbrev pub invariant-later : goal.invariant-later
invariant-later l = record {
  out : l.self.out.items ≡ l.fn.self.out.items ++ flat_map portion_out l.yielded;
  notes : l.self.notes.items ≡ l.fn.self.notes.items ++ flat_map portion_notes l.yielded;
  accepted : l.self.accepted.items ≡ l.fn.self.accepted.items ++ flat_map portion_accepted l.yielded;
  carried : l.self.carried ≡ l.fn.self.carried + sum_by portion_carried l.yielded;
  to_come : l.self.carried + sum_by portion_carried l.next-iterator.rest.items ≡ l.fn.self.carried + sum_by portion_carried l.fn.later.items;
  first : l.self.first_carried ≡ option_or l.fn.self.first_carried (slice_get (filter_map portion_first l.yielded) 0);
}
