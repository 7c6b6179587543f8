use Rattle.std.proofs.Common.{◌<◌, ◌∙◌, ℕ, All, arith, get_or, length, length-set, subst}
use Rattle.std.proofs.lemmas.List.{take_all}
use Rattle.vfa_check.specs.Predecessors.{HasSource}
use Rattle.vfa_check.proofs.Counting.{no_entry}
use Rattle.vfa_check.proofs.Sources.{written_next}
use Rattle.vfa_check.proofs.tallies.write.Goals as goal

pub entries-preserved : goal.entries-preserved
entries-preserved c =
    let from : ℕ = (get_or c.args.entries.now c.entries.entry-index no_entry).1.0 in
    let inside : from < length c.args.operands.now.items = c.requires.within c.entries.entry-index no_entry c.entries-test.true in
    let within : from < length c.entries.operands.items = omega arith in
    record {
      each = length-set c.entries.operands.items from _ ∙ c.entries.invariant.each;
      written = written_next c.args.entries.now c.entries.operands.items c.entries.entry-index no_entry c.entries-test.true within c.entries.invariant.written;
    }

pub returns-clause-written : goal.returns-clause-written
returns-clause-written c =
    subst (λ front. All (HasSource front c.entries.operands.items) front) (take_all c.entries.entry-index c.args.entries.now c.entries-test.false) c.entries.invariant.written
