use Rattle.std.proofs.Common.{◌<◌, ◌≤◌, ◌∙◌, arith, eqb, get_or, length, take}
use Rattle.std.proofs.lemmas.List.{get_or_default}
use Rattle.vfa_ir.specs.declared.operations.BlockId.{BlockId}
use Rattle.vfa_check.specs.Predecessors.{times}
use Rattle.vfa_check.proofs.Counting.{count_bound}
use Rattle.vfa_check.proofs.tallies.count.Goals as goal

pub overflow_add-index_mut : goal.overflow_add-index_mut
overflow_add-index_mut c =
    let none : BlockId = record { 0 = 0 } in
    let from = (get_or c.args.predecessors.now c.predecessors.from-index none).0 in
    let inside : from < length c.args.left.now.items = c.requires.within c.predecessors.from-index none c.predecessors-test.true in
    let within : from < length c.predecessors.left.items = omega arith in
    let value = c.index_mut.ensures.value ∙ get_or_default c.predecessors.left.items from c.index_mut.result.now 0 within ∙ c.predecessors.invariant.counted from in
    let passed : c.predecessors.from-index < length c.args.predecessors.now = c.predecessors-test.true in
    let few : times from (take c.predecessors.from-index c.args.predecessors.now) ≤ c.predecessors.from-index =
    count_bound (λ p. eqb p.0 from) c.args.predecessors.now c.predecessors.from-index (omega arith) in
    omega arith
