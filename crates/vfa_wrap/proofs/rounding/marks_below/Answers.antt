use Rattle.std.proofs.Common.{ltb, ltb-true, ltb-false, arith, rules, suc}
use Rattle.std.specs.List.Sorted.{IsNonDecreasingBy}
use Rattle.std.proofs.lemmas.List.Sorted.{IsPartitionPoint-from_clause, IsPartitionedBy-leb}
use Rattle.vfa_wrap.proofs.rounding.marks_below.Goals as goal

pub returns-clause-below : goal.returns-clause-below
returns-clause-below c k h =
    let sorted : IsNonDecreasingBy suc c.args.marks.now = λ i j d low high. let le = c.requires i j d low high in omega arith in
    let parted = IsPartitionedBy-leb suc _ c.args.x sorted in
    let point = IsPartitionPoint-from_clause (λ m. ltb m c.args.x) _ _ c.partition_point.ensures.partitioned parted (λ a r q k. search rules) in
    ltb-true _ _ (point.0 k 0 (omega arith) h)

pub returns-clause-others : goal.returns-clause-others
returns-clause-others c k low high =
    let sorted : IsNonDecreasingBy suc c.args.marks.now = λ i j d low high. let le = c.requires i j d low high in omega arith in
    let parted = IsPartitionedBy-leb suc _ c.args.x sorted in
    let point = IsPartitionPoint-from_clause (λ m. ltb m c.args.x) _ _ c.partition_point.ensures.partitioned parted (λ a r q k. search rules) in
    ltb-false _ _ (point.1 k 0 low high)
