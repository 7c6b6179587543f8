use Rattle.std.proofs.Common.{leb, leb-true, leb-false, arith, rules, ℕ}
use Rattle.std.proofs.lemmas.List.Sorted.{IsPartitionPoint-from_clause, IsPartitionedBy-leb}
use Rattle.vfa_wrap.proofs.rounding.marks_up_to.Goals as goal

pub returns-clause-up_to : goal.returns-clause-up_to
returns-clause-up_to c k h =
    let parted = IsPartitionedBy-leb (λ (m : ℕ). m) _ c.args.x c.requires in
    let point = IsPartitionPoint-from_clause (λ m. leb m c.args.x) _ _ c.partition_point.ensures.partitioned parted (λ a r q k. search rules) in
    leb-true _ _ (point.0 k 0 (omega arith) h)

pub returns-clause-others : goal.returns-clause-others
returns-clause-others c k low high =
    let parted = IsPartitionedBy-leb (λ (m : ℕ). m) _ c.args.x c.requires in
    let point = IsPartitionPoint-from_clause (λ m. leb m c.args.x) _ _ c.partition_point.ensures.partitioned parted (λ a r q k. search rules) in
    leb-false _ _ (point.1 k 0 low high)
