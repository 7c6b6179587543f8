use Rattle.std.proofs.Common.{nat_lt, length, rules}
use Rattle.std.proofs.lemmas.List.Sorted.{IsPartitionPoint-from_clause}
use Rattle.vfa_cond.specs.States.{Ascends}
use Rattle.vfa_cond.proofs.Entries.{place_is, fact_at}
use Rattle.vfa_cond.proofs.state.State.place_of.Goals as goal

pub returns-clause-place : goal.returns-clause-place
returns-clause-place g c =
    let sorted : Ascends 0 (length c.self.inside.live.items) c.deref.result.now = rw c.deref.ensures.value c.self.invariant in
    rw (← c.self.view_is, ← c.deref.ensures.value)
    (place_is c.deref.result.now 0 (length c.self.inside.live.items) c.args.v.0 c.partition_point.result sorted c.partition_point.ensures.bound
    (λ parted. IsPartitionPoint-from_clause (λ e. nat_lt e.name.0 c.args.v.0) _ _ c.partition_point.ensures.partitioned parted (λ a r q k. search rules)))

pub returns-clause-found : goal.returns-clause-found
returns-clause-found g c = rw (returns-clause-place g c, ← c.self.view_is) (fact_at _ 0 _ _ c.self.invariant)
