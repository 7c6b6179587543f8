use Rattle.std.proofs.Common.{[], length, replicate}
use Rattle.vfa_demand.specs.Behind.{ArePut}
use Rattle.vfa_demand.specs.Masks.{mask_in}
use Rattle.vfa_bits.specs.Users.{users_below}
use Rattle.vfa_bits.proofs.changes.Masked.users.Given as goal

abbrev pub invariant-each : goal.invariant-each
invariant-each l = ArePut (users_below l.self.f.now (mask_in l.self.masks.now) l.behind l.number) (replicate (length l.behind) []) l.users.items
