use Rattle.std.proofs.Common.{take}
use Rattle.vfa_demand.specs.Behind.{ArePut}
use Rattle.vfa_bits.specs.Users.{user_among}
use Rattle.vfa_bits.proofs.changes.put_users.Given as goal

abbrev pub invariant-each : goal.invariant-each
invariant-each l = ArePut (user_among l.user (take l.name-index l.names)) l.initial.users.items l.users.items
