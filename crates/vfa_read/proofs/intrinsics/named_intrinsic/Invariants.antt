use Rattle.std.proofs.Common.{◌≡◌, drop}
use Rattle.vfa_read.specs.Tables.{intrinsic_in}
use Rattle.vfa_read.proofs.intrinsics.named_intrinsic.Given as goal

abbrev pub invariant-each : goal.invariant-each
invariant-each g l = intrinsic_in g.K.Keyword.spelled (drop l.intrinsic-index l.all) l.width l.name ≡ intrinsic_in g.K.Keyword.spelled l.all l.width l.name
