use Rattle.std.proofs.Common.{length}
use Rattle.vfa_cond.proofs.tests.+ascend.Given as goal

abbrev pub decreases-ascend : goal.decreases-ascend
decreases-ascend l = length l.insts.now
