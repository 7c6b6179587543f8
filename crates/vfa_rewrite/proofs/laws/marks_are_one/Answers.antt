use Rattle.vfa_rewrite.proofs.OneFunction.{leave_the_same}
use Rattle.vfa_rewrite.proofs.laws.marks_are_one.Goals as goal

pub returns : goal.returns
returns c f found m m' printable fitting marks marks' = leave_the_same f printable found fitting m m' marks marks'
