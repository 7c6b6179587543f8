use Rattle.std.proofs.Common.{◌-ℤ◌, to_z, of_z, ◌≡◌}
use Rattle.std.specs.Int.{w128}
use Rattle.std.proofs.lemmas.Int.{to_z-of_z}
use Rattle.vfa_word.proofs.Readings.{beyond_range}
use Rattle.vfa_mean.proofs.arithmetic.difference_leaves_signed.Goals as goal

pub returns-in-None : goal.returns-in-None
returns-in-None c =
    let p = to_z-of_z w128 c.args.x c.ranges.x in
    let q = to_z-of_z w128 c.args.y c.ranges.y in
    let e : to_z w128 (of_z w128 c.args.x) -ℤ to_z w128 (of_z w128 c.args.y) ≡ c.args.x -ℤ c.args.y = cc in
    beyond_range c.args.width (c.args.x -ℤ c.args.y) (to_z w128 (of_z w128 c.args.x) -ℤ to_z w128 (of_z w128 c.args.y))
    c.requires.most e c.in-None.ensures
