use Rattle.std.proofs.Common.{◌≡◌, ◌∙◌, ap, sym}
use Rattle.std.proofs.lemmas.Nat.{leading_le}
use Rattle.std.proofs.lemmas.Nat.Bits.{ones_shr}
use Rattle.std.specs.Int.{leading_zeros, w128}
use Rattle.vfa_demand.specs.Rows.{up_to}
use Rattle.vfa_demand.proofs.Nothing.{up_to_none}
use Rattle.vfa_demand.proofs.rows.up_to.Goals as goal

pub returns-then-mask-eq0 : goal.returns-then-mask-eq0
returns-then-mask-eq0 c =
    let none : c.args.mask ≡ 0 = cc in
    sym (ap up_to none ∙ up_to_none)

pub returns : goal.returns
unfolding up_to
returns c = ones_shr 128 (leading_zeros w128 c.args.mask) (leading_le 128 c.args.mask)
