use Rattle.std.proofs.Common.{refl, arith}
use Rattle.vfa_check.proofs.RowBits.{cut_more}
use Rattle.vfa_check.proofs.name_rows.cut.Goals as goal

pub bits-preserved : goal.bits-preserved
bits-preserved c =
    cut_more c.args.words.now c.args.others.now c.bits.words c.bits.k _ _ c.bits.lost (omega (arith, c.bits.invariant.whole)) c.requires refl
    refl c.bits.invariant
