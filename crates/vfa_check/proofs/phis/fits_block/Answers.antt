use Rattle.std.proofs.Common.{◌∙◌, ◌<◌, arith, sym}
use Rattle.vfa_check.proofs.BlockFits.{nothing_in}
use Rattle.vfa_check.proofs.phis.fits_block.Goals as goal

pub returns-then-place-gt0-clause-fit : goal.returns-then-place-gt0-clause-fit
returns-then-place-gt0-clause-fit c =
    let later : 0 < c.args.place = c.if-place-gt0.true in (
      λ yes. record { phis_fit = c.all_fit.ensures.fit.0 yes; entry = λ z. absurd (omega arith) },
      λ fits. c.all_fit.ensures.fit.1 fits.phis_fit,
    )

pub returns-clause-fit : goal.returns-clause-fit
returns-clause-fit c = (
  λ yes. record { phis_fit = c.all_fit-2.ensures.fit.0 yes; entry = λ z. nothing_in c.args.predecessors.now (sym c.is_empty.ensures ∙ c.if-not-is_empty.false) },
  λ fits. c.all_fit-2.ensures.fit.1 fits.phis_fit,
)
