use Rattle.std.proofs.Common.{subst, sym}
use Rattle.vfa_demand.specs.Usable.{AreUsable}
use Rattle.vfa_demand.proofs.UsableParts.{printable_usable}
use Rattle.vfa_demand.proofs.least.masks.Goals as goal

pub least_masks-requires : goal.least_masks-requires
least_masks-requires c =
    subst AreUsable (sym c.function.ensures.same) (printable_usable c.args.f.now (c.fit_is_printable.ensures c.args.f.now c.function.ensures.checked.fit))
