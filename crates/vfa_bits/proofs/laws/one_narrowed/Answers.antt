use Rattle.std.proofs.Common.{subst}
use Rattle.vfa_bits.specs.Narrowed.{IsNarrowed}
use Rattle.vfa_bits.proofs.OneNarrowed.{masks_one, narrowed_one}
use Rattle.vfa_bits.proofs.laws.one_narrowed.Goals as goal

pub returns : goal.returns
returns c f masks others g g' are others_are n n' =
    narrowed_one f masks g g' n (subst (λ m. IsNarrowed f m g') (masks_one f others masks others_are are) n')
