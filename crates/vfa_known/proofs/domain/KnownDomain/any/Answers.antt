use Rattle.vfa_known.proofs.Cubes.{in_masks_from}
use Rattle.vfa_known.proofs.Members.{any_cube, any_member}
use Rattle.vfa_known.proofs.domain.KnownDomain.any.Goals as goal

pub returns-clause-all : goal.returns-clause-all
returns-clause-all g c x fits = in_masks_from g.row.W 0 0 (any_cube g.row.W) x (any_member g.row.W x fits)
