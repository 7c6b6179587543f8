use Rattle.std.proofs.Common.{take}
use Rattle.std.specs.List.{AllZip}
use Rattle.vfa_par.proofs.pieces.piece_results.Given as goal

abbrev pub invariant-inputs : goal.invariant-inputs
invariant-inputs g l = AllZip (g.K.Work.is_result l.work) (take l.input-index l.inputs) l.all.items
