use Rattle.std.proofs.Common.{◌≡◌, get_or, refl, ap, ◌∙◌}
use Rattle.vfa_check.proofs.Stepping.{renewed}
use Rattle.vfa_check.proofs.narrowing.renew.Goals as goal

pub returns : goal.returns
returns c =
    let block = c.index-as_slice-b.result in
    let is : block ≡ get_or c.args.f.now.blocks c.args.b.0 block =
    c.index-as_slice-b.is ∙ ap (λ xs. get_or xs c.args.b.0 block) c.as_slice.ensures in
    renewed c.args.f.now c.args.b.0 c.args.flow.now _ _ c.index_mut-end.result.now _ _ block c.requires.shape c.requires.block
    c.index.ensures is refl refl refl c.copy_from.ensures.row c.copy_from.ensures.same c.add_results.ensures.row c.add_results.ensures.added
