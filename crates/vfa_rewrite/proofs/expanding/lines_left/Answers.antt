use Rattle.std.proofs.Common.{◌∙◌, None, ap, get_or, length}
use Rattle.vfa_mean.specs.Kept.{is_marked}
use Rattle.vfa_rewrite.proofs.Expanded.{used_function}
use Rattle.vfa_rewrite.proofs.expanding.lines_left.Goals as goal

pub returns : goal.returns
returns c = λ found are is.
    let widths = c.as_slice.ensures.value in
    used_function c.args.f.now found (is_marked c.args.reached.now) (is_marked c.args.used.now) c.args.kept.now c.as_slice.result.now (length c.as_slice.result.now)
    _ c.push_added.new.values.items c.use_blocks.new.put.items are (ap length widths ∙ c.in_ok-widths.ensures.count)
    (λ n. ap (λ l. get_or l n None) widths ∙ c.in_ok-widths.ensures.widths found are n) (c.left.view_is ∙ is) c.in_ok-use_blocks.ensures c.in_ok-push_added.ensures
