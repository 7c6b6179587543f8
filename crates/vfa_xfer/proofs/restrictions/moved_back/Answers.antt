use Rattle.std.proofs.Common.{◌∙◌, ap, pos, ◌-ℤ◌}
use Rattle.vfa_wrap.specs.Wrapped.{span_of}
use Rattle.vfa_word.specs.Numbers.{wrap}
use Rattle.vfa_xfer.proofs.Wanted.{moved_back_in}
use Rattle.vfa_xfer.proofs.restrictions.moved_back.Goals as goal

pub returns : goal.returns
returns g c =
    moved_back_in g.row.W c.args.c c.cut-back.result c.sub.result c.sub-2.result (span_of c.args.arc.now) (span_of c.new.result) c.args.arc.now.arc
    c.requires c.cut-back.ensures (c.sub.ensures ∙ ap (λ n. wrap g.row.W (pos n -ℤ pos c.cut-back.result)) c.first.ensures)
    (c.sub-2.ensures ∙ ap (λ n. wrap g.row.W (pos n -ℤ pos c.cut-back.result)) c.last.ensures) c.new.ensures
