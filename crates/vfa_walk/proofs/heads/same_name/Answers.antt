use Rattle.std.proofs.Common.{sym, ◌∙◌, ap}
use Rattle.vfa_walk.proofs.HeadsKept.{both_same}
use Rattle.vfa_walk.proofs.heads.same_name.Goals as goal

pub returns-then-same_mark : goal.returns-then-same_mark
returns-then-same_mark g c =
    both_same c.same_fact.result c.same_fact.ensures (sym c.live.ensures ∙ (c.if-same_mark.ensures ∙ c.live-2.ensures)) (λ e. ap (λ s. s.fact c.args.v.0) e)

pub returns : goal.returns
returns g c = λ e. c.if-same_mark.ensures (c.live.ensures ∙ (ap (λ s. s.live c.args.v.0) e ∙ sym c.live-2.ensures))
