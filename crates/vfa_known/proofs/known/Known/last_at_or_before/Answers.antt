use Rattle.std.proofs.Common.{sym, ◌∙◌, arith}
use Rattle.vfa_known.specs.Known.{masks_of}
use Rattle.vfa_known.proofs.Members.{turned_fits}
use Rattle.vfa_known.proofs.Turned.{turned_last, turned_none}
use Rattle.vfa_known.proofs.known.Known.last_at_or_before.Goals as goal

pub first_at_or_after-requires : goal.first_at_or_after-requires
first_at_or_after-requires g c = (omega arith, turned_fits g.row.W c.most-most.result c.args.x c.most-most.ensures c.requires)

pub returns-in_err-turned : goal.returns-in_err-turned
returns-in_err-turned g c = let one = c.args.self.now in let two = c.complement.result in
    c.from_residual.ensures
    ∙ sym (turned_none g.row.W c.most-most.result (masks_of one) (masks_of two) c.args.x c.most-most.ensures one.cube two.cube c.requires
    c.complement.ensures (sym c.first_at_or_after.ensures ∙ c.in_err-turned.was))

pub returns : goal.returns
returns g c = let one = c.args.self.now in let two = c.complement.result in
    sym (turned_last g.row.W c.most-most.result (masks_of one) (masks_of two) c.args.x c.most-most.ensures one.cube two.cube c.requires
    c.complement.ensures c.in_ok-turned.turned (sym c.first_at_or_after.ensures ∙ c.in_ok-turned.was))
