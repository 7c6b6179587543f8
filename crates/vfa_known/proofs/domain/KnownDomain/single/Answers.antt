use Rattle.std.proofs.Common.{Some, None, sym, ◌∙◌, ap}
use Rattle.vfa_known.specs.Known.{masks_of}
use Rattle.vfa_known.proofs.Members.{single_known, single_open, single_tells, whole}
use Rattle.vfa_known.proofs.domain.KnownDomain.single.Goals as goal

pub returns-then-self-most-clause-only : goal.returns-then-self-most-clause-only
returns-then-self-most-clause-only g c = let one = c.args.self.now in
    single_tells g.row.W (masks_of one) (Some c.cut.result)
    (ap Some (c.cut.ensures ∙ whole g.row.W one.ones one.cube.ones_fit)
    ∙ sym (single_known g.row.W c.most.result one.zeros one.ones c.most.ensures one.cube c.if-self-most.true))

pub returns-then-self-most-clause-exact : goal.returns-then-self-most-clause-exact
returns-then-self-most-clause-exact g c = let one = c.args.self.now in
    ap Some (c.cut.ensures ∙ whole g.row.W one.ones one.cube.ones_fit)
    ∙ sym (single_known g.row.W c.most.result one.zeros one.ones c.most.ensures one.cube c.if-self-most.true)

pub returns-else-self-most-clause-only : goal.returns-else-self-most-clause-only
returns-else-self-most-clause-only g c = let one = c.args.self.now in
    single_tells g.row.W (masks_of one) None
    (sym (single_open g.row.W c.most.result one.zeros one.ones c.most.ensures one.cube c.if-self-most.false))

pub returns-else-self-most-clause-exact : goal.returns-else-self-most-clause-exact
returns-else-self-most-clause-exact g c = let one = c.args.self.now in
    sym (single_open g.row.W c.most.result one.zeros one.ones c.most.ensures one.cube c.if-self-most.false)
