use Rattle.std.proofs.Common.{◌∙◌, ap, false, nat_eq, bit_and}
use Rattle.vfa_known.specs.Known.{masks_of}
use Rattle.vfa_known.specs.Cube.{in_masks}
use Rattle.vfa_known.proofs.Members.{has_not, has_exactly, same_test}
use Rattle.vfa_known.proofs.domain.KnownSetOfWord.has.Goals as goal

pub returns-then-bits-self-ne0-clause-exact : goal.returns-then-bits-self-ne0-clause-exact
returns-then-bits-self-ne0-clause-exact g c = let one = c.args.self.now in
    has_not g.row.W one.zeros one.ones one.cube c.bits-bits.result c.if-bits-self-ne0.true
    ∙ ap (in_masks g.row.W (masks_of one)) c.bits-bits.ensures.value

pub returns-clause-exact : goal.returns-clause-exact
returns-clause-exact g c = let one = c.args.self.now in
    has_exactly g.row.W one.zeros one.ones one.cube c.bits-bits.result c.bits-bits.ensures.bound c.if-bits-self-ne0.false
    ∙ ap (in_masks g.row.W (masks_of one)) c.bits-bits.ensures.value

pub returns-then-bits-self-ne0-clause-member : goal.returns-then-bits-self-ne0-clause-member
returns-then-bits-self-ne0-clause-member g c = let one = c.args.self.now in
    same_test false (in_masks g.row.W (masks_of one) c.args.x)
    (has_not g.row.W one.zeros one.ones one.cube c.bits-bits.result c.if-bits-self-ne0.true
    ∙ ap (in_masks g.row.W (masks_of one)) c.bits-bits.ensures.value)

pub returns-clause-member : goal.returns-clause-member
returns-clause-member g c = let one = c.args.self.now in
    same_test (nat_eq (bit_and c.bits-bits.result one.ones) one.ones) (in_masks g.row.W (masks_of one) c.args.x)
    (has_exactly g.row.W one.zeros one.ones one.cube c.bits-bits.result c.bits-bits.ensures.bound c.if-bits-self-ne0.false
    ∙ ap (in_masks g.row.W (masks_of one)) c.bits-bits.ensures.value)
