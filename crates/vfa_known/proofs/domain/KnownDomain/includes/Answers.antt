use Rattle.std.proofs.lemmas.Bool.{OnTrue_from}
use Rattle.std.proofs.Common.{bit_and, nat_eq, ◌∙◌, sym}
use Rattle.std.specs.Prelude.{IsTrue, ℕ}
use Rattle.vfa_known.specs.Known.{masks_of, in_known}
use Rattle.vfa_known.proofs.Members.{includes_not, includes_exactly, includes_in}
use Rattle.vfa_known.proofs.domain.KnownDomain.includes.Goals as goal

pub returns-then-self-other-clause-exact : goal.returns-then-self-other-clause-exact
returns-then-self-other-clause-exact g c = let one = c.args.self.now in let two = c.args.other.now in
    includes_not g.row.W (masks_of one) (masks_of two) one.cube two.cube c.if-self-other.true

pub returns-clause-yes : goal.returns-clause-yes
returns-clause-yes g c = let one = c.args.self.now in let two = c.args.other.now in
    OnTrue_from (nat_eq (bit_and one.ones two.ones) one.ones)
    ((x : ℕ) → IsTrue (in_known g.row.W two x) → IsTrue (in_known g.row.W one x))
    (λ yes. includes_in g.row.W (masks_of one) (masks_of two) one.cube two.cube
    (sym (includes_exactly g.row.W (masks_of one) (masks_of two) one.cube two.cube c.if-self-other.false) ∙ yes))

pub returns-clause-exact : goal.returns-clause-exact
returns-clause-exact g c = let one = c.args.self.now in let two = c.args.other.now in
    includes_exactly g.row.W (masks_of one) (masks_of two) one.cube two.cube c.if-self-other.false
