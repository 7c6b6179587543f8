use Rattle.vfa_known.proofs.Places.{extended}
use Rattle.std.proofs.Common.{◌∙◌, ap}
use Rattle.std.specs.Int.{w128}
use Rattle.std.proofs.lemmas.Int.{to_z-of_z}
use Rattle.vfa_word.specs.Numbers.{wrap}
use Rattle.vfa_known.proofs.cast.sign_extended.Goals as goal

pub returns : goal.returns
returns g c =
    extended g.row.V g.row.W c.args.bits c.cut.result c.wrapped.result c.bits.result c.requires.fits c.cut.ensures
    (c.wrapped.ensures ∙ ap (wrap g.row.W) (to_z-of_z w128 c.signed.result (record { sfits = c.signed.type_inv }) ∙ c.signed.ensures.value)) c.bits.ensures.value
