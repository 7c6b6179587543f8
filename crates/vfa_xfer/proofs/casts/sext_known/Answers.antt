use Rattle.std.proofs.Common.{lit<, ◌-◌, min, ◌∙◌}
use Rattle.vfa_word.specs.Operations.{sign_extended}
use Rattle.vfa_known.proofs.Moves.{moved_masks, moved_cube_is, or_none}
use Rattle.vfa_known.proofs.Places.{sext_moves}
use Rattle.vfa_fact.proofs.Facts.{fact_cube}
use Rattle.vfa_xfer.specs.Casts.{cast_masks}
use Rattle.vfa_xfer.proofs.casts.sext_known.Goals as goal

pub sign_extended-zeros-requires-clause-fits : goal.sign_extended-zeros-requires-clause-fits
sign_extended-zeros-requires-clause-fits g c = (fact_cube c.args.from c.args.numbers.now c.requires.fact).zeros_fit

pub sign_extended-ones-requires-clause-fits : goal.sign_extended-ones-requires-clause-fits
sign_extended-ones-requires-clause-fits g c = (fact_cube c.args.from c.args.numbers.now c.requires.fact).ones_fit

pub known_bits-requires : goal.known_bits-requires
known_bits-requires g c = (
  lit< tt,
  (
    c.requires.to,
    moved_cube_is c.args.from g.row.W (sign_extended c.args.from g.row.W) (λ i. min i (c.args.from - 1)) 0 c.args.numbers.now.zeros c.args.numbers.now.ones
        (sext_moves c.args.from g.row.W c.requires.from c.requires.to c.requires.wider) (fact_cube c.args.from c.args.numbers.now c.requires.fact) _ _
        (c.sign_extended-zeros.ensures ∙ or_none (sign_extended c.args.from g.row.W c.args.numbers.now.zeros)) c.sign_extended-ones.ensures,
  ),
)

pub returns : goal.returns
unfolding cast_masks
returns g c = let n = c.args.numbers.now in
    c.known_bits.ensures
    ∙ moved_masks c.args.from g.row.W (sign_extended c.args.from g.row.W) (λ i. min i (c.args.from - 1)) 0 n.zeros n.ones
    (sext_moves c.args.from g.row.W c.requires.from c.requires.to c.requires.wider) (fact_cube c.args.from n c.requires.fact) _ _
    (c.sign_extended-zeros.ensures ∙ or_none (sign_extended c.args.from g.row.W n.zeros)) c.sign_extended-ones.ensures
