use Rattle.std.proofs.Common.{lit<, ◌∙◌}
use Rattle.vfa_word.specs.Operations.{truncated}
use Rattle.vfa_known.proofs.Moves.{moved_masks, moved_cube_is}
use Rattle.vfa_known.proofs.Places.{trunc_moves, kept, kept_bits}
use Rattle.vfa_fact.proofs.Facts.{fact_cube}
use Rattle.vfa_xfer.specs.Casts.{cast_masks}
use Rattle.vfa_xfer.proofs.casts.trunc_known.Goals as goal

pub known_bits-requires : goal.known_bits-requires
known_bits-requires g c = (
  lit< tt,
  (
    c.requires.to,
    moved_cube_is c.args.from g.row.W (truncated g.row.W) (λ i. i) 0 c.args.numbers.now.zeros c.args.numbers.now.ones
        (trunc_moves c.args.from g.row.W c.requires.from c.requires.to c.requires.narrower) (fact_cube c.args.from c.args.numbers.now c.requires.fact) _ _
        (kept_bits c.args.numbers.now.zeros c.most-kept.result g.row.W c.most-kept.ensures) (kept c.args.numbers.now.ones c.most-kept.result g.row.W c.most-kept.ensures),
  ),
)

pub returns : goal.returns
unfolding cast_masks
returns g c = let n = c.args.numbers.now in
    c.known_bits.ensures
    ∙ moved_masks c.args.from g.row.W (truncated g.row.W) (λ i. i) 0 n.zeros n.ones
    (trunc_moves c.args.from g.row.W c.requires.from c.requires.to c.requires.narrower) (fact_cube c.args.from n c.requires.fact) _ _
    (kept_bits n.zeros c.most-kept.result g.row.W c.most-kept.ensures) (kept n.ones c.most-kept.result g.row.W c.most-kept.ensures)
