use Rattle.std.proofs.Common.{lit<, ◌-◌, ◌^◌, ◌∙◌, arith, refl, ap, bit_or}
use Rattle.std.proofs.lemmas.Nat.{pow_below}
use Rattle.vfa_word.specs.Operations.{zero_extended}
use Rattle.vfa_known.proofs.Moves.{moved_masks, moved_cube_is}
use Rattle.vfa_known.proofs.Places.{zext_moves, between}
use Rattle.vfa_fact.proofs.Facts.{fact_cube}
use Rattle.vfa_xfer.specs.Casts.{cast_masks}
use Rattle.vfa_xfer.proofs.casts.zext_known.Goals as goal

pub overflow_sub-above : goal.overflow_sub-above
overflow_sub-above g c = let p = pow_below c.args.from g.row.W c.requires.wider in omega arith

pub known_bits-requires : goal.known_bits-requires
known_bits-requires g c = (
  lit< tt,
  (
    c.requires.to,
    moved_cube_is c.args.from g.row.W zero_extended (λ i. i) (2 ^ g.row.W - 2 ^ c.args.from) c.args.numbers.now.zeros c.args.numbers.now.ones
        (zext_moves c.args.from g.row.W c.requires.from c.requires.to c.requires.wider) (fact_cube c.args.from c.args.numbers.now c.requires.fact) _ _
        (ap (bit_or c.args.numbers.now.zeros) (between c.most.result c.most_of.result c.args.from g.row.W c.most.ensures c.most_of.ensures)) refl,
  ),
)

pub returns : goal.returns
unfolding cast_masks
returns g c = let n = c.args.numbers.now in
    c.known_bits.ensures
    ∙ moved_masks c.args.from g.row.W zero_extended (λ i. i) (2 ^ g.row.W - 2 ^ c.args.from) n.zeros n.ones
    (zext_moves c.args.from g.row.W c.requires.from c.requires.to c.requires.wider) (fact_cube c.args.from n c.requires.fact) _ _
    (ap (bit_or n.zeros) (between c.most.result c.most_of.result c.args.from g.row.W c.most.ensures c.most_of.ensures)) refl
