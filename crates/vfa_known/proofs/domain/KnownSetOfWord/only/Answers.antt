use Rattle.std.proofs.Common.{◌∙◌, sym, bit_xor, subst, ◌≡◌, true}
use Rattle.vfa_known.specs.Cube.{in_masks}
use Rattle.vfa_known.proofs.Cubes.{in_masks_from, in_masks_at, ones_in}
use Rattle.vfa_known.proofs.Members.{only_cube, only_member, only_masks}
use Rattle.vfa_known.proofs.domain.KnownSetOfWord.only.Goals as goal

pub invariant_of-result : goal.invariant_of-result
invariant_of-result g c = record {
  width = c.bits-bits.ensures.width;
  cube = only_cube g.row.W c.most.result c.bits-bits.result c.most.ensures c.bits-bits.ensures.bound;
}

pub returns-clause-alone : goal.returns-clause-alone
returns-clause-alone g c y =
    let bits = c.bits-bits.result in
    let cube = only_cube g.row.W c.most.result bits c.most.ensures c.bits-bits.ensures.bound in (
      (λ member. only_member g.row.W c.most.result bits c.most.ensures c.bits-bits.ensures.bound y
          (in_masks_at g.row.W (bit_xor c.most.result bits) bits cube y member) ∙ c.bits-bits.ensures.value),
      (λ same. subst (λ z. in_masks g.row.W (record { zeros = bit_xor c.most.result bits; ones = bits }) z ≡ true)
          (c.bits-bits.ensures.value ∙ sym same)
          (in_masks_from g.row.W (bit_xor c.most.result bits) bits cube bits (ones_in g.row.W (bit_xor c.most.result bits) bits cube))),
    )

pub returns-clause-masks : goal.returns-clause-masks
returns-clause-masks g c =
    only_masks g.row.W c.most.result c.bits-bits.result c.args.x c.most.ensures c.bits-bits.ensures.bound c.bits-bits.ensures.value
