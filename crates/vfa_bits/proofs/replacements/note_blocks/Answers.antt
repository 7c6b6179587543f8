use Rattle.std.proofs.Common.{◌-◌, ◌∙◌, ap, arith, sym}
use Rattle.vfa_ir.specs.declared.functions.Block.{Block}
use Rattle.vfa_demand.specs.Masks.{mask_in}
use Rattle.vfa_bits.proofs.Noted.{blocks_noted}
use Rattle.vfa_bits.proofs.replacements.note_blocks.Goals as goal

pub loop-number-preserved : goal.loop-number-preserved
loop-number-preserved c =
    let within = c.loop-number.invariant.0 in
    let some = c.loop-number-test.true in (
      omega (arith, within),
      blocks_noted (mask_in c.args.masks.now) c.args.blocks.now (c.loop-number.number - 1) c.loop-number.number c.index-blocks-number.result c.as_slice.result.now _ _ _
          (omega (arith, some)) within c.index-blocks-number.is (c.as_slice.ensures ∙ ap (λ (b : Block). b.insts) (sym c.index-blocks-number.is)) c.loop-number.invariant.1 c.note_lines.ensures,
    )
