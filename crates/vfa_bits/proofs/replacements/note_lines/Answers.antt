use Rattle.std.proofs.Common.{◌-◌, arith}
use Rattle.vfa_demand.specs.Masks.{mask_in}
use Rattle.vfa_bits.proofs.Noted.{lines_noted}
use Rattle.vfa_bits.proofs.replacements.note_lines.Goals as goal

pub loop-place-preserved : goal.loop-place-preserved
loop-place-preserved c =
    let within = c.loop-place.invariant.0 in
    let some = c.loop-place-test.true in (
      omega (arith, within),
      lines_noted (mask_in c.args.masks.now) c.args.insts.now (c.loop-place.place - 1) c.loop-place.place _ _ _ _ (omega (arith, some)) within c.loop-place.invariant.1 c.note.ensures,
    )
