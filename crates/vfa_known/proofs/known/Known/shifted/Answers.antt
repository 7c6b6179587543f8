use Rattle.std.proofs.Common.{◌≡◌, bit_or}
use Rattle.vfa_known.specs.Shift.{shift_of, zeros_from_outside}
use Rattle.vfa_known.proofs.Moves.{moved_masks, moved_cube_is}
use Rattle.vfa_known.proofs.Places.{shift_moves, place_of}
use Rattle.vfa_known.proofs.known.Known.shifted.Goals as goal

pub invariant_of-result : goal.invariant_of-result
invariant_of-result g c = let m = c.args.self.now in record {
  width = m.width;
  cube = moved_cube_is g.row.W g.row.W (λ x. shift_of c.args.shift g.row.W x c.args.amount) (place_of c.args.shift g.row.W c.args.amount)
      (zeros_from_outside c.args.shift g.row.W c.args.amount) m.zeros m.ones
      (shift_moves c.args.shift g.row.W c.args.amount m.width c.requires) m.cube _ _ (cc) c.shifted_bits-2.ensures;
}

pub returns : goal.returns
returns g c = let m = c.args.self.now in
    let e : bit_or c.shifted_bits.result c.zeros_from_outside.result
    ≡ bit_or (shift_of c.args.shift g.row.W m.zeros c.args.amount) (zeros_from_outside c.args.shift g.row.W c.args.amount) = cc in
    moved_masks g.row.W g.row.W (λ x. shift_of c.args.shift g.row.W x c.args.amount) (place_of c.args.shift g.row.W c.args.amount)
    (zeros_from_outside c.args.shift g.row.W c.args.amount) m.zeros m.ones
    (shift_moves c.args.shift g.row.W c.args.amount m.width c.requires) m.cube _ _ e c.shifted_bits-2.ensures
