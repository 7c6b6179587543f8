use Rattle.std.proofs.Common.{◌≡◌, ℕ, ◌+◌, ◌-◌, ◌^◌, ap, refl, arith, Some, true}
use Rattle.std.proofs.lemmas.Nat.{pow_pos}
use Rattle.vfa_dom.specs.Best.{Masks}
use Rattle.vfa_known.proofs.Members.{only_masks}
use Rattle.vfa_fact.specs.Cells.{in_option}
use Rattle.vfa_fact.proofs.CellNumbers.{cell_with, only_fact, only_has}
use Rattle.vfa_fact.proofs.cell.Cell.literal.Goals as goal

next : (w most : ℕ) → most ≡ 2 ^ w - 1 → most + 1 ≡ 2 ^ w
next w most top = let some = pow_pos w in omega arith

pub invariant_of-result : goal.invariant_of-result
invariant_of-result c =
    cell_with c.args.width _ true c.requires.width
    (only_fact c.args.width c.most_of.result c.args.bits c.requires.width.least (next c.args.width c.most_of.result c.most_of.ensures) c.requires.fits)

pub returns-clause-cell : goal.returns-clause-cell
returns-clause-cell c = invariant_of-result c

pub returns-clause-value : goal.returns-clause-value
returns-clause-value c =
    let masks = only_masks c.args.width c.most_of.result c.args.bits c.args.bits (next c.args.width c.most_of.result c.most_of.ensures) c.requires.fits refl in
    ap (λ (m : Masks). record { width = c.args.width; numbers = Some (record { zeros = m.zeros; ones = m.ones; first = c.args.bits; last = c.args.bits }); never_poison = true }) masks

pub returns-clause-alone : goal.returns-clause-alone
unfolding in_option
returns-clause-alone c y =
    only_has c.args.width c.most_of.result c.args.bits c.requires.width.least (next c.args.width c.most_of.result c.most_of.ensures) c.requires.fits y
