use Rattle.std.proofs.Common.{◌≡◌, Some, None, List, length, subst, sym}
use Rattle.std.specs.Prelude.{All, slice_get}
use Rattle.vfa_ir.specs.declared.operations.BlockId.{BlockId}
use Rattle.vfa_ir.specs.declared.operations.Operand.{Operand}
use Rattle.vfa_mean.proofs.KeptLoops.{ok_weaker}
use Rattle.vfa_demand.specs.Masks.{mask_in, phi_asks}
use Rattle.vfa_demand.specs.Usable.{IsNameBelow, IsUsablePhi}
use Rattle.vfa_demand.proofs.Asking.{no_part, phi_part}
use Rattle.vfa_demand.proofs.Parts.{all_at, found_at, past_end}
use Rattle.vfa_demand.proofs.growing.Growing.ask_phi_at.Goals as goal

pub ask_entries-requires-clause-below : goal.ask_entries-requires-clause-below
ask_entries-requires-clause-below c =
    let n = length c.args.self.now.bits.items in
    let found : slice_get c.args.phis.now c.args.place ≡ Some c.in-Some.phi.now =
    found_at c.args.phis.now c.args.place c.in-Some.phi.now c.in-Some.ensures.lookup.3.0 c.in-Some.ensures.lookup.3.1 in
    subst (λ (xs : List (Operand × BlockId)). All (λ e. IsNameBelow n e.0) xs) (sym c.as_slice.ensures)
    (all_at (IsUsablePhi n) c.args.phis.now c.args.place c.in-Some.phi.now found c.requires.usable)

pub returns-in-Some : goal.returns-in-Some
returns-in-Some c =
    let found : slice_get c.args.phis.now c.args.place ≡ Some c.in-Some.phi.now =
    found_at c.args.phis.now c.args.place c.in-Some.phi.now c.in-Some.ensures.lookup.3.0 c.in-Some.ensures.lookup.3.1 in
    ok_weaker _ _ c.ask_entries.result
    (λ _ step. phi_part c.args.phis.now c.args.place c.in-Some.phi.now c.as_slice.result.now c.mask.result (mask_in c.args.self.now.bits.items) _ _ _ _ _ _
    found c.as_slice.ensures c.mask.ensures step)
    c.ask_entries.ensures

pub returns-in-None : goal.returns-in-None
returns-in-None c =
    let none : slice_get c.args.phis.now c.args.place ≡ None = past_end c.args.phis.now c.args.place c.in-None.ensures.lookup.3 in
    no_part (phi_asks (mask_in c.args.self.now.bits.items)) (slice_get c.args.phis.now c.args.place) _ _ _ none
