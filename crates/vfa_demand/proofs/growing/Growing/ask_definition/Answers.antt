use Rattle.std.proofs.Common.{◌≡◌, Some, None, List, length, subst, sym}
use Rattle.std.specs.Prelude.{All, slice_get}
use Rattle.vfa_ir.specs.declared.functions.Block.{Block}
use Rattle.vfa_ir.specs.declared.functions.Inst.{Inst}
use Rattle.vfa_ir.specs.declared.functions.Phi.{Phi}
use Rattle.vfa_mean.proofs.KeptLoops.{ok_weaker}
use Rattle.vfa_demand.specs.Masks.{mask_in}
use Rattle.vfa_demand.specs.Usable.{IsUsableBlock, IsUsableInst, IsUsablePhi}
use Rattle.vfa_demand.proofs.Asking.{line_of_block, line_of_none, phi_of_block, phi_of_none}
use Rattle.vfa_demand.proofs.Parts.{all_at, found_at, past_end}
use Rattle.vfa_demand.proofs.growing.Growing.ask_definition.Goals as goal

pub ask_phi_at-requires-clause-usable : goal.ask_phi_at-requires-clause-usable
ask_phi_at-requires-clause-usable c =
    let n = length c.args.self.now.bits.items in
    let found : slice_get c.as_slice.result.now c.in-Phi.block ≡ Some c.in-Some.block.now =
    found_at c.as_slice.result.now c.in-Phi.block c.in-Some.block.now c.in-Some.ensures.lookup.3.0 c.in-Some.ensures.lookup.3.1 in
    let usable : All (IsUsableBlock c.args.f.now n) c.as_slice.result.now =
    subst (λ (bs : List Block). All (IsUsableBlock c.args.f.now n) bs) (sym c.as_slice.ensures) c.requires.usable in
    subst (λ (xs : List Phi). All (IsUsablePhi n) xs) (sym c.as_slice-in-Some.ensures)
    (all_at (IsUsableBlock c.args.f.now n) c.as_slice.result.now c.in-Phi.block c.in-Some.block.now found usable).phis

pub returns-in-Some : goal.returns-in-Some
returns-in-Some c =
    let found : slice_get c.as_slice.result.now c.in-Phi.block ≡ Some c.in-Some.block.now =
    found_at c.as_slice.result.now c.in-Phi.block c.in-Some.block.now c.in-Some.ensures.lookup.3.0 c.in-Some.ensures.lookup.3.1 in
    ok_weaker _ _ c.ask_phi_at.result
    (λ _ step. phi_of_block c.args.f.now (mask_in c.args.self.now.bits.items) c.args.definition c.in-Phi.block c.in-Phi.place c.as_slice.result.now c.in-Some.block.now
    c.as_slice-in-Some.result.now _ _ _ _ _ _ c.in-Phi.is c.as_slice.ensures found c.as_slice-in-Some.ensures step)
    c.ask_phi_at.ensures

pub returns-in-None : goal.returns-in-None
returns-in-None c =
    let none : slice_get c.as_slice.result.now c.in-Phi.block ≡ None = past_end c.as_slice.result.now c.in-Phi.block c.in-None.ensures.lookup.3 in
    phi_of_none c.args.f.now (mask_in c.args.self.now.bits.items) c.args.definition c.in-Phi.block c.in-Phi.place c.as_slice.result.now _ _ _ c.in-Phi.is c.as_slice.ensures none

pub ask_line_at-requires-clause-usable : goal.ask_line_at-requires-clause-usable
ask_line_at-requires-clause-usable c =
    let n = length c.args.self.now.bits.items in
    let found : slice_get c.as_slice-in-Line.result.now c.in-Line.block ≡ Some c.in-Some-get.block.now =
    found_at c.as_slice-in-Line.result.now c.in-Line.block c.in-Some-get.block.now c.in-Some-get.ensures.lookup.3.0 c.in-Some-get.ensures.lookup.3.1 in
    let usable : All (IsUsableBlock c.args.f.now n) c.as_slice-in-Line.result.now =
    subst (λ (bs : List Block). All (IsUsableBlock c.args.f.now n) bs) (sym c.as_slice-in-Line.ensures) c.requires.usable in
    subst (λ (xs : List Inst). All (IsUsableInst c.args.f.now n) xs) (sym c.as_slice-in-Some-get.ensures)
    (all_at (IsUsableBlock c.args.f.now n) c.as_slice-in-Line.result.now c.in-Line.block c.in-Some-get.block.now found usable).instructions

pub returns-in-Some-get : goal.returns-in-Some-get
returns-in-Some-get c =
    let found : slice_get c.as_slice-in-Line.result.now c.in-Line.block ≡ Some c.in-Some-get.block.now =
    found_at c.as_slice-in-Line.result.now c.in-Line.block c.in-Some-get.block.now c.in-Some-get.ensures.lookup.3.0 c.in-Some-get.ensures.lookup.3.1 in
    ok_weaker _ _ c.ask_line_at.result
    (λ _ step. line_of_block c.args.f.now (mask_in c.args.self.now.bits.items) c.args.definition c.in-Line.block c.in-Line.place c.as_slice-in-Line.result.now c.in-Some-get.block.now
    c.as_slice-in-Some-get.result.now _ _ _ _ _ _ c.in-Line.is c.as_slice-in-Line.ensures found c.as_slice-in-Some-get.ensures step)
    c.ask_line_at.ensures

pub returns-in-None-get : goal.returns-in-None-get
returns-in-None-get c =
    let none : slice_get c.as_slice-in-Line.result.now c.in-Line.block ≡ None = past_end c.as_slice-in-Line.result.now c.in-Line.block c.in-None-get.ensures.lookup.3 in
    line_of_none c.args.f.now (mask_in c.args.self.now.bits.items) c.args.definition c.in-Line.block c.in-Line.place c.as_slice-in-Line.result.now _ _ _ c.in-Line.is c.as_slice-in-Line.ensures none
