use Rattle.std.proofs.Common.{◌≡◌, ◌<◌, ◌∙◌, ap, arith, length, subst, sym}
use Rattle.std.proofs.lemmas.List.{length-replicate}
use Rattle.std.specs.Prelude.{All, List}
use Rattle.vfa_ir.specs.declared.functions.Block.{Block}
use Rattle.vfa_demand.specs.Usable.{IsUsableBlock}
use Rattle.vfa_demand.proofs.Searched.{at_start, found, here_is, taken_name, within_names}
use Rattle.vfa_demand.proofs.Searching.{none_left}
use Rattle.vfa_demand.proofs.least.least_masks.Goals as goal

pub ask_roots-requires-clause-usable : goal.ask_roots-requires-clause-usable
ask_roots-requires-clause-usable c =
    let count : length c.in_ok-growing.growing.bits.items ≡ length c.args.f.now.values =
    ap length c.in_ok-growing.ensures.bits ∙ length-replicate _ 0 ∙ ap length c.as_slice.ensures in
    subst (λ (bs : List Block). All (IsUsableBlock c.args.f.now (length c.in_ok-growing.growing.bits.items)) bs) (sym c.as_slice-2.ensures)
    (subst (λ n. All (IsUsableBlock c.args.f.now n) c.args.f.now.blocks) (sym count) c.requires)

pub names-init : goal.names-init
names-init c =
    at_start c.args.f.now (length c.as_slice.result.now) c.as_slice-2.result.now _ _ _ _ _ _ (ap length c.as_slice.ensures) c.as_slice-2.ensures
    c.in_ok-growing.ensures.bits c.in_ok-growing.ensures.waits c.in_ok-growing.ensures.all c.in_ok-growing.ensures.within c.in_ok-ask_roots.ensures

pub index_mut-requires : goal.index_mut-requires
index_mut-requires c =
    let below = within_names c.args.f.now _ _ _ _ c.pop.new.self.items c.in-Some.name c.in-Some.ensures.items c.names.invariant in
    omega (arith, below, c.names.invariant.same_names, c.names.growing.waits.ok.0)

pub index-requires : goal.index-requires
index-requires c =
    let below = within_names c.args.f.now _ _ _ _ c.pop.new.self.items c.in-Some.name c.in-Some.ensures.items c.names.invariant in
    omega (arith, below, c.in_ok-definitions.ensures.whole, c.in_ok-definitions.definitions.ok.0)

pub ask_definitions-requires-clause-searched : goal.ask_definitions-requires-clause-searched
ask_definitions-requires-clause-searched c =
    let all = c.in_ok-definitions.definitions.items in
    let below = within_names c.args.f.now _ _ _ _ c.pop.new.self.items c.in-Some.name c.in-Some.ensures.items c.names.invariant in
    let inside : c.in-Some.name < length all = subst (λ n. c.in-Some.name < n) (sym c.in_ok-definitions.ensures.whole) below in
    taken_name c.args.f.now all _ _ _ c.pop.new.self.items c.in-Some.name c.as_slice-in-Some.result.now c.in-Some.ensures.items c.in_ok-definitions.ensures
    (here_is all c.in-Some.name c.index.result.now c.as_slice-in-Some.result.now inside c.index.ensures c.as_slice-in-Some.ensures)
    c.names.invariant

pub returns-clause-masks : goal.returns-clause-masks
returns-clause-masks c =
    let ahead = c.names.growing.ahead in
    let none : length ahead.items ≡ 0 = omega (arith, ahead.ok.0, c.in_default.ensures.cases.0) in
    found c.args.f.now _ _ ahead.items (none_left ahead.items none) c.names.invariant
