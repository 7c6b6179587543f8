use Rattle.std.proofs.Common.{◌≡◌, All, List, subst, take_all, true}
use Rattle.std.proofs.lemmas.List.Elements.{All-more}
use Rattle.vfa_ir.specs.declared.operations.BlockId.{BlockId}
use Rattle.vfa_ir.specs.declared.operations.Operand.{Operand}
use Rattle.vfa_demand.specs.Usable.{IsNameBelow, IsUsablePhi}
use Rattle.vfa_demand.proofs.tests.are_phis_usable.Goals as goal

pub each-preserved : goal.each-preserved
each-preserved c =
    let passed : c.are_entries_usable.result ≡ true = c.if-not-are_entries_usable.false in
    let usable : IsUsablePhi c.args.count c.phi-item.result =
    subst (λ (entries : List (Operand × BlockId)). All (λ e. IsNameBelow c.args.count e.0) entries) c.as_slice.ensures (c.are_entries_usable.ensures passed) in
    All-more (IsUsablePhi c.args.count) c.args.phis.now c.each.phi-index _ c.each-test.true c.each.invariant (subst (IsUsablePhi c.args.count) c.phi-item.is usable)

pub returns : goal.returns
returns c = λ _. subst (All (IsUsablePhi c.args.count)) (take_all c.each.phi-index c.args.phis.now c.each-test.false) c.each.invariant
