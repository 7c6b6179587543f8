use Rattle.std.proofs.Common.{◌≡◌, All, length, subst, take_all, true}
use Rattle.std.proofs.lemmas.List.Elements.{All-more}
use Rattle.vfa_ir.specs.declared.operations.BlockId.{BlockId}
use Rattle.vfa_ir.specs.declared.operations.Operand.{Operand}
use Rattle.vfa_demand.specs.Usable.{IsNameBelow}
use Rattle.vfa_demand.proofs.tests.are_entries_usable.Goals as goal

pub each-preserved : goal.each-preserved
each-preserved c =
    let passed : c.is_below.result ≡ true = c.if-not-is_below.false in
    All-more (λ (e : Operand × BlockId). IsNameBelow c.args.count e.0) c.args.entries.now c.each.entry-index _ c.each-test.true c.each.invariant (c.is_below.ensures passed)

pub returns : goal.returns
returns c = λ _. subst (All (λ (e : Operand × BlockId). IsNameBelow c.args.count e.0)) (take_all c.each.entry-index c.args.entries.now c.each-test.false) c.each.invariant
