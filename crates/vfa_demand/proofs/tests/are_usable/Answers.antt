use Rattle.std.proofs.Common.{◌≡◌, All, length, subst, take_all, true}
use Rattle.std.proofs.lemmas.List.Elements.{All-more}
use Rattle.vfa_ir.specs.declared.functions.Inst.{Inst}
use Rattle.vfa_demand.specs.Usable.{IsUsableInst}
use Rattle.vfa_demand.proofs.tests.are_usable.Goals as goal

pub each-preserved : goal.each-preserved
each-preserved c =
    let f = c.args.f.now in
    let passed : c.is_usable.result ≡ true = c.if-not-is_usable.false in
    All-more (λ (i : Inst). IsUsableInst f (length f.values) i) c.args.insts.now c.each.inst-index _ c.each-test.true c.each.invariant (c.is_usable.ensures passed)

pub returns : goal.returns
returns c = λ _.
    let f = c.args.f.now in
    subst (All (λ (i : Inst). IsUsableInst f (length f.values) i)) (take_all c.each.inst-index c.args.insts.now c.each-test.false) c.each.invariant
