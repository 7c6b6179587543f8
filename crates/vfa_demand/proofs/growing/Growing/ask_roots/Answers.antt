use Rattle.std.proofs.Common.{length, subst, sym}
use Rattle.vfa_demand.specs.Steps.{IsStep, block_root_asks}
use Rattle.vfa_demand.specs.Usable.{IsUsableBlock}
use Rattle.vfa_demand.proofs.Asking.{step_more}
use Rattle.vfa_demand.proofs.growing.Growing.ask_roots.Goals as goal

pub ask_block_roots-requires-clause-usable : goal.ask_block_roots-requires-clause-usable
ask_block_roots-requires-clause-usable c =
    let f = c.args.f.now in
    let item = c.block-item.result in
    let usable = c.requires.usable c.each.block-index item c.each-test.true in
    subst (λ n. IsUsableBlock f n item) (sym c.each.invariant.same_length)
    (subst (λ b. IsUsableBlock f (length c.args.self.now.bits.items) b) (sym c.block-item.is) usable)

pub each-preserved : goal.each-preserved
each-preserved c =
    step_more (block_root_asks c.args.f.now) c.args.blocks.now c.each.block-index c.block-item.result _ _ _ _ _ _ _ _ _ c.each-test.true c.each.invariant
    (subst (λ b. IsStep (block_root_asks c.args.f.now b) c.each.self.bits.items c.ask_block_roots.new.self.bits.items
    c.each.self.waits.items c.ask_block_roots.new.self.waits.items c.each.self.ahead.items c.ask_block_roots.new.self.ahead.items)
    c.block-item.is c.in_ok-ask_block_roots.ensures)
