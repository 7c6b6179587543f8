use Rattle.std.proofs.Common.{List, flat_map, subst}
use Rattle.vfa_ir.specs.declared.functions.Inst.{Inst}
use Rattle.vfa_mean.proofs.KeptLoops.{ok_weaker}
use Rattle.vfa_demand.specs.Masks.{seen_in, whole_asks}
use Rattle.vfa_demand.specs.Steps.{IsStep, root_asks}
use Rattle.vfa_demand.proofs.Asking.{step_then}
use Rattle.vfa_demand.proofs.growing.Growing.ask_block_roots.Goals as goal

pub returns : goal.returns
returns c =
    let f = c.args.f.now in
    let block = c.args.block.now in
    ok_weaker _ _ c.ask_terminator.result
    (λ _ end. step_then (flat_map (root_asks f) block.insts) (whole_asks (seen_in block.term)) _ _ _ _ _ _ _ _ _
    (subst (λ (xs : List Inst). IsStep (flat_map (root_asks f) xs) c.args.self.now.bits.items c.ask_line_roots.new.self.bits.items
    c.args.self.now.waits.items c.ask_line_roots.new.self.waits.items c.args.self.now.ahead.items c.ask_line_roots.new.self.ahead.items)
    c.as_slice.ensures c.in_ok-ask_line_roots.ensures) end)
    c.ask_terminator.ensures
