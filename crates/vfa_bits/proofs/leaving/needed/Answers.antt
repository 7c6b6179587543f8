use Rattle.std.proofs.Common.{◌∙◌, ap, map}
use Rattle.vfa_ir.specs.declared.functions.Block.{Block}
use Rattle.vfa_ir.specs.declared.functions.Inst.{Inst}
use Rattle.vfa_demand.specs.Rows.{needs_all}
use Rattle.vfa_bits.proofs.Mapped.{mapped_more}
use Rattle.vfa_bits.proofs.leaving.needed.Goals as goal

pub each-preserved : goal.each-preserved
each-preserved c =
    mapped_more (λ (b : Block). map (λ (i : Inst). needs_all i.op) b.insts) c.args.blocks.now c.each.block-index c.block-item.result c.in_ok-needed_lines.field-0 c.each.all.items c.push.new.self.items
    c.each-test.true c.block-item.is c.each.invariant c.in_ok-push.ensures.items
    (c.in_ok-needed_lines.ensures ∙ ap (map (λ (i : Inst). needs_all i.op)) c.as_slice.ensures)
