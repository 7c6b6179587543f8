use Rattle.std.proofs.Common.{ap, ◌∙◌, ◌++◌, flat_map}
use Rattle.vfa_ir.specs.Defined.{operand_names}
use Rattle.vfa_demand.specs.Behind.{phi_names}
use Rattle.vfa_demand.proofs.Joining.{joined_more}
use Rattle.vfa_demand.proofs.all_names.push_phis.Goals as goal

pub each-preserved : goal.each-preserved
each-preserved c =
    joined_more phi_names c.args.phis.now c.each.phi-index c.phi-item.result _ c.each.names.items c.push_entries.new.names.items c.each-test.true c.phi-item.is c.each.invariant
    (c.in_ok-push_entries.ensures ∙ ap (λ entries. c.each.names.items ++ flat_map (λ e. operand_names e.0) entries) c.as_slice.ensures)
