use Rattle.std.proofs.Common.{arith}
use Rattle.vfa_ir.specs.Defined.{operand_names}
use Rattle.vfa_report.proofs.FirstUses.{met_more, met_all}
use Rattle.vfa_report.proofs.uses.Uses.arguments.Goals as goal

pub arguments-preserved : goal.arguments-preserved
arguments-preserved c =
    met_more (λ a. operand_names a.value) c.args.arguments.now c.arguments.argument-index c.argument-item.result _ _ _ c.arguments-test.true c.argument-item.is c.arguments.invariant c.in_ok-operand.ensures

pub returns : goal.returns
returns c = met_all (λ a. operand_names a.value) c.args.arguments.now c.arguments.argument-index _ _ (omega arith) c.arguments.invariant
