use Rattle.std.proofs.Common.{arith}
use Rattle.vfa_ir.specs.Defined.{op_names}
use Rattle.vfa_report.proofs.FirstUses.{met_more_at, met_all}
use Rattle.vfa_report.proofs.uses.Uses.operations.Goals as goal

pub insts-preserved : goal.insts-preserved
insts-preserved c =
    met_more_at (λ i. op_names c.args.f.now i.op) c.args.insts.now c.insts.inst-index _ _ _ _ c.insts-test.true c.insts.invariant c.in_ok-operation.ensures

pub returns : goal.returns
returns c = met_all (λ i. op_names c.args.f.now i.op) c.args.insts.now c.insts.inst-index _ _ (omega arith) c.insts.invariant
