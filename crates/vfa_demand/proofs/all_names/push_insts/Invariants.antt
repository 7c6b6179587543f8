use Rattle.std.proofs.Common.{◌≡◌, ◌++◌, drop, flat_map}
use Rattle.vfa_ir.specs.Defined.{op_names}
use Rattle.vfa_demand.proofs.all_names.push_insts.Given as goal

abbrev pub invariant-each : goal.invariant-each
invariant-each l =
    l.initial.names.items ++ flat_map (λ i. op_names l.f i.op) l.insts
    ≡ l.names.items ++ flat_map (λ i. op_names l.f i.op) (drop l.inst-index l.insts)
