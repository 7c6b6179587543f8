use Rattle.vfa_cond.specs.Conditions.{AreFacts}
use Rattle.vfa_walk.specs.Analysis.{flow_of}
use Rattle.vfa_walk.proofs.EndingStill.{rounds_stay, still_round_is_table, settles_on_facts}
use Rattle.vfa_walk.proofs.TruthFacts.{types_are_kept}
use Rattle.vfa_walk.proofs.truth.any_still_round_gives_the_table.Goals as goal

pub returns-clause-stays : goal.returns-clause-stays
returns-clause-stays g c f l n later checked printable still order =
    let laws = g.met.V.Values.lawful in
    let v = g.V.Values in
    rounds_stay (flow_of v.answers f l) (λ _. AreFacts v.ty v.proper f) (λ _. AreFacts v.ty v.proper f)
    (types_are_kept v.ty v.proper v.answers laws.typed f printable checked.formed.typed l) (settles_on_facts v.ty v.proper v.answers laws.typed laws.steady f l) n still later order

pub returns-clause-table : goal.returns-clause-table
returns-clause-table g c f l t n checked printable is still =
    let laws = g.met.V.Values.lawful in
    let v = g.V.Values in
    still_round_is_table (flow_of v.answers f l) (λ _. AreFacts v.ty v.proper f) (λ _. AreFacts v.ty v.proper f)
    (types_are_kept v.ty v.proper v.answers laws.typed f printable checked.formed.typed l) (settles_on_facts v.ty v.proper v.answers laws.typed laws.steady f l) t n is still
