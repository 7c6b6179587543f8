use Rattle.std.proofs.Common.{◌≡◌, sym, ap, subst, ◌∙◌, Option}
use Rattle.vfa_values.specs.Conditions.{IsOf}
use Rattle.vfa_cond.specs.States.{known}
use Rattle.vfa_walk.specs.Ready.{IsOperandOf}
use Rattle.vfa_walk.specs.Stepping.{fact_of}
use Rattle.vfa_walk.proofs.TruthTypes.{is_operation}
use Rattle.vfa_xfer.specs.AnyFacts.{fact_type, IsAnyFact}
use Rattle.vfa_xfer.specs.Transfers.{fact_answers}
use Rattle.vfa_rules.specs.Order.{changed}
use Rattle.vfa_rules.specs.declared.change.OverflowCall.{OverflowCall}
use Rattle.vfa_rules.specs.Results.{AreFactsFor}
use Rattle.vfa_rules.specs.Uses.{is_used}
use Rattle.vfa_rewrite.specs.declared.asked.Asked.{Asked}
use Rattle.vfa_rewrite.proofs.Asking.{first_asked, second_asked, third_asked, facts_for}
use Rattle.vfa_rewrite.proofs.facts.change_by.Goals as goal

pub fact_of-a-requires-clause-operand : goal.fact_of-a-requires-clause-operand
fact_of-a-requires-clause-operand c =
    let inst = c.args.inst.now in
    subst (λ (x : Asked). IsOperandOf c.args.f.now x.sides x.a) (sym c.operands_asked-asked.ensures)
    (first_asked c.args.f.now c.requires.ready inst.op c.requires.inst.ranges c.requires.inst.operands)

pub fact_of-b-requires-clause-operand : goal.fact_of-b-requires-clause-operand
fact_of-b-requires-clause-operand c =
    let inst = c.args.inst.now in
    subst (λ (x : Asked). IsOperandOf c.args.f.now x.sides x.b) (sym c.operands_asked-asked.ensures)
    (second_asked c.args.f.now c.requires.ready inst.op c.requires.inst.ranges c.requires.inst.operands)

pub fact_of-c-requires-clause-operand : goal.fact_of-c-requires-clause-operand
fact_of-c-requires-clause-operand c =
    let inst = c.args.inst.now in
    subst (λ (x : Asked). IsOperandOf c.args.f.now x.third x.c) (sym c.operands_asked-asked.ensures)
    (third_asked c.args.f.now inst.op c.requires.inst.ranges c.requires.inst.operands)

pub rule_with-requires-clause-operation : goal.rule_with-requires-clause-operation
rule_with-requires-clause-operation c plain =
    is_operation c.args.f.now c.args.inst.now.op plain (record { ranges = c.requires.inst.ranges; operands = c.requires.inst.operands })

pub rule_with-requires-clause-facts : goal.rule_with-requires-clause-facts
rule_with-requires-clause-facts c =
    let inst = c.args.inst.now in
    let asked = c.operands_asked-asked.ensures in
    subst (λ (call : Option OverflowCall). AreFactsFor (record { a = c.fact_of-a.result.parts; b = c.fact_of-b.result.parts; c = c.fact_of-c.result.parts; call = call; used = c.is_result_used-is_used.result }) inst.op)
    (sym (ap (λ (x : Asked). x.call) asked))
    (facts_for c.args.f.now inst.op c.is_result_used-is_used.result c.fact_of-a.result c.fact_of-b.result c.fact_of-c.result
    (subst (λ t. IsOf fact_type IsAnyFact t c.fact_of-a.result) (ap (λ (x : Asked). x.sides) asked) c.fact_of-a.ensures.of_type)
    (subst (λ t. IsOf fact_type IsAnyFact t c.fact_of-b.result) (ap (λ (x : Asked). x.sides) asked) c.fact_of-b.ensures.of_type)
    (subst (λ t. IsOf fact_type IsAnyFact t c.fact_of-c.result) (ap (λ (x : Asked). x.third) asked) c.fact_of-c.ensures.of_type))

pub returns : goal.returns
returns c =
    let f = c.args.f.now in
    let inst = c.args.inst.now in
    let s = known c.args.state.now in
    let asked = c.operands_asked-asked.ensures in
    let a = c.fact_of-a.ensures.fact ∙ ap (λ (x : Asked). fact_of fact_answers s x.sides x.a) asked in
    let b = c.fact_of-b.ensures.fact ∙ ap (λ (x : Asked). fact_of fact_answers s x.sides x.b) asked in
    let third = c.fact_of-c.ensures.fact ∙ ap (λ (x : Asked). fact_of fact_answers s x.third x.c) asked in
    let call = ap (λ (x : Asked). x.call) asked in
    let used : c.is_result_used-is_used.result ≡ is_used f inst.result = c.is_result_used-is_used.ensures f c.requires.used in
    c.rule_with.ensures.exact ∙ (λ i. changed (record { a = (a i).parts; b = (b i).parts; c = (third i).parts; call = call i; used = used i }) inst.op)
