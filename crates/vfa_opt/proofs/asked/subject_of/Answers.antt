use Rattle.std.proofs.Common.{◌≡◌, ◌∙◌, ◌⊎◌, ap}
use Rattle.vfa_opt.specs.declared.refusals.Refused.TheVariants.{Memory}
use Rattle.vfa_opt.specs.Asked.{IsQuestionRefusal, place_in}
use Rattle.vfa_opt.proofs.AskedModules.{handed_on, place_refused}
use Rattle.vfa_opt.proofs.Subjects.{few_values, value_there}
use Rattle.vfa_opt.proofs.asked.subject_of.Goals as goal

pub value_of-requires : goal.value_of-requires
value_of-requires c = few_values c.args.f.now c.in_ok-names.names (c.in_ok-names.ensures c.requires.printable) c.requires.small

pub returns-in_err-place-clause-refused : goal.returns-in_err-place-clause-refused
returns-in_err-place-clause-refused c =
    let f = c.args.f.now in
    let q = c.args.question.now in
    let names = c.in_ok-names.names in
    let e = c.in_err-place.field-0.0 in
    let value = value_there f q names (c.in_ok-names.ensures c.requires.printable) c.in-Some.value
    (c.in-Some.ensures ∙ ap (λ name. place_in name names.values) c.bytes.ensures) in
    handed_on (λ e. (e ≡ Memory) ⊎ IsQuestionRefusal f q e) e c.from_residual-in_err-place.result c.from_residual-in_err-place.ensures.1
    (place_refused f q value e c.in_err-place.ensures.refused)
