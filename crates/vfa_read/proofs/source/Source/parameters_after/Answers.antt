use Rattle.std.proofs.Common.{◌∷◌, drop, sym, ◌∙◌, ap}
use Rattle.std.specs.Str.{byte}
use Rattle.vfa_ir.specs.Grammar.{FitsParameter}
use Rattle.vfa_ir.specs.Spelling as spell
use Rattle.vfa_read.specs.Headers.{parameter}
use Rattle.vfa_read.specs.Productions.{after_commas}
use Rattle.vfa_read.specs.Readers.{made, skip}
use Rattle.vfa_read.specs.Seen.{all_of}
use Rattle.vfa_read.specs.Tables.{the_mark}
use Rattle.vfa_read.proofs.CommaLists.{commas_done, commas_item, commas_bad, commas_shorter}
use Rattle.vfa_read.proofs.HeaderReaders.{mark_follows, parameter_exact, parameter_follow}
use Rattle.vfa_read.proofs.Loops.{prefix_done, prefix_item, prefix_bad, with_prefix, stops_through, gives_error}
use Rattle.vfa_read.proofs.source.Source.parameters_after.Goals as goal

pub returns-in_err-parameter : goal.returns-in_err-parameter
returns-in_err-parameter c =
    let all = all_of c.args.self.now in
    let here = after_commas parameter (drop c.list.at all) in
    let e = c.in_err-parameter.field-0.0 in
    let found = sym c.has_mark.ensures ∙ c.list-test.true in
    let g = stops_through all e (skip (the_mark (byte ",")) parameter (drop c.list.at all)) (made (λ more. c.args.first ∷ more) (after_commas parameter) (drop c.args.from all))
    (λ n i. sym c.list.invariant ∙ prefix_bad c.list.list.items n here (commas_bad parameter spell.parameter FitsParameter parameter_follow parameter_exact mark_follows (drop c.list.at all) n found i)) c.in_err-parameter.ensures in
    gives_error all e c.from_residual-in_err-parameter.result (made (λ more. c.args.first ∷ more) (after_commas parameter) (drop c.args.from all)) c.from_residual-in_err-parameter.ensures.1 g

pub list-smaller : goal.list-smaller
list-smaller c = let a = c.in_ok-parameter.ensures in commas_shorter parameter spell.parameter FitsParameter parameter_follow parameter_exact mark_follows _ _ _ a

pub list-preserved : goal.list-preserved
list-preserved c =
    let all = all_of c.args.self.now in
    let prefix = c.list.list.items in
    let next = drop c.in_ok-parameter.next all in
    let item = commas_item parameter spell.parameter FitsParameter parameter_follow parameter_exact mark_follows (drop c.list.at all) next c.in_ok-parameter.parameter (sym c.has_mark.ensures ∙ c.list-test.true) c.in_ok-parameter.ensures in
    let e = prefix_item prefix c.in_ok-parameter.parameter (after_commas parameter (drop c.list.at all)) (after_commas parameter next) item in
    ap (λ z. with_prefix z (after_commas parameter next)) c.in_ok-push-2.ensures.items ∙ sym e ∙ c.list.invariant

pub returns : goal.returns
returns c =
    let all = all_of c.args.self.now in
    sym c.list.invariant ∙ prefix_done c.list.list.items (drop c.list.at all) (after_commas parameter (drop c.list.at all)) (commas_done parameter spell.parameter FitsParameter parameter_follow parameter_exact mark_follows (drop c.list.at all) (sym c.has_mark.ensures ∙ c.list-test.false))
