use Rattle.std.proofs.Common.{◌++◌, ◌∙◌, ap, codes, flat_map, sym}
use Rattle.vfa_cond.specs.States.{known}
use Rattle.vfa_walk.proofs.Found.{stored_state}
use Rattle.vfa_walk.specs.Kept.{kept_entries}
use Rattle.vfa_xfer.specs.AnyFacts.{fact_type, IsAnyFact}
use Rattle.vfa_report.specs.Writing.{lines_at}
use Rattle.vfa_report.proofs.ReportTexts.{parameters_are}
use Rattle.vfa_report.proofs.reporting.push_entry.Goals as goal

pub returns : goal.returns
returns c =
    let f = c.args.f.now in
    let names = c.args.names.now in
    let table = c.args.table.now in
    let state = c.in-Some.state.now in
    let old = c.args.text.now.items in
    c.in_ok-push_parameters.ensures
    ∙ ap (λ ps. old ++ flat_map (λ p. lines_at names (codes "  param ") (known state) p.value.0) ps) c.as_slice.ensures
    ∙ ap (λ l. old ++ l)
    (parameters_are f names c.requires.names (kept_entries table) state (sym c.in-Some.ensures.entry)
    (stored_state fact_type IsAnyFact f table 0 c.requires.states state (sym c.in-Some.ensures.stored)))
