use Rattle.std.proofs.Common.{[], ◌++◌, ◌∙◌, ap, codes, subst, sym}
use Rattle.vfa_report.specs.FactLines.{cell_line, local_text, fact_lines}
use Rattle.vfa_report.specs.Showing.{ShowFact}
use Rattle.vfa_report.proofs.LineTexts.{one_line, two_lines}
use Rattle.vfa_report.proofs.ShownFacts.{shows_one, shows_two}
use Rattle.vfa_report.proofs.lines.fact_line.Goals as goal

pub returns-in_ok-push_line-in-One-clause-line : goal.returns-in_ok-push_line-in-One-clause-line
returns-in_ok-push_line-in-One-clause-line c =
    one_line c.new-text.result.items c.push_line.new.text.items c.args.name.now c.in-One.cell c.args.fact.now.parts c.new-text.ensures.items
    (c.in_ok-push_line-in-One.ensures.line ∙ ap (λ n. c.new-text.result.items ++ cell_line (local_text n ++ []) c.in-One.cell) c.bytes.ensures) c.in-One.is

pub returns-in_ok-push_line-in-One-clause-shows : goal.returns-in_ok-push_line-in-One-clause-shows
returns-in_ok-push_line-in-One-clause-shows c =
    let shown = local_text c.args.name.now in (
      fact_lines shown c.args.fact.now.parts,
      returns-in_ok-push_line-in-One-clause-line c,
      subst (λ p. ShowFact shown p (fact_lines shown p)) (sym c.in-One.is) (shows_one shown c.in-One.cell c.in_ok-push_line-in-One.ensures.cell),
    )

pub returns-in_ok-push_line-in-Two-2-clause-line : goal.returns-in_ok-push_line-in-Two-2-clause-line
returns-in_ok-push_line-in-Two-2-clause-line c =
    two_lines c.new-text.result.items c.push_line-in-Two.new.text.items c.push.new.self.items c.push_line-in-Two-2.new.text.items c.args.name.now c.in-Two.number c.in-Two.bit c.args.fact.now.parts
    c.new-text.ensures.items
    (c.in_ok-push_line-in-Two.ensures.line ∙ ap (λ n. c.new-text.result.items ++ cell_line (local_text n ++ codes "[0]") c.in-Two.number) c.bytes-in-Two.ensures)
    c.in_ok-push-in-Two.ensures.items
    (c.in_ok-push_line-in-Two-2.ensures.line ∙ ap (λ n. c.push.new.self.items ++ cell_line (local_text n ++ codes "[1]") c.in-Two.bit) c.bytes-in-Two-2.ensures) c.in-Two.is

pub returns-in_ok-push_line-in-Two-2-clause-shows : goal.returns-in_ok-push_line-in-Two-2-clause-shows
returns-in_ok-push_line-in-Two-2-clause-shows c =
    let shown = local_text c.args.name.now in (
      fact_lines shown c.args.fact.now.parts,
      returns-in_ok-push_line-in-Two-2-clause-line c,
      subst (λ p. ShowFact shown p (fact_lines shown p)) (sym c.in-Two.is)
          (shows_two shown c.in-Two.number c.in-Two.bit c.in_ok-push_line-in-Two.ensures.cell c.in_ok-push_line-in-Two-2.ensures.cell),
    )
