use Rattle.std.proofs.Common.{◌≡◌, true, drop, subst, sym, ◌∙◌, ap, ◌∷◌, [], ◌++◌}
use Rattle.vfa_read.specs.Productions.{block_lines, line, lines, still_phis}
use Rattle.vfa_read.specs.Seen.{all_of}
use Rattle.vfa_read.proofs.Accumulated.{add_lines, added, added_bad, added_done, added_item, no_lines, one_line}
use Rattle.vfa_read.proofs.BlockLines.{line_exact}
use Rattle.vfa_read.proofs.BlockReaders.{lines_done, lines_item, lines_bad, line_shorter, start_lines}
use Rattle.vfa_read.proofs.ItemLines.{Counted, counted_more, no_lines_counted, still_first}
use Rattle.vfa_read.proofs.Loops.{stops_through, gives_error}
use Rattle.vfa_read.proofs.source.Source.lines.Goals as goal

pub list-init : goal.list-init
list-init c =
    let s = c.args.self.now in
    let here = drop c.args.from (all_of s) in (
      ap (λ z. added add_lines no_lines one_line z (lines true here)) c.new-list.ensures ∙ start_lines here,
      no_lines_counted s c.args.from c.args.numbers.now.items c.new-list.result c.new-list.ensures,
      λ e. ap (λ z. z.instructions) c.new-list.ensures,
    )

pub returns-in_err-line-clause-gives : goal.returns-in_err-line-clause-gives
returns-in_err-line-clause-gives c =
    let all = all_of c.args.self.now in
    let s = c.list.phis in
    let here = lines s (drop c.list.at all) in
    let e = c.in_err-line.field-0.0 in
    let found = sym c.starts_line.ensures ∙ c.list-test.true in
    let whole = block_lines (drop c.args.from all) in
    let g = stops_through all e (line s (drop c.list.at all)) whole
    (λ n i. sym c.list.invariant.0 ∙ added_bad add_lines no_lines one_line c.list.list n here (lines_bad s (drop c.list.at all) n found i)) c.in_err-line.ensures in
    gives_error all e c.from_residual.result whole c.from_residual.ensures.1 g

pub list-smaller : goal.list-smaller
list-smaller c =
    let all = all_of c.args.self.now in
    line_shorter c.list.phis (drop c.list.at all) (drop c.in_ok-line.next all) c.in_ok-line.line c.in_ok-line.ensures

pub list-preserved : goal.list-preserved
list-preserved c =
    let s = c.args.self.now in
    let all = all_of s in
    let first = c.list.phis in
    let x = c.in_ok-line.line in
    let here = drop c.list.at all in
    let next = drop c.in_ok-line.next all in
    let read = c.in_ok-line.ensures in
    let item = lines_item first here next x (sym c.starts_line.ensures ∙ c.list-test.true) read in
    let e = added_item add_lines no_lines one_line c.list.list x (lines first here) (lines (still_phis first x) next) item in
    let pushed : c.push.new.self ≡ add_lines c.list.list (x ∷ []) = λ i. record { phis = c.in_ok-push.ensures.phis i; instructions = c.in_ok-push.ensures.instructions i } in
    let fits = (line_exact first).fits here next x read in
    let sound = (line_exact first).sound here next x read in
    let number = c.in_ok-push-2.ensures.items ∙ ap (λ n. c.list.numbers.items ++ n ∷ []) c.line_number.ensures in
    let more = counted_more s c.args.from c.list.at c.in_ok-line.next first c.args.numbers.now.items c.list.numbers.items c.push-in-list.new.self.items c.list.list x c.list.invariant.1 c.list.invariant.2 fits sound number in (
      ap (λ z. added add_lines no_lines one_line z (lines c.still_phis-phis.result next)) pushed
          ∙ ap (λ b. added add_lines no_lines one_line (add_lines c.list.list (x ∷ [])) (lines b next)) c.still_phis-phis.ensures ∙ sym e ∙ c.list.invariant.0,
      subst (Counted s c.args.from c.in_ok-line.next c.args.numbers.now.items c.push-in-list.new.self.items) (sym pushed) more,
      λ h. ap (λ z. z.instructions) pushed ∙ still_first first c.list.list x c.list.invariant.2 (sym c.still_phis-phis.ensures ∙ h),
    )

pub returns-clause-gives : goal.returns-clause-gives
returns-clause-gives c =
    let all = all_of c.args.self.now in
    let here = drop c.list.at all in
    sym c.list.invariant.0 ∙ added_done add_lines no_lines one_line c.list.list here (lines c.list.phis here)
    (lines_done c.list.phis here (sym c.starts_line.ensures ∙ c.list-test.false))

pub returns-clause-numbers : goal.returns-clause-numbers
returns-clause-numbers c = c.list.invariant.1.are
