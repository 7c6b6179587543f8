use Rattle.std.proofs.Common.{◌++◌, ◌∷◌, [], ◌∙◌, ap, drop}
use Rattle.vfa_ir.specs.TextLines.{first_lines}
use Rattle.vfa_read.specs.Items.{line_lengths}
use Rattle.vfa_read.specs.Seen.{line_numbers}
use Rattle.vfa_read.proofs.CountedBlocks.{block_counted}
use Rattle.vfa_read.proofs.source.Source.block_after.Goals as goal

pub returns-clause-lines : goal.returns-clause-lines
returns-clause-lines c =
    let s = c.args.self.now in
    let b = c.in_ok-found.found in
    let numbers = c.lines.new.numbers.items in
    let are = c.in_ok-found.ensures.numbers ∙ ap (λ z. z ++ first_lines (line_lengths b) (drop c.args.at (line_numbers s))) c.new-numbers.ensures.items in
    let last = c.in_ok-push.ensures.items ∙ ap (λ n. numbers ++ n ∷ []) c.line_number.ensures in
    c.in_ok-push-2.ensures.items
    ∙ ap (λ z. c.args.lines.now.items ++ z ∷ []) (last ∙ block_counted s c.args.at c.in_ok-found.at b c.in_ok-terminator.terminator c.args.label numbers c.in_ok-found.ensures.gives are)
