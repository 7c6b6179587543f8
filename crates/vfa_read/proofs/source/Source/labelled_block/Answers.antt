use Rattle.std.proofs.Common.{drop}
use Rattle.vfa_read.specs.Seen.{all_of}
use Rattle.vfa_read.proofs.CountedBlocks.{labelled_result}
use Rattle.vfa_read.proofs.WholeBlocks.{written_label_exact}
use Rattle.vfa_read.proofs.source.Source.labelled_block.Goals as goal

pub returns-clause-lines : goal.returns-clause-lines
returns-clause-lines c =
    let s = c.args.self.now in
    let all = all_of s in
    let name = c.in_ok-label.label in
    let before = written_label_exact.sound (drop c.args.at all) (drop c.in_ok-label.at all) name c.in_ok-label.ensures in
    labelled_result s c.args.at c.in_ok-label.at name c.block_after.result c.args.lines.now.items c.block_after.new.lines.items before c.block_after.ensures.gives c.block_after.ensures.lines
