use Rattle.std.proofs.Common.{drop}
use Rattle.std.specs.Str.{byte}
use Rattle.vfa_read.specs.Productions.{further_blocks}
use Rattle.vfa_read.specs.Seen.{all_of}
use Rattle.vfa_read.proofs.CountedBlocks.{body_counted, others_of}
use Rattle.vfa_read.proofs.LeafReaders.{mark_exact}
use Rattle.vfa_read.proofs.WholeBlocks.{entry_exact}
use Rattle.vfa_read.proofs.source.Source.body.Goals as goal

pub returns-clause-lines : goal.returns-clause-lines
returns-clause-lines c =
    let s = c.args.self.now in
    let all = all_of s in
    let inside = c.in_ok-at.at in
    let first = c.in_ok-first.first in
    let next = c.in_ok-first.at in
    let list = c.in_ok-blocks.blocks in
    let brace = (mark_exact (byte "{")).sound (drop c.args.at all) (drop inside all) tt c.in_ok-at.ensures in
    let read = entry_exact.sound (drop inside all) (drop next all) first c.in_ok-first.ensures.gives in
    let others = others_of further_blocks first (drop next all) (drop c.in_ok-blocks.at all) list c.in_ok-blocks.ensures.gives in
    body_counted s c.args.at inside next c.args.lines.now.items c.entry_block.new.lines.items c.blocks_after.new.lines.items first list others.0
    brace read c.in_ok-first.ensures.lines c.in_ok-blocks.ensures.lines others.1
