use Rattle.vfa_print.specs.Trees.{block_name_at}
use Rattle.vfa_report.proofs.NameLines.{put_heading}
use Rattle.vfa_report.proofs.reporting.push_heading.Goals as goal

pub returns : goal.returns
returns c =
    put_heading c.args.text.now.items c.extend_from_slice.new.self.items c.push_name.new.text.items c.block.result.now (block_name_at c.args.names.now c.args.b)
    c.in_ok-extend_from_slice.ensures.items c.in_ok-push_name.ensures c.block.ensures
