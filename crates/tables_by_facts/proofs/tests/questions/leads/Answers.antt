use Rattle.std.proofs.Common.{◌∙◌, sym}
use Rattle.vfa_ir.specs.Walks.{successors}
use Rattle.tables_by_facts.proofs.Leading.{stands_in}
use Rattle.tables_by_facts.proofs.tests.questions.leads.Goals as goal

pub returns-then-is_block : goal.returns-then-is_block
returns-then-is_block c _ =
    stands_in (successors c.args.f.now c.args.from.0) c.edges.k c.args.to.0 (sym c.successor.ensures.target ∙ c.is_block.ensures c.if-is_block.true)
