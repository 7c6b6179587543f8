use Rattle.std.proofs.Common.{ap, ◌∙◌, ◌++◌, ◌∷◌, []}
use Rattle.vfa_read.proofs.Definitions.{block_is_new}
use Rattle.vfa_read.proofs.resolution.table.SymbolTable.define_block.Goals as goal

pub invariant_of-self : goal.invariant_of-self
invariant_of-self c = rw c.in_err-add.ensures.unchanged c.self.invariant

pub returns-clause-ok : goal.returns-clause-ok
returns-clause-ok c =
    block_is_new c.args.self.now (record { values = c.self.inside.values; blocks = c.add.new.self }) c.args.name.now c.in_ok-check_new.ensures.ok
    (ap (λ s. s.values) c.self.view_is)
    (c.in_ok-add.ensures.added ∙ ap (λ s. s.blocks ++ c.args.name.now ∷ []) c.self.view_is)
