use Rattle.std.proofs.Common.{ap, ◌∙◌, ◌++◌, ◌∷◌, []}
use Rattle.vfa_read.proofs.Definitions.{value_is_new}
use Rattle.vfa_read.proofs.resolution.table.SymbolTable.define_value.Goals as goal

pub invariant_of-self : goal.invariant_of-self
invariant_of-self c = rw c.in_err-add.ensures.unchanged c.self.invariant

pub returns-clause-ok : goal.returns-clause-ok
returns-clause-ok c =
    value_is_new c.args.self.now (record { values = c.add.new.self; blocks = c.self.inside.blocks }) c.args.name.now c.in_ok-check_new.ensures.ok
    (c.in_ok-add.ensures.added ∙ ap (λ s. s.values ++ c.args.name.now ∷ []) c.self.view_is)
    (ap (λ s. s.blocks) c.self.view_is)
