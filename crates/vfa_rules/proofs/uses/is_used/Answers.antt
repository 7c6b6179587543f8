use Rattle.std.proofs.Common.{◌≡◌, sym, ◌∙◌, ap}
use Rattle.std.specs.Prelude.{Option, Some}
use Rattle.vfa_ir.specs.declared.operations.ValueId.{ValueId}
use Rattle.vfa_rules.specs.Uses.{is_used}
use Rattle.vfa_rules.specs.BlockUses.{block_has}
use Rattle.std.specs.List.{list_any}
use Rattle.vfa_rules.proofs.NameUses.{in_blocks}
use Rattle.vfa_rules.proofs.uses.is_used.Goals as goal

pub returns-in-Some : goal.returns-in-Some
returns-in-Some c =
    c.blocks_have.ensures ∙ ap (list_any (block_has c.args.f.now c.in-Some.v.0)) c.as_slice.ensures
    ∙ sym (in_blocks c.args.f.now c.in-Some.v.0 0 c.args.f.now.blocks) ∙ ap (is_used c.args.f.now) (sym c.in-Some.is)
