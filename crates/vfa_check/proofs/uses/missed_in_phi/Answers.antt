use Rattle.std.proofs.Common.{List, All, flat_map, subst, sym, ◌∙◌}
use Rattle.vfa_ir.specs.declared.functions.Function.{Function}
use Rattle.vfa_ir.specs.declared.operations.BlockId.{BlockId}
use Rattle.vfa_ir.specs.declared.operations.Operand.{Operand}
use Rattle.vfa_ir.specs.Defined.{NameUse, UseIsDefined, line_count, operand_names, uses_at}
use Rattle.vfa_check.proofs.UsesTold.{part_here, part_later, parts_end}
use Rattle.vfa_check.specs.Uses.{Tells}
use Rattle.vfa_check.proofs.uses.missed_in_phi.Goals as goal

abbrev entry_uses : Function → Operand × BlockId → List NameUse
entry_uses f e = uses_at e.1.0 (line_count f e.1.0) (operand_names e.0)

pub returns-then-is_some : goal.returns-then-is_some
returns-then-is_some c =
    let f = c.args.f.now in
    let found = c.missed_behind-missed.result in
    subst (λ es. Tells f (flat_map (entry_uses f) es) found) c.as_slice-entry-items.ensures
    (part_here f (entry_uses f) c.as_slice-entry-items.result.now c.entries.entry-index _ found c.entries-test.true (sym c.is_some.ensures ∙ c.if-is_some.true)
    c.missed_behind-missed.ensures c.entries.invariant)

pub entries-preserved : goal.entries-preserved
entries-preserved c =
    let f = c.args.f.now in
    part_later f (entry_uses f) c.as_slice-entry-items.result.now c.entries.entry-index _ c.missed_behind-missed.result c.entries-test.true
    (sym c.is_some.ensures ∙ c.if-is_some.false) c.missed_behind-missed.ensures c.entries.invariant

pub returns : goal.returns
returns c =
    let f = c.args.f.now in
    subst (λ es. All (UseIsDefined f) (flat_map (entry_uses f) es)) c.as_slice-entry-items.ensures
    (parts_end f (entry_uses f) c.as_slice-entry-items.result.now c.entries.entry-index c.entries-test.false c.entries.invariant)
