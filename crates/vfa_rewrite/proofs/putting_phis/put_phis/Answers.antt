use Rattle.std.proofs.Common.{◌≡◌, ◌<◌, true, not, is_some, All, sym, ap, subst, ◌∙◌, length, map}
use Rattle.vfa_ir.specs.declared.operations.BlockId.{BlockId}
use Rattle.vfa_ir.specs.declared.operations.Operand.{Operand}
use Rattle.vfa_ir.specs.declared.functions.Phi.{Phi}
use Rattle.vfa_mean.specs.Kept.{is_marked}
use Rattle.vfa_walk.specs.Kept.{kept_entries}
use Rattle.vfa_rewrite.specs.ByFacts.{findings_of}
use Rattle.vfa_rewrite.specs.Making.{first_marks}
use Rattle.vfa_rewrite.specs.Putting.{IsNamed, entry_put}
use Rattle.vfa_rewrite.specs.Rewritten.{kept_phis}
use Rattle.vfa_rewrite.proofs.PhisPut.{AllEntries, entries_named, entries_within, entry_is_some, phis_are_met}
use Rattle.vfa_rewrite.proofs.putting_phis.put_phis.Goals as goal

pub put_entries-requires-clause-named : goal.put_entries-requires-clause-named
put_entries-requires-clause-named c =
    let asked = c.as_slice.ensures.value ∙ (c.in_ok-asked.ensures ∙ ap AllEntries c.as_slice-phis.ensures) in
    subst (λ es. All (λ (e : Operand × BlockId). IsNamed c.args.f.now e.0) es) (sym asked)
    (entries_named c.args.f.now c.args.b.0 c.args.block.now c.requires.ready.ready c.requires.block)

pub kept_phis-requires-clause-within : goal.kept_phis-requires-clause-within
kept_phis-requires-clause-within c =
    subst (λ phis. All (λ (p : Phi). All (λ (e : Operand × BlockId). e.1.0 < length c.args.left.now.items) p.entries) phis) (sym c.as_slice-phis.ensures)
    (entries_within c.args.f.now c.args.b.0 c.args.block.now (length c.args.left.now.items) c.requires.ready.printable c.requires.block c.requires.room)

pub returns-clause-phis : goal.returns-clause-phis
returns-clause-phis c =
    let f = c.args.f.now in
    let t = kept_entries c.args.table.now in
    let found = findings_of f t in
    let asked = c.as_slice.ensures.value ∙ c.in_ok-asked.ensures in
    let put = c.as_slice-2.ensures.value ∙ (c.in_ok-put.ensures ∙ ap (map (entry_put f found c.args.b.0)) asked) in
    let there = entry_is_some _ c.entry.result _ c.entry.ensures.entry in
    let met : is_some (t c.args.b.0) ≡ true = there ∙ (c.is_none.ensures ∙ ap not c.if-is_none.false) in
    c.in_ok-all.ensures.phis found c.requires.kept put
    ∙ (ap (kept_phis f (first_marks f found (is_marked c.args.reached.now)) c.args.b.0) c.as_slice-phis.ensures
    ∙ phis_are_met f t (is_marked c.args.reached.now) c.args.b.0 c.args.block.now.phis met)
