use Rattle.std.proofs.Common.{◌≡◌, get_or, ap, sym, ◌∙◌, arith}
use Rattle.vfa_ir.specs.declared.functions.Block.{Block}
use Rattle.vfa_check.proofs.ScopesFound.{phi_names, more_have_phis, all_have_phis}
use Rattle.vfa_check.proofs.scoping.add_all_phis.Goals as goal

pub add_phis-requires-clause-names : goal.add_phis-requires-clause-names
add_phis-requires-clause-names c =
    let block = c.index-as_slice-b.result in
    let is : block ≡ get_or c.args.f.now.blocks c.rows.b block = c.index-as_slice-b.is ∙ ap (λ xs. get_or xs c.rows.b block) c.as_slice.ensures in
    let phis : c.as_slice-in-rows.result.now ≡ block.phis = c.as_slice-in-rows.ensures ∙ ap (λ (x : Block). x.phis) (sym c.index-as_slice-b.is) in
    rw phis
    (phi_names c.args.f.now c.rows.b c.rows.rows.items c.index_mut.result.now block c.requires.within c.rows.invariant.rows
    (omega (arith, c.rows.invariant.whole)) c.index_mut.ensures.value (omega (arith, c.rows.invariant.whole, c.requires.count)) is)

pub rows-preserved : goal.rows-preserved
rows-preserved c =
    let block = c.index-as_slice-b.result in
    let is : block ≡ get_or c.args.f.now.blocks c.rows.b block = c.index-as_slice-b.is ∙ ap (λ xs. get_or xs c.rows.b block) c.as_slice.ensures in
    let phis : c.as_slice-in-rows.result.now ≡ block.phis = c.as_slice-in-rows.ensures ∙ ap (λ (x : Block). x.phis) (sym c.index-as_slice-b.is) in
    more_have_phis c.args.f.now c.rows.b c.args.rows.now.items c.rows.rows.items c.index_mut.result.now c.add_phis.new.row block
    (omega (arith, c.rows.invariant.whole)) (omega (arith, c.rows.invariant.whole, c.requires.count)) c.index_mut.ensures.value is
    c.add_phis.ensures.row (rw phis at c.add_phis.ensures.added) c.rows.invariant

pub returns-clause-added : goal.returns-clause-added
returns-clause-added c = all_have_phis c.args.f.now c.rows.b c.args.rows.now.items c.rows.rows.items (omega arith) c.rows.invariant
