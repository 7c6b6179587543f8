use Rattle.std.proofs.Common.{◌≡◌, ◌<◌, true, false, Some, length, refl, sym, ap, ◌∙◌, arith}
use Rattle.std.specs.Prelude.{slice_get, slice_index_or}
use Rattle.std.proofs.lemmas.Option.{slice_get_read, slice_get_within}
use Rattle.vfa_ir.specs.PhisFit.{targets}
use Rattle.vfa_mean.specs.Kept.{is_marked}
use Rattle.vfa_rewrite.specs.declared.found.BlockFindings.{BlockFindings}
use Rattle.vfa_rewrite.specs.Rewritten.{edges_from}
use Rattle.vfa_rewrite.proofs.PhisPut.{edges_counted}
use Rattle.vfa_rewrite.proofs.putting_phis.edges_to.Goals as goal

pub returns : goal.returns
returns c = λ found are.
    let f = c.args.f.now in
    let from = c.args.from.0 in
    let kept = c.args.kept.now in
    let there : slice_get f.blocks from ≡ Some c.in-Some.block.now =
    ap (λ l. slice_get l from) (sym c.as_slice.ensures) ∙ slice_get_read c.as_slice.result.now _ from c.in-Some.block.now refl c.in-Some.ensures.lookup.3.0 c.in-Some.ensures.lookup.1 in
    let inside = slice_get_within f.blocks from c.in-Some.block.now there in
    let less : from < length kept = omega (arith, inside, c.requires) in
    let stands : slice_get kept from ≡ Some c.index-kept-from.result = slice_get_read kept (length kept) from c.index-kept-from.result refl less c.index-kept-from.is in
    let r : is_marked c.args.reached.now from ≡ true = sym c.has_left.ensures ∙ c.if-not-has_left.false in
    let lefts = c.as_slice-2.ensures.value ∙ ap (λ (x : BlockFindings). x.left.items) (sym c.index-kept-from.is) in
    c.count_left.ensures
    ∙ (ap (λ l. edges_from (λ k. slice_index_or l k false) c.args.to.0 0 (targets c.in-Some.block.now.term)) lefts
    ∙ edges_counted f found kept are c.args.reached.now from c.args.to.0 r c.in-Some.block.now there c.index-kept-from.result stands)
