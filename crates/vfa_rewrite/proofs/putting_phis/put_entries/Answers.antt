use Rattle.std.proofs.Common.{◌≡◌, ◌≤◌, ◌∙◌, None, Some, is_some, length, map, replicate, rules, sym, ap, subst, arith}
use Rattle.std.specs.Prelude.{slice_index_or}
use Rattle.std.specs.Option.{option_map}
use Rattle.std.proofs.lemmas.List.{length-replicate}
use Rattle.vfa_ir.specs.declared.operations.Operand.{Operand}
use Rattle.vfa_mean.specs.Moments.{Into}
use Rattle.vfa_cond.specs.States.{known}
use Rattle.vfa_walk.specs.Kept.{AreStates, kept_entries}
use Rattle.vfa_xfer.specs.AnyFacts.{fact_type, IsAnyFact}
use Rattle.vfa_rewrite.specs.ByFacts.{fact_state, findings_of}
use Rattle.vfa_rewrite.specs.Putting.{entry_put, put_by, put_or_poison}
use Rattle.vfa_rewrite.proofs.EntriesPut.{all_done, none_done, one_block_done, one_skipped}
use Rattle.vfa_rewrite.proofs.Noting.{nothing_noted}
use Rattle.vfa_rewrite.proofs.PhisPut.{by_reference, pair_facts, pair_is, pair_put}
use Rattle.vfa_rewrite.proofs.putting_phis.put_entries.Goals as goal

pub pair_state-requires : goal.pair_state-requires
pair_state-requires c = subst (λ g. AreStates fact_type IsAnyFact g c.args.table.now) c.requires.same c.requires.states

pub put_from-requires-clause-may : goal.put_from-requires-clause-may
put_from-requires-clause-may c = record {
  of_type = c.requires.ready.of_type;
  facts = pair_facts c.args.f.now c.args.checked.now c.requires.same c.in_ok-state.state c.in_ok-state.ensures.state _ (by_reference known c.as_ref.result c.in_ok-state.state c.as_ref.ensures.value);
}

pub each-init : goal.each-init
each-init c =
    let n = length c.args.entries.now in
    let filled : c.in_ok-all.all.items ≡ replicate n None = search rules in
    none_done _ c.args.entries.now c.in_ok-all.all.items (ap length filled ∙ length-replicate n None) (λ j. ap (λ l. slice_index_or l j None) filled ∙ nothing_noted n j)

pub each-preserved-then-is_some : goal.each-preserved-then-is_some
each-preserved-then-is_some c =
    one_skipped _ c.args.entries.now c.each.k c.each.all.items c.index.result.now c.each.invariant c.each-test.true
    (ap is_some (sym c.index.ensures) ∙ (sym c.is_some.ensures ∙ c.if-is_some.true))

pub each-preserved : goal.each-preserved
each-preserved c =
    let f = c.args.f.now in
    let t = kept_entries c.args.table.now in
    let put : Operand → Operand = put_by f c.args.others.now (option_map (λ s. known s.now) c.as_ref.result) in
    let is = pair_is f c.args.checked.now c.requires.same t _ c.args.to.0 c.in_ok-state.state c.in_ok-state.ensures.pair _ (by_reference known c.as_ref.result c.in_ok-state.state c.as_ref.ensures.value) in
    one_block_done (entry_put f (findings_of f t) c.args.to.0) c.args.entries.now c.each.k c.each.all.items c.put_from.new.all.items c.each.invariant _ c.each-test.true put
    (length c.args.entries.now) (omega arith) c.put_from.ensures
    (λ e same. pair_put f t c.args.others.now c.requires.ready c.args.to.0 e _ (is ∙ ap (λ p. fact_state f t (Into (Some p) c.args.to.0)) (sym same)))

pub returns : goal.returns
returns c =
    let past : length c.args.entries.now ≤ c.each.k = omega (arith, c.each-test.false) in
    c.in_ok-put.ensures ∙ (ap (map put_or_poison) c.as_slice.ensures.value ∙ all_done _ c.args.entries.now c.each.k c.each.all.items c.each.invariant past)
