use Rattle.std.proofs.Common.{◌≡◌, ◌+◌, drop, length, map, get_or, sym, ap, ◌∙◌}
use Rattle.vfa_ir.specs.declared.functions.Phi.{Phi}
use Rattle.vfa_mean.specs.Kept.{is_marked}
use Rattle.vfa_rewrite.specs.Making.{first_marks}
use Rattle.vfa_rewrite.specs.Putting.{entry_put}
use Rattle.vfa_rewrite.specs.Rewritten.{phi_left}
use Rattle.vfa_rewrite.proofs.PhisPut.{AllEntries, own_part, phis_more, put_left, rest_put}
use Rattle.vfa_rewrite.proofs.putting_phis.kept_phis.Goals as goal

pub each-preserved : goal.each-preserved
each-preserved c =
    let f = c.args.f.now in
    let to = c.args.to.0 in
    let phis = c.args.phis.now in
    let put = c.args.put.now in
    let k = c.each.phi-index in
    let phi = c.phi-item.result in
    let same : phi ≡ get_or phis k phi = c.phi-item.is in
    let entries_are : c.as_slice.result.now ≡ (get_or phis k phi).entries = c.as_slice.ensures ∙ ap (λ (p : Phi). p.entries) same in
    let long : length c.as_slice.result.now ≡ length (get_or phis k phi).entries = ap length entries_are in
    let more = put_left phis k c.each.at phi c.each-test.true put c.each.invariant.place in
    record {
      count = c.in_ok-put_phi.ensures.count ∙ c.each.invariant.count;
      place = ap (λ n. c.each.at + n + length (AllEntries (drop (k + 1) phis))) long ∙ more;
      own = λ found is. ap (λ n. drop (c.each.at + n) put) long ∙ rest_put phis k c.each.at phi c.each-test.true put (entry_put f found to) (c.each.invariant.own found is);
      kept = λ found are is.
          let own = own_part phis k c.each.at phi c.each-test.true put (entry_put f found to) (c.each.invariant.own found is) _ long in
          phis_more f found (is_marked c.args.reached.now) to phis k phi c.each-test.true c.each.all.items _ _ c.in_ok-put_phi.field-0
          (c.in_ok-put_phi.ensures.phi found are (own ∙ ap (λ (p : Phi). map (entry_put f found to) p.entries) (sym same)) ∙ ap (phi_left f (first_marks f found (is_marked c.args.reached.now)) to) same)
          c.in_ok-push.ensures.items (c.each.invariant.kept found are is);
    }
