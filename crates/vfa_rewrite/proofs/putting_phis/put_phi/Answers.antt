use Rattle.std.proofs.Common.{ℕ, ap, subst, ◌∙◌}
use Rattle.std.specs.Prelude.{slice_index_or}
use Rattle.vfa_mean.specs.Kept.{is_marked}
use Rattle.vfa_rewrite.specs.Making.{first_marks}
use Rattle.vfa_rewrite.specs.Putting.{entries_of}
use Rattle.vfa_rewrite.specs.Rewritten.{edges_of}
use Rattle.vfa_rewrite.proofs.PhisPut.{AllCounted, phi_entries, with_entries}
use Rattle.vfa_rewrite.proofs.putting_phis.put_phi.Goals as goal

pub returns-clause-phi : goal.returns-clause-phi
returns-clause-phi c = λ found are is.
    let f = c.args.f.now in
    let phi = c.args.phi.now in
    let m = first_marks f found (is_marked c.args.reached.now) in
    let count : ℕ → ℕ = λ p. slice_index_or c.count_entries.new.left.items p 0 in
    ap (with_entries phi)
    (c.in_ok-entries.ensures.entries
    ∙ (ap (λ es. entries_of es c.args.put.now count) c.as_slice-entries.ensures
    ∙ phi_entries f found (is_marked c.args.reached.now) c.args.to.0 phi.entries c.args.put.now count (edges_of f m c.args.to.0) is
    (subst (AllCounted count (edges_of f m c.args.to.0)) c.as_slice-entries.ensures (c.count_entries.ensures.left found are))))
