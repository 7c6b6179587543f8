use Rattle.std.proofs.Common.{◌≡◌, All, length, replicate, true, rules, refl, ap, subst, ◌∙◌}
use Rattle.vfa_check.specs.NameRows.{IsRow}
use Rattle.vfa_check.proofs.ScopesFound.{begins}
use Rattle.vfa_check.proofs.scoping.begin.Goals as goal

pub returns : goal.returns
returns c =
    let f = c.args.f.now in
    let names : length c.as_slice-names.result.now ≡ length f.values = ap length c.as_slice-names.ensures in
    let count : length c.as_slice-count.result.now ≡ length f.blocks = ap length c.as_slice-count.ensures in
    let full = c.in_ok-entries.ensures in
    let ends = c.in_ok-full_rows.ensures in
    let unsent : c.in_ok-vec.field-0.items ≡ replicate (length c.as_slice-count.result.now) true = search rules in
    begins f c.in_ok-entries.entries.items c.in_ok-full_rows.field-0.items c.in_ok-entries-2.field-0 _ c.requires refl refl
    (unsent ∙ ap (λ n. replicate n true) count)
    (full.count ∙ count) (subst (λ n. All (IsRow n) c.in_ok-entries.entries.items) names full.rows) full.full
    (ends.count ∙ count) (subst (λ n. All (IsRow n) c.in_ok-full_rows.field-0.items) names ends.rows) ends.full
    c.in_ok-entries-2.ensures.row c.in_ok-entries-2.ensures.has
