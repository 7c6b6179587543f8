use Rattle.std.proofs.Common.{◌≡◌, ◌∙◌, ◌+◌, Some, length, sym, ap, subst}
use Rattle.std.specs.Prelude.{slice_get}
use Rattle.std.proofs.lemmas.List.{length_push}
use Rattle.vfa_walk.specs.Kept.{kept_entries}
use Rattle.vfa_rewrite.specs.ByFacts.{findings_of}
use Rattle.vfa_rewrite.specs.Found.{IsKeptOf}
use Rattle.vfa_rewrite.proofs.Goings.{each_and_last}
use Rattle.vfa_rewrite.proofs.found.found_blocks.Goals as goal

pub all-preserved : goal.all-preserved
all-preserved c =
    let f = c.args.f.now in
    let found = findings_of f (kept_entries c.args.table.now) in
    let kept = c.all.kept.items in
    let put = c.in_ok-push.ensures.items in
    record {
      place = ap (λ n. n + 1) c.all.invariant.place;
      count = ap length put ∙ (length_push kept c.in_ok-found_in.field-0 ∙ ap (λ n. n + 1) c.all.invariant.count);
      each = λ b block h.
          each_and_last (IsKeptOf f found) kept c.in_ok-found_in.field-0 c.all.invariant.each
          (subst (λ n. IsKeptOf f found n c.in_ok-found_in.field-0) (c.all.invariant.place ∙ sym c.all.invariant.count) c.in_ok-found_in.ensures)
          b block (subst (λ list. slice_get list b ≡ Some block) put h);
    }
