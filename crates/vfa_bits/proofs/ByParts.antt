-- A narrowed function of its parts.
use Rattle.std.proofs.Common.{◌≡◌, ℕ, ◌≤◌, ◌^◌, Bool, true, List, length, replicate, sym, ap, ◌∙◌, subst, arith}
use Rattle.std.specs.Prelude.{nat_eq}
use Rattle.std.specs.List.{IsDistinct}
use Rattle.vfa_ir.specs.declared.functions.Block.{Block}
use Rattle.vfa_ir.specs.declared.functions.Function.{Function}
use Rattle.vfa_ir.specs.Printable.{IsPrintable, ids_of}
use Rattle.vfa_check.specs.Checked.{IsChecked}
use Rattle.vfa_mean.specs.Kept.{is_marked}
use Rattle.vfa_mean.specs.Numbering.{DefinesKeptOnce, MayBeNumbered, each_number, numbered}
use Rattle.vfa_mean.proofs.FreshOperands.Definitions.{range_distinct}
use Rattle.vfa_demand.specs.Masks.{AreMasks}
use Rattle.vfa_demand.specs.Used.{AreUsed, UsesItsValues}
use Rattle.vfa_bits.specs.Changed.{AreChanged}
use Rattle.vfa_bits.specs.Narrowed.{Choices, IsNarrowed, left, must_stay, rewritten}
use Rattle.vfa_bits.specs.Written.{IsRewritten}
use Rattle.vfa_bits.proofs.AllMarked as marked
use Rattle.vfa_bits.proofs.Chains.{Known}
use Rattle.vfa_bits.proofs.Kept.{all_calls, all_values, may_be_numbered, results_left, same_calls, same_length, sublist_distinct}
use Rattle.vfa_bits.proofs.RewrittenNames.{uses_its_values}

pub kept_once : (f : Function) (masks : ℕ → ℕ) (by : Choices) (used : ℕ → Bool) → IsPrintable f → IsDistinct nat_eq (ids_of f) →
    DefinesKeptOnce (left used (rewritten f masks by)) each_number
kept_once f masks by used printable once =
    let whole = left used (rewritten f masks by) in
    record {
      names = subst (IsDistinct nat_eq) (sym (all_values whole)) (sublist_distinct (ids_of whole) (ids_of f) (results_left f masks by used) once);
      calls = subst (IsDistinct nat_eq) (sym (all_calls whole ∙ same_calls f masks by used ∙ printable.call_places)) (range_distinct 0 (length f.calls));
    }

module _ (f : Function) (masks : ℕ → ℕ) (checked : IsChecked f) (printable : IsPrintable f) (are : AreMasks f masks) where
  known : (by : Choices) → AreChanged f masks by.changed → Known f masks by.changed
  known by are_changed = record {
    printable = printable;
    typed = checked.formed.typed;
    once = checked.once;
    defined = checked.formed.defined;
    are = are;
    are_changed = are_changed;
  }

  module _ (g : Function) (written : IsRewritten f masks g) where
    pub written_uses : UsesItsValues g
    written_uses = subst UsesItsValues (sym written.is) (uses_its_values f masks written.by (known written.by written.are_changed))

    module _ (used : ℕ → Bool) (h : Function) (blocks : List Block) (marks : List Bool) (is_left : h ≡ left used g) (are_blocks : blocks ≡ h.blocks) (are_all : marks ≡ replicate (length blocks) true) where
      abbrev whole : Function
      whole = left used (rewritten f masks written.by)

      is_whole : h ≡ whole
      is_whole = is_left ∙ ap (left used) written.is

      same_marks : marks ≡ replicate (length whole.blocks) true
      same_marks = are_all ∙ ap (λ bs. replicate (length bs) true) are_blocks ∙ ap (λ (k : Function). replicate (length k.blocks) true) is_whole

      pub rest_may_be_numbered : MayBeNumbered h (is_marked marks)
      rest_may_be_numbered =
          subst (λ k. MayBeNumbered k (is_marked marks)) (sym is_whole)
          (subst (λ m. MayBeNumbered whole (is_marked m)) (sym same_marks)
          (marked.may_be_numbered whole (may_be_numbered f masks written.by used checked.within printable.call_places)))

      pub rest_once : DefinesKeptOnce h (is_marked marks)
      rest_once =
          subst (λ k. DefinesKeptOnce k (is_marked marks)) (sym is_whole)
          (subst (λ m. DefinesKeptOnce whole (is_marked m)) (sym same_marks)
          (marked.once whole (kept_once f masks written.by used printable checked.once)))

      pub rest_few : length h.blocks ≤ 2 ^ 32
      rest_few =
          let count : length h.blocks ≡ length f.blocks = ap (λ (k : Function). length k.blocks) is_whole ∙ same_length f masks written.by used in
          let most = checked.small.few.blocks in
          omega (arith, count, most)

      pub is_narrowed : AreUsed g (must_stay g) used → (n : Function) → n ≡ numbered h (is_marked marks) → IsNarrowed f masks n
      is_narrowed are_used n is = record {
        by = written.by;
        used = used;
        are_reached = written.are_reached;
        are_changed = written.are_changed;
        are_used = subst (λ (k : Function). AreUsed k (must_stay k) used) written.is are_used;
        is = is ∙ ap (λ k. numbered k (is_marked marks)) is_whole ∙ ap (λ m. numbered whole (is_marked m)) same_marks ∙ marked.same_numbered whole;
      }
