-- The first use that some walk misses: the value and the block are those of the function.
use Rattle.std.proofs.Common.{◌≡◌, ◌∙◌, ℕ, ◌<◌, List, [], ◌∷◌, ◌++◌, length, take, All, Some, refl, sym, ap, subst}
use Rattle.std.proofs.Math.Seq.{take-append_seam}
use Rattle.std.specs.List.{AllByRecursion, slice_get}
use Rattle.vfa_ir.specs.declared.functions.Function.{Function}
use Rattle.vfa_ir.specs.Defined.{NameUse, UseIsDefined, uses_of}
use Rattle.vfa_ir.specs.PhisFit.{PhisFit}
use Rattle.vfa_ir.specs.Shown.{shown_block_name, shown_value_name}
use Rattle.vfa_ir.specs.Typed.{Typed}
use Rattle.vfa_check.specs.declared.uses.MissedUse.{MissedUse}
use Rattle.vfa_check.specs.MissedUses.{IsFirstMissed}
use Rattle.vfa_check.specs.Refusals.{UndefinedAt}
use Rattle.vfa_check.proofs.UsesWithin.{IsUseWithin, all_within}

in_the_middle : {A : Type 0} (P : A → Type 0) (front : List A) (x : A) (back : List A) → AllByRecursion P (front ++ x ∷ back) → P x
in_the_middle P [] x back h = h.0
in_the_middle P (y ∷ front) x back h = in_the_middle P front x back h.1

stands_there : {A : Type 0} (front : List A) (x : A) (back : List A) → slice_get (front ++ x ∷ back) (length front) ≡ Some x
stands_there [] x back = refl
stands_there (y ∷ front) x back = stands_there front x back

pub missed_within : (f : Function) (m : MissedUse) → Typed f → PhisFit f → IsFirstMissed f (uses_of f) m →
    (m.name.0 < length f.values) × (m.block.0 < length f.blocks)
missed_within f m typed fits first =
    let u : NameUse = record { name = m.name.0; block = m.block.0; line = first.line } in
    let here : IsUseWithin f u = in_the_middle (IsUseWithin f) first.before u first.after (subst (AllByRecursion (IsUseWithin f)) first.are (all_within f typed fits)) in
    (here.name, here.block)

pub undefined_at : (f : Function) (m : MissedUse) (name block : List ℕ) → Typed f → PhisFit f → IsFirstMissed f (uses_of f) m →
    name ≡ shown_value_name f m.name.0 → block ≡ shown_block_name f m.block.0 → UndefinedAt f name block
undefined_at f m name block typed fits first named placed =
    let u : NameUse = record { name = m.name.0; block = m.block.0; line = first.line } in
    record {
      typed = typed;
      phis = fits;
      place = length first.before;
      missed = u;
      before = subst (All (UseIsDefined f)) (sym (ap (take (length first.before)) first.are ∙ take-append_seam first.before (u ∷ first.after))) first.defined;
      stands = ap (λ us. slice_get us (length first.before)) first.are ∙ stands_there first.before u first.after;
      walk = first.missed;
      name_shown = named;
      block_shown = placed;
    }
