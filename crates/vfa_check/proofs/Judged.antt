-- Each function that may be checked is well formed or has a refusal.
use Rattle.std.proofs.Common.{◌⊎◌, inl, inr, ℕ, refl}
use Rattle.vfa_ir.specs.declared.functions.Function.{Function}
use Rattle.vfa_ir.specs.declared.functions.Lines.{Lines}
use Rattle.vfa_ir.specs.declared.reasons.Outside.{Outside}
use Rattle.vfa_ir.specs.Defined.{Defined}
use Rattle.vfa_ir.specs.PhisFit.{PhisFit}
use Rattle.vfa_ir.specs.Shown.{shown_block_name}
use Rattle.vfa_ir.specs.Typed.{Typed}
use Rattle.vfa_check.specs.Checked.{IsWellFormed, MayBeChecked}
use Rattle.vfa_check.specs.Items.{IllTypedAt}
use Rattle.vfa_check.specs.Misfit.{FirstMisfit}
use Rattle.vfa_check.specs.Refusals.{IsRefusal}
use Rattle.vfa_check.proofs.PhisDecided.{fit_or_misfit}
use Rattle.vfa_check.proofs.TypedDecided.{typed_or_ill}
use Rattle.vfa_check.proofs.WalksDecided.{Undefined, defined_or_undefined}

abbrev Judged : Function → Lines → Type 0
Judged f lines = IsWellFormed f ⊎ ((reason : Outside) × IsRefusal f lines reason)

by_names : (f : Function) (lines : Lines) → Typed f → PhisFit f → Defined f ⊎ Undefined f → Judged f lines
by_names f lines typed fits (inl defined) = inl (record { typed = typed; phis = fits; defined = defined })
by_names f lines typed fits (inr u) = inr (Outside.Undefined u.name u.block, u.found)

by_phis : (f : Function) (lines : Lines) → Typed f → PhisFit f ⊎ ((block : ℕ) × FirstMisfit f block) → Judged f lines
by_phis f lines typed (inl fits) = by_names f lines typed fits (defined_or_undefined f typed fits)
by_phis f lines typed (inr m) =
    inr (Outside.Phi (shown_block_name f m.0), record { typed = typed; block = m.0; first = m.1; shown = refl })

by_types : (f : Function) (lines : Lines) → Typed f ⊎ ((line : ℕ) × IllTypedAt f lines line) → Judged f lines
by_types f lines (inl typed) = by_phis f lines typed (fit_or_misfit f)
by_types f lines (inr ill) = inr (Outside.Types ill.0, ill.1)

pub well_formed_or_refused : (f : Function) (lines : Lines) → MayBeChecked f lines → IsWellFormed f ⊎ ((reason : Outside) × IsRefusal f lines reason)
well_formed_or_refused f lines may = by_types f lines (typed_or_ill f lines may.each_line)
