use Rattle.std.proofs.Common.{◌⊎◌, inl, inr, ℕ, List}
use Rattle.vfa_ir.specs.declared.functions.Function.{Function}
use Rattle.vfa_ir.specs.declared.functions.Lines.{Lines}
use Rattle.vfa_ir.specs.declared.reasons.Outside.{Outside}
use Rattle.vfa_ir.specs.Reads.{IsAccepted, IsReason}
use Rattle.vfa_ir.specs.Tokens.{tokens_of}
use Rattle.vfa_check.specs.Checked.{IsWellFormed, MayBeChecked}
use Rattle.vfa_check.specs.Refusals.{IsRefusal}
use Rattle.vfa_opt.specs.Acceptance.{IsInside, IsOutside}
use Rattle.vfa_opt.proofs.acceptance.inside_or_outside.Goals as goal

abbrev Answer : List ℕ → Type 0
Answer text = ((f : Function) × IsInside text f) ⊎ ((reason : Outside) × IsOutside text reason)

judged : (text : List ℕ) (f : Function) (lines : Lines) → IsAccepted text (tokens_of text) f lines →
    IsWellFormed f ⊎ ((reason : Outside) × IsRefusal f lines reason) → Answer text
judged text f lines reads (inl formed) = inl (f, record { lines = lines; reads = reads; formed = formed })
judged text f lines reads (inr r) = inr (r.0, inr (record { function = f; lines = lines; reads = reads; refused = r.1 }))

either : ((text : List ℕ) (f : Function) (lines : Lines) → IsAccepted text (tokens_of text) f lines → MayBeChecked f lines) →
    ((f : Function) (lines : Lines) → MayBeChecked f lines → IsWellFormed f ⊎ ((reason : Outside) × IsRefusal f lines reason)) →
    (text : List ℕ) → ((f : Function) × (lines : Lines) × IsAccepted text (tokens_of text) f lines)
    ⊎ ((reason : Outside) × IsReason text (tokens_of text) reason) → Answer text
either may formed text (inl a) = judged text a.0 a.1 a.2 (formed a.0 a.1 (may text a.0 a.1 a.2))
either may formed text (inr r) = inr (r.0, inl r.1)

pub returns : goal.returns
returns c = λ text. either c.accepted_may_be_checked.ensures c.well_formed_or_refused.ensures text (c.accepted_or_reason.ensures text)
