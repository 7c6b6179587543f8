use Rattle.std.proofs.Common.{sym, subst}
use Rattle.vfa_mean.specs.Numbering.{each_number, numbered}
use Rattle.vfa_mean.specs.Refines.{Refines}
use Rattle.vfa_mean.proofs.KeptParts.{numbering_refines}
use Rattle.vfa_mean.proofs.Refining.{Refines-trans}
use Rattle.vfa_bits.specs.Narrowed.{left, rewritten}
use Rattle.vfa_bits.proofs.Kept.{may_be_numbered}
use Rattle.vfa_bits.proofs.Narrowing.{narrowed_refines}
use Rattle.vfa_bits.proofs.laws.narrowing_refines.Goals as goal

pub returns : goal.returns
returns c f g masks checked are n =
    let printable = c.fit_is_printable.ensures f checked.fit in
    let whole = left n.used (rewritten f masks n.by) in
    let refined = narrowed_refines f masks n.by n.used
    (record { printable = printable; typed = checked.formed.typed; once = checked.once; defined = checked.formed.defined; are = are; are_changed = n.are_changed })
    n.are_reached n.are_used in
    subst (Refines f) (sym n.is)
    (Refines-trans f whole (numbered whole each_number) refined (numbering_refines whole each_number (may_be_numbered f masks n.by n.used checked.within printable.call_places)))
