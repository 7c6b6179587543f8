use Rattle.std.proofs.Common.{◌≡◌, All, Some, subst, sym}
use Rattle.std.specs.List.{slice_get}
use Rattle.vfa_check.proofs.Sources.{one_from_written, written_from_one}
use Rattle.vfa_check.proofs.tallies.has_one_operand.Goals as goal

pub returns-clause-one : goal.returns-clause-one
returns-clause-one c =
    let written = c.write.new.operands.items in (
      λ yes. one_from_written c.args.entries.now written
          (subst (λ items. All (λ e. slice_get items e.1.0 ≡ Some e.0) c.args.entries.now) c.as_slice.ensures.value (c.are_written.ensures.0 yes)),
      λ one. c.are_written.ensures.1
          (subst (λ items. All (λ e. slice_get items e.1.0 ≡ Some e.0) c.args.entries.now) (sym c.as_slice.ensures.value)
          (written_from_one c.args.entries.now written one c.write.ensures.written)),
    )
