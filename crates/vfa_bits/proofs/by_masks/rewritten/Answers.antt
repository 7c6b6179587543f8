use Rattle.std.proofs.Common.{subst, sym}
use Rattle.vfa_ir.specs.declared.functions.Function.{Function}
use Rattle.vfa_demand.specs.Masks.{mask_in}
use Rattle.vfa_bits.specs.Tables.{AreReplacements}
use Rattle.vfa_bits.proofs.ValueWidths.{values_wide}
use Rattle.vfa_bits.proofs.by_masks.rewritten.Goals as goal

pub invariant_of-masked : goal.invariant_of-masked
invariant_of-masked c =
    let f : Function = c.args.f.now in
    record {
      widths = values_wide f (c.fit_is_printable.ensures f c.requires.checked.fit);
      few = c.requires.checked.small.values;
      are = subst (AreReplacements f (mask_in c.args.masks.now)) (sym c.as_slice.ensures.value) c.in_ok-table.ensures;
    }
