use Rattle.std.proofs.Common.{◌<◌, ◌+◌, ◌^◌, length, sym, subst, arith}
use Rattle.vfa_check.specs.Checked.{IsChecked}
use Rattle.vfa_mean.specs.Numbering.{each_number, numbered}
use Rattle.vfa_bits.specs.Narrowed.{left, rewritten}
use Rattle.vfa_bits.specs.Sizes.{IsNoLarger}
use Rattle.vfa_bits.proofs.ByParts.{kept_once}
use Rattle.vfa_bits.proofs.Chains.{Known}
use Rattle.vfa_bits.proofs.Kept.{may_be_numbered}
use Rattle.vfa_bits.proofs.LeftBlocks.{kept_typed, kept_printable, kept_phis_fit}
use Rattle.vfa_bits.proofs.LeftDefined.{left_defined}
use Rattle.vfa_bits.proofs.LeftNames.{has_its_names}
use Rattle.vfa_bits.proofs.LeftSizes.{no_larger, few_blocks}
use Rattle.vfa_bits.proofs.laws.narrowed_is_checked.Goals as goal

pub returns-clause-no_larger : goal.returns-clause-no_larger
returns-clause-no_larger c f g masks checked n = subst (IsNoLarger f) (sym n.is) (no_larger f masks n.by n.used checked.in_order)

pub returns-clause-checked : goal.returns-clause-checked
returns-clause-checked c f g masks checked are n =
    let printable = c.fit_is_printable.ensures f checked.fit in
    let known : Known f masks n.by.changed =
    record { printable = printable; typed = checked.formed.typed; once = checked.once; defined = checked.formed.defined; are = are; are_changed = n.are_changed } in
    let whole = left n.used (rewritten f masks n.by) in
    let may = may_be_numbered f masks n.by n.used checked.within printable.call_places in
    let once = kept_once f masks n.by n.used printable checked.once in
    let names = has_its_names f masks n.by n.used known n.are_reached n.are_used in
    let fit = kept_phis_fit f masks n.by n.used known checked.formed.phis checked.within.entry in
    let made = c.numbered_is_printable.ensures whole each_number may once names fit (kept_printable f masks n.by n.used known) in
    let sizes = no_larger f masks n.by n.used checked.in_order in
    let less : length (numbered whole each_number).values + length (numbered whole each_number).blocks < 10 ^ 64 =
    let v = sizes.values in let b = sizes.blocks in let m = checked.small.values in let k = checked.small.few.blocks in omega arith in
    let text = c.printable_is_fit.ensures (numbered whole each_number) made less in
    subst IsChecked (sym n.is) (record {
      fit = text;
      small = record { values = let v = sizes.values in let m = checked.small.values in omega arith; few = few_blocks f masks n.by n.used checked.in_order checked.small.few };
      within = c.fit_is_within.ensures (numbered whole each_number) text;
      once = c.fit_defines_once.ensures.once (numbered whole each_number) text;
      in_order = c.fit_defines_once.ensures.in_order (numbered whole each_number) text;
      formed = record {
        typed = c.numbering_keeps_types.ensures whole each_number may names (kept_typed f masks n.by n.used known);
        phis = c.numbering_keeps_phis.ensures whole each_number may fit;
        defined = c.numbering_keeps_definitions.ensures whole each_number may (left_defined f masks n.by n.used known n.are_reached n.are_used);
      };
    })
