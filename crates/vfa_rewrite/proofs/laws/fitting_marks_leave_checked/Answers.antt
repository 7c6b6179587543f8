use Rattle.std.proofs.Common.{◌<◌, ◌+◌, ◌^◌, length, arith}
use Rattle.vfa_mean.specs.Numbering.{numbered}
use Rattle.vfa_rewrite.specs.Rewritten.{rewritten}
use Rattle.vfa_rewrite.proofs.CheckedLeft.{may_be_numbered, defines_once, has_its_names, kept_typed, kept_phis_fit, kept_printable, little_larger}
use Rattle.vfa_rewrite.proofs.DefinitionsLeft.{left_defined}
use Rattle.vfa_rewrite.proofs.LeftLines.{Known}
use Rattle.vfa_rewrite.proofs.laws.fitting_marks_leave_checked.Goals as goal

pub returns-clause-little_larger : goal.returns-clause-little_larger
returns-clause-little_larger c f found m checked fits marks =
    let formed = checked.formed in
    let known : Known f found m =
    record { printable = c.fit_is_printable.ensures f checked.fit; typed = formed.typed; phis = formed.phis; defined = formed.defined; fits = fits; marks = marks } in
    little_larger f found m known checked.within

pub returns-clause-checked : goal.returns-clause-checked
returns-clause-checked c f found m checked fits marks small =
    let formed = checked.formed in
    let known : Known f found m =
    record { printable = c.fit_is_printable.ensures f checked.fit; typed = formed.typed; phis = formed.phis; defined = formed.defined; fits = fits; marks = marks } in
    let whole = rewritten f m in
    let may = may_be_numbered f found m known checked.within in
    let names = has_its_names f found m known checked.within in
    let fit = kept_phis_fit f found m known checked.within in
    let made = c.numbered_is_printable.ensures whole m.reached may (defines_once f found m known checked.within) names fit (kept_printable f found m known checked.within) in
    let sizes = little_larger f found m known checked.within in
    let few = checked.small.few in
    let less : length (numbered whole m.reached).values + length (numbered whole m.reached).blocks < 10 ^ 64 =
    let b = sizes.blocks in let k = few.blocks in omega arith in
    let text = c.printable_is_fit.ensures (numbered whole m.reached) made less in
    record {
      fit = text;
      small = record {
        values = small;
        few = record { blocks = let b = sizes.blocks in let k = few.blocks in omega arith; cases = sizes.edges (2 ^ 28 + 1) few.cases };
      };
      within = c.fit_is_within.ensures (numbered whole m.reached) text;
      once = c.fit_defines_once.ensures.once (numbered whole m.reached) text;
      in_order = c.fit_defines_once.ensures.in_order (numbered whole m.reached) text;
      formed = record {
        typed = c.numbering_keeps_types.ensures whole m.reached may names (kept_typed f found m known checked.within);
        phis = c.numbering_keeps_phis.ensures whole m.reached may fit;
        defined = c.numbering_keeps_definitions.ensures whole m.reached may (left_defined f found m known);
      };
    }
