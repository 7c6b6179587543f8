use Rattle.std.proofs.Common.{◌≡◌, [], ◌++◌, ◌∙◌, ap, map, rules}
use Rattle.std.specs.Prelude.{flat_map}
use Rattle.vfa_ir.specs.Defined.{op_names, term_names}
use Rattle.vfa_ir.specs.Printable.{inst_ids}
use Rattle.vfa_report.specs.Met.{MarksMore, HasMet}
use Rattle.vfa_report.proofs.FirstUses.{met_both, met_same, first_uses_of}
use Rattle.vfa_report.proofs.uses.names_in.Goals as goal

pub returns : goal.returns
returns c =
    let block = c.args.block.now in
    let phis = map (λ p. p.result.0) block.phis in
    let insts = inst_ids block.insts in
    let used = flat_map (λ i. op_names c.args.f.now i.op) block.insts in
    let first : MarksMore [] c.mark_phis.new.self.marks phis = search rules in
    let second : MarksMore c.mark_phis.new.self.marks c.mark_results.new.self.marks insts = search rules in
    let none : c.mark_results.new.self.names ≡ [] = search rules in
    let operations : HasMet c.mark_results.new.self c.operations.new.self used =
    met_same _ _ _ used (ap (flat_map (λ i. op_names c.args.f.now i.op)) c.as_slice-3.ensures) c.in_ok-operations.ensures in
    let end : HasMet c.operations.new.self c.terminator.new.self (term_names block.term) = search rules in
    c.into_names.ensures
    ∙ first_uses_of c.mark_phis.new.self c.mark_results.new.self c.terminator.new.self phis insts (used ++ term_names block.term) first second none
    (met_both c.mark_results.new.self c.operations.new.self c.terminator.new.self used (term_names block.term) operations end)
