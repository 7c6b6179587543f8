use Rattle.std.proofs.Common.{◌++◌, ℕ, [], map, nat_eq, if◌then◌else◌, ◌∙◌, ap}
use Rattle.vfa_ir.specs.declared.operations.BlockId.{BlockId}
use Rattle.vfa_walk.specs.Landmarks.{literal_of}
use Rattle.vfa_walk.proofs.Marking.{then_more, cases_same}
use Rattle.vfa_walk.proofs.landmarks.add_switch.Goals as goal

pub returns : goal.returns
returns c =
    then_more c.args.marks.now.items c.add_operand.new.marks.items c.add_cases.new.marks.items (literal_of c.args.width c.args.own c.args.on)
    (if nat_eq c.args.own c.args.width then map (λ (d : ℕ × BlockId). d.0) c.args.cases.now else [])
    c.in_ok-add_operand.ensures (c.in_ok-add_cases.ensures ∙ ap (λ l. c.add_operand.new.marks.items ++ l) (cases_same c.args.width c.args.own c.args.cases.now))
