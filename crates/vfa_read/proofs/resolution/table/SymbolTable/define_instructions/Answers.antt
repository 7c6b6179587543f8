use Rattle.std.proofs.Common.{◌+◌, ◌∷◌, [], drop, subst}
use Rattle.vfa_read.specs.Resolving.{Left}
use Rattle.vfa_read.proofs.Definitions.{left_then, left_repeated, room_for, err_is, instruction_names, next_instruction}
use Rattle.vfa_read.proofs.resolution.table.SymbolTable.define_instructions.Goals as goal

pub define_instruction-requires : goal.define_instruction-requires
define_instruction-requires c =
    let xs = c.args.instructions.now in
    let i = c.each.instruction-index in
    let x = c.instruction-item.result in
    let left = subst (Left c.args.self.now (instruction_names xs) c.each.self) (next_instruction xs i x c.each-test.true c.instruction-item.is) c.each.invariant in
    room_for c.args.self.now (instruction_names xs) c.each.self (instruction_names (x ∷ [])) (instruction_names (drop (i + 1) xs)) 4096 left c.requires

pub each-preserved : goal.each-preserved
each-preserved c =
    let xs = c.args.instructions.now in
    let i = c.each.instruction-index in
    let x = c.instruction-item.result in
    let left = subst (Left c.args.self.now (instruction_names xs) c.each.self) (next_instruction xs i x c.each-test.true c.instruction-item.is) c.each.invariant in
    left_then c.args.self.now (instruction_names xs) c.each.self c.define_instruction.new.self (instruction_names (x ∷ [])) (instruction_names (drop (i + 1) xs)) left c.in_ok-define_instruction.ensures.ok

pub returns-in_err-define_instruction-clause-err : goal.returns-in_err-define_instruction-clause-err
returns-in_err-define_instruction-clause-err c =
    let xs = c.args.instructions.now in
    let i = c.each.instruction-index in
    let x = c.instruction-item.result in
    let left = subst (Left c.args.self.now (instruction_names xs) c.each.self) (next_instruction xs i x c.each-test.true c.instruction-item.is) c.each.invariant in
    err_is _ _ _ c.from_residual.ensures.1 (left_repeated c.args.self.now (instruction_names xs) c.each.self (instruction_names (x ∷ [])) (instruction_names (drop (i + 1) xs)) c.in_err-define_instruction.field-0.0 left c.in_err-define_instruction.ensures.err)
