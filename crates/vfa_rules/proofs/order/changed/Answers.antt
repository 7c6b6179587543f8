use Rattle.std.proofs.Common.{refl, sym, ◌∙◌, subst}
use Rattle.vfa_ir.specs.declared.operations.Op.{Op}
use Rattle.vfa_fact.specs.Cells.{CellValue}
use Rattle.vfa_rules.specs.Facts.{number_cell, bit_cell}
use Rattle.vfa_rules.specs.Order.{Known}
use Rattle.vfa_rules.specs.Ready.{AreReady}
use Rattle.vfa_rules.specs.Rules.{plain_arithmetic, unsigned_form}
use Rattle.vfa_rules.proofs.Chains.{by_arm, by_kept, by_narrow, by_frozen, by_assume}
use Rattle.vfa_rules.proofs.Readiness.{ready_first, ready_after, ready_at}
use Rattle.vfa_rules.proofs.order.changed.Goals as goal

pub returns-in-Some : goal.returns-in-Some
returns-in-Some c =
    let k : Known = record { a = c.args.a.now; b = c.args.b.now; c = c.args.c.now; call = c.args.call; used = c.args.used } in
    by_arm k c.args.op.now (number_cell k.a) (number_cell k.b) c.number_cell-condition.result.now (bit_cell k.c) refl refl c.number_cell-condition.ensures refl
    c.chosen_arm.result c.chosen_arm.ensures c.in-Some.arm c.in-Some.is

pub returns-in-Some-kept_operand : goal.returns-in-Some-kept_operand
returns-in-Some-kept_operand c =
    let k : Known = record { a = c.args.a.now; b = c.args.b.now; c = c.args.c.now; call = c.args.call; used = c.args.used } in
    by_kept k c.args.op.now c.number_cell-x.result.now c.number_cell-y.result.now c.number_cell-condition.result.now (bit_cell k.c) c.number_cell-x.ensures c.number_cell-y.ensures c.number_cell-condition.ensures refl
    c.chosen_arm.result c.chosen_arm.ensures c.in_default.is c.kept_operand.result c.kept_operand.ensures c.in-Some-kept_operand.kept c.in-Some-kept_operand.is

pub gained_words-gained-requires : goal.gained_words-gained-requires
gained_words-gained-requires c =
    let k : Known = record { a = c.args.a.now; b = c.args.b.now; c = c.args.c.now; call = c.args.call; used = c.args.used } in
    ready_at k c.args.op.now c.requires.facts c.requires.operation c.number_cell-x.result.now c.number_cell-y.result.now c.bit_cell.result.now
    c.number_cell-x.ensures c.number_cell-y.ensures c.bit_cell.ensures c.plain_arithmetic-plain.result c.unsigned_form-unsigned.result
    c.plain_arithmetic-plain.ensures c.unsigned_form-unsigned.ensures

pub returns-in-Some-narrow_width : goal.returns-in-Some-narrow_width
returns-in-Some-narrow_width c =
    let k : Known = record { a = c.args.a.now; b = c.args.b.now; c = c.args.c.now; call = c.args.call; used = c.args.used } in
    by_narrow k c.args.op.now c.number_cell-x.result.now c.number_cell-y.result.now c.number_cell-condition.result.now c.bit_cell.result.now c.number_cell-x.ensures c.number_cell-y.ensures c.number_cell-condition.ensures c.bit_cell.ensures
    c.chosen_arm.result c.chosen_arm.ensures c.in_default.is c.kept_operand.result c.kept_operand.ensures c.in_default-kept_operand.is c.plain_arithmetic-plain.result c.unsigned_form-unsigned.result
    c.plain_arithmetic-plain.ensures c.unsigned_form-unsigned.ensures c.narrow_width.result c.narrow_width.ensures c.in-Some-narrow_width.width c.in-Some-narrow_width.is

pub returns-in-Some-frozen_operand : goal.returns-in-Some-frozen_operand
returns-in-Some-frozen_operand c =
    let k : Known = record { a = c.args.a.now; b = c.args.b.now; c = c.args.c.now; call = c.args.call; used = c.args.used } in
    by_frozen k c.args.op.now c.number_cell-x.result.now c.number_cell-y.result.now c.number_cell-condition.result.now c.bit_cell.result.now c.number_cell-x.ensures c.number_cell-y.ensures c.number_cell-condition.ensures c.bit_cell.ensures
    c.chosen_arm.result c.chosen_arm.ensures c.in_default.is c.kept_operand.result c.kept_operand.ensures c.in_default-kept_operand.is c.plain_arithmetic-plain.result c.unsigned_form-unsigned.result
    c.plain_arithmetic-plain.ensures c.unsigned_form-unsigned.ensures c.narrow_width.result c.narrow_width.ensures c.in_default-narrow_width.is c.gained_words-gained.result c.gained_words-gained.ensures c.frozen_operand.result c.frozen_operand.ensures c.in-Some-frozen_operand.frozen c.in-Some-frozen_operand.is

pub returns : goal.returns
returns c =
    let k : Known = record { a = c.args.a.now; b = c.args.b.now; c = c.args.c.now; call = c.args.call; used = c.args.used } in
    by_assume k c.args.op.now c.number_cell-x.result.now c.number_cell-y.result.now c.number_cell-condition.result.now c.bit_cell.result.now c.number_cell-x.ensures c.number_cell-y.ensures c.number_cell-condition.ensures c.bit_cell.ensures
    c.chosen_arm.result c.chosen_arm.ensures c.in_default.is c.kept_operand.result c.kept_operand.ensures c.in_default-kept_operand.is c.plain_arithmetic-plain.result c.unsigned_form-unsigned.result
    c.plain_arithmetic-plain.ensures c.unsigned_form-unsigned.ensures c.narrow_width.result c.narrow_width.ensures c.in_default-narrow_width.is c.gained_words-gained.result c.gained_words-gained.ensures c.frozen_operand.result c.frozen_operand.ensures c.without_assume.result c.in_default-frozen_operand.is c.without_assume.ensures
