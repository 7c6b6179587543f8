use Rattle.std.proofs.Common.{◌+◌, drop, subst, arith, sym}
use Rattle.vfa_read.specs.Resolving.{Left}
use Rattle.vfa_read.proofs.Definitions.{left_then, left_repeated, room_for, err_is, next_parameter, values_of_parameters, value_of_parameter, next_number, next_number_le}
use Rattle.vfa_read.proofs.NameCounts.{length-parameter_names}
use Rattle.vfa_read.proofs.resolution.table.SymbolTable.define_parameters.Goals as goal

pub define_parameter-requires-clause-values : goal.define_parameter-requires-clause-values
define_parameter-requires-clause-values c =
    let xs = c.args.parameters.now in
    let i = c.each.parameter-index in
    let x = c.parameter-item.result in
    let old = c.args.self.now in
    let now = c.each.self in
    let names = values_of_parameters 0 xs in
    let left = subst (Left old names now) (next_parameter c.each.numbered xs i x c.each-test.true c.parameter-item.is) c.each.invariant.0 in
    let b = room_for old names now (value_of_parameter c.each.numbered x) (values_of_parameters (next_number c.each.numbered x) (drop (i + 1) xs)) 4096 left c.requires in omega (arith, b)

pub define_parameter-requires-clause-few : goal.define_parameter-requires-clause-few
define_parameter-requires-clause-few c =
    let xs = c.args.parameters.now in
    let i = c.each.parameter-index in
    let x = c.parameter-item.result in
    let old = c.args.self.now in
    let now = c.each.self in
    let names = values_of_parameters 0 xs in
    let left = subst (Left old names now) (next_parameter c.each.numbered xs i x c.each-test.true c.parameter-item.is) c.each.invariant.0 in
    let e = length-parameter_names 0 xs in omega (arith, e, c.each.invariant.1, c.requires)

pub each-preserved : goal.each-preserved
each-preserved c =
    let xs = c.args.parameters.now in
    let i = c.each.parameter-index in
    let x = c.parameter-item.result in
    let old = c.args.self.now in
    let now = c.each.self in
    let names = values_of_parameters 0 xs in
    let left = subst (Left old names now) (next_parameter c.each.numbered xs i x c.each-test.true c.parameter-item.is) c.each.invariant.0 in
    let after = left_then old names now c.define_parameter.new.self (value_of_parameter c.each.numbered x) (values_of_parameters (next_number c.each.numbered x) (drop (i + 1) xs)) left c.in_ok-numbered.ensures.ok in
    let next = c.in_ok-numbered.ensures.next in
    let bound = next_number_le c.each.numbered x in
    (subst (λ n. Left old names c.define_parameter.new.self (values_of_parameters n (drop (i + 1) xs))) (sym next) after, omega (arith, bound, next, c.each.invariant.1))

pub returns-in_err-numbered-clause-err : goal.returns-in_err-numbered-clause-err
returns-in_err-numbered-clause-err c =
    let xs = c.args.parameters.now in
    let i = c.each.parameter-index in
    let x = c.parameter-item.result in
    let old = c.args.self.now in
    let now = c.each.self in
    let names = values_of_parameters 0 xs in
    let left = subst (Left old names now) (next_parameter c.each.numbered xs i x c.each-test.true c.parameter-item.is) c.each.invariant.0 in
    err_is _ _ _ c.from_residual.ensures.1 (left_repeated old names now (value_of_parameter c.each.numbered x) (values_of_parameters (next_number c.each.numbered x) (drop (i + 1) xs)) c.in_err-numbered.field-0.0 left c.in_err-numbered.ensures.err)
