use Rattle.std.proofs.Common.{◌+◌, drop, subst, arith}
use Rattle.vfa_read.specs.Resolving.{Left, names_of_block, names_of_blocks}
use Rattle.vfa_read.proofs.Definitions.{left_then, left_repeated, room_for, blocks_room_for, err_is, next_block}
use Rattle.vfa_read.proofs.resolution.table.SymbolTable.define_blocks.Goals as goal

pub define_with_results-requires-clause-values : goal.define_with_results-requires-clause-values
define_with_results-requires-clause-values c =
    let xs = c.args.blocks.now in
    let i = c.each.block-index in
    let x = c.block-item.result in
    let old = c.args.self.now in
    let now = c.each.self in
    let names = names_of_blocks c.args.numbered xs in
    let left = subst (Left old names now) (next_block c.args.numbered xs i x c.each-test.true c.block-item.is) c.each.invariant in
    room_for old names now (names_of_block c.args.numbered x) (names_of_blocks c.args.numbered (drop (i + 1) xs)) 4096 left c.requires.values

pub define_with_results-requires-clause-blocks : goal.define_with_results-requires-clause-blocks
define_with_results-requires-clause-blocks c =
    let xs = c.args.blocks.now in
    let i = c.each.block-index in
    let x = c.block-item.result in
    let old = c.args.self.now in
    let now = c.each.self in
    let names = names_of_blocks c.args.numbered xs in
    let left = subst (Left old names now) (next_block c.args.numbered xs i x c.each-test.true c.block-item.is) c.each.invariant in
    let b = blocks_room_for old names now (names_of_block c.args.numbered x) (names_of_blocks c.args.numbered (drop (i + 1) xs)) 1024 left c.requires.blocks in omega (arith, b)

pub each-preserved : goal.each-preserved
each-preserved c =
    let xs = c.args.blocks.now in
    let i = c.each.block-index in
    let x = c.block-item.result in
    let old = c.args.self.now in
    let now = c.each.self in
    let names = names_of_blocks c.args.numbered xs in
    let left = subst (Left old names now) (next_block c.args.numbered xs i x c.each-test.true c.block-item.is) c.each.invariant in
    left_then old names now c.define_with_results.new.self (names_of_block c.args.numbered x) (names_of_blocks c.args.numbered (drop (i + 1) xs)) left c.in_ok-define_with_results.ensures.ok

pub returns-in_err-define_with_results-clause-err : goal.returns-in_err-define_with_results-clause-err
returns-in_err-define_with_results-clause-err c =
    let xs = c.args.blocks.now in
    let i = c.each.block-index in
    let x = c.block-item.result in
    let old = c.args.self.now in
    let now = c.each.self in
    let names = names_of_blocks c.args.numbered xs in
    let left = subst (Left old names now) (next_block c.args.numbered xs i x c.each-test.true c.block-item.is) c.each.invariant in
    err_is _ _ _ c.from_residual.ensures.1 (left_repeated old names now (names_of_block c.args.numbered x) (names_of_blocks c.args.numbered (drop (i + 1) xs)) c.in_err-define_with_results.field-0.0 left c.in_err-define_with_results.ensures.err)
