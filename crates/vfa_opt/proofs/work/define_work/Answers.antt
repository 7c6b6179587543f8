use Rattle.std.proofs.Common.{◌≡◌, true}
use Rattle.vfa_opt.proofs.Working.{function_worked, carried_worked}
use Rattle.vfa_opt.proofs.work.define_work.Goals as goal

pub returns-in-Ok : goal.returns-in-Ok
returns-in-Ok c =
    function_worked c.args.writing c.args.bytes.now c.args.start c.args.end c.args.line c.in-Ok.f c.function_work.result c.in-Ok.ensures.inside
    (c.function_work.ensures c.args.bytes.now)

pub returns-in_ok-function-in-Err : goal.returns-in_ok-function-in-Err
returns-in_ok-function-in-Err c =
    carried_worked c.args.writing c.args.bytes.now c.args.start c.args.end c.args.line c.in_ok-function-in-Err.function c.in-Err.reason c.requires.range
    (λ memory. let yes : c.is_memory.result ≡ true = c.is_memory.ensures.1 memory in cc (yes, c.if-is_memory.false))
    c.in-Err.ensures.outside c.in_ok-function-in-Err.ensures.name c.in_ok-function-in-Err.ensures.reason
