use Rattle.std.proofs.Common.{arith}
use Rattle.vfa_walk.proofs.LoopFree.{no_heads}
use Rattle.vfa_walk.proofs.loop_free.has_head.Goals as goal

pub returns : goal.returns
returns c = no_heads c.args.f.now c.args.order.now (λ k less. c.order.invariant k (omega arith))
