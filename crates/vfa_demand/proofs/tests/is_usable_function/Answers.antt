use Rattle.std.proofs.Common.{All, length, subst}
use Rattle.vfa_ir.specs.declared.functions.Block.{Block}
use Rattle.vfa_demand.specs.Usable.{IsUsableBlock}
use Rattle.vfa_demand.proofs.tests.is_usable_function.Goals as goal

pub returns : goal.returns
returns c = λ usable.
    let f = c.args.f.now in
    subst (All (λ (x : Block). IsUsableBlock f (length f.values) x)) c.as_slice.ensures (c.are_blocks_usable.ensures usable)
