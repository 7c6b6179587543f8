use Rattle.vfa_mean.proofs.KeptLoops.{ok_weaker}
use Rattle.vfa_demand.proofs.PutDefinitions.{block_put, more_then, ok_two}
use Rattle.vfa_demand.proofs.definitions.put_block.Goals as goal

pub returns-clause-more : goal.returns-clause-more
returns-clause-more c = ok_weaker _ _ c.put_lines.result (λ _ more. more_then _ _ _ c.in_ok-put_phis.ensures.more more) c.put_lines.ensures.more

pub returns-clause-put : goal.returns-clause-put
returns-clause-put c =
    ok_two _ _ _ c.put_lines.result
    (λ _ more put. block_put c.args.number c.args.block.now c.as_slice.result.now c.as_slice-2.result.now _ _ c.as_slice.ensures c.as_slice-2.ensures more c.in_ok-put_phis.ensures.put put)
    c.put_lines.ensures.more c.put_lines.ensures.put
