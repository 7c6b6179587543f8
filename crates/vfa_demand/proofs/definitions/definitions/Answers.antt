use Rattle.std.proofs.Common.{◌≡◌, ◌∙◌, List, ap, length, subst}
use Rattle.std.proofs.lemmas.List.{length-replicate}
use Rattle.vfa_ir.specs.declared.functions.Block.{Block}
use Rattle.vfa_demand.specs.Definitions.{BlocksPut}
use Rattle.vfa_demand.proofs.definitions.definitions.Goals as goal

pub returns : goal.returns
returns c = record {
  whole = c.in_ok-put_blocks.ensures.more.whole ∙ ap length c.in_ok-all.ensures ∙ length-replicate _ _ ∙ ap length c.as_slice.ensures;
  blocks = subst (λ (bs : List Block). BlocksPut bs c.put_blocks.new.all.items) c.as_slice-2.ensures c.in_ok-put_blocks.ensures.put;
}
