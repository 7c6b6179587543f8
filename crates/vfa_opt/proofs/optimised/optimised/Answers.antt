use Rattle.std.proofs.Common.{subst}
use Rattle.vfa_bits.specs.Narrowed.{IsNarrowed}
use Rattle.vfa_walk.specs.Kept.{kept_entries}
use Rattle.vfa_demand.specs.Masks.{mask_in}
use Rattle.vfa_opt.proofs.optimised.optimised.Goals as goal

pub returns-clause-optimised : goal.returns-clause-optimised
returns-clause-optimised c = record {
  table = kept_entries c.in_ok-table.table;
  is_table = c.in_ok-table.ensures.table;
  simpler = c.in_ok-simpler.simpler;
  is_rewritten = c.in_ok-simpler.ensures.rewritten;
  masks = mask_in c.in_ok-asked.asked.items;
  are_masks = c.in_ok-asked.ensures.masks;
  is_narrowed = subst (λ m. IsNarrowed c.in_ok-simpler.simpler (mask_in m) c.in_ok-narrow.narrow) c.deref.ensures.value c.in_ok-narrow.ensures.narrowed;
}
