-- What `opt` makes of a function: it is rewritten by the facts of its table, after LLVM's Correlated Value Propagation, and then
-- narrowed by the bits that are asked for, after LLVM's DemandedBits.
--
-- Of
--   %a = and i32 %x, 65535
--   %s = add nsw i32 %a, %y
--   %t = trunc i32 %s to i8
--   ret i8 %t
-- the facts change nothing. Of %s eight bits are asked for, so %x takes the place of %a, and `nsw` goes:
--   %s = add i32 %x, %y
--   %t = trunc i32 %s to i8
--   ret i8 %t
use Rattle.std.specs.Prelude.{◌≡◌, ℕ, List}
use Rattle.vfa_ir.specs.declared.functions.Function.{Function}
use Rattle.vfa_print.specs.Trees.{function_text}
use Rattle.vfa_xfer.specs.declared.any_fact.AnyFact.{AnyFact}
use Rattle.vfa_xfer.specs.Transfers.{fact_answers}
use Rattle.vfa_walk.specs.Tables.{States, IsTableOf}
use Rattle.vfa_rewrite.specs.Rewriting.{IsRewritten}
use Rattle.vfa_demand.specs.Masks.{AreMasks}
use Rattle.vfa_bits.specs.Narrowed.{IsNarrowed}

-- the second function is the first one, rewritten by its table and narrowed by the least masks of what that leaves
pub record IsOptimised (f g : Function) : Type 0 where
  pub table : States AnyFact
  pub is_table : IsTableOf fact_answers f table
  pub simpler : Function
  pub is_rewritten : IsRewritten f table simpler
  pub masks : ℕ → ℕ
  pub are_masks : AreMasks simpler masks
  pub is_narrowed : IsNarrowed simpler masks g

-- the text is that of the optimised function
pub record IsOptimisedText (f : Function) (text : List ℕ) : Type 0 where
  pub function : Function
  pub is_optimised : IsOptimised f function
  pub is : text ≡ function_text function
