use Rattle.std.proofs.Common.{◌≤◌, ◌^◌, length, subst, arith}
use Rattle.vfa_rewrite.specs.Rewriting.{IsRewritten}
use Rattle.vfa_opt.proofs.OneOptimised.{one_table_is, typed_facts}
use Rattle.vfa_opt.proofs.OptimisedNumbers.{narrowed_numbers}
use Rattle.vfa_opt.proofs.optimised.numbers_are_printed.Goals as goal

pub returns : goal.returns
returns c f g t checked few o is =
    let printable = c.fit_is_printable.ensures f checked.fit in
    let typed = typed_facts f t checked printable is in
    let rewritten = subst (λ u. IsRewritten f u o.simpler) (one_table_is f o.table t o.is_table is) o.is_rewritten in
    let larger = c.rewritten_is_checked.ensures.little_larger f o.simpler t checked typed rewritten in
    let small : length o.simpler.values ≤ 2 ^ 28 = (let v = larger.values in omega (arith, v, few)) in
    let simpler = c.rewritten_is_checked.ensures.checked f o.simpler t checked typed rewritten small in
    narrowed_numbers f t o.simpler o.masks g (c.numbers_are_printed.ensures f o.simpler t checked typed rewritten) simpler (c.fit_is_printable.ensures o.simpler simpler.fit) o.are_masks o.is_narrowed
    (c.narrowed_is_checked.ensures.no_larger o.simpler g o.masks simpler o.is_narrowed)
