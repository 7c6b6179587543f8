use Rattle.std.proofs.Common.{◌≡◌, ◌<◌, ◌≤◌, ◌∙◌, ℕ, All, sym, arith, get_or, length, length-set, subst}
use Rattle.std.proofs.lemmas.List.{get_or_default, get_or_past, take_all}
use Rattle.std.proofs.lemmas.List.Elements.{All-more}
use Rattle.vfa_check.proofs.Counting.{named_too_often, no_entry, taken_next}
use Rattle.vfa_check.proofs.tallies.take_off.Goals as goal

pub returns-then-from-len-clause-lacks : goal.returns-then-from-len-clause-lacks
returns-then-from-len-clause-lacks c = λ _.
    let from : ℕ = (get_or c.args.entries.now c.entries.entry-index no_entry).1.0 in
    let past : length c.entries.left.items ≤ from = omega arith in (
      from,
      named_too_often c.entries.left.items c.args.left.now.items c.args.entries.now c.entries.entry-index no_entry c.entries-test.true
          (get_or_past c.entries.left.items from 0 past) c.entries.invariant.taken,
    )

pub returns-then-index-eq0-clause-lacks : goal.returns-then-index-eq0-clause-lacks
returns-then-index-eq0-clause-lacks c = λ _.
    let from : ℕ = (get_or c.args.entries.now c.entries.entry-index no_entry).1.0 in
    let within : from < length c.entries.left.items = omega arith in
    let none : get_or c.entries.left.items from 0 ≡ 0 =
    sym (c.index.ensures ∙ get_or_default c.entries.left.items from c.index.result.now 0 within) ∙ c.if-index-eq0.true in
    (from, named_too_often c.entries.left.items c.args.left.now.items c.args.entries.now c.entries.entry-index no_entry c.entries-test.true none c.entries.invariant.taken)

pub entries-preserved : goal.entries-preserved
entries-preserved c =
    let from : ℕ = (get_or c.args.entries.now c.entries.entry-index no_entry).1.0 in
    let within : from < length c.entries.left.items = omega arith in
    let inside : from < length c.args.left.now.items = omega arith in
    let now : c.index.result.now ≡ get_or c.entries.left.items from 0 = c.index.ensures ∙ get_or_default c.entries.left.items from c.index.result.now 0 within in
    let value : c.index_mut.result.now ≡ get_or c.entries.left.items from 0 = c.index_mut.ensures.value ∙ get_or_default c.entries.left.items from c.index_mut.result.now 0 within in
    record {
      each = length-set c.entries.left.items from _ ∙ c.entries.invariant.each;
      within = All-more (λ e. e.1.0 < length c.args.left.now.items) c.args.entries.now c.entries.entry-index no_entry c.entries-test.true c.entries.invariant.within inside;
      taken = λ b. taken_next c.entries.left.items c.args.left.now.items c.args.entries.now c.entries.entry-index c.index_mut.result.now b
          c.entries-test.true within value (λ z. c.if-index-eq0.false (now ∙ sym value ∙ z)) (c.entries.invariant.taken b);
    }

pub returns-clause-within : goal.returns-clause-within
returns-clause-within c = λ _.
    subst (All (λ e. e.1.0 < length c.args.left.now.items)) (take_all c.entries.entry-index c.args.entries.now c.entries-test.false) c.entries.invariant.within
