use Rattle.std.proofs.Common.{◌≡◌, ◌∙◌, ap, length}
use Rattle.vfa_mean.specs.Kept.{is_marked}
use Rattle.vfa_mean.specs.Numbering.{kept_calls, kept_numbers, kept_values}
use Rattle.vfa_mean.proofs.KeptLoops.{calls_kept, once_of, same_order, values_kept, within_of}
use Rattle.vfa_mean.proofs.KeptParts.{kept_number}
use Rattle.vfa_mean.proofs.RenamedFlow.{kept_numbers_distinct}
use Rattle.vfa_mean.proofs.text_order.order_of.Goals as goal

pub of-requires : goal.of-requires
of-requires c =
    let keeps = is_marked c.args.keeps.now in
    let ids : c.in_ok-values.values.items ≡ kept_values c.args.f.now keeps =
    values_kept c.args.f.now keeps c.in_ok-numbers.numbers.items c.as_slice.result.now c.in_ok-values.values.items c.as_slice.ensures.value c.in_ok-numbers.ensures c.in_ok-values.ensures in
    record {
      within = within_of c.in_ok-values.values.items (kept_values c.args.f.now keeps) (length c.as_slice-3.result.now) (length c.args.f.now.values)
          ids (ap length c.as_slice-3.ensures) c.requires.numbered.values;
      once = once_of c.in_ok-values.values.items (kept_values c.args.f.now keeps) ids c.requires.once.names;
    }

pub of-requires-2 : goal.of-requires-2
of-requires-2 c =
    let keeps = is_marked c.args.keeps.now in
    record {
      within = within_of c.in_ok-numbers.numbers.items (kept_numbers c.args.f.now keeps) (length c.as_slice-4.result.now) (length c.args.f.now.blocks)
          c.in_ok-numbers.ensures (ap length c.as_slice-4.ensures) (λ n t. (kept_number c.args.f.now keeps n t).within);
      once = once_of c.in_ok-numbers.numbers.items (kept_numbers c.args.f.now keeps) c.in_ok-numbers.ensures (kept_numbers_distinct c.args.f.now keeps);
    }

pub of-requires-3 : goal.of-requires-3
of-requires-3 c =
    let keeps = is_marked c.args.keeps.now in
    let places : c.in_ok-calls.calls.items ≡ kept_calls c.args.f.now keeps =
    calls_kept c.args.f.now keeps c.in_ok-numbers.numbers.items c.as_slice-2.result.now c.in_ok-calls.calls.items c.as_slice-2.ensures.value c.in_ok-numbers.ensures c.in_ok-calls.ensures in
    record {
      within = within_of c.in_ok-calls.calls.items (kept_calls c.args.f.now keeps) (length c.as_slice-5.result.now) (length c.args.f.now.calls)
          places (ap length c.as_slice-5.ensures) c.requires.numbered.calls;
      once = once_of c.in_ok-calls.calls.items (kept_calls c.args.f.now keeps) places c.requires.once.calls;
    }

pub returns : goal.returns
returns c =
    let keeps = is_marked c.args.keeps.now in
    let ids : c.in_ok-values.values.items ≡ kept_values c.args.f.now keeps =
    values_kept c.args.f.now keeps c.in_ok-numbers.numbers.items c.as_slice.result.now c.in_ok-values.values.items c.as_slice.ensures.value c.in_ok-numbers.ensures c.in_ok-values.ensures in
    let places : c.in_ok-calls.calls.items ≡ kept_calls c.args.f.now keeps =
    calls_kept c.args.f.now keeps c.in_ok-numbers.numbers.items c.as_slice-2.result.now c.in_ok-calls.calls.items c.as_slice-2.ensures.value c.in_ok-numbers.ensures c.in_ok-calls.ensures in
    same_order c.in_ok-of.field-0 (kept_values c.args.f.now keeps) c.in_ok-of-2.field-0 (kept_numbers c.args.f.now keeps) c.in_ok-of-3.field-0 (kept_calls c.args.f.now keeps)
    (c.in_ok-of.ensures ∙ ids) (c.in_ok-of-2.ensures ∙ c.in_ok-numbers.ensures) (c.in_ok-of-3.ensures ∙ places)
