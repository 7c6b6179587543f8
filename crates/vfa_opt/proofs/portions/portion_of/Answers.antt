use Rattle.std.proofs.Common.{◌++◌, ◌+◌, ◌∙◌, get_or, length, option_to_list, ap, arith}
use Rattle.std.specs.Option.{option_or}
use Rattle.vfa_module.specs.declared.items.Item.{Item}
use Rattle.vfa_opt.specs.Works.{standing_in, worked_carried, worked_name, worked_note}
use Rattle.vfa_opt.proofs.MadeItems.{few_taken, made_more, made_of_none}
use Rattle.vfa_opt.proofs.portions.portion_of.Goals as goal

pub items-init : goal.items-init
items-init c = record {
  makes =
      made_of_none c.args.writing c.args.bytes.now _ _ _ _ _ c.new-all.ensures.out c.new-all.ensures.notes c.new-all.ensures.accepted c.new-all.ensures.carried
      c.new-all.ensures.first;
  few = omega (arith, c.new-all.ensures.carried);
}

pub items-preserved : goal.items-preserved
items-preserved c =
    let worked = c.in_ok-worked.worked in
    let item : Item = get_or c.args.items.now c.items.item-index (Item.Lines 0 0) in
    let text = c.in_ok-push_text.ensures in
    let function = c.in_ok-push_function.ensures in
    let makes = made_more c.args.writing c.args.bytes.now c.args.items.now c.items.item-index (Item.Lines 0 0) worked c.items.all c.push_function.new.self
    c.items-test.true c.items.invariant.makes c.in_ok-worked.ensures
    (ap (λ v. v.items) function.out ∙ text.out)
    (function.notes ∙ ap (λ v. v.items ++ worked_note worked) text.notes)
    (function.accepted ∙ ap (λ v. v.items ++ standing_in item (worked_name worked)) text.accepted)
    (function.carried ∙ ap (λ n. n + length (option_to_list (worked_carried worked))) text.carried)
    (function.first ∙ ap (λ o. option_or o (worked_carried worked)) text.first) in
    record { makes = makes; few = few_taken c.args.writing c.args.bytes.now c.args.items.now (c.items.item-index + 1) c.push_function.new.self makes }
