use Rattle.std.proofs.Common.{◌∙◌, Ok, All, ap, arith, length, rules, subst, sym}
use Rattle.vfa_opt.specs.Works.{IsPlaced}
use Rattle.vfa_opt.proofs.MadeItems.{few_in_all, portion_of_all}
use Rattle.vfa_opt.proofs.WrittenModules.{made_in}
use Rattle.vfa_opt.proofs.written.made.Goals as goal

pub returns-in_err-items-clause-refused : goal.returns-in_err-items-clause-refused
returns-in_err-items-clause-refused g c = λ strict. let refused = c.in_err-items.ensures.refused strict in search rules

pub joined-requires : goal.joined-requires
joined-requires g c =
    let items = c.in_ok-items.items in
    let few = few_in_all c.args.writing c.args.bytes.now c.deref.result.now c.in_ok-portions.portions.items c.in_ok-portions.ensures in
    omega (arith, few, ap length c.deref.ensures.value, items.ok.0, items.ok.1, items.small)

pub returns-clause-made : goal.returns-clause-made
returns-clause-made g c =
    let input = c.args.bytes.now in
    let joined = c.in_ok-joined.ensures in
    made_in c.args.writing input c.deref.result.now c.in_ok-joined.field-0
    (c.in_ok-items.ensures.items ∙ ap (λ x. Ok x) (sym c.deref.ensures.value))
    (subst (All (IsPlaced input)) (sym c.deref.ensures.value) c.in_ok-items.ensures.places)
    (portion_of_all c.args.writing input c.deref.result.now c.in_ok-portions.portions.items c.in_ok-joined.field-0 c.in_ok-portions.ensures joined.out
    joined.notes joined.accepted joined.carried joined.first)
