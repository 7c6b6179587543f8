use Rattle.std.proofs.Common.{◌≡◌, ◌++◌, codes, subst, sym}
use Rattle.std.specs.Prelude.{OnOk}
use Rattle.vfa_print.specs.Layout.{line_feed, name_text}
use Rattle.vfa_opt.specs.Module.{local_text}
use Rattle.vfa_opt.specs.Refusals.{refusal_text}
use Rattle.vfa_opt.proofs.notes.push_refusal.Goals as goal

pub returns-in-NoFunction : goal.returns-in-NoFunction
returns-in-NoFunction c =
    let old = c.args.text.now.items in
    let new = c.push_function-in-NoFunction.new.text.items in
    subst (λ refused. OnOk c.push_function-in-NoFunction.result (new ≡ old ++ refusal_text refused)) (sym c.in-NoFunction.is)
    (subst (λ name. OnOk c.push_function-in-NoFunction.result (new ≡ old ++ (codes "refused: NoFunction @" ++ (name_text name ++ line_feed)))) c.bytes-in-NoFunction.ensures
    c.push_function-in-NoFunction.ensures)

pub returns-in-NoValue : goal.returns-in-NoValue
returns-in-NoValue c =
    let old = c.args.text.now.items in
    let new = c.push_missing.new.text.items in
    subst (λ refused. OnOk c.push_missing.result (new ≡ old ++ refusal_text refused)) (sym c.in-NoValue.is)
    (subst (λ name. OnOk c.push_missing.result (new ≡ old ++ (codes "refused: NoValue " ++ (local_text name ++ line_feed)))) c.bytes-in-NoValue.ensures
    c.push_missing.ensures)

pub returns-in-NoBlock : goal.returns-in-NoBlock
returns-in-NoBlock c =
    let old = c.args.text.now.items in
    let new = c.push_missing-in-NoBlock.new.text.items in
    subst (λ refused. OnOk c.push_missing-in-NoBlock.result (new ≡ old ++ refusal_text refused)) (sym c.in-NoBlock.is)
    (subst (λ name. OnOk c.push_missing-in-NoBlock.result (new ≡ old ++ (codes "refused: NoBlock " ++ (local_text name ++ line_feed)))) c.bytes-in-NoBlock.ensures
    c.push_missing-in-NoBlock.ensures)
