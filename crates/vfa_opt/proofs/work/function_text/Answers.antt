use Rattle.std.proofs.Common.{ℕ, List, subst, sym}
use Rattle.std.specs.Prelude.{IfOk}
use Rattle.vfa_opt.specs.Module.{IsFunctionText}
use Rattle.vfa_opt.specs.Sound.{IsSound}
use Rattle.vfa_opt.proofs.work.function_text.Goals as goal

pub returns-in-Optimised-clause-text : goal.returns-in-Optimised-clause-text
returns-in-Optimised-clause-text c =
    subst (λ writing. IfOk c.printed.result (λ text. IsFunctionText writing c.args.f.now text.items)) (sym c.in-Optimised.is) c.printed.ensures.text

pub returns-in-Optimised-clause-sound : goal.returns-in-Optimised-clause-sound
returns-in-Optimised-clause-sound c =
    subst (λ writing. IfOk c.printed.result (λ _. (text : List ℕ) → IsFunctionText writing c.args.f.now text → IsSound writing c.args.f.now text)) (sym c.in-Optimised.is)
    c.printed.ensures.sound

pub returns-in-Reports-clause-text : goal.returns-in-Reports-clause-text
returns-in-Reports-clause-text c =
    subst (λ writing. IfOk c.reported.result (λ text. IsFunctionText writing c.args.f.now text.items)) (sym c.in-Reports.is) c.reported.ensures.text

pub returns-in-Reports-clause-sound : goal.returns-in-Reports-clause-sound
returns-in-Reports-clause-sound c =
    subst (λ writing. IfOk c.reported.result (λ _. (text : List ℕ) → IsFunctionText writing c.args.f.now text → IsSound writing c.args.f.now text)) (sym c.in-Reports.is)
    c.reported.ensures.sound

pub returns-in-Nothing-clause-text : goal.returns-in-Nothing-clause-text
returns-in-Nothing-clause-text c = subst (λ writing. IsFunctionText writing c.args.f.now c.new.result.items) (sym c.in-Nothing.is) c.new.ensures.items

pub returns-in-Nothing-clause-sound : goal.returns-in-Nothing-clause-sound
returns-in-Nothing-clause-sound c = λ text is. subst (λ writing. IsSound writing c.args.f.now text) (sym c.in-Nothing.is) tt
