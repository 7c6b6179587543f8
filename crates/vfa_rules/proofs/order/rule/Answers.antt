use Rattle.std.proofs.Common.{◌≡◌, Bool, ◌&&◌, sym, ◌∙◌, ap, subst, Option}
use Rattle.vfa_rules.specs.declared.change.OverflowCall.{OverflowCall}
use Rattle.vfa_rules.specs.Order.{Known, changed}
use Rattle.vfa_rules.specs.Uses.{is_used, overflow_call, known_in}
use Rattle.vfa_rules.specs.Ready.{is_division}
use Rattle.vfa_rules.specs.Results.{IsSound}
use Rattle.vfa_rules.proofs.Chains.{asked_used}
use Rattle.vfa_rules.proofs.Sound.{changed_sound}
use Rattle.vfa_rules.proofs.Unaltered.{unchanged_kept, kept_unchanged}
use Rattle.vfa_rules.proofs.order.rule.Goals as goal

pub returns-clause-exact : goal.returns-clause-exact
returns-clause-exact c =
    let k : Known = known_in c.args.f.now c.args.inst.now c.args.a.now c.args.b.now c.args.c.now in
    c.changed.ensures
    ∙ (λ i. changed (record { a = k.a; b = k.b; c = k.c; call = c.overflow_call-call.ensures i; used = c.is_used_division-used.ensures i }) c.args.inst.now.op)
    ∙ asked_used k c.args.inst.now.op (is_division c.args.inst.now.op) k.used (λ _. is_division c.args.inst.now.op)

pub returns-clause-unchanged : goal.returns-clause-unchanged
returns-clause-unchanged c =
    let k : Known = known_in c.args.f.now c.args.inst.now c.args.a.now c.args.b.now c.args.c.now in
    let exact = returns-clause-exact c in
    (λ same. kept_unchanged k c.args.inst.now.op (sym exact ∙ same), λ each. exact ∙ unchanged_kept k c.args.inst.now.op each)

pub returns-clause-sound : goal.returns-clause-sound
returns-clause-sound c =
    let k : Known = known_in c.args.f.now c.args.inst.now c.args.a.now c.args.b.now c.args.c.now in
    subst (IsSound k c.args.inst.now.op) (sym (returns-clause-exact c)) (changed_sound k c.args.inst.now.op c.requires.facts c.requires.operation)
