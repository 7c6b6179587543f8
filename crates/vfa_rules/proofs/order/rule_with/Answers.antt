use Rattle.std.proofs.Common.{◌≡◌, sym, ◌∙◌, subst}
use Rattle.vfa_rules.specs.Order.{Known}
use Rattle.vfa_rules.specs.Results.{IsSound}
use Rattle.vfa_rules.proofs.Unaltered.{unchanged_kept, kept_unchanged}
use Rattle.vfa_rules.proofs.Sound.{changed_sound}
use Rattle.vfa_rules.proofs.order.rule_with.Goals as goal

pub returns-clause-unchanged : goal.returns-clause-unchanged
returns-clause-unchanged c =
    let k : Known = record { a = c.args.a.now; b = c.args.b.now; c = c.args.c.now; call = c.args.call; used = c.args.used } in
    (λ same. kept_unchanged k c.args.op.now (sym c.changed.ensures ∙ same), λ each. c.changed.ensures ∙ unchanged_kept k c.args.op.now each)

pub returns-clause-sound : goal.returns-clause-sound
returns-clause-sound c =
    let k : Known = record { a = c.args.a.now; b = c.args.b.now; c = c.args.c.now; call = c.args.call; used = c.args.used } in
    subst (IsSound k c.args.op.now) (sym c.changed.ensures) (changed_sound k c.args.op.now c.requires.facts c.requires.operation)
