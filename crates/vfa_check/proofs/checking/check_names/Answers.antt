use Rattle.std.proofs.Common.{inr}
use Rattle.std.proofs.lemmas.Option.{MatchOption-at_some}
use Rattle.vfa_ir.specs.Defined.{Defined, uses_of}
use Rattle.vfa_check.specs.MissedUses.{IsFirstMissed}
use Rattle.vfa_check.proofs.Refusing.{missed_within, undefined_at}
use Rattle.vfa_check.proofs.checking.check_names.Goals as goal

pub shown_value-requires : goal.shown_value-requires
shown_value-requires c =
    let f = c.args.f.now in
    let first = MatchOption-at_some (Defined f) (IsFirstMissed f (uses_of f)) c.in-Some.missed c.in-Some.is c.in_ok-missed.ensures in
    (missed_within f c.in-Some.missed c.requires.typed c.requires.phis first).0

pub shown_block-requires : goal.shown_block-requires
shown_block-requires c =
    let f = c.args.f.now in
    let first = MatchOption-at_some (Defined f) (IsFirstMissed f (uses_of f)) c.in-Some.missed c.in-Some.is c.in_ok-missed.ensures in
    (missed_within f c.in-Some.missed c.requires.typed c.requires.phis first).1

pub returns-in_ok-shown_block-in-Some-clause-refused : goal.returns-in_ok-shown_block-in-Some-clause-refused
returns-in_ok-shown_block-in-Some-clause-refused c =
    let f = c.args.f.now in
    let first = MatchOption-at_some (Defined f) (IsFirstMissed f (uses_of f)) c.in-Some.missed c.in-Some.is c.in_ok-missed.ensures in
    inr (λ lines. undefined_at f c.in-Some.missed c.in_ok-shown_value-in-Some.field-0 c.in_ok-shown_block-in-Some.field-0
    c.requires.typed c.requires.phis first c.in_ok-shown_value-in-Some.ensures c.in_ok-shown_block-in-Some.ensures)
