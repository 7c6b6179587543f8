use Rattle.std.proofs.Common.{subst}
use Rattle.std.proofs.lemmas.Result.{IfOk-weaker}
use Rattle.clap.specs.Words.{found_of}
use Rattle.vfa.specs.Form.{IsReadIn}
use Rattle.vfa.specs.Command.{texts}
use Rattle.vfa.proofs.FormFits.{all_utf8, of_command, texts_found}
use Rattle.vfa.proofs.command.command_of.Goals as goal

pub returns-in-None-clause-only : goal.returns-in-None-clause-only
returns-in-None-clause-only c =
    let fault = subst (IsReadIn (texts c.args.words.now)) c.in-None.is c.in_ok-texts_of.ensures in
    λ command are. absurd (fault (of_command (texts c.args.words.now) (all_utf8 c.args.words.now) command are))

pub returns-in-Some-clause-asked : goal.returns-in-Some-clause-asked
returns-in-Some-clause-asked c =
    let words = texts c.args.words.now in
    let read = subst (IsReadIn words) c.in-Some.is c.in_ok-texts_of.ensures in
    IfOk-weaker c.command_given.result _ _
    (λ asked given. given words (texts_found words (all_utf8 c.args.words.now) read.0 (found_of c.in-Some.matches) read.1))
    c.command_given.ensures.given

pub returns-in-Some-clause-only : goal.returns-in-Some-clause-only
returns-in-Some-clause-only c =
    let words = texts c.args.words.now in
    let read = subst (IsReadIn words) c.in-Some.is c.in_ok-texts_of.ensures in
    IfOk-weaker c.command_given.result _ _
    (λ asked only. only words (texts_found words (all_utf8 c.args.words.now) read.0 (found_of c.in-Some.matches) read.1))
    c.command_given.ensures.only
