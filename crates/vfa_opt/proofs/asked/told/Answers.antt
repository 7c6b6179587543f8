use Rattle.vfa_opt.proofs.Subjects.{asked_place, value_within}
use Rattle.vfa_opt.proofs.ToldAnswers.{told_text, told_true}
use Rattle.vfa_opt.proofs.asked.told.Goals as goal

pub ask-requires-clause-name : goal.ask-requires-clause-name
ask-requires-clause-name c = value_within c.args.f.now c.args.question.now.value c.args.value.0 c.requires.value

pub ask-requires-clause-place : goal.ask-requires-clause-place
ask-requires-clause-place c = asked_place c.args.f.now c.args.question.now c.args.place c.requires.names

pub returns-in-Ok-clause-text : goal.returns-in-Ok-clause-text
returns-in-Ok-clause-text c =
    told_text c.args.f.now c.args.question.now c.args.value.0 c.args.place c.requires c.in-Ok.answer c.in-Ok.ensures.answer c.answer_line.result
    c.answer_line.ensures.text c.answer_line.ensures.told

pub returns-in-Ok-clause-sound : goal.returns-in-Ok-clause-sound
returns-in-Ok-clause-sound c =
    told_true c.args.f.now c.args.question.now c.args.value.0 c.args.place c.requires c.in-Ok.answer c.in-Ok.ensures.answer c.one_answer.ensures
    c.in-Ok.ensures.is_true c.in-Ok.ensures.typed c.answer_line.result
