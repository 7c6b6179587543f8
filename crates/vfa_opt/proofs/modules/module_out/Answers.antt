use Rattle.vfa_opt.specs.Module.{input_of}
use Rattle.vfa_opt.proofs.EachJob.{text_not_refused}
use Rattle.vfa_opt.proofs.WrittenModules.{sound_each, answers_in, refuses_in}
use Rattle.vfa_opt.proofs.modules.module_out.Goals as goal

pub returns-clause-sound : goal.returns-clause-sound
returns-clause-sound g c =
    let input = input_of c.args.job.now c.args.bytes.now in
    sound_each c.args.job.now c.args.strict input (c.one_list_of_pieces.ensures input) c.job_out.result c.job_out.ensures.sound

pub returns-clause-answers : goal.returns-clause-answers
returns-clause-answers g c =
    let input = input_of c.args.job.now c.args.bytes.now in
    answers_in c.args.job.now c.args.strict input (c.one_refusal.ensures.none c.args.job.now c.args.strict input) c.job_out.result
    c.job_out.ensures.refused

pub returns-clause-refuses : goal.returns-clause-refuses
returns-clause-refuses g c =
    let input = input_of c.args.job.now c.args.bytes.now in
    refuses_in c.args.job.now c.args.strict input (c.one_refusal.ensures.one c.args.job.now c.args.strict input)
    (text_not_refused c.one_list_of_pieces.ensures c.args.strict input c.args.job.now) c.job_out.result c.job_out.ensures.text
    c.job_out.ensures.refused
