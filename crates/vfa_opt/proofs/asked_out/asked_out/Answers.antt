use Rattle.std.proofs.Common.{◌≡◌, ◌∙◌, ◌⊎◌, ap, refl}
use Rattle.vfa_opt.specs.declared.jobs.Job.TheVariants.{Ask}
use Rattle.vfa_opt.specs.declared.refusals.Refused.TheVariants.{Memory}
use Rattle.vfa_opt.specs.Refusals.{IsRefusal}
use Rattle.vfa_opt.specs.Works.{item_named}
use Rattle.vfa_opt.proofs.AskedModules.{handed_on, out_sound, out_text, refused_by}
use Rattle.vfa_opt.proofs.asked_out.asked_out.Goals as goal

pub returns-in_err-whole-clause-refused : goal.returns-in_err-whole-clause-refused
returns-in_err-whole-clause-refused g c =
    let job = Ask c.args.question.now in
    let e = c.in_err-whole.field-0.0 in
    handed_on (λ e. (e ≡ Memory) ⊎ IsRefusal job c.args.strict c.args.bytes.now e) e c.from_residual.result c.from_residual.ensures.1
    (refused_by job c.args.strict c.args.bytes.now e c.in_err-whole.ensures.refused)

pub returns-clause-text : goal.returns-clause-text
returns-clause-text g c =
    let q = c.args.question.now in
    let whole = c.in_ok-whole.whole in
    let same = c.item_named-item.ensures
    ∙ (ap (λ n. item_named n c.deref.result.now) c.bytes.ensures ∙ ap (item_named q.function) c.deref.ensures.value) in
    out_text q c.args.strict c.args.bytes.now whole c.in_ok-whole.ensures.written c.item_named-item.result same c.in_ok-out.out.items whole.notes.items
    c.in_ok-out.ensures.text refl

pub returns-clause-sound : goal.returns-clause-sound
returns-clause-sound g c =
    let q = c.args.question.now in
    let same = c.item_named-item.ensures
    ∙ (ap (λ n. item_named n c.deref.result.now) c.bytes.ensures ∙ ap (item_named q.function) c.deref.ensures.value) in
    out_sound q c.args.strict c.args.bytes.now c.in_ok-whole.whole c.in_ok-whole.ensures.written c.item_named-item.result same c.in_ok-out.ensures.sound
