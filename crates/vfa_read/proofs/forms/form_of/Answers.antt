use Rattle.vfa_read.proofs.KeywordTables.{binary_form}
use Rattle.vfa_read.proofs.forms.form_of.Goals as goal

pub returns-in-Some : goal.returns-in-Some
returns-in-Some c = binary_form c.args.text.now c.in-Some.bin c.in-Some.ensures
