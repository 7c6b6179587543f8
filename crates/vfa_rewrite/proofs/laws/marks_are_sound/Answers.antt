use Rattle.vfa_rewrite.proofs.KeptNames.{are_sound}
use Rattle.vfa_rewrite.proofs.laws.marks_are_sound.Goals as goal

pub returns : goal.returns
returns c f found m printable typed defined holds marks = are_sound f printable typed defined found holds m marks
