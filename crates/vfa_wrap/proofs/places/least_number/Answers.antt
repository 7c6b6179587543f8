use Rattle.std.proofs.Common.{◌∙◌, sym, ap}
use Rattle.vfa_wrap.specs.WholeSpans.{range_of}
use Rattle.vfa_word.specs.Numbers.{wrap}
use Rattle.vfa_wrap.proofs.WholePlaceLaws.{least_signed}
use Rattle.vfa_wrap.proofs.places.least_number.Goals as goal

pub returns-in-Signed : goal.returns-in-Signed
returns-in-Signed g c =
    least_signed g.row.W _ c.requires.least c.most_signed.ensures.value ∙ ap (λ r. wrap g.row.W (range_of r g.row.W).least) (sym c.in-Signed.is)
