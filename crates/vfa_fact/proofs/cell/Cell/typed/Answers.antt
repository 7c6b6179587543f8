use Rattle.std.proofs.Common.{◌≡◌, ◌∙◌, ap, subst, lit<, ℕ}
use Rattle.vfa_word.specs.Numbers.{IsWidth}
use Rattle.vfa_fact.specs.Cells.{CellValue}
use Rattle.vfa_fact.specs.Fact.{IsFact}
use Rattle.vfa_fact.proofs.cell.Cell.typed.Goals as goal

pub from_numbers-requires : goal.from_numbers-requires
from_numbers-requires g c =
    let same : c.self.inside.width ≡ g.row.W = ap (λ (v : CellValue). v.width) c.self.view_is ∙ c.requires in
    (lit< tt, (subst IsWidth same c.self.invariant.width, subst (λ (w : ℕ). IsFact w c.in-Some.numbers) same (c.self.invariant.fact c.in-Some.numbers c.in-Some.is)))
