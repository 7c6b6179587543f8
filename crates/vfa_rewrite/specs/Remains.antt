-- helper: in no public contract
-- What rewriting leaves of a function before it is numbered.
use Rattle.std.specs.Prelude.{◌≡◌}
use Rattle.vfa_ir.specs.declared.functions.Function.{Function}
use Rattle.vfa_mean.specs.Kept.{is_marked}
use Rattle.vfa_rewrite.specs.declared.rewriting.Remains.{Remains}
use Rattle.vfa_rewrite.specs.ByFacts.{FactTable, findings_of}
use Rattle.vfa_rewrite.specs.Marks.{AreMarks}
use Rattle.vfa_rewrite.specs.Rewritten.{Marks, rewritten}

-- the function that the marks of the table leave, and the blocks that they leave
pub record AreRemains (f : Function) (t : FactTable) (remains : Remains) : Type 0 where
  pub marks : Marks
  pub are_marks : AreMarks f (findings_of f t) marks
  pub function : remains.function ≡ rewritten f marks
  pub reached : marks.reached ≡ is_marked remains.reached.items
