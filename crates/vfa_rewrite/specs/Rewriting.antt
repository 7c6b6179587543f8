-- The function that rewriting by a table of facts gives: what the marks of the table leave, numbered in text order.
use Rattle.std.specs.Prelude.{◌≡◌}
use Rattle.vfa_ir.specs.declared.functions.Function.{Function}
use Rattle.vfa_mean.specs.Numbering.{numbered}
use Rattle.vfa_rewrite.specs.ByFacts.{FactTable, findings_of}
use Rattle.vfa_rewrite.specs.Marks.{AreMarks}
use Rattle.vfa_rewrite.specs.Rewritten.{Marks, rewritten}

pub record IsRewritten (f : Function) (t : FactTable) (g : Function) : Type 0 where
  pub marks : Marks
  pub are_marks : AreMarks f (findings_of f t) marks
  pub is : g ≡ numbered (rewritten f marks) marks.reached
