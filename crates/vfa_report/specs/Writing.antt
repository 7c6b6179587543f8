-- The lines for names, where the values of the function have these names.
use Rattle.std.specs.Prelude.{ℕ, Option, Some, None, List, [], ◌++◌, flat_map, codes}
use Rattle.vfa_ir.specs.declared.operations.ValueId.{ValueId}
use Rattle.vfa_ir.specs.Resolution.{Scope}
use Rattle.vfa_print.specs.Layout.{line_feed}
use Rattle.vfa_print.specs.Trees.{name_at}
use Rattle.vfa_cond.specs.States.{AbstractState}
use Rattle.vfa_xfer.specs.declared.any_fact.AnyFact.{AnyFact}
use Rattle.vfa_report.specs.FactLines.{fact_lines, local_text}

-- what the state says of a name, each line behind the same text
abbrev pub lines_at : Scope → List ℕ → AbstractState AnyFact → ℕ → List ℕ
lines_at names before s v = elim (s.fact v) [
  | None ↦ []
  | Some fact ↦ flat_map (λ line. before ++ (line ++ line_feed)) (fact_lines (local_text (name_at names.values v)) fact.parts)
]

-- of a result, where there is one
abbrev pub result_lines_at : Scope → AbstractState AnyFact → Option ValueId → List ℕ
result_lines_at names s None = []
result_lines_at names s (Some v) = lines_at names (codes "    def ") s v.0
