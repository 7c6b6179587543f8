use Rattle.std.proofs.Common.{◌≡◌, ◌||◌, ℕ, false, drop}
use Rattle.std.specs.Prelude.{slice_index_or}
use Rattle.vfa_ir.specs.Words.{is_in}
use Rattle.vfa_rewrite.proofs.uses.marked.Given as goal

abbrev pub invariant-each : goal.invariant-each
invariant-each l = (n : ℕ) → (is_in n (drop l.name-index l.names) || slice_index_or l.marks.items n false) ≡ is_in n l.names
