use Rattle.std.proofs.Common.{◌≡◌, ◌++◌, drop}
use Rattle.vfa_rewrite.specs.Expanding.{musts_of}
use Rattle.vfa_rewrite.specs.Rewritten.{with_numbers}
use Rattle.vfa_rewrite.proofs.staying.must_stay.Given as goal

abbrev pub invariant-all : goal.invariant-all
invariant-all l = l.must.items ++ with_numbers (musts_of l.kept) l.b (drop l.b l.f.blocks) ≡ with_numbers (musts_of l.kept) 0 l.f.blocks
