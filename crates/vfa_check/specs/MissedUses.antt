-- helper: in no public contract
-- The first use of a name that is not defined on every walk to it (LLVM Language Reference, "Well-Formedness"). The
-- operand of a phi is used at the end of its predecessor, and that is the block of its use.
--
-- In `entry: br i1 %c, label %a, label %b`, `a: %x = add i8 %p, 1`, `br label %b`, `b: %y = phi i8 [ %x, %entry ], ..`, the
-- first one is %x at entry.
use Rattle.std.specs.Prelude.{◌≡◌, ℕ, List, ◌∷◌, ◌++◌, All}
use Rattle.vfa_ir.specs.declared.functions.Function.{Function}
use Rattle.vfa_ir.specs.Defined.{NameUse, UseIsDefined}
use Rattle.vfa_ir.specs.Walks.{IsMissedAt}
use Rattle.vfa_check.specs.declared.uses.MissedUse.{MissedUse}

-- Among these uses, the first that some walk reaches without a definition is one of the name in the block.
pub record IsFirstMissed (f : Function) (uses : List NameUse) (m : MissedUse) : Type 0 where
  pub before : List NameUse
  pub line : ℕ
  pub after : List NameUse
  pub are : uses ≡ before ++ ((record { name = m.name.0; block = m.block.0; line = line }) ∷ after)
  pub defined : All (UseIsDefined f) before
  pub missed : IsMissedAt f m.block.0 line m.name.0
