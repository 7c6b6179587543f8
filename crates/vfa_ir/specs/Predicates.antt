-- The predicates of a comparison, after the LLVM Language Reference, "icmp". Each says something of equality or of one of
-- the two strict orders, unsigned and signed, whatever stands for a number.
use Rattle.std.specs.Prelude.{Bool, not}
use Rattle.vfa_ir.specs.declared.operations.Pred.{Pred}
use Rattle.vfa_ir.specs.declared.operations.Pred.TheVariants.{Eq, Ne, Ugt, Uge, Ult, Ule, Sgt, Sge, Slt, Sle}

-- whether the predicate holds of x and y; at width 8, `slt` holds of 255 and 1, where the signed order reads 255 as -1
unfoldable pub by_order : {A : Type 0} → Pred → (A → A → Bool) → (A → A → Bool) → (A → A → Bool) → A → A → Bool
by_order Eq equal unsigned_less signed_less x y = equal x y
by_order Ne equal unsigned_less signed_less x y = not (equal x y)
by_order Ugt equal unsigned_less signed_less x y = unsigned_less y x
by_order Uge equal unsigned_less signed_less x y = not (unsigned_less x y)
by_order Ult equal unsigned_less signed_less x y = unsigned_less x y
by_order Ule equal unsigned_less signed_less x y = not (unsigned_less y x)
by_order Sgt equal unsigned_less signed_less x y = signed_less y x
by_order Sge equal unsigned_less signed_less x y = not (signed_less x y)
by_order Slt equal unsigned_less signed_less x y = signed_less x y
by_order Sle equal unsigned_less signed_less x y = not (signed_less y x)
