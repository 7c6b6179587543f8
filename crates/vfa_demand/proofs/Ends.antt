-- What terminators see.
use Rattle.std.proofs.Common.{◌≡◌, ℕ, subst, arith, [], ◌∷◌}
use Rattle.std.specs.Prelude.{All}
use Rattle.vfa_ir.specs.declared.operations.Operand.{Operand}
use Rattle.vfa_ir.specs.declared.operations.Ty.{Ty}
use Rattle.vfa_ir.specs.declared.functions.Term.{Term}
use Rattle.vfa_demand.specs.Masks.{seen_in}
use Rattle.vfa_demand.specs.Usable.{IsUsable}

-- the one that it sees
pub seen_usable : (n : ℕ) (t t' : Term) (o : Ty × Operand) → t ≡ t' → seen_in t' ≡ o ∷ [] → All (IsUsable n) (seen_in t) → IsUsable n o
seen_usable n t t' o same sees usable =
    subst (λ l. All (IsUsable n) l) sees (subst (λ t. All (IsUsable n) (seen_in t)) same usable) 0 o (omega arith)
