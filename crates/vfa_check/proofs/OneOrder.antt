-- A function has one order.
use Rattle.std.proofs.Common.{◌≡◌, ℕ, List, [], ◌∷◌, refl, ap₂}
use Rattle.vfa_ir.specs.declared.functions.Function.{Function}
use Rattle.vfa_ir.specs.declared.operations.BlockId.{BlockId}
use Rattle.vfa_cfg.specs.Order.{IsOrder, numbers}
use Rattle.vfa_cfg.proofs.Visiting.{same_visits}

same_blocks : (xs ys : List BlockId) → numbers xs ≡ numbers ys → xs ≡ ys
same_blocks [] [] e = refl
same_blocks [] (y ∷ ys) e = absurd (cc)
same_blocks (x ∷ xs) [] e = absurd (cc)
same_blocks (x ∷ xs) (y ∷ ys) e =
    let first : x.0 ≡ y.0 = cc in
    let rest : xs ≡ ys = same_blocks xs ys cc in
    ap₂ (λ (n : ℕ) (blocks : List BlockId). (let b : BlockId = record { 0 = n } in b) ∷ blocks) first rest

pub one_order : (f : Function) (order other : List BlockId) → IsOrder f order → IsOrder f other → order ≡ other
one_order f order other a b = same_blocks order other (same_visits a.visits b.visits).1
