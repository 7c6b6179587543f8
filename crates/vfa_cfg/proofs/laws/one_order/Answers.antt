use Rattle.std.proofs.Common.{◌≡◌, ℕ, List, [], ◌∷◌, refl, ap₂}
use Rattle.vfa_ir.specs.declared.operations.BlockId.{BlockId}
use Rattle.vfa_cfg.specs.Order.{numbers}
use Rattle.vfa_cfg.proofs.Visiting.{same_visits}
use Rattle.vfa_cfg.proofs.laws.one_order.Goals as goal

same_blocks : (xs ys : List BlockId) → numbers xs ≡ numbers ys → xs ≡ ys
same_blocks [] [] e = refl
same_blocks [] (y ∷ ys) e = absurd (cc)
same_blocks (x ∷ xs) [] e = absurd (cc)
same_blocks (x ∷ xs) (y ∷ ys) e =
    let first : x.0 ≡ y.0 = cc in
    let rest : xs ≡ ys = same_blocks xs ys cc in
    ap₂ (λ (n : ℕ) (blocks : List BlockId). (let b : BlockId = record { 0 = n } in b) ∷ blocks) first rest

pub returns : goal.returns
returns c = λ f order other a b. same_blocks order other (same_visits a.visits b.visits).1
