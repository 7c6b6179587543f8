-- What stands in a list is in it.
use Rattle.std.proofs.Common.{◌≡◌, ℕ, zero, suc, true, Some, List, [], ◌∷◌, sym}
use Rattle.std.specs.List.{slice_get}
use Rattle.std.proofs.lemmas.Option.{same_Some}
use Rattle.vfa_ir.specs.Walks.{is_in}
use Rattle.vfa_mean.proofs.FreshOperands.Definitions.{in_first, in_rest}

pub stands_in : (xs : List ℕ) (k x : ℕ) → slice_get xs k ≡ Some x → is_in x xs ≡ true
stands_in [] k x e = absurd (cc)
stands_in (y ∷ xs) zero x e = in_first x y xs (sym (same_Some y x e))
stands_in (y ∷ xs) (suc k) x e = in_rest x y xs (stands_in xs k x e)
