-- Members of lists that are joined from others.
use Rattle.std.proofs.Common.{◌≡◌, ℕ, zero, suc, ◌<◌, true, List, [], ◌∷◌, flat_map, length, Some, get_or, slice_get, refl, sym, subst, inl, inr, arith}
use Rattle.std.proofs.lemmas.Option.{same_Some}
use Rattle.vfa_ir.specs.Words.{is_in}
use Rattle.vfa_mean.proofs.FreshOperands.Definitions.{in_left, in_right, in_cases, in_first, in_rest}

-- an element of lists joined, by its place
pub record IsJoined {A : Type 0} (h : A → List ℕ) (xs : List A) (n : ℕ) : Type 0 where
  pub place : ℕ
  pub from : A
  pub there : slice_get xs place ≡ Some from
  pub inside : is_in n (h from) ≡ true

pub out_joined : {A : Type 0} (h : A → List ℕ) (xs : List A) (n : ℕ) → is_in n (flat_map h xs) ≡ true → IsJoined h xs n
out_joined h [] n t = absurd (cc)
out_joined {A} h (x ∷ xs) n t = elim (in_cases n (h x) (flat_map h xs) t) [
  | inl u ↦ record { place = zero; from = x; there = refl; inside = u }
  | inr u ↦ let r = out_joined h xs n u in record { place = suc r.place; from = r.from; there = r.there; inside = r.inside }
]

pub in_joined : {A : Type 0} (h : A → List ℕ) (xs : List A) (k : ℕ) (x : A) (u : ℕ) → slice_get xs k ≡ Some x → is_in u (h x) ≡ true → is_in u (flat_map h xs) ≡ true
in_joined h [] k x u e t = absurd (cc)
in_joined h (y ∷ xs) zero x u e t = in_left u (h y) (flat_map h xs) (subst (λ z. is_in u (h z) ≡ true) (sym (same_Some y x e)) t)
in_joined h (y ∷ xs) (suc k) x u e t = in_right u (h y) (flat_map h xs) (in_joined h xs k x u e t)

pub in_at : (xs : List ℕ) (k d : ℕ) → k < length xs → is_in (get_or xs k d) xs ≡ true
in_at [] k d l = absurd (omega (arith, l))
in_at (x ∷ xs) zero d l = in_first x x xs refl
in_at (x ∷ xs) (suc k) d l = in_rest (get_or xs k d) x xs (in_at xs k d (omega (arith, l)))
