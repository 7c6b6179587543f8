-- Some elements of a list, in order.
use Rattle.std.proofs.Common.{◌≡◌, ℕ, ◌≤◌, true, false, nat_eq, List, [], ◌∷◌, ◌++◌, length, inl, inr, arith}
use Rattle.std.specs.List.{AllByRecursion, IsDistinct}
use Rattle.vfa_ir.specs.Words.{is_in}
use Rattle.vfa_mean.proofs.FreshOperands.Definitions.{in_first, in_rest, first_or_rest}

pub data IsSublist : List ℕ → List ℕ → Type 0 where
  end : IsSublist [] []
  skip : (x : ℕ) (xs ys : List ℕ) → IsSublist xs ys → IsSublist xs (x ∷ ys)
  keep : (x : ℕ) (xs ys : List ℕ) → IsSublist xs ys → IsSublist (x ∷ xs) (x ∷ ys)

pub sublist_append : (a b c d : List ℕ) → IsSublist a b → IsSublist c d → IsSublist (a ++ c) (b ++ d)
sublist_append a b c d end h = h
sublist_append a b c d (skip x xs ys s) h = skip x (xs ++ c) (ys ++ d) (sublist_append xs ys c d s h)
sublist_append a b c d (keep x xs ys s) h = keep x (xs ++ c) (ys ++ d) (sublist_append xs ys c d s h)

pub sublist_self : (xs : List ℕ) → IsSublist xs xs
sublist_self [] = end
sublist_self (x ∷ xs) = keep x xs xs (sublist_self xs)

pub sublist_none : (xs : List ℕ) → IsSublist [] xs
sublist_none [] = end
sublist_none (x ∷ xs) = skip x [] xs (sublist_none xs)

pub sublist_behind : (a b c : List ℕ) → IsSublist a b → IsSublist a (c ++ b)
sublist_behind a b [] s = s
sublist_behind a b (x ∷ c) s = skip x a (c ++ b) (sublist_behind a b c s)

pub sublist_trans : (a b c : List ℕ) → IsSublist a b → IsSublist b c → IsSublist a c
sublist_trans a b c s end = s
sublist_trans a b c s (skip x xs ys t) = skip x a ys (sublist_trans a xs ys s t)
sublist_trans a b c (skip x xs ys s) (keep x' zs ws t) = skip x' xs ws (sublist_trans xs zs ws s t)
sublist_trans a b c (keep x xs ys s) (keep x' zs ws t) = keep x' xs ws (sublist_trans xs zs ws s t)

pub sublist_in : (xs ys : List ℕ) (n : ℕ) → IsSublist xs ys → is_in n xs ≡ true → is_in n ys ≡ true
sublist_in xs ys n end h = h
sublist_in xs ys n (skip x cs ds s) h = in_rest n x ds (sublist_in cs ds n s h)
sublist_in xs ys n (keep x cs ds s) h = elim (first_or_rest n x cs h) [ inl e ↦ in_first n x ds e | inr t ↦ in_rest n x ds (sublist_in cs ds n s t) ]

apart_sublist : (x : ℕ) (xs ys : List ℕ) → IsSublist xs ys → AllByRecursion (λ y. nat_eq x y ≡ false) ys → AllByRecursion (λ y. nat_eq x y ≡ false) xs
apart_sublist x xs ys end h = h
apart_sublist x xs ys (skip z cs ds s) h = apart_sublist x cs ds s h.1
apart_sublist x xs ys (keep z cs ds s) h = (h.0, apart_sublist x cs ds s h.1)

pub sublist_distinct : (xs ys : List ℕ) → IsSublist xs ys → IsDistinct nat_eq ys → IsDistinct nat_eq xs
unfolding IsDistinct
sublist_distinct xs ys end h = h
sublist_distinct xs ys (skip x cs ds s) h = sublist_distinct cs ds s h.1
sublist_distinct xs ys (keep x cs ds s) h = (apart_sublist x cs ds s h.0, sublist_distinct cs ds s h.1)

pub sublist_length : (xs ys : List ℕ) → IsSublist xs ys → length xs ≤ length ys
sublist_length xs ys end = omega arith
sublist_length xs ys (skip x cs ds s) = let l = sublist_length cs ds s in omega (arith, l)
sublist_length xs ys (keep x cs ds s) = let l = sublist_length cs ds s in omega (arith, l)
