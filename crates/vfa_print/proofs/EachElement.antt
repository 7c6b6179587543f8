-- What holds of each element of lists that are put together or taken apart.
use Rattle.std.proofs.Common.{◌≡◌, ℕ, zero, suc, List, [], ◌∷◌, ◌++◌, map, flat_map, filter_map, Option, Some, None, option_and_then, slice_get, subst}
use Rattle.std.specs.List.{AllByRecursion, cons_option}

module _ {X : Type 0} (P : X → Type 0) where
  pub each_append : (xs ys : List X) → AllByRecursion P xs → AllByRecursion P ys → AllByRecursion P (xs ++ ys)
  each_append [] ys h k = k
  each_append (x ∷ xs) ys h k = (h.0, each_append xs ys h.1 k)

  pub each_parts : (xs ys : List X) → AllByRecursion P (xs ++ ys) → AllByRecursion P xs × AllByRecursion P ys
  each_parts [] ys h = (tt, h)
  each_parts (x ∷ xs) ys h = let r = each_parts xs ys h.1 in ((h.0, r.0), r.1)

  pub each_weaker : (Q : X → Type 0) → ((x : X) → P x → Q x) → (xs : List X) → AllByRecursion P xs → AllByRecursion Q xs
  each_weaker Q g [] h = tt
  each_weaker Q g (x ∷ xs) h = (g x h.0, each_weaker Q g xs h.1)

  pub each_map : {Y : Type 0} (g : Y → X) (ys : List Y) → AllByRecursion (λ y. P (g y)) ys → AllByRecursion P (map g ys)
  each_map g [] h = tt
  each_map g (y ∷ ys) h = (h.0, each_map g ys h.1)

  pub each_mapped : {Y : Type 0} (g : Y → X) (ys : List Y) → AllByRecursion P (map g ys) → AllByRecursion (λ y. P (g y)) ys
  each_mapped g [] h = tt
  each_mapped g (y ∷ ys) h = (h.0, each_mapped g ys h.1)

  pub each_gathered :
      {Y : Type 0} (g : Y → List X) (ys : List Y) → AllByRecursion P (flat_map g ys) →
      AllByRecursion (λ y. AllByRecursion P (g y)) ys
  each_gathered g [] h = tt
  each_gathered g (y ∷ ys) h = let r = each_parts (g y) (flat_map g ys) h in (r.0, each_gathered g ys r.1)

  cons_first : (o : Option X) (xs : List X) (x : X) → o ≡ Some x → AllByRecursion P (cons_option o xs) → P x
  cons_first None xs x e h = cc
  cons_first (Some y) xs x e h = let same : y ≡ x = cc in subst P same h.0

  cons_rest : (o : Option X) (xs : List X) → AllByRecursion P (cons_option o xs) → AllByRecursion P xs
  cons_rest None xs h = h
  cons_rest (Some y) xs h = h.1

  -- of what a function gives of the elements
  pub each_given :
      {Y : Type 0} (g : Y → Option X) (ys : List Y) → AllByRecursion P (filter_map g ys) →
      AllByRecursion (λ y. (x : X) → g y ≡ Some x → P x) ys
  each_given g [] h = tt
  each_given g (y ∷ ys) h =
      (λ x e. cons_first (g y) (filter_map g ys) x e h, each_given g ys (cons_rest (g y) (filter_map g ys) h))

  pub given_at :
      {Y : Type 0} (g : Y → Option X) (ys : List Y) (k : ℕ) (x : X) → AllByRecursion P (filter_map g ys) →
      option_and_then g (slice_get ys k) ≡ Some x → P x
  given_at g [] k x h e = cc
  given_at g (y ∷ ys) zero x h e = cons_first (g y) (filter_map g ys) x e h
  given_at g (y ∷ ys) (suc k) x h e = given_at g ys k x (cons_rest (g y) (filter_map g ys) h) e

  -- of the element at a place
  pub each_at : (xs : List X) (k : ℕ) (x : X) → AllByRecursion P xs → slice_get xs k ≡ Some x → P x
  each_at [] k x h e = cc
  each_at (y ∷ xs) zero x h e = let same : y ≡ x = cc in subst P same h.0
  each_at (y ∷ xs) (suc k) x h e = each_at xs k x h.1 e
