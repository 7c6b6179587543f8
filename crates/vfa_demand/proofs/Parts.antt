-- What a list of parts asks for.
use Rattle.std.proofs.Common.{◌≡◌, ◌<◌, ◌≤◌, ℕ, zero, suc, List, [], ◌∷◌, ◌++◌, length, get_or, flat_map, Some, None, ap, subst, arith, sym, refl}
use Rattle.std.specs.Prelude.{All, IfSome, slice_get}
use Rattle.vfa_demand.specs.Masks.{Ask, Have, IsPartOf}
use Rattle.vfa_demand.proofs.Within.{within_trans}

pub have_append : (xs ys : List Ask) (m : ℕ → ℕ) → Have xs m → Have ys m → Have (xs ++ ys) m
have_append [] ys m h k = k
have_append (x ∷ xs) ys m h k = (h.0, have_append xs ys m h.1 k)

pub have_left : (xs ys : List Ask) (m : ℕ → ℕ) → Have (xs ++ ys) m → Have xs m
have_left [] ys m h = tt
have_left (x ∷ xs) ys m h = (h.0, have_left xs ys m h.1)

pub have_right : (xs ys : List Ask) (m : ℕ → ℕ) → Have (xs ++ ys) m → Have ys m
have_right [] ys m h = h
have_right (x ∷ xs) ys m h = have_right xs ys m h.1

-- greater masks have it too
pub have_grown : (asks : List Ask) (m m' : ℕ → ℕ) → ((v : ℕ) → IsPartOf (m v) (m' v)) → Have asks m → Have asks m'
have_grown [] m m' grown h = tt
have_grown (a ∷ asks) m m' grown h = (within_trans a.bits (m a.name) (m' a.name) h.0 (grown a.name), have_grown asks m m' grown h.1)

-- the part at a place of a list
abbrev pub HaveAt : {X : Type 0} → (X → List Ask) → List X → ℕ → (ℕ → ℕ) → Type 0
HaveAt asks xs k m = IfSome (slice_get xs k) (λ x. Have (asks x) m)

pub have_flat : {X : Type 0} (asks : X → List Ask) (xs : List X) (m : ℕ → ℕ) → ((k : ℕ) → k < length xs → HaveAt asks xs k m) → Have (flat_map asks xs) m
have_flat asks [] m h = tt
have_flat asks (x ∷ xs) m h =
    have_append (asks x) (flat_map asks xs) m (h 0 (omega arith)) (have_flat asks xs m (λ k less. h (suc k) (omega (arith, less))))

pub have_parts : {X : Type 0} (asks : X → List Ask) (xs : List X) (m : ℕ → ℕ) → Have (flat_map asks xs) m → (k : ℕ) → HaveAt asks xs k m
have_parts asks [] m h k = tt
have_parts asks (x ∷ xs) m h zero = have_left (asks x) (flat_map asks xs) m h
have_parts asks (x ∷ xs) m h (suc k) = have_parts asks xs m (have_right (asks x) (flat_map asks xs) m h) k

-- an element at a place
pub all_at : {X : Type 0} (P : X → Type 0) (xs : List X) (k : ℕ) (x : X) → slice_get xs k ≡ Some x → All P xs → P x
all_at P [] k x at all = absurd (cc)
all_at P (y ∷ ys) zero x at all = let same : y ≡ x = cc in subst P same (all 0 y (omega arith))
all_at P (y ∷ ys) (suc k) x at all = all_at P ys k x at (λ j d less. all (suc j) d (omega (arith, less)))

pub found_at : {X : Type 0} (xs : List X) (k : ℕ) (x : X) → k < length xs → ((d : X) → x ≡ get_or xs k d) → slice_get xs k ≡ Some x
found_at [] k x less same = absurd (omega (arith, less))
found_at (y ∷ ys) zero x less same = ap Some (sym (same y))
found_at (y ∷ ys) (suc k) x less same = found_at ys k x (omega (arith, less)) same

pub past_end : {X : Type 0} (xs : List X) (k : ℕ) → length xs ≤ k → slice_get xs k ≡ None
past_end [] k past = refl
past_end (y ∷ ys) zero past = absurd (omega (arith, past))
past_end (y ∷ ys) (suc k) past = past_end ys k (omega (arith, past))
