-- Statements that are decided: each holds, or it does not. Of a list, and of the numbers below a bound, the first failure
-- is found.
use Rattle.std.proofs.Common.{◌≡◌, ◌⊎◌, inl, inr, ℕ, zero, suc, ◌<◌, ◌≤◌, Bool, true, false, List, [], ◌∷◌, length, get_or, All, AllPairs, Option, Some, None, IsSomeAnd, refl, subst, arith}
use Rattle.std.proofs.lemmas.Bool.{cases_lt}
use Rattle.std.proofs.lemmas.List.Elements.{All-cons, All-head, All-nil, All-tail}
use Rattle.std.proofs.lemmas.Option.{slice_get_within}
use Rattle.std.specs.List.{AllByRecursion, slice_get}
use Rattle.vfa_check.specs.First.{FailsFirst}
use Rattle.vfa_check.proofs.Firsts.{fails_later}

abbrev pub Decided : Type 0 → Type 0
Decided P = P ⊎ (P → ⊥)

pub decided_as : (P Q : Type 0) → (P → Q) → (Q → P) → Decided P → Decided Q
decided_as P Q to from (inl p) = inl (to p)
decided_as P Q to from (inr never) = inr (λ q. never (from q))

pub decided_both : (P Q : Type 0) → Decided P → Decided Q → Decided (P × Q)
decided_both P Q (inl p) (inl q) = inl (p, q)
decided_both P Q (inl p) (inr never) = inr (λ h. never h.1)
decided_both P Q (inr never) _ = inr (λ h. never h.0)

pub decided_implies : (P Q : Type 0) → Decided P → Decided Q → Decided (P → Q)
decided_implies P Q (inr never) _ = inl (λ p. absurd (never p))
decided_implies P Q (inl p) (inl q) = inl (λ _. q)
decided_implies P Q (inl p) (inr never) = inr (λ h. never (h p))

pub decided_truth : (b : Bool) → Decided (b ≡ true)
decided_truth true = inl refl
decided_truth false = inr (λ e. cc)

pub decided_falsity : (b : Bool) → Decided (b ≡ false)
decided_falsity true = inr (λ e. cc)
decided_falsity false = inl refl

pub decided_less : (m n : ℕ) → Decided (m < n)
decided_less m n = at (cases_lt m n)
  where
    at : (m < n) ⊎ (n ≤ m) → Decided (m < n)
    at (inl l) = inl l
    at (inr past) = inr (λ l. absurd (omega arith))

pub decided_some : {A : Type 0} (P : A → Type 0) → ((x : A) → Decided (P x)) → (o : Option A) → Decided (IsSomeAnd o P)
decided_some P each None = inr (λ h. h)
decided_some P each (Some x) = each x

-- lists

pub decided_all : {A : Type 0} (P : A → Type 0) → ((x : A) → Decided (P x)) → (xs : List A) → Decided (All P xs)
decided_all P each [] = inl (All-nil P)
decided_all P each (x ∷ xs) =
    decided_as (P x × All P xs) (All P (x ∷ xs)) (λ h. All-cons P x xs h.0 h.1) (λ h. (All-head P x xs h, All-tail P x xs h))
    (decided_both (P x) (All P xs) (each x) (decided_all P each xs))

pub decided_each : {A : Type 0} (P : A → Type 0) → ((x : A) → Decided (P x)) → (xs : List A) → Decided (AllByRecursion P xs)
decided_each P each [] = inl tt
decided_each P each (x ∷ xs) = decided_both (P x) (AllByRecursion P xs) (each x) (decided_each P each xs)

pairs_cons : {A : Type 0} (R : A → A → Type 0) (x : A) (xs : List A) → All (R x) xs → AllPairs R xs →
    (i j : ℕ) (d : A) → i < j → j < suc (length xs) → R (get_or (x ∷ xs) i d) (get_or (x ∷ xs) j d)
pairs_cons R x xs first rest i zero d l within = absurd (omega arith)
pairs_cons R x xs first rest zero (suc j) d l within = first j d (omega arith)
pairs_cons R x xs first rest (suc i) (suc j) d l within = rest i j d (omega arith) (omega arith)

pub decided_pairs : {A : Type 0} (R : A → A → Type 0) → ((x y : A) → Decided (R x y)) → (xs : List A) → Decided (AllPairs R xs)
decided_pairs R each [] = inl (λ i j d l within. absurd (omega arith))
decided_pairs R each (x ∷ xs) =
    decided_as (All (R x) xs × AllPairs R xs) (AllPairs R (x ∷ xs)) (λ h. pairs_cons R x xs h.0 h.1)
    (λ h. (λ k d within. h zero (suc k) d (omega arith) (omega arith), λ i j d l within. h (suc i) (suc j) d (omega arith) (omega arith)))
    (decided_both (All (R x) xs) (AllPairs R xs) (decided_all (R x) (each x) xs) (decided_pairs R each xs))

-- it holds of all, or there is a first of which it does not hold
pub all_or_first : {A : Type 0} (P : A → Type 0) → ((x : A) → Decided (P x)) → (xs : List A) → All P xs ⊎ ((k : ℕ) × FailsFirst P xs k)
all_or_first P each [] = inl (All-nil P)
all_or_first P each (x ∷ xs) = at (each x) (all_or_first P each xs)
  where
    at : Decided (P x) → All P xs ⊎ ((k : ℕ) × FailsFirst P xs k) → All P (x ∷ xs) ⊎ ((k : ℕ) × FailsFirst P (x ∷ xs) k)
    at (inr never) _ = inr (zero, record { before = All-nil P; here = never })
    at (inl h) (inl rest) = inl (All-cons P x xs h rest)
    at (inl h) (inr r) = inr (suc r.0, fails_later P x xs r.0 h r.1)

pub fails_within : {A : Type 0} (P : A → Type 0) (xs : List A) (k : ℕ) → FailsFirst P xs k → k < length xs
fails_within {A} P xs k r = at (slice_get xs k) refl r.here
  where
    at : (o : Option A) → slice_get xs k ≡ o → IsSomeAnd o (λ x. P x → ⊥) → k < length xs
    at None e h = absurd h
    at (Some x) e h = slice_get_within xs k x e

-- numbers below a bound

pub record FirstBelow (P : ℕ → Type 0) (n : ℕ) : Type 0 where
  pub first : ℕ
  pub within : first < n
  pub before : (k : ℕ) → k < first → P k
  pub fails : P first → ⊥

below_next : (P : ℕ → Type 0) (n : ℕ) → ((k : ℕ) → k < n → P k) → P n → (k : ℕ) → k < suc n → P k
below_next P n all here k less = at (cases_lt k n)
  where
    at : (k < n) ⊎ (n ≤ k) → P k
    at (inl l) = all k l
    at (inr past) = let same : n ≡ k = omega arith in subst P same here

pub below_or_first : (P : ℕ → Type 0) → ((k : ℕ) → Decided (P k)) → (n : ℕ) → ((k : ℕ) → k < n → P k) ⊎ FirstBelow P n
below_or_first P each zero = inl (λ k less. absurd (omega arith))
below_or_first P each (suc n) = at (below_or_first P each n) (each n)
  where
    at : ((k : ℕ) → k < n → P k) ⊎ FirstBelow P n → Decided (P n) → ((k : ℕ) → k < suc n → P k) ⊎ FirstBelow P (suc n)
    at (inr r) _ = inr (record { first = r.first; within = omega arith; before = r.before; fails = r.fails })
    at (inl all) (inl here) = inl (below_next P n all here)
    at (inl all) (inr never) = inr (record { first = n; within = omega arith; before = all; fails = never })

pub decided_below : (P : ℕ → Type 0) → ((k : ℕ) → Decided (P k)) → (n : ℕ) → Decided ((k : ℕ) → k < n → P k)
decided_below P each n = at (below_or_first P each n)
  where
    at : ((k : ℕ) → k < n → P k) ⊎ FirstBelow P n → Decided ((k : ℕ) → k < n → P k)
    at (inl all) = inl all
    at (inr r) = inr (λ h. r.fails (h r.first r.within))
