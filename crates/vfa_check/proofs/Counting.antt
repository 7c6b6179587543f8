-- Tallies of blocks: how often each stands in the part of a list that a loop has passed.
use Rattle.std.proofs.Common.{◌≡◌, ◌≢◌, ◌∙◌, ◌⊎◌, inl, inr, ℕ, ◌+◌, ◌-◌, ◌<◌, ◌≤◌, Bool, true, false, cond, eqb, List, [], ◌∷◌, length, take, set, get_or, All, refl, sym, ap, subst, arith, add-zero, zero-add, count_by}
use Rattle.std.proofs.lemmas.Bool.{eq-eqb, eqb-false, eqb-true}
use Rattle.std.proofs.lemmas.List.{get_or-set_same, get_or-set_other, length-take}
use Rattle.std.proofs.lemmas.List.Elements.{All-head, All-tail}
use Rattle.std.proofs.lemmas.List.Sums.{count_by-le-length, count_by_more_yes, sum_by-cons, sum_by_more, sum_by-take-le}
use Rattle.vfa_ir.specs.declared.operations.BlockId.{BlockId}
use Rattle.vfa_ir.specs.declared.operations.Operand.{Operand}
use Rattle.vfa_check.specs.Predecessors.{Entries, NamesEach, times, times_named}

-- one element more is counted where the test passes
pub count_next : {A : Type 0} (p : A → Bool) (xs : List A) (i : ℕ) (d : A) → i < length xs →
    count_by p (take (i + 1) xs) ≡ count_by p (take i xs) + cond (p (get_or xs i d)) 1 0
count_next p xs i d within = sum_by_more (λ x. cond (p x) 1 0) xs i d within

pub count_bound : {A : Type 0} (p : A → Bool) (xs : List A) (i : ℕ) → i ≤ length xs → count_by p (take i xs) ≤ i
count_bound {A} p xs i h =
    let few : count_by p (take i xs) ≤ length (take i xs) = count_by-le-length p (take i xs) in
    let long : length (take i xs) ≤ i = (rw length-take (omega arith)) in
    omega arith

pub count_front : {A : Type 0} (p : A → Bool) (n : ℕ) (xs : List A) → count_by p (take n xs) ≤ count_by p xs
count_front p n xs = sum_by-take-le (λ x. cond (p x) 1 0) xs n

-- one more, or one fewer, at a place
pub add_at : (left : List ℕ) (k b : ℕ) → k < length left →
    get_or (set left k (get_or left k 0 + 1)) b 0 ≡ get_or left b 0 + cond (eqb k b) 1 0
add_at left k b within = at (eqb k b) refl
  where
    at : (t : Bool) → eqb k b ≡ t → get_or (set left k (get_or left k 0 + 1)) b 0 ≡ get_or left b 0 + cond t 1 0
    at true h =
        let same : k ≡ b = eqb-true k b h in
        subst (λ m. get_or (set left k (get_or left k 0 + 1)) m 0 ≡ get_or left m 0 + 1) same (get_or-set_same left k (get_or left k 0 + 1) 0 within)
    at false h = get_or-set_other left k b (get_or left k 0 + 1) 0 (λ e. eqb-false k b h (sym e)) ∙ sym (add-zero (get_or left b 0))

pub take_at : (left : List ℕ) (k b : ℕ) → k < length left → get_or left k 0 ≢ 0 →
    get_or (set left k (get_or left k 0 - 1)) b 0 + cond (eqb k b) 1 0 ≡ get_or left b 0
take_at left k b within some = at (eqb k b) refl
  where
    at : (t : Bool) → eqb k b ≡ t → get_or (set left k (get_or left k 0 - 1)) b 0 + cond t 1 0 ≡ get_or left b 0
    at true h =
        let same : k ≡ b = eqb-true k b h in
        let one : get_or left k 0 - 1 + 1 ≡ get_or left k 0 = omega arith in
        subst (λ m. get_or (set left k (get_or left k 0 - 1)) m 0 + 1 ≡ get_or left m 0) same
        (ap (λ n. n + 1) (get_or-set_same left k (get_or left k 0 - 1) 0 within) ∙ one)
    at false h = add-zero _ ∙ get_or-set_other left k b (get_or left k 0 - 1) 0 (λ e. eqb-false k b h (sym e))

-- an entry for which nothing is left names its block too often
pub named_too_often : (left before : List ℕ) (entries : Entries) (i : ℕ) (d : Operand × BlockId) → i < length entries →
    get_or left (get_or entries i d).1.0 0 ≡ 0 →
    ((b : ℕ) → get_or left b 0 + times_named b (take i entries) ≡ get_or before b 0) →
    get_or before (get_or entries i d).1.0 0 < times_named (get_or entries i d).1.0 entries
named_too_often left before entries i d within none taken =
    let b : ℕ = (get_or entries i d).1.0 in
    let p : Operand × BlockId → Bool = λ e. eqb e.1.0 b in
    let next : count_by p (take (i + 1) entries) ≡ count_by p (take i entries) + 1 = count_by_more_yes p entries i d within (eq-eqb b b refl) in
    let front : count_by p (take (i + 1) entries) ≤ count_by p entries = count_front p (i + 1) entries in
    let so_far : get_or left b 0 + count_by p (take i entries) ≡ get_or before b 0 = taken b in
    let gone : get_or left b 0 ≡ 0 = none in
    omega arith

-- where nothing is left of the predecessors, each other block has none either
pub none_of_any : (left : List ℕ) (predecessors : List BlockId) (b : ℕ) → All (λ p. get_or left p.0 0 ≡ 0) predecessors →
    (times b predecessors ≡ 0) ⊎ (get_or left b 0 ≡ 0)
none_of_any left [] b h = inl refl
none_of_any left (p ∷ rest) b h = at (eqb p.0 b) refl (none_of_any left rest b (All-tail (λ (q : BlockId). get_or left q.0 0 ≡ 0) p rest h))
  where
    at : (t : Bool) → eqb p.0 b ≡ t → (times b rest ≡ 0) ⊎ (get_or left b 0 ≡ 0) → (times b (p ∷ rest) ≡ 0) ⊎ (get_or left b 0 ≡ 0)
    at true e r = inr (subst (λ n. get_or left n 0 ≡ 0) (eqb-true p.0 b e) (All-head (λ (q : BlockId). get_or left q.0 0 ≡ 0) p rest h))
    at false e (inl z) = inl (sum_by-cons (λ (q : BlockId). cond (eqb q.0 b) 1 0) p rest ∙ ap (λ t. cond t 1 0 + times b rest) e ∙ zero-add (times b rest) ∙ z)
    at false e (inr z) = inr z

-- so the entries name each predecessor as often as it stands there
pub names_from_none : (left : List ℕ) (predecessors : List BlockId) (entries : Entries) →
    ((b : ℕ) → get_or left b 0 + times_named b entries ≡ times b predecessors) → All (λ p. get_or left p.0 0 ≡ 0) predecessors →
    (b : ℕ) → (get_or left b 0 ≡ 0) × (times_named b entries ≡ times b predecessors)
names_from_none left predecessors entries taken none b = at (none_of_any left predecessors b none)
  where
    at : (times b predecessors ≡ 0) ⊎ (get_or left b 0 ≡ 0) → (get_or left b 0 ≡ 0) × (times_named b entries ≡ times b predecessors)
    at (inl z) = let t : get_or left b 0 + times_named b entries ≡ times b predecessors = taken b in (omega arith, omega arith)
    at (inr z) = let t : get_or left b 0 + times_named b entries ≡ times b predecessors = taken b in (z, omega arith)

pub none_from_names : (left : List ℕ) (predecessors : List BlockId) (entries : Entries) →
    ((b : ℕ) → get_or left b 0 + times_named b entries ≡ times b predecessors) → NamesEach predecessors entries → (b : ℕ) → get_or left b 0 ≡ 0
none_from_names left predecessors entries taken names b =
    let t : get_or left b 0 + times_named b entries ≡ times b predecessors = taken b in
    let n : times_named b entries ≡ times b predecessors = names b in
    omega arith

-- what stands for an entry past the end
abbrev pub no_entry : Operand × BlockId
no_entry = (Operand.Value (record { 0 = 0 }), record { 0 = 0 })

-- one entry more is taken off its tally
pub taken_next : (left before : List ℕ) (entries : Entries) (i n b : ℕ) → i < length entries →
    (get_or entries i no_entry).1.0 < length left → n ≡ get_or left (get_or entries i no_entry).1.0 0 → n ≢ 0 →
    get_or left b 0 + times_named b (take i entries) ≡ get_or before b 0 →
    get_or (set left (get_or entries i no_entry).1.0 (n - 1)) b 0 + times_named b (take (i + 1) entries) ≡ get_or before b 0
taken_next left before entries i n b within inside is some taken =
    let k : ℕ = (get_or entries i no_entry).1.0 in
    let next : times_named b (take (i + 1) entries) ≡ times_named b (take i entries) + cond (eqb k b) 1 0 =
    count_next (λ e. eqb e.1.0 b) entries i no_entry within in
    let here : get_or (set left k (get_or left k 0 - 1)) b 0 + cond (eqb k b) 1 0 ≡ get_or left b 0 = take_at left k b inside (λ z. some (is ∙ z)) in
    let same : get_or (set left k (n - 1)) b 0 ≡ get_or (set left k (get_or left k 0 - 1)) b 0 = ap (λ m. get_or (set left k (m - 1)) b 0) is in
    omega arith
