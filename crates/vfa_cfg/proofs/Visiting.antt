-- What depth-first visits give: the result is determined; what was visited was new, is reached, and is closed under edges.
use Rattle.std.proofs.Common.{◌≡◌, ℕ, ◌<◌, true, false, not, nat_eq, nat_lt, List, [], ◌∷◌, ◌++◌, length, refl, sym, ap, subst, inl, inr, ◌⊎◌}
use Rattle.std.proofs.lemmas.Bool.{ltb-true, lt-ltb}
use Rattle.std.specs.List.{IsDistinct}
use Rattle.vfa_ir.specs.declared.functions.Function.{Function}
use Rattle.vfa_ir.specs.Walks.{is_in, successors, IsReached}
use Rattle.vfa_cfg.specs.Order.{Visits, none, known, fresh, is_new}
use Rattle.vfa_cfg.proofs.Members.{false_is_no_truth, no_truth, and_left, and_right, and_false, not_true, in_left, in_right, in_cases, in_first, in_rest, first_or_rest, distinct_append, distinct_cons, distinct_nil}

pub same_visits :
    {f : Function} {seen todo after found after' found' : List ℕ} → Visits f seen todo after found → Visits f seen todo after' found' →
    (after ≡ after') × (found ≡ found')
same_visits none none = (refl, refl)
same_visits (known n v) (known n' v') = same_visits v v'
same_visits (known n v) (fresh n' w' v') = absurd (false_is_no_truth {X = ⊥} n' n)
same_visits (fresh n w v) (known n' v') = absurd (false_is_no_truth {X = ⊥} n n')
same_visits {f} (fresh {b = b} {rest = rest} n w v) (fresh {between = between'} {after = after'} {found = found'} n' w' v') =
    let below = same_visits w w' in
    let moved : Visits f _ rest after' found' = subst (λ s. Visits f s rest after' found') (sym below.0) v' in
    let others = same_visits v moved in
    (others.0, cc)

new_is_block : (f : Function) (seen : List ℕ) (b : ℕ) → is_new f seen b ≡ true → b < length f.blocks
new_is_block f seen b h = ltb-true b (length f.blocks) (and_left (nat_lt b (length f.blocks)) _ h)

new_is_unseen : (f : Function) (seen : List ℕ) (b : ℕ) → is_new f seen b ≡ true → is_in b seen ≡ false
new_is_unseen f seen b h = not_true (is_in b seen) (and_right (nat_lt b (length f.blocks)) (not (is_in b seen)) h)

old_is_seen : (f : Function) (seen : List ℕ) (b : ℕ) → is_new f seen b ≡ false → b < length f.blocks → is_in b seen ≡ true
old_is_seen f seen b h l = and_false (nat_lt b (length f.blocks)) (is_in b seen) (lt-ltb b (length f.blocks) l) h

-- what was seen stays seen
pub seen_stays :
    {f : Function} {seen todo after found : List ℕ} → Visits f seen todo after found → (x : ℕ) → is_in x seen ≡ true → is_in x after ≡ true
seen_stays none x h = h
seen_stays (known n v) x h = seen_stays v x h
seen_stays (fresh {b = b} {seen = seen} n w v) x h = seen_stays v x (seen_stays w x (in_rest x b seen h))

-- what was found is seen afterwards
pub found_is_seen :
    {f : Function} {seen todo after found : List ℕ} → Visits f seen todo after found → (x : ℕ) → is_in x found ≡ true → is_in x after ≡ true
found_is_seen none x h = absurd (let e = h in cc)
found_is_seen (known n v) x h = found_is_seen v x h
found_is_seen (fresh {b = b} {seen = seen} {below = below} {found = found} n w v) x h = elim (in_cases x found (b ∷ below) h) [
  | inl l ↦ found_is_seen v x l
  | inr r ↦ elim (first_or_rest x b below r) [
    | inl e ↦ seen_stays v x (seen_stays w x (subst (λ y. is_in y (b ∷ seen) ≡ true) (sym e) (in_first b seen)))
    | inr t ↦ seen_stays v x (found_is_seen w x t)
  ]
]

-- and nothing else
pub seen_was_found :
    {f : Function} {seen todo after found : List ℕ} → Visits f seen todo after found → (x : ℕ) → is_in x after ≡ true →
    (is_in x seen ≡ true) ⊎ (is_in x found ≡ true)
seen_was_found none x h = inl h
seen_was_found (known n v) x h = seen_was_found v x h
seen_was_found (fresh {b = b} {seen = seen} {below = below} {found = found} n w v) x h = elim (seen_was_found v x h) [
  | inr r ↦ inr (in_left x found (b ∷ below) r)
  | inl l ↦ elim (seen_was_found w x l) [
    | inr t ↦ inr (in_right x found (b ∷ below) (in_rest x b below t))
    | inl t ↦ elim (first_or_rest x b seen t) [
      | inl e ↦ inr (in_right x found (b ∷ below) (subst (λ y. is_in y (b ∷ below) ≡ true) (sym e) (in_first b below)))
      | inr k ↦ inl k
    ]
  ]
]

-- what was found is a block of the function
pub found_is_block :
    {f : Function} {seen todo after found : List ℕ} → Visits f seen todo after found → (x : ℕ) → is_in x found ≡ true → x < length f.blocks
found_is_block none x h = absurd (let e = h in cc)
found_is_block (known n v) x h = found_is_block v x h
found_is_block {f} (fresh {b = b} {seen = seen} {below = below} {found = found} n w v) x h = elim (in_cases x found (b ∷ below) h) [
  | inl l ↦ found_is_block v x l
  | inr r ↦ elim (first_or_rest x b below r) [
    | inl e ↦ subst (λ y. y < length f.blocks) (sym e) (new_is_block f seen b n)
    | inr t ↦ found_is_block w x t
  ]
]

-- and was not seen before
pub found_is_new :
    {f : Function} {seen todo after found : List ℕ} → Visits f seen todo after found → (x : ℕ) → is_in x seen ≡ true → is_in x found ≡ false
found_is_new none x h = refl
found_is_new (known n v) x h = found_is_new v x h
found_is_new {f} (fresh {b = b} {seen = seen} {below = below} {found = found} n w v) x h =
    no_truth (is_in x (found ++ (b ∷ below))) (λ t. elim (in_cases x found (b ∷ below) t) [
      | inl l ↦ false_is_no_truth l (found_is_new v x (seen_stays w x (in_rest x b seen h)))
      | inr r ↦ elim (first_or_rest x b below r) [
        | inl e ↦ false_is_no_truth h (subst (λ y. is_in y seen ≡ false) (sym e) (new_is_unseen f seen b n))
        | inr k ↦ false_is_no_truth k (found_is_new w x (in_rest x b seen h))
      ]
    ])

-- and was found once
pub found_once :
    {f : Function} {seen todo after found : List ℕ} → Visits f seen todo after found → IsDistinct nat_eq found
found_once none = distinct_nil
found_once (known n v) = found_once v
found_once (fresh {b = b} {seen = seen} {below = below} {found = found} n w v) =
    distinct_append found (b ∷ below) (found_once v) (distinct_cons b below (found_is_new w b (in_first b seen)) (found_once w))
    (λ x l. no_truth (is_in x (b ∷ below)) (λ r. elim (first_or_rest x b below r) [
      | inl e ↦ false_is_no_truth l (found_is_new v x (seen_stays w x (subst (λ y. is_in y (b ∷ seen) ≡ true) (sym e) (in_first b seen))))
      | inr k ↦ false_is_no_truth l (found_is_new v x (found_is_seen w x k))
    ]))

-- all that was to be visited is seen afterwards
pub todo_is_seen :
    {f : Function} {seen todo after found : List ℕ} → Visits f seen todo after found →
    (x : ℕ) → is_in x todo ≡ true → x < length f.blocks → is_in x after ≡ true
todo_is_seen none x h l = absurd (let e = h in cc)
todo_is_seen {f} (known {b = b} {seen = seen} {rest = rest} n v) x h l = elim (first_or_rest x b rest h) [
  | inl e ↦ seen_stays v x (subst (λ y. is_in y seen ≡ true) (sym e) (old_is_seen f seen b n (subst (λ y. y < length f.blocks) e l)))
  | inr r ↦ todo_is_seen v x r l
]
todo_is_seen (fresh {b = b} {seen = seen} {rest = rest} n w v) x h l = elim (first_or_rest x b rest h) [
  | inl e ↦ seen_stays v x (seen_stays w x (subst (λ y. is_in y (b ∷ seen) ≡ true) (sym e) (in_first b seen)))
  | inr r ↦ todo_is_seen v x r l
]

-- an edge from what was found leads to what is seen afterwards
pub found_is_closed :
    {f : Function} {seen todo after found : List ℕ} → Visits f seen todo after found →
    (x y : ℕ) → is_in x found ≡ true → is_in y (successors f x) ≡ true → y < length f.blocks → is_in y after ≡ true
found_is_closed none x y h s l = absurd (let e = h in cc)
found_is_closed (known n v) x y h s l = found_is_closed v x y h s l
found_is_closed {f} (fresh {b = b} {seen = seen} {below = below} {found = found} n w v) x y h s l = elim (in_cases x found (b ∷ below) h) [
  | inl t ↦ found_is_closed v x y t s l
  | inr r ↦ seen_stays v y (elim (first_or_rest x b below r) [
    | inl e ↦ todo_is_seen w y (subst (λ z. is_in y (successors f z) ≡ true) e s) l
    | inr t ↦ found_is_closed w x y t s l
  ])
]

-- a walk that comes to a block goes on along its edges
walks_on : (f : Function) (from to : ℕ) → IsReached f from → is_in to (successors f from) ≡ true → IsReached f to
walks_on f from to r h = record { passed = from ∷ r.passed; walk = (h, r.walk) }

-- what was found is reached, where what was to be visited is
pub found_is_reached :
    {f : Function} {seen todo after found : List ℕ} → Visits f seen todo after found →
    ((x : ℕ) → is_in x todo ≡ true → IsReached f x) → (x : ℕ) → is_in x found ≡ true → IsReached f x
found_is_reached none r x h = absurd (let e = h in cc)
found_is_reached (known {b = b} {rest = rest} n v) r x h = found_is_reached v (λ y t. r y (in_rest y b rest t)) x h
found_is_reached {f} (fresh {b = b} {below = below} {rest = rest} {found = found} n w v) r x h =
    let here : IsReached f b = r b (in_first b rest) in
    elim (in_cases x found (b ∷ below) h) [
      | inl t ↦ found_is_reached v (λ y t. r y (in_rest y b rest t)) x t
      | inr t ↦ elim (first_or_rest x b below t) [
        | inl e ↦ subst (IsReached f) (sym e) here
        | inr k ↦ found_is_reached w (λ y t. walks_on f b y here t) x k
      ]
    ]

-- The visit of one block that is new begins with it.

pub nothing_found : {f : Function} {seen after found : List ℕ} → Visits f seen [] after found → (seen ≡ after) × (found ≡ [])
nothing_found none = (refl, refl)

pub first_found :
    {f : Function} {b : ℕ} {seen after found : List ℕ} → Visits f seen (b ∷ []) after found → is_new f seen b ≡ true →
    (below : List ℕ) × (found ≡ b ∷ below)
first_found (known n v) h = absurd (false_is_no_truth {X = ⊥} h n)
first_found (fresh {b = b} {below = below} n w v) h = (below, ap (λ e. e ++ (b ∷ below)) (nothing_found v).1)
