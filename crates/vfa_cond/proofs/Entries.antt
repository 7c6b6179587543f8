-- What stands at a name's place, and what an edit there changes.
use Rattle.std.proofs.Common.{◌≡◌, ◌<◌, ◌≤◌, ℕ, zero, suc, ◌+◌, Bool, true, false, nat_eq, nat_lt, if◌then◌else◌, Option, Some, None, IsSome, List, [], ◌∷◌, length, set, get_or, refl, sym, ap, ◌∙◌, subst, arith, eqb-true, ltb-true, ltb-false, inl, inr}
use Rattle.std.specs.Prelude.{slice_get}
use Rattle.std.specs.List.{insert, remove}
use Rattle.std.specs.List.Sorted.{IsPartitionPoint, IsPartitionedBy, IsNonDecreasingBy}
use Rattle.std.proofs.lemmas.List.Sorted.{IsPartitionedBy-leb}
use Rattle.std.proofs.lemmas.List.Edits.{length-insert}
use Rattle.std.proofs.lemmas.Bool.{cases_lt, eq-eqb}
use Rattle.std.proofs.lemmas.Bool.Decides.{nat_tests}
use Rattle.std.proofs.lemmas.Option.{slice_get_within, get_or_from_slice_get}
use Rattle.vfa_cond.specs.declared.state.Entry.{Entry}
use Rattle.vfa_cond.specs.States.{AbstractState, Stored, fact_in, mark_in, Ascends}
use Rattle.vfa_cond.specs.Places.{place_in, found}

-- two functions that agree everywhere are equal
pub funext : {A B : Type 0} {f g : A → B} → ((x : A) → f x ≡ g x) → f ≡ g
funext h = λ i x. h x i

-- the name stands at this place, behind lesser ones
pub data Stands {V : Type 0} (v : ℕ) : List (Entry V) → ℕ → Type 0 where
  here : (e : Entry V) (rest : List (Entry V)) → e.name.0 ≡ v → Stands v (e ∷ rest) zero
  later : (e : Entry V) (rest : List (Entry V)) (i : ℕ) → e.name.0 < v → Stands v rest i → Stands v (e ∷ rest) (suc i)

-- the name does not stand among these, and belongs at this place
pub data Belongs {V : Type 0} (v : ℕ) : List (Entry V) → ℕ → Type 0 where
  last : Belongs v [] zero
  first : (e : Entry V) (rest : List (Entry V)) → v < e.name.0 → Belongs v (e ∷ rest) zero
  behind : (e : Entry V) (rest : List (Entry V)) (i : ℕ) → e.name.0 < v → Belongs v rest i → Belongs v (e ∷ rest) (suc i)

mark_in-set : (marks : List Bool) (v u : ℕ) (b : Bool) → v < length marks → mark_in (set marks v b) u ≡ (if nat_eq u v then b else mark_in marks u)
mark_in-set [] v u b inside = absurd (omega arith)
mark_in-set (m ∷ rest) zero zero b inside = refl
mark_in-set (m ∷ rest) zero (suc u) b inside = grind (arith, nat_tests)
mark_in-set (m ∷ rest) (suc v) zero b inside = grind (arith, nat_tests)
mark_in-set (m ∷ rest) (suc v) (suc u) b inside = grind (arith, nat_tests, mark_in-set rest v u b (omega arith))

module _ {V : Type 0} where
  abbrev pub entry : ℕ → V → Entry V
  entry v d = record { name = record { 0 = v }; fact = d }

  -- a name below all others has no fact
  pub absent : (xs : List (Entry V)) (low high v : ℕ) → Ascends low high xs → v < low → fact_in xs v ≡ None
  absent [] low high v sorted below = refl
  absent (e ∷ rest) low high v sorted below = grind (arith, nat_tests, absent rest (suc e.name.0) high v sorted.2 (omega (arith, sorted.0)), sorted.0)

  -- the fact of a name stands at its place
  pub fact_at : (xs : List (Entry V)) (low high v : ℕ) → Ascends low high xs → fact_in xs v ≡ found v (slice_get xs (place_in xs v))
  fact_at [] low high v sorted = refl
  fact_at (e ∷ rest) low high v sorted = elim (cases_lt e.name.0 v) [
    | inl below ↦ grind (arith, nat_tests, fact_at rest (suc e.name.0) high v sorted.2)
    | inr above ↦ grind (arith, nat_tests, absent rest (suc e.name.0) high v sorted.2)
  ]

  pub found_there : (xs : List (Entry V)) (low high v i : ℕ) → Ascends low high xs → i ≡ place_in xs v → fact_in xs v ≡ found v (slice_get xs i)
  found_there xs low high v i sorted is = fact_at xs low high v sorted ∙ ap (λ k. found v (slice_get xs k)) (sym is)

  at_least : (xs : List (Entry V)) (low high j : ℕ) (d : Entry V) → Ascends low high xs → j < length xs → low ≤ (get_or xs j d).name.0
  at_least [] low high j d sorted inside = absurd (omega (arith, inside))
  at_least (e ∷ rest) low high zero d sorted inside = sorted.0
  at_least (e ∷ rest) low high (suc j) d sorted inside = omega (arith, at_least rest (suc e.name.0) high j d sorted.2 (omega arith), sorted.0)

  pub rises : (xs : List (Entry V)) (low high : ℕ) → Ascends low high xs → IsNonDecreasingBy (λ (e : Entry V). suc e.name.0) xs
  rises [] low high sorted i j d le inside = absurd (omega (arith, inside))
  rises (e ∷ rest) low high sorted zero zero d le inside = omega arith
  rises (e ∷ rest) low high sorted zero (suc j) d le inside = omega (arith, at_least rest (suc e.name.0) high j d sorted.2 (omega arith))
  rises (e ∷ rest) low high sorted (suc i) zero d le inside = absurd (omega arith)
  rises (e ∷ rest) low high sorted (suc i) (suc j) d le inside = rises rest (suc e.name.0) high sorted.2 i j d (omega arith) (omega arith)

  -- where the lesser names end is the place
  pub point_is : (xs : List (Entry V)) (v i : ℕ) → i ≤ length xs → IsPartitionPoint (λ e. nat_lt e.name.0 v ≡ true) (λ e. nat_lt e.name.0 v ≡ false) xs i → i ≡ place_in xs v
  point_is [] v i le point = omega arith
  point_is (e ∷ rest) v zero le point = rw (point.1 0 e (omega arith) (omega arith))
  point_is (e ∷ rest) v (suc i) le point =
      rw (point.0 0 e (omega arith) (omega arith))
      (ap suc (point_is rest v i (omega arith) ((λ k d low high. point.0 (suc k) d (omega arith) (omega arith)), (λ k d low high. point.1 (suc k) d (omega arith) (omega arith)))))

  pub found_name : (v : ℕ) (d e : Entry V) → Some d ≡ Some e → v ≤ d.name.0 → v ≤ e.name.0
  found_name v d e same le = let is : d ≡ e = cc in subst (λ (x : Entry V). v ≤ x.name.0) is le

  -- the place behind a lesser name that has no lesser name at it, or the first place
  pub first_place : (xs : List (Entry V)) (v : ℕ) → ((e : Entry V) → slice_get xs 0 ≡ Some e → v ≤ e.name.0) → 0 ≡ place_in xs v
  first_place [] v none = refl
  first_place (e ∷ rest) v none = let le : v ≤ e.name.0 = none e refl in grind (arith, nat_tests, le)

  pub next_place : (xs : List (Entry V)) (low high v i : ℕ) (before : Entry V) → Ascends low high xs → slice_get xs i ≡ Some before → before.name.0 < v →
      ((e : Entry V) → slice_get xs (suc i) ≡ Some e → v ≤ e.name.0) → suc i ≡ place_in xs v
  next_place [] low high v i before sorted is less none = absurd cc
  next_place (e ∷ rest) low high v zero before sorted is less none =
      let same : e ≡ before = cc in
      let below : e.name.0 < v = subst (λ (d : Entry V). d.name.0 < v) (sym same) less in
      let more : 0 ≡ place_in rest v = first_place rest v none in
      grind (arith, nat_tests, below, more)
  next_place (e ∷ rest) low high v (suc i) before sorted is less none =
      let inside : i < length rest = slice_get_within rest i before is in
      let same : get_or rest i before ≡ before = get_or_from_slice_get rest i before before is in
      let above : suc e.name.0 ≤ (get_or rest i before).name.0 = at_least rest (suc e.name.0) high i before sorted.2 inside in
      let lower : suc e.name.0 ≤ before.name.0 = subst (λ (d : Entry V). suc e.name.0 ≤ d.name.0) same above in
      let below : e.name.0 < v = omega (arith, lower, less) in
      let more : suc i ≡ place_in rest v = next_place rest (suc e.name.0) high v i before sorted.2 is less none in
      grind (arith, nat_tests, below, more)

  same_name : (x y : ℕ) (d : V) (b : Bool) → nat_eq x y ≡ b → IsSome (if b then Some d else None) → x ≡ y
  same_name x y d true t is = eqb-true x y t
  same_name x y d false t is = absurd cc

  other_name : (x y : ℕ) (d : V) (b : Bool) → nat_eq x y ≡ b → (if b then Some d else None) ≡ None → x ≡ y → ⊥
  other_name x y d true t is same = cc
  other_name x y d false t is same = grind (arith, nat_tests)

  stands_by : (e : Entry V) (rest : List (Entry V)) (v : ℕ) (b : Bool) → nat_lt e.name.0 v ≡ b
      → (IsSome (found v (slice_get rest (place_in rest v))) → Stands v rest (place_in rest v))
      → IsSome (found v (slice_get (e ∷ rest) (if b then suc (place_in rest v) else 0))) → Stands v (e ∷ rest) (if b then suc (place_in rest v) else 0)
  stands_by e rest v true t ih is = later e rest _ (ltb-true _ _ t) (ih is)
  stands_by e rest v false t ih is = here e rest (same_name e.name.0 v e.fact (nat_eq e.name.0 v) refl is)

  -- a name that stands at its place has a fact
  pub found_by : (o : Option V) (v : ℕ) (e : Entry V) {x : Option (Entry V)} → o ≡ found v x → x ≡ Some e → e.name.0 ≡ v → IsSome o
  found_by o v e is there named = subst IsSome (sym (is ∙ ap (found v) there)) (named_some (nat_eq e.name.0 v) (eq-eqb e.name.0 v named))
    where
      named_some : (b : Bool) → b ≡ true → IsSome (if b then Some e.fact else None)
      named_some true t = refl
      named_some false t = absurd cc

  pub stands : (xs : List (Entry V)) (v : ℕ) → IsSome (found v (slice_get xs (place_in xs v))) → Stands v xs (place_in xs v)
  stands [] v is = absurd cc
  stands (e ∷ rest) v is = stands_by e rest v (nat_lt e.name.0 v) refl (stands rest v) is

  belongs_by : (e : Entry V) (rest : List (Entry V)) (v : ℕ) (b : Bool) → nat_lt e.name.0 v ≡ b
      → (found v (slice_get rest (place_in rest v)) ≡ None → Belongs v rest (place_in rest v))
      → found v (slice_get (e ∷ rest) (if b then suc (place_in rest v) else 0)) ≡ None → Belongs v (e ∷ rest) (if b then suc (place_in rest v) else 0)
  belongs_by e rest v true t ih none = behind e rest _ (ltb-true _ _ t) (ih none)
  belongs_by e rest v false t ih none =
      let differ : e.name.0 ≡ v → ⊥ = other_name e.name.0 v e.fact (nat_eq e.name.0 v) refl none in
      let le : v ≤ e.name.0 = ltb-false _ _ t in
      first e rest (omega arith)

  pub belongs : (xs : List (Entry V)) (v : ℕ) → found v (slice_get xs (place_in xs v)) ≡ None → Belongs v xs (place_in xs v)
  belongs [] v none = last
  belongs (e ∷ rest) v none = belongs_by e rest v (nat_lt e.name.0 v) refl (belongs rest v) none

  -- what an edit at the place changes
  pub fact_in-set : (xs : List (Entry V)) (v i : ℕ) (d : V) (u : ℕ) → Stands v xs i → fact_in (set xs i (entry v d)) u ≡ (if nat_eq u v then Some d else fact_in xs u)
  fact_in-set [] v i d u at = elim at [ ]
  fact_in-set (e ∷ rest) v zero d u (here _ _ same) = grind (arith, nat_tests, same)
  fact_in-set (e ∷ rest) v (suc i) d u (later _ _ _ below at) = grind (arith, nat_tests, below, fact_in-set rest v i d u at)

  pub fact_in-insert : (xs : List (Entry V)) (v i : ℕ) (d : V) (u : ℕ) → Belongs v xs i → fact_in (insert xs i (entry v d)) u ≡ (if nat_eq u v then Some d else fact_in xs u)
  fact_in-insert [] v zero d u last = grind (arith, nat_tests)
  fact_in-insert [] v (suc i) d u at = elim at [ ]
  fact_in-insert (e ∷ rest) v zero d u (first _ _ above) = grind (arith, nat_tests)
  fact_in-insert (e ∷ rest) v (suc i) d u (behind _ _ _ below at) = grind (arith, nat_tests, below, fact_in-insert rest v i d u at)

  pub fact_in-remove : (xs : List (Entry V)) (low high v i u : ℕ) → Ascends low high xs → Stands v xs i → fact_in (remove xs i) u ≡ (if nat_eq u v then None else fact_in xs u)
  fact_in-remove [] low high v i u sorted at = elim at [ ]
  fact_in-remove (e ∷ rest) low high v zero u sorted (here _ _ same) = grind (arith, nat_tests, same, absent rest (suc e.name.0) high v sorted.2)
  fact_in-remove (e ∷ rest) low high v (suc i) u sorted (later _ _ _ below at) = grind (arith, nat_tests, below, fact_in-remove rest (suc e.name.0) high v i u sorted.2 at)

  Ascends-lower : (xs : List (Entry V)) (low low' high : ℕ) → low' ≤ low → Ascends low high xs → Ascends low' high xs
  Ascends-lower [] low low' high le sorted = tt
  Ascends-lower (e ∷ rest) low low' high le sorted = (omega (arith, sorted.0), sorted.1, sorted.2)

  pub Ascends-set : (xs : List (Entry V)) (low high v i : ℕ) (d : V) → Ascends low high xs → Stands v xs i → Ascends low high (set xs i (entry v d))
  Ascends-set [] low high v i d sorted at = elim at [ ]
  Ascends-set (e ∷ rest) low high v zero d sorted (here _ _ same) = subst (λ n. (low ≤ n) × (n < high) × Ascends (suc n) high rest) same sorted
  Ascends-set (e ∷ rest) low high v (suc i) d sorted (later _ _ _ below at) = (sorted.0, sorted.1, Ascends-set rest (suc e.name.0) high v i d sorted.2 at)

  pub Ascends-insert : (xs : List (Entry V)) (low high v i : ℕ) (d : V) → Ascends low high xs → low ≤ v → v < high → Belongs v xs i → Ascends low high (insert xs i (entry v d))
  Ascends-insert [] low high v zero d sorted from below last = (from, below, tt)
  Ascends-insert [] low high v (suc i) d sorted from below at = elim at [ ]
  Ascends-insert (e ∷ rest) low high v zero d sorted from below (first _ _ above) = (from, below, (omega arith, sorted.1, sorted.2))
  Ascends-insert (e ∷ rest) low high v (suc i) d sorted from below (behind _ _ _ less at) = (sorted.0, sorted.1, Ascends-insert rest (suc e.name.0) high v i d sorted.2 (omega arith) below at)

  pub Ascends-remove : (xs : List (Entry V)) (low high v i : ℕ) → Ascends low high xs → Stands v xs i → Ascends low high (remove xs i)
  Ascends-remove [] low high v i sorted at = elim at [ ]
  Ascends-remove (e ∷ rest) low high v zero sorted (here _ _ same) = Ascends-lower rest (suc e.name.0) low high (omega (arith, sorted.0)) sorted.2
  Ascends-remove (e ∷ rest) low high v (suc i) sorted (later _ _ _ below at) = (sorted.0, sorted.1, Ascends-remove rest (suc e.name.0) high v i sorted.2 at)

  -- there are no more names than numbers between the bounds
  pub Ascends-length : (xs : List (Entry V)) (low high : ℕ) → low ≤ high → Ascends low high xs → low + length xs ≤ high
  Ascends-length [] low high le sorted = omega arith
  Ascends-length (e ∷ rest) low high le sorted = omega (arith, sorted.0, Ascends-length rest (suc e.name.0) high (omega (arith, sorted.1)) sorted.2)

  pub stands_inside : (xs : List (Entry V)) (v i : ℕ) → Stands v xs i → i < length xs
  stands_inside [] v i at = elim at [ ]
  stands_inside (e ∷ rest) v zero (here _ _ same) = omega arith
  stands_inside (e ∷ rest) v (suc i) (later _ _ _ below at) = omega (arith, stands_inside rest v i at)

  pub belongs_inside : (xs : List (Entry V)) (v i : ℕ) → Belongs v xs i → i ≤ length xs
  belongs_inside [] v zero last = omega arith
  belongs_inside [] v (suc i) at = elim at [ ]
  belongs_inside (e ∷ rest) v zero (first _ _ above) = omega arith
  belongs_inside (e ∷ rest) v (suc i) (behind _ _ _ below at) = omega (arith, belongs_inside rest v i at)

  -- a name that stands among them is below the bound
  pub stands_below : (xs : List (Entry V)) (low high v i : ℕ) → Ascends low high xs → Stands v xs i → v < high
  stands_below [] low high v i sorted at = elim at [ ]
  stands_below (e ∷ rest) low high v zero sorted (here _ _ same) = subst (λ n. n < high) same sorted.1
  stands_below (e ∷ rest) low high v (suc i) sorted (later _ _ _ below at) = stands_below rest (suc e.name.0) high v i sorted.2 at

  -- a name that does not stand among them has room below the bound
  pub has_space : (xs : List (Entry V)) (high v i : ℕ) (d : V) → Ascends 0 high xs → v < high → Belongs v xs i → length xs < high
  has_space xs high v i d sorted below at =
      omega (arith, Ascends-length (insert xs i (entry v d)) 0 high (omega arith) (Ascends-insert xs 0 high v i d sorted (omega arith) below at), length-insert xs i (entry v d) (belongs_inside xs v i at))

  -- where a search for the end of the lesser names ends
  pub place_is : (xs : List (Entry V)) (low high v i : ℕ) → Ascends low high xs → i ≤ length xs
      → (IsPartitionedBy (λ (e : Entry V). nat_lt e.name.0 v) xs → IsPartitionPoint (λ e. nat_lt e.name.0 v ≡ true) (λ e. nat_lt e.name.0 v ≡ false) xs i)
      → i ≡ place_in xs v
  place_is xs low high v i sorted le point = point_is xs v i le (point (IsPartitionedBy-leb (λ (e : Entry V). suc e.name.0) xs v (rises xs low high sorted)))

  -- the same where the entries are those of a state that is seen as s
  pub stands_at : (xs : List (Entry V)) (marks : List Bool) (room : ℕ) (s : Stored V) (v i : ℕ) → record { entries = xs; live = marks; room = room } ≡ s
      → i ≡ place_in s.entries v → fact_in s.entries v ≡ found v (slice_get s.entries i) → IsSome (fact_in s.entries v) → Stands v xs i
  stands_at xs marks room s v i seen place at is =
      let same : xs ≡ s.entries = ap (λ (t : Stored V). t.entries) seen in
      let there : Stands v s.entries i = rw place (stands s.entries v (subst IsSome (at ∙ ap (λ k. found v (slice_get s.entries k)) place) is)) in
      subst (λ l. Stands v l i) (sym same) there

  pub belongs_at : (xs : List (Entry V)) (marks : List Bool) (room : ℕ) (s : Stored V) (v i : ℕ) → record { entries = xs; live = marks; room = room } ≡ s
      → i ≡ place_in s.entries v → fact_in s.entries v ≡ found v (slice_get s.entries i) → fact_in s.entries v ≡ None → Belongs v xs i
  belongs_at xs marks room s v i seen place at none =
      let same : xs ≡ s.entries = ap (λ (t : Stored V). t.entries) seen in
      let there : Belongs v s.entries i = rw place (belongs s.entries v (sym (at ∙ ap (λ k. found v (slice_get s.entries k)) place) ∙ none)) in
      subst (λ l. Belongs v l i) (sym same) there

  abbrev of_marks : List Bool → (ℕ → Option V) → AbstractState V
  of_marks marks fact = record { fact = fact; live = mark_in marks }

  pub known_set : (xs : List (Entry V)) (marks : List Bool) (v i : ℕ) (d : V) → Stands v xs i
      → of_marks marks (fact_in (set xs i (entry v d))) ≡ of_marks marks (λ u. if nat_eq u v then Some d else fact_in xs u)
  known_set xs marks v i d at = ap (of_marks marks) (funext (λ u. fact_in-set xs v i d u at))

  pub known_insert : (xs : List (Entry V)) (marks : List Bool) (v i : ℕ) (d : V) → Belongs v xs i
      → of_marks marks (fact_in (insert xs i (entry v d))) ≡ of_marks marks (λ u. if nat_eq u v then Some d else fact_in xs u)
  known_insert xs marks v i d at = ap (of_marks marks) (funext (λ u. fact_in-insert xs v i d u at))

  pub known_remove : (xs : List (Entry V)) (marks : List Bool) (low high v i : ℕ) → Ascends low high xs → Stands v xs i
      → of_marks marks (fact_in (remove xs i)) ≡ of_marks marks (λ u. if nat_eq u v then None else fact_in xs u)
  known_remove xs marks low high v i sorted at = ap (of_marks marks) (funext (λ u. fact_in-remove xs low high v i u sorted at))

  pub known_marked : (fact : ℕ → Option V) (marks : List Bool) (v : ℕ) (b : Bool) → v < length marks
      → of_marks (set marks v b) fact ≡ record { fact = fact; live = λ u. if nat_eq u v then b else mark_in marks u }
  known_marked fact marks v b inside = ap (λ (h : ℕ → Bool). let s : AbstractState V = record { fact = fact; live = h } in s) (funext (λ u. mark_in-set marks v u b inside))

  -- a fact that a name has anyway
  pub same_known : (s : AbstractState V) (v : ℕ) → s.fact v ≡ None → s ≡ record { fact = λ u. if nat_eq u v then None else s.fact u; live = s.live }
  same_known s v none = ap (λ (h : ℕ → Option V). let t : AbstractState V = record { fact = h; live = s.live } in t) (funext (λ u. other u (nat_eq u v) refl))
    where
      other : (u : ℕ) (b : Bool) → nat_eq u v ≡ b → s.fact u ≡ (if b then None else s.fact u)
      other u true t = ap s.fact (eqb-true u v t) ∙ none
      other u false t = refl
