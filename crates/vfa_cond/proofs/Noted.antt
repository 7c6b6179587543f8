-- What a note of a fact and its taking back change.
use Rattle.std.proofs.Common.{◌≡◌, ◌<◌, ◌≤◌, ℕ, ◌+◌, Bool, true, false, ◌||◌, cond, nat_eq, if◌then◌else◌, Option, Some, None, IsSome, is_some, List, [], ◌∷◌, ◌++◌, length, set, refl, sym, ap, ◌∙◌, subst, arith, eqb-true, All}
use Rattle.std.specs.List.{list_any, count_by}
use Rattle.std.proofs.lemmas.Bool.{eq-eqb}
use Rattle.std.proofs.lemmas.List.{get_or-set_same, get_or-set_other, length-set, length-append}
use Rattle.std.proofs.lemmas.List.Elements.{All-push, All-pop}
use Rattle.std.proofs.lemmas.List.Folds.{list_any-append}
use Rattle.std.proofs.lemmas.List.Sums.{sum_by-set, count_by-le-length}
use Rattle.vfa_ir.specs.declared.operations.ValueId.{ValueId}
use Rattle.vfa_cond.specs.Changes.{fact_before, or_present, restored, noting, with_back, AreNone, AreListed, AreChangesOf}
use Rattle.vfa_cond.specs.States.{AbstractState, Stored, name_count, with_fact}
use Rattle.vfa_cond.proofs.Entries.{funext}

abbrev is_name : ℕ → ValueId → Bool
is_name w u = nat_eq u.0 w

or_first : (a b : Bool) → a ≡ true → (a || b) ≡ true
or_first true b h = refl
or_first false b h = absurd cc

or_second : (a b : Bool) → b ≡ true → (a || b) ≡ true
or_second true b h = refl
or_second false b h = h

or_left_of : (a b : Bool) → b ≡ false → (a || b) ≡ true → a ≡ true
or_left_of true b e h = refl
or_left_of false b e h = absurd cc

named : (v : ValueId) (w : ℕ) → w ≡ v.0 → list_any (is_name w) (v ∷ []) ≡ true
named v w same = or_first (nat_eq v.0 w) false (eq-eqb v.0 w (sym same))

at_most : (b : Bool) → cond b 1 0 ≤ 1
at_most true = omega arith
at_most false = omega arith

pub no_items : (xs : List ValueId) → length xs ≤ 0 → xs ≡ []
no_items [] none = refl
no_items (x ∷ xs) none = absurd (omega arith)

module _ {V : Type 0} where
  -- what a value that is there is
  pub given_there : (o : Option V) → IsSome o → (d : V) × (o ≡ Some d)
  given_there None h = absurd cc
  given_there (Some d) h = (d, refl)

  abbrev if_noted : ℕ → ℕ → Option V → Option V → Option V
  if_noted u v o p = if nat_eq u v then o else p

  set_by : (before : List (Option V)) (v u : ℕ) (o : Option V) (b : Bool) → nat_eq u v ≡ b → v < length before → fact_before (set before v o) u ≡ (if b then o else fact_before before u)
  set_by before v u o true e inside = let same : u ≡ v = eqb-true u v e in subst (λ w. fact_before (set before v o) w ≡ o) (sym same) (get_or-set_same before v o None inside)
  set_by before v u o false e inside = get_or-set_other before v u o None (λ same. let t : nat_eq u v ≡ true = eq-eqb u v same in absurd cc)

  pub before_set : (before : List (Option V)) (v u : ℕ) (o : Option V) → v < length before → fact_before (set before v o) u ≡ (if nat_eq u v then o else fact_before before u)
  before_set before v u o inside = set_by before v u o (nat_eq u v) refl inside

  -- ---- states

  same_facts : (live : ℕ → Bool) (g h : ℕ → Option V) → ((u : ℕ) → g u ≡ h u) → (let s : AbstractState V = record { fact = g; live = live } in s) ≡ record { fact = h; live = live }
  same_facts live g h each = ap (λ (k : ℕ → Option V). let s : AbstractState V = record { fact = k; live = live } in s) (funext each)

  pub restored_none : (before : List (Option V)) (s : AbstractState V) → AreNone before → restored before s ≡ s
  restored_none before s none = same_facts s.live (λ u. or_present (fact_before before u) (s.fact u)) s.fact (λ u. ap (λ o. or_present o (s.fact u)) (none u))

  present : (o : Option V) (p q : Option V) → is_some o ≡ true → or_present o p ≡ or_present o q
  present None p q e = absurd cc
  present (Some d) p q e = refl

  absent : (o p : Option V) → is_some o ≡ false → or_present o p ≡ p
  absent None p e = refl
  absent (Some d) p e = absurd cc

  noted_at : (before : List (Option V)) (s : AbstractState V) (v u : ℕ) (d e : V) (b t : Bool) → v < length before → s.fact v ≡ Some d → is_some (fact_before before v) ≡ b → nat_eq u v ≡ t
      → or_present (fact_before (if b then before else set before v (Some d)) u) (if t then Some e else s.fact u) ≡ or_present (fact_before before u) (s.fact u)
  noted_at before s v u d e true true inside has is same =
      subst (λ w. or_present (fact_before before w) (Some e) ≡ or_present (fact_before before w) (s.fact w)) (sym (eqb-true u v same)) (present (fact_before before v) (Some e) (s.fact v) is)
  noted_at before s v u d e false true inside has is same =
      subst (λ w. or_present (fact_before (set before v (Some d)) w) (Some e) ≡ or_present (fact_before before w) (s.fact w)) (sym (eqb-true u v same))
      (ap (λ o. or_present o (Some e)) (get_or-set_same before v (Some d) None inside) ∙ sym (absent (fact_before before v) (s.fact v) is ∙ has))
  noted_at before s v u d e true false inside has is same = refl
  noted_at before s v u d e false false inside has is same = ap (λ o. or_present o (s.fact u)) (set_by before v u (Some d) false same inside)

  -- what a name had is kept where it is noted before it changes
  pub restored_noted : (before : List (Option V)) (s : AbstractState V) (v : ℕ) (d e : V) → v < length before → s.fact v ≡ Some d → restored (noting before v d) (with_fact s v (Some e)) ≡ restored before s
  restored_noted before s v d e inside has =
      same_facts s.live (λ u. or_present (fact_before (noting before v d) u) ((with_fact s v (Some e)).fact u)) (λ u. or_present (fact_before before u) (s.fact u))
      (λ u. noted_at before s v u d e (is_some (fact_before before v)) (nat_eq u v) inside has refl refl)

  back_at : (before : List (Option V)) (s : AbstractState V) (v u : ℕ) (o : Option V) (t : Bool) → v < length before → fact_before before v ≡ o → nat_eq u v ≡ t
      → or_present (if t then None else fact_before before u) ((with_back s v o).fact u) ≡ or_present (fact_before before u) (s.fact u)
  back_at before s v u None true inside is same = let e : fact_before before u ≡ None = ap (fact_before before) (eqb-true u v same) ∙ is in ap (λ p. or_present p (s.fact u)) (sym e)
  back_at before s v u None false inside is same = refl
  back_at before s v u (Some d) true inside is same =
      let e : fact_before before u ≡ Some d = ap (fact_before before) (eqb-true u v same) ∙ is in ap (λ b. if b then Some d else s.fact u) same ∙ ap (λ p. or_present p (s.fact u)) (sym e)
  back_at before s v u (Some d) false inside is same = ap (λ b. or_present (fact_before before u) (if b then Some d else s.fact u)) same

  -- a name that gets its fact back is noted no more
  pub restored_back : (before : List (Option V)) (s : AbstractState V) (v : ℕ) (o : Option V) → v < length before → fact_before before v ≡ o → restored (set before v None) (with_back s v o) ≡ restored before s
  restored_back before s v None inside is =
      same_facts s.live (λ u. or_present (fact_before (set before v None) u) (s.fact u)) (λ u. or_present (fact_before before u) (s.fact u))
      (λ u. ap (λ p. or_present p (s.fact u)) (before_set before v u None inside) ∙ back_at before s v u None (nat_eq u v) inside is refl)
  restored_back before s v (Some d) inside is =
      same_facts s.live (λ u. or_present (fact_before (set before v None) u) ((with_fact s v (Some d)).fact u)) (λ u. or_present (fact_before before u) (s.fact u))
      (λ u. ap (λ p. or_present p ((with_fact s v (Some d)).fact u)) (before_set before v u None inside) ∙ back_at before s v u (Some d) (nat_eq u v) inside is refl)

  -- ---- the list of the names

  count_set : (before : List (Option V)) (v : ℕ) (o : Option V) → v < length before → count_by is_some (set before v o) + cond (is_some (fact_before before v)) 1 0 ≡ count_by is_some before + cond (is_some o) 1 0
  count_set before v o inside = sum_by-set (λ p. cond (is_some p) 1 0) before v o None inside

  count_noted : (before : List (Option V)) (v : ℕ) (d : V) → v < length before → is_some (fact_before before v) ≡ false → count_by is_some (set before v (Some d)) ≡ count_by is_some before + 1
  count_noted before v d inside none =
      let h = count_set before v (Some d) inside in
      let zero : ℕ = 0 in let z : cond (is_some (fact_before before v)) 1 0 ≡ zero = ap (λ b. cond b 1 0) none in omega (arith, h, z)

  count_back : (before : List (Option V)) (v : ℕ) → v < length before → count_by is_some before ≤ count_by is_some (set before v None) + 1
  count_back before v inside = omega (arith, count_set before v None inside, at_most (is_some (fact_before before v)))

  -- there is room for a name that is not noted
  pub has_room : (before : List (Option V)) (changed : List ValueId) (space v : ℕ) (d : V) → AreListed before changed space → v < length before → is_some (fact_before before v) ≡ false → length changed < space
  has_room before changed space v d listed inside none =
      omega (arith, listed.few, listed.room, count_noted before v d inside none, count_by-le-length is_some (set before v (Some d)), length-set before v (Some d))

  still_listed : (before : List (Option V)) (changed : List ValueId) (v : ValueId) (w : ℕ) (d : V) (t : Bool) → nat_eq w v.0 ≡ t
      → (is_some (fact_before before w) ≡ true → list_any (is_name w) changed ≡ true)
      → is_some (if t then Some d else fact_before before w) ≡ true → list_any (is_name w) (changed ++ v ∷ []) ≡ true
  still_listed before changed v w d true same listed h =
      list_any-append (is_name w) changed (v ∷ []) ∙ or_second (list_any (is_name w) changed) (list_any (is_name w) (v ∷ [])) (named v w (eqb-true w v.0 same))
  still_listed before changed v w d false same listed h =
      list_any-append (is_name w) changed (v ∷ []) ∙ or_first (list_any (is_name w) changed) (list_any (is_name w) (v ∷ [])) (listed h)

  pub listed_noted : (before : List (Option V)) (changed : List ValueId) (space space' : ℕ) (v : ValueId) (d : V) → AreListed before changed space → v.0 < length before
      → is_some (fact_before before v.0) ≡ false → space ≤ space' → AreListed (set before v.0 (Some d)) (changed ++ v ∷ []) space'
  listed_noted before changed space space' v d kept inside none more =
      let long = length-set before v.0 (Some d) in
      record {
        listed = λ w h. still_listed before changed v w d (nat_eq w v.0) refl (kept.listed w) (subst (λ o. is_some o ≡ true) (before_set before v.0 w (Some d) inside) h);
        range = subst (λ n. All (λ (u : ValueId). u.0 < n) (changed ++ v ∷ [])) (sym long) (All-push (λ (u : ValueId). u.0 < length before) changed v kept.range inside);
        few = omega (arith, count_noted before v.0 d inside none, length-append changed (v ∷ []), kept.few);
        room = omega (arith, long, kept.room, more);
      }

  others_listed : (before : List (Option V)) (rest : List ValueId) (v : ValueId) (w : ℕ) (t : Bool) → nat_eq w v.0 ≡ t
      → (is_some (fact_before before w) ≡ true → list_any (is_name w) (rest ++ v ∷ []) ≡ true)
      → is_some (if t then None else fact_before before w) ≡ true → list_any (is_name w) rest ≡ true
  others_listed before rest v w true same listed h = absurd cc
  others_listed before rest v w false same listed h =
      or_left_of (list_any (is_name w) rest) (list_any (is_name w) (v ∷ [])) (apart (nat_eq v.0 w) refl) (sym (list_any-append (is_name w) rest (v ∷ [])) ∙ listed h)
    where
      apart : (b : Bool) → nat_eq v.0 w ≡ b → (b || false) ≡ false
      apart true e = let back : nat_eq w v.0 ≡ true = eq-eqb w v.0 (sym (eqb-true v.0 w e)) in absurd cc
      apart false e = refl

  pub listed_back : (before : List (Option V)) (changed rest : List ValueId) (space space' : ℕ) (v : ValueId) → changed ≡ rest ++ v ∷ [] → space' ≡ space → v.0 < length before
      → AreListed before changed space → AreListed (set before v.0 None) rest space'
  listed_back before changed rest space space' v is same inside kept =
      let long = length-set before v.0 None in
      let whole : AreListed before (rest ++ v ∷ []) space = subst (λ c. AreListed before c space) is kept in
      record {
        listed = λ w h. others_listed before rest v w (nat_eq w v.0) refl (whole.listed w) (subst (λ o. is_some o ≡ true) (before_set before v.0 w None inside) h);
        range = subst (λ n. All (λ (u : ValueId). u.0 < n) rest) (sym long) (All-pop (λ (u : ValueId). u.0 < length before) (rest ++ v ∷ []) rest (Some v) refl whole.range).0;
        few = omega (arith, count_back before v.0 inside, length-append rest (v ∷ []), whole.few);
        room = omega (arith, long, whole.room, same);
      }

  pub last_inside : (before : List (Option V)) (changed rest : List ValueId) (space : ℕ) (v : ValueId) → changed ≡ rest ++ v ∷ [] → AreListed before changed space → v.0 < length before
  last_inside before changed rest space v is kept =
      let whole : AreListed before (rest ++ v ∷ []) space = subst (λ c. AreListed before c space) is kept in
      (All-pop (λ (u : ValueId). u.0 < length before) (rest ++ v ∷ []) rest (Some v) refl whole.range).1

  none_of : (o : Option V) → (is_some o ≡ true → ⊥) → o ≡ None
  none_of None h = refl
  none_of (Some d) h = absurd (h refl)

  -- where no name is listed none is noted
  pub none_listed : (before : List (Option V)) (changed : List ValueId) (space : ℕ) → changed ≡ [] → AreListed before changed space → AreNone before
  none_listed before changed space empty kept =
      let whole : AreListed before [] space = subst (λ c. AreListed before c space) empty kept in
      λ v. none_of (fact_before before v) (λ h. let e = whole.listed v h in cc)

  some_none : (o : Option V) → o ≡ None → IsSome o → ⊥
  some_none None e h = cc
  some_none (Some d) e h = cc

  -- where nothing changed, the changes are of each state of so many names
  pub no_changes : (before : List (Option V)) (s : Stored V) → AreNone before → length before ≡ name_count s → AreChangesOf before s
  no_changes before s none names = record { names = names; facts = λ v h. absurd (some_none (fact_before before v) (none v) h) }

  -- ---- names that changed have facts

  some_by : (s : AbstractState V) (v u : ℕ) (e : V) (t : Bool) → IsSome (s.fact u) → IsSome (if t then Some e else s.fact u)
  some_by s v u e true h = refl
  some_by s v u e false h = h

  pub with_some : (s : AbstractState V) (v u : ℕ) (e : V) → IsSome (s.fact u) → IsSome ((with_fact s v (Some e)).fact u)
  with_some s v u e h = some_by s v u e (nat_eq u v) h

  pub back_some : (s : AbstractState V) (v u : ℕ) (o : Option V) → IsSome (s.fact u) → IsSome ((with_back s v o).fact u)
  back_some s v u None h = h
  back_some s v u (Some d) h = with_some s v u d h

  noted_some : (before : List (Option V)) (s : AbstractState V) (v u : ℕ) (d e : V) (b t : Bool) → v < length before → nat_eq u v ≡ t → (IsSome (fact_before before u) → IsSome (s.fact u))
      → IsSome (fact_before (if b then before else set before v (Some d)) u) → IsSome (if t then Some e else s.fact u)
  noted_some before s v u d e b true inside same facts h = refl
  noted_some before s v u d e true false inside same facts h = facts h
  noted_some before s v u d e false false inside same facts h = facts (subst IsSome (set_by before v u (Some d) false same inside) h)

  pub facts_noted : (before : List (Option V)) (s : AbstractState V) (v : ℕ) (d e : V) → v < length before → ((u : ℕ) → IsSome (fact_before before u) → IsSome (s.fact u))
      → (u : ℕ) → IsSome (fact_before (noting before v d) u) → IsSome ((with_fact s v (Some e)).fact u)
  facts_noted before s v d e inside facts u h = noted_some before s v u d e (is_some (fact_before before v)) (nat_eq u v) inside refl (facts u) h

  back_noted : (before : List (Option V)) (u : ℕ) (t : Bool) → IsSome (if t then None else fact_before before u) → IsSome (fact_before before u)
  back_noted before u true h = absurd cc
  back_noted before u false h = h

  pub facts_back : (before : List (Option V)) (s : AbstractState V) (v : ℕ) (o : Option V) → v < length before → ((u : ℕ) → IsSome (fact_before before u) → IsSome (s.fact u))
      → (u : ℕ) → IsSome (fact_before (set before v None) u) → IsSome ((with_back s v o).fact u)
  facts_back before s v o inside facts u h =
      back_some s v u o (facts u (back_noted before u (nat_eq u v) (subst IsSome (before_set before v u None inside) h)))

  pub noting_length : (before : List (Option V)) (v : ℕ) (d : V) → length (noting before v d) ≡ length before
  noting_length before v d = by (is_some (fact_before before v))
    where
      by : (b : Bool) → length (if b then before else set before v (Some d)) ≡ length before
      by true = refl
      by false = length-set before v (Some d)
