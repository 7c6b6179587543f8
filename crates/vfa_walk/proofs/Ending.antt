-- Rounds end: from the first falling round on a round changes nothing, or it wakes a head without a state, ends a live
-- equation, or lowers a rank; and nothing raises them again. One number falls with each round that changes something: the
-- early rounds still to come, each as heavy as all heads can be, and the weight of the heads.
use Rattle.std.proofs.Common.{◌≡◌, ◌<◌, ◌≤◌, ◌+◌, ◌*◌, ◌-◌, ◌^◌, ◌&&◌, ◌⊎◌, ℕ, zero, suc, Bool, true, false, min, Option, Some, None, is_some, List, [], ◌∷◌, length, refl, sym, ◌∙◌, ap, subst, arith, inl, inr, mul-le-mul_right}
use Rattle.std.specs.Option.{ForSome}
use Rattle.std.proofs.lemmas.Bool.{cases_lt}
use Rattle.vfa_ir.specs.declared.operations.Ty.{Ty}
use Rattle.vfa_ir.specs.declared.functions.Function.{Function}
use Rattle.vfa_ir.specs.Walks.{is_in}
use Rattle.vfa_cfg.proofs.Members.{first_or_rest, in_rest}
use Rattle.vfa_values.specs.Answers.{Answers}
use Rattle.vfa_values.specs.Conditions.{IsOf, width_of}
use Rattle.vfa_values.specs.Laws.{AreTyped, AreSteady, first_falling_round}
use Rattle.vfa_cond.specs.Conditions.{name_type, AreFacts}
use Rattle.vfa_cond.specs.States.{AbstractState}
use Rattle.vfa_walk.specs.Passes.{merged}
use Rattle.vfa_walk.specs.Landmarks.{landmarks}
use Rattle.vfa_walk.specs.Joining.{of_both, widened}
use Rattle.vfa_walk.specs.Analysis.{Layout, last_round}
use Rattle.vfa_walk.specs.Tables.{States, IsEntryState}
use Rattle.vfa_walk.proofs.TruthFacts.{landmarks_of, widened_typed, at_least_one}
use Rattle.vfa_walk.proofs.TruthKept.{merged_is}

-- ---- weights

-- what the rank of a fact adds, and a live equation
abbrev rank_of : {V : Type 0} → Answers V → Option V → ℕ
rank_of answers None = 0
rank_of answers (Some d) = answers.rank d

abbrev bit_of : Bool → ℕ
bit_of true = 1
bit_of false = 0

-- the weight of a state: of the names below a number
unfoldable pub state_weight : {V : Type 0} → Answers V → AbstractState V → ℕ → ℕ
state_weight answers s zero = 0
state_weight answers s (suc v) = rank_of answers (s.fact v) + bit_of (s.live v) + state_weight answers s v

-- more than each state of so many names weighs
unfoldable pub heaviest : ℕ → ℕ
heaviest names = suc (names * 2 ^ 32)

abbrev entry_weight : {V : Type 0} → Answers V → ℕ → Option (AbstractState V) → ℕ
entry_weight answers names None = heaviest names
entry_weight answers names (Some s) = state_weight answers s names

-- the weight of the entries of these blocks
unfoldable pub weight : {V : Type 0} → Answers V → ℕ → States V → List ℕ → ℕ
weight answers names x [] = 0
weight answers names x (b ∷ rest) = entry_weight answers names (x b) + weight answers names x rest

-- what is left before a round, where heads have the states x
unfoldable pub rounds_left : {V : Type 0} → Answers V → ℕ → List ℕ → ℕ → States V → ℕ
rounds_left answers names blocks round x = (first_falling_round - round) * suc (length blocks * heaviest names) + weight answers names x blocks

-- it is as it was, or less
abbrev pub IsOrFalls : (A : Type 0) → A → A → ℕ → ℕ → Type 0
IsOrFalls A new old m n = (new ≡ old) ⊎ (m < n)

-- ---- a name

bit_falls : (a b : Bool) → IsOrFalls Bool (a && b) a (bit_of (a && b)) (bit_of a)
bit_falls true true = inl refl
bit_falls true false = inr (omega arith)
bit_falls false b = inl refl

-- two parts of one thing
both_fall : (A B : Type 0) (a a' : A) (b b' : B) (m m' n n' : ℕ) → (a' ≡ a → m' ≡ m) → (b' ≡ b → n' ≡ n) → IsOrFalls A a' a m' m → IsOrFalls B b' b n' n → ((a' ≡ a) × (b' ≡ b)) ⊎ (m' + n' < m + n)
both_fall A B a a' b b' m m' n n' same same' (inl e) (inl f) = inl (e, f)
both_fall A B a a' b b' m m' n n' same same' (inl e) (inr less) = let k = same e in inr (omega (arith, k, less))
both_fall A B a a' b b' m m' n n' same same' (inr less) (inl f) = let k = same' f in inr (omega (arith, k, less))
both_fall A B a a' b b' m m' n n' same same' (inr less) (inr less') = inr (omega (arith, less, less'))

module _ {V : Type 0} (ty : V → Ty) (proper : V → Type 0) (answers : Answers V) (types : AreTyped (IsOf ty proper) answers) (steady : AreSteady (IsOf ty proper) answers) (f : Function) where
  fact_falls : (t : Ty) (round : ℕ) (o o' : Option V) → first_falling_round ≤ round → ForSome o (IsOf ty proper t) → ForSome o' (IsOf ty proper t) → is_some o ≡ is_some o' →
      IsOrFalls (Option V) (of_both (λ old new. answers.widen old new round (landmarks f (width_of t))) o o') o
      (rank_of answers (of_both (λ old new. answers.widen old new round (landmarks f (width_of t))) o o')) (rank_of answers o)
  fact_falls t round None o' late of of' names = inl refl
  fact_falls t round (Some a) None late of of' names = absurd cc
  fact_falls t round (Some a) (Some b) late of of' names = elim (steady.falls t a b round (landmarks f (width_of t)) (of a refl) (of' b refl) late (landmarks_of ty proper answers types f t a (of a refl))) [
    | inl same ↦ inl (ap Some same)
    | inr less ↦ inr less
  ]

  -- ---- a state

  -- below a number of names
  abbrev SameBelow : AbstractState V → AbstractState V → ℕ → Type 0
  SameBelow s t k = (v : ℕ) → v < k → (s.fact v ≡ t.fact v) × (s.live v ≡ t.live v)

  module _ (round : ℕ) (late : first_falling_round ≤ round) (scope : ℕ → Bool) (s t : AbstractState V) (is : IsEntryState ty proper f scope s) (is' : IsEntryState ty proper f scope t) where
    name_falls : (v : ℕ) → (((widened answers f round s t).fact v ≡ s.fact v) × ((widened answers f round s t).live v ≡ s.live v)) ⊎
        (rank_of answers ((widened answers f round s t).fact v) + bit_of ((widened answers f round s t).live v) < rank_of answers (s.fact v) + bit_of (s.live v))
    name_falls v =
        both_fall (Option V) Bool (s.fact v) ((widened answers f round s t).fact v) (s.live v) ((widened answers f round s t).live v)
        (rank_of answers (s.fact v)) (rank_of answers ((widened answers f round s t).fact v)) (bit_of (s.live v)) (bit_of ((widened answers f round s t).live v))
        (ap (rank_of answers)) (ap bit_of)
        (fact_falls (name_type f v) round (s.fact v) (t.fact v) late (is.facts v) (is'.facts v) (is.names v ∙ sym (is'.names v))) (bit_falls (s.live v) (t.live v))

    below_falls : (k : ℕ) → (SameBelow (widened answers f round s t) s k × (state_weight answers (widened answers f round s t) k ≡ state_weight answers s k)) ⊎ (state_weight answers (widened answers f round s t) k < state_weight answers s k)
    unfolding state_weight
    below_falls zero = inl ((λ v less. absurd (omega arith)), refl)
    below_falls (suc k) = join (name_falls k) (below_falls k)
      where
        new : AbstractState V
        new = widened answers f round s t

        here : (v : ℕ) → AbstractState V → ℕ
        here v u = rank_of answers (u.fact v) + bit_of (u.live v)

        join : ((new.fact k ≡ s.fact k) × (new.live k ≡ s.live k)) ⊎ (rank_of answers (new.fact k) + bit_of (new.live k) < rank_of answers (s.fact k) + bit_of (s.live k)) →
            (SameBelow new s k × (state_weight answers new k ≡ state_weight answers s k)) ⊎ (state_weight answers new k < state_weight answers s k) →
            (SameBelow new s (suc k) × (rank_of answers (new.fact k) + bit_of (new.live k) + state_weight answers new k ≡ rank_of answers (s.fact k) + bit_of (s.live k) + state_weight answers s k)) ⊎
            (rank_of answers (new.fact k) + bit_of (new.live k) + state_weight answers new k < rank_of answers (s.fact k) + bit_of (s.live k) + state_weight answers s k)
        join (inl same) (inl rest) =
            let a : rank_of answers (new.fact k) ≡ rank_of answers (s.fact k) = ap (rank_of answers) same.0 in
            let b : bit_of (new.live k) ≡ bit_of (s.live k) = ap bit_of same.1 in
            let w = rest.1 in
            inl (
              (λ v less. elim (cases_lt v k) [
                | inl below ↦ rest.0 v below
                | inr above ↦ let e : v ≡ k = omega arith in subst (λ u. (new.fact u ≡ s.fact u) × (new.live u ≡ s.live u)) (sym e) same
              ]),
              omega (arith, a, b, w),
            )
        join (inl same) (inr less) =
            let a : rank_of answers (new.fact k) ≡ rank_of answers (s.fact k) = ap (rank_of answers) same.0 in
            let b : bit_of (new.live k) ≡ bit_of (s.live k) = ap bit_of same.1 in
            inr (omega (arith, a, b, less))
        join (inr less) (inl rest) = let w = rest.1 in inr (omega (arith, less, w))
        join (inr less) (inr less') = inr (omega (arith, less, less'))

    -- names without a fact are not live
    out_of_scope : (v : ℕ) → scope v ≡ false → (s.fact v ≡ None) × (s.live v ≡ false)
    out_of_scope v out = (none (s.fact v) (is.names v ∙ out), dead (s.live v) refl)
      where
        none : (o : Option V) → is_some o ≡ false → o ≡ None
        none None h = refl
        none (Some d) h = absurd cc

        dead : (b : Bool) → s.live v ≡ b → s.live v ≡ false
        dead false e = e
        dead true e = absurd (let known = (is.live v e).0 in let names = is.names v in cc)

    state_falls : (names : ℕ) → ((v : ℕ) → scope v ≡ true → v < names) → (widened answers f round s t ≡ s) ⊎ (state_weight answers (widened answers f round s t) names < state_weight answers s names)
    state_falls names below = elim (below_falls names) [
      | inr less ↦ inr less
      | inl same ↦ inl (λ i. record { fact = λ v. (each same.0 v).0 i; live = λ v. (each same.0 v).1 i })
    ]
      where
        new : AbstractState V
        new = widened answers f round s t

        none_of : (v : ℕ) → s.fact v ≡ None → new.fact v ≡ None
        none_of v e = ap (λ o. of_both (λ a b. answers.widen a b round (landmarks f (width_of (name_type f v)))) o (t.fact v)) e

        each : SameBelow new s names → (v : ℕ) → (new.fact v ≡ s.fact v) × (new.live v ≡ s.live v)
        each same v = by (scope v) refl
          where
            by : (b : Bool) → scope v ≡ b → (new.fact v ≡ s.fact v) × (new.live v ≡ s.live v)
            by true e = same v (below v e)
            by false e =
                let out = out_of_scope v e in
                (none_of v out.0 ∙ sym out.0, ap (λ b. b && t.live v) out.1 ∙ sym out.1)

  -- ---- how heavy states are

  rank_below : (v : ℕ) (o : Option V) → ForSome o (IsOf ty proper (name_type f v)) → rank_of answers o < 2 ^ 32
  rank_below v None of = omega arith
  rank_below v (Some d) of = types.rank (name_type f v) d (of d refl)

  bit_most : (b : Bool) → bit_of b ≤ 1
  bit_most true = omega arith
  bit_most false = omega arith

  state_most : (s : AbstractState V) → AreFacts ty proper f s → (k : ℕ) → state_weight answers s k ≤ k * 2 ^ 32
  unfolding state_weight
  state_most s facts zero = omega arith
  state_most s facts (suc k) =
      let rank = rank_below k (s.fact k) (facts k) in
      let bit = bit_most (s.live k) in
      let rest = state_most s facts k in
      omega (arith, rank, bit, rest)

  state_lighter : (s : AbstractState V) → AreFacts ty proper f s → (names : ℕ) → state_weight answers s names < heaviest names
  unfolding heaviest
  state_lighter s facts names = let most = state_most s facts names in omega (arith, most)

  -- ---- a head

  module _ (round names : ℕ) (late : first_falling_round ≤ round) (scope : ℕ → Bool) (below : (v : ℕ) → scope v ≡ true → v < names) where
    entry_falls : (x n : Option (AbstractState V)) → ForSome x (IsEntryState ty proper f scope) → ForSome n (IsEntryState ty proper f scope) →
        (merged (widened answers f round) x n ≡ x) ⊎ (entry_weight answers names (merged (widened answers f round) x n) < entry_weight answers names x)
    entry_falls None None is is' = inl refl
    entry_falls None (Some t) is is' = inr (state_lighter t (is' t refl).facts names)
    entry_falls (Some s) None is is' = inl refl
    entry_falls (Some s) (Some t) is is' = elim (state_falls round late scope s t (is s refl) (is' t refl) names below) [
      | inl same ↦ inl (ap Some same)
      | inr less ↦ inr less
    ]

  entry_most : (names : ℕ) (o : Option (AbstractState V)) → ForSome o (AreFacts ty proper f) → entry_weight answers names o ≤ heaviest names
  entry_most names None facts = omega arith
  entry_most names (Some s) facts = let less = state_lighter s (facts s refl) names in omega (arith, less)

  -- ---- all heads

  module _ (l : Layout) (names : ℕ) (below : (b v : ℕ) → l.in_scope b v ≡ true → v < names) where
    abbrev pub AreEntries : States V → Type 0
    AreEntries x = (b : ℕ) → ForSome (x b) (IsEntryState ty proper f (l.in_scope b))

    -- what a round makes of the states of heads
    abbrev pub widened_by : ℕ → States V → States V → States V
    widened_by round x n b = merged (widened answers f (min round last_round)) (x b) (n b)

    abbrev SameOn : List ℕ → States V → States V → Type 0
    SameOn blocks x y = (b : ℕ) → is_in b blocks ≡ true → y b ≡ x b

    late_round : (round : ℕ) → first_falling_round ≤ round → first_falling_round ≤ min round last_round
    late_round round late = omega (arith, late)

    weight_falls : (round : ℕ) → first_falling_round ≤ round → (x n : States V) → AreEntries x → AreEntries n → (blocks : List ℕ) →
        (SameOn blocks x (widened_by round x n) × (weight answers names (widened_by round x n) blocks ≡ weight answers names x blocks)) ⊎ (weight answers names (widened_by round x n) blocks < weight answers names x blocks)
    unfolding weight
    weight_falls round late x n is is' [] = inl ((λ b here. absurd cc), refl)
    weight_falls round late x n is is' (b ∷ rest) =
        join (entry_falls (min round last_round) names (late_round round late) (l.in_scope b) (below b) (x b) (n b) (is b) (is' b)) (weight_falls round late x n is is' rest)
      where
        y : States V
        y = widened_by round x n

        join : (y b ≡ x b) ⊎ (entry_weight answers names (y b) < entry_weight answers names (x b)) →
            (SameOn rest x y × (weight answers names y rest ≡ weight answers names x rest)) ⊎ (weight answers names y rest < weight answers names x rest) →
            (SameOn (b ∷ rest) x y × (entry_weight answers names (y b) + weight answers names y rest ≡ entry_weight answers names (x b) + weight answers names x rest)) ⊎
            (entry_weight answers names (y b) + weight answers names y rest < entry_weight answers names (x b) + weight answers names x rest)
        join (inl same) (inl others) =
            let here : entry_weight answers names (y b) ≡ entry_weight answers names (x b) = ap (entry_weight answers names) same in
            let later = others.1 in
            inl (
              (λ c there. elim (first_or_rest c b rest there) [
                | inl is ↦ subst (λ k. y k ≡ x k) (sym is) same
                | inr in_rest ↦ others.0 c in_rest
              ]),
              omega (arith, here, later),
            )
        join (inl same) (inr less) =
            let here : entry_weight answers names (y b) ≡ entry_weight answers names (x b) = ap (entry_weight answers names) same in
            inr (omega (arith, here, less))
        join (inr less) (inl others) = let later = others.1 in inr (omega (arith, less, later))
        join (inr less) (inr less') = inr (omega (arith, less, less'))

    weight_most : (x : States V) → ((b : ℕ) → ForSome (x b) (AreFacts ty proper f)) → (blocks : List ℕ) → weight answers names x blocks ≤ length blocks * heaviest names
    unfolding weight
    weight_most x is [] = omega arith
    weight_most x is (b ∷ rest) =
        let here = entry_most names (x b) (is b) in
        let later = weight_most x is rest in
        one_more (length rest) (heaviest names) (entry_weight answers names (x b)) (weight answers names x rest) here later
      where
        one_more : (count most here later : ℕ) → here ≤ most → later ≤ count * most → here + later ≤ suc count * most
        one_more count most here later a b = omega (arith, a, b)

    new_facts : (round : ℕ) → 1 ≤ round → (x n : States V) → AreEntries x → AreEntries n → (b : ℕ) → ForSome (widened_by round x n b) (AreFacts ty proper f)
    new_facts round one x n is is' b =
        merged_is (AreFacts ty proper f) (widened answers f (min round last_round)) (x b) (n b) (λ s t facts facts'. widened_typed ty proper answers types f (min round last_round) s t (at_least_one round one) facts facts')
        (λ s e. (is b s e).facts) (λ s e. (is' b s e).facts)

    early : (most before after w w' : ℕ) → suc after ≤ before → w' ≤ most → after * suc most + w' < before * suc most + w
    early most before after w w' less le =
        let more : suc after * suc most ≤ before * suc most = mul-le-mul_right (suc most) less in
        omega (arith, more, le)

    -- In each round the heads keep their states, or less is left: before the round x are the states of the heads, and n is what
    -- comes to them in a pass. The number of the next round may stand still once late rounds have begun.
    pub round_falls : (round next : ℕ) (x n : States V) → 1 ≤ round → min (suc round) first_falling_round ≤ next → AreEntries x → AreEntries n → (blocks : List ℕ) →
        ((b : ℕ) → is_in b blocks ≡ true → widened_by round x n b ≡ x b) ⊎ (rounds_left answers names blocks next (widened_by round x n) < rounds_left answers names blocks round x)
    unfolding rounds_left
    round_falls round next x n one goes is is' blocks = by (cases_lt round first_falling_round)
      where
        y : States V
        y = widened_by round x n

        most : ℕ
        most = length blocks * heaviest names

        by : (round < first_falling_round) ⊎ (first_falling_round ≤ round) → ((b : ℕ) → is_in b blocks ≡ true → y b ≡ x b) ⊎
            ((first_falling_round - next) * suc most + weight answers names y blocks < (first_falling_round - round) * suc most + weight answers names x blocks)
        by (inl less) = inr (early most (first_falling_round - round) (first_falling_round - next) (weight answers names x blocks) (weight answers names y blocks) (omega (arith, less, goes)) (weight_most y (new_facts round one x n is is') blocks))
        by (inr late) = elim (weight_falls round late x n is is' blocks) [
          | inl same ↦ inl same.0
          | inr falls ↦
              let none : first_falling_round - round ≡ 0 = omega (arith, late) in
              let none' : first_falling_round - next ≡ 0 = omega (arith, late, goes) in
              inr (later (first_falling_round - round) (first_falling_round - next) (weight answers names x blocks) (weight answers names y blocks) none none' falls)
        ]
          where
            later : (a a' w w' : ℕ) → a ≡ 0 → a' ≡ 0 → w' < w → a' * suc most + w' < a * suc most + w
            later a a' w w' e e' less = subst (λ k. k * suc most + w' < a * suc most + w) (sym e') (subst (λ k. 0 * suc most + w' < k * suc most + w) (sym e) (omega (arith, less)))
