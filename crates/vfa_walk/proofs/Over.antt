-- States that are taken over from another, name by name.
use Rattle.std.proofs.Common.{◌≡◌, ◌<◌, ◌≤◌, ◌+◌, ℕ, Bool, true, false, ◌&&◌, nat_eq, if◌then◌else◌, None, length, refl, sym, ◌∙◌, ap, subst, arith, ◌⊎◌, inl, inr}
use Rattle.std.proofs.lemmas.Bool.{cases_lt}
use Rattle.std.proofs.lemmas.Bool.Decides.{nat_tests}
use Rattle.vfa_ir.specs.declared.operations.Ty.{Ty}
use Rattle.vfa_ir.specs.declared.functions.Function.{Function}
use Rattle.vfa_cond.specs.States.{AbstractState, Stored, known}
use Rattle.vfa_walk.specs.Joining.{of_both, covered}
use Rattle.vfa_walk.specs.Kept.{IsStateOf, taken}
use Rattle.vfa_walk.proofs.States.{state_is, none_live_beyond}

-- from the place on the names are taken over from another state, the rest is as before
pub record IsTakenFrom {V : Type 0} (i : ℕ) (now old from : AbstractState V) : Type 0 where
  pub facts_from : (u : ℕ) → i ≤ u → now.fact u ≡ from.fact u
  pub facts_rest : (u : ℕ) → u < i → now.fact u ≡ old.fact u
  pub live_from : (u : ℕ) → i ≤ u → now.live u ≡ from.live u
  pub live_rest : (u : ℕ) → u < i → now.live u ≡ old.live u

pick_yes : {A : Type 0} (b : Bool) (x y : A) → b ≡ true → (if b then x else y) ≡ x
pick_yes true x y h = refl
pick_yes false x y h = absurd (cc)

pick_no : {A : Type 0} (b : Bool) (x y : A) → b ≡ false → (if b then x else y) ≡ y
pick_no true x y h = absurd (cc)
pick_no false x y h = refl

apart : (u i : ℕ) → (u ≡ i → ⊥) → nat_eq u i ≡ false
apart u i other = grind (arith, nat_tests)

same_number : (i : ℕ) → nat_eq i i ≡ true
same_number i = grind (arith, nat_tests)

module _ {V : Type 0} where
  -- beyond all names both know nothing
  pub taken_none : (n : ℕ) (old from : AbstractState V) → ((u : ℕ) → n ≤ u → old.fact u ≡ from.fact u) → ((u : ℕ) → n ≤ u → old.live u ≡ from.live u) → IsTakenFrom n old old from
  taken_none n old from facts live = record {
    facts_from = facts;
    facts_rest = λ u _. refl;
    live_from = live;
    live_rest = λ u _. refl;
  }

  -- the part of the name before is taken over
  pub taken_more : (i j : ℕ) (now old from here next : AbstractState V) → j ≡ i + 1 → IsTakenFrom j now old from → next ≡ taken i here now →
      here.fact i ≡ from.fact i → here.live i ≡ from.live i → IsTakenFrom i next old from
  taken_more i j now old from here next before sofar change fact live = record {
    facts_from = λ u above. ap (λ s. s.fact u) change ∙ fact_from u above (cases_lt i u);
    facts_rest = λ u below. ap (λ s. s.fact u) change ∙ (pick_no (nat_eq u i) (here.fact i) (now.fact u) (apart u i (λ e. omega arith)) ∙ sofar.facts_rest u (omega arith));
    live_from = λ u above. ap (λ s. s.live u) change ∙ live_from u above (cases_lt i u);
    live_rest = λ u below. ap (λ s. s.live u) change ∙ (pick_no (nat_eq u i) (here.live i) (now.live u) (apart u i (λ e. omega arith)) ∙ sofar.live_rest u (omega arith));
  }
    where
      fact_from : (u : ℕ) → i ≤ u → (i < u) ⊎ (u ≤ i) → (if nat_eq u i then here.fact i else now.fact u) ≡ from.fact u
      fact_from u above (inl more) = pick_no (nat_eq u i) (here.fact i) (now.fact u) (apart u i (λ e. omega arith)) ∙ sofar.facts_from u (omega (arith, more, before))
      fact_from u above (inr less) =
          let e : u ≡ i = omega arith in
          subst (λ k. (if nat_eq k i then here.fact i else now.fact k) ≡ from.fact k) (sym e) (pick_yes (nat_eq i i) (here.fact i) (now.fact i) (same_number i) ∙ fact)

      live_from : (u : ℕ) → i ≤ u → (i < u) ⊎ (u ≤ i) → (if nat_eq u i then here.live i else now.live u) ≡ from.live u
      live_from u above (inl more) = pick_no (nat_eq u i) (here.live i) (now.live u) (apart u i (λ e. omega arith)) ∙ sofar.live_from u (omega (arith, more, before))
      live_from u above (inr less) =
          let e : u ≡ i = omega arith in
          subst (λ k. (if nat_eq k i then here.live i else now.live k) ≡ from.live k) (sym e) (pick_yes (nat_eq i i) (here.live i) (now.live i) (same_number i) ∙ live)

  -- all names are taken over
  pub taken_all : (n : ℕ) (now old from : AbstractState V) → n ≡ 0 → IsTakenFrom n now old from → now ≡ from
  taken_all n now old from none all =
      state_is now from (λ u. all.facts_from u (omega (arith, none))) (λ u. all.live_from u (omega (arith, none)))

  -- what covers two states, beyond the names of the function
  module _ (ty : V → Ty) (proper : V → Type 0) (f : Function) (s : Stored V) (is : IsStateOf ty proper f s) where
    pub covers_beyond : (cover : ℕ → V → V → V) (t : AbstractState V) (u : ℕ) → length f.values ≤ u → (known s).fact u ≡ (covered cover (known s) t).fact u
    covers_beyond cover t u outside =
        let none : (known s).fact u ≡ None = is.within u outside in
        none ∙ sym (ap (λ o. of_both (cover u) o (t.fact u)) none)

    pub dead_beyond : (u : ℕ) → length f.values ≤ u → (known s).live u ≡ false
    dead_beyond u outside = none_live_beyond s.live u (let e : length s.live ≡ length f.values = is.names in omega arith)

    pub live_beyond : (cover : ℕ → V → V → V) (t : AbstractState V) (u : ℕ) → length f.values ≤ u → (known s).live u ≡ (covered cover (known s) t).live u
    live_beyond cover t u outside = let dead = dead_beyond u outside in dead ∙ sym (ap (λ b. b && t.live u) dead)
