-- The rounds in code: what is kept after some of them, and what one more makes of it.
use Rattle.std.proofs.Common.{◌≡◌, ◌<◌, ◌+◌, ◌⊎◌, ℕ, suc, Bool, true, false, not, min, if◌then◌else◌, Option, None, List, All, MatchBool, length, refl, sym, ◌∙◌, ap, subst, arith, inl, inr}
use Rattle.std.proofs.lemmas.Bool.{cases_lt}
use Rattle.vfa_ir.specs.declared.operations.BlockId.{BlockId}
use Rattle.vfa_ir.specs.declared.operations.Ty.{Ty}
use Rattle.vfa_ir.specs.declared.functions.Function.{Function}
use Rattle.vfa_ir.specs.Printable.{IsPrintable}
use Rattle.vfa_cfg.specs.Heads.{is_head}
use Rattle.vfa_cfg.specs.Order.{numbers}
use Rattle.vfa_check.specs.Checked.{IsChecked}
use Rattle.vfa_values.specs.Answers.{Answers}
use Rattle.vfa_values.specs.Conditions.{IsOf}
use Rattle.vfa_values.specs.Laws.{AreTyped, AreSteady}
use Rattle.vfa_cond.specs.States.{AbstractState, Stored}
use Rattle.vfa_walk.specs.Analysis.{Layout, IsLayout, flow_of, last_round}
use Rattle.vfa_walk.specs.Flow.{Flow}
use Rattle.vfa_walk.specs.Joining.{widened}
use Rattle.vfa_walk.specs.Kept.{kept_in_order}
use Rattle.vfa_walk.specs.Passes.{merged, pass_next, pass_table}
use Rattle.vfa_walk.specs.Rounds.{after_rounds, IsStill}
use Rattle.vfa_walk.specs.Tables.{States, IsTableOf}
use Rattle.vfa_walk.proofs.Ending.{rounds_left}
use Rattle.vfa_walk.proofs.EndingRounds.{left_at_last, no_head_no_state, still_or_less}
use Rattle.vfa_walk.proofs.LoopFree.{ordered_nothing}
use Rattle.vfa_walk.proofs.RoundsEnd.{next_alike, pass_alike}
use Rattle.vfa_walk.proofs.States.{funext}
use Rattle.vfa_walk.specs.LastRound.{ComesLast}

-- The heads are those after some rounds, each of which changed something, and the number is that of the next round.
pub record IsAfter {V : Type 0} (answers : Answers V) (f : Function) (l : Layout) (heads : List (Option (Stored V))) (round : ℕ) : Type 0 where
  pub done : ℕ
  pub number : round ≡ min (suc done) last_round
  pub states : (b : ℕ) → kept_in_order l.order heads b ≡ after_rounds (flow_of answers f l) done b
  pub moved : (k : ℕ) → k < done → IsStill (flow_of answers f l) k → ⊥

-- what a test that says yes, and one that says no, tells
pub where_yes : (A B : Type 0) (c : Bool) → not c ≡ false → MatchBool c A B → A
where_yes A B true e m = m
where_yes A B false e m = absurd cc

pub where_no : (A B : Type 0) (c : Bool) → not c ≡ true → MatchBool c A B → B
where_no A B true e m = absurd cc
where_no A B false e m = m

-- before the first round
pub begins : {V : Type 0} (answers : Answers V) (f : Function) (l : Layout) (heads : List (Option (Stored V))) → All (λ e. e ≡ None) heads → IsAfter answers f l heads 1
begins answers f l heads none = record {
  done = 0;
  number = omega arith;
  states = λ b. ordered_nothing l.order heads none b;
  moved = λ k less _. omega (arith, less);
}

-- what is left before a round, where these are the heads
abbrev pub left_before : {V : Type 0} → Answers V → Function → List BlockId → List (Option (Stored V)) → ℕ → ℕ
left_before answers f order heads round = rounds_left answers (length f.values) (numbers order) round (kept_in_order order heads)

-- what a round makes of a head
abbrev pub made : {V : Type 0} → Answers V → Function → Layout → ℕ → List (Option (Stored V)) → List (Option (Stored V)) → ℕ → Option (AbstractState V)
made answers f l round heads next b =
    if is_head f l.order b then merged ((flow_of answers f l).widen round) (kept_in_order l.order heads b) (kept_in_order l.order next b) else None

-- some head has another state than before
abbrev pub SomeMoved : {V : Type 0} → Function → Layout → List (Option (Stored V)) → List (Option (Stored V)) → Type 0
SomeMoved f l heads new = (b : ℕ) × (is_head f l.order b ≡ true) × (kept_in_order l.order new b ≡ kept_in_order l.order heads b → ⊥)

-- each head has the state that it had
abbrev pub NoneMoved : {V : Type 0} → Function → Layout → List (Option (Stored V)) → List (Option (Stored V)) → Type 0
NoneMoved f l heads new = (b : ℕ) → is_head f l.order b ≡ true → kept_in_order l.order new b ≡ kept_in_order l.order heads b

module _ {V : Type 0} (answers : Answers V) (f : Function) (l : Layout) (heads next new : List (Option (Stored V))) (round : ℕ)
    (after : IsAfter answers f l heads round)
    (comes : (b : ℕ) → kept_in_order l.order next b ≡ pass_next (flow_of answers f l) (kept_in_order l.order heads) b) where
  -- what comes to the heads
  pub next_is : (b : ℕ) → kept_in_order l.order next b ≡ pass_next (flow_of answers f l) (after_rounds (flow_of answers f l) after.done) b
  next_is b = comes b ∙ next_alike (flow_of answers f l) (kept_in_order l.order heads) (after_rounds (flow_of answers f l) after.done) after.states b

  widening_is : (flow_of answers f l).widen round ≡ (flow_of answers f l).widen (suc after.done)
  widening_is =
      let number = after.number in
      let same : min round last_round ≡ min (suc after.done) last_round = omega (arith, number) in
      ap (λ r. widened answers f r) same

  module _ (makes : (b : ℕ) → kept_in_order l.order new b ≡ made answers f l round heads next b) where
    -- the new states are those after one more round
    pub new_is : (b : ℕ) → kept_in_order l.order new b ≡ after_rounds (flow_of answers f l) (suc after.done) b
    new_is b = by (is_head f l.order b) refl
      where
        m : Flow (AbstractState V)
        m = flow_of answers f l

        choice : (h : Bool) → is_head f l.order b ≡ h → made answers f l round heads next b ≡ (if h then merged (m.widen round) (kept_in_order l.order heads b) (kept_in_order l.order next b) else None)
        choice h e = ap (λ c. if c then merged (m.widen round) (kept_in_order l.order heads b) (kept_in_order l.order next b) else None) e

        by : (h : Bool) → is_head f l.order b ≡ h → kept_in_order l.order new b ≡ after_rounds m (suc after.done) b
        by true e =
            makes b ∙ (choice true e
            ∙ (ap (λ w. merged w (kept_in_order l.order heads b) (kept_in_order l.order next b)) widening_is
            ∙ (ap (λ o. merged (m.widen (suc after.done)) o (kept_in_order l.order next b)) (after.states b)
            ∙ ap (merged (m.widen (suc after.done)) (after_rounds m after.done b)) (next_is b))))
        by false e = makes b ∙ (choice false e ∙ sym (no_head_no_state m (suc after.done) b e))

    -- the round changes nothing where each head keeps its state
    still : NoneMoved f l heads new → IsStill (flow_of answers f l) after.done
    still same b = by (is_head f l.order b) refl
      where
        m : Flow (AbstractState V)
        m = flow_of answers f l

        by : (h : Bool) → is_head f l.order b ≡ h → after_rounds m (suc after.done) b ≡ after_rounds m after.done b
        by true e = sym (new_is b) ∙ (same b e ∙ after.states b)
        by false e = no_head_no_state m (suc after.done) b e ∙ sym (no_head_no_state m after.done b e)

    pub ends : NoneMoved f l heads new → ComesLast (flow_of answers f l) (kept_in_order l.order next)
    ends same = record {
      rounds = after.done;
      are_rounds = record { still = still same; first = after.moved };
      comes = next_is;
    }

    not_still : SomeMoved f l heads new → IsStill (flow_of answers f l) after.done → ⊥
    not_still some is = some.2 (new_is some.0 ∙ (is some.0 ∙ sym (after.states some.0)))

    pub goes_on : SomeMoved f l heads new → IsAfter answers f l new (min (round + 1) last_round)
    goes_on some = record {
      done = suc after.done;
      number = let number = after.number in omega (arith, number);
      states = new_is;
      moved = λ k less is. elim (cases_lt k after.done) [
        | inl earlier ↦ after.moved k earlier is
        | inr later ↦ let e : k ≡ after.done = omega (arith, less, later) in not_still some (subst (IsStill (flow_of answers f l)) e is)
      ];
    }

-- what is left, by the number of rounds that were done
left_is : {V : Type 0} (answers : Answers V) (f : Function) (l : Layout) (heads : List (Option (Stored V))) (round done : ℕ) → round ≡ min (suc done) last_round →
    ((b : ℕ) → kept_in_order l.order heads b ≡ after_rounds (flow_of answers f l) done b) →
    left_before answers f l.order heads round ≡ rounds_left answers (length f.values) (numbers l.order) (suc done) (after_rounds (flow_of answers f l) done)
left_is answers f l heads round done number states =
    let same : kept_in_order l.order heads ≡ after_rounds (flow_of answers f l) done = funext states in
    ap (left_before answers f l.order heads) number
    ∙ (left_at_last answers (length f.values) (numbers l.order) (suc done) (kept_in_order l.order heads)
    ∙ ap (rounds_left answers (length f.values) (numbers l.order) (suc done)) same)

module _ {V : Type 0} (ty : V → Ty) (proper : V → Type 0) (answers : Answers V) (types : AreTyped (IsOf ty proper) answers) (steady : AreSteady (IsOf ty proper) answers) (f : Function)
    (checked : IsChecked f) (printable : IsPrintable f) (l : Layout) (is : IsLayout f l) (heads next new : List (Option (Stored V))) (round : ℕ)
    (after : IsAfter answers f l heads round)
    (comes : (b : ℕ) → kept_in_order l.order next b ≡ pass_next (flow_of answers f l) (kept_in_order l.order heads) b)
    (makes : (b : ℕ) → kept_in_order l.order new b ≡ made answers f l round heads next b) where
  -- a round that changes something leaves less
  pub less_is_left : SomeMoved f l heads new → left_before answers f l.order new (min (round + 1) last_round) < left_before answers f l.order heads round
  less_is_left some =
      by (still_or_less ty proper answers types steady f printable checked.formed.typed checked.formed.phis checked.within.edges checked.within.names l is after.done)
    where
      m : Flow (AbstractState V)
      m = flow_of answers f l

      names : ℕ
      names = length f.values

      next_number : min (round + 1) last_round ≡ min (suc (suc after.done)) last_round
      next_number = let number = after.number in omega (arith, number)

      before : left_before answers f l.order heads round ≡ rounds_left answers names (numbers l.order) (suc after.done) (after_rounds m after.done)
      before = left_is answers f l heads round after.done after.number after.states

      behind : left_before answers f l.order new (min (round + 1) last_round) ≡ rounds_left answers names (numbers l.order) (suc (suc after.done)) (after_rounds m (suc after.done))
      behind = left_is answers f l new (min (round + 1) last_round) (suc after.done) next_number (new_is answers f l heads next new round after comes makes)

      by : IsStill m after.done ⊎ (rounds_left answers names (numbers l.order) (suc (suc after.done)) (after_rounds m (suc after.done)) < rounds_left answers names (numbers l.order) (suc after.done) (after_rounds m after.done)) →
          left_before answers f l.order new (min (round + 1) last_round) < left_before answers f l.order heads round
      by (inl stands) = absurd (not_still answers f l heads next new round after comes makes some stands)
      by (inr less) = subst (λ k. k < left_before answers f l.order heads round) (sym behind) (subst (λ k. rounds_left answers names (numbers l.order) (suc (suc after.done)) (after_rounds m (suc after.done)) < k) (sym before) less)

-- One more pass with what came to the heads in the last round gives the table.
pub gives_table : {V : Type 0} (answers : Answers V) (f : Function) (l : Layout) (next : List (Option (Stored V))) (t : States V) → IsLayout f l →
    ComesLast (flow_of answers f l) (kept_in_order l.order next) → ((b : ℕ) → t b ≡ pass_table (flow_of answers f l) (kept_in_order l.order next) b) → IsTableOf answers f t
gives_table answers f l next t is last table = record {
  layout = l;
  is_layout = is;
  is_table = record {
    rounds = last.rounds;
    are_rounds = last.are_rounds;
    entries = λ b. table b ∙ pass_alike (flow_of answers f l) (kept_in_order l.order next) (pass_next (flow_of answers f l) (after_rounds (flow_of answers f l) last.rounds)) last.comes b;
  };
}
