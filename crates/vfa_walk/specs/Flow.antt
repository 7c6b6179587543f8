-- A flow of states through the blocks of a function: all that has to be known of a function and of a domain so that each
-- block has a defined entry state (LLVM's LazyValueInfo solves such equations for one value on demand; LLVM's
-- SCCP for all values at once).
use Rattle.std.specs.Prelude.{◌≡◌, ◌≤◌, ℕ, Bool, false, ◌||◌, nat_eq, IsTrue, List, [], ◌∷◌, Option, None, ⊤}
use Rattle.std.specs.List.{IsDistinct}
use Rattle.vfa_ir.specs.Walks.{is_in}

-- States are what is known at a place that runs may come to; where none comes, there is no state.
pub record Flow (S : Type 0) : Type 0 where
  -- the blocks in the order in which states go through them
  pub order : List ℕ
  -- the block that is entered first, and the state there
  pub first : ℕ
  pub start : S
  -- the heads of loops, whose entry states are widened
  pub is_head : ℕ → Bool
  -- from the entry state of a block the state that all its edges to another hand on there, phis done; there is none
  -- where no edge leads there or no run takes one
  pub along : ℕ → ℕ → S → Option S
  -- what the entry of a block keeps of a state
  pub cut : ℕ → S → S
  -- what covers both states
  pub join : S → S → S
  -- what covers the old and the new state of a head, by the round
  pub widen : ℕ → S → S → S

-- a block whose entry state the states of other blocks give: neither the first block nor a head
abbrev pub is_given : {S : Type 0} → Flow S → ℕ → Bool
is_given m b = nat_eq b m.first || m.is_head b

-- Nothing comes to a block of these from its own place or a later one, if it is neither the first nor a head.
abbrev pub GoesForward : {S : Type 0} → Flow S → List ℕ → Type 0
GoesForward m [] = ⊤
GoesForward m (b ∷ later) =
    (is_given m b ≡ false → (from : ℕ) → IsTrue (is_in from (b ∷ later)) → (s : _) → m.along from b s ≡ None) × GoesForward m later

pub record IsForward {S : Type 0} (m : Flow S) : Type 0 where
  -- no block stands in the order twice
  pub distinct : IsDistinct nat_eq m.order
  pub forward : GoesForward m m.order
  -- heads stand in the order
  pub heads : (b : ℕ) → IsTrue (m.is_head b) → IsTrue (is_in b m.order)

-- a widening that keeps the old state keeps it in all later rounds
abbrev pub Settles : {S : Type 0} → Flow S → Type 0
Settles m = (round later : ℕ) (old new : _) → 1 ≤ round → round ≤ later → m.widen round old new ≡ old → m.widen later old new ≡ old
