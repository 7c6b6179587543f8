-- The laws of a domain of values. They speak of proper values alone: a value of the type in which the proofs see a domain
-- may be no value of the program, such as a range with ends past its width, and of such a one nothing is promised.
use Rattle.std.specs.Prelude.{◌≡◌, ◌<◌, ◌≤◌, ℕ, ◌+◌, ◌%◌, ◌^◌, ◌⊎◌, ◌↔◌, Bool, true, false, List, Some, IsTrue, IsSomeAnd, bit_and}
use Rattle.std.specs.Option.{ForSome}
use Rattle.vfa_ir.specs.declared.operations.Op.{Op}
use Rattle.vfa_ir.specs.declared.operations.Pred.{Pred}
use Rattle.vfa_ir.specs.declared.operations.Ty.{Ty}
use Rattle.vfa_ir.specs.Predicates.{by_order}
use Rattle.vfa_ir.specs.Printable.{op_type}
use Rattle.vfa_word.specs.Numbers.{IsWidth}
use Rattle.vfa_word.specs.Operations.{equal, unsigned_less, signed_less}
use Rattle.vfa_mean.specs.declared.value.Val.{Val}
use Rattle.vfa_mean.specs.Meaning.{done, Allowed, Gave}
use Rattle.vfa_mean.specs.Operands.{IsOperation}
use Rattle.vfa_mean.specs.Values.{IsValueOf}
use Rattle.vfa_values.specs.Answers.{Answers}
use Rattle.vfa_values.specs.Conditions.{width_of, IsType, IsOf, AreLandmarks}
use Rattle.vfa_values.specs.Operands.{EachOperand}

-- Below, `Of t d` says that d is a proper value of type t.

-- ---- Each answer is a proper value: of the type asked for, of the operation's result type, or of the type of its arguments.

pub record AreTyped {V : Type 0} (Of : Ty → V → Type 0) (answers : Answers V) : Type 0 where
  pub width : (t : Ty) (d : V) → Of t d → IsType t
  pub literal : (w x : ℕ) → IsWidth w → x < 2 ^ w → Of (Ty.Int w) (answers.literal w x)
  pub any : (t : Ty) (never_poison : Bool) → IsType t → Of t (answers.any t never_poison)
  pub poison : (t : Ty) → IsType t → Of t (answers.poison t)
  pub transfer : (op : Op) (a b c : V) → IsOperation op → EachOperand op (λ t. Of t a) (λ t. Of t b) (λ t. Of t c) →
      Of (op_type op) (answers.transfer op a b c)
  pub join : (t : Ty) (a b : V) → Of t a → Of t b → Of t (answers.join a b)
  pub widen : (t : Ty) (old new : V) (round : ℕ) (marks : List ℕ) → Of t old → Of t new → 1 ≤ round →
      AreLandmarks (width_of t) marks → Of t (answers.widen old new round marks)
  pub compare : (w : ℕ) (a b : V) (pred : Pred) → Of (Ty.Int w) a → Of (Ty.Int w) b →
      ForSome (answers.compare a pred b) (λ d. Of (Ty.Int w) d)
  pub with_bits : (w mask value : ℕ) (a : V) → Of (Ty.Int w) a → mask < 2 ^ w → value < 2 ^ w →
      ForSome (answers.with_bits a mask value) (λ d. Of (Ty.Int w) d)
  pub moved_from : (w c : ℕ) (a sums : V) → Of (Ty.Int w) a → Of (Ty.Int w) sums → c < 2 ^ w →
      ForSome (answers.moved_from a sums c) (λ d. Of (Ty.Int w) d)
  pub single : (w : ℕ) (d : V) → Of (Ty.Int w) d → ForSome (answers.single d) (λ x. x < 2 ^ w)
  pub rank : (t : Ty) (d : V) → Of t d → answers.rank d < 2 ^ 32

-- ---- Each answer holds of what it has to hold of.

pub record AreSound {V : Type 0} (holds : V → Val → Type 0) (Of : Ty → V → Type 0) (answers : Answers V) : Type 0 where
  -- a value holds only of values of its type
  pub within : (t : Ty) (d : V) (v : Val) → Of t d → holds d v → IsValueOf t v
  -- `literal` holds of its number and of nothing else; `any` of each number or pair of the type, and of poison where it is
  -- not said to be never poison; `poison` of poison
  pub literal : (w x : ℕ) (v : Val) → IsWidth w → x < 2 ^ w → holds (answers.literal w x) v ↔ (v ≡ Val.Number x)
  pub any : (t : Ty) (never_poison : Bool) (v : Val) → IsType t → IsValueOf t v → (v ≡ Val.Poison → never_poison ≡ false) →
      holds (answers.any t never_poison) v
  pub poison : (t : Ty) → IsType t → holds (answers.poison t) Val.Poison
  -- a transfer holds of each value that the operation may give of operand values that its arguments hold of
  pub transfer : (op : Op) (a b c : V) (x y z r : Val) → IsOperation op →
      EachOperand op (λ t. Of t a) (λ t. Of t b) (λ t. Of t c) →
      EachOperand op (λ _. holds a x) (λ _. holds b y) (λ _. holds c z) →
      Allowed (done op x y z) (Gave r) → holds (answers.transfer op a b c) r
  -- a join and a widening hold of all that one of the two holds of
  pub join_first : (t : Ty) (a b : V) (v : Val) → Of t a → Of t b → holds a v → holds (answers.join a b) v
  pub join_second : (t : Ty) (a b : V) (v : Val) → Of t a → Of t b → holds b v → holds (answers.join a b) v
  pub widen_old : (t : Ty) (old new : V) (round : ℕ) (marks : List ℕ) (v : Val) → Of t old → Of t new → 1 ≤ round →
      AreLandmarks (width_of t) marks → holds old v → holds (answers.widen old new round marks) v
  pub widen_new : (t : Ty) (old new : V) (round : ℕ) (marks : List ℕ) (v : Val) → Of t old → Of t new → 1 ≤ round →
      AreLandmarks (width_of t) marks → holds new v → holds (answers.widen old new round marks) v
  -- after a yes the first holds of all that the second holds of
  pub includes : (t : Ty) (a b : V) (v : Val) → Of t a → Of t b → answers.includes a b ≡ true → holds b v → holds a v
  -- a restriction keeps each wanted number, so None means that there is none
  pub compare : (w x y : ℕ) (a b : V) (pred : Pred) → Of (Ty.Int w) a → Of (Ty.Int w) b →
      holds a (Val.Number x) → holds b (Val.Number y) → IsTrue (by_order pred equal unsigned_less (signed_less w) x y) →
      IsSomeAnd (answers.compare a pred b) (λ d. holds d (Val.Number x))
  pub with_bits : (w x mask value : ℕ) (a : V) → Of (Ty.Int w) a → mask < 2 ^ w → value < 2 ^ w →
      holds a (Val.Number x) → bit_and x mask ≡ bit_and value mask →
      IsSomeAnd (answers.with_bits a mask value) (λ d. holds d (Val.Number x))
  pub moved_from : (w x c : ℕ) (a sums : V) → Of (Ty.Int w) a → Of (Ty.Int w) sums → c < 2 ^ w →
      holds a (Val.Number x) → holds sums (Val.Number ((x + c) % 2 ^ w)) →
      IsSomeAnd (answers.moved_from a sums c) (λ d. holds d (Val.Number x))
  -- after Some(x) the value holds of no number but x
  pub single : (t : Ty) (d : V) (x y : ℕ) → Of t d → answers.single d ≡ Some x → holds d (Val.Number y) → y ≡ x

-- ---- Work done again changes nothing, and widening ends.

-- the first round of those in which a change makes the rank less
abbrev pub first_falling_round : ℕ
first_falling_round = 9

pub record AreSteady {V : Type 0} (Of : Ty → V → Type 0) (answers : Answers V) : Type 0 where
  -- a value that is joined with itself, or widened by itself, stays
  pub join_itself : (t : Ty) (d : V) → Of t d → answers.join d d ≡ d
  pub widen_itself : (t : Ty) (d : V) (round : ℕ) (marks : List ℕ) → Of t d → 1 ≤ round →
      AreLandmarks (width_of t) marks → answers.widen d d round marks ≡ d
  -- a widening that gives the old value gives it in every later round
  pub stays : (t : Ty) (old new : V) (round later : ℕ) (marks : List ℕ) → Of t old → Of t new → 1 ≤ round → round ≤ later →
      AreLandmarks (width_of t) marks → answers.widen old new round marks ≡ old → answers.widen old new later marks ≡ old
  -- a late widening gives the old value or one of a lesser rank
  pub falls : (t : Ty) (old new : V) (round : ℕ) (marks : List ℕ) → Of t old → Of t new → first_falling_round ≤ round →
      AreLandmarks (width_of t) marks →
      (answers.widen old new round marks ≡ old) ⊎ (answers.rank (answers.widen old new round marks) < answers.rank old)

pub record IsLawful {V : Type 0} (holds : V → Val → Type 0) (ty : V → Ty) (proper : V → Type 0) (answers : Answers V) : Type 0 where
  pub typed : AreTyped (IsOf ty proper) answers
  pub sound : AreSound holds (IsOf ty proper) answers
  pub steady : AreSteady (IsOf ty proper) answers
