-- Operations that give poison of a poison operand, and of numbers a number or poison: what is needed so that a cell holds of
-- all that they give.
use Rattle.std.proofs.Common.{◌≡◌, ℕ, Bool, true, false, ◌&&◌, refl, sym, ◌∙◌, ap, subst, Option, Some, None}
use Rattle.std.specs.Option.{is_some}
use Rattle.std.proofs.lemmas.Bool.{true≢false}
use Rattle.vfa_mean.specs.declared.value.Done.{Done}
use Rattle.vfa_mean.specs.declared.value.Val.{Val}
use Rattle.vfa_mean.specs.Meaning.{Result, Undefined, Gave, Allowed, of_one, of_two}
use Rattle.vfa_mean.specs.Rows.{number_unless}
use Rattle.vfa_fact.specs.declared.numbers.Numbers.{Numbers}
use Rattle.vfa_fact.specs.Cells.{CellValue, in_option, in_cell, cell_of}
use Rattle.vfa_xfer.specs.AnyFacts.{CellHolds}

-- a cell without numbers has no member
pub no_member : (v : CellValue) → v.numbers ≡ None → (x : ℕ) → in_cell v x ≡ true → ⊥
unfolding in_option
no_member v none x member = true≢false (sym member ∙ ap (λ (o : Option Numbers). in_option v.width o x) none)

-- the value that a result gave; poison where it is undefined
abbrev given : Result → Val
given Undefined = Val.Poison
given (Gave v) = v

pub given_same : (v r : Val) → Allowed (Done.Is v) (Gave r) → r ≡ v
given_same v r e = ap given e

-- a number or poison
pub data IsPlain : Done → Type 0 where
  plain_number : (n : ℕ) → IsPlain (Done.Is (Val.Number n))
  plain_poison : IsPlain (Done.Is Val.Poison)

pub plain_unless : (broken : Bool) (x : ℕ) → IsPlain (number_unless broken x)
plain_unless true x = plain_poison
plain_unless false x = plain_number x

unmarked : (o : Option Numbers) (m : Bool) → (m ≡ true → ⊥) → (is_some o && m) ≡ false
unmarked (Some n) true h = absurd (h refl)
unmarked (Some n) false h = refl
unmarked None m h = refl

-- the cell holds of what is given, where it has each number that is, and is not marked where poison is
pub given_held : (d : Done) (w : ℕ) (o : Option Numbers) (m : Bool) → IsPlain d → ((n : ℕ) → d ≡ Done.Is (Val.Number n) → in_option w o n ≡ true) →
    (m ≡ true → d ≡ Done.Is Val.Poison → ⊥) → (r : Val) → Allowed d (Gave r) → CellHolds (cell_of w o m) r
given_held d w o m (plain_number n) has clean r given =
    subst (CellHolds (cell_of w o m)) (sym (given_same (Val.Number n) r given)) (has n refl)
given_held d w o m plain_poison has clean r given =
    subst (CellHolds (cell_of w o m)) (sym (given_same Val.Poison r given)) (unmarked o m (λ e. clean e refl))

-- poison is held where the mark is not that of the operand
poison_held : (w : ℕ) (o : Option Numbers) (m np : Bool) → (m ≡ true → np ≡ true) → np ≡ false → (r : Val) → Allowed (Done.Is Val.Poison) (Gave r) → CellHolds (cell_of w o m) r
poison_held w o m np marked off r given =
    subst (CellHolds (cell_of w o m)) (sym (given_same Val.Poison r given)) (unmarked o m (λ e. true≢false (sym (marked e) ∙ off)))

module _ (row : ℕ → Done) (a : CellValue) (w : ℕ) (o : Option Numbers) (m : Bool) (plain : (p : ℕ) → IsPlain (row p)) (marked : m ≡ true → a.never_poison ≡ true)
    (has : (p n : ℕ) → in_cell a p ≡ true → row p ≡ Done.Is (Val.Number n) → in_option w o n ≡ true)
    (clean : m ≡ true → (p : ℕ) → in_cell a p ≡ true → row p ≡ Done.Is Val.Poison → ⊥) where
  pub one_held : (x r : Val) → CellHolds a x → Allowed (of_one row x) (Gave r) → CellHolds (cell_of w o m) r
  one_held (Val.Number p) r one given = given_held (row p) w o m (plain p) (λ n e. has p n one e) (λ on e. clean on p one e) r given
  one_held Val.Poison r one given = poison_held w o m a.never_poison marked one r given
  one_held (Val.Pair p q) r one given = absurd one

module _ (row : ℕ → ℕ → Done) (a b : CellValue) (w : ℕ) (o : Option Numbers) (m : Bool) (plain : (p q : ℕ) → IsPlain (row p q))
    (left : m ≡ true → a.never_poison ≡ true) (right : m ≡ true → b.never_poison ≡ true)
    (has : (p q n : ℕ) → in_cell a p ≡ true → in_cell b q ≡ true → row p q ≡ Done.Is (Val.Number n) → in_option w o n ≡ true)
    (clean : m ≡ true → (p q : ℕ) → in_cell a p ≡ true → in_cell b q ≡ true → row p q ≡ Done.Is Val.Poison → ⊥) where
  pub two_held : (x y r : Val) → CellHolds a x → CellHolds b y → Allowed (of_two row x y) (Gave r) → CellHolds (cell_of w o m) r
  two_held (Val.Number p) (Val.Number q) r one two given =
      given_held (row p q) w o m (plain p q) (λ n e. has p q n one two e) (λ on e. clean on p q one two e) r given
  two_held (Val.Number p) Val.Poison r one two given = poison_held w o m b.never_poison right two r given
  two_held (Val.Number p) (Val.Pair q s) r one two given = absurd two
  two_held Val.Poison y r one two given = poison_held w o m a.never_poison left one r given
  two_held (Val.Pair p s) y r one two given = absurd one
