-- Sets of results, this project's own: what an operation gives over all operands of the sets.
use Rattle.std.specs.Prelude.{◌≡◌, ℕ, ◌^◌, ◌<◌, Bool, ◌&&◌, nat_eq, IsTrue}
use Rattle.std.specs.Int.{bit_at}
use Rattle.vfa_dom.specs.Search.{some_below}
use Rattle.vfa_dom.specs.Best.{Masks}

-- the numbers that op gives of some x in A and some y in B
unfoldable pub results : ℕ → (ℕ → ℕ → ℕ) → (ℕ → Bool) → (ℕ → Bool) → ℕ → Bool
results w op A B r = some_below (2 ^ w) (λ x. A x && some_below (2 ^ w) (λ y. B y && nat_eq (op x y) r))

-- the numbers that f gives of some x in A, where the numbers of A have width v
unfoldable pub images : ℕ → (ℕ → ℕ) → (ℕ → Bool) → ℕ → Bool
images v f A r = some_below (2 ^ v) (λ x. A x && nat_eq (f x) r)

-- the numbers that op gives of some x in A and some t below w whose bit is set in the mask of amounts
unfoldable pub results_over : ℕ → (ℕ → ℕ → ℕ) → (ℕ → Bool) → ℕ → ℕ → Bool
results_over w op A amounts r =
    some_below (2 ^ w) (λ x. A x && some_below w (λ t. nat_eq (bit_at amounts t) 1 && nat_eq (op x t) r))

-- r is what op gives of the two operands
pub record IsResult (w : ℕ) (op : ℕ → ℕ → ℕ) (A B : ℕ → Bool) (r : ℕ) : Type 0 where
  pub left : ℕ
  pub right : ℕ
  pub left_fits : left < 2 ^ w
  pub right_fits : right < 2 ^ w
  pub left_in : IsTrue (A left)
  pub right_in : IsTrue (B right)
  pub is : op left right ≡ r

-- r is what f gives of the operand
pub record IsImage (v : ℕ) (f : ℕ → ℕ) (A : ℕ → Bool) (r : ℕ) : Type 0 where
  pub from : ℕ
  pub fits : from < 2 ^ v
  pub from_in : IsTrue (A from)
  pub is : f from ≡ r

-- r is what op gives of the operand and the amount
pub record IsResultOver (w : ℕ) (op : ℕ → ℕ → ℕ) (A : ℕ → Bool) (amounts r : ℕ) : Type 0 where
  pub from : ℕ
  pub amount : ℕ
  pub from_fits : from < 2 ^ w
  pub amount_fits : amount < w
  pub from_in : IsTrue (A from)
  pub amount_in : bit_at amounts amount ≡ 1
  pub is : op from amount ≡ r

-- operands of A and B whose result has this digit at place i
pub record GivesDigit (w : ℕ) (op : ℕ → ℕ → ℕ) (A B : ℕ → Bool) (i digit : ℕ) : Type 0 where
  pub left : ℕ
  pub right : ℕ
  pub left_fits : left < 2 ^ w
  pub right_fits : right < 2 ^ w
  pub left_in : IsTrue (A left)
  pub right_in : IsTrue (B right)
  pub gives : bit_at (op left right) i ≡ digit

-- an operand of A whose image has this digit at place i
pub record ImageGivesDigit (v : ℕ) (f : ℕ → ℕ) (A : ℕ → Bool) (i digit : ℕ) : Type 0 where
  pub from : ℕ
  pub fits : from < 2 ^ v
  pub from_in : IsTrue (A from)
  pub gives : bit_at (f from) i ≡ digit

-- an operand of A and an amount of the mask whose result has this digit at place i
pub record AmountGivesDigit (w : ℕ) (op : ℕ → ℕ → ℕ) (A : ℕ → Bool) (amounts i digit : ℕ) : Type 0 where
  pub from : ℕ
  pub amount : ℕ
  pub from_fits : from < 2 ^ w
  pub amount_fits : amount < w
  pub from_in : IsTrue (A from)
  pub amount_in : bit_at amounts amount ≡ 1
  pub gives : bit_at (op from amount) i ≡ digit

-- for each bit below w that the masks leave unknown there is what gives a 0 there, and what gives a 1
pub record BitsVary (w : ℕ) (Gives : ℕ → ℕ → Type 0) (masks : Masks) : Type 0 where
  pub gives_zero : (i : ℕ) → i < w → bit_at masks.zeros i ≡ 0 → bit_at masks.ones i ≡ 0 → Gives i 0
  pub gives_one : (i : ℕ) → i < w → bit_at masks.zeros i ≡ 0 → bit_at masks.ones i ≡ 0 → Gives i 1

-- for each bit left unknown there are operands that give 0 there, and others that give 1: of an operation, of a function
-- from width v, of an operation by an amount, and of a set as it is
abbrev pub UnknownBitsVary : ℕ → (ℕ → ℕ → ℕ) → (ℕ → Bool) → (ℕ → Bool) → Masks → Type 0
UnknownBitsVary w op A B masks = BitsVary w (GivesDigit w op A B) masks

abbrev pub UnknownImagesVary : ℕ → ℕ → (ℕ → ℕ) → (ℕ → Bool) → Masks → Type 0
UnknownImagesVary w v f A masks = BitsVary w (ImageGivesDigit v f A) masks

abbrev pub UnknownShiftsVary : ℕ → (ℕ → ℕ → ℕ) → (ℕ → Bool) → ℕ → Masks → Type 0
UnknownShiftsVary w op A amounts masks = BitsVary w (AmountGivesDigit w op A amounts) masks

abbrev pub UnknownMembersVary : ℕ → (ℕ → Bool) → Masks → Type 0
UnknownMembersVary w S masks = UnknownImagesVary w w (λ x. x) S masks
