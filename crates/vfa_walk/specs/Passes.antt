-- One pass of states through the blocks: each block gets its entry state, in the order, from the states of the blocks
-- that hand states on to it.
use Rattle.std.specs.Prelude.{◌≡◌, ℕ, false, nat_eq, if◌then◌else◌, IsTrue, List, [], ◌∷◌, Option, Some, None}
use Rattle.std.specs.Option.{option_map}
use Rattle.vfa_ir.specs.Walks.{is_in}
use Rattle.vfa_walk.specs.Flow.{Flow}

-- a state, or none, for each block
abbrev pub Entries : Type 0 → Type 0
Entries S = ℕ → Option S

-- what covers both states; where one is not there, it is the other
abbrev pub merged : {S : Type 0} → (S → S → S) → Option S → Option S → Option S
merged both None new = new
merged both (Some old) None = Some old
merged both (Some old) (Some new) = Some (both old new)

-- these states together, from the left
abbrev pub gathered : {S : Type 0} → (S → S → S) → (ℕ → Option S) → List ℕ → Option S → Option S
gathered join given [] sum = sum
gathered join given (from ∷ rest) sum = gathered join given rest (merged join sum (given from))

-- what follows from a state, where there is one
abbrev pub followed : {S : Type 0} → (S → Option S) → Option S → Option S
followed next None = None
followed next (Some s) = next s

-- what a block hands on to another
abbrev pub handed : {S : Type 0} → Flow S → Entries S → ℕ → ℕ → Option S
handed m t to from = followed (m.along from to) (t from)

-- what a block gets from all blocks of the order, in the sequence of the order
abbrev pub met : {S : Type 0} → Flow S → Entries S → ℕ → Option S
met m t b = option_map (m.cut b) (gathered m.join (handed m t b) m.order None)

-- the entry state of a block, where heads have the states x
abbrev pub entry_of : {S : Type 0} → Flow S → Entries S → Entries S → ℕ → Option S
entry_of m x t b = if nat_eq b m.first then Some m.start else if m.is_head b then x b else met m t b

abbrev pub with_entry : {S : Type 0} → Entries S → ℕ → Option S → Entries S
with_entry t b entry c = if nat_eq c b then entry else t c

-- the entry states after a pass through these blocks, from those before
abbrev pub go_through : {S : Type 0} → Flow S → Entries S → List ℕ → Entries S → Entries S
go_through m x [] t = t
go_through m x (b ∷ rest) t = go_through m x rest (with_entry t b (entry_of m x t b))

-- the table of a pass: the entry states that blocks get where heads have the states x; outside the order there is none
abbrev pub pass_table : {S : Type 0} → Flow S → Entries S → Entries S
pass_table m x = go_through m x m.order (λ _. None)

-- what the heads get in a pass
abbrev pub pass_next : {S : Type 0} → Flow S → Entries S → Entries S
pass_next m x b = if m.is_head b then met m (pass_table m x) b else None

-- The same table by equations: each block of the order has the entry state that the table gives it.
pub record IsPass {S : Type 0} (m : Flow S) (x t : Entries S) : Type 0 where
  pub inside : (b : ℕ) → IsTrue (is_in b m.order) → t b ≡ entry_of m x t b
  pub outside : (b : ℕ) → is_in b m.order ≡ false → t b ≡ None
