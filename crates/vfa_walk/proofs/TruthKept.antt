-- What each move of a flow keeps holds of every state of a pass, of the rounds and of the table: by induction on the order.
use Rattle.std.proofs.Common.{◌≡◌, ◌≤◌, ℕ, zero, suc, Bool, true, false, nat_eq, if◌then◌else◌, List, [], ◌∷◌, Option, Some, None, refl, sym, subst, arith, eqb-true}
use Rattle.std.specs.Option.{ForSome, option_map}
use Rattle.vfa_walk.specs.Flow.{Flow, IsForward}
use Rattle.vfa_walk.specs.Passes.{Entries, merged, gathered, followed, handed, met, entry_of, with_entry, go_through, pass_table, pass_next, IsPass}
use Rattle.vfa_walk.specs.Rounds.{after_rounds, IsTable}
use Rattle.vfa_walk.proofs.PassEquations.{one_pass}

-- What holds of entry states, and what holds of the states that are handed on to a block before they are joined: each move
-- leads from the one to the other.
pub record KeepsStates {S : Type 0} (m : Flow S) (Good Given : ℕ → S → Type 0) : Type 0 where
  pub start : Good m.first m.start
  pub along : (p b : ℕ) (s : S) → Good p s → ForSome (m.along p b s) (Given b)
  pub join : (b : ℕ) (s s' : S) → Given b s → Given b s' → Given b (m.join s s')
  pub cut : (b : ℕ) (s : S) → Given b s → Good b (m.cut b s)
  pub widen : (b round : ℕ) (old new : S) → 1 ≤ round → Good b old → Good b new → Good b (m.widen round old new)

-- so each state of a table is
abbrev pub EachIs : {S : Type 0} → (ℕ → S → Type 0) → Entries S → Type 0
EachIs Good t = (b : ℕ) → ForSome (t b) (Good b)

pub none_is : {S : Type 0} (P : S → Type 0) → ForSome None P
none_is P s e = absurd cc

pub some_is : {S : Type 0} (P : S → Type 0) (s : S) → P s → ForSome (Some s) P
some_is P s p u e = let same : s ≡ u = cc in subst P same p

pub choice_is : {A : Type 0} (P : A → Type 0) (b : Bool) (x y : A) → P x → P y → P (if b then x else y)
choice_is P true x y p q = p
choice_is P false x y p q = q

pub merged_is : {S : Type 0} (P : S → Type 0) (both : S → S → S) (o o' : Option S) →
    ((s s' : S) → P s → P s' → P (both s s')) → ForSome o P → ForSome o' P → ForSome (merged both o o') P
merged_is P both None o' keeps p p' = p'
merged_is P both (Some s) None keeps p p' = p
merged_is P both (Some s) (Some s') keeps p p' = some_is P (both s s') (keeps s s' (p s refl) (p' s' refl))

pub gathered_is : {S : Type 0} (P : S → Type 0) (join : S → S → S) (given : ℕ → Option S) (list : List ℕ) (sum : Option S) →
    ((s s' : S) → P s → P s' → P (join s s')) → ((p : ℕ) → ForSome (given p) P) → ForSome sum P → ForSome (gathered join given list sum) P
gathered_is P join given [] sum keeps each p = p
gathered_is P join given (from ∷ rest) sum keeps each p =
    gathered_is P join given rest (merged join sum (given from)) keeps each (merged_is P join sum (given from) keeps p (each from))

pub mapped_is : {S : Type 0} (P Q : S → Type 0) (g : S → S) (o : Option S) → ((s : S) → P s → Q (g s)) → ForSome o P → ForSome (option_map g o) Q
mapped_is P Q g None keeps p = none_is Q
mapped_is P Q g (Some s) keeps p = some_is Q (g s) (keeps s (p s refl))

followed_is : {S : Type 0} (P Q : S → Type 0) (next : S → Option S) (o : Option S) → ((s : S) → P s → ForSome (next s) Q) → ForSome o P →
    ForSome (followed next o) Q
followed_is P Q next None keeps p = none_is Q
followed_is P Q next (Some s) keeps p = keeps s (p s refl)

module _ {S : Type 0} (m : Flow S) (Good Given : ℕ → S → Type 0) (keeps : KeepsStates m Good Given) where
  pub handed_is : (t : Entries S) → EachIs Good t → (b p : ℕ) → ForSome (handed m t b p) (Given b)
  handed_is t good b p = followed_is (Good p) (Given b) (m.along p b) (t p) (keeps.along p b) (good p)

  pub met_is : (t : Entries S) → EachIs Good t → (b : ℕ) → ForSome (met m t b) (Good b)
  met_is t good b =
      mapped_is (Given b) (Good b) (m.cut b) (gathered m.join (handed m t b) m.order None) (keeps.cut b)
      (gathered_is (Given b) m.join (handed m t b) m.order None (keeps.join b) (handed_is t good b) (none_is (Given b)))

  entry_is : (x t : Entries S) → EachIs Good x → EachIs Good t → (b : ℕ) → ForSome (entry_of m x t b) (Good b)
  entry_is x t heads good b = of (nat_eq b m.first) refl
    where
      of : (first : Bool) → nat_eq b m.first ≡ first → ForSome (if first then Some m.start else if m.is_head b then x b else met m t b) (Good b)
      of true same = some_is (Good b) m.start (subst (λ k. Good k m.start) (sym (eqb-true b m.first same)) keeps.start)
      of false same = choice_is (λ o. ForSome o (Good b)) (m.is_head b) (x b) (met m t b) (heads b) (met_is t good b)

  with_entry_is : (t : Entries S) (b : ℕ) (entry : Option S) → EachIs Good t → ForSome entry (Good b) → EachIs Good (with_entry t b entry)
  with_entry_is t b entry good new c = of (nat_eq c b) refl
    where
      of : (here : Bool) → nat_eq c b ≡ here → ForSome (if here then entry else t c) (Good c)
      of true same = subst (λ k. ForSome entry (Good k)) (sym (eqb-true c b same)) new
      of false same = good c

  through_is : (x : Entries S) → EachIs Good x → (list : List ℕ) (t : Entries S) → EachIs Good t → EachIs Good (go_through m x list t)
  through_is x heads [] t good = good
  through_is x heads (b ∷ rest) t good =
      through_is x heads rest (with_entry t b (entry_of m x t b)) (with_entry_is t b (entry_of m x t b) good (entry_is x t heads good b))

  -- a pass
  pub pass_is_good : (x : Entries S) → EachIs Good x → EachIs Good (pass_table m x)
  pass_is_good x heads = through_is x heads m.order (λ _. None) (λ b. none_is (Good b))

  -- any table that meets the equations of a pass
  pub is_pass_good : (x t : Entries S) → IsForward m → IsPass m x t → EachIs Good x → EachIs Good t
  is_pass_good x t forward pass heads b = subst (λ o. ForSome o (Good b)) (sym (one_pass m x t forward pass b)) (pass_is_good x heads b)

  pub next_is_good : (x : Entries S) → EachIs Good x → EachIs Good (pass_next m x)
  next_is_good x heads b =
      choice_is (λ o. ForSome o (Good b)) (m.is_head b) (met m (pass_table m x) b) None (met_is (pass_table m x) (pass_is_good x heads) b) (none_is (Good b))

  -- the rounds
  pub rounds_are_good : (n : ℕ) → EachIs Good (after_rounds m n)
  rounds_are_good zero b = none_is (Good b)
  rounds_are_good (suc n) b =
      merged_is (Good b) (m.widen (suc n)) (after_rounds m n b) (pass_next m (after_rounds m n) b)
      (λ old new p q. keeps.widen b (suc n) old new (omega arith) p q)
      (rounds_are_good n b) (next_is_good (after_rounds m n) (rounds_are_good n) b)

  -- the table
  pub table_is_good : (t : Entries S) → IsTable m t → EachIs Good t
  table_is_good t is b =
      subst (λ o. ForSome o (Good b)) (sym (is.entries b))
      (pass_is_good (pass_next m (after_rounds m is.rounds)) (next_is_good (after_rounds m is.rounds) (rounds_are_good is.rounds)) b)
