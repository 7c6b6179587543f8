-- Truth of the states of a pass: where each move keeps truth, and what a pass gives the heads is covered by what it was made
-- of, the states of the pass are true at each entry of their blocks. By induction on runs alone: no step is taken to be
-- monotone.
use Rattle.std.proofs.Common.{◌≡◌, ◌≤◌, ℕ, suc, Bool, true, false, nat_eq, if◌then◌else◌, IsSomeAnd, List, [], ◌∷◌, Option, Some, None, slice_get, refl, sym, subst, arith, inl, inr, eq-eqb}
use Rattle.std.specs.Option.{ForSome, option_map}
use Rattle.vfa_ir.specs.Walks.{is_in}
use Rattle.vfa_ir.specs.declared.functions.Block.{Block}
use Rattle.vfa_ir.specs.declared.functions.Function.{Function}
use Rattle.vfa_cfg.proofs.Members.{first_or_rest}
use Rattle.vfa_mean.specs.Values.{Env}
use Rattle.vfa_mean.specs.Outcomes.{after_phis}
use Rattle.vfa_walk.specs.Flow.{Flow, IsForward}
use Rattle.vfa_walk.specs.Passes.{Entries, merged, gathered, followed, handed, met, entry_of, pass_table, pass_next, IsPass}
use Rattle.vfa_walk.specs.Rounds.{after_rounds, IsTable, IsStill}
use Rattle.vfa_walk.proofs.PassEquations.{pass_is_pass}
use Rattle.vfa_walk.proofs.RoundsEnd.{table_is_pass}
use Rattle.vfa_walk.proofs.TruthKept.{KeepsStates, EachIs, merged_is, none_is, handed_is, is_pass_good, pass_is_good, next_is_good, rounds_are_good}
use Rattle.vfa_walk.proofs.TruthRuns.{Passes, Begins, Entered, begins, goes}

-- Each move keeps truth: T says when a state is true of the values that the names have.
pub record KeepsTruth {S : Type 0} (f : Function) (m : Flow S) (Good Given : ℕ → S → Type 0) (T : S → Env → Type 0) : Type 0 where
  pub start : (b : ℕ) (block : Block) (env : Env) → Begins f b env → slice_get f.blocks b ≡ Some block → T m.start (after_phis None block.phis env env)
  pub along : (p b : ℕ) (s : S) (entry env : Env) → Good p s → T s entry → Passes f p entry b env → IsSomeAnd (m.along p b s) (λ s'. T s' env)
  pub join_first : (b : ℕ) (s s' : S) (env : Env) → Given b s → Given b s' → T s env → T (m.join s s') env
  pub join_second : (b : ℕ) (s s' : S) (env : Env) → Given b s → Given b s' → T s' env → T (m.join s s') env
  pub cut : (b : ℕ) (s : S) (env : Env) → T s env → T (m.cut b s) env
  pub widen_old : (b round : ℕ) (old new : S) (env : Env) → 1 ≤ round → Good b old → Good b new → T old env → T (m.widen round old new) env
  pub widen_new : (b round : ℕ) (old new : S) (env : Env) → 1 ≤ round → Good b old → Good b new → T new env → T (m.widen round old new) env

-- The blocks that runs come to stand in the order, and none comes back to the first.
pub record GoesInOrder {S : Type 0} (f : Function) (m : Flow S) : Type 0 where
  pub first : (b : ℕ) (env : Env) → Begins f b env → b ≡ m.first
  pub first_in : is_in m.first m.order ≡ true
  pub next_in : (p b : ℕ) (entry env : Env) → Passes f p entry b env → is_in p m.order ≡ true → is_in b m.order ≡ true
  pub no_return : (p b : ℕ) (entry env : Env) → Passes f p entry b env → nat_eq b m.first ≡ false

abbrev pub TrueSome : {S : Type 0} → (S → Env → Type 0) → Option S → Env → Type 0
TrueSome T o env = IsSomeAnd o (λ s. T s env)

-- each state of a table is there and true, whenever runs come to the entry of its block
abbrev pub IsTrueAtEntries : {S : Type 0} → Function → (S → Env → Type 0) → Entries S → Type 0
IsTrueAtEntries f T t = (b : ℕ) (env : Env) → Entered f b env → TrueSome T (t b) env

-- what is there has what holds of what is there
pub some_and : {S : Type 0} (P Q : S → Type 0) (o : Option S) → ForSome o P → IsSomeAnd o Q → IsSomeAnd o (λ s. P s × Q s)
some_and P Q None p q = absurd q
some_and P Q (Some s) p q = (p s refl, q)

pub merged_first : {S : Type 0} (P T : S → Type 0) (both : S → S → S) (o o' : Option S) → ((s s' : S) → P s → P s' → T s → T (both s s')) →
    ForSome o P → ForSome o' P → IsSomeAnd o T → IsSomeAnd (merged both o o') T
merged_first P T both None o' keeps p p' t = absurd t
merged_first P T both (Some s) None keeps p p' t = t
merged_first P T both (Some s) (Some s') keeps p p' t = keeps s s' (p s refl) (p' s' refl) t

pub merged_second : {S : Type 0} (P T : S → Type 0) (both : S → S → S) (o o' : Option S) → ((s s' : S) → P s → P s' → T s' → T (both s s')) →
    ForSome o P → ForSome o' P → IsSomeAnd o' T → IsSomeAnd (merged both o o') T
merged_second P T both o None keeps p p' t = absurd t
merged_second P T both None (Some s') keeps p p' t = t
merged_second P T both (Some s) (Some s') keeps p p' t = keeps s s' (p s refl) (p' s' refl) t

mapped_true : {S : Type 0} (T : S → Type 0) (g : S → S) (o : Option S) → ((s : S) → T s → T (g s)) → IsSomeAnd o T → IsSomeAnd (option_map g o) T
mapped_true T g None keeps t = absurd t
mapped_true T g (Some s) keeps t = keeps s t

is_in_order : {S : Type 0} (m : Flow S) (x t : Entries S) → IsPass m x t → (b : ℕ) (T : S → Type 0) → IsSomeAnd (t b) T → is_in b m.order ≡ true
is_in_order {S = S} m x t pass b T true_there = by (is_in b m.order) refl
  where
    by : (here : Bool) → is_in b m.order ≡ here → is_in b m.order ≡ true
    by true h = h
    by false h = absurd (subst (λ o. IsSomeAnd o T) (pass.outside b h) true_there)

module _ {S : Type 0} (f : Function) (m : Flow S) (Good Given : ℕ → S → Type 0) (T : S → Env → Type 0)
    (keeps : KeepsStates m Good Given) (true_moves : KeepsTruth f m Good Given T) (in_order : GoesInOrder f m) where
  -- ---- one block gets what others hand on

  gathered_sum : (b : ℕ) (env : Env) (given : ℕ → Option S) (list : List ℕ) (sum : Option S) → ((p : ℕ) → ForSome (given p) (Given b)) →
      ForSome sum (Given b) → TrueSome T sum env → TrueSome T (gathered m.join given list sum) env
  gathered_sum b env given [] sum each good t = t
  gathered_sum b env given (p ∷ rest) sum each good t =
      gathered_sum b env given rest (merged m.join sum (given p)) each (merged_is (Given b) m.join sum (given p) (keeps.join b) good (each p))
      (merged_first (Given b) (λ s. T s env) m.join sum (given p) (λ s s'. true_moves.join_first b s s' env) good (each p) t)

  gathered_given : (b : ℕ) (env : Env) (given : ℕ → Option S) (list : List ℕ) (sum : Option S) (p : ℕ) → ((p : ℕ) → ForSome (given p) (Given b)) →
      ForSome sum (Given b) → is_in p list ≡ true → TrueSome T (given p) env → TrueSome T (gathered m.join given list sum) env
  gathered_given b env given [] sum p each good here t = absurd cc
  gathered_given b env given (q ∷ rest) sum p each good here t =
      let next : ForSome (merged m.join sum (given q)) (Given b) = merged_is (Given b) m.join sum (given q) (keeps.join b) good (each q) in
      elim (first_or_rest p q rest here) [
        | inl same ↦ gathered_sum b env given rest (merged m.join sum (given q)) each next
            (merged_second (Given b) (λ s. T s env) m.join sum (given q) (λ s s'. true_moves.join_second b s s' env) good (each q)
            (subst (λ k. TrueSome T (given k) env) same t))
        | inr later ↦ gathered_given b env given rest (merged m.join sum (given q)) p each next later t
      ]

  followed_true : (p b : ℕ) (entry env : Env) (o : Option S) → ForSome o (Good p) → TrueSome T o entry → Passes f p entry b env →
      TrueSome T (followed (m.along p b) o) env
  followed_true p b entry env None good t run = absurd t
  followed_true p b entry env (Some s) good t run = true_moves.along p b s entry env (good s refl) t run

  -- where the state of a block is true, what a next block gets is true
  pub met_true : (t : Entries S) → EachIs Good t → (p b : ℕ) (entry env : Env) → is_in p m.order ≡ true → TrueSome T (t p) entry →
      Passes f p entry b env → TrueSome T (met m t b) env
  met_true t good p b entry env here true_there run =
      mapped_true (λ s. T s env) (m.cut b) (gathered m.join (handed m t b) m.order None) (λ s. true_moves.cut b s env)
      (gathered_given b env (handed m t b) m.order None p (handed_is m Good Given keeps t good b) (none_is (Given b)) here
      (followed_true p b entry env (t p) (good p) true_there run))

  -- ---- a pass

  -- The states x of heads cover what the table t gives the heads: at each entry of which that is true, x is true.
  abbrev pub Cover : Entries S → Entries S → Type 0
  Cover x t = (b : ℕ) (env : Env) → m.is_head b ≡ true → nat_eq b m.first ≡ false → Entered f b env → TrueSome T (met m t b) env →
      TrueSome T (x b) env

  entry_first : (x t : Entries S) (b : ℕ) (env : Env) → b ≡ m.first → T m.start env → TrueSome T (entry_of m x t b) env
  entry_first x t b env same at = of (nat_eq b m.first) refl
    where
      of : (first : Bool) → nat_eq b m.first ≡ first → TrueSome T (if first then Some m.start else if m.is_head b then x b else met m t b) env
      of true e = at
      of false e = absurd (let k : nat_eq b m.first ≡ true = eq-eqb b m.first same in cc)

  entry_next : (x t : Entries S) (b : ℕ) (env : Env) → nat_eq b m.first ≡ false → TrueSome T (met m t b) env →
      (m.is_head b ≡ true → TrueSome T (x b) env) → TrueSome T (entry_of m x t b) env
  entry_next x t b env apart at head = of (nat_eq b m.first) (m.is_head b) apart head
    where
      of : (first is_head : Bool) → first ≡ false → (is_head ≡ true → TrueSome T (x b) env) →
          TrueSome T (if first then Some m.start else if is_head then x b else met m t b) env
      of true is_head e head = absurd cc
      of false true e head = head refl
      of false false e head = at

  pub covered_pass_true : (x t : Entries S) → IsPass m x t → EachIs Good t → Cover x t → IsTrueAtEntries f T t
  covered_pass_true x t pass good cover b env (begins c block old run there) =
      let first : c ≡ m.first = in_order.first c old run in
      let here : is_in c m.order ≡ true = subst (λ k. is_in k m.order ≡ true) (sym first) in_order.first_in in
      subst (λ o. TrueSome T o (after_phis None block.phis old old)) (sym (pass.inside c here))
      (entry_first x t c (after_phis None block.phis old old) first (true_moves.start c block old run there))
  covered_pass_true x t pass good cover b env (goes p entry c next entered run) =
      let before : TrueSome T (t p) entry = covered_pass_true x t pass good cover p entry entered in
      let from : is_in p m.order ≡ true = is_in_order m x t pass p (λ s. T s entry) before in
      let here : is_in c m.order ≡ true = in_order.next_in p c entry next run from in
      let given : TrueSome T (met m t c) next = met_true t good p c entry next from before run in
      subst (λ o. TrueSome T o next) (sym (pass.inside c here))
      (entry_next x t c next (in_order.no_return p c entry next run) given (λ head. cover c next head (in_order.no_return p c entry next run) (goes p entry c next entered run) given))

  -- what a true table gives a block that was entered from another is true
  true_gives : (x t : Entries S) → IsPass m x t → EachIs Good t → IsTrueAtEntries f T t → (b : ℕ) (env : Env) → Entered f b env →
      nat_eq b m.first ≡ false → TrueSome T (met m t b) env
  true_gives x t pass good is_true b env (begins c block old run there) apart =
      absurd (let first : c ≡ m.first = in_order.first c old run in let e : nat_eq c m.first ≡ true = eq-eqb c m.first first in cc)
  true_gives x t pass good is_true b env (goes p entry c next entered run) apart =
      let before : TrueSome T (t p) entry = is_true p entry entered in
      met_true t good p c entry next (is_in_order m x t pass p (λ s. T s entry) before) before run

  -- ---- the rounds

  head_gets : (x : Entries S) (b : ℕ) → m.is_head b ≡ true → pass_next m x b ≡ met m (pass_table m x) b
  head_gets x b head = of (m.is_head b) head
    where
      of : (is_head : Bool) → is_head ≡ true → (if is_head then met m (pass_table m x) b else None) ≡ met m (pass_table m x) b
      of true e = refl
      of false e = absurd cc

  -- at each head what came to it is covered by what it has
  abbrev pub CoversNext : Entries S → Type 0
  CoversNext x = (b : ℕ) (env : Env) → m.is_head b ≡ true → TrueSome T (pass_next m x b) env → TrueSome T (x b) env

  pub covering_pass_true : (x : Entries S) → IsForward m → EachIs Good x → CoversNext x → IsTrueAtEntries f T (pass_table m x)
  covering_pass_true x forward good covers =
      covered_pass_true x (pass_table m x) (pass_is_pass m x forward) (pass_is_good m Good Given keeps x good)
      (λ b env head apart entered given. covers b env head (subst (λ o. TrueSome T o env) (sym (head_gets x b head)) given))

  -- Once more with what came to the heads: that is true, since the pass before was.
  pub narrowed_pass_true : (x t : Entries S) → IsForward m → EachIs Good x → CoversNext x → IsPass m (pass_next m x) t → IsTrueAtEntries f T t
  narrowed_pass_true x t forward good covers pass =
      let pass_before : IsPass m x (pass_table m x) = pass_is_pass m x forward in
      let good_before : EachIs Good (pass_table m x) = pass_is_good m Good Given keeps x good in
      let true_before : IsTrueAtEntries f T (pass_table m x) = covering_pass_true x forward good covers in
      covered_pass_true (pass_next m x) t pass (is_pass_good m Good Given keeps (pass_next m x) t forward pass (next_is_good m Good Given keeps x good))
      (λ b env head apart entered given. subst (λ o. TrueSome T o env) (sym (head_gets x b head)) (true_gives x (pass_table m x) pass_before good_before true_before b env entered apart))

  still_covers : (n : ℕ) → IsStill m n → CoversNext (after_rounds m n)
  still_covers n still b env head given =
      subst (λ o. TrueSome T o env) (still b)
      (merged_second (Good b) (λ s. T s env) (m.widen (suc n)) (after_rounds m n b) (pass_next m (after_rounds m n) b)
      (λ old new p q. true_moves.widen_new b (suc n) old new env (omega arith) p q)
      (rounds_are_good m Good Given keeps n b) (next_is_good m Good Given keeps (after_rounds m n) (rounds_are_good m Good Given keeps n) b) given)

  -- the table is true
  pub table_true : (t : Entries S) → IsForward m → IsTable m t → IsTrueAtEntries f T t
  table_true t forward is =
      narrowed_pass_true (after_rounds m is.rounds) t forward (rounds_are_good m Good Given keeps is.rounds) (still_covers is.rounds is.are_rounds.still)
      (table_is_pass m t is.rounds forward is.entries)
