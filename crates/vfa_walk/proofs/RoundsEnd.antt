-- Where the rounds of a flow end, and what any round that changes nothing gives.
use Rattle.std.proofs.Common.{◌≡◌, ◌<◌, ◌≤◌, ℕ, zero, suc, Bool, true, false, nat_eq, if◌then◌else◌, List, [], ◌∷◌, Option, Some, None, refl, sym, ◌∙◌, ap, inl, inr, ◌⊎◌, arith}
use Rattle.std.proofs.lemmas.Bool.{cases_lt, cases_order}
use Rattle.vfa_walk.specs.Flow.{Flow, IsForward, Settles}
use Rattle.vfa_walk.specs.Passes.{Entries, merged, met, entry_of, with_entry, go_through, pass_table, pass_next, IsPass}
use Rattle.vfa_walk.specs.Rounds.{after_rounds, IsStill, table_after, IsTable}
use Rattle.vfa_walk.proofs.PassEquations.{met_same, handed_same, pass_is_pass}

-- ---- a pass hangs on the states of heads

choice_same : {A : Type 0} (b : Bool) (x x' y y' : A) → x ≡ x' → y ≡ y' → (if b then x else y) ≡ (if b then x' else y')
choice_same true x x' y y' e f = e
choice_same false x x' y y' e f = f

entry_alike : {S : Type 0} (m : Flow S) (x x' t t' : Entries S) → ((b : ℕ) → x b ≡ x' b) → ((b : ℕ) → t b ≡ t' b) →
    (b : ℕ) → entry_of m x t b ≡ entry_of m x' t' b
entry_alike m x x' t t' heads entries b =
    choice_same (nat_eq b m.first) (Some m.start) (Some m.start) _ _ refl
    (choice_same (m.is_head b) (x b) (x' b) (met m t b) (met m t' b) (heads b)
    (met_same m t t' b (λ p _. handed_same m t t' b p (entries p))))

through_alike : {S : Type 0} (m : Flow S) (x x' : Entries S) (list : List ℕ) (t t' : Entries S) →
    ((b : ℕ) → x b ≡ x' b) → ((b : ℕ) → t b ≡ t' b) → (b : ℕ) → go_through m x list t b ≡ go_through m x' list t' b
through_alike m x x' [] t t' heads entries b = entries b
through_alike m x x' (first ∷ rest) t t' heads entries b =
    through_alike m x x' rest (with_entry t first (entry_of m x t first)) (with_entry t' first (entry_of m x' t' first)) heads
    (λ c. choice_same (nat_eq c first) _ _ (t c) (t' c) (entry_alike m x x' t t' heads entries first) (entries c)) b

pub pass_alike : {S : Type 0} (m : Flow S) (x x' : Entries S) → ((b : ℕ) → x b ≡ x' b) → (b : ℕ) → pass_table m x b ≡ pass_table m x' b
pass_alike m x x' heads b = through_alike m x x' m.order (λ _. None) (λ _. None) heads (λ _. refl) b

pub next_alike : {S : Type 0} (m : Flow S) (x x' : Entries S) → ((b : ℕ) → x b ≡ x' b) → (b : ℕ) → pass_next m x b ≡ pass_next m x' b
next_alike m x x' heads b =
    choice_same (m.is_head b) (met m (pass_table m x) b) (met m (pass_table m x') b) None None
    (met_same m (pass_table m x) (pass_table m x') b (λ p _. handed_same m (pass_table m x) (pass_table m x') b p (pass_alike m x x' heads p)))
    refl

-- ---- after a round that changes nothing

some_same : {A : Type 0} {a b : A} → Some a ≡ Some b → a ≡ b
some_same e = cc

settled : {S : Type 0} (m : Flow S) → Settles m → (round later : ℕ) → 1 ≤ round → round ≤ later → (old new : Option S) →
    merged (m.widen round) old new ≡ old → merged (m.widen later) old new ≡ old
settled m settles round later one order None new same = same
settled m settles round later one order (Some old) None same = refl
settled m settles round later one order (Some old) (Some new) same =
    ap Some (settles round later old new one order (some_same same))

next_still : {S : Type 0} (m : Flow S) (n k : ℕ) → Settles m → IsStill m n → n ≤ k →
    ((b : ℕ) → after_rounds m k b ≡ after_rounds m n b) → (b : ℕ) → after_rounds m (suc k) b ≡ after_rounds m n b
next_still m n k settles still more before b =
    ap (λ old. merged (m.widen (suc k)) old (pass_next m (after_rounds m k) b)) (before b)
    ∙ ap (merged (m.widen (suc k)) (after_rounds m n b)) (next_alike m (after_rounds m k) (after_rounds m n) before b)
    ∙ settled m settles (suc n) (suc k) (omega arith) (omega arith) (after_rounds m n b) (pass_next m (after_rounds m n) b) (still b)

pub stays : {S : Type 0} (m : Flow S) (n : ℕ) → Settles m → IsStill m n → (later : ℕ) → n ≤ later →
    (b : ℕ) → after_rounds m later b ≡ after_rounds m n b
stays m n settles still zero order b = let e : zero ≡ n = omega arith in ap (λ k. after_rounds m k b) e
stays m n settles still (suc k) order b = elim (cases_lt k n) [
  | inl less ↦ let e : suc k ≡ n = omega arith in ap (λ k. after_rounds m k b) e
  | inr more ↦ next_still m n k settles still more (stays m n settles still k more) b
]

table_alike : {S : Type 0} (m : Flow S) (n k : ℕ) → ((b : ℕ) → after_rounds m n b ≡ after_rounds m k b) →
    (b : ℕ) → table_after m n b ≡ table_after m k b
table_alike m n k same b =
    pass_alike m (pass_next m (after_rounds m n)) (pass_next m (after_rounds m k))
    (next_alike m (after_rounds m n) (after_rounds m k) same) b

-- any round that changes nothing gives the table
pub still_gives_table : {S : Type 0} (m : Flow S) (t : Entries S) (n : ℕ) → Settles m → IsTable m t → IsStill m n →
    (b : ℕ) → t b ≡ table_after m n b
still_gives_table {S = S} m t n settles is still b = by (cases_lt n is.rounds)
  where
    by : (n < is.rounds) ⊎ (is.rounds ≤ n) → t b ≡ table_after m n b
    by (inl less) = absurd (is.are_rounds.first n less still)
    by (inr more) =
        is.entries b ∙ sym (table_alike m n is.rounds (stays m is.rounds settles is.are_rounds.still n more) b)

-- a flow has one table
pub one_table : {S : Type 0} (m : Flow S) (t u : Entries S) → IsTable m t → IsTable m u → (b : ℕ) → t b ≡ u b
one_table {S = S} m t u is other b = by (cases_order is.rounds other.rounds)
  where
    by : (is.rounds ≡ other.rounds) ⊎ ((is.rounds < other.rounds) ⊎ (other.rounds < is.rounds)) → t b ≡ u b
    by (inl same) = is.entries b ∙ ap (λ n. table_after m n b) same ∙ sym (other.entries b)
    by (inr (inl less)) = absurd (other.are_rounds.first is.rounds less is.are_rounds.still)
    by (inr (inr more)) = absurd (is.are_rounds.first other.rounds more other.are_rounds.still)

-- the table meets the equations of a pass
pub table_is_pass : {S : Type 0} (m : Flow S) (t : Entries S) (n : ℕ) → IsForward m → ((b : ℕ) → t b ≡ table_after m n b) →
    IsPass m (pass_next m (after_rounds m n)) t
table_is_pass {S = S} m t n forward same =
    let x : Entries S = pass_next m (after_rounds m n) in
    let pass : IsPass m x (pass_table m x) = pass_is_pass m x forward in
    record {
      inside = λ b here. same b ∙ pass.inside b here ∙ sym (entry_alike m x x t (table_after m n) (λ _. refl) same b);
      outside = λ b absent. same b ∙ pass.outside b absent;
    }

-- ---- without loops

next_nothing : {S : Type 0} (m : Flow S) (x : Entries S) → ((b : ℕ) → m.is_head b ≡ false) → (b : ℕ) → pass_next m x b ≡ None
next_nothing m x plain b = of (m.is_head b) (plain b)
  where
    of : (head : Bool) → head ≡ false → (if head then met m (pass_table m x) b else None) ≡ None
    of true e = absurd (cc)
    of false e = refl

-- one pass is the table
pub one_pass_gives_table : {S : Type 0} (m : Flow S) (t : Entries S) → ((b : ℕ) → m.is_head b ≡ false) →
    ((b : ℕ) → t b ≡ pass_table m (λ _. None) b) → IsTable m t
one_pass_gives_table m t plain same = record {
  rounds = 0;
  are_rounds = record {
    still = λ b. ap (merged (m.widen 1) None) (next_nothing m (λ _. None) plain b);
    first = λ k less _. omega arith;
  };
  entries = λ b. same b ∙ sym (pass_alike m (pass_next m (after_rounds m 0)) (λ _. None) (next_nothing m (after_rounds m 0) plain) b);
}
