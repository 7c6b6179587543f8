-- The edges of the terminator that is left are those that are left of the edges there were.
use Rattle.std.proofs.Common.{◌≡◌, ◌<◌, ◌≤◌, ◌^◌, ℕ, zero, suc, ◌+◌, Bool, true, false, cond, nat_eq, Some, List, [], ◌∷◌, map, length, slice_get, refl, sym, ap, ◌∙◌, subst, inl, inr, arith}
use Rattle.std.specs.Prelude.{count_by, fold}
use Rattle.std.specs.List.{AllByRecursion, IsDistinct}
use Rattle.std.proofs.lemmas.Bool.{eqb-true, eq-eqb}
use Rattle.std.proofs.lemmas.List.Elements.{recursion_from_All, All-from_recursion}
use Rattle.std.proofs.lemmas.Option.{same_Some}
use Rattle.vfa_ir.specs.declared.operations.BlockId.{BlockId}
use Rattle.vfa_ir.specs.declared.operations.Operand.{Operand}
use Rattle.vfa_ir.specs.declared.operations.Ty.{Ty}
use Rattle.vfa_ir.specs.declared.functions.Function.{Function}
use Rattle.vfa_ir.specs.declared.functions.Term.{Term}
use Rattle.vfa_ir.specs.PhisFit.{targets}
use Rattle.vfa_ir.specs.Printable.{IsBlock, PrintableTerm}
use Rattle.vfa_ir.specs.Typed.{TypedTerm, IsOfType}
use Rattle.vfa_ir.specs.Words.{is_in}
use Rattle.vfa_mean.specs.Moments.{Place}
use Rattle.vfa_mean.proofs.FreshOperands.Definitions.{in_first, in_rest, first_or_rest}
use Rattle.vfa_rewrite.specs.Findings.{IsUsable}
use Rattle.vfa_rewrite.specs.Marks.{term_operands}
use Rattle.vfa_rewrite.specs.Rewritten.{Marks, with_numbers, if_left, two_ways, one_way, cases_left, but_last, last_target, many_ways, shrunk, edge_to, edges_from, rewritten}
use Rattle.vfa_rewrite.proofs.PutOperands.{operand_left_typed, operand_left_range}
use Rattle.vfa_rewrite.proofs.Sublists.{IsSublist, end, skip, keep, sublist_distinct}

-- ---- how many pass a test

abbrev pub tally : {A : Type 0} → (A → Bool) → List A → ℕ
tally p [] = 0
tally p (x ∷ xs) = edge_to true (p x) (tally p xs)

counted_from : {A : Type 0} (p : A → Bool) (xs : List A) (a : ℕ) → fold (λ n x. n + cond (p x) 1 0) a xs ≡ a + tally p xs
counted_from p [] a = omega arith
counted_from {A} p (x ∷ xs) a = counted_from p xs (a + cond (p x) 1 0) ∙ by (p x)
  where
    by : (t : Bool) → a + cond t 1 0 + tally p xs ≡ a + edge_to true t (tally p xs)
    by true = omega arith
    by false = omega arith

pub count_is : {A : Type 0} (p : A → Bool) (xs : List A) → count_by p xs ≡ tally p xs
count_is p xs = let e = counted_from p xs 0 in omega (arith, e)

abbrev pub leads_to : ℕ → BlockId → Bool
leads_to b t = nat_eq t.0 b

none_or_some : (t : Bool) (n : ℕ) → t ≡ true → edge_to true t n ≡ 0 → ⊥
none_or_some true n e z = absurd (cc)
none_or_some false n e z = absurd (cc)

pub in_tally : (x : ℕ) (xs : List BlockId) → is_in x (map (λ t. t.0) xs) ≡ true → tally (leads_to x) xs ≡ 0 → ⊥
in_tally x [] t z = absurd (cc)
in_tally x (y ∷ xs) t z = elim (first_or_rest x y.0 (map (λ t. t.0) xs) t) [
  | inl e ↦ none_or_some (nat_eq y.0 x) (tally (leads_to x) xs) (eq-eqb y.0 x (sym e)) z
  | inr r ↦ by (nat_eq y.0 x) z (in_tally x xs r)
]
  where
    by : (t : Bool) → edge_to true t (tally (leads_to x) xs) ≡ 0 → (tally (leads_to x) xs ≡ 0 → ⊥) → ⊥
    by true z again = absurd (cc)
    by false z again = again z

pub tally_in : (x : ℕ) (xs : List BlockId) → (tally (leads_to x) xs ≡ 0 → ⊥) → is_in x (map (λ t. t.0) xs) ≡ true
tally_in x [] some = absurd (some refl)
tally_in x (y ∷ xs) some = by (nat_eq y.0 x) refl some (tally_in x xs)
  where
    by : (t : Bool) → nat_eq y.0 x ≡ t → (edge_to true t (tally (leads_to x) xs) ≡ 0 → ⊥) → ((tally (leads_to x) xs ≡ 0 → ⊥) → is_in x (map (λ t. t.0) xs) ≡ true) →
        is_in x (map (λ t. t.0) (y ∷ xs)) ≡ true
    by true e some again = in_first x y.0 (map (λ t. t.0) xs) (sym (eqb-true y.0 x e))
    by false e some again = in_rest x y.0 (map (λ t. t.0) xs) (again some)

-- ---- edges that are left

-- an edge of these targets that is left leads to the block, where the first has number k
pub record IsLeftEdge (left : ℕ → Bool) (b k : ℕ) (all : List BlockId) : Type 0 where
  pub place : ℕ
  pub to : BlockId
  pub there : slice_get all place ≡ Some to
  pub same : to.0 ≡ b
  pub left_there : left (k + place) ≡ true

pub some_edge : (left : ℕ → Bool) (b k : ℕ) (all : List BlockId) → (edges_from left b k all ≡ 0 → ⊥) → IsLeftEdge left b k all
some_edge left b k [] some = absurd (some refl)
some_edge left b k (to ∷ rest) some = by (left k) (nat_eq to.0 b) refl refl some (some_edge left b (suc k) rest)
  where
    later : IsLeftEdge left b (suc k) rest → IsLeftEdge left b k (to ∷ rest)
    later e = record {
      place = suc e.place;
      to = e.to;
      there = e.there;
      same = e.same;
      left_there = let n : k + suc e.place ≡ suc k + e.place = omega arith in ap left n ∙ e.left_there;
    }

    by : (s t : Bool) → left k ≡ s → nat_eq to.0 b ≡ t → (edge_to s t (edges_from left b (suc k) rest) ≡ 0 → ⊥) →
        ((edges_from left b (suc k) rest ≡ 0 → ⊥) → IsLeftEdge left b (suc k) rest) → IsLeftEdge left b k (to ∷ rest)
    by true true l e some again = record { place = 0; to = to; there = refl; same = eqb-true to.0 b e; left_there = let n : k + 0 ≡ k = omega arith in ap left n ∙ l }
    by true false l e some again = later (again some)
    by false t l e some again = later (again some)

pub edge_counts : (left : ℕ → Bool) (k : ℕ) (all : List BlockId) (place : ℕ) (to : BlockId) → slice_get all place ≡ Some to → left (k + place) ≡ true →
    edges_from left to.0 k all ≡ 0 → ⊥
edge_counts left k [] place to there l z = absurd (cc)
edge_counts left k (x ∷ rest) zero to there l z =
    let here : left k ≡ true = let n : k ≡ k + 0 = omega arith in ap left n ∙ l in
    let same : nat_eq x.0 to.0 ≡ true = eq-eqb x.0 to.0 (ap (λ (t : BlockId). t.0) (same_Some x to there)) in
    by (left k) (nat_eq x.0 to.0) here same z
  where
    by : (s t : Bool) → s ≡ true → t ≡ true → edge_to s t (edges_from left to.0 (suc k) rest) ≡ 0 → ⊥
    by true true e h z = absurd (cc)
    by true false e h z = absurd (cc)
    by false t e h z = absurd (cc)
edge_counts left k (x ∷ rest) (suc place) to there l z =
    by (left k) (nat_eq x.0 to.0) z (edge_counts left (suc k) rest place to there (let n : suc k + place ≡ k + suc place = omega arith in ap left n ∙ l))
  where
    by : (s t : Bool) → edge_to s t (edges_from left to.0 (suc k) rest) ≡ 0 → (edges_from left to.0 (suc k) rest ≡ 0 → ⊥) → ⊥
    by true true z again = absurd (cc)
    by true false z again = again z
    by false t z again = again z

pub fewer_edges : (left : ℕ → Bool) (b k : ℕ) (all : List BlockId) → edges_from left b k all ≤ tally (leads_to b) all
fewer_edges left b k [] = omega arith
fewer_edges left b k (to ∷ rest) = by (left k) (nat_eq to.0 b) (fewer_edges left b (suc k) rest)
  where
    by : (s t : Bool) → edges_from left b (suc k) rest ≤ tally (leads_to b) rest → edge_to s t (edges_from left b (suc k) rest) ≤ edge_to true t (tally (leads_to b) rest)
    by true true l = omega (arith, l)
    by true false l = l
    by false true l = omega (arith, l)
    by false false l = l

-- ---- the edges of the terminator that is left

abbrev case_targets : List (ℕ × BlockId) → List BlockId
case_targets cases = map (λ c. c.1) cases

case_counts : (left : ℕ → Bool) (b k : ℕ) (cases : List (ℕ × BlockId)) → tally (leads_to b) (case_targets (cases_left left k cases)) ≡ edges_from left b k (case_targets cases)
case_counts left b k [] = refl
case_counts left b k (e ∷ rest) = by (left k) (case_counts left b (suc k) rest)
  where
    by : (s : Bool) → tally (leads_to b) (case_targets (cases_left left (suc k) rest)) ≡ edges_from left b (suc k) (case_targets rest) →
        tally (leads_to b) (case_targets (if_left s e (cases_left left (suc k) rest))) ≡ edge_to s (nat_eq e.1.0 b) (edges_from left b (suc k) (case_targets rest))
    by true again = ap (edge_to true (nat_eq e.1.0 b)) again
    by false again = again

swapped : (s t : Bool) (n : ℕ) → edge_to true s (edge_to true t n) ≡ edge_to true t (edge_to true s n)
swapped true true n = refl
swapped true false n = refl
swapped false true n = refl
swapped false false n = refl

last_counts : (b : ℕ) (d : ℕ × BlockId) (rest : List (ℕ × BlockId)) →
    tally (leads_to b) (last_target d rest ∷ case_targets (but_last d rest)) ≡ tally (leads_to b) (case_targets (d ∷ rest))
last_counts b d [] = refl
last_counts b d (c ∷ rest) =
    swapped (nat_eq (last_target c rest).0 b) (nat_eq d.1.0 b) (tally (leads_to b) (case_targets (but_last c rest)))
    ∙ ap (edge_to true (nat_eq d.1.0 b)) (last_counts b c rest)

many_counts : (s : Bool) (b w : ℕ) (on : Operand) (other : BlockId) (cases : List (ℕ × BlockId)) →
    tally (leads_to b) (targets (many_ways s w on other cases)) ≡ edge_to s (nat_eq other.0 b) (tally (leads_to b) (case_targets cases))
many_counts true b w on other [] = refl
many_counts true b w on other (e ∷ cases) = refl
many_counts false b w on other [] = refl
many_counts false b w on other (e ∷ []) = refl
many_counts false b w on other (e ∷ (d ∷ rest)) =
    swapped (nat_eq (last_target d rest).0 b) (nat_eq e.1.0 b) (tally (leads_to b) (case_targets (but_last d rest)))
    ∙ ap (edge_to true (nat_eq e.1.0 b)) (last_counts b d rest)

pub shrunk_counts : (put : Operand → Operand) (left : ℕ → Bool) (b : ℕ) (term : Term) →
    tally (leads_to b) (targets (shrunk put left term)) ≡ edges_from left b 0 (targets term)
shrunk_counts put left b (Term.Ret w a) = refl
shrunk_counts put left b (Term.Br to) = by (left 0)
  where
    by : (s : Bool) → tally (leads_to b) (targets (one_way s to)) ≡ edge_to s (nat_eq to.0 b) 0
    by true = refl
    by false = refl
shrunk_counts put left b (Term.CondBr c taken fallen) = by (left 0) (left 1)
  where
    by : (s t : Bool) → tally (leads_to b) (targets (two_ways s t (put c) taken fallen)) ≡ edge_to s (nat_eq taken.0 b) (edge_to t (nat_eq fallen.0 b) 0)
    by true true = refl
    by true false = refl
    by false true = refl
    by false false = refl
shrunk_counts put left b (Term.Switch w on other cases) =
    many_counts (left 0) b w (put on) other (cases_left left 1 cases) ∙ ap (edge_to (left 0) (nat_eq other.0 b)) (case_counts left b 1 cases)
shrunk_counts put left b Term.Unreachable = refl

-- ---- they are no more than before

case_length : (left : ℕ → Bool) (k : ℕ) (cases : List (ℕ × BlockId)) → length (case_targets (cases_left left k cases)) ≤ length (case_targets cases)
case_length left k [] = omega arith
case_length left k (e ∷ rest) = by (left k) (case_length left (suc k) rest)
  where
    by : (s : Bool) → length (case_targets (cases_left left (suc k) rest)) ≤ length (case_targets rest) →
        length (case_targets (if_left s e (cases_left left (suc k) rest))) ≤ suc (length (case_targets rest))
    by true l = omega (arith, l)
    by false l = omega (arith, l)

last_length : (d : ℕ × BlockId) (rest : List (ℕ × BlockId)) → length (case_targets (but_last d rest)) ≡ length (case_targets rest)
last_length d [] = refl
last_length d (c ∷ rest) = ap suc (last_length c rest)

many_length : (s : Bool) (w : ℕ) (on : Operand) (other : BlockId) (cases : List (ℕ × BlockId)) → length (targets (many_ways s w on other cases)) ≤ suc (length (case_targets cases))
many_length true w on other [] = omega arith
many_length true w on other (e ∷ cases) = omega arith
many_length false w on other [] = omega arith
many_length false w on other (e ∷ []) = omega arith
many_length false w on other (e ∷ (d ∷ rest)) = let l = last_length d rest in omega (arith, l)

pub shrunk_length : (put : Operand → Operand) (left : ℕ → Bool) (term : Term) → length (targets (shrunk put left term)) ≤ length (targets term)
shrunk_length put left (Term.Ret w a) = omega arith
shrunk_length put left (Term.Br to) = by (left 0)
  where
    by : (s : Bool) → length (targets (one_way s to)) ≤ 1
    by true = omega arith
    by false = omega arith
shrunk_length put left (Term.CondBr c taken fallen) = by (left 0) (left 1)
  where
    by : (s t : Bool) → length (targets (two_ways s t (put c) taken fallen)) ≤ 2
    by true true = omega arith
    by true false = omega arith
    by false true = omega arith
    by false false = omega arith
shrunk_length put left (Term.Switch w on other cases) =
    let l = many_length (left 0) w (put on) other (cases_left left 1 cases) in
    let k = case_length left 1 cases in
    omega (arith, l, k)
shrunk_length put left Term.Unreachable = omega arith

-- ---- it is typed, and may be printed

abbrev case_numbers : List (ℕ × BlockId) → List ℕ
case_numbers cases = map (λ c. c.0) cases

cases_among : (left : ℕ → Bool) (k : ℕ) (cases : List (ℕ × BlockId)) → IsSublist (case_numbers (cases_left left k cases)) (case_numbers cases)
cases_among left k [] = end
cases_among left k (e ∷ rest) = by (left k) (cases_among left (suc k) rest)
  where
    by : (s : Bool) → IsSublist (case_numbers (cases_left left (suc k) rest)) (case_numbers rest) →
        IsSublist (case_numbers (if_left s e (cases_left left (suc k) rest))) (e.0 ∷ case_numbers rest)
    by true s = keep e.0 _ _ s
    by false s = skip e.0 _ _ s

all_but_last : (d : ℕ × BlockId) (rest : List (ℕ × BlockId)) → IsSublist (case_numbers (but_last d rest)) (case_numbers (d ∷ rest))
all_but_last d [] = skip d.0 [] [] end
all_but_last d (c ∷ rest) = keep d.0 _ _ (all_but_last c rest)

many_distinct : (g : Function) (s : Bool) (w : ℕ) (on : Operand) (other : BlockId) (cases : List (ℕ × BlockId)) → IsOfType g (Ty.Int w) on →
    IsDistinct nat_eq (case_numbers cases) → TypedTerm g (many_ways s w on other cases)
many_distinct g true w on other [] of_type distinct = tt
many_distinct g true w on other (e ∷ cases) of_type distinct = (of_type, distinct)
many_distinct g false w on other [] of_type distinct = tt
many_distinct g false w on other (e ∷ []) of_type distinct = tt
many_distinct g false w on other (e ∷ (d ∷ rest)) of_type distinct =
    (of_type, sublist_distinct (case_numbers (e ∷ but_last d rest)) (case_numbers (e ∷ (d ∷ rest))) (keep e.0 _ _ (all_but_last d rest)) distinct)

abbrev IsCase : Function → ℕ → ℕ × BlockId → Type 0
IsCase g w c = (c.0 < 2 ^ w) × IsBlock g c.1

left_cases : (P : ℕ × BlockId → Type 0) (left : ℕ → Bool) (k : ℕ) (cases : List (ℕ × BlockId)) → AllByRecursion P cases → AllByRecursion P (cases_left left k cases)
left_cases P left k [] all = tt
left_cases P left k (e ∷ rest) all = by (left k) (left_cases P left (suc k) rest all.1)
  where
    by : (s : Bool) → AllByRecursion P (cases_left left (suc k) rest) → AllByRecursion P (if_left s e (cases_left left (suc k) rest))
    by true again = (all.0, again)
    by false again = again

but_last_cases : (P : ℕ × BlockId → Type 0) (d : ℕ × BlockId) (rest : List (ℕ × BlockId)) → AllByRecursion P (d ∷ rest) → AllByRecursion P (but_last d rest)
but_last_cases P d [] all = tt
but_last_cases P d (c ∷ rest) all = (all.0, but_last_cases P c rest all.1)

last_block : (g : Function) (w : ℕ) (d : ℕ × BlockId) (rest : List (ℕ × BlockId)) → AllByRecursion (IsCase g w) (d ∷ rest) → IsBlock g (last_target d rest)
last_block g w d [] all = all.0.1
last_block g w d (c ∷ rest) all = last_block g w c rest all.1

module _ (f : Function) (m : Marks) where
  made_count : {A B : Type 0} (make : ℕ → A → B) (i : ℕ) (xs : List A) → length (with_numbers make i xs) ≡ length xs
  made_count make i [] = refl
  made_count make i (x ∷ xs) = ap suc (made_count make (suc i) xs)

  pub blocks_count : length (rewritten f m).blocks ≡ length f.blocks
  blocks_count = made_count _ 0 f.blocks

  pub calls_count : length (rewritten f m).calls ≡ length f.calls
  calls_count = made_count _ 0 f.calls

  pub block_left_in : (b : BlockId) → IsBlock f b → IsBlock (rewritten f m) b
  block_left_in b h = subst (λ n. b.0 < n) (sym blocks_count) h

  module _ (place : Place) (put : Operand → Operand) (left : ℕ → Bool) where
    pub shrunk_typed : (term : Term) → TypedTerm f term → AllByRecursion (λ (o : Ty × Operand). IsUsable f place o.0 (put o.1)) (term_operands term) → TypedTerm (rewritten f m) (shrunk put left term)
    shrunk_typed (Term.Ret w a) t u = (t.0, operand_left_typed f m (Ty.Int w) (put a) u.0.typed)
    shrunk_typed (Term.Br to) t u = by (left 0)
      where
        by : (s : Bool) → TypedTerm (rewritten f m) (one_way s to)
        by true = tt
        by false = tt
    shrunk_typed (Term.CondBr c taken fallen) t u = by (left 0) (left 1)
      where
        by : (s r : Bool) → TypedTerm (rewritten f m) (two_ways s r (put c) taken fallen)
        by true true = operand_left_typed f m (Ty.Int 1) (put c) u.0.typed
        by true false = tt
        by false true = tt
        by false false = tt
    shrunk_typed (Term.Switch w on other cases) t u =
        many_distinct (rewritten f m) (left 0) w (put on) other (cases_left left 1 cases) (operand_left_typed f m (Ty.Int w) (put on) u.0.typed)
        (sublist_distinct (case_numbers (cases_left left 1 cases)) (case_numbers cases) (cases_among left 1 cases) t.1)
    shrunk_typed Term.Unreachable t u = tt

    many_printable : (s : Bool) (w : ℕ) (on : Operand) (other : BlockId) (cases : List (ℕ × BlockId)) → PrintableTerm (rewritten f m) (Term.Switch w on other []) →
        AllByRecursion (IsCase (rewritten f m) w) cases → PrintableTerm (rewritten f m) (many_ways s w on other cases)
    many_printable true w on other [] r all = r.2
    many_printable true w on other (e ∷ cases) r all = (r.0, r.1, r.2, All-from_recursion (IsCase (rewritten f m) w) (e ∷ cases) all)
    many_printable false w on other [] r all = tt
    many_printable false w on other (e ∷ []) r all = all.0.1
    many_printable false w on other (e ∷ (d ∷ rest)) r all = (
      r.0,
      r.1,
      last_block (rewritten f m) w d rest all.1,
      All-from_recursion (IsCase (rewritten f m) w) (e ∷ but_last d rest) (all.0, but_last_cases (IsCase (rewritten f m) w) d rest all.1),
    )

    still_cases : (w : ℕ) (cases : List (ℕ × BlockId)) → AllByRecursion (IsCase f w) cases → AllByRecursion (IsCase (rewritten f m) w) cases
    still_cases w [] all = tt
    still_cases w (c ∷ rest) all = ((all.0.0, block_left_in c.1 all.0.1), still_cases w rest all.1)

    pub shrunk_printable : (term : Term) → PrintableTerm f term → AllByRecursion (λ (o : Ty × Operand). IsUsable f place o.0 (put o.1)) (term_operands term) → PrintableTerm (rewritten f m) (shrunk put left term)
    shrunk_printable (Term.Ret w a) r u = (r.0, operand_left_range f m w (put a) u.0.typed)
    shrunk_printable (Term.Br to) r u = by (left 0)
      where
        by : (s : Bool) → PrintableTerm (rewritten f m) (one_way s to)
        by true = block_left_in to r
        by false = tt
    shrunk_printable (Term.CondBr c taken fallen) r u = by (left 0) (left 1)
      where
        by : (s t : Bool) → PrintableTerm (rewritten f m) (two_ways s t (put c) taken fallen)
        by true true = (operand_left_range f m 1 (put c) u.0.typed, block_left_in taken r.1, block_left_in fallen r.2)
        by true false = block_left_in taken r.1
        by false true = block_left_in fallen r.2
        by false false = tt
    shrunk_printable (Term.Switch w on other cases) r u =
        many_printable (left 0) w (put on) other (cases_left left 1 cases)
        (r.0, operand_left_range f m w (put on) u.0.typed, block_left_in other r.2, All-from_recursion (IsCase (rewritten f m) w) [] tt)
        (left_cases (IsCase (rewritten f m) w) left 1 cases (still_cases w cases (recursion_from_All (IsCase f w) cases r.3)))
    shrunk_printable Term.Unreachable r u = tt
