-- The edges of a function, counted by the blocks that they leave and lead to.
use Rattle.std.proofs.Common.{◌≡◌, ◌∙◌, ℕ, zero, suc, ◌+◌, ◌<◌, ◌≤◌, ◌&&◌, Bool, true, false, cond, eqb, List, [], ◌∷◌, ◌++◌, map, length, ◌⊎◌, inl, inr, replicate, set, get_or, length-set, All, Some, None, refl, sym, ap, subst, arith, add-zero, zero-add, count_by}
use Rattle.std.proofs.lemmas.Bool.{cases_lt, eq-eqb, eqb-false, eqb-true}
use Rattle.std.proofs.lemmas.List.{get_or-set_other, get_or-set_same}
use Rattle.std.proofs.lemmas.List.Elements.{All-from_recursion, All-nil, All-push}
use Rattle.std.proofs.lemmas.List.Sums.{sum_by-append, sum_by-cons, sum_by_push}
use Rattle.std.specs.List.{AllByRecursion, slice_get}
use Rattle.vfa_ir.specs.declared.operations.BlockId.{BlockId}
use Rattle.vfa_ir.specs.declared.functions.Block.{Block}
use Rattle.vfa_ir.specs.declared.functions.Function.{Function}
use Rattle.vfa_ir.specs.declared.functions.Term.{Term}
use Rattle.vfa_ir.specs.PhisFit.{edge_count, targets}
use Rattle.vfa_cfg.specs.Edges.{block_edges, case_edges, edges_from, edges_of}
use Rattle.vfa_cfg.specs.declared.listing.Edge.{Edge}
use Rattle.vfa_cfg.specs.declared.listing.Way.{Way}
use Rattle.vfa_check.specs.Predecessors.{times, with_edge}

-- whether an edge leads from one block to another
abbrev pub joins : ℕ → ℕ → Edge → Bool
joins from to e = eqb e.to.0 to && eqb e.from.0 from

abbrev pub joined : ℕ → ℕ → List Edge → ℕ
joined from to = count_by (joins from to)

abbrev leads_to : ℕ → List BlockId → ℕ
leads_to to = count_by (λ t. eqb t.0 to)

apart : (a b : ℕ) → (a ≡ b → ⊥) → eqb a b ≡ false
apart a b h = at (eqb a b) refl
  where
    at : (t : Bool) → eqb a b ≡ t → eqb a b ≡ false
    at true e = absurd (h (eqb-true a b e))
    at false e = e

and_cases : (a b : Bool) → ◌≡◌ {A = ℕ} (cond (a && b) 1 0) (cond b (cond a 1 0) 0)
and_cases true true = refl
and_cases true false = refl
and_cases false true = refl
and_cases false false = refl

cond_sum : (t : Bool) (a b : ℕ) → cond t a 0 + cond t b 0 ≡ cond t (a + b) 0
cond_sum true a b = refl
cond_sum false a b = refl

-- edges that leave one block
counted_from : (b from to : ℕ) (es : List Edge) → AllByRecursion (λ e. e.from.0 ≡ b) es →
    joined from to es ≡ cond (eqb b from) (leads_to to (map (λ e. e.to) es)) 0
counted_from b from to [] h = at (eqb b from)
  where
    at : (t : Bool) → ◌≡◌ {A = ℕ} 0 (cond t 0 0)
    at true = refl
    at false = refl
counted_from b from to (e ∷ es) h =
    sum_by-cons (λ x. cond (joins from to x) 1 0) e es
    ∙ ap (λ n. cond (eqb e.to.0 to && eqb n from) 1 0 + joined from to es) h.0
    ∙ ap (λ n. n + joined from to es) (and_cases (eqb e.to.0 to) (eqb b from))
    ∙ ap (λ n. cond (eqb b from) (cond (eqb e.to.0 to) 1 0) 0 + n) (counted_from b from to es h.1)
    ∙ cond_sum (eqb b from) (cond (eqb e.to.0 to) 1 0) (leads_to to (map (λ x. x.to) es))
    ∙ ap (λ n. cond (eqb b from) n 0) (sym (sum_by-cons (λ (t : BlockId). cond (eqb t.0 to) 1 0) e.to (map (λ x. x.to) es)))

case_targets : (b k : ℕ) (cases : List (ℕ × BlockId)) → map (λ e. e.to) (case_edges b k cases) ≡ map (λ c. c.1) cases
case_targets b k [] = refl
case_targets b k (c ∷ rest) = ap (λ l. c.1 ∷ l) (case_targets b (k + 1) rest)

edge_targets : (b : ℕ) (t : Term) → map (λ e. e.to) (block_edges b t) ≡ targets t
edge_targets b (Term.Ret _ _) = refl
edge_targets b (Term.Br to) = refl
edge_targets b (Term.CondBr _ taken fallen) = refl
edge_targets b (Term.Switch _ _ default cases) = ap (λ l. default ∷ l) (case_targets b 0 cases)
edge_targets b Term.Unreachable = refl

case_sources : (b k : ℕ) (cases : List (ℕ × BlockId)) → AllByRecursion (λ e. e.from.0 ≡ b) (case_edges b k cases)
case_sources b k [] = tt
case_sources b k (c ∷ rest) = (refl, case_sources b (k + 1) rest)

edge_sources : (b : ℕ) (t : Term) → AllByRecursion (λ e. e.from.0 ≡ b) (block_edges b t)
edge_sources b (Term.Ret _ _) = tt
edge_sources b (Term.Br to) = (refl, tt)
edge_sources b (Term.CondBr _ taken fallen) = (refl, (refl, tt))
edge_sources b (Term.Switch _ _ default cases) = (refl, case_sources b 0 cases)
edge_sources b Term.Unreachable = tt

counted_in : (b from to : ℕ) (t : Term) → joined from to (block_edges b t) ≡ cond (eqb b from) (leads_to to (targets t)) 0
counted_in b from to t =
    counted_from b from to (block_edges b t) (edge_sources b t) ∙ ap (λ l. cond (eqb b from) (leads_to to l) 0) (edge_targets b t)

counted_cons : (b from to : ℕ) (block : Block) (rest : List Block) →
    joined from to (edges_from b (block ∷ rest)) ≡ cond (eqb b from) (leads_to to (targets block.term)) 0 + joined from to (edges_from (b + 1) rest)
counted_cons b from to block rest =
    sum_by-append (λ x. cond (joins from to x) 1 0) (block_edges b block.term) (edges_from (b + 1) rest)
    ∙ ap (λ n. n + joined from to (edges_from (b + 1) rest)) (counted_in b from to block.term)

-- no edge leaves a block before these
none_before : (b from to : ℕ) (blocks : List Block) → from < b → joined from to (edges_from b blocks) ≡ 0
none_before b from to [] h = refl
none_before b from to (block ∷ rest) h =
    counted_cons b from to block rest
    ∙ ap (λ t. cond t (leads_to to (targets block.term)) 0 + joined from to (edges_from (b + 1) rest)) (apart b from (λ e. absurd (omega arith)))
    ∙ ap (λ n. 0 + n) (none_before (b + 1) from to rest (omega arith))

abbrev leads_at : ℕ → List Block → ℕ → ℕ
leads_at to blocks k = elim (slice_get blocks k) [ None ↦ 0 | Some b ↦ leads_to to (targets b.term) ]

counted_at : (b k to : ℕ) (blocks : List Block) → joined (b + k) to (edges_from b blocks) ≡ leads_at to blocks k
counted_at b k to [] = refl
counted_at b zero to (block ∷ rest) =
    let here : b ≡ b + 0 = omega arith in
    counted_cons b (b + 0) to block rest
    ∙ ap (λ t. cond t (leads_to to (targets block.term)) 0 + joined (b + 0) to (edges_from (b + 1) rest)) (eq-eqb b (b + 0) here)
    ∙ ap (λ n. leads_to to (targets block.term) + n) (none_before (b + 1) (b + 0) to rest (omega arith))
    ∙ add-zero (leads_to to (targets block.term))
counted_at b (suc k) to (block ∷ rest) =
    let next : b + suc k ≡ b + 1 + k = omega arith in
    counted_cons b (b + suc k) to block rest
    ∙ ap (λ t. cond t (leads_to to (targets block.term)) 0 + joined (b + suc k) to (edges_from (b + 1) rest)) (apart b (b + suc k) (λ e. absurd (omega arith)))
    ∙ zero-add (joined (b + suc k) to (edges_from (b + 1) rest))
    ∙ ap (λ n. joined n to (edges_from (b + 1) rest)) next
    ∙ counted_at (b + 1) k to rest

pub all_counted : (f : Function) (from to : ℕ) → joined from to (edges_of f) ≡ edge_count f from to
all_counted f from to = ap (λ n. joined n to (edges_of f)) (sym (zero-add from)) ∙ counted_at 0 from to f.blocks

-- each edge leaves a block of the function
pub both : {A : Type 0} (P : A → Type 0) (xs ys : List A) → AllByRecursion P xs → AllByRecursion P ys → AllByRecursion P (xs ++ ys)
both P [] ys h k = k
both P (x ∷ xs) ys h k = (h.0, both P xs ys h.1 k)

pub weaker : {A : Type 0} (P Q : A → Type 0) (xs : List A) → ((x : A) → P x → Q x) → AllByRecursion P xs → AllByRecursion Q xs
weaker P Q [] f h = tt
weaker P Q (x ∷ xs) f h = (f x h.0, weaker P Q xs f h.1)

leave_within : (b n : ℕ) (blocks : List Block) → n ≡ b + length blocks → AllByRecursion (λ e. e.from.0 < n) (edges_from b blocks)
leave_within b n [] h = tt
leave_within b n (block ∷ rest) h =
    both (λ (e : Edge). e.from.0 < n) (block_edges b block.term) (edges_from (b + 1) rest)
    (weaker (λ (e : Edge). e.from.0 ≡ b) (λ (e : Edge). e.from.0 < n) (block_edges b block.term) (λ e same. omega arith) (edge_sources b block.term))
    (leave_within (b + 1) n rest (omega arith))

pub all_leave_within : (f : Function) → All (λ e. e.from.0 < length f.blocks) (edges_of f)
all_leave_within f =
    All-from_recursion (λ (e : Edge). e.from.0 < length f.blocks) (edges_of f) (leave_within 0 (length f.blocks) f.blocks (sym (zero-add (length f.blocks))))

-- a predecessor more
set_past : {A : Type 0} (xs : List A) (k : ℕ) (x : A) → length xs ≤ k → set xs k x ≡ xs
set_past [] k x h = refl
set_past (y ∷ xs) zero x h = absurd (omega arith)
set_past (y ∷ xs) (suc k) x h = ap (λ l. y ∷ l) (set_past xs k x (omega arith))

added_at : (all : List (List BlockId)) (from to : ℕ) (e : Edge) → e.to.0 < length all →
    times from (get_or (with_edge e.from e.to all) to []) ≡ times from (get_or all to []) + cond (joins from to e) 1 0
added_at all from to e within = at (eqb e.to.0 to) refl
  where
    at : (t : Bool) → eqb e.to.0 to ≡ t →
        times from (get_or (set all e.to.0 (get_or all e.to.0 [] ++ e.from ∷ [])) to []) ≡ times from (get_or all to []) + cond (t && eqb e.from.0 from) 1 0
    at true h =
        let same : e.to.0 ≡ to = eqb-true e.to.0 to h in
        subst (λ m. times from (get_or (set all e.to.0 (get_or all e.to.0 [] ++ e.from ∷ [])) m []) ≡ times from (get_or all m []) + cond (eqb e.from.0 from) 1 0) same
        (ap (times from) (get_or-set_same all e.to.0 (get_or all e.to.0 [] ++ e.from ∷ []) [] within)
        ∙ sum_by_push (λ (p : BlockId). cond (eqb p.0 from) 1 0) (get_or all e.to.0 []) e.from)
    at false h =
        ap (times from) (get_or-set_other all e.to.0 to (get_or all e.to.0 [] ++ e.from ∷ []) [] (λ s. eqb-false e.to.0 to h (sym s)))
        ∙ sym (add-zero (times from (get_or all to [])))

pub counted_next : (all : List (List BlockId)) (from to : ℕ) (e : Edge) → to < length all →
    times from (get_or (with_edge e.from e.to all) to []) ≡ times from (get_or all to []) + cond (joins from to e) 1 0
counted_next all from to e inside = at (cases_lt e.to.0 (length all))
  where
    at : (e.to.0 < length all) ⊎ (length all ≤ e.to.0) →
        times from (get_or (with_edge e.from e.to all) to []) ≡ times from (get_or all to []) + cond (joins from to e) 1 0
    at (inl within) = added_at all from to e within
    at (inr past) =
        ap (λ l. times from (get_or l to [])) (set_past all e.to.0 (get_or all e.to.0 [] ++ e.from ∷ []) past)
        ∙ sym (add-zero (times from (get_or all to [])))
        ∙ ap (λ t. times from (get_or all to []) + cond (t && eqb e.from.0 from) 1 0) (sym (apart e.to.0 to (λ s. absurd (omega arith))))

pub within_next : (n : ℕ) (all : List (List BlockId)) (e : Edge) (to : ℕ) → e.from.0 < n → ((b : ℕ) → All (λ p. p.0 < n) (get_or all b [])) →
    All (λ p. p.0 < n) (get_or (with_edge e.from e.to all) to [])
within_next n all e to small so_far = at (cases_lt e.to.0 (length all)) (eqb e.to.0 to) refl
  where
    at : (e.to.0 < length all) ⊎ (length all ≤ e.to.0) → (t : Bool) → eqb e.to.0 to ≡ t →
        All (λ (p : BlockId). p.0 < n) (get_or (set all e.to.0 (get_or all e.to.0 [] ++ e.from ∷ [])) to [])
    at (inr past) t h =
        subst (λ l. All (λ (p : BlockId). p.0 < n) (get_or l to [])) (sym (set_past all e.to.0 (get_or all e.to.0 [] ++ e.from ∷ []) past)) (so_far to)
    at (inl within) true h =
        let same : e.to.0 ≡ to = eqb-true e.to.0 to h in
        subst (λ m. All (λ (p : BlockId). p.0 < n) (get_or (set all e.to.0 (get_or all e.to.0 [] ++ e.from ∷ [])) m [])) same
        (subst (All (λ (p : BlockId). p.0 < n)) (sym (get_or-set_same all e.to.0 (get_or all e.to.0 [] ++ e.from ∷ []) [] within))
        (All-push (λ (p : BlockId). p.0 < n) (get_or all e.to.0 []) e.from (so_far e.to.0) small))
    at (inl within) false h =
        subst (All (λ (p : BlockId). p.0 < n)) (sym (get_or-set_other all e.to.0 to (get_or all e.to.0 [] ++ e.from ∷ []) [] (λ s. eqb-false e.to.0 to h (sym s)))) (so_far to)

pub length_next : (all : List (List BlockId)) (e : Edge) → length (with_edge e.from e.to all) ≡ length all
length_next all e = length-set all e.to.0 (get_or all e.to.0 [] ++ e.from ∷ [])

-- no predecessors yet
none_at : (n to : ℕ) → ◌≡◌ {A = List BlockId} (get_or (replicate n []) to []) []
none_at zero to = refl
none_at (suc n) zero = refl
none_at (suc n) (suc to) = none_at n to

pub counted_none : (n from to : ℕ) → times from (get_or (replicate n []) to []) ≡ 0
counted_none n from to = ap (times from) (none_at n to)

pub within_none : (n m to : ℕ) → All (λ (p : BlockId). p.0 < m) (get_or (replicate n []) to [])
within_none n m to = subst (All (λ (p : BlockId). p.0 < m)) (sym (none_at n to)) (All-nil (λ (p : BlockId). p.0 < m))

-- what stands for an edge past the end
abbrev pub no_edge : Edge
no_edge = record { from = record { 0 = 0 }; to = record { 0 = 0 }; way = Way.Always }
