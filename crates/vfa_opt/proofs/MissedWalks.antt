-- Whether a name is defined on every walk to a place is decided: where it is not, some walk misses it. Walks are kept to blocks that do
-- not define the name, and whether one of these comes to a block is decided by induction over the blocks that it may pass.
use Rattle.std.proofs.Common.{◌≡◌, ◌⊎◌, inl, inr, ℕ, zero, suc, ◌<◌, ◌≤◌, Bool, true, false, List, [], ◌∷◌, length, map, Option, Some, None, refl, subst, arith}
use Rattle.std.proofs.lemmas.Bool.{both_ways, cases_Bool, cases_eq, cases_lt, or_from, or_left, or_parts, or_right, true_from_ne_false}
use Rattle.std.proofs.lemmas.Option.{slice_get_within}
use Rattle.std.specs.List.{list_any, slice_get}
use Rattle.vfa_ir.specs.declared.operations.BlockId.{BlockId}
use Rattle.vfa_ir.specs.declared.functions.Block.{Block}
use Rattle.vfa_ir.specs.declared.functions.Function.{Function}
use Rattle.vfa_ir.specs.PhisFit.{targets}
use Rattle.vfa_ir.specs.Walks.{IsDefinedAt, IsEdge, IsMissedAt, IsWalk, defined_on, defined_over, is_in, is_parameter, results_before, results_in, successors}

abbrev Decided : Type 0 → Type 0
Decided P = P ⊎ (P → ⊥)

decided_truth : (b : Bool) → Decided (b ≡ true)
decided_truth true = inl refl
decided_truth false = inr (λ e. cc)

decided_falsity : (b : Bool) → Decided (b ≡ false)
decided_falsity true = inr (λ e. cc)
decided_falsity false = inl refl

-- ---- passages: edges one after another, where the points between the two ends are free and below a bound

data Passage (edge : ℕ → ℕ → Type 0) (free : ℕ → Type 0) (n x : ℕ) : ℕ → Type 0 where
  once : {y : ℕ} → edge x y → Passage edge free n x y
  on : {y z : ℕ} → Passage edge free n x z → z < n → free z → edge z y → Passage edge free n x y

-- a passage that passes a point
record Through (edge : ℕ → ℕ → Type 0) (free : ℕ → Type 0) (n x y : ℕ) : Type 0 where
  here : free n
  to : Passage edge free n x n
  onward : Passage edge free n n y

module _ (edge : ℕ → ℕ → Type 0) (free : ℕ → Type 0) where
  wider : {n x y : ℕ} → Passage edge free n x y → Passage edge free (suc n) x y
  wider (once e) = once e
  wider (on p l fr e) = on (wider p) (omega arith) fr e

  joined : {n x m y : ℕ} → Passage edge free n x m → m < n → free m → Passage edge free n m y → Passage edge free n x y
  joined p l fr (once e) = on p l fr e
  joined p l fr (on q k gr e) = on (joined p l fr q) k gr e

  -- it passes the last point, or it keeps below
  split : (n x : ℕ) {y : ℕ} → Passage edge free (suc n) x y → Passage edge free n x y ⊎ Through edge free n x y
  split n x (once e) = inl (once e)
  split n x {y} (on {z = z} p l fr e) = at (split n x p) (cases_lt z n)
    where
      at : Passage edge free n x z ⊎ Through edge free n x z → (z < n) ⊎ (n ≤ z) → Passage edge free n x y ⊎ Through edge free n x y
      at (inl q) (inl k) = inl (on q k fr e)
      at (inr t) (inl k) = inr (record { here = t.here; to = t.to; onward = on t.onward k fr e })
      at (inl q) (inr k) =
          let same : z ≡ n = omega arith in
          inr (record { here = subst free same fr; to = subst (Passage edge free n x) same q; onward = once (subst (λ m. edge m y) same e) })
      at (inr t) (inr k) =
          let same : z ≡ n = omega arith in
          inr (record { here = t.here; to = t.to; onward = once (subst (λ m. edge m y) same e) })

  at_once : {x y : ℕ} → Passage edge free 0 x y → edge x y
  at_once (once e) = e
  at_once (on p l fr e) = absurd (omega arith)

  decided_passage : ((x y : ℕ) → Decided (edge x y)) → ((x : ℕ) → Decided (free x)) → (n x y : ℕ) → Decided (Passage edge free n x y)
  decided_passage edges frees zero x y = at (edges x y)
    where
      at : Decided (edge x y) → Decided (Passage edge free 0 x y)
      at (inl e) = inl (once e)
      at (inr never) = inr (λ p. never (at_once p))
  decided_passage edges frees (suc n) x y =
      at (decided_passage edges frees n x y) (frees n) (decided_passage edges frees n x n) (decided_passage edges frees n n y)
    where
      without : (Passage edge free n x y → ⊥) → (Through edge free n x y → ⊥) → Passage edge free (suc n) x y → ⊥
      without never none p = elim (split n x p) [ inl q ↦ never q | inr t ↦ none t ]

      at : Decided (Passage edge free n x y) → Decided (free n) → Decided (Passage edge free n x n) → Decided (Passage edge free n n y) →
          Decided (Passage edge free (suc n) x y)
      at (inl p) _ _ _ = inl (wider p)
      at (inr never) (inr busy) _ _ = inr (without never (λ t. busy t.here))
      at (inr never) (inl fr) (inr none) _ = inr (without never (λ t. none t.to))
      at (inr never) (inl fr) (inl p) (inr none) = inr (without never (λ t. none t.onward))
      at (inr never) (inl fr) (inl p) (inl q) = inl (joined (wider p) (omega arith) fr (wider q))

-- ---- walks that miss a name

-- the block does not define the name
abbrev Lacks : Function → ℕ → ℕ → Type 0
Lacks f v b = is_in v (results_in f b) ≡ false

abbrev in_passed : Function → ℕ → List ℕ → Bool
in_passed f v passed = list_any (λ b. is_in v (results_in f b)) passed

abbrev FromEntry : Function → ℕ → ℕ → Type 0
FromEntry f v b = Passage (IsEdge f) (Lacks f v) (length f.blocks) 0 b

-- a walk to the block, before which no block defines the name
record Missing (f : Function) (v b : ℕ) : Type 0 where
  passed : List ℕ
  walk : IsWalk f (b ∷ passed)
  lacks : in_passed f v passed ≡ false

leaves_block : (f : Function) (from to : ℕ) → IsEdge f from to → from < length f.blocks
leaves_block f from to e = at (slice_get f.blocks from) refl e
  where
    at : (o : Option Block) → slice_get f.blocks from ≡ o →
        is_in to (elim o [ None ↦ [] | Some block ↦ map (λ (t : BlockId). t.0) (targets block.term) ]) ≡ true → from < length f.blocks
    at None same h = absurd (let x = h in cc)
    at (Some b) same h = slice_get_within f.blocks from b same

abbrev Comes : Function → ℕ → ℕ → Type 0
Comes f v b = (b ≡ 0) ⊎ (Lacks f v 0 × FromEntry f v b)

comes : (f : Function) (v : ℕ) (passed : List ℕ) (b : ℕ) → IsWalk f (b ∷ passed) → in_passed f v passed ≡ false → Comes f v b
comes f v [] b walk lacks = inl walk
comes f v (from ∷ rest) b walk lacks =
    let parts : Lacks f v from × (in_passed f v rest ≡ false) = or_parts (is_in v (results_in f from)) (in_passed f v rest) lacks in
    at parts.0 (comes f v rest from walk.1 parts.1)
  where
    at : Lacks f v from → Comes f v from → Comes f v b
    at here (inl start) = inr (subst (Lacks f v) start here, once (subst (λ k. IsEdge f k b) start walk.0))
    at here (inr p) = inr (p.0, on p.1 (leaves_block f from b walk.0) here walk.0)

walked : (f : Function) (v : ℕ) {b : ℕ} → Lacks f v 0 → FromEntry f v b → Missing f v b
walked f v start (once e) = record { passed = 0 ∷ []; walk = (e, refl); lacks = or_from (is_in v (results_in f 0)) false start refl }
walked f v start (on {z = z} p l fr e) =
    let before : Missing f v z = walked f v start p in
    record {
      passed = z ∷ before.passed;
      walk = (e, before.walk);
      lacks = or_from (is_in v (results_in f z)) (in_passed f v before.passed) fr before.lacks;
    }

missing_or_none : (f : Function) (v b : ℕ) → Missing f v b ⊎ (Comes f v b → ⊥)
missing_or_none f v b =
    at (cases_eq b 0) (decided_falsity (is_in v (results_in f 0)))
    (decided_passage (IsEdge f) (Lacks f v) (λ x y. decided_truth (is_in y (successors f x))) (λ x. decided_falsity (is_in v (results_in f x))) (length f.blocks) 0 b)
  where
    at : Decided (b ≡ 0) → Decided (Lacks f v 0) → Decided (FromEntry f v b) → Missing f v b ⊎ (Comes f v b → ⊥)
    at (inl start) _ _ = inl (record { passed = []; walk = start; lacks = refl })
    at (inr _) (inl lacks) (inl p) = inl (walked f v lacks p)
    at (inr never) (inr none) _ = inr (λ c. elim c [ inl e ↦ never e | inr p ↦ none p.0 ])
    at (inr never) (inl _) (inr none) = inr (λ c. elim c [ inl e ↦ never e | inr p ↦ none p.1 ])

pub defined_or_missed : (f : Function) (b n v : ℕ) → IsDefinedAt f b n v ⊎ IsMissedAt f b n v
defined_or_missed f b n v = at (cases_Bool (is_parameter f v)) (cases_Bool (is_in v (results_before f b n))) (missing_or_none f v b)
  where
    at : (is_parameter f v ≡ true) ⊎ (is_parameter f v ≡ false) →
        (is_in v (results_before f b n) ≡ true) ⊎ (is_in v (results_before f b n) ≡ false) →
        Missing f v b ⊎ (Comes f v b → ⊥) → IsDefinedAt f b n v ⊎ IsMissedAt f b n v
    at (inl given) _ _ =
        inl (λ passed walk. or_left (defined_over f passed v) (is_in v (results_before f b n)) (or_left (is_parameter f v) (in_passed f v passed) given))
    at (inr _) (inl result) _ = inl (λ passed walk. or_right (defined_over f passed v) (is_in v (results_before f b n)) result)
    at (inr given) (inr result) (inl m) =
        inr (record {
          passed = m.passed;
          walk = m.walk;
          missed =
              both_ways (defined_on f m.passed b n v)
              (or_from (defined_over f m.passed v) (is_in v (results_before f b n)) (or_from (is_parameter f v) (in_passed f v m.passed) given m.lacks) result);
        })
    at (inr _) (inr _) (inr none) =
        inl (λ passed walk. true_from_ne_false (defined_on f passed b n v) (λ e.
        let over : defined_over f passed v ≡ false = (or_parts (defined_over f passed v) (is_in v (results_before f b n)) e).0 in
        none (comes f v passed b walk (or_parts (is_parameter f v) (in_passed f v passed) over).1)))
