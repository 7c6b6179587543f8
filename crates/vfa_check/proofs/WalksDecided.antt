-- Whether a name is defined on every walk to a place is decided: where it is not, some walk misses it. So the uses of a
-- function are all defined, or there is a first one that some walk reaches without a definition.
use Rattle.std.proofs.Common.{◌≡◌, ◌⊎◌, inl, inr, ℕ, ◌<◌, Bool, true, false, List, [], ◌∷◌, length, Option, Some, None, IsSomeAnd, refl, subst, map}
use Rattle.std.proofs.lemmas.Bool.{both_ways, cases_Bool, cases_eq, or_from, or_left, or_parts, or_right, true_from_ne_false}
use Rattle.std.proofs.lemmas.Option.{slice_get_within}
use Rattle.std.specs.List.{list_any, slice_get}
use Rattle.vfa_ir.specs.declared.operations.BlockId.{BlockId}
use Rattle.vfa_ir.specs.declared.functions.Block.{Block}
use Rattle.vfa_ir.specs.declared.functions.Function.{Function}
use Rattle.vfa_ir.specs.Defined.{Defined, NameUse, UseIsDefined, uses_of}
use Rattle.vfa_ir.specs.PhisFit.{PhisFit, targets}
use Rattle.vfa_ir.specs.Shown.{shown_block_name, shown_value_name}
use Rattle.vfa_ir.specs.Typed.{Typed}
use Rattle.vfa_ir.specs.Walks.{IsDefinedAt, IsEdge, IsMissedAt, IsWalk, defined_on, defined_over, is_in, is_parameter, results_before, results_in, successors}
use Rattle.vfa_check.specs.First.{FailsFirst}
use Rattle.vfa_check.specs.Refusals.{UndefinedAt}
use Rattle.vfa_check.proofs.Decided.{Decided, all_or_first, decided_falsity, decided_truth}
use Rattle.vfa_check.proofs.Passages.{Passage, decided_passage, on, once}

-- the block does not define the name
abbrev Lacks : Function → ℕ → ℕ → Type 0
Lacks f v b = is_in v (results_in f b) ≡ false

abbrev in_passed : Function → ℕ → List ℕ → Bool
in_passed f v passed = list_any (λ b. is_in v (results_in f b)) passed

abbrev FromEntry : Function → ℕ → ℕ → Type 0
FromEntry f v b = Passage (IsEdge f) (Lacks f v) (length f.blocks) 0 b

-- a walk to the block, before which no block defines the name
record Missing (f : Function) (v b : ℕ) : Type 0 where
  passed : List ℕ
  walk : IsWalk f (b ∷ passed)
  lacks : in_passed f v passed ≡ false

leaves_block : (f : Function) (from to : ℕ) → IsEdge f from to → from < length f.blocks
leaves_block f from to e = at (slice_get f.blocks from) refl e
  where
    at : (o : Option Block) → slice_get f.blocks from ≡ o →
        is_in to (elim o [ None ↦ [] | Some block ↦ map (λ (t : BlockId). t.0) (targets block.term) ]) ≡ true → from < length f.blocks
    at None same h = absurd (let x = h in cc)
    at (Some b) same h = slice_get_within f.blocks from b same

abbrev Comes : Function → ℕ → ℕ → Type 0
Comes f v b = (b ≡ 0) ⊎ (Lacks f v 0 × FromEntry f v b)

comes : (f : Function) (v : ℕ) (passed : List ℕ) (b : ℕ) → IsWalk f (b ∷ passed) → in_passed f v passed ≡ false → Comes f v b
comes f v [] b walk lacks = inl walk
comes f v (from ∷ rest) b walk lacks =
    let parts : Lacks f v from × (in_passed f v rest ≡ false) = or_parts (is_in v (results_in f from)) (in_passed f v rest) lacks in
    at parts.0 (comes f v rest from walk.1 parts.1)
  where
    at : Lacks f v from → Comes f v from → Comes f v b
    at here (inl start) = inr (subst (Lacks f v) start here, once (subst (λ k. IsEdge f k b) start walk.0))
    at here (inr p) = inr (p.0, on p.1 (leaves_block f from b walk.0) here walk.0)

walked : (f : Function) (v : ℕ) {b : ℕ} → Lacks f v 0 → FromEntry f v b → Missing f v b
walked f v start (once e) = record { passed = 0 ∷ []; walk = (e, refl); lacks = or_from (is_in v (results_in f 0)) false start refl }
walked f v start (on {z = z} p l fr e) =
    let before : Missing f v z = walked f v start p in
    record {
      passed = z ∷ before.passed;
      walk = (e, before.walk);
      lacks = or_from (is_in v (results_in f z)) (in_passed f v before.passed) fr before.lacks;
    }

missing_or_none : (f : Function) (v b : ℕ) → Missing f v b ⊎ (Comes f v b → ⊥)
missing_or_none f v b =
    at (cases_eq b 0) (decided_falsity (is_in v (results_in f 0)))
    (decided_passage (IsEdge f) (Lacks f v) (λ x y. decided_truth (is_in y (successors f x))) (λ x. decided_falsity (is_in v (results_in f x))) (length f.blocks) 0 b)
  where
    at : Decided (b ≡ 0) → Decided (Lacks f v 0) → Decided (FromEntry f v b) → Missing f v b ⊎ (Comes f v b → ⊥)
    at (inl start) _ _ = inl (record { passed = []; walk = start; lacks = refl })
    at (inr _) (inl lacks) (inl p) = inl (walked f v lacks p)
    at (inr never) (inr none) _ = inr (λ c. elim c [ inl e ↦ never e | inr p ↦ none p.0 ])
    at (inr never) (inl _) (inr none) = inr (λ c. elim c [ inl e ↦ never e | inr p ↦ none p.1 ])

pub defined_or_missed : (f : Function) (b n v : ℕ) → IsDefinedAt f b n v ⊎ IsMissedAt f b n v
defined_or_missed f b n v = at (cases_Bool (is_parameter f v)) (cases_Bool (is_in v (results_before f b n))) (missing_or_none f v b)
  where
    at : (is_parameter f v ≡ true) ⊎ (is_parameter f v ≡ false) →
        (is_in v (results_before f b n) ≡ true) ⊎ (is_in v (results_before f b n) ≡ false) →
        Missing f v b ⊎ (Comes f v b → ⊥) → IsDefinedAt f b n v ⊎ IsMissedAt f b n v
    at (inl given) _ _ =
        inl (λ passed walk. or_left (defined_over f passed v) (is_in v (results_before f b n)) (or_left (is_parameter f v) (in_passed f v passed) given))
    at (inr _) (inl result) _ = inl (λ passed walk. or_right (defined_over f passed v) (is_in v (results_before f b n)) result)
    at (inr given) (inr result) (inl m) =
        inr (record {
          passed = m.passed;
          walk = m.walk;
          missed =
              both_ways (defined_on f m.passed b n v)
              (or_from (defined_over f m.passed v) (is_in v (results_before f b n)) (or_from (is_parameter f v) (in_passed f v m.passed) given m.lacks) result);
        })
    at (inr _) (inr _) (inr none) =
        inl (λ passed walk. true_from_ne_false (defined_on f passed b n v) (λ e.
        let over : defined_over f passed v ≡ false = (or_parts (defined_over f passed v) (is_in v (results_before f b n)) e).0 in
        none (comes f v passed b walk (or_parts (is_parameter f v) (in_passed f v passed) over).1)))

use_defined : (f : Function) (u : NameUse) → Decided (UseIsDefined f u)
use_defined f u = at (defined_or_missed f u.block u.line u.name)
  where
    at : UseIsDefined f u ⊎ IsMissedAt f u.block u.line u.name → Decided (UseIsDefined f u)
    at (inl defined) = inl defined
    at (inr m) = inr (λ defined. m.missed (defined m.passed m.walk))

-- the refusal for a name that is not defined
pub record Undefined (f : Function) : Type 0 where
  pub name : List ℕ
  pub block : List ℕ
  pub found : UndefinedAt f name block

undefined_at : (f : Function) (k : ℕ) → Typed f → PhisFit f → FailsFirst (UseIsDefined f) (uses_of f) k → Undefined f
undefined_at f k typed fits r = at (slice_get (uses_of f) k) refl r.here
  where
    at : (o : Option NameUse) → slice_get (uses_of f) k ≡ o → IsSomeAnd o (λ u. UseIsDefined f u → ⊥) → Undefined f
    at None e never = absurd never
    at (Some u) e never = elim (defined_or_missed f u.block u.line u.name) [
      | inl defined ↦ absurd (never defined)
      | inr m ↦ record {
        name = shown_value_name f u.name;
        block = shown_block_name f u.block;
        found = record {
          typed = typed;
          phis = fits;
          place = k;
          missed = u;
          before = r.before;
          stands = e;
          walk = m;
          name_shown = refl;
          block_shown = refl;
        };
      }
    ]

pub defined_or_undefined : (f : Function) → Typed f → PhisFit f → Defined f ⊎ Undefined f
defined_or_undefined f typed fits = at (all_or_first (UseIsDefined f) (use_defined f) (uses_of f))
  where
    at : Defined f ⊎ ((k : ℕ) × FailsFirst (UseIsDefined f) (uses_of f) k) → Defined f ⊎ Undefined f
    at (inl defined) = inl defined
    at (inr r) = inr (undefined_at f r.0 typed fits r.1)
