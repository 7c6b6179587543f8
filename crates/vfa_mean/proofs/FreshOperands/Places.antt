-- The places of moments lie on walks, and what a step leaves as it was.
use Rattle.std.proofs.Common.{◌≡◌, ℕ, suc, Bool, true, false, nat_eq, if◌then◌else◌, List, [], ◌∷◌, map, length, Option, Some, None, refl, sym, ap, ◌∙◌, inl, inr, ne_eqb}
use Rattle.vfa_ir.specs.declared.operations.BlockId.{BlockId}
use Rattle.vfa_ir.specs.declared.operations.ValueId.{ValueId}
use Rattle.vfa_ir.specs.declared.functions.Function.{Function}
use Rattle.vfa_ir.specs.declared.functions.Phi.{Phi}
use Rattle.vfa_ir.specs.declared.functions.Term.{Term}
use Rattle.vfa_ir.specs.PhisFit.{targets}
use Rattle.vfa_ir.specs.Walks.{IsEdge, IsReached, is_in}
use Rattle.vfa_mean.specs.declared.value.Val.{Val}
use Rattle.vfa_mean.specs.Values.{Env, operand_value}
use Rattle.vfa_mean.specs.Moments.{Place, Into, At, Moment, starts, reads, does, calls, leaves}
use Rattle.vfa_mean.specs.Outcomes.{with_value, with_result, after_phis, entry_for, Exit, Invalid, Return, Edge, exit_of, branch_exit, switch_exit, case_exit}
use Rattle.vfa_mean.proofs.FreshOperands.Definitions.{first_or_rest, in_first, in_rest}

-- ---- edges

abbrev target_of : Exit → ℕ → ℕ
target_of (Edge k target) other = target
target_of Invalid other = other
target_of (Return v) other = other

same_target : (k l to target : ℕ) → Edge k to ≡ Edge l target → target ≡ to
same_target k l to target e = sym (ap (λ x. target_of x to) e)

abbrev is_edge : Exit → Bool
is_edge (Edge k target) = true
is_edge Invalid = false
is_edge (Return v) = false

not_edge : {X : Type 0} (x : Exit) (k target : ℕ) → is_edge x ≡ false → x ≡ Edge k target → X
not_edge x k target h e = absurd (let f = ap is_edge e in cc)

abbrev places : List BlockId → List ℕ
places blocks = map (λ t. t.0) blocks

branch_target : (n taken fallen k target : ℕ) → branch_exit (Val.Number n) taken fallen ≡ Edge k target →
    is_in target (taken ∷ (fallen ∷ [])) ≡ true
branch_target n taken fallen k target = by (nat_eq n 0)
  where
    by : (t : Bool) → (if t then Edge 1 fallen else Edge 0 taken) ≡ Edge k target → is_in target (taken ∷ (fallen ∷ [])) ≡ true
    by true e = in_rest target taken (fallen ∷ []) (in_first target fallen [] (same_target 1 k fallen target e))
    by false e = in_first target taken (fallen ∷ []) (same_target 0 k taken target e)

case_target : (x other : ℕ) (cases : List (ℕ × BlockId)) (n k target : ℕ) → case_exit x other cases n ≡ Edge k target →
    is_in target (other ∷ places (map (λ c. c.1) cases)) ≡ true
case_target x other [] n k target e = in_first target other [] (same_target 0 k other target e)
case_target x other (c ∷ rest) n k target e = by (nat_eq c.0 x) e (case_target x other rest (suc n) k target)
  where
    later : List ℕ
    later = places (map (λ c. c.1) rest)

    skip : is_in target (other ∷ later) ≡ true → is_in target (other ∷ (c.1.0 ∷ later)) ≡ true
    skip h = elim (first_or_rest target other later h) [
      | inl s ↦ in_first target other (c.1.0 ∷ later) s
      | inr t ↦ in_rest target other (c.1.0 ∷ later) (in_rest target c.1.0 later t)
    ]

    by : (t : Bool) → (if t then Edge n c.1.0 else case_exit x other rest (suc n)) ≡ Edge k target →
        (case_exit x other rest (suc n) ≡ Edge k target → is_in target (other ∷ later) ≡ true) → is_in target (other ∷ (c.1.0 ∷ later)) ≡ true
    by true d h = in_rest target other (c.1.0 ∷ later) (in_first target c.1.0 later (same_target n k c.1.0 target d))
    by false d h = skip (h d)

exit_target : (term : Term) (env : Env) (k target : ℕ) → exit_of term env ≡ Edge k target → is_in target (places (targets term)) ≡ true
exit_target (Term.Ret width a) env k target e = not_edge (Return (operand_value env a)) k target refl e
exit_target (Term.Br to) env k target e = in_first target to.0 [] (same_target 0 k to.0 target e)
exit_target (Term.CondBr c taken fallen) env k target e = by (operand_value env c) e
  where
    by : (v : Val) → branch_exit v taken.0 fallen.0 ≡ Edge k target → is_in target (taken.0 ∷ (fallen.0 ∷ [])) ≡ true
    by (Val.Number n) d = branch_target n taken.0 fallen.0 k target d
    by Val.Poison d = not_edge Invalid k target refl d
    by (Val.Pair n o) d = not_edge Invalid k target refl d
exit_target (Term.Switch width on other cases) env k target e = by (operand_value env on) e
  where
    by : (v : Val) → switch_exit v other.0 cases ≡ Edge k target → is_in target (other.0 ∷ places (map (λ c. c.1) cases)) ≡ true
    by (Val.Number n) d = case_target n other.0 cases 1 k target d
    by Val.Poison d = not_edge Invalid k target refl d
    by (Val.Pair n o) d = not_edge Invalid k target refl d
exit_target Term.Unreachable env k target e = not_edge Invalid k target refl e

-- ---- places on walks

-- a walk comes to the place
abbrev pub IsOnWalk : Function → Place → Type 0
IsOnWalk f (Into None b) = b ≡ 0
IsOnWalk f (Into (Some p) b) = IsEdge f p b × IsReached f p
IsOnWalk f (At b i) = IsReached f b

pub entered : (f : Function) (p : Option ℕ) (b : ℕ) → IsOnWalk f (Into p b) → IsReached f b
entered f None b h = record { passed = []; walk = h }
entered f (Some p) b h = record { passed = p ∷ h.1.passed; walk = (h.0, h.1.walk) }

pub moment_on_walk : (f : Function) (place : Place) (env : Env) → Moment f place env → IsOnWalk f place
moment_on_walk f place env (starts args fit kept) = refl
moment_on_walk f place env (reads p b block old m there) = entered f p b (moment_on_walk f (Into p b) old m)
moment_on_walk f place env (does b block i inst old v m line operation gives) = moment_on_walk f (At b i) old m
moment_on_walk f place env (calls b block i inst old v width at call answer m line is of) = moment_on_walk f (At b i) old m
moment_on_walk f place env (leaves b block old k target m there exit) = (
  ap (λ o. is_in target (elim o [ None ↦ [] | Some block ↦ map (λ t. t.0) (targets block.term) ])) there ∙ exit_target block.term old k target exit,
  moment_on_walk f (At b (length block.insts)) old m,
)

-- ---- what a step leaves as it was

other_name : (env : Env) (name : ℕ) (v : Val) (x : ℕ) → (x ≡ name → ⊥) → with_value env name v x ≡ env x
other_name env name v x d = ap (λ t. if t then v else env x) (ne_eqb x name d)

pub result_keeps : (env : Env) (result : Option ValueId) (v : Val) (x : ℕ) → ((name : ValueId) → result ≡ Some name → x ≡ name.0 → ⊥) →
    with_result env result v x ≡ env x
result_keeps env None v x d = refl
result_keeps env (Some name) v x d = other_name env name.0 v x (d name refl)

pub phis_keep : (p : Option ℕ) (phis : List Phi) (before env : Env) (x : ℕ) → (is_in x (map (λ (phi : Phi). phi.result.0) phis) ≡ true → ⊥) →
    after_phis p phis before env x ≡ env x
phis_keep p [] before env x d = refl
phis_keep p (phi ∷ rest) before env x d =
    let names = map (λ (phi : Phi). phi.result.0) rest in
    let value = operand_value before (entry_for p phi.entries) in
    phis_keep p rest before (with_value env phi.result.0 value) x (λ t. d (in_rest x phi.result.0 names t))
    ∙ other_name env phi.result.0 value x (λ e. d (in_first x phi.result.0 names e))
