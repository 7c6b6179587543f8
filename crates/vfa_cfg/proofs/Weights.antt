-- How much of the walk is left: an edge or an end for each visit that has begun, and for each block that is not seen.
use Rattle.std.proofs.Common.{◌≡◌, ℕ, zero, suc, ◌+◌, ◌-◌, ◌<◌, Bool, true, false, cond, List, [], ◌∷◌, ◌++◌, length, set, Option, Some, None, refl, sym, ap, arith}
use Rattle.std.proofs.lemmas.Option.{slice_get_within}
use Rattle.std.specs.List.{slice_get}
use Rattle.std.specs.Option.{option_map}
use Rattle.vfa_ir.specs.declared.operations.BlockId.{BlockId}
use Rattle.vfa_ir.specs.declared.functions.Function.{Function}
use Rattle.vfa_ir.specs.Walks.{successors}
use Rattle.vfa_cfg.specs.declared.search.Visit.{Visit}
use Rattle.vfa_cfg.specs.Search.{Search, is_unseen, begun, goes_on, stepped}

degree : Function → ℕ → ℕ
degree f b = length (successors f b)

abbrev pub visit_weight : Function → Visit → ℕ
visit_weight f v = (length (successors f v.block.0) - v.next) + 1

abbrev pub visits_weight : Function → List Visit → ℕ
visits_weight f [] = 0
visits_weight f (v ∷ rest) = visit_weight f v + visits_weight f rest

abbrev pub mark_weight : Bool → ℕ → ℕ
mark_weight true n = 0
mark_weight false n = n + 1

abbrev pub unseen_weight : Function → ℕ → List Bool → ℕ
unseen_weight f b [] = 0
unseen_weight f b (mark ∷ rest) = mark_weight mark (length (successors f b)) + unseen_weight f (b + 1) rest

abbrev pub weight : Function → Search → ℕ
weight f s = unseen_weight f 0 s.seen + visits_weight f s.visits

visits_weight-push : (f : Function) (vs : List Visit) (v : Visit) → visits_weight f (vs ++ (v ∷ [])) ≡ visits_weight f vs + visit_weight f v
visits_weight-push f [] v = omega arith
visits_weight-push f (w ∷ vs) v = let rest = visits_weight-push f vs v in omega arith

unseen_weight-set : (f : Function) (marks : List Bool) (b k : ℕ) → is_unseen marks k ≡ true →
    unseen_weight f b (set marks k true) + (length (successors f (b + k)) + 1) ≡ unseen_weight f b marks
unseen_weight-set f [] b k h = absurd (cc)
unseen_weight-set f (true ∷ marks) b zero h = absurd (cc)
unseen_weight-set f (false ∷ marks) b zero h =
    let here : b + 0 ≡ b = omega arith in
    let same : length (successors f (b + 0)) ≡ length (successors f b) = ap (λ n. length (successors f n)) here in
    omega arith
unseen_weight-set f (m ∷ marks) b (suc k) h =
    let there : b + 1 + k ≡ b + suc k = omega arith in
    let same : length (successors f (b + 1 + k)) ≡ length (successors f (b + suc k)) = ap (λ n. length (successors f n)) there in
    let rest = unseen_weight-set f marks (b + 1) k h in
    omega arith

comes : (f : Function) (s : Search) (to : BlockId) (b : Bool) → is_unseen s.seen to.0 ≡ b → weight f (cond b (begun s to) s) ≡ weight f s
comes f s to false h = refl
comes f s to true h =
    let left = unseen_weight-set f s.seen 0 to.0 h in
    let here : 0 + to.0 ≡ to.0 = omega arith in
    let same : length (successors f (0 + to.0)) ≡ length (successors f to.0) = ap (λ n. length (successors f n)) here in
    let more = visits_weight-push f s.visits (record { block = to; next = 0 }) in
    omega arith

pub step_is_smaller : (f : Function) (s : Search) (v : Visit) (next : Option BlockId) →
    option_map (λ t. t.0) next ≡ slice_get (successors f v.block.0) v.next →
    weight f (stepped s v next) < weight f (record s { visits = s.visits ++ (v ∷ []) })
step_is_smaller f s v None h = let was = visits_weight-push f s.visits v in omega arith
step_is_smaller f s v (Some t) h =
    let same = comes f (goes_on s v) t (is_unseen s.seen t.0) refl in
    let within = slice_get_within (successors f v.block.0) v.next t.0 (sym h) in
    let was = visits_weight-push f s.visits v in
    let now = visits_weight-push f s.visits (record v { next = v.next + 1 }) in
    omega arith
