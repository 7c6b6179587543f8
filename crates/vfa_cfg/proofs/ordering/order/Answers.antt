use Rattle.std.proofs.Common.{◌≡◌, ◌<◌, ◌++◌, ◌∷◌, [], List, length, replicate, false, sym, subst, Option, ap, ◌∙◌, reverse}
use Rattle.std.specs.Option.{option_map}
use Rattle.std.specs.List.{slice_get}
use Rattle.vfa_ir.specs.declared.operations.BlockId.{BlockId}
use Rattle.vfa_ir.specs.declared.functions.Block.{Block}
use Rattle.vfa_ir.specs.declared.functions.Function.{Function}
use Rattle.vfa_ir.specs.Walks.{successors}
use Rattle.vfa_cfg.specs.declared.search.Visit.{Visit}
use Rattle.vfa_cfg.specs.Order.{IsOrder}
use Rattle.vfa_cfg.specs.Search.{Search, come_to, stepped}
use Rattle.vfa_cfg.proofs.Walking.{IsOnWay, come_to_is_on_way, starts_on_way, step_is_on_way, ended_is_order}
use Rattle.vfa_cfg.proofs.Weights.{weight, step_is_smaller}
use Rattle.vfa_cfg.proofs.ordering.order.Goals as goal

start : (f : Function) (entries : List Block) (s t : Search) → entries ≡ f.blocks →
    s ≡ record { seen = replicate (length entries) false; visits = []; ended = [] } →
    t ≡ come_to s (record { 0 = 0 }) → IsOnWay f t
start f entries s t b e h =
    let entry : BlockId = record { 0 = 0 } in
    let first : Search = record { seen = replicate (length f.blocks) false; visits = []; ended = [] } in
    let same : s ≡ first = subst (λ bs. s ≡ (let x : Search = record { seen = replicate (length bs) false; visits = []; ended = [] } in x)) b e in
    subst (IsOnWay f) (sym h) (subst (λ x. IsOnWay f (come_to x entry)) (sym same) (come_to_is_on_way f first entry (starts_on_way f)))

step : (f : Function) (old mid new : Search) (v : Visit) (next : Option BlockId) → old ≡ record mid { visits = mid.visits ++ (v ∷ []) } →
    new ≡ stepped mid v next → option_map (λ t. t.0) next ≡ slice_get (successors f v.block.0) v.next → IsOnWay f old → IsOnWay f new
step f old mid new v next o n t w = subst (IsOnWay f) (sym n) (step_is_on_way f mid v next t (subst (IsOnWay f) o w))

less : (f : Function) (old mid new : Search) (v : Visit) (next : Option BlockId) → old ≡ record mid { visits = mid.visits ++ (v ∷ []) } →
    new ≡ stepped mid v next → option_map (λ t. t.0) next ≡ slice_get (successors f v.block.0) v.next → weight f new < weight f old
less f old mid new v next o n t =
    subst (λ x. weight f x < weight f old) (sym n)
    (subst (λ x. weight f (stepped mid v next) < weight f x) (sym o) (step_is_smaller f mid v next t))

pub visits-init : goal.visits-init
visits-init c = start c.args.f.now _ _ _ c.as_slice.ensures c.in_ok-walk.ensures c.in_ok-come_to.ensures

pub visits-smaller : goal.visits-smaller
visits-smaller c = less c.args.f.now _ _ _ _ _ c.in-Some.ensures.taken c.in_ok-step.ensures c.successor-next.ensures.target

pub visits-preserved : goal.visits-preserved
visits-preserved c = step c.args.f.now _ _ _ _ _ c.in-Some.ensures.taken c.in_ok-step.ensures c.successor-next.ensures.target c.visits.invariant

last : (f : Function) (old mid : Search) (order : List BlockId) → old ≡ record mid { visits = mid.visits ++ [] } → old.visits ≡ [] →
    order ≡ reverse mid.ended → IsOnWay f old → IsOrder f order
last f old mid order o n e w =
    subst (IsOrder f) (ap (λ (s : Search). reverse s.ended) o ∙ sym e) (ended_is_order f old n w)

pub returns : goal.returns
returns c = last c.args.f.now _ _ _ c.in_default.ensures.taken c.in_default.ensures.none c.last_ended_first.ensures c.visits.invariant
