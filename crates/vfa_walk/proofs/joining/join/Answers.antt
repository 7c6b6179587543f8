use Rattle.std.proofs.Common.{ap, ◌&&◌, arith, length, ◌≤◌, ◌≡◌, ◌+◌, ◌-◌, ℕ}
use Rattle.vfa_cond.specs.States.{known}
use Rattle.vfa_walk.specs.Joining.{joined, of_both}
use Rattle.vfa_walk.proofs.Over.{taken_more, taken_all, taken_none, covers_beyond, live_beyond}
use Rattle.vfa_walk.proofs.joining.join.Goals as goal

pub names-init : goal.names-init
names-init g c =
    let ty = g.V.Values.ty in
    let proper = g.V.Values.proper in
    let f = c.args.f.now in
    let answers = g.V.Values.answers in
    let old = known c.args.state.now in
    let other = known c.args.other.now in
    let e : length c.as_slice-v.result.now ≡ length f.values = ap length c.as_slice-v.ensures in
    record {
      taken = taken_none (length c.as_slice-v.result.now) old (joined answers old other)
          (λ u outside. covers_beyond ty proper f c.args.state.now c.requires.state (λ _. answers.join) other u (omega (arith, e, outside)))
          (λ u outside. live_beyond ty proper f c.args.state.now c.requires.state (λ _. answers.join) other u (omega (arith, e, outside)));
      state = c.requires.state;
      within = omega (arith, e);
    }

pub names-preserved : goal.names-preserved
names-preserved g c =
    let cover = g.V.Values.answers.join in
    let now = known c.names.state in
    let old = known c.args.state.now in
    let other = known c.args.other.now in
    let v : ℕ = c.names.v - 1 in
    let next : c.names.v ≡ v + 1 = omega arith in
    record {
      taken = taken_more v c.names.v now old (joined g.V.Values.answers old other) (joined g.V.Values.answers now other) (known c.join_name.new.state) next
          c.names.invariant.taken c.join_name.ensures.change
          (ap (λ o. of_both cover o (other.fact v)) (c.names.invariant.taken.facts_rest v (omega (arith, next))))
          (ap (λ b. b && other.live v) (c.names.invariant.taken.live_rest v (omega (arith, next))));
      state = c.join_name.ensures.state;
      within = let below = c.names.invariant.within in omega (arith, below);
    }

pub returns-clause-change : goal.returns-clause-change
returns-clause-change g c =
    taken_all c.names.v (known c.names.state) (known c.args.state.now) (joined g.V.Values.answers (known c.args.state.now) (known c.args.other.now)) (omega arith) c.names.invariant.taken
