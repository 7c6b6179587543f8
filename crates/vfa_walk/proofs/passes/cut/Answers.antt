use Rattle.std.proofs.Common.{◌≡◌, ◌≤◌, ◌+◌, ◌-◌, ℕ, ◌&&◌, if◌then◌else◌, None, length, ap, arith}
use Rattle.vfa_cond.specs.States.{known}
use Rattle.vfa_walk.specs.Joining.{kept_names}
use Rattle.vfa_walk.proofs.Cutting.{cut_beyond, cut_dead}
use Rattle.vfa_walk.proofs.Over.{taken_more, taken_all, taken_none, dead_beyond}
use Rattle.vfa_walk.proofs.passes.cut.Goals as goal

pub names-init : goal.names-init
names-init g c =
    let old = known c.args.state.now in
    let e : length c.as_slice-v.result.now ≡ length c.args.f.now.values = ap length c.as_slice-v.ensures in
    record {
      taken = λ names scope.
          taken_none (length c.as_slice-v.result.now) old (kept_names names old)
          (λ u outside. cut_beyond names old u (c.requires.state.within u (omega (arith, e, outside))))
          (λ u outside. cut_dead names old u (dead_beyond g.V.Values.ty g.V.Values.proper c.args.f.now c.args.state.now c.requires.state u (omega (arith, e, outside))));
      state = c.requires.state;
      within = omega (arith, e);
    }

pub names-preserved : goal.names-preserved
names-preserved g c =
    let now = known c.names.state in
    let old = known c.args.state.now in
    let v : ℕ = c.names.v - 1 in
    let next : c.names.v ≡ v + 1 = omega arith in
    record {
      taken = λ names scope.
          let above = c.names.invariant.taken names scope in
          taken_more v c.names.v now old (kept_names names old) (kept_names names now) (known c.cut_name.new.state) next above (c.cut_name.ensures.change names (scope v))
          (ap (λ o. if names v then o else None) (above.facts_rest v (omega (arith, next)))) (ap (λ b. names v && b) (above.live_rest v (omega (arith, next))));
      state = c.cut_name.ensures.state;
      within = let below = c.names.invariant.within in omega (arith, below);
    }

pub returns-clause-change : goal.returns-clause-change
returns-clause-change g c names scope =
    taken_all c.names.v (known c.names.state) (known c.args.state.now) (kept_names names (known c.args.state.now)) (omega arith) (c.names.invariant.taken names scope)
