use Rattle.std.proofs.Common.{◌≡◌, ◌-◌, ℕ, [], length, drop, sym, ◌∙◌, ap, subst, arith}
use Rattle.std.specs.Option.{ForSome}
use Rattle.std.proofs.Math.Seq.{drop-length}
use Rattle.std.proofs.lemmas.List.Elements.{All-nil}
use Rattle.vfa_cond.specs.Conditions.{name_type}
use Rattle.vfa_cond.specs.States.{known, AreGiven, given_fact, is_given}
use Rattle.vfa_cond.proofs.Fitting.{none_of}
use Rattle.vfa_values.specs.Conditions.{IsOf}
use Rattle.vfa_walk.specs.Analysis.{parameter_fact, start_state}
use Rattle.vfa_walk.proofs.Cutting.{parameters_more, none_distinct}
use Rattle.vfa_walk.proofs.States.{state_is}
use Rattle.vfa_walk.proofs.passes.start.Goals as goal

pub of-requires-clause-facts : goal.of-requires-clause-facts
of-requires-clause-facts g c =
    subst (AreGiven (length c.args.f.now.values)) (sym (c.as_slice.ensures.value ∙ c.new-facts.ensures.items)) (record { distinct = none_distinct; range = All-nil _ })

pub params-init : goal.params-init
params-init g c =
    let none : c.as_slice.result.now ≡ [] = c.as_slice.ensures.value ∙ c.new-facts.ensures.items in
    let dead : c.as_slice-2.result.now ≡ [] = c.as_slice-2.ensures.value ∙ c.new-live.ensures.items in
    let nothing = λ (u : ℕ). ap (λ s. s.fact u) c.in_ok-state.ensures.state ∙ ap (λ xs. given_fact xs u) none in
    record {
      facts = λ u. nothing u ∙ sym (ap (λ l. parameter_fact g.V.Values.answers c.args.f.now l u) (drop-length c.as_slice-params.result.now));
      live = λ u. ap (λ s. s.live u) c.in_ok-state.ensures.state ∙ ap (λ xs. is_given xs u) dead;
      state = record {
        names = c.in_ok-state.ensures.names;
        roomy = c.in_ok-state.ensures.room;
        facts = λ u. subst (λ o. ForSome o (IsOf g.V.Values.ty g.V.Values.proper (name_type c.args.f.now u))) (sym (nothing u)) (none_of _);
        within = λ u _. nothing u;
      };
      within = omega arith;
    }

pub params-preserved : goal.params-preserved
params-preserved g c = record {
  facts = parameters_more g.V.Values.answers c.args.f.now c.as_slice-params.result.now (c.params.left - 1) c.params.left c.index-params-left.result (known c.params.state).fact
      (known c.put_parameter.new.state).fact (omega arith) c.index-params-left.is (omega arith) c.params.invariant.facts (λ u. ap (λ s. s.fact u) c.put_parameter.ensures.change);
  live = λ u. ap (λ s. s.live u) c.put_parameter.ensures.change ∙ c.params.invariant.live u;
  state = c.put_parameter.ensures.state;
  within = omega arith;
}

pub returns-clause-start : goal.returns-clause-start
returns-clause-start g c =
    let last : c.params.left ≡ 0 = omega arith in
    state_is (known c.params.state) (start_state g.V.Values.answers c.args.f.now)
    (λ u. c.params.invariant.facts u ∙ (ap (λ k. parameter_fact g.V.Values.answers c.args.f.now (drop k c.as_slice-params.result.now) u) last
    ∙ ap (λ l. parameter_fact g.V.Values.answers c.args.f.now l u) c.as_slice-params.ensures)) c.params.invariant.live
