use Rattle.std.proofs.Common.{◌≡◌, ℕ, [], length, sym, ◌∙◌, ap, subst}
use Rattle.std.specs.Option.{ForSome}
use Rattle.std.proofs.lemmas.List.Elements.{All-nil}
use Rattle.vfa_cond.specs.Conditions.{name_type}
use Rattle.vfa_cond.specs.States.{AreGiven, given_fact}
use Rattle.vfa_cond.proofs.Fitting.{none_of}
use Rattle.vfa_values.specs.Conditions.{IsOf}
use Rattle.vfa_walk.proofs.Cutting.{none_distinct}
use Rattle.vfa_xfer.specs.AnyFacts.{fact_type, IsAnyFact}
use Rattle.bench_facts.proofs.states.empty.Goals as goal

pub of-requires-clause-facts : goal.of-requires-clause-facts
of-requires-clause-facts c =
    subst (AreGiven (length c.args.f.now.values)) (sym (c.as_slice.ensures.value ∙ c.new-facts.ensures.items)) (record { distinct = none_distinct; range = All-nil _ })

pub returns : goal.returns
returns c =
    let none : c.as_slice.result.now ≡ [] = c.as_slice.ensures.value ∙ c.new-facts.ensures.items in
    let nothing = λ (u : ℕ). ap (λ s. s.fact u) c.in_ok-state.ensures.state ∙ ap (λ xs. given_fact xs u) none in
    record {
      names = c.in_ok-state.ensures.names;
      roomy = c.in_ok-state.ensures.room;
      facts = λ u. subst (λ o. ForSome o (IsOf fact_type IsAnyFact (name_type c.args.f.now u))) (sym (nothing u)) (none_of _);
      within = λ u _. nothing u;
    }
