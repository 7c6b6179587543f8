use Rattle.std.proofs.Common.{◌≡◌, ◌∙◌, ℕ, Bool, Some, None, false, sym, ap, subst}
use Rattle.std.specs.Prelude.{slice_index_or}
use Rattle.vfa_cond.specs.Conditions.{AreFacts}
use Rattle.vfa_cond.specs.States.{known, Stored}
use Rattle.vfa_mean.specs.Moments.{At}
use Rattle.std.proofs.lemmas.Result.{IfOk-weaker}
use Rattle.vfa_ir.specs.declared.functions.Term.{Term}
use Rattle.vfa_ir.specs.Defined.{line_count}
use Rattle.vfa_walk.specs.Kept.{kept_entries}
use Rattle.vfa_xfer.specs.declared.any_fact.AnyFact.{AnyFact}
use Rattle.vfa_xfer.specs.AnyFacts.{fact_type, IsAnyFact}
use Rattle.vfa_rewrite.specs.ByFacts.{fact_state, findings_of}
use Rattle.vfa_rewrite.specs.Making.{first_marks}
use Rattle.vfa_rewrite.specs.Putting.{put_by}
use Rattle.vfa_rewrite.specs.Rewritten.{shrunk, term_left}
use Rattle.vfa_rewrite.specs.Walked.{EndsWith, HasState}
use Rattle.vfa_rewrite.proofs.BlocksPut.{block_term_named, term_met, term_unmet}
use Rattle.vfa_rewrite.proofs.LinesPut.{may_put}
use Rattle.vfa_rewrite.proofs.putting.put_end.Goals as goal

pub state-requires : goal.state-requires
state-requires c =
    let f = c.args.f.now in
    let has : HasState f (fact_state f (kept_entries c.args.table.now) (At c.args.b.0 (line_count f c.args.b.0))) c.in-Some.cursor =
    subst (EndsWith f (fact_state f (kept_entries c.args.table.now) (At c.args.b.0 (line_count f c.args.b.0)))) c.in-Some.is c.requires.end in
    has.reached

pub put_term-requires-clause-may : goal.put_term-requires-clause-may
put_term-requires-clause-may c =
    let f = c.args.f.now in
    let has : HasState f (fact_state f (kept_entries c.args.table.now) (At c.args.b.0 (line_count f c.args.b.0))) c.in-Some.cursor =
    subst (EndsWith f (fact_state f (kept_entries c.args.table.now) (At c.args.b.0 (line_count f c.args.b.0)))) c.in-Some.is c.requires.end in
    may_put f (kept_entries c.args.table.now) c.args.others.now c.requires.ready c.state.result.now
    (subst (λ (s : Stored AnyFact). AreFacts fact_type IsAnyFact f (known s)) (sym c.state.ensures) has.kept.facts)

pub put_term-requires-clause-named : goal.put_term-requires-clause-named
put_term-requires-clause-named c =
    block_term_named c.args.f.now (kept_entries c.args.table.now) c.args.others.now c.requires.ready c.args.b.0 c.args.block.now c.requires.block

pub returns-in-Some : goal.returns-in-Some
returns-in-Some c =
    let f = c.args.f.now in
    let t = kept_entries c.args.table.now in
    let has : HasState f (fact_state f t (At c.args.b.0 (line_count f c.args.b.0))) c.in-Some.cursor =
    subst (EndsWith f (fact_state f t (At c.args.b.0 (line_count f c.args.b.0)))) c.in-Some.is c.requires.end in
    let known_is : fact_state f t (At c.args.b.0 (line_count f c.args.b.0)) ≡ Some (known c.state.result.now) = has.known ∙ ap (λ (s : Stored AnyFact). Some (known s)) (sym c.state.ensures) in
    let left : ℕ → Bool = λ k. slice_index_or c.args.left.now k false in
    IfOk-weaker c.put_term.result (λ (x : Term). x ≡ shrunk (put_by f c.args.others.now (Some (known c.state.result.now))) left c.args.block.now.term)
    (λ (x : Term). (reached : ℕ → Bool) → x ≡ term_left (first_marks f (findings_of f t) reached) c.args.b.0 c.args.block.now)
    (λ x is reached. is ∙ term_met f t c.args.others.now c.requires.ready c.args.b.0 c.args.block.now c.requires.block reached (known c.state.result.now) known_is left c.requires.left)
    c.put_term.ensures

pub returns-in-None : goal.returns-in-None
returns-in-None c = λ reached.
    let f = c.args.f.now in
    let t = kept_entries c.args.table.now in
    let none : fact_state f t (At c.args.b.0 (line_count f c.args.b.0)) ≡ None =
    subst (EndsWith f (fact_state f t (At c.args.b.0 (line_count f c.args.b.0)))) c.in-None.is c.requires.end in
    term_unmet f t c.args.others.now c.requires.ready c.args.b.0 c.args.block.now c.requires.block reached none
