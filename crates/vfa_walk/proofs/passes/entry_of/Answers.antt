use Rattle.std.proofs.Common.{Some, sym, ◌∙◌, ap, eq-eqb, nat_eq, inl, inr}
use Rattle.vfa_mean.specs.Outcomes.{first_block}
use Rattle.vfa_cfg.proofs.Members.{false_is_no_truth}
use Rattle.vfa_walk.specs.Kept.{kept_entries}
use Rattle.vfa_walk.proofs.Handed.{kept_others, taken_states}
use Rattle.vfa_walk.proofs.PassEquations.{if_yes}
use Rattle.vfa_walk.proofs.passes.entry_of.Goals as goal

pub returns-then-b-eq0-clause-entry : goal.returns-then-b-eq0-clause-entry
returns-then-b-eq0-clause-entry g c names scope =
    ap Some c.in_ok-start.ensures.start ∙ sym (if_yes (nat_eq c.args.b.0 first_block) _ _ (eq-eqb c.args.b.0 0 c.if-b-eq0.true))

pub returns-clause-others : goal.returns-clause-others
returns-clause-others g c to (inl apart) = ap (λ l. kept_entries l to) c.met.ensures.left ∙ kept_others c.args.got.now c.args.b.0 to apart
returns-clause-others g c to (inr head) = absurd (false_is_no_truth {X = ⊥} head (sym c.is_head.ensures ∙ c.if-is_head.false))

pub returns-clause-states : goal.returns-clause-states
returns-clause-states g c =
    taken_states g.V.Values.ty g.V.Values.proper c.args.f.now c.args.got.now c.met.new.got c.args.b.0 c.requires.states c.met.ensures.left
