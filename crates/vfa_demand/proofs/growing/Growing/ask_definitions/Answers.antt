use Rattle.std.proofs.Common.{arith, length, subst, sym}
use Rattle.std.specs.Prelude.{All}
use Rattle.vfa_demand.specs.Usable.{IsUsableBlock}
use Rattle.vfa_demand.proofs.Searched.{asked_next}
use Rattle.vfa_demand.proofs.growing.Growing.ask_definitions.Goals as goal

pub ask_definition-requires-clause-usable : goal.ask_definition-requires-clause-usable
ask_definition-requires-clause-usable c =
    subst (λ n. All (IsUsableBlock c.args.f.now n) c.args.f.now.blocks) (sym c.each.invariant.0.same_length) c.requires.usable

pub each-preserved : goal.each-preserved
each-preserved c = (
  asked_next c.args.f.now c.args.definitions.now c.each.definition-index _ _ _ _ _ _ _ c.each-test.true c.each.invariant.0 c.in_ok-ask_definition.ensures,
  omega (arith, c.each.invariant.1, c.in_ok-ask_definition.ensures.room),
)
