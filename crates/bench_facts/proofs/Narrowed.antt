-- A state that is narrowed is one of the function.
use Rattle.std.proofs.Common.{◌≡◌, Bool, true, false, IsTrue, refl}
use Rattle.std.specs.Bool.{OnTrue}
use Rattle.vfa_cond.specs.Conditions.{AreFacts}
use Rattle.vfa_cond.specs.States.{Stored, known, KeepsNames, KeepsRoom}
use Rattle.vfa_ir.specs.declared.functions.Function.{Function}
use Rattle.vfa_walk.proofs.States.{stays_state}
use Rattle.vfa_walk.specs.Kept.{IsStateOf}
use Rattle.vfa_xfer.specs.AnyFacts.{fact_type, IsAnyFact}
use Rattle.vfa_xfer.specs.declared.any_fact.AnyFact.{AnyFact}

pub stays : (f : Function) (old new : Stored AnyFact) (told : Bool) → IsStateOf fact_type IsAnyFact f old → KeepsRoom old new →
    (IsTrue told → KeepsNames (known old) (known new)) → (IsTrue told → AreFacts fact_type IsAnyFact f (known new)) →
    OnTrue told (IsStateOf fact_type IsAnyFact f new)
stays f old new true state room names facts = stays_state fact_type IsAnyFact f old new state room (names refl) (facts refl)
stays f old new false state room names facts = tt
