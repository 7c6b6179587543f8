-- The facts of a table that is kept are of their names' types.
use Rattle.std.proofs.Common.{◌≡◌, ℕ, Option, Some, None, List, refl, subst}
use Rattle.std.specs.Prelude.{slice_get}
use Rattle.std.specs.Option.{ForSome, option_map}
use Rattle.std.proofs.lemmas.Option.{same_Some}
use Rattle.vfa_ir.specs.declared.functions.Function.{Function}
use Rattle.vfa_cond.specs.Conditions.{AreFacts}
use Rattle.vfa_cond.specs.States.{AbstractState, Stored, known}
use Rattle.vfa_walk.specs.Kept.{IsStateOf, AreStates, kept_entries}
use Rattle.vfa_walk.specs.TruthLaws.{HasTypedFacts}
use Rattle.vfa_walk.proofs.TruthTypes.{each_of}
use Rattle.vfa_xfer.specs.declared.any_fact.AnyFact.{AnyFact}
use Rattle.vfa_xfer.specs.AnyFacts.{IsAnyFact, fact_type}

pub typed_facts : (f : Function) (list : List (Option (Stored AnyFact))) → AreStates fact_type IsAnyFact f list → HasTypedFacts fact_type IsAnyFact f (kept_entries list)
typed_facts f list states b s e = by (slice_get list b) refl e
  where
    by : (o : Option (Option (Stored AnyFact))) → slice_get list b ≡ o → elim o [ None ↦ None | Some e ↦ option_map known e ] ≡ Some s → AreFacts fact_type IsAnyFact f s
    by None k e = absurd (cc)
    by (Some None) k e = absurd (cc)
    by (Some (Some kept)) k e =
        subst (AreFacts fact_type IsAnyFact f) (same_Some (known kept) s e)
        (each_of (λ (e : Option (Stored AnyFact)). ForSome e (IsStateOf fact_type IsAnyFact f)) list b (Some kept) states k kept refl).facts
