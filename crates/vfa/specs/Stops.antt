-- Why there is no text to write.
use Rattle.std.specs.Prelude.{◌≡◌, ⊤, ℕ, List}
use Rattle.vfa_io.specs.States.{SourceState, Change}
use Rattle.vfa.specs.declared.command.Command.{Command}
use Rattle.vfa_opt.specs.declared.refusals.Refused.TheVariants.{Memory as OutOfMemory}
use Rattle.vfa.specs.declared.refusals.Refusal.{Refusal}
use Rattle.vfa.specs.declared.run.Stop.{Stop}
use Rattle.vfa.specs.Refusals.{IsRefusal, IsReadFor, refusal_text}

-- the stop of a refusal: its message, or that memory ran out
abbrev pub IsStopOf : Refusal → Stop → Type 0
IsStopOf refusal Stop.Read = ⊥
IsStopOf refusal (Stop.Refused message) = (message.items ≡ refusal_text refusal) × (refusal ≡ Refusal.Module OutOfMemory → ⊥)
IsStopOf refusal Stop.Memory = ⊤

-- the stop at an input that was read
abbrev pub IsInputStop : Command → List ℕ → Stop → Type 0
IsInputStop command input Stop.Read = ⊤
IsInputStop command input (Stop.Refused message) =
    (refusal : Refusal) × IsRefusal command input refusal × (message.items ≡ refusal_text refusal)
IsInputStop command input Stop.Memory = ⊤

-- a reason to refuse the input, of which this was read
pub record IsRefusedFor (command : Command) (input : List ℕ) (source : Change SourceState) (refusal : Refusal) : Type 0 where
  pub holds : IsRefusal command input refusal
  pub read : IsReadFor command refusal source

-- the stop at an input of which this was read; the source's fault is no matter of the input
abbrev pub IsStop : Command → List ℕ → Change SourceState → Stop → Type 0
IsStop command input source Stop.Read = ⊤
IsStop command input source (Stop.Refused message) =
    (refusal : Refusal) × IsRefusedFor command input source refusal × (message.items ≡ refusal_text refusal)
IsStop command input source Stop.Memory = ⊤

abbrev pub IsReadStop : Stop → Type 0
IsReadStop Stop.Read = ⊤
IsReadStop (Stop.Refused _) = ⊥
IsReadStop Stop.Memory = ⊥
