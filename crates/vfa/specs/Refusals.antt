-- Why an input is refused, and what is said of it.
use Rattle.std.specs.Prelude.{◌≤◌, ◌<◌, ◌^◌, ℕ, List, ◌++◌, length, codes}
use Rattle.vfa_print.specs.Layout.{line_feed}
use Rattle.vfa_io.specs.States.{SourceState, Change, GaveMore}
use Rattle.vfa_opt.specs.Refusals.{IsRefusal as IsModuleRefusal, refusal_text as module_refusal_text}
use Rattle.vfa.specs.declared.command.Command.{Command}
use Rattle.vfa.specs.declared.refusals.Refusal.{Refusal}
use Rattle.vfa.specs.Command.{IsReadBy}

-- the longest input
abbrev pub most : ℕ
most = 2 ^ 24

-- an input within the limit of which this holds
pub record Within (input : List ℕ) (P : Type 0) : Type 0 where
  pub limit : length input ≤ most
  pub holds : P

-- The command refuses the input for this reason. That memory ran out is no reason of an input.
abbrev pub IsRefusal : Command → List ℕ → Refusal → Type 0
IsRefusal command input Refusal.TooLong = most < length input
IsRefusal command input (Refusal.Module refused) = Within input (IsModuleRefusal command.job command.strict input refused)

-- What was read before the refusal: more than the limit where the input is too long, else all of it.
abbrev pub IsReadFor : Command → Refusal → Change SourceState → Type 0
IsReadFor command Refusal.TooLong source = GaveMore source most
IsReadFor command (Refusal.Module _) source = IsReadBy command.job source

-- the message of a refusal
abbrev pub refusal_text : Refusal → List ℕ
refusal_text Refusal.TooLong = codes "refused: TooLong" ++ line_feed
refusal_text (Refusal.Module refused) = module_refusal_text refused
