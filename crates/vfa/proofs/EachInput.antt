-- Each input is a module that answers the question or is refused, for one reason.
use Rattle.std.proofs.Common.{◌≡◌, ◌≤◌, ◌<◌, ◌⊎◌, inl, inr, ℕ, Bool, List, length, refl, ap, arith}
use Rattle.std.proofs.lemmas.Bool.{cases_lt}
use Rattle.vfa_opt.specs.declared.refusals.Refused.{Refused}
use Rattle.vfa_opt.specs.declared.jobs.Job.{Job}
use Rattle.vfa_opt.specs.Module.{Piece, IsModule, input_of}
use Rattle.vfa_opt.specs.Generated.{generated_text}
use Rattle.vfa_opt.specs.Refusals.{IsRefusal as IsModuleRefusal, IsAnswerable}
use Rattle.vfa.specs.declared.command.Command.{Command}
use Rattle.vfa.specs.declared.refusals.Refusal.{Refusal}
use Rattle.vfa.specs.Refusals.{most, IsRefusal}

abbrev Either : Type 0
Either = (job : Job) (strict : Bool) (input : List ℕ) →
    ((pieces : List Piece) × IsModule strict input pieces × IsAnswerable job pieces) ⊎ ((reason : Refused) × IsModuleRefusal job strict input reason)

-- an input is within the limit where the bytes that are read are
pub input_within : ((seed : ℕ) → length (generated_text seed) ≤ most) → (job : Job) (bytes : List ℕ) → length bytes ≤ most →
    length (input_of job bytes) ≤ most
input_within generated Job.Opt bytes limit = limit
input_within generated Job.Facts bytes limit = limit
input_within generated (Job.Ask q) bytes limit = limit
input_within generated (Job.SelfRun seed) bytes limit = generated seed

module _ (command : Command) (input : List ℕ) where
  abbrev Answered : Type 0
  Answered = ((pieces : List Piece) × IsModule command.strict input pieces × IsAnswerable command.job pieces) ⊎ ((refusal : Refusal) × IsRefusal command input refusal)

  within : length input ≤ most → ((pieces : List Piece) × IsModule command.strict input pieces × IsAnswerable command.job pieces) ⊎ ((reason : Refused) × IsModuleRefusal command.job command.strict input reason) → Answered
  within limit (inl m) = inl m
  within limit (inr r) = inr (Refusal.Module r.0, record { limit = limit; holds = r.1 })

  by_length : Either → (most < length input) ⊎ (length input ≤ most) → Answered
  by_length either (inl more) = inr (Refusal.TooLong, more)
  by_length either (inr limit) = within limit (either command.job command.strict input)

  pub module_or_refused : Either → Answered
  module_or_refused either = by_length either (cases_lt most (length input))

abbrev OneRefusal : Type 0
OneRefusal = (job : Job) (strict : Bool) (input : List ℕ) (a b : Refused) → IsModuleRefusal job strict input a → IsModuleRefusal job strict input b → a ≡ b

pub one_refused : OneRefusal → (command : Command) (input : List ℕ) (a b : Refusal) → IsRefusal command input a → IsRefusal command input b → a ≡ b
one_refused one command input Refusal.TooLong Refusal.TooLong p q = refl
one_refused one command input Refusal.TooLong (Refusal.Module b) p q = let limit = q.limit in absurd (omega (arith, p, limit))
one_refused one command input (Refusal.Module a) Refusal.TooLong p q = let limit = p.limit in absurd (omega (arith, q, limit))
one_refused one command input (Refusal.Module a) (Refusal.Module b) p q = ap Refusal.Module (one command.job command.strict input a b p.holds q.holds)

pub module_not_refused : ((job : Job) (strict : Bool) (input : List ℕ) (pieces : List Piece) (reason : Refused) → IsModule strict input pieces → IsAnswerable job pieces → IsModuleRefusal job strict input reason → ⊥) →
    (command : Command) (input : List ℕ) (pieces : List Piece) (refusal : Refusal) → length input ≤ most → IsModule command.strict input pieces →
    IsAnswerable command.job pieces → IsRefusal command input refusal → ⊥
module_not_refused none command input pieces Refusal.TooLong limit m a is = omega (arith, limit, is)
module_not_refused none command input pieces (Refusal.Module r) limit m a is = none command.job command.strict input pieces r m a is.holds
