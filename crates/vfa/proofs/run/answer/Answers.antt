use Rattle.std.proofs.Common.{◌≡◌, ◌≤◌, ◌⊎◌, inl, inr, ℕ, List, length, ap, subst, arith}
use Rattle.vfa_opt.specs.declared.refusals.Refused.{Refused}
use Rattle.vfa_opt.specs.Module.{input_of}
use Rattle.vfa_opt.specs.Refusals.{IsRefusal as IsModuleRefusal}
use Rattle.vfa.specs.declared.command.Command.{Command}
use Rattle.vfa.specs.declared.refusals.Refusal.{Refusal}
use Rattle.vfa.specs.declared.run.Stop.{Stop}
use Rattle.vfa.specs.Refusals.{most, IsRefusal}
use Rattle.vfa.specs.Stops.{IsInputStop, IsStopOf}
use Rattle.vfa.proofs.EachInput.{input_within}
use Rattle.vfa.proofs.run.answer.Goals as goal

stop_at : (command : Command) (input : List ℕ) (refused : Refused) (stop : Stop) → length input ≤ most →
    (refused ≡ Refused.Memory) ⊎ IsModuleRefusal command.job command.strict input refused → IsStopOf (Refusal.Module refused) stop →
    IsInputStop command input stop
stop_at command input refused Stop.Read limit why is = absurd is
stop_at command input refused (Stop.Refused message) limit (inl memory) is = absurd (is.1 (ap Refusal.Module memory))
stop_at command input refused (Stop.Refused message) limit (inr holds) is =
    (Refusal.Module refused, record { limit = limit; holds = holds }, is.0)
stop_at command input refused Stop.Memory limit why is = tt

-- that memory ran out stands in place of each reason
stop_for : (refused reason : Refused) (stop : Stop) → (refused ≡ reason) ⊎ (refused ≡ Refused.Memory) → IsStopOf (Refusal.Module refused) stop →
    IsStopOf (Refusal.Module reason) stop
stop_for refused reason stop (inl same) is = subst (λ r. IsStopOf (Refusal.Module r) stop) same is
stop_for refused reason Stop.Read (inr memory) is = absurd is
stop_for refused reason (Stop.Refused message) (inr memory) is = absurd (is.1 (ap Refusal.Module memory))
stop_for refused reason Stop.Memory (inr memory) is = tt

-- the refusal of an input within the limit is one of its module
by_module : (command : Command) (input : List ℕ) (P : Refusal → Type 0) → length input ≤ most →
    ((reason : Refused) → IsModuleRefusal command.job command.strict input reason → P (Refusal.Module reason)) →
    (reason : Refusal) → IsRefusal command input reason → P reason
by_module command input P limit each Refusal.TooLong is = absurd (omega (arith, limit, is))
by_module command input P limit each (Refusal.Module reason) is = each reason is.holds

pub returns-in-Err-clause-stop : goal.returns-in-Err-clause-stop
returns-in-Err-clause-stop g c =
    let command = c.args.command.now in
    let limit = input_within c.generated_is_within.ensures command.job c.args.bytes.now c.requires.limit in
    stop_at command (input_of command.job c.args.bytes.now) c.in-Err.refused c.stop_of.result limit c.in-Err.ensures.refused c.stop_of.ensures

pub returns-in-Err-clause-refuses : goal.returns-in-Err-clause-refuses
returns-in-Err-clause-refuses g c =
    let command = c.args.command.now in
    let limit = input_within c.generated_is_within.ensures command.job c.args.bytes.now c.requires.limit in
    by_module command (input_of command.job c.args.bytes.now) _ limit
    (λ reason is. (tt, stop_for c.in-Err.refused reason c.stop_of.result (c.in-Err.ensures.refuses reason is).1 c.stop_of.ensures))
