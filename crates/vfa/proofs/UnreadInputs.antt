-- The stops of a job that reads no source.
use Rattle.std.proofs.Common.{◌≡◌, ◌≤◌, ℕ, Result, Ok, Err, List, length, subst, sym, arith}
use Rattle.std.specs.Prelude.{IfErr}
use Rattle.vfa_io.specs.States.{SourceState, Change}
use Rattle.vfa_opt.specs.declared.jobs.Job.{Job}
use Rattle.vfa_opt.specs.Generated.{generated_text}
use Rattle.vfa_opt.specs.Module.{input_of}
use Rattle.vfa.specs.declared.command.Command.{Command}
use Rattle.vfa.specs.declared.refusals.Refusal.{Refusal}
use Rattle.vfa.specs.declared.run.Stop.{Stop}
use Rattle.vfa.specs.Command.{IsInputOf, IsReadBy, ReadsSource}
use Rattle.vfa.specs.Refusals.{most, IsRefusal, IsReadFor}
use Rattle.vfa.specs.Stops.{IsInputStop, IsStop}
use Rattle.vfa.proofs.EachInput.{input_within}

same_input : (job : Job) (state : SourceState) (bytes input : List ℕ) → (ReadsSource job → ⊥) → IsInputOf job state input → input_of job bytes ≡ input
same_input Job.Opt state bytes input unread is = absurd (unread tt)
same_input Job.Facts state bytes input unread is = absurd (unread tt)
same_input (Job.Ask q) state bytes input unread is = absurd (unread tt)
same_input (Job.SelfRun seed) state bytes input unread is = sym is

nothing_read : (job : Job) (source : Change SourceState) → (ReadsSource job → ⊥) → source.now ≡ source.before → IsReadBy job source
nothing_read Job.Opt source unread same = absurd (unread tt)
nothing_read Job.Facts source unread same = absurd (unread tt)
nothing_read (Job.Ask q) source unread same = absurd (unread tt)
nothing_read (Job.SelfRun seed) source unread same = same

read_for : (command : Command) (input : List ℕ) (source : Change SourceState) → length input ≤ most → IsReadBy command.job source →
    (refusal : Refusal) → IsRefusal command input refusal → IsReadFor command refusal source
read_for command input source limit read Refusal.TooLong is = absurd (omega (arith, limit, is))
read_for command input source limit read (Refusal.Module reason) is = read

stop_at_read : (command : Command) (input : List ℕ) (source : Change SourceState) (stop : Stop) → length input ≤ most → IsReadBy command.job source →
    IsInputStop command input stop → IsStop command input source stop
stop_at_read command input source Stop.Read limit read is = tt
stop_at_read command input source (Stop.Refused message) limit read is =
    (is.0, record { holds = is.1; read = read_for command input source limit read is.0 is.1 }, is.2)
stop_at_read command input source Stop.Memory limit read is = tt

pub unread_stop : ((seed : ℕ) → length (generated_text seed) ≤ most) → (command : Command) (source : Change SourceState) (bytes input : List ℕ) →
    length bytes ≤ most → (ReadsSource command.job → ⊥) → source.now ≡ source.before → IsInputOf command.job source.before input →
    (stop : Stop) → IsInputStop command (input_of command.job bytes) stop → IsStop command input source stop
unread_stop generated command source bytes input few unread unchanged is stop at =
    let same : input_of command.job bytes ≡ input = same_input command.job source.before bytes input unread is in
    stop_at_read command input source stop (subst (λ i. length i ≤ most) same (input_within generated command.job bytes few))
    (nothing_read command.job source unread unchanged) (subst (λ i. IsInputStop command i stop) same at)

pub each_error : {A B : Type 0} {P Q : B → Type 0} (result : Result A B) → ((e : B) → P e → Q e) → IfErr result P → IfErr result Q
each_error (Ok a) each holds = tt
each_error (Err e) each holds = each e holds
