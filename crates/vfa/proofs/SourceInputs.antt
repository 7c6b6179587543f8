-- What a source gave, where it tells what it has left.
use Rattle.std.proofs.Common.{◌≡◌, ◌≤◌, ◌<◌, ℕ, Option, Some, None, List, length, length-append, ap, arith}
use Rattle.vfa_io.specs.Bytes.{Gave}
use Rattle.vfa_io.specs.States.{SourceState}
use Rattle.vfa_opt.specs.declared.jobs.Job.{Job}
use Rattle.vfa.specs.Command.{IsInputOf, ReadsSource}

none_some : {A : Type 0} (x : A) → ◌≡◌ {A = Option A} None (Some x) → ⊥
none_some x e = cc

-- the input of a job that reads the source is what the source has left
pub left_of : (job : Job) (source : SourceState) (input : List ℕ) → ReadsSource job → IsInputOf job source input → source.left ≡ Some input
left_of Job.Opt source input reads is = is
left_of Job.Facts source input reads is = is
left_of (Job.Ask q) source input reads is = is
left_of (Job.SelfRun seed) source input reads is = absurd reads

-- a source that gave at most a number of bytes did not give more
pub not_more : (before now : Option (List ℕ)) (input : List ℕ) (n : ℕ) → before ≡ Some input → Gave before now (λ given. length given ≤ n) →
    Gave before now (λ given. n < length given) → ⊥
not_more None now input n left few more = absurd (none_some input left)
not_more (Some x) None input n left (given, parts, few) more = absurd parts
not_more (Some x) (Some y) input n left (given, parts, few) (other, others, more) =
    omega (arith, ap length parts, ap length others, length-append given y, length-append other y, few, more)
