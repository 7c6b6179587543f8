-- The words of a command, which stand after the name of the program, and the input that a command works on.
use Rattle.std.specs.Prelude.{ℕ, ◌≡◌, ◌≤◌, ◌==◌, ◌&&◌, ⊤, Bool, true, false, not, nat_lt, List, [], ◌∷◌, length, map, Option, Some, None, codes, String, string_bytes, bytes_eq, if◌then◌else◌}
use Rattle.std.specs.Global.{Global}
use Rattle.std.specs.List.{AllByRecursion, list_all, list_any, position_or_len, before_first, after_first}
use Rattle.std.specs.Str.{byte}
use Rattle.std.specs.Str.Parse.{IsNumeral, digits_value}
use Rattle.vfa_io.specs.States.{SourceState, Change, SourceFailed}
use Rattle.vfa_opt.specs.declared.jobs.Job.{Job}
use Rattle.vfa_opt.specs.declared.questions.Question.{Question}
use Rattle.vfa_opt.specs.Generated.{generated_text}
use Rattle.vfa.specs.declared.command.Command.{Command}

-- the bytes of each word
abbrev pub texts : List (String Global) → List (List ℕ)
texts = map (λ (word : String Global). string_bytes word)

abbrev pub job_word : Job → List ℕ
job_word Job.Opt = codes "opt"
job_word Job.Facts = codes "facts"
job_word (Job.Ask question) = codes "ask"
job_word (Job.SelfRun seed) = codes "self"

-- ---- options and other words

-- a word that begins with `-`, unless it is `-` alone
abbrev pub is_option : List ℕ → Bool
is_option [] = false
is_option (b ∷ []) = false
is_option (b ∷ c ∷ rest) = b == byte "-"

-- the word `--` ends the options
abbrev pub ends_options : List ℕ → Bool
ends_options word = bytes_eq word (codes "--")

-- an option as it is written: its name, and its value where it has one
pub record Written : Type 0 where
  pub name : List ℕ
  pub value : Option (List ℕ)

-- an option in one word: its name, and behind the first `=` its value, as `--workers=4`
abbrev pub is_equals : ℕ → Bool
is_equals b = b == byte "="

abbrev pub has_equals : List ℕ → Bool
has_equals word = nat_lt (position_or_len is_equals word) (length word)

abbrev pub written : List ℕ → Written
written word = record {
  name = before_first is_equals word;
  value = if has_equals word then Some (after_first is_equals word) else None;
}

-- the option that has no value, and those that have one, in the same word or in the next, as `--workers 4`
abbrev pub strict_name : List ℕ
strict_name = codes "--strict"

abbrev pub workers_name : List ℕ
workers_name = codes "--workers"

abbrev pub function_name : List ℕ
function_name = codes "--function"

abbrev pub value_name : List ℕ
value_name = codes "--value"

abbrev pub block_name : List ℕ
block_name = codes "--block"

abbrev pub from_name : List ℕ
from_name = codes "--from"

abbrev pub seed_name : List ℕ
seed_name = codes "--seed"

abbrev pub valued_names : List (List ℕ)
valued_names = workers_name ∷ function_name ∷ value_name ∷ block_name ∷ from_name ∷ seed_name ∷ []

-- the word is one of the names
abbrev pub is_among : List (List ℕ) → List ℕ → Bool
is_among names word = list_any (λ name. bytes_eq name word) names

-- the two words are an option that has a value, and its value, which is no option
abbrev pub are_option_and_value : List ℕ → List ℕ → Bool
are_option_and_value word next = is_among valued_names word && not (is_option next)

-- the options among the words; behind `--` there are none
abbrev pub options : List (List ℕ) → List Written
options [] = []
options (word ∷ []) = if ends_options word then [] else (if is_option word then written word ∷ [] else [])
options (word ∷ next ∷ words) =
    if ends_options word then []
    else (if are_option_and_value word next then record { name = word; value = Some next } ∷ options words
    else (if is_option word then written word ∷ options (next ∷ words) else options (next ∷ words)))

-- the words that are no options and no values of options: all behind `--` are none
abbrev pub positional : List (List ℕ) → List (List ℕ)
positional [] = []
positional (word ∷ []) = if ends_options word then [] else (if is_option word then [] else word ∷ [])
positional (word ∷ next ∷ words) =
    if ends_options word then next ∷ words
    else (if are_option_and_value word next then positional words
    else (if is_option word then positional (next ∷ words) else word ∷ positional (next ∷ words)))

-- ---- commands

-- the values that are written for the options of a name, in order; None for one that has no value
abbrev pub values_of : List ℕ → List Written → List (Option (List ℕ))
values_of name [] = []
values_of name (o ∷ rest) = if bytes_eq o.name name then o.value ∷ values_of name rest else values_of name rest

abbrev pub is_known : Written → Bool
is_known o = is_among (strict_name ∷ valued_names) o.name

-- `--strict` stands once, without a value, or not at all
abbrev pub strict_values : Bool → List (Option (List ℕ))
strict_values false = []
strict_values true = None ∷ []

-- the most digits of a number, the most workers, and the greatest seed
abbrev pub most_digits : ℕ
most_digits = 10

abbrev pub most_workers : ℕ
most_workers = 64

abbrev pub most_seed : ℕ
most_seed = 4294967295

-- one to ten decimal digits that stand for a number from the first to the last
pub record IsNumber (first last : ℕ) (digits : List ℕ) (n : ℕ) : Type 0 where
  pub numeral : IsNumeral 10 digits
  pub few : length digits ≤ most_digits
  pub is : n ≡ digits_value 10 digits
  pub least : first ≤ n
  pub most : n ≤ last

abbrev pub IsWorkers : List ℕ → ℕ → Type 0
IsWorkers = IsNumber 1 most_workers

abbrev pub IsSeed : List ℕ → ℕ → Type 0
IsSeed = IsNumber 0 most_seed

-- the number of workers by the values of `--workers`: it stands once, with a number, or not at all, and then there is one worker
abbrev pub AreWorkers : List (Option (List ℕ)) → ℕ → Type 0
AreWorkers [] n = n ≡ 1
AreWorkers (Some digits ∷ []) n = IsWorkers digits n
AreWorkers _ n = ⊥

-- the seed by the values of `--seed`: it stands once, with a number
abbrev pub AreSeed : List (Option (List ℕ)) → ℕ → Type 0
AreSeed (Some digits ∷ []) n = IsSeed digits n
AreSeed _ n = ⊥

-- the values are a name alone, which has a byte
pub record IsName (values : List (Option (List ℕ))) (name : List ℕ) : Type 0 where
  pub once : values ≡ Some name ∷ []
  pub filled : 1 ≤ length name

-- the values are a name alone, or there are none
abbrev pub IsNameOrNone : List (Option (List ℕ)) → Option (List ℕ) → Type 0
IsNameOrNone values None = values ≡ []
IsNameOrNone values (Some name) = IsName values name

-- what is asked: `--function`, `--value` and `--block` stand once each, and `--from` at most once
pub record IsQuestion (written : List Written) (question : Question) : Type 0 where
  pub function : IsName (values_of function_name written) question.function
  pub value : IsName (values_of value_name written) question.value
  pub block : IsName (values_of block_name written) question.block
  pub from : IsNameOrNone (values_of from_name written) question.from

abbrev pub question_names : List (List ℕ)
question_names = function_name ∷ value_name ∷ block_name ∷ from_name ∷ []

-- no option of these names stands
abbrev pub AreAbsent : List (List ℕ) → List Written → Type 0
AreAbsent names written = AllByRecursion (λ name. values_of name written ≡ []) names

-- The options that are not for each job. A question is for `ask` alone, and a seed for `self` alone, which has no `--strict`. So with
-- `ask` stand `--function f --value x --block b`, which ask for `x` of the function `f` at its block `b`, or these and `--from=a`; and
-- with `self` stands `--seed 7`.
abbrev pub AreDetails : Job → List Written → Type 0
AreDetails Job.Opt written = AreAbsent (seed_name ∷ question_names) written
AreDetails Job.Facts written = AreAbsent (seed_name ∷ question_names) written
AreDetails (Job.Ask question) written = IsQuestion written question × AreAbsent (seed_name ∷ []) written
AreDetails (Job.SelfRun seed) written = AreSeed (values_of seed_name written) seed × AreAbsent (strict_name ∷ question_names) written

-- The words ask for this command. Of the words that are no options there is one, the job; and each option is one of the seven, is for the
-- job, and stands once at most. So `opt --workers 4 --strict`, `--strict opt --workers=4` and `--workers 4 --strict -- opt`
-- are the same command, and `opt -- --strict` is none; `ask --function f --value x --block=b` and `self --seed 7` are commands, and
-- `ask --function f`, `ask --function= --value x --block=b`, `self` and `opt --seed 7` are none.
pub record AreCommand (words : List (List ℕ)) (command : Command) : Type 0 where
  pub job : positional words ≡ job_word command.job ∷ []
  pub known : list_all is_known (options words) ≡ true
  pub strict : values_of strict_name (options words) ≡ strict_values command.strict
  pub workers : AreWorkers (values_of workers_name (options words)) command.workers
  pub details : AreDetails command.job (options words)

-- the command has from one to the most workers
abbrev pub HasWorkers : Command → Type 0
HasWorkers command = (1 ≤ command.workers) × (command.workers ≤ most_workers)

-- What a job works on: the generated text of the seed, and for all others the bytes that the source has left, where it tells them.
abbrev pub IsInputOf : Job → SourceState → List ℕ → Type 0
IsInputOf Job.Opt source input = source.left ≡ Some input
IsInputOf Job.Facts source input = source.left ≡ Some input
IsInputOf (Job.Ask _) source input = source.left ≡ Some input
IsInputOf (Job.SelfRun seed) source input = input ≡ generated_text seed

-- all jobs but `self` read the source
abbrev pub ReadsSource : Job → Type 0
ReadsSource Job.Opt = ⊤
ReadsSource Job.Facts = ⊤
ReadsSource (Job.Ask _) = ⊤
ReadsSource (Job.SelfRun _) = ⊥

-- what a job reads: all that the source has left, and `self` nothing
abbrev pub IsReadBy : Job → Change SourceState → Type 0
IsReadBy Job.Opt source = source.now.left ≡ Some []
IsReadBy Job.Facts source = source.now.left ≡ Some []
IsReadBy (Job.Ask _) source = source.now.left ≡ Some []
IsReadBy (Job.SelfRun _) source = source.now ≡ source.before

-- the source failed in a job that reads it
abbrev pub FailsFor : Job → Change SourceState → Type 0
FailsFor job source = ReadsSource job × SourceFailed source

-- the words ask for the command, and it works on this input
pub record Asks (words : List (List ℕ)) (source : SourceState) (command : Command) (input : List ℕ) : Type 0 where
  pub words_are : AreCommand words command
  pub input_is : IsInputOf command.job source input
