-- The form in which a command's words are read, and the command that the texts found in it stand for.
use Rattle.std.specs.Prelude.{◌≡◌, ◌++◌, Bool, true, ⊤, List, [], ◌∷◌, map, fold, Option, Some, None, codes, if◌then◌else◌}
use Rattle.std.specs.List.{AllByRecursion, list_all}
use Rattle.clap.specs.declared.builder.action.ArgAction.TheVariants.{Set, SetTrue}
use Rattle.clap.specs.Simple.{on_top}
use Rattle.clap.specs.declared.parser.matches.ArgMatches.{ArgMatches}
use Rattle.clap.specs.declared.parser.matches.Found.{Found}
use Rattle.clap.specs.Words.{App, Rule, Text, new_app, new_rule, with_rule, first_value, one_text, found_of, rows_of, fault_of, matches_of}
use Rattle.vfa.specs.Command.{Written, AreDetails, is_among, is_known, job_word, options, positional, strict_name, strict_values, values_of}
use Rattle.vfa_opt.specs.declared.jobs.Job.{Job}
use Rattle.vfa_opt.specs.declared.questions.Question.{Question}

-- the job is the one word that is no option; `--strict` has no value, and the other options have one
abbrev pub job_rule : Rule
job_rule = record (new_rule (codes "job")) { action = Some Set }

abbrev pub strict_rule : Rule
strict_rule = record (new_rule (codes "strict")) { long = Some (codes "strict"); action = Some SetTrue }

abbrev pub value_rule : Text → Rule
value_rule name = record (new_rule name) { long = Some name; action = Some Set }

-- the names of the options that have a value, without the hyphens
abbrev pub value_names : List Text
value_names = codes "workers" ∷ codes "function" ∷ codes "value" ∷ codes "block" ∷ codes "from" ∷ codes "seed" ∷ []

-- there is no name of the program among the words, and no help
abbrev pub bare : App
bare = on_top (λ s. record s { no_binary_name = true; disable_help_flag = true }) (new_app (codes "vfa"))

abbrev pub form : App
form = fold with_rule (with_rule (with_rule bare job_rule) strict_rule) (map value_rule value_names)

-- the words fit the form, and these texts are found in them; or they do not
abbrev pub IsReadIn : List Text → Option ArgMatches → Type 0
IsReadIn words None = fault_of form words ≡ [] → ⊥
IsReadIn words (Some found) = (fault_of form words ≡ []) × (rows_of (found_of found) ≡ matches_of form words)

-- ---- what the texts stand for

-- the words that are no options, by the text of the job
abbrev pub job_list : Option Text → List Text
job_list None = []
job_list (Some text) = text ∷ []

-- the values of an option, by the text of its value
abbrev pub value_list : Option Text → List (Option Text)
value_list None = []
value_list (Some text) = Some text ∷ []

abbrev pub flag_text : Bool → Text
flag_text strict = if strict then codes "true" else codes "false"

-- the option `--strict` as it is written, and as it is found
pub record IsFlag (written : List Written) (found : Found) (strict : Bool) : Type 0 where
  pub values : values_of strict_name written ≡ strict_values strict
  pub text : one_text found (codes "strict") ≡ Some (flag_text strict)

-- these texts are found of the options
pub record AreOptionsOf (written : List Written) (found : Found) : Type 0 where
  pub known : list_all is_known written ≡ true
  pub strict : (strict : Bool) × IsFlag written found strict
  pub values : (name : Text) → is_among value_names name ≡ true → values_of (codes "--" ++ name) written ≡ value_list (first_value found name)

-- these texts are found of the words
pub record AreTextsOf (words : List Text) (found : Found) : Type 0 where
  pub job : positional words ≡ job_list (first_value found (codes "job"))
  pub options_are : AreOptionsOf (options words) found

-- the names of the options that make a question, without the hyphens
abbrev pub question_ids : List Text
question_ids = codes "function" ∷ codes "value" ∷ codes "block" ∷ codes "from" ∷ []

-- nothing is found of these options
abbrev pub AreNotFound : List Text → Found → Type 0
AreNotFound ids found = AllByRecursion (λ id. first_value found id ≡ None) ids

-- the job has no options of its own
abbrev pub HasNoDetails : Job → Type 0
HasNoDetails Job.Opt = ⊤
HasNoDetails Job.Facts = ⊤
HasNoDetails (Job.Ask question) = ⊥
HasNoDetails (Job.SelfRun seed) = ⊥

-- the word and the options are for this job
pub record IsJobOf (word : Text) (written : List Written) (job : Job) : Type 0 where
  pub named : word ≡ job_word job
  pub details : AreDetails job written

abbrev pub question_of : Text → Text → Text → Option Text → Question
question_of function value block from = record { function = function; value = value; block = block; from = from }
