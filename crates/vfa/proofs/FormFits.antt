-- What the form finds in the words of a command is what they ask for.
use Rattle.std.proofs.Common.{◌≡◌, ◌∙◌, ◌||◌, ◌&&◌, ◌++◌, ◌∷◌, [], List, ℕ, Bool, true, false, Option, Some, None, map, option_map, unwrap_or, if◌then◌else◌, codes, refl, sym, ap, ap₂, subst}
use Rattle.std.specs.Prelude.{String, fold, not, slice_get, option_and_then, is_some}
use Rattle.std.specs.List.{list_any}
use Rattle.std.specs.Global.{Global}
use Rattle.std.specs.Str.{bytes_eq}
use Rattle.std.proofs.lemmas.Str.{IsUtf8-string_bytes}
use Rattle.clap.specs.Faults.{built_fault, check_fault, defaults_fault, entered_fault, walk_fault}
use Rattle.clap.specs.Kinds.{Kinds, check_kinds, or_else}
use Rattle.clap.specs.Simple.{entered, names_of}
use Rattle.clap.specs.Takes.{is_given}
use Rattle.clap.specs.Walk.{Row, Text, finished, has_row, more_values, nothing_held, row_text, rows_after, with_default, with_values}
use Rattle.clap.specs.Words.{fault_of, first_of, matches_of, one_of, rows_of}
use Rattle.clap.proofs.WalkLemmas.{first_value-rows, one_text-rows}
use Rattle.clap.specs.declared.parser.matches.Found.{Found}
use Rattle.clap.specs.declared.builder.value_parser.Reading.TheVariants as reading
use Rattle.clap.specs.declared.parser.matches.ValueSource.TheVariants.{DefaultValue}
use Rattle.vfa.specs.Command.{Written, AreCommand, AreDetails, AreSeed, AreWorkers, IsNameOrNone, block_name, from_name, function_name, is_among, job_word, options, positional, seed_name, strict_name, strict_values, texts, value_name, values_of, workers_name}
use Rattle.vfa.specs.Form.{AreTextsOf, flag_text, form, job_list, value_list}
use Rattle.vfa.specs.declared.command.Command.{Command}
use Rattle.vfa_opt.specs.declared.jobs.Job.{Job}
use Rattle.vfa.proofs.FormRows.{Rows, absent, form_built, has_look, hyphened, job, look, look_new, look_other, names, not_job, not_strict, of_member, row, row_of_option, rules, shape, strict, valued, whole, written_of}
use Rattle.vfa.proofs.FormWalk.{first_of_two, neither, second_of_two, settled}
use Rattle.vfa.proofs.FormVerdict.{AllUtf8, AreOptions, Fits, Verdict, fits, fails, begun, end, fault, values_none, values_some, verdict}

-- the words of a program are UTF-8
pub all_utf8 : (words : List (String Global)) → AllUtf8 (texts words)
all_utf8 [] = tt
all_utf8 (word ∷ words) = (IsUtf8-string_bytes word, all_utf8 words)

-- ---- faults of the whole parse

default_free : (a : Kinds) (t : Bool) → (if t || true then [] else a) ≡ []
default_free a true = refl
default_free a false = refl

flag_free : (t : Bool) → ◌≡◌ {A = Kinds} (if t || false then [] else []) []
flag_free true = refl
flag_free false = refl

valued_free : (ns : List Text) (rows : List Row) → defaults_fault rows (map valued ns) ≡ []
unfolding defaults_fault
valued_free [] rows = refl
valued_free (n ∷ ns) rows = neither _ _ (default_free _ (has_row n rows)) (valued_free ns (with_default rows (valued n)))

defaults_free : (rows : List Row) → defaults_fault rows rules ≡ []
unfolding defaults_fault
defaults_free rows =
    neither _ _ (default_free _ (has_row (codes "job") rows))
    (neither _ _ (flag_free (has_row (codes "strict") (with_default rows job))) (valued_free names (with_default (with_default rows job) strict)))

none_required : (ns : List Text) (rows : List Row) → list_any (λ a. a.required && not (is_given a.id rows)) (map valued ns) ≡ false
none_required [] rows = refl
none_required (n ∷ ns) rows = none_required ns rows

module _ (words : List Text) where
  abbrev ended : List Row
  ended = settled (end begun words).held.rows (end begun words).held.pending

  abbrev below : Kinds
  below = entered_fault whole (end begun words).stopped

  abbrev last_rows : List Row
  last_rows = finished rules (end begun words).held

  abbrev later : Kinds
  later = or_else (defaults_fault ended rules) (check_fault shape last_rows (is_some (entered whole (end begun words).stopped)))

  fault_is : fault_of form words ≡ built_fault whole nothing_held words
  fault_is = ap (λ a. built_fault a nothing_held words) form_built

  fault_within : fault_of form words ≡ [] → fault begun words ≡ []
  fault_within e =
      let free : built_fault whole nothing_held words ≡ [] = sym fault_is ∙ e in
      neither _ _ (first_of_two (walk_fault shape [] begun words) _ free)
      (first_of_two _ _ (second_of_two below _ (second_of_two (walk_fault shape [] begun words) _ free)))

  module _ (jobs : List Text) (written : List Written) (f : Fits begun words jobs written) where
    free_of_all : built_fault whole nothing_held words ≡ []
    free_of_all =
        neither (walk_fault shape [] begun words) _ f.free
        (neither below _ (ap (entered_fault whole) f.whole)
        (neither _ later f.quiet
        (neither _ _ (defaults_free ended)
        (ap (λ stop. check_fault shape last_rows (is_some (entered whole stop))) f.whole ∙ ap (check_kinds false false) (none_required names last_rows)))))

    free : fault_of form words ≡ []
    free = fault_is ∙ free_of_all

-- ---- what is found

-- an argument that has no default
same_rows : (t : Bool) (rows : List Row) → (if t then rows else rows) ≡ rows
same_rows true rows = refl
same_rows false rows = refl

valued_rows : (ns : List Text) (rows : List Row) → fold with_default rows (map valued ns) ≡ rows
valued_rows [] rows = refl
valued_rows (n ∷ ns) rows = ap (λ rs. fold with_default rs (map valued ns)) (same_rows (has_row n rows) rows) ∙ valued_rows ns rows

-- only `--strict` has one
only_flag : (words : List Text) → matches_of form words ≡ with_default (ended words) strict
only_flag words =
    ap (λ a. rows_after a.top.rules (names_of a) words) form_built
    ∙ valued_rows names (with_default (with_default (ended words) job) strict)
    ∙ ap (λ rows. with_default rows strict) (same_rows (has_row (codes "job") (ended words)) (ended words))

abbrev flag_row : Row
flag_row = record { id = codes "strict"; values = codes "false" ∷ []; count = None; source = Some DefaultValue; reading = reading.AsWritten }

abbrev with_flag_by : List Row → Bool → List Row
with_flag_by rows t = if t then rows else with_values (codes "strict") reading.AsWritten DefaultValue (codes "false" ∷ []) rows

flag_kept : (rows : List Row) (r : Row) → look (codes "strict") rows ≡ Some r → with_default rows strict ≡ rows
flag_kept rows r e = ap (with_flag_by rows) (has_look (codes "strict") rows ∙ ap is_some e)

flag_added : (rows : List Row) → look (codes "strict") rows ≡ None → with_default rows strict ≡ rows ++ flag_row ∷ []
flag_added rows e =
    ap (with_flag_by rows) (has_look (codes "strict") rows ∙ ap is_some e)
    ∙ absent (codes "strict") (more_values DefaultValue (codes "false" ∷ [])) (flag_row ∷ []) rows e

-- the flag as it is written, and as it is found
abbrev IsFlagOf : List Written → List Row → Bool → Type 0
IsFlagOf written rows b = (values_of strict_name written ≡ strict_values b) × (one_of (codes "strict") rows ≡ Some (flag_text b))

-- the texts of what is written
record Texts (j : Option Text) (written : List Written) (rows : List Row) : Type 0 where
  job : first_of (codes "job") rows ≡ j
  strict : (b : Bool) × IsFlagOf written rows b
  values : (name : Text) → is_among names name ≡ true → values_of (hyphened name) written ≡ value_list (first_of name rows)

first_text : (o : Option Text) → option_and_then (λ (r : Row). slice_get r.values 0) (option_map (row (codes "job")) o) ≡ o
first_text None = refl
first_text (Some text) = refl

-- a flag that stands has no value, and an option that stands with a value has it alone
valueless : (b : Bool) (v : Option Text) (rest : List (Option Text)) → v ∷ rest ≡ strict_values b → (v ≡ None) × (b ≡ true)
valueless true v rest e = (let same : v ≡ None = cc in same, refl)
valueless false v rest e = cc

one_value : (w v : Option Text) (rest : List (Option Text)) → v ∷ rest ≡ value_list w → (text : Text) × (v ≡ Some text) × (rest ≡ [])
one_value None v rest e = cc
one_value (Some text) v rest e = (text, let same : v ≡ Some text = cc in same, let none : rest ≡ [] = cc in none)

-- the values by a row
abbrev text_in : Option Row → List (Option Text)
text_in r = value_list (option_and_then (λ (r : Row). slice_get r.values 0) r)

module _ (j : Option Text) (written : List Written) (rows : List Row) (h : Rows j written rows) (are : AreOptions written) where
  -- where the flag is not written, and where it is
  flag_row_of : (o : Option Written) → written_of (codes "strict") written ≡ o → look (codes "strict") rows ≡ option_map (row_of_option (codes "strict")) o
  flag_row_of o e = h.option (codes "strict") refl ∙ ap (option_map (row_of_option (codes "strict"))) e

  module _ (found : List Row) (kept : (id : Text) → bytes_eq (codes "strict") id ≡ false → look id found ≡ look id rows) where
    found_value : (name : Text) → is_among names name ≡ true → bytes_eq (codes "job") name ≡ false → values_of (hyphened name) written ≡ value_list (first_of name found)
    found_value name m other = go (written_of name written) refl
      where
        looks : (o : Option Written) → written_of name written ≡ o → look name found ≡ option_map (row_of_option name) o
        looks o e = kept name (not_strict name m) ∙ h.option name other ∙ ap (option_map (row_of_option name)) e

        go : (o : Option Written) → written_of name written ≡ o → values_of (hyphened name) written ≡ value_list (first_of name found)
        go None e = values_none name written e ∙ sym (ap text_in (looks None e))
        go (Some o) e =
            let begins = values_some name written o e in
            let v = are.values name m in
            let one = one_value v.0 o.value begins.0 (sym begins.1 ∙ v.1) in
            begins.1 ∙ ap₂ (λ (v : Option Text) vs. v ∷ vs) one.1 one.2
            ∙ ap (λ (v : Option Text). value_list (Some (unwrap_or v (codes "true")))) (sym one.1)
            ∙ sym (ap text_in (looks (Some o) e))

    as_texts : (b : Bool) → IsFlagOf written found b → Texts j written found
    as_texts b flag = record {
      job = ap (option_and_then (λ (r : Row). slice_get r.values 0)) (kept (codes "job") refl ∙ h.job) ∙ first_text j;
      strict = (b, flag);
      values = λ name m. found_value name m (not_job name m);
    }

  with_flag : Texts j written (with_default rows strict)
  with_flag = go (written_of (codes "strict") written) refl
    where
      go : (o : Option Written) → written_of (codes "strict") written ≡ o → Texts j written (with_default rows strict)
      go None e =
          let none : look (codes "strict") rows ≡ None = flag_row_of None e in
          subst (Texts j written) (sym (flag_added rows none))
          (as_texts (rows ++ flag_row ∷ []) (λ id other. look_other id rows flag_row other) false
          (values_none (codes "strict") written e, ap (option_and_then row_text) (look_new (codes "strict") rows flag_row refl none)))
      go (Some o) e =
          let begins = values_some (codes "strict") written o e in
          let alone = valueless are.strict.0 o.value begins.0 (sym begins.1 ∙ are.strict.1) in
          subst (Texts j written) (sym (flag_kept rows _ (flag_row_of (Some o) e)))
          (as_texts rows (λ id other. refl) true (
            are.strict.1 ∙ ap strict_values alone.1,
            ap (option_and_then row_text) (flag_row_of (Some o) e) ∙ ap (λ (v : Option Text). Some (unwrap_or v (codes "true"))) alone.0,
          ))

-- ---- commands

-- there is no value, or one
abbrev HasValue : List (Option Text) → Type 0
HasValue values = (v : Option Text) × (values ≡ value_list v)

workers_value : (values : List (Option Text)) (n : ℕ) → AreWorkers values n → HasValue values
workers_value [] n h = (None, refl)
workers_value (None ∷ values) n h = absurd h
workers_value (Some text ∷ []) n h = (Some text, refl)
workers_value (Some text ∷ (v ∷ values)) n h = absurd h

seed_value : (values : List (Option Text)) (n : ℕ) → AreSeed values n → HasValue values
seed_value [] n h = absurd h
seed_value (None ∷ values) n h = absurd h
seed_value (Some text ∷ []) n h = (Some text, refl)
seed_value (Some text ∷ (v ∷ values)) n h = absurd h

name_value : (values : List (Option Text)) (name : Option Text) → IsNameOrNone values name → HasValue values
name_value values None h = (None, h)
name_value values (Some name) h = (Some name, h.once)

record HasDetails (written : List Written) : Type 0 where
  function : HasValue (values_of function_name written)
  value : HasValue (values_of value_name written)
  block : HasValue (values_of block_name written)
  from : HasValue (values_of from_name written)
  seed : HasValue (values_of seed_name written)

has_details : (job : Job) (written : List Written) → AreDetails job written → HasDetails written
has_details Job.Opt written d = record { function = (None, d.1.0); value = (None, d.1.1.0); block = (None, d.1.1.1.0); from = (None, d.1.1.1.1.0); seed = (None, d.0) }
has_details Job.Facts written d = record { function = (None, d.1.0); value = (None, d.1.1.0); block = (None, d.1.1.1.0); from = (None, d.1.1.1.1.0); seed = (None, d.0) }
has_details (Job.Ask q) written d = record {
  function = (Some q.function, d.0.function.once);
  value = (Some q.value, d.0.value.once);
  block = (Some q.block, d.0.block.once);
  from = name_value (values_of from_name written) q.from d.0.from;
  seed = (None, d.1.0);
}
has_details (Job.SelfRun seed) written d = record {
  function = (None, d.1.1.0);
  value = (None, d.1.1.1.0);
  block = (None, d.1.1.1.1.0);
  from = (None, d.1.1.1.1.1.0);
  seed = seed_value (values_of seed_name written) seed d.0;
}

options_are : (words : List Text) (command : Command) → AreCommand words command → AreOptions (options words)
unfolding names
options_are words command c =
    let d = has_details command.job (options words) c.details in
    let workers = workers_value (values_of workers_name (options words)) command.workers c.workers in
    record {
      known = c.known;
      strict = (command.strict, c.strict);
      values = of_member (λ n. HasValue (values_of (hyphened n) (options words))) names (workers, (d.function, (d.value, (d.block, (d.from, (d.seed, tt))))));
    }

module _ (words : List Text) (utf8 : AllUtf8 words) where
  -- words that ask for a command fit
  pub of_command : (command : Command) → AreCommand words command → fault_of form words ≡ []
  of_command command c = go (verdict words utf8)
    where
      go : Verdict begun words (positional words) (options words) → fault_of form words ≡ []
      go (fits f) = free words (positional words) (options words) f
      go (fails bad never) = absurd (never (Some (job_word command.job)) c.job (options_are words command c))

  -- what is found in words that fit
  module _ (none : fault_of form words ≡ []) (found : Found) (is : rows_of found ≡ matches_of form words) where
    fit : Fits begun words (positional words) (options words)
    fit = go (verdict words utf8)
      where
        go : Verdict begun words (positional words) (options words) → Fits begun words (positional words) (options words)
        go (fits f) = f
        go (fails bad never) = absurd (bad (fault_within words none))

    found_texts : Texts fit.j (options words) (rows_of found)
    found_texts = subst (Texts fit.j (options words)) (sym (is ∙ only_flag words)) (with_flag fit.j (options words) (ended words) fit.rows fit.options_are)

    pub texts_found : AreTextsOf words found
    unfolding names
    texts_found = record {
      job = fit.job_is ∙ ap job_list (sym (first_value-rows found (codes "job") ∙ found_texts.job));
      options_are = record {
        known = fit.options_are.known;
        strict = (found_texts.strict.0, record { values = found_texts.strict.1.0; text = one_text-rows found (codes "strict") ∙ found_texts.strict.1.1 });
        values = λ name m. found_texts.values name m ∙ ap value_list (sym (first_value-rows found name));
      };
    }
