-- The form as it is built, the rows of what was found, and what one more use of an argument makes of them.
use Rattle.std.proofs.Common.{◌≡◌, ◌∙◌, ◌&&◌, ◌==◌, ◌++◌, ◌∷◌, [], List, ℕ, Bool, true, false, Option, Some, None, cond, is_some, map, option_map, unwrap_or, if◌then◌else◌, codes, refl, sym, ap, subst, append-nil}
use Rattle.std.specs.Prelude.{find, not, ◌||◌}
use Rattle.std.specs.List.{AllByRecursion}
use Rattle.std.specs.Option.{option_map_or, option_or}
use Rattle.std.specs.Str.{bytes_eq}
use Rattle.std.proofs.lemmas.List.Folds.{find-append}
use Rattle.std.proofs.lemmas.Slice.Eq.{bytes_eq-Decides}
use Rattle.clap.specs.Faults.{use_fault}
use Rattle.clap.specs.Kinds.{or_else}
use Rattle.clap.specs.Simple.{App, Shape, built}
use Rattle.clap.specs.Walk.{Row, Rule, Text, arg_by_id, arg_by_index, arg_by_long, arg_by_short, at_row, has_long, has_short, has_row, more_values, used, with_values, without}
use Rattle.clap.specs.declared.builder.range.ValueRange.{ValueRange}
use Rattle.clap.specs.declared.builder.value_parser.Reading.TheVariants as reading
use Rattle.clap.specs.declared.builder.value_parser.ValueParser.TheVariants as vp
use Rattle.clap.specs.declared.error.kind.ErrorKind.TheVariants as kind
use Rattle.clap.specs.declared.parser.matches.ValueSource.TheVariants.{CommandLine}
use Rattle.vfa.specs.Command.{Written, is_among}
use Rattle.vfa.specs.Form.{bare, form, job_rule, strict_rule, value_names, value_rule}

-- ---- texts

pub equal : (a b : Text) → bytes_eq a b ≡ true → a ≡ b
equal a b e = (bytes_eq-Decides a b).0 e

pub same_text : (a : Text) → bytes_eq a a ≡ true
same_text a = (bytes_eq-Decides a a).1 refl

pub unequal_by : (b : Bool) (P : Type 0) → (b ≡ true → P) → (P → ⊥) → b ≡ false
unequal_by true P holds fails = absurd (fails (holds refl))
unequal_by false P holds fails = refl

pub unlike : (a b : Text) → bytes_eq a b ≡ false → bytes_eq b a ≡ false
unlike a b e = unequal_by (bytes_eq b a) (b ≡ a) (equal b a) (λ same. let is : bytes_eq a b ≡ true = (bytes_eq-Decides a b).1 (sym same) in cc)

-- what holds of each name of a list holds of one among them
pub of_member : (P : Text → Type 0) (ns : List Text) → AllByRecursion P ns → (name : Text) → is_among ns name ≡ true → P name
of_member P [] each name e = cc
of_member P (n ∷ ns) each name e = go (bytes_eq n name) refl e (of_member P ns each.1 name)
  where
    go : (t : Bool) → bytes_eq n name ≡ t → (t || is_among ns name) ≡ true → (is_among ns name ≡ true → P name) → P name
    go true same e rest = subst P (equal n name same) each.0
    go false same e rest = rest e

-- ---- the form as it is built

-- the names of the options that have a value: the proofs take them as any list, but for the few facts of each that are said here
unfoldable pub names : List Text
names = value_names

abbrev pub values : ℕ → ValueRange
values n = record { start_inclusive = n; end_inclusive = n }

abbrev pub job : Rule
job = record job_rule { index = Some 1; range = Some (values 1); parser = Some vp.String }

abbrev pub strict : Rule
strict = record strict_rule { range = Some (values 0); parser = Some vp.Bool; defaults = codes "false" ∷ []; missing = codes "true" ∷ [] }

abbrev pub valued : Text → Rule
valued name = record (value_rule name) { range = Some (values 1); parser = Some vp.String }

abbrev pub rules : List Rule
rules = job ∷ strict ∷ map valued names

abbrev pub shape : Shape
shape = record bare.top { rules = rules; is_built = true; disable_help_subcommand = true }

abbrev pub whole : App
whole = record { top = shape; subs = [] }

pub form_built : built form ≡ whole
unfolding names
form_built = refl

pub not_job : (name : Text) → is_among names name ≡ true → bytes_eq (codes "job") name ≡ false
unfolding names
not_job name m = of_member (λ n. bytes_eq (codes "job") n ≡ false) names (refl, (refl, (refl, (refl, (refl, (refl, tt)))))) name m

pub not_strict : (name : Text) → is_among names name ≡ true → bytes_eq (codes "strict") name ≡ false
unfolding names
not_strict name m = of_member (λ n. bytes_eq (codes "strict") n ≡ false) names (refl, (refl, (refl, (refl, (refl, (refl, tt)))))) name m

-- the argument with a value of this name
among_valued : (test : Rule → Bool) (name : Text) → ((n : Text) → test (valued n) ≡ bytes_eq n name) → (ns : List Text) →
    find test (map valued ns) ≡ (if is_among ns name then Some (valued name) else None)
among_valued test name is [] = refl
among_valued test name is (n ∷ ns) = ap (λ b. cond b (Some (valued n)) (find test (map valued ns))) (is n) ∙ go (bytes_eq n name) refl (among_valued test name is ns)
  where
    go : (t : Bool) → bytes_eq n name ≡ t → find test (map valued ns) ≡ (if is_among ns name then Some (valued name) else None) →
        cond t (Some (valued n)) (find test (map valued ns)) ≡ (if t || is_among ns name then Some (valued name) else None)
    go true same rest = ap (λ m. Some (valued m)) (equal n name same)
    go false same rest = rest

none_valued : (test : Rule → Bool) → ((n : Text) → test (valued n) ≡ false) → (ns : List Text) → find test (map valued ns) ≡ None
none_valued test fails [] = refl
none_valued test fails (n ∷ ns) = ap (λ b. cond b (Some (valued n)) (find test (map valued ns))) (fails n) ∙ none_valued test fails ns

-- there is one positional, and no short name
pub no_second : arg_by_index rules 2 ≡ None
no_second = none_valued (λ a. option_map_or (λ k. k == 2) a.index false) (λ n. refl) names

pub no_short : (c : ℕ) → arg_by_short rules c ≡ None
no_short c = none_valued (λ a. not (is_some a.index) && has_short a c) (λ n. refl) names

or_false : (b : Bool) → (b || false) ≡ b
or_false true = refl
or_false false = refl

module _ (name : Text) where
  abbrev has_name : Rule → Bool
  has_name a = not (is_some a.index) && has_long a name

  abbrev by_tests : Bool → Option Rule → Option Rule
  by_tests s rest = cond (s || false) (Some strict) rest

  pub long_strict : bytes_eq (codes "strict") name ≡ true → arg_by_long rules name ≡ Some strict
  long_strict s = ap (λ b. by_tests b (find has_name (map valued names))) s

  long_other : bytes_eq (codes "strict") name ≡ false → arg_by_long rules name ≡ (if is_among names name then Some (valued name) else None)
  long_other s = ap (λ b. by_tests b (find has_name (map valued names))) s ∙ among_valued has_name name (λ n. or_false (bytes_eq n name)) names

  abbrev if_among : Bool → Option Rule
  if_among m = if m then Some (valued name) else None

  pub long_valued : is_among names name ≡ true → arg_by_long rules name ≡ Some (valued name)
  long_valued m = long_other (not_strict name m) ∙ ap if_among m

  pub long_unknown : bytes_eq (codes "strict") name ≡ false → is_among names name ≡ false → arg_by_long rules name ≡ None
  long_unknown s m = long_other s ∙ ap if_among m

  pub id_valued : is_among names name ≡ true → arg_by_id rules name ≡ Some (valued name)
  id_valued m =
      ap (λ b. cond b (Some job) (cond (bytes_eq (codes "strict") name) (Some strict) (find (λ a. bytes_eq a.id name) (map valued names)))) (not_job name m)
      ∙ ap (λ b. cond b (Some strict) (find (λ a. bytes_eq a.id name) (map valued names))) (not_strict name m)
      ∙ among_valued (λ a. bytes_eq a.id name) name (λ n. refl) names ∙ ap if_among m

-- ---- rows

abbrev pub row : Text → Text → Row
row id text = record { id = id; values = text ∷ []; count = None; source = Some CommandLine; reading = reading.AsWritten }

abbrev pub look : Text → List Row → Option Row
look id rows = find (λ r. bytes_eq r.id id) rows

-- an option with two hyphens
abbrev pub hyphened : Text → Text
hyphened name = 45 ∷ 45 ∷ name

abbrev pub option_of : Text → Option Text → Written
option_of name value = record { name = hyphened name; value = value }

-- the first option of this name
abbrev pub written_of : Text → List Written → Option Written
written_of name written = find (λ o. bytes_eq o.name (hyphened name)) written

abbrev pub row_of_option : Text → Written → Row
row_of_option id o = row id (unwrap_or o.value (codes "true"))

-- what was found: the text of the job, and the options
pub record Rows (j : Option Text) (written : List Written) (rows : List Row) : Type 0 where
  pub job : look (codes "job") rows ≡ option_map (row (codes "job")) j
  pub option : (id : Text) → bytes_eq (codes "job") id ≡ false → look id rows ≡ option_map (row_of_option id) (written_of id written)

pub has_look : (id : Text) (rows : List Row) → has_row id rows ≡ is_some (look id rows)
has_look id [] = refl
has_look id (r ∷ rows) = go (bytes_eq r.id id) (has_look id rows)
  where
    go : (b : Bool) → has_row id rows ≡ is_some (look id rows) → (b || has_row id rows) ≡ is_some (if b then Some r else look id rows)
    go true e = refl
    go false e = e

pub absent : (id : Text) (change : Row → List Row) (missing rows : List Row) → look id rows ≡ None → at_row id change missing rows ≡ rows ++ missing
absent id change missing [] e = refl
absent id change missing (r ∷ rows) e = go (bytes_eq r.id id) e (absent id change missing rows)
  where
    go : (b : Bool) → (if b then Some r else look id rows) ≡ None → (look id rows ≡ None → at_row id change missing rows ≡ rows ++ missing)
        → (if b then change r ++ rows else r ∷ at_row id change missing rows) ≡ r ∷ (rows ++ missing)
    go true e rest = cc
    go false e rest = ap (λ rs. r ∷ rs) (rest e)

-- an argument that has no row gets one at the end
put_new : (id text : Text) (rows : List Row) → look id rows ≡ None
    → with_values id reading.AsWritten CommandLine (text ∷ []) (without id rows) ≡ rows ++ row id text ∷ []
put_new id text rows e =
    let same : without id rows ≡ rows = absent id (λ _. []) [] rows e ∙ append-nil rows in
    ap (with_values id reading.AsWritten CommandLine (text ∷ [])) same ∙ absent id (more_values CommandLine (text ∷ [])) (row id text ∷ []) rows e

or_none : {A : Type 0} (o : Option A) → option_or o None ≡ o
or_none None = refl
or_none (Some r) = refl

pub look_other : (id : Text) (rows : List Row) (r : Row) → bytes_eq r.id id ≡ false → look id (rows ++ r ∷ []) ≡ look id rows
look_other id rows r e =
    find-append (λ x. bytes_eq x.id id) rows (r ∷ []) ∙ ap (λ b. option_or (look id rows) (if b then Some r else None)) e ∙ or_none (look id rows)

pub look_new : (id : Text) (rows : List Row) (r : Row) → bytes_eq r.id id ≡ true → look id rows ≡ None → look id (rows ++ r ∷ []) ≡ Some r
look_new id rows r e none =
    find-append (λ x. bytes_eq x.id id) rows (r ∷ []) ∙ ap (λ b. option_or (look id rows) (if b then Some r else None)) e ∙ ap (λ o. option_or o (Some r)) none

-- ---- one more use

module _ (written : List Written) (rows : List Row) (h : Rows None written rows) (text : Text) where
  pub used_job : Rows (Some text) written (used job (text ∷ []) rows)
  used_job = subst (Rows (Some text) written) (sym (put_new (codes "job") text rows h.job)) (record {
    job = look_new (codes "job") rows _ refl h.job;
    option = λ id other. look_other id rows (row (codes "job") text) other ∙ h.option id other;
  })

module _ (id : Text) (value : Option Text) (written : List Written) (new : written_of id written ≡ None) where
  pub written_new : written_of id (written ++ option_of id value ∷ []) ≡ Some (option_of id value)
  written_new =
      find-append (λ o. bytes_eq o.name (hyphened id)) written (option_of id value ∷ [])
      ∙ ap (λ b. option_or (written_of id written) (cond b (Some (option_of id value)) None)) (same_text id)
      ∙ ap (λ o. option_or o (Some (option_of id value))) new

pub written_other : (id name : Text) (value : Option Text) (written : List Written) → bytes_eq id name ≡ false → written_of name (written ++ option_of id value ∷ []) ≡ written_of name written
written_other id name value written other =
    find-append (λ o. bytes_eq o.name (hyphened name)) written (option_of id value ∷ [])
    ∙ ap (λ b. option_or (written_of name written) (cond b (Some (option_of id value)) None)) other
    ∙ or_none (written_of name written)

module _ (j : Option Text) (written : List Written) (rows : List Row) (h : Rows j written rows) (id : Text) (value : Option Text)
    (apart : bytes_eq (codes "job") id ≡ false) (new : written_of id written ≡ None) where
  pub none_found : look id rows ≡ None
  none_found = h.option id apart ∙ ap (option_map (row_of_option id)) new

  abbrev more : List Row
  more = rows ++ row_of_option id (option_of id value) ∷ []

  more_found : (name : Text) → bytes_eq (codes "job") name ≡ false →
      look name more ≡ option_map (row_of_option name) (written_of name (written ++ option_of id value ∷ []))
  more_found name other = go (bytes_eq id name) refl
    where
      go : (t : Bool) → bytes_eq id name ≡ t → look name more ≡ option_map (row_of_option name) (written_of name (written ++ option_of id value ∷ []))
      go true same = subst (λ name. look name more ≡ option_map (row_of_option name) (written_of name (written ++ option_of id value ∷ []))) (equal id name same)
          (look_new id rows _ (same_text id) none_found ∙ sym (ap (option_map (row_of_option id)) (written_new id value written new)))
      go false unlike = look_other name rows _ unlike ∙ h.option name other ∙ sym (ap (option_map (row_of_option name)) (written_other id name value written unlike))

  with_option : Rows j (written ++ option_of id value ∷ []) more
  with_option = record { job = look_other (codes "job") rows _ (unlike (codes "job") id apart) ∙ h.job; option = more_found }

  -- one more option
  pub used_option : (after : List Row) → after ≡ with_values id reading.AsWritten CommandLine (unwrap_or value (codes "true") ∷ []) (without id rows) →
      Rows j (written ++ option_of id value ∷ []) after
  used_option after is = subst (Rows j (written ++ option_of id value ∷ [])) (sym (is ∙ put_new id (unwrap_or value (codes "true")) rows none_found)) with_option

-- ---- faults

-- a first use has no fault, and a second one has
pub first_use : (id : Text) (rows : List Row) → look id rows ≡ None → or_else (if has_row id rows && true then kind.ArgumentConflict ∷ [] else []) [] ≡ []
first_use id rows none = ap (λ h. or_else (if h && true then kind.ArgumentConflict ∷ [] else []) []) (has_look id rows ∙ ap is_some none)

second_use : (id : Text) (rows : List Row) (r : Row) → look id rows ≡ Some r → or_else (if has_row id rows && true then kind.ArgumentConflict ∷ [] else []) [] ≡ [] → ⊥
second_use id rows r found free =
    let again : or_else (if has_row id rows && true then kind.ArgumentConflict ∷ [] else []) [] ≡ kind.ArgumentConflict ∷ [] =
    ap (λ h. or_else (if h && true then kind.ArgumentConflict ∷ [] else []) []) (has_look id rows ∙ ap is_some found) in
    cc

pub job_free : (rows : List Row) (text : Text) → look (codes "job") rows ≡ None → use_fault false job (text ∷ []) rows ≡ []
job_free rows text none = first_use (codes "job") rows none

pub strict_free : (rows : List Row) → look (codes "strict") rows ≡ None → use_fault false strict [] rows ≡ []
strict_free rows none = first_use (codes "strict") rows none

pub valued_free : (name : Text) (rows : List Row) (text : Text) → look name rows ≡ None → use_fault false (valued name) (text ∷ []) rows ≡ []
valued_free name rows text none = first_use name rows none

pub strict_again : (rows : List Row) (r : Row) → look (codes "strict") rows ≡ Some r → use_fault false strict [] rows ≡ [] → ⊥
strict_again rows r found = second_use (codes "strict") rows r found

pub valued_again : (name : Text) (rows : List Row) (text : Text) (r : Row) → look name rows ≡ Some r → use_fault false (valued name) (text ∷ []) rows ≡ [] → ⊥
valued_again name rows text r found = second_use name rows r found
