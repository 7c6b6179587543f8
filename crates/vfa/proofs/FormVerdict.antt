-- The words of a command fit the form exactly where they may ask for a command, and what is found in them is what they ask for.
use Rattle.std.proofs.Common.{◌≡◌, ◌∙◌, ◌&&◌, ◌||◌, ◌==◌, ◌++◌, ◌∷◌, [], List, ℕ, Bool, true, false, Option, Some, None, cond, option_map, if◌then◌else◌, codes, refl, sym, ap, ap₂, subst, append-nil, append_assoc}
use Rattle.std.specs.Prelude.{fold, ⊤}
use Rattle.std.specs.List.{list_all}
use Rattle.std.specs.Str.{IsUtf8, bytes_eq}
use Rattle.std.proofs.lemmas.List.Folds.{list_all-append}
use Rattle.clap.specs.Faults.{settle_fault, walk_fault}
use Rattle.clap.specs.Kinds.{Kinds, or_else}
use Rattle.clap.specs.Lexer.{long_of, short_of}
use Rattle.clap.specs.Walk.{Row, Text, Waiting, Walk, idle, option, used, walked}
use Rattle.clap.specs.declared.error.kind.ErrorKind.TheVariants as kind
use Rattle.vfa.specs.Command.{Written, is_among, is_known, is_option, ends_options, options, positional, strict_name, strict_values, values_of, written}
use Rattle.vfa.specs.Form.{job_list, value_list}
use Rattle.vfa.proofs.FormRows.{Rows, equal, hyphened, job_free, look, names, none_found, not_job, not_strict, option_of, row_of_option, rules, same_text, shape, strict, strict_again, strict_free, unlike, used_job, used_option, valued, valued_again, valued_free, written_of}
use Rattle.vfa.proofs.FormWalk
use Rattle.vfa.proofs.FormWalk.{Look, plain, ends, long, short, looks, first_of_two, second_of_two, neither, at, place, turn, next, settles, settled, pends, settles_valued, settled_valued, here}
use Rattle.vfa.proofs.FormWords
use Rattle.vfa.proofs.FormWords.{name, value}

-- ---- what words ask for

-- each option is known and stands at most once, with a value where it has one
pub record AreOptions (written : List Written) : Type 0 where
  pub known : list_all is_known written ≡ true
  pub strict : (b : Bool) × (values_of strict_name written ≡ strict_values b)
  pub values : (name : Text) → is_among names name ≡ true → (v : Option Text) × (values_of (hyphened name) written ≡ value_list v)

abbrev Never : List Text → List Written → Type 0
Never jobs written = (j : Option Text) → jobs ≡ job_list j → AreOptions written → ⊥

two_jobs : (first second : Text) (rest : List Text) (j : Option Text) → ◌≡◌ {A = List Text} (first ∷ second ∷ rest) (job_list j) → ⊥
two_jobs first second rest None e = cc
two_jobs first second rest (Some text) e = cc

-- ---- the values of an option among many

values_append : (n : Text) (xs ys : List Written) → values_of n (xs ++ ys) ≡ values_of n xs ++ values_of n ys
values_append n [] ys = refl
values_append n (o ∷ xs) ys = go (bytes_eq o.name n) (values_append n xs ys)
  where
    go : (t : Bool) → values_of n (xs ++ ys) ≡ values_of n xs ++ values_of n ys →
        (if t then o.value ∷ values_of n (xs ++ ys) else values_of n (xs ++ ys)) ≡ (if t then o.value ∷ values_of n xs else values_of n xs) ++ values_of n ys
    go true e = ap (λ vs. o.value ∷ vs) e
    go false e = e

pub values_none : (name : Text) (written : List Written) → written_of name written ≡ None → values_of (hyphened name) written ≡ []
values_none name [] e = refl
values_none name (o ∷ os) e = go (bytes_eq o.name (hyphened name)) e (values_none name os)
  where
    go : (t : Bool) → cond t (Some o) (written_of name os) ≡ None → (written_of name os ≡ None → values_of (hyphened name) os ≡ []) →
        (if t then o.value ∷ values_of (hyphened name) os else values_of (hyphened name) os) ≡ []
    go true e rest = cc
    go false e rest = rest e

-- this value, and those behind it
abbrev pub BeginsWith : Option Text → List (Option Text) → Type 0
BeginsWith v vs = (rest : List (Option Text)) × (vs ≡ v ∷ rest)

pub values_some : (name : Text) (written : List Written) (found : Written) → written_of name written ≡ Some found → BeginsWith found.value (values_of (hyphened name) written)
values_some name [] found e = cc
values_some name (o ∷ os) found e = go (bytes_eq o.name (hyphened name)) e (values_some name os found)
  where
    go : (t : Bool) → cond t (Some o) (written_of name os) ≡ Some found → (written_of name os ≡ Some found → BeginsWith found.value (values_of (hyphened name) os)) →
        BeginsWith found.value (if t then o.value ∷ values_of (hyphened name) os else values_of (hyphened name) os)
    go true e rest = let same : o ≡ found = cc in (values_of (hyphened name) os, ap (λ (w : Written). w.value ∷ values_of (hyphened name) os) same)
    go false e rest = rest e

values_new : (name : Text) (value : Option Text) (rest : List Written) → values_of (hyphened name) (option_of name value ∷ rest) ≡ value ∷ values_of (hyphened name) rest
values_new name value rest = ap (λ b. if b then value ∷ values_of (hyphened name) rest else values_of (hyphened name) rest) (same_text name)

values_other : (n : Text) (o : Written) → bytes_eq o.name n ≡ false → (written : List Written) → values_of n (written ++ o ∷ []) ≡ values_of n written
values_other n o other written =
    values_append n written (o ∷ []) ∙ ap (λ b. values_of n written ++ (if b then o.value ∷ [] else [])) other ∙ append-nil (values_of n written)

module _ (name : Text) (value : Option Text) (written rest : List Written) where
  values_at : values_of (hyphened name) (written ++ option_of name value ∷ rest) ≡ values_of (hyphened name) written ++ value ∷ values_of (hyphened name) rest
  values_at = values_append (hyphened name) written (option_of name value ∷ rest) ∙ ap (λ vs. values_of (hyphened name) written ++ vs) (values_new name value rest)

  values_again : (found : Written) → written_of name written ≡ Some found → (more : List (Option Text)) ×
      (values_of (hyphened name) (written ++ option_of name value ∷ rest) ≡ found.value ∷ (more ++ value ∷ values_of (hyphened name) rest))
  values_again found e =
      let h = values_some name written found e in
      (h.0, values_at ∙ ap (λ vs. vs ++ value ∷ values_of (hyphened name) rest) h.1)

values_first : (name : Text) (value : Option Text) (written : List Written) → written_of name written ≡ None → values_of (hyphened name) (written ++ option_of name value ∷ []) ≡ value ∷ []
values_first name value written e = values_at name value written [] ∙ ap (λ vs. vs ++ value ∷ []) (values_none name written e)

-- ---- what is in no command

not_empty : (xs more : List (Option Text)) (y : Option Text) → xs ++ y ∷ more ≡ [] → ⊥
not_empty [] more y e = cc
not_empty (x ∷ xs) more y e = cc

alone : (xs more : List (Option Text)) (y z : Option Text) → xs ++ y ∷ more ≡ z ∷ [] → y ≡ z
alone [] more y z e = cc
alone (x ∷ xs) more y z e = let rest : xs ++ y ∷ more ≡ [] = cc in absurd (not_empty xs more y rest)

twice : (x y z : Option Text) (xs more : List (Option Text)) → x ∷ (xs ++ y ∷ more) ≡ z ∷ [] → ⊥
twice x y z xs more e = let rest : xs ++ y ∷ more ≡ [] = cc in not_empty xs more y rest

valueless : (v : Option Text) (xs more : List (Option Text)) → xs ++ None ∷ more ≡ value_list v → ⊥
valueless None xs more e = not_empty xs more None e
valueless (Some text) xs more e = let same : None ≡ Some text = alone xs more None (Some text) e in cc

flag_valued : (b : Bool) (text : Text) (xs more : List (Option Text)) → xs ++ Some text ∷ more ≡ strict_values b → ⊥
flag_valued false text xs more e = not_empty xs more (Some text) e
flag_valued true text xs more e = let same : Some text ≡ None = alone xs more (Some text) None e in cc

value_twice : (v x y : Option Text) (xs more : List (Option Text)) → x ∷ (xs ++ y ∷ more) ≡ value_list v → ⊥
value_twice None x y xs more e = cc
value_twice (Some text) x y xs more e = twice x y (Some text) xs more e

flag_twice : (b : Bool) (x y : Option Text) (xs more : List (Option Text)) → x ∷ (xs ++ y ∷ more) ≡ strict_values b → ⊥
flag_twice false x y xs more e = cc
flag_twice true x y xs more e = twice x y None xs more e

and_false : (b : Bool) → (b && false) ≡ false
and_false true = refl
and_false false = refl

or_true : (b : Bool) → (b || true) ≡ true
or_true true = refl
or_true false = refl

never_unknown : (written : List Written) (o : Written) (rest : List Written) → is_known o ≡ false → AreOptions (written ++ o ∷ rest) → ⊥
never_unknown written o rest unknown are =
    let no : list_all is_known (written ++ o ∷ rest) ≡ false =
    list_all-append is_known written (o ∷ rest) ∙ ap (λ b. list_all is_known written && (b && list_all is_known rest)) unknown ∙ and_false (list_all is_known written) in
    let so : list_all is_known (written ++ o ∷ rest) ≡ true = are.known in cc

never_strict_valued : (written : List Written) (text : Text) (rest : List Written) → AreOptions (written ++ option_of (codes "strict") (Some text) ∷ rest) → ⊥
never_strict_valued written text rest are =
    flag_valued are.strict.0 text (values_of strict_name written) (values_of strict_name rest) (sym (values_at (codes "strict") (Some text) written rest) ∙ are.strict.1)

never_strict_again : (written : List Written) (found : Written) (rest : List Written) → written_of (codes "strict") written ≡ Some found → AreOptions (written ++ option_of (codes "strict") None ∷ rest) → ⊥
never_strict_again written found rest e are =
    let h = values_again (codes "strict") None written rest found e in
    flag_twice are.strict.0 found.value None h.0 (values_of strict_name rest) (sym h.1 ∙ are.strict.1)

module _ (name : Text) (m : is_among names name ≡ true) (written rest : List Written) where
  never_valueless : AreOptions (written ++ option_of name None ∷ rest) → ⊥
  never_valueless are =
      let v = are.values name m in
      valueless v.0 (values_of (hyphened name) written) (values_of (hyphened name) rest) (sym (values_at name None written rest) ∙ v.1)

  never_again : (value : Option Text) (found : Written) → written_of name written ≡ Some found → AreOptions (written ++ option_of name value ∷ rest) → ⊥
  never_again value found e are =
      let v = are.values name m in
      let h = values_again name value written rest found e in
      value_twice v.0 found.value value h.0 (values_of (hyphened name) rest) (sym h.1 ∙ v.1)

-- ---- one more option

known_more : (written : List Written) (o : Written) → list_all is_known written ≡ true → is_known o ≡ true → list_all is_known (written ++ o ∷ []) ≡ true
known_more written o all is = list_all-append is_known written (o ∷ []) ∙ ap₂ (λ a b. a && (b && true)) all is

with_strict : (written : List Written) → AreOptions written → written_of (codes "strict") written ≡ None → AreOptions (written ++ option_of (codes "strict") None ∷ [])
with_strict written are new = record {
  known = known_more written (option_of (codes "strict") None) are.known refl;
  strict = (true, values_first (codes "strict") None written new);
  values = λ name m. ((are.values name m).0, values_other (hyphened name) (option_of (codes "strict") None) (not_strict name m) written ∙ (are.values name m).1);
}

module _ (name : Text) (m : is_among names name ≡ true) (text : Text) (written : List Written) (are : AreOptions written) (new : written_of name written ≡ None) where
  abbrev given : Written
  given = option_of name (Some text)

  HasValues : Text → Type 0
  HasValues other = (v : Option Text) × (values_of (hyphened other) (written ++ given ∷ []) ≡ value_list v)

  has_values : (other : Text) → is_among names other ≡ true → HasValues other
  unfolding HasValues
  has_values other n = go (bytes_eq name other) refl
    where
      go : (t : Bool) → bytes_eq name other ≡ t → HasValues other
      go true same = subst HasValues (equal name other same) (Some text, values_first name (Some text) written new)
      go false unlike = ((are.values other n).0, values_other (hyphened other) given unlike written ∙ (are.values other n).1)

  with_valued : AreOptions (written ++ given ∷ [])
  unfolding HasValues
  with_valued = record {
    known = known_more written given are.known (FormWords.known_option name (Some text) ∙ ap (λ b. bytes_eq (codes "strict") name || b) m ∙ or_true (bytes_eq (codes "strict") name));
    strict = (are.strict.0, values_other strict_name given (unlike (codes "strict") name (not_strict name m)) written ∙ are.strict.1);
    values = has_values;
  }

-- ---- verdicts

abbrev pub AllUtf8 : List Text → Type 0
AllUtf8 [] = ⊤
AllUtf8 (word ∷ words) = IsUtf8 word × AllUtf8 words

abbrev pub end : Walk → List Text → Walk
end w words = fold (walked rules []) w words

-- the fault of the walk, or of what is pending at its end
abbrev pub fault : Walk → List Text → Kinds
fault w words = or_else (walk_fault shape [] w words) (settle_fault rules false (end w words).held)

-- the words have no fault, and this is found
pub record Fits (w : Walk) (words jobs : List Text) (written : List Written) : Type 0 where
  pub j : Option Text
  pub free : walk_fault shape [] w words ≡ []
  pub quiet : settle_fault rules false (end w words).held ≡ []
  pub whole : (end w words).stopped ≡ None
  pub rows : Rows j written (settled (end w words).held.rows (end w words).held.pending)
  pub job_is : jobs ≡ job_list j
  pub options_are : AreOptions written

-- the words fit, and ask for what is found; or neither
pub data Verdict (w : Walk) (words jobs : List Text) (written : List Written) : Type 0 where
  fits : Fits w words jobs written → Verdict w words jobs written
  fails : (fault w words ≡ [] → ⊥) → Never jobs written → Verdict w words jobs written

module _ (w : Walk) (words : List Text) where
  restate : (jobs alike : List Text) (written same : List Written) → jobs ≡ alike → written ≡ same → Verdict w words alike same → Verdict w words jobs written
  restate jobs alike written same is are verdict =
      subst (λ js. Verdict w words js written) (sym is) (subst (Verdict w words alike) (sym are) verdict)

  one_more : (jobs : List Text) (written : List Written) (o : Written) (rest : List Written) → Verdict w words jobs ((written ++ o ∷ []) ++ rest) → Verdict w words jobs (written ++ o ∷ rest)
  one_more jobs written o rest verdict = subst (Verdict w words jobs) (append_assoc written (o ∷ []) rest) verdict

module _ (w : Walk) (word : Text) (words : List Text) where
  fault_first : fault w (word ∷ words) ≡ [] → turn w word ≡ []
  unfolding walk_fault
  fault_first e = first_of_two (turn w word) _ (first_of_two _ _ e)

  fault_rest : fault w (word ∷ words) ≡ [] → fault (next w word) words ≡ []
  unfolding walk_fault
  fault_rest e = neither _ _ (second_of_two (turn w word) _ (first_of_two _ _ e)) (second_of_two _ _ e)

  module _ (jobs : List Text) (written : List Written) where
    -- a step without a fault
    go_on : (w' : Walk) → turn w word ≡ [] → next w word ≡ w' → Verdict w' words jobs written → Verdict w (word ∷ words) jobs written
    unfolding walk_fault
    go_on w' free goes verdict = after (subst (λ x. Verdict x words jobs written) (sym goes) verdict)
      where
        none : walk_fault shape [] (next w word) words ≡ [] → walk_fault shape [] w (word ∷ words) ≡ []
        none e = neither (turn w word) _ free e

        after : Verdict (next w word) words jobs written → Verdict w (word ∷ words) jobs written
        after (fits f) = fits (record { j = f.j; free = none f.free; quiet = f.quiet; whole = f.whole; rows = f.rows; job_is = f.job_is; options_are = f.options_are })
        after (fails bad never) = fails (λ e. bad (fault_rest e)) never

    -- a step with one
    stop : (turn w word ≡ [] → ⊥) → Never jobs written → Verdict w (word ∷ words) jobs written
    stop bad never = fails (λ e. bad (fault_first e)) never

    -- a step after which there will be one
    doom : (w' : Walk) → next w word ≡ w' → (fault w' words ≡ [] → ⊥) → Never jobs written → Verdict w (word ∷ words) jobs written
    doom w' goes bad never = fails (λ e. bad (subst (λ x. fault x words ≡ []) goes (fault_rest e))) never

-- ---- where a fault is certain

abbrev Pending : Type 0
Pending = Option (Text × List Text)

module _ (rows : List Row) (pending : Pending) (bad : settles rows pending ≡ [] → ⊥) where
  at_end : (waiting : Waiting) (n : ℕ) (behind : Bool) → fault (at rows pending waiting n behind) [] ≡ [] → ⊥
  at_end waiting n behind e = bad (second_of_two _ _ e)

  doomed_behind : (waiting : Waiting) (j : Option Text) (words : List Text) → fault (at rows pending waiting (place j) true) words ≡ [] → ⊥
  doomed_behind waiting j [] e = at_end waiting (place j) true e
  doomed_behind waiting None (word ∷ words) e = bad (sym (FormWalk.behind_first word rows pending waiting) ∙ fault_first _ word words e)
  doomed_behind waiting (Some text) (word ∷ words) e =
      let never : kind.UnknownArgument ∷ [] ≡ [] = sym (FormWalk.behind_second word rows pending waiting) ∙ fault_first _ word words e in cc

unknown : (t : Kinds) → t ≡ kind.UnknownArgument ∷ [] → t ≡ [] → ⊥
unknown t is none = cc

too_many : (t : Kinds) → t ≡ kind.TooManyValues ∷ [] → t ≡ [] → ⊥
too_many t is none = cc

-- a word with two hyphens has a fault where what is pending has one
long_settles : (rows : List Row) (pending : Pending) (waiting : Waiting) (n : ℕ) (x : ℕ) (xs : Text) →
    turn (here rows pending waiting n) (hyphened (x ∷ xs)) ≡ [] → settles rows pending ≡ []
long_settles rows pending waiting n x xs e = go (bytes_eq (codes "strict") (name x xs)) (is_among names (name x xs)) (value x xs) refl refl refl
  where
    go : (s m : Bool) (o : Option Text) → bytes_eq (codes "strict") (name x xs) ≡ s → is_among names (name x xs) ≡ m → value x xs ≡ o → settles rows pending ≡ []
    go true m None s_is m_is o_is = first_of_two _ _ (first_of_two _ _ (sym (FormWalk.strict_turn rows pending waiting n x xs s_is o_is) ∙ e))
    go true m (Some v) s_is m_is o_is = absurd (too_many _ (FormWalk.strict_valued rows pending waiting n x xs s_is v o_is) e)
    go false true None s_is m_is o_is = first_of_two _ _ (sym (FormWalk.valueless_turn rows pending waiting n x xs m_is o_is) ∙ e)
    go false true (Some v) s_is m_is o_is = first_of_two _ _ (first_of_two _ _ (sym (FormWalk.valued_turn rows pending waiting n x xs m_is v o_is) ∙ e))
    go false false o s_is m_is o_is = absurd (unknown _ (FormWalk.unknown_turn rows pending waiting n x xs s_is m_is) e)

module _ (rows : List Row) (pending : Pending) (bad : settles rows pending ≡ [] → ⊥) where
  doomed : (j : Option Text) (words : List Text) (utf8 : AllUtf8 words) → fault (at rows pending idle (place j) false) words ≡ [] → ⊥
  doomed j [] utf8 e = at_end rows pending bad idle (place j) false e
  doomed j (word ∷ words) utf8 e = go (looks word) j e
    where
      go : Look word → (j : Option Text) → fault (at rows pending idle (place j) false) (word ∷ words) ≡ [] → ⊥
      go (plain not_so a l s) None e = bad (sym (FormWalk.plain_first word rows pending a l s) ∙ fault_first _ word words e)
      go (plain not_so a l s) (Some text) e = unknown _ (FormWalk.plain_second word rows pending a l s) (fault_first _ word words e)
      go (ends is) j e = doomed_behind rows pending bad idle j words
          (subst (λ w. fault w words ≡ []) (FormWalk.ends_goes rows pending idle (place j))
          (fault_rest _ (codes "--") words (subst (λ word. fault (at rows pending idle (place j) false) (word ∷ words) ≡ []) is e)))
      go (long x xs is) j e = bad (long_settles rows pending idle (place j) x xs
          (subst (λ word. turn (at rows pending idle (place j) false) word ≡ []) is (fault_first _ word words e)))
      go (short x xs other is) j e = unknown _ (FormWalk.short_turn rows pending idle (place j) x xs other (subst IsUtf8 is utf8.0))
          (subst (λ word. turn (at rows pending idle (place j) false) word ≡ []) is (fault_first _ word words e))

-- ---- one more word

-- nothing that is pending has a fault, and this was found
pub record Clean (j : Option Text) (written : List Written) (rows : List Row) (pending : Pending) : Type 0 where
  pub quiet : settles rows pending ≡ []
  pub found : Rows j written (settled rows pending)
  pub options_are : AreOptions written

-- the verdicts on these words: where any word may follow, where the value of an option is to follow, and behind `--`
pub record Verdicts (words : List Text) : Type 0 where
  pub any : (j : Option Text) (written : List Written) (rows : List Row) (pending : Pending) → Clean j written rows pending →
      Verdict (at rows pending idle (place j) false) words (job_list j ++ positional words) (written ++ options words)
  pub awaiting : (name : Text) → is_among names name ≡ true → (j : Option Text) (written : List Written) (rows : List Row) → Rows j written rows → AreOptions written →
      Verdict (at rows (pends name []) (option name) (place j) false) words (job_list j ++ positional (hyphened name ∷ words)) (written ++ options (hyphened name ∷ words))
  pub behind : (j : Option Text) (written : List Written) (rows : List Row) (pending : Pending) (waiting : Waiting) → Clean j written rows pending →
      Verdict (at rows pending waiting (place j) true) words (job_list j ++ words) (written ++ [])

-- with the job, or another option
with_job : (written : List Written) (rows : List Row) (pending : Pending) (word : Text) → Clean None written rows pending →
    Clean (Some word) written (settled rows pending) (Some (codes "job", word ∷ []))
with_job written rows pending word c = record {
  quiet = job_free (settled rows pending) word c.found.job;
  found = used_job written (settled rows pending) c.found word;
  options_are = c.options_are;
}

at_rows : (j : Option Text) (written : List Written) (rows : List Row) → Rows j written rows → AreOptions written → Clean j written rows None
at_rows j written rows h are = record { quiet = refl; found = h; options_are = are }

module _ (j : Option Text) (written : List Written) (rows : List Row) (h : Rows j written rows) (are : AreOptions written) where
  strict_used : written_of (codes "strict") written ≡ None → Clean j (written ++ option_of (codes "strict") None ∷ []) (used strict [] rows) None
  strict_used new = at_rows j _ _ (used_option j written rows h (codes "strict") None refl new (used strict [] rows) refl) (with_strict written are new)

  strict_first : written_of (codes "strict") written ≡ None → look (codes "strict") rows ≡ None
  strict_first new = none_found j written rows h (codes "strict") None refl new

  strict_found : (found : Written) → written_of (codes "strict") written ≡ Some found → look (codes "strict") rows ≡ Some (row_of_option (codes "strict") found)
  strict_found found e = h.option (codes "strict") refl ∙ ap (option_map (row_of_option (codes "strict"))) e

  module _ (name : Text) (m : is_among names name ≡ true) where
    name_first : written_of name written ≡ None → look name rows ≡ None
    name_first new = none_found j written rows h name None (not_job name m) new

    name_found : (found : Written) → written_of name written ≡ Some found → look name rows ≡ Some (row_of_option name found)
    name_found found e = h.option name (not_job name m) ∙ ap (option_map (row_of_option name)) e

    module _ (new : written_of name written ≡ None) (text : Text) where
      rows_used : (after : List Row) → after ≡ used (valued name) (text ∷ []) rows → Rows j (written ++ option_of name (Some text) ∷ []) after
      rows_used after is = used_option j written rows h name (Some text) (not_job name m) new after is

      value_used : Clean j (written ++ option_of name (Some text) ∷ []) (used (valued name) (text ∷ []) rows) None
      value_used = at_rows j _ _ (rows_used _ refl) (with_valued name m text written are new)

      value_pends : Clean j (written ++ option_of name (Some text) ∷ []) rows (pends name (text ∷ []))
      value_pends = record {
        quiet = settles_valued name m rows (text ∷ []) ∙ valued_free name rows text (name_first new);
        found = rows_used _ (settled_valued name m rows (text ∷ []));
        options_are = with_valued name m text written are new;
      }

-- ---- the end of the words

fits_at_end : (j : Option Text) (written : List Written) (rows : List Row) (pending : Pending) (waiting : Waiting) (behind : Bool) → Clean j written rows pending →
    Verdict (at rows pending waiting (place j) behind) [] (job_list j ++ []) (written ++ [])
unfolding walk_fault
fits_at_end j written rows pending waiting behind c =
    restate (at rows pending waiting (place j) behind) [] (job_list j ++ []) (job_list j) (written ++ []) written (append-nil (job_list j)) (append-nil written) (fits fit)
  where
    fit : Fits (at rows pending waiting (place j) behind) [] (job_list j) written
    fit = record { j = j; free = refl; quiet = c.quiet; whole = refl; rows = c.found; job_is = refl; options_are = c.options_are }

awaits_bad : (name : Text) → is_among names name ≡ true → (rows : List Row) → settles rows (pends name []) ≡ [] → ⊥
awaits_bad name m rows e = let bad : kind.InvalidValue ∷ [] ≡ [] = sym (settles_valued name m rows []) ∙ e in cc

awaits_at_end : (name : Text) → is_among names name ≡ true → (j : Option Text) (written : List Written) (rows : List Row) →
    Verdict (at rows (pends name []) (option name) (place j) false) [] (job_list j ++ positional (hyphened name ∷ [])) (written ++ options (hyphened name ∷ []))
awaits_at_end name m j written rows =
    restate _ [] _ _ _ _ refl (ap (λ os. written ++ os) (FormWords.last_options name m))
    (fails (at_end rows (pends name []) (awaits_bad name m rows) (option name) (place j) false) (λ j' is are. never_valueless name m written [] are))

-- ---- where any word may follow

module _ (words : List Text) (rest : Verdicts words) (j : Option Text) (before : List Written) (rows : List Row) (pending : Pending) (c : Clean j before rows pending) where
  abbrev start : Walk
  start = at rows pending idle (place j) false

  abbrev Goal : Text → Type 0
  Goal w = Verdict start (w ∷ words) (job_list j ++ positional (w ∷ words)) (before ++ options (w ∷ words))

  -- `--`
  any_ends : Goal (codes "--")
  any_ends = restate start _ _ _ _ _ (ap (λ ps. job_list j ++ ps) (FormWords.ended_positional words)) (ap (λ os. before ++ os) (FormWords.ended_options words))
      (go_on start (codes "--") words _ _ _ (FormWalk.ends_turn rows pending idle (place j)) (FormWalk.ends_goes rows pending idle (place j)) (rest.behind j before rows pending idle c))

  -- a flag in one hyphen
  any_short : (x : ℕ) (xs : Text) → (x == 45) ≡ false → IsUtf8 (45 ∷ x ∷ xs) → Goal (45 ∷ x ∷ xs)
  any_short x xs other utf8 = restate start _ _ _ _ _
      (ap (λ ps. job_list j ++ ps) (FormWords.option_positional (45 ∷ x ∷ xs) words (FormWords.short_ends x xs other) (FormWords.short_name x xs other) refl))
      (ap (λ os. before ++ os) (FormWords.option_options (45 ∷ x ∷ xs) words (FormWords.short_ends x xs other) (FormWords.short_name x xs other) refl))
      (stop start (45 ∷ x ∷ xs) words _ _ (unknown _ (FormWalk.short_turn rows pending idle (place j) x xs other utf8))
      (λ j' is are. never_unknown before (written (45 ∷ x ∷ xs)) (options words) (FormWords.unknown_short x xs other) are))

  -- an option in two hyphens
  module _ (x : ℕ) (xs : Text) where
    abbrev long_word : Text
    long_word = hyphened (x ∷ xs)

    -- the name alone, of an option that has a value
    any_alone : is_among names (name x xs) ≡ true → value x xs ≡ None → Goal long_word
    any_alone m none = restate start _ _ _ _ _
        (ap (λ n. job_list j ++ positional (hyphened n ∷ words)) (FormWords.is_alone x xs none))
        (ap (λ n. before ++ options (hyphened n ∷ words)) (FormWords.is_alone x xs none))
        (go_on start long_word words _ _ _
        (FormWalk.valueless_turn rows pending idle (place j) x xs m none ∙ neither (settles rows pending) [] c.quiet refl)
        (FormWalk.valueless_goes rows pending idle (place j) x xs m none)
        (rest.awaiting (name x xs) m j before (settled rows pending) c.found c.options_are))

    module _ (other : is_among names (name x xs) ≡ true → value x xs ≡ None → ⊥) (n : Text) (v : Option Text) (is : name x xs ≡ n) (alike : value x xs ≡ v) where
      as_option : Verdict start (long_word ∷ words) (job_list j ++ positional words) (before ++ option_of n v ∷ options words) → Goal long_word
      as_option verdict = restate start _ _ _ _ _
          (ap (λ ps. job_list j ++ ps) (FormWords.option_positional long_word words refl (FormWords.not_alone x xs other) refl))
          (ap (λ os. before ++ os) (FormWords.option_options long_word words refl (FormWords.not_alone x xs other) refl
          ∙ ap (λ o. o ∷ options words) (FormWords.long_written x xs ∙ ap₂ option_of is alike)))
          verdict

    any_unknown : bytes_eq (codes "strict") (name x xs) ≡ false → is_among names (name x xs) ≡ false → Goal long_word
    any_unknown s m = as_option (λ so none. cc) (name x xs) (value x xs) refl refl
        (stop start long_word words _ _ (unknown _ (FormWalk.unknown_turn rows pending idle (place j) x xs s m))
        (λ j' is are. never_unknown before (option_of (name x xs) (value x xs)) (options words) (FormWords.unknown_long x xs s m) are))

    -- `--strict`
    module _ (s : bytes_eq (codes "strict") (name x xs) ≡ true) where
      no_value_name : is_among names (name x xs) ≡ true → value x xs ≡ None → ⊥
      no_value_name m none = let not_so : bytes_eq (codes "strict") (name x xs) ≡ false = not_strict (name x xs) m in cc

      is_strict : name x xs ≡ codes "strict"
      is_strict = sym (equal (codes "strict") (name x xs) s)

      any_strict_valued : (t : Text) → value x xs ≡ Some t → Goal long_word
      any_strict_valued t some = as_option no_value_name (codes "strict") (Some t) is_strict some
          (stop start long_word words _ _ (too_many _ (FormWalk.strict_valued rows pending idle (place j) x xs s t some))
          (λ j' is are. never_strict_valued before t (options words) are))

      any_strict : value x xs ≡ None → Goal long_word
      any_strict none = as_option no_value_name (codes "strict") None is_strict none (go (written_of (codes "strict") before) refl)
        where
          go : (o : Option Written) → written_of (codes "strict") before ≡ o →
              Verdict start (long_word ∷ words) (job_list j ++ positional words) (before ++ option_of (codes "strict") None ∷ options words)
          go None new = one_more start (long_word ∷ words) _ before (option_of (codes "strict") None) (options words)
              (go_on start long_word words _ _ _
              (FormWalk.strict_turn rows pending idle (place j) x xs s none
              ∙ neither _ [] (neither _ _ c.quiet (strict_free (settled rows pending) (strict_first j before (settled rows pending) c.found c.options_are new))) refl)
              (FormWalk.strict_goes rows pending idle (place j) x xs s none)
              (rest.any j (before ++ option_of (codes "strict") None ∷ []) (used strict [] (settled rows pending)) None (strict_used j before (settled rows pending) c.found c.options_are new)))
          go (Some found) e = stop start long_word words _ _
              (λ free. strict_again (settled rows pending) _ (strict_found j before (settled rows pending) c.found c.options_are found e)
              (second_of_two (settles rows pending) _ (first_of_two _ [] (sym (FormWalk.strict_turn rows pending idle (place j) x xs s none) ∙ free))))
              (λ j' is are. never_strict_again before found (options words) e are)

    -- the name and the value
    any_valued : is_among names (name x xs) ≡ true → (t : Text) → value x xs ≡ Some t → Goal long_word
    any_valued m t some = as_option (λ so none. cc) (name x xs) (Some t) refl some (go (written_of (name x xs) before) refl)
      where
        go : (o : Option Written) → written_of (name x xs) before ≡ o →
            Verdict start (long_word ∷ words) (job_list j ++ positional words) (before ++ option_of (name x xs) (Some t) ∷ options words)
        go None new = one_more start (long_word ∷ words) _ before (option_of (name x xs) (Some t)) (options words)
            (go_on start long_word words _ _ _
            (FormWalk.valued_turn rows pending idle (place j) x xs m t some
            ∙ neither _ [] (neither _ _ c.quiet (valued_free (name x xs) (settled rows pending) t (name_first j before (settled rows pending) c.found c.options_are (name x xs) m new))) refl)
            (FormWalk.valued_goes rows pending idle (place j) x xs m t some)
            (rest.any j (before ++ option_of (name x xs) (Some t) ∷ []) (used (valued (name x xs)) (t ∷ []) (settled rows pending)) None
            (value_used j before (settled rows pending) c.found c.options_are (name x xs) m new t)))
        go (Some found) e = stop start long_word words _ _
            (λ free. valued_again (name x xs) (settled rows pending) t _ (name_found j before (settled rows pending) c.found c.options_are (name x xs) m found e)
            (second_of_two (settles rows pending) _ (first_of_two _ [] (sym (FormWalk.valued_turn rows pending idle (place j) x xs m t some) ∙ free))))
            (λ j' is are. never_again (name x xs) m before (options words) (Some t) found e are)

    any_long : Goal long_word
    any_long = go (bytes_eq (codes "strict") (name x xs)) (is_among names (name x xs)) (value x xs) refl refl refl
      where
        go : (s m : Bool) (o : Option Text) → bytes_eq (codes "strict") (name x xs) ≡ s → is_among names (name x xs) ≡ m → value x xs ≡ o → Goal long_word
        go true m None s_is m_is o_is = any_strict s_is o_is
        go true m (Some t) s_is m_is o_is = any_strict_valued s_is t o_is
        go false true None s_is m_is o_is = any_alone m_is o_is
        go false true (Some t) s_is m_is o_is = any_valued m_is t o_is
        go false false o s_is m_is o_is = any_unknown s_is m_is

-- a word that is no option
any_plain : (words : List Text) (rest : Verdicts words) (j : Option Text) (before : List Written) (rows : List Row) (pending : Pending) (c : Clean j before rows pending)
    (word : Text) → is_option word ≡ false → ends_options word ≡ false → long_of word ≡ None → short_of word ≡ None → Goal words rest j before rows pending c word
any_plain words rest None before rows pending c word not_so a l s =
    restate _ _ _ _ _ _ (FormWords.plain_positional word words a not_so) (ap (λ os. before ++ os) (FormWords.plain_options word words a not_so))
    (go_on _ word words _ _ _ (FormWalk.plain_first word rows pending a l s ∙ c.quiet) (FormWalk.plain_goes word rows pending a l s)
    (rest.any (Some word) before (settled rows pending) (Some (codes "job", word ∷ [])) (with_job before rows pending word c)))
any_plain words rest (Some text) before rows pending c word not_so a l s =
    restate _ _ _ _ _ _ (ap (λ ps. text ∷ ps) (FormWords.plain_positional word words a not_so)) (ap (λ os. before ++ os) (FormWords.plain_options word words a not_so))
    (stop _ word words _ _ (unknown _ (FormWalk.plain_second word rows pending a l s)) (λ j' is are. two_jobs text word (positional words) j' is))

any_word : (word : Text) (words : List Text) (rest : Verdicts words) → IsUtf8 word → (j : Option Text) (before : List Written) (rows : List Row) (pending : Pending) (c : Clean j before rows pending) →
    Goal words rest j before rows pending c word
any_word word words rest utf8 j before rows pending c = go (looks word)
  where
    go : Look word → Goal words rest j before rows pending c word
    go (plain not_so a l s) = any_plain words rest j before rows pending c word not_so a l s
    go (ends is) = subst (Goal words rest j before rows pending c) (sym is) (any_ends words rest j before rows pending c)
    go (long x xs is) = subst (Goal words rest j before rows pending c) (sym is) (any_long words rest j before rows pending c x xs)
    go (short x xs other is) = subst (Goal words rest j before rows pending c) (sym is) (any_short words rest j before rows pending c x xs other (subst IsUtf8 is utf8))

-- ---- behind an option that has a value

module _ (words : List Text) (rest : Verdicts words) (utf8 : AllUtf8 words) (name : Text) (m : is_among names name ≡ true) (j : Option Text) (before : List Written) (rows : List Row)
    (h : Rows j before rows) (are : AreOptions before) where
  abbrev waits : Walk
  waits = at rows (pends name []) (option name) (place j) false

  abbrev ValueGoal : Text → Type 0
  ValueGoal word = Verdict waits (word ∷ words) (job_list j ++ positional (hyphened name ∷ word ∷ words)) (before ++ options (hyphened name ∷ word ∷ words))

  -- an option is no value
  value_option : (word : Text) → is_option word ≡ true → (fault waits (word ∷ words) ≡ [] → ⊥) → ValueGoal word
  value_option word so bad =
      restate waits (word ∷ words) _ _ _ _ refl (ap (λ os. before ++ os) (FormWords.no_value_options name m word words so))
      (fails bad (λ j' is are. never_valueless name m before (options (word ∷ words)) are))

  value_plain : (word : Text) → is_option word ≡ false → bytes_eq word (codes "--") ≡ false → long_of word ≡ None → short_of word ≡ None → ValueGoal word
  value_plain word not_so a l s =
      restate waits (word ∷ words) _ _ _ _ (ap (λ ps. job_list j ++ ps) (FormWords.value_positional name m word words not_so)) (ap (λ os. before ++ os) (FormWords.value_options name m word words not_so))
      (go (written_of name before) refl)
    where
      go : (o : Option Written) → written_of name before ≡ o → Verdict waits (word ∷ words) (job_list j ++ positional words) (before ++ option_of name (Some word) ∷ options words)
      go None new = one_more waits (word ∷ words) _ before (option_of name (Some word)) (options words)
          (go_on waits word words _ _ _ (FormWalk.value_turn word rows None a l s name (place j)) (FormWalk.value_goes word rows None a l s name (place j) m)
          (rest.any j (before ++ option_of name (Some word) ∷ []) rows (pends name (word ∷ [])) (value_pends j before rows h are name m new word)))
      go (Some found) e = doom waits word words _ _ _ (FormWalk.value_goes word rows None a l s name (place j) m)
          (doomed rows (pends name (word ∷ []))
          (λ free. valued_again name rows word _ (name_found j before rows h are name m found e) (sym (settles_valued name m rows (word ∷ [])) ∙ free)) j words utf8)
          (λ j' is are. never_again name m before (options words) (Some word) found e are)

  value_word : (word : Text) → IsUtf8 word → ValueGoal word
  value_word word is_utf8 = go (looks word)
    where
      go : Look word → ValueGoal word
      go (plain not_so a l s) = value_plain word not_so a l s
      go (ends is) = subst ValueGoal (sym is) (value_option (codes "--") refl
          (λ e. doomed_behind rows (pends name []) (awaits_bad name m rows) (option name) j words
          (subst (λ w. fault w words ≡ []) (FormWalk.ends_goes rows (pends name []) (option name) (place j)) (fault_rest waits (codes "--") words e))))
      go (long x xs is) = subst ValueGoal (sym is) (value_option (hyphened (x ∷ xs)) refl
          (λ e. awaits_bad name m rows (long_settles rows (pends name []) (option name) (place j) x xs (fault_first waits (hyphened (x ∷ xs)) words e))))
      go (short x xs other is) = subst ValueGoal (sym is) (value_option (45 ∷ x ∷ xs) refl
          (λ e. unknown _ (FormWalk.short_turn rows (pends name []) (option name) (place j) x xs other (subst IsUtf8 is is_utf8)) (fault_first waits (45 ∷ x ∷ xs) words e)))

-- ---- behind `--`

behind_word : (word : Text) (words : List Text) (rest : Verdicts words) (j : Option Text) (before : List Written) (rows : List Row) (pending : Pending) (waiting : Waiting) →
    Clean j before rows pending → Verdict (at rows pending waiting (place j) true) (word ∷ words) (job_list j ++ word ∷ words) (before ++ [])
behind_word word words rest None before rows pending waiting c =
    go_on _ word words _ _ _ (FormWalk.behind_first word rows pending waiting ∙ c.quiet) (FormWalk.behind_goes word rows pending waiting)
    (rest.behind (Some word) before (settled rows pending) (Some (codes "job", word ∷ [])) idle (with_job before rows pending word c))
behind_word word words rest (Some text) before rows pending waiting c =
    stop _ word words _ _ (unknown _ (FormWalk.behind_second word rows pending waiting)) (λ j' is are. two_jobs text word words j' is)

-- ---- all words

verdicts : (words : List Text) → AllUtf8 words → Verdicts words
verdicts [] utf8 = record {
  any = λ j written rows pending c. fits_at_end j written rows pending idle false c;
  awaiting = λ name m j written rows h are. awaits_at_end name m j written rows;
  behind = λ j written rows pending waiting c. fits_at_end j written rows pending waiting true c;
}
verdicts (word ∷ words) utf8 =
    let rest = verdicts words utf8.1 in record {
      any = any_word word words rest utf8.0;
      awaiting = λ name m j written rows h are. value_word words rest utf8.1 name m j written rows h are word utf8.0;
      behind = behind_word word words rest;
    }

-- nothing is found before the words
nothing : Clean None [] [] None
nothing = at_rows None [] [] (record { job = refl; option = λ id other. refl }) (record { known = refl; strict = (false, refl); values = λ name m. (None, refl) })

abbrev pub begun : Walk
begun = at [] None idle 1 false

pub verdict : (words : List Text) → AllUtf8 words → Verdict begun words (positional words) (options words)
verdict words utf8 = (verdicts words utf8).any None [] [] None nothing
