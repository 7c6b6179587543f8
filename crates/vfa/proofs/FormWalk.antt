-- The walk of the form over a command's words, a word at a time.
use Rattle.std.proofs.Common.{◌≡◌, ◌∙◌, ◌&&◌, ◌==◌, ◌∷◌, [], List, ℕ, Bool, true, false, Option, Some, None, if◌then◌else◌, nat_lt, length, drop, encode_utf8, codes, refl, sym, ap, ap₂, subst}
use Rattle.std.specs.Prelude.{slice_get, suc}
use Rattle.std.specs.Option.{option_map_or}
use Rattle.std.specs.Str.{IsUtf8, bytes_eq, chars, encode_utf8_all as encodes}
use Rattle.std.proofs.lemmas.Bool.{eqb-true}
use Rattle.std.proofs.lemmas.Str.{encodes-chars}
use lib.Utf8.{encode}
use Rattle.clap.specs.Faults.{bundle_fault, bundle_step_fault, flags_fault, long_fault, short_fault, positional_fault, settle_fault, step_fault, turn_fault, use_fault}
use Rattle.clap.specs.Kinds.{Kinds, or_else}
use Rattle.clap.specs.Lexer.{long_of, short_of, name_and_value}
use Rattle.clap.specs.Walk.{Held, Row, Rule, Text, Waiting, Walk, idle, after_flag, after_step, arg_by_id, arg_by_long, is_pending, long_met, option, option_word, positional, positional_held, pushed, settled_rows, short_or_plain, subcommand_met, used, used_by_id, walked}
use Rattle.clap.specs.declared.error.kind.ErrorKind.TheVariants as kind
use Rattle.vfa.specs.Command.{is_among, is_option}
use Rattle.vfa.proofs.FormRows.{id_valued, hyphened, job, long_strict, long_unknown, long_valued, names, no_second, no_short, rules, same_text, shape, strict, valued}

-- ---- faults

pub first_of_two : (a b : Kinds) → or_else a b ≡ [] → a ≡ []
first_of_two [] b e = refl
first_of_two (k ∷ ks) b e = cc

pub second_of_two : (a b : Kinds) → or_else a b ≡ [] → b ≡ []
second_of_two [] b e = e
second_of_two (k ∷ ks) b e = cc

pub neither : (a b : Kinds) → a ≡ [] → b ≡ [] → or_else a b ≡ []
neither a b e f = ap (λ k. or_else k b) e ∙ f

-- ---- words

-- what a word looks like to the walk
pub data Look (word : Text) : Type 0 where
  plain : is_option word ≡ false → bytes_eq word (codes "--") ≡ false → long_of word ≡ None → short_of word ≡ None → Look word
  ends : word ≡ codes "--" → Look word
  long : (x : ℕ) (xs : Text) → word ≡ 45 ∷ 45 ∷ x ∷ xs → Look word
  short : (x : ℕ) (xs : Text) → (x == 45) ≡ false → word ≡ 45 ∷ x ∷ xs → Look word

no_hyphen : (b : ℕ) (rest : Text) → (b == 45) ≡ false → Look (b ∷ rest)
no_hyphen b [] e = plain refl (rw e refl) (rw e refl) (rw e refl)
no_hyphen b (c ∷ rest) e = plain (rw e refl) (rw e refl) (rw e refl) (rw e refl)

one_hyphen : (b : ℕ) (rest : Text) → (b == 45) ≡ false → Look (45 ∷ b ∷ rest)
one_hyphen b rest e = short b rest e refl

two_hyphens : (rest : Text) → Look (45 ∷ 45 ∷ rest)
two_hyphens [] = ends refl
two_hyphens (x ∷ xs) = long x xs refl

second_by : (c : ℕ) (rest : Text) (t : Bool) → (c == 45) ≡ t → Look (45 ∷ c ∷ rest)
second_by c rest true e = subst (λ c. Look (45 ∷ c ∷ rest)) (sym (eqb-true c 45 e)) (two_hyphens rest)
second_by c rest false e = one_hyphen c rest e

hyphen : (rest : Text) → Look (45 ∷ rest)
hyphen [] = plain refl refl refl refl
hyphen (c ∷ rest) = second_by c rest (c == 45) refl

first_by : (b : ℕ) (rest : Text) (t : Bool) → (b == 45) ≡ t → Look (b ∷ rest)
first_by b rest true e = subst (λ b. Look (b ∷ rest)) (sym (eqb-true b 45 e)) (hyphen rest)
first_by b rest false e = no_hyphen b rest e

pub looks : (word : Text) → Look word
looks [] = plain refl refl refl refl
looks (b ∷ rest) = first_by b rest (b == 45) refl

-- a flag in one hyphen begins with a character
first_char : (b : ℕ) (rest : Text) → IsUtf8 (45 ∷ b ∷ rest) → (c : ℕ) × (slice_get (chars (b ∷ rest)) 0 ≡ Some c)
unfolding chars encode
first_char b rest utf8 = go (chars (b ∷ rest)) refl
  where
    go : (cs : List ℕ) → chars (b ∷ rest) ≡ cs → (c : ℕ) × (slice_get (chars (b ∷ rest)) 0 ≡ Some c)
    go [] e =
        let whole : encodes (chars (45 ∷ b ∷ rest)) ≡ 45 ∷ b ∷ rest = encodes-chars (45 ∷ b ∷ rest) utf8 in
        let alone : chars (45 ∷ b ∷ rest) ≡ 45 ∷ [] = ap (λ cs. 45 ∷ cs) e in
        let bad : ◌≡◌ {A = List ℕ} (45 ∷ []) (45 ∷ b ∷ rest) = sym (ap encodes alone) ∙ whole in
        cc
    go (c ∷ cs) e = (c, ap (λ cs. slice_get cs 0) e)

-- ---- places

abbrev pub held : List Row → Option (Text × List Text) → Held
held rows pending = record { rows = rows; pending = pending; skip = 0 }

abbrev pub place : Option Text → ℕ
place None = 1
place (Some text) = 2

abbrev pub at : List Row → Option (Text × List Text) → Waiting → ℕ → Bool → Walk
at rows pending waiting position behind =
    record { held = held rows pending; waiting = waiting; position = position; is_trailing = behind; stopped = None }

abbrev pub turn : Walk → Text → Kinds
turn w word = turn_fault shape [] w word

abbrev pub next : Walk → Text → Walk
next w word = walked rules [] w word

abbrev pub settles : List Row → Option (Text × List Text) → Kinds
settles rows pending = settle_fault rules false (held rows pending)

abbrev pub settled : List Row → Option (Text × List Text) → List Row
settled rows pending = settled_rows rules pending rows

-- an option that has a value, with the values that it has so far
abbrev pub pends : Text → List Text → Option (Text × List Text)
pends name values = Some (name, values)

module _ (name : Text) (m : is_among names name ≡ true) (rows : List Row) (texts : List Text) where
  abbrev fault_by : Option Rule → Kinds
  fault_by a = option_map_or (λ a. use_fault false a texts rows) a []

  pub settles_valued : settles rows (pends name texts) ≡ use_fault false (valued name) texts rows
  settles_valued = ap fault_by (id_valued name m)

  pub settled_valued : settled rows (pends name texts) ≡ used (valued name) texts rows
  settled_valued = ap (λ a. used_by_id a texts rows) (id_valued name m)

-- ---- a word that is no option

-- the job takes one word, so that what is pending ends before it
job_settles : (rows : List Row) (pending : Option (Text × List Text)) → positional_fault rules false job (held rows pending) ≡ settles rows pending
job_settles rows pending = go (is_pending job pending)
  where
    go : (t : Bool) → (if t && false then [] else settles rows pending) ≡ settles rows pending
    go true = refl
    go false = refl

job_held : (word : Text) (rows : List Row) (pending : Option (Text × List Text)) →
    positional_held rules job word (held rows pending) ≡ held (settled rows pending) (Some (codes "job", word ∷ []))
job_held word rows pending = go (is_pending job pending)
  where
    go : (t : Bool) → pushed (codes "job") word (if t && false then held rows pending else held (settled rows pending) None) ≡ held (settled rows pending) (Some (codes "job", word ∷ []))
    go true = refl
    go false = refl

module _ (word : Text) (rows : List Row) (pending : Option (Text × List Text)) where
  -- the first one is the job
  abbrev pub jobbed : Bool → Walk
  jobbed behind = at (settled rows pending) (Some (codes "job", word ∷ [])) idle 2 behind

  abbrev with_held : Bool → Held → Walk
  with_held behind h = record { held = h; waiting = idle; position = 2; is_trailing = behind; stopped = None }

  -- there is no other one
  abbrev stray : Option Rule → Kinds
  stray a = option_map_or (λ a. positional_fault rules false a (held rows pending)) a (kind.UnknownArgument ∷ [])

  pub behind_first : (waiting : Waiting) → turn (at rows pending waiting 1 true) word ≡ settles rows pending
  behind_first waiting = job_settles rows pending

  pub behind_goes : (waiting : Waiting) → next (at rows pending waiting 1 true) word ≡ jobbed true
  unfolding walked
  behind_goes waiting = ap (with_held true) (job_held word rows pending)

  pub behind_second : (waiting : Waiting) → turn (at rows pending waiting 2 true) word ≡ kind.UnknownArgument ∷ []
  behind_second waiting = ap stray no_second

  module _ (a : bytes_eq word (codes "--") ≡ false) (l : long_of word ≡ None) (s : short_of word ≡ None) where
    pub plain_first : turn (at rows pending idle 1 false) word ≡ settles rows pending
    plain_first = rw (a, l, s) (job_settles rows pending)

    pub plain_goes : next (at rows pending idle 1 false) word ≡ jobbed false
    unfolding walked
    plain_goes = rw (a, l, s) (ap (with_held false) (job_held word rows pending))

    pub plain_second : turn (at rows pending idle 2 false) word ≡ kind.UnknownArgument ∷ []
    plain_second = rw (a, l, s) (ap stray no_second)

    -- behind an option that has a value it is the value
    module _ (name : Text) (n : ℕ) where
      abbrev waits : Walk
      waits = at rows (pends name []) (option name) n false

      pub value_turn : turn waits word ≡ []
      value_turn = rw (a, l, s) refl

      abbrev value_held : Option Rule → Walk
      value_held r = let met = option_word r name word (held rows (pends name [])) in record waits { held = met.0; waiting = met.1 }

      value_by : next waits word ≡ value_held (arg_by_id rules name)
      unfolding walked
      value_by = rw (a, l, s) refl

      abbrev then_waiting : Bool → Waiting
      then_waiting same = if nat_lt (if same then 1 else 0) 1 then option name else idle

      pub value_goes : is_among names name ≡ true → next waits word ≡ at rows (pends name (word ∷ [])) idle n false
      value_goes m = value_by ∙ ap value_held (id_valued name m) ∙ ap (λ same. at rows (pends name (word ∷ [])) (then_waiting same) n false) (same_text name)

-- ---- a word that is an option, whatever stands before it

-- no word names a subcommand
unnamed : (waiting : Waiting) (word : Text) → subcommand_met [] waiting word ≡ None
unnamed idle word = refl
unnamed (option id) word = refl
unnamed positional word = refl

-- no character is a flag
no_flag : (b c : ℕ) (rest : Text) (h : Held) → slice_get (chars (b ∷ rest)) 0 ≡ Some c → flags_fault rules false (suc (length rest)) (b ∷ rest) 0 h ≡ kind.UnknownArgument ∷ []
unfolding flags_fault
no_flag b c rest h first =
    let left = drop (length (encode_utf8 c)) (b ∷ rest) in
    ap (λ o. bundle_step_fault rules false o (b ∷ rest) 0 h (flags_fault rules false (length rest))) first
    ∙ ap (λ a. short_fault rules false a left h (flags_fault rules false (length rest) left 0)) (no_short c)

module _ (rows : List Row) (pending : Option (Text × List Text)) (waiting : Waiting) (n : ℕ) where
  abbrev pub here : Walk
  here = at rows pending waiting n false

  pub ends_turn : turn here (codes "--") ≡ []
  ends_turn = rw (unnamed waiting (codes "--")) refl

  pub ends_goes : next here (codes "--") ≡ at rows pending waiting n true
  unfolding walked
  ends_goes = rw (unnamed waiting (codes "--")) refl

  module _ (x : ℕ) (xs : Text) (other : (x == 45) ≡ false) where
    after_short : Kinds
    after_short =
        let met = short_or_plain rules waiting (45 ∷ x ∷ xs) (Some (x ∷ xs)) (held rows pending) in
        step_fault shape n met.0 met.1

    by_flags : turn here (45 ∷ x ∷ xs) ≡ or_else (bundle_fault rules false (x ∷ xs) (held rows pending)) after_short
    unfolding after_short
    by_flags = rw (unnamed waiting (45 ∷ x ∷ xs), other, other) refl

    pub short_turn : IsUtf8 (45 ∷ x ∷ xs) → turn here (45 ∷ x ∷ xs) ≡ kind.UnknownArgument ∷ []
    short_turn utf8 =
        let first = first_char x xs utf8 in
        by_flags ∙ ap (λ k. or_else k after_short) (no_flag x first.0 xs (held rows pending) first.1)

  module _ (x : ℕ) (xs : Text) where
    abbrev word : Text
    word = hyphened (x ∷ xs)

    abbrev pub name : Text
    name = (name_and_value (x ∷ xs)).0

    abbrev pub value : Option Text
    value = (name_and_value (x ∷ xs)).1

    -- by the argument that has the name, and the value
    abbrev turn_by : Option Rule → Option Text → Kinds
    turn_by a v =
        let met = long_met rules a v (held rows pending) in
        let step = after_flag rules waiting word met.0 met.1 in
        or_else (long_fault rules false a v (held rows pending)) (step_fault shape n step.0 step.1)

    abbrev goes_by : Option Rule → Option Text → Walk
    goes_by a v =
        let met = long_met rules a v (held rows pending) in
        let step = after_flag rules waiting word met.0 met.1 in
        after_step rules word here step.0 step.1

    turns : turn here word ≡ turn_by (arg_by_long rules name) value
    turns = rw (unnamed waiting word) refl

    goes : next here word ≡ goes_by (arg_by_long rules name) value
    unfolding walked
    goes = rw (unnamed waiting word) refl

    module _ (s : bytes_eq (codes "strict") name ≡ true) where
      module _ (none : value ≡ None) where
        pub strict_turn : turn here word ≡ or_else (or_else (settles rows pending) (use_fault false strict [] (settled rows pending))) []
        strict_turn = turns ∙ ap₂ turn_by (long_strict name s) none

        pub strict_goes : next here word ≡ at (used strict [] (settled rows pending)) None idle n false
        strict_goes = goes ∙ ap₂ goes_by (long_strict name s) none

      pub strict_valued : (v : Text) → value ≡ Some v → turn here word ≡ kind.TooManyValues ∷ []
      strict_valued v some = turns ∙ ap₂ turn_by (long_strict name s) some

    pub unknown_turn : bytes_eq (codes "strict") name ≡ false → is_among names name ≡ false → turn here word ≡ kind.UnknownArgument ∷ []
    unknown_turn s m = turns ∙ ap (λ a. turn_by a value) (long_unknown name s m)

    module _ (m : is_among names name ≡ true) where
      module _ (none : value ≡ None) where
        pub valueless_turn : turn here word ≡ or_else (settles rows pending) []
        valueless_turn = turns ∙ ap₂ turn_by (long_valued name m) none

        pub valueless_goes : next here word ≡ at (settled rows pending) (pends name []) (option name) n false
        valueless_goes = goes ∙ ap₂ goes_by (long_valued name m) none

      module _ (v : Text) (some : value ≡ Some v) where
        pub valued_turn : turn here word ≡ or_else (or_else (settles rows pending) (use_fault false (valued name) (v ∷ []) (settled rows pending))) []
        valued_turn = turns ∙ ap₂ turn_by (long_valued name m) some

        pub valued_goes : next here word ≡ at (used (valued name) (v ∷ []) (settled rows pending)) None idle n false
        valued_goes = goes ∙ ap₂ goes_by (long_valued name m) some
