-- What one more word adds to the options and the other words of a command.
use Rattle.std.proofs.Common.{◌≡◌, ◌∙◌, ◌+◌, ◌==◌, ◌&&◌, ◌||◌, ◌∷◌, [], List, ℕ, Bool, true, false, not, Option, Some, None, if◌then◌else◌, nat_lt, codes, refl, sym, ap, ap₂, length, take, drop, slice_get, arith}
use Rattle.std.specs.List.{position_or_len, before_first, after_first}
use Rattle.std.specs.Prelude.{suc}
use Rattle.std.specs.Str.{bytes_eq}
use Rattle.std.proofs.lemmas.Bool.{lt-ltb}
use Rattle.clap.specs.Lexer.{has_byte, name_and_value}
use Rattle.vfa.specs.Command.{Written, written, is_equals, has_equals, is_option, ends_options, are_option_and_value, options, positional, is_among, is_known, strict_name, valued_names}
use Rattle.vfa.proofs.FormRows.{hyphened, names, of_member, option_of, unequal_by}

-- ---- names

-- the names with the hyphens and without
pub valued_long : (name : List ℕ) → is_among valued_names (hyphened name) ≡ is_among names name
unfolding names
valued_long name = refl

pub known_option : (name : List ℕ) (value : Option (List ℕ)) → is_known (option_of name value) ≡ (bytes_eq (codes "strict") name || is_among names name)
known_option name value = ap (λ b. bytes_eq (codes "strict") name || b) (valued_long name)

no_equals_within : (name : List ℕ) → is_among names name ≡ true → has_byte 61 name ≡ false
unfolding names
no_equals_within name m = of_member (λ n. has_byte 61 n ≡ false) names (refl, (refl, (refl, (refl, (refl, (refl, tt)))))) name m

-- a name begins with two hyphens, and does not end there
name_option : (word : List ℕ) → is_among valued_names word ≡ true → is_option word ≡ true
name_option word m = of_member (λ n. is_option n ≡ true) valued_names (refl, (refl, (refl, (refl, (refl, (refl, tt)))))) word m

name_ends : (word : List ℕ) → is_among valued_names word ≡ true → ends_options word ≡ false
name_ends word m = of_member (λ n. ends_options n ≡ false) valued_names (refl, (refl, (refl, (refl, (refl, (refl, tt)))))) word m

second_byte : (word : List ℕ) → is_among (strict_name ∷ valued_names) word ≡ true → slice_get word 1 ≡ Some 45
second_byte word m = of_member (λ n. slice_get n 1 ≡ Some 45) (strict_name ∷ valued_names) (refl, (refl, (refl, (refl, (refl, (refl, (refl, tt))))))) word m

not_among : (ns : List (List ℕ)) (word : List ℕ) → (is_among ns word ≡ true → ⊥) → is_among ns word ≡ false
not_among ns word not_so = unequal_by (is_among ns word) ⊥ not_so (λ e. e)

plain_name : (word : List ℕ) → is_option word ≡ false → is_among valued_names word ≡ false
plain_name word not_so = not_among valued_names word (λ m. let so : is_option word ≡ true = name_option word m in cc)

-- ---- the options and the other words, a word at a time

third : {A : Type 0} (x y z : Bool) (a b c d : A) → x ≡ false → y ≡ false → z ≡ true → (if x then a else (if y then b else (if z then c else d))) ≡ c
third true y z a b c d e f g = cc
third false true z a b c d e f g = cc
third false false true a b c d e f g = refl
third false false false a b c d e f g = cc

last : {A : Type 0} (x y z : Bool) (a b c d : A) → x ≡ false → y ≡ false → z ≡ false → (if x then a else (if y then b else (if z then c else d))) ≡ d
last true y z a b c d e f g = cc
last false true z a b c d e f g = cc
last false false true a b c d e f g = cc
last false false false a b c d e f g = refl

second : {A : Type 0} (x z : Bool) (a c d : A) → x ≡ false → z ≡ true → (if x then a else (if z then c else d)) ≡ c
second true z a c d e g = cc
second false true a c d e g = refl
second false false a c d e g = cc

neither : {A : Type 0} (x z : Bool) (a c d : A) → x ≡ false → z ≡ false → (if x then a else (if z then c else d)) ≡ d
neither true z a c d e g = cc
neither false true a c d e g = cc
neither false false a c d e g = refl

pair : {A : Type 0} (x y z : Bool) (a b c d : A) → x ≡ false → y ≡ true → (if x then a else (if y then b else (if z then c else d))) ≡ b
pair true y z a b c d e f = cc
pair false true z a b c d e f = refl
pair false false z a b c d e f = cc

no_pair : (word after : List ℕ) → is_among valued_names word ≡ false → are_option_and_value word after ≡ false
no_pair word after e = ap (λ b. b && not (is_option after)) e

is_pair : (name after : List ℕ) → is_among names name ≡ true → is_option after ≡ false → are_option_and_value (hyphened name) after ≡ true
is_pair name after m not_so = ap₂ (λ b o. b && not o) (valued_long name ∙ m) not_so

and_false : (b : Bool) → (b && false) ≡ false
and_false true = refl
and_false false = refl

no_value : (word after : List ℕ) → is_option after ≡ true → are_option_and_value word after ≡ false
no_value word after so = ap (λ o. is_among valued_names word && not o) so ∙ and_false (is_among valued_names word)

-- a word that is no option
pub plain_options : (word : List ℕ) (left : List (List ℕ)) → ends_options word ≡ false → is_option word ≡ false → options (word ∷ left) ≡ options left
plain_options word [] ends not_so = neither (ends_options word) (is_option word) [] (written word ∷ []) [] ends not_so
plain_options word (after ∷ left) ends not_so =
    last (ends_options word) (are_option_and_value word after) (is_option word) _ _ _ _ ends (no_pair word after (plain_name word not_so)) not_so

pub plain_positional : (word : List ℕ) (left : List (List ℕ)) → ends_options word ≡ false → is_option word ≡ false → positional (word ∷ left) ≡ word ∷ positional left
plain_positional word [] ends not_so = neither (ends_options word) (is_option word) [] [] (word ∷ []) ends not_so
plain_positional word (after ∷ left) ends not_so =
    last (ends_options word) (are_option_and_value word after) (is_option word) _ _ _ _ ends (no_pair word after (plain_name word not_so)) not_so

-- an option whose value is not the next word
pub option_options : (word : List ℕ) (left : List (List ℕ)) → ends_options word ≡ false → is_among valued_names word ≡ false → is_option word ≡ true →
    options (word ∷ left) ≡ written word ∷ options left
option_options word [] ends no_value so = second (ends_options word) (is_option word) [] (written word ∷ []) [] ends so
option_options word (after ∷ left) ends no_value so =
    third (ends_options word) (are_option_and_value word after) (is_option word) _ _ _ _ ends (no_pair word after no_value) so

pub option_positional : (word : List ℕ) (left : List (List ℕ)) → ends_options word ≡ false → is_among valued_names word ≡ false → is_option word ≡ true →
    positional (word ∷ left) ≡ positional left
option_positional word [] ends no_value so = second (ends_options word) (is_option word) [] [] (word ∷ []) ends so
option_positional word (after ∷ left) ends no_value so =
    third (ends_options word) (are_option_and_value word after) (is_option word) _ _ _ _ ends (no_pair word after no_value) so

pub ended_options : (left : List (List ℕ)) → options (codes "--" ∷ left) ≡ []
ended_options [] = refl
ended_options (after ∷ words) = refl

pub ended_positional : (left : List (List ℕ)) → positional (codes "--" ∷ left) ≡ left
ended_positional [] = refl
ended_positional (after ∷ words) = refl

-- ---- an option in one word

-- a text that begins with another byte than `=`
module _ (b : ℕ) (text : List ℕ) (other : (b == 61) ≡ false) where
  one_further : position_or_len is_equals (b ∷ text) ≡ suc (position_or_len is_equals text)
  one_further = rw other (omega arith)

  further_before : before_first is_equals (b ∷ text) ≡ b ∷ before_first is_equals text
  further_before = ap (λ n. take n (b ∷ text)) one_further

  further_after : after_first is_equals (b ∷ text) ≡ after_first is_equals text
  further_after = ap (λ n. drop n (b ∷ text)) (let e : position_or_len is_equals (b ∷ text) + 1 ≡ suc (position_or_len is_equals text + 1) = omega (arith, one_further) in e)

  further_has : has_equals (b ∷ text) ≡ has_equals text
  further_has = ap (λ n. nat_lt n (length (b ∷ text))) one_further ∙ both_further (position_or_len is_equals text) (length text)
    where
      both_further : (m n : ℕ) → nat_lt (suc m) (suc n) ≡ nat_lt m n
      both_further m n = grind arith

-- the text before the first `=`, and the text behind it where there is one
equals_found : (text : List ℕ) → has_equals text ≡ has_byte 61 text
equals_found [] = refl
equals_found (b ∷ text) = go (b == 61) refl (equals_found text)
  where
    go : (t : Bool) → (b == 61) ≡ t → has_equals text ≡ has_byte 61 text → has_equals (b ∷ text) ≡ (t || has_byte 61 text)
    go true e rest = rw e (lt-ltb 0 (length (b ∷ text)) (omega arith))
    go false e rest = further_has b text e ∙ rest

no_equals : (text : List ℕ) → has_byte 61 text ≡ false → before_first is_equals text ≡ text
no_equals [] e = refl
no_equals (b ∷ text) e = go (b == 61) refl e (no_equals text)
  where
    go : (t : Bool) → (b == 61) ≡ t → (t || has_byte 61 text) ≡ false → (has_byte 61 text ≡ false → before_first is_equals text ≡ text)
        → before_first is_equals (b ∷ text) ≡ b ∷ text
    go true e f rest = cc
    go false e f rest = further_before b text e ∙ ap (λ r. b ∷ r) (rest f)

abbrev with_value : List ℕ → Option (List ℕ) → Written
with_value n v = record { name = n; value = v }

written_as : (word n a : List ℕ) (h : Bool) → before_first is_equals word ≡ n → after_first is_equals word ≡ a → has_equals word ≡ h →
    written word ≡ with_value n (if h then Some a else None)
written_as word n a h named behind has =
    ap (λ m. with_value m (if has_equals word then Some (after_first is_equals word) else None)) named
    ∙ ap (λ b. with_value n (if has_equals word then Some b else None)) behind
    ∙ ap (λ g. with_value n (if g then Some a else None)) has

-- an option that has a value, with a next word that is it, with one that is an option, and with none
module _ (name : List ℕ) (m : is_among names name ≡ true) where
  name_goes_on : ends_options (hyphened name) ≡ false
  name_goes_on = name_ends (hyphened name) (valued_long name ∙ m)

  alone_written : written (hyphened name) ≡ option_of name None
  alone_written =
      let none = no_equals_within name m in
      written_as (hyphened name) (hyphened name) (after_first is_equals (hyphened name)) false
      (further_before 45 (45 ∷ name) refl ∙ ap (λ r. 45 ∷ r) (further_before 45 name refl ∙ ap (λ r. 45 ∷ r) (no_equals name none)))
      refl
      (further_has 45 (45 ∷ name) refl ∙ further_has 45 name refl ∙ equals_found name ∙ none)

  pub value_options : (value : List ℕ) (left : List (List ℕ)) → is_option value ≡ false → options (hyphened name ∷ value ∷ left) ≡ option_of name (Some value) ∷ options left
  value_options value left not_so =
      pair (ends_options (hyphened name)) (are_option_and_value (hyphened name) value) true
      [] (option_of name (Some value) ∷ options left) (written (hyphened name) ∷ options (value ∷ left)) (options (value ∷ left))
      name_goes_on (is_pair name value m not_so)

  pub value_positional : (value : List ℕ) (left : List (List ℕ)) → is_option value ≡ false → positional (hyphened name ∷ value ∷ left) ≡ positional left
  value_positional value left not_so =
      pair (ends_options (hyphened name)) (are_option_and_value (hyphened name) value) true
      (value ∷ left) (positional left) (positional (value ∷ left)) (hyphened name ∷ positional (value ∷ left))
      name_goes_on (is_pair name value m not_so)

  pub no_value_options : (word : List ℕ) (left : List (List ℕ)) → is_option word ≡ true → options (hyphened name ∷ word ∷ left) ≡ option_of name None ∷ options (word ∷ left)
  no_value_options word left so =
      third (ends_options (hyphened name)) (are_option_and_value (hyphened name) word) true
      [] (option_of name (Some word) ∷ options left) (written (hyphened name) ∷ options (word ∷ left)) (options (word ∷ left))
      name_goes_on (no_value (hyphened name) word so) refl
      ∙ ap (λ o. o ∷ options (word ∷ left)) alone_written

  pub last_options : options (hyphened name ∷ []) ≡ option_of name None ∷ []
  last_options = second (ends_options (hyphened name)) true [] (written (hyphened name) ∷ []) [] name_goes_on refl ∙ ap (λ o. o ∷ []) alone_written

module _ (x : ℕ) (xs : List ℕ) where
  abbrev pub name : List ℕ
  name = (name_and_value (x ∷ xs)).0

  abbrev pub value : Option (List ℕ)
  value = (name_and_value (x ∷ xs)).1

  pub long_written : written (hyphened (x ∷ xs)) ≡ option_of name value
  long_written =
      written_as (hyphened (x ∷ xs)) (hyphened name) (after_first is_equals (x ∷ xs)) (has_byte 61 (x ∷ xs))
      (further_before 45 (45 ∷ x ∷ xs) refl ∙ ap (λ r. 45 ∷ r) (further_before 45 (x ∷ xs) refl))
      (further_after 45 (45 ∷ x ∷ xs) refl ∙ further_after 45 (x ∷ xs) refl)
      (further_has 45 (45 ∷ x ∷ xs) refl ∙ further_has 45 (x ∷ xs) refl ∙ equals_found (x ∷ xs))

  abbrev value_by : Bool → Option (List ℕ)
  value_by has = if has then Some (after_first is_equals (x ∷ xs)) else None

  -- the name alone
  pub is_alone : value ≡ None → x ∷ xs ≡ name
  is_alone none = go (has_byte 61 (x ∷ xs)) refl none
    where
      go : (t : Bool) → has_byte 61 (x ∷ xs) ≡ t → value_by t ≡ None → x ∷ xs ≡ name
      go true e f = cc
      go false e f = sym (no_equals (x ∷ xs) e)

  -- a name with its value, or another name
  pub not_alone : (is_among names name ≡ true → value ≡ None → ⊥) → is_among valued_names (hyphened (x ∷ xs)) ≡ false
  not_alone other = not_among valued_names (hyphened (x ∷ xs)) (λ m.
      let within : is_among names (x ∷ xs) ≡ true = sym (valued_long (x ∷ xs)) ∙ m in
      let none : has_byte 61 (x ∷ xs) ≡ false = no_equals_within (x ∷ xs) within in
      other (ap (is_among names) (no_equals (x ∷ xs) none) ∙ within) (ap value_by none))

  pub unknown_long : bytes_eq (codes "strict") name ≡ false → is_among names name ≡ false → is_known (option_of name value) ≡ false
  unknown_long s m = known_option name value ∙ ap₂ (λ a b. a || b) s m

-- an option with one hyphen
module _ (x : ℕ) (xs : List ℕ) (other : (x == 45) ≡ false) where
  pub short_ends : ends_options (45 ∷ x ∷ xs) ≡ false
  short_ends = rw other refl

  -- a text that goes on with another byte than a hyphen, or does not go on
  not_hyphen : (rest : List ℕ) → (slice_get rest 0 ≡ Some 45 → ⊥) → is_among (strict_name ∷ valued_names) (45 ∷ rest) ≡ false
  not_hyphen rest unlike = not_among (strict_name ∷ valued_names) (45 ∷ rest) (λ m. unlike (second_byte (45 ∷ rest) m))

  other_byte : Some x ≡ Some 45 → ⊥
  other_byte e = let same : x ≡ 45 = cc in let is : (x == 45) ≡ true = ap (λ b. b == 45) same in cc

  pub short_name : is_among valued_names (45 ∷ x ∷ xs) ≡ false
  short_name = second_of_or (bytes_eq strict_name (45 ∷ x ∷ xs)) _ (not_hyphen (x ∷ xs) other_byte)
    where
      second_of_or : (a b : Bool) → (a || b) ≡ false → b ≡ false
      second_of_or true b e = cc
      second_of_or false b e = e

  pub unknown_short : is_known (written (45 ∷ x ∷ xs)) ≡ false
  unknown_short = ap (is_among (strict_name ∷ valued_names)) (further_before 45 (x ∷ xs) refl) ∙ go (x == 61) refl
    where
      go : (t : Bool) → (x == 61) ≡ t → is_among (strict_name ∷ valued_names) (45 ∷ before_first is_equals (x ∷ xs)) ≡ false
      go true e = rw e (not_hyphen [] (λ e. cc))
      go false e = ap (λ r. is_among (strict_name ∷ valued_names) (45 ∷ r)) (further_before x xs e) ∙ not_hyphen (x ∷ before_first is_equals xs) other_byte
