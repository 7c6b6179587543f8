-- A reader is exact for a spelling: what it reads is spelled so and fits; what fits and is spelled so is read, whatever
-- may follow; and where it stops, the lexemes before can be completed, and no others after change that.
use Rattle.std.proofs.Common.{◌≡◌, ℕ, suc, Bool, true, false, not, List, [], ◌∷◌, ◌++◌, length, Option, Some, None, Result, Ok, Err, ◌⊎◌, inl, inr, ⊎_elim, refl, sym, ◌∙◌, ap, subst, append_assoc}
use Rattle.vfa_ir.specs.Lexemes.{Lexeme}
use Rattle.vfa_read.specs.Readers.{Reader, ◌>>=◌, given, one, nothing, after, made, next_passes, choose, skip, ended}

-- whether these lexemes may follow
abbrev pub may : (Lexeme → Bool) → List Lexeme → Bool
may follow [] = true
may follow (l ∷ _) = follow l

pub record Stops {A : Type 0} (read : Reader A) (spell : A → List Lexeme) (Fits : A → Type 0) (ts : List Lexeme) (n : ℕ) : Type 0 where
  pub prefix : List Lexeme
  pub back : List Lexeme
  pub parts : ts ≡ prefix ++ back
  pub left : length back ≡ n
  pub value : A
  pub fits : Fits value
  pub more : List Lexeme
  pub viable : spell value ≡ prefix ++ more
  pub firm : (b : Lexeme) (rest other : List Lexeme) → back ≡ b ∷ rest → read (prefix ++ (b ∷ other)) ≡ Err (suc (length other))

pub record Exact {A : Type 0} (read : Reader A) (spell : A → List Lexeme) (Fits : A → Type 0) (follow : A → Lexeme → Bool) : Type 0 where
  pub sound : (ts rest : List Lexeme) (x : A) → read ts ≡ Ok (x, rest) → ts ≡ spell x ++ rest
  pub fits : (ts rest : List Lexeme) (x : A) → read ts ≡ Ok (x, rest) → Fits x
  pub ends : (ts rest : List Lexeme) (x : A) → read ts ≡ Ok (x, rest) → may (follow x) rest ≡ true
  pub again : (x : A) (rest : List Lexeme) → Fits x → may (follow x) rest ≡ true → read (spell x ++ rest) ≡ Ok (x, rest)
  pub stops : (ts : List Lexeme) (n : ℕ) → read ts ≡ Err n → Stops read spell Fits ts n
  pub some : A
  pub some_fits : Fits some

-- anything may follow
abbrev pub anything : {A : Type 0} → A → Lexeme → Bool
anything _ _ = true

pub may_anything : {A : Type 0} (x : A) (rest : List Lexeme) → may (anything x) rest ≡ true
may_anything x [] = refl
may_anything x (l ∷ ls) = refl

-- a chain gives a value, or stops, at its first or at its second part
pub record Both {A B : Type 0} (r : Result A ℕ) (f : A → Result B ℕ) (y : B) : Type 0 where
  pub first : A
  pub is : r ≡ Ok first
  pub then_is : f first ≡ Ok y

pub bind_ok : {A B : Type 0} (r : Result A ℕ) (f : A → Result B ℕ) (y : B) → (r >>= f) ≡ Ok y → Both r f y
bind_ok (Ok x) f y e = record { first = x; is = refl; then_is = e }
bind_ok (Err n) f y e = cc

pub record Second {A B : Type 0} (r : Result A ℕ) (f : A → Result B ℕ) (n : ℕ) : Type 0 where
  pub first : A
  pub is : r ≡ Ok first
  pub then_is : f first ≡ Err n

pub bind_err : {A B : Type 0} (r : Result A ℕ) (f : A → Result B ℕ) (n : ℕ) → (r >>= f) ≡ Err n → (r ≡ Err n) ⊎ Second r f n
bind_err (Ok x) f n e = inr (record { first = x; is = refl; then_is = e })
bind_err (Err m) f n e = inl cc

pub made_err : {A B : Type 0} (r : Result A ℕ) (f : A → B) (n : ℕ) → (r >>= λ p. Ok (f p)) ≡ Err n → r ≡ Err n
made_err (Ok x) f n e = cc
made_err (Err m) f n e = cc

-- only the first lexeme decides
pub may_same : (follow : Lexeme → Bool) (prefix : List Lexeme) (b : Lexeme) (rest other : List Lexeme) → may follow (prefix ++ (b ∷ rest)) ≡ may follow (prefix ++ (b ∷ other))
may_same follow [] b rest other = refl
may_same follow (l ∷ ls) b rest other = refl

pub next_same : (test : Lexeme → Bool) (prefix : List Lexeme) (b : Lexeme) (rest other : List Lexeme) → next_passes test (prefix ++ (b ∷ rest)) ≡ next_passes test (prefix ++ (b ∷ other))
next_same test [] b rest other = refl
next_same test (l ∷ ls) b rest other = refl

pub ok_is : {A : Type 0} (p q : A) → ◌≡◌ {A = Result A ℕ} (Ok p) (Ok q) → p ≡ q
ok_is p q e = cc

pub ok_value : {A B : Type 0} (p q : A × B) → ◌≡◌ {A = Result (A × B) ℕ} (Ok p) (Ok q) → p.0 ≡ q.0
ok_value p q e = ap (λ z. z.0) (ok_is p q e)

pub ok_rest : {A B : Type 0} (p q : A × B) → ◌≡◌ {A = Result (A × B) ℕ} (Ok p) (Ok q) → p.1 ≡ q.1
ok_rest p q e = ap (λ z. z.1) (ok_is p q e)

-- one lexeme

given_ok : {A : Type 0} (o : Option A) (ls rest : List Lexeme) (x : A) → given o ls ≡ Ok (x, rest) → (o ≡ Some x) × (ls ≡ rest)
given_ok None ls rest x e = cc
given_ok (Some y) ls rest x e = (ap Some (ok_value (y, ls) (x, rest) e), ok_rest (y, ls) (x, rest) e)

given_err : {A : Type 0} (o : Option A) (ls : List Lexeme) (n : ℕ) → given o ls ≡ Err n → (o ≡ None) × (suc (length ls) ≡ n)
given_err None ls n e = (refl, cc)
given_err (Some y) ls n e = cc

module _ {A : Type 0} (table : Lexeme → Option A) (form : A → Lexeme) (Fits : A → Type 0)
    (is : (l : Lexeme) (x : A) → table l ≡ Some x → l ≡ form x)
    (good : (l : Lexeme) (x : A) → table l ≡ Some x → Fits x)
    (back_again : (x : A) → Fits x → table (form x) ≡ Some x)
    (some : A) (some_fits : Fits some) where
  one_sound : (ts rest : List Lexeme) (x : A) → one table ts ≡ Ok (x, rest) → ts ≡ (form x ∷ []) ++ rest
  one_sound [] rest x e = cc
  one_sound (l ∷ ls) rest x e = let k = given_ok (table l) ls rest x e in let h = is l x k.0 in cc

  one_fits : (ts rest : List Lexeme) (x : A) → one table ts ≡ Ok (x, rest) → Fits x
  one_fits [] rest x e = cc
  one_fits (l ∷ ls) rest x e = good l x (given_ok (table l) ls rest x e).0

  one_stops : (ts : List Lexeme) (n : ℕ) → one table ts ≡ Err n → Stops (one table) (λ x. form x ∷ []) Fits ts n
  one_stops [] n e = record { prefix = []; back = []; parts = refl; left = cc; value = some; fits = some_fits; more = form some ∷ []; viable = refl; firm = λ b rest other h. cc }
  one_stops (l ∷ ls) n e =
      let k = given_err (table l) ls n e in
      record {
        prefix = [];
        back = l ∷ ls;
        parts = refl;
        left = k.1;
        value = some;
        fits = some_fits;
        more = form some ∷ [];
        viable = refl;
        firm = λ b rest other h. let same : table b ≡ None = (let i : l ≡ b = cc in ap table (sym i) ∙ k.0) in rw same refl;
      }

  pub one_exact : Exact (one table) (λ x. form x ∷ []) Fits anything
  one_exact = record {
    sound = one_sound;
    fits = one_fits;
    ends = λ ts rest x e. may_anything x rest;
    again = λ x rest f m. let same = back_again x f in rw same refl;
    stops = one_stops;
    some = some;
    some_fits = some_fits;
  }

-- nothing

pub nothing_exact : {A : Type 0} (x : A) → Exact (nothing x) (λ _. []) (λ y. y ≡ x) anything
nothing_exact x = record {
  sound = λ ts rest y e. ok_rest (x, ts) (y, rest) e;
  fits = λ ts rest y e. sym (ok_value (x, ts) (y, rest) e);
  ends = λ ts rest y e. may_anything y rest;
  again = λ y rest f m. ap (λ z. Ok (z, rest)) (sym f);
  stops = λ ts n e. cc;
  some = x;
  some_fits = refl;
}

-- where one after the other stops

module _ {A B : Type 0} (r : Reader A) (k : A → Reader B)
    (sa : A → List Lexeme) (FA : A → Type 0) (fa : A → Lexeme → Bool)
    (sb : A → B → List Lexeme) (FB : A → B → Type 0) (fb : A → B → Lexeme → Bool)
    (er : Exact r sa FA fa) (ek : (a : A) → FA a → Exact (k a) (sb a) (FB a) (fb a)) where
  abbrev pair_spelling : A × B → List Lexeme
  pair_spelling p = sa p.0 ++ sb p.0 p.1

  abbrev PairFits : A × B → Type 0
  PairFits p = FA p.0 × FB p.0 p.1

  -- what follows a first part that was read
  second_again : (a : A) (between : List Lexeme) → r (sa a ++ between) ≡ Ok (a, between) → after r k (sa a ++ between) ≡ (k a between >>= λ q. Ok ((a, q.0), q.1))
  second_again a between e = rw e refl

  stops_first : (ts : List Lexeme) (n : ℕ) → r ts ≡ Err n → Stops (after r k) pair_spelling PairFits ts n
  stops_first ts n e =
      let s = er.stops ts n e in
      let second = ek s.value s.fits in
      record {
        prefix = s.prefix;
        back = s.back;
        parts = s.parts;
        left = s.left;
        value = (s.value, second.some);
        fits = (s.fits, second.some_fits);
        more = s.more ++ sb s.value second.some;
        viable = ap (λ z. z ++ sb s.value second.some) s.viable ∙ append_assoc s.prefix s.more (sb s.value second.some);
        firm = λ b rest other h. let g = s.firm b rest other h in rw g refl;
      }

  stops_second : (ts : List Lexeme) (n : ℕ) → Second {B = (A × B) × List Lexeme} (r ts) (λ p. k p.0 p.1 >>= λ q. Ok ((p.0, q.0), q.1)) n → Stops (after r k) pair_spelling PairFits ts n
  stops_second ts n x =
      let a : A = x.first.0 in
      let between : List Lexeme = x.first.1 in
      let f = er.fits ts between a x.is in
      let bad : k a between ≡ Err n = made_err (k a between) (λ q. ((a, q.0), q.1)) n x.then_is in
      let s = (ek a f).stops between n bad in
      record {
        prefix = sa a ++ s.prefix;
        back = s.back;
        parts = er.sound ts between a x.is ∙ ap (λ z. sa a ++ z) s.parts ∙ sym (append_assoc (sa a) s.prefix s.back);
        left = s.left;
        value = (a, s.value);
        fits = (f, s.fits);
        more = s.more;
        viable = ap (λ z. sa a ++ z) s.viable ∙ sym (append_assoc (sa a) s.prefix s.more);
        firm = λ b rest other h.
            let ended : may (fa a) (s.prefix ++ s.back) ≡ true = ap (may (fa a)) (sym s.parts) ∙ er.ends ts between a x.is in
            let kept : may (fa a) (s.prefix ++ (b ∷ other)) ≡ true =
            may_same (fa a) s.prefix b other rest ∙ ap (λ z. may (fa a) (s.prefix ++ z)) (sym h) ∙ ended in
            let e = er.again a (s.prefix ++ (b ∷ other)) f kept in
            let g = s.firm b rest other h in
            ap (after r k) (append_assoc (sa a) s.prefix (b ∷ other)) ∙ second_again a (s.prefix ++ (b ∷ other)) e ∙ ap (λ z. z >>= λ q. Ok ((a, q.0), q.1)) g;
      }

  pub after_stops : (ts : List Lexeme) (n : ℕ) → after r k ts ≡ Err n → Stops (after r k) pair_spelling PairFits ts n
  after_stops ts n e = ⊎_elim (stops_first ts n) (stops_second ts n) (bind_err (r ts) _ n e)

-- one after the other

module _ {A B : Type 0} (r : Reader A) (k : A → Reader B)
    (sa : A → List Lexeme) (FA : A → Type 0) (fa : A → Lexeme → Bool)
    (sb : A → B → List Lexeme) (FB : A → B → Type 0) (fb : A → B → Lexeme → Bool)
    (er : Exact r sa FA fa) (ek : (a : A) → FA a → Exact (k a) (sb a) (FB a) (fb a))
    (joins : (a : A) (b : B) (rest : List Lexeme) → FA a → FB a b → may (fb a b) rest ≡ true → may (fa a) (sb a b ++ rest) ≡ true) where
  abbrev both_spelling : A × B → List Lexeme
  both_spelling p = sa p.0 ++ sb p.0 p.1

  abbrev BothFit : A × B → Type 0
  BothFit p = FA p.0 × FB p.0 p.1

  abbrev pair_follow : A × B → Lexeme → Bool
  pair_follow p = fb p.0 p.1

  record After (ts rest : List Lexeme) (p : A × B) : Type 0 where
    between : List Lexeme
    first_is : r ts ≡ Ok (p.0, between)
    second_is : k p.0 between ≡ Ok (p.1, rest)

  after_parts : (ts rest : List Lexeme) (p : A × B) → after r k ts ≡ Ok (p, rest) → After ts rest p
  after_parts ts rest p e =
      let x = bind_ok (r ts) _ _ e in
      let y = bind_ok (k x.first.0 x.first.1) _ _ x.then_is in
      let same : (x.first.0, y.first.0) ≡ p = ok_value ((x.first.0, y.first.0), y.first.1) (p, rest) y.then_is in
      let end : y.first.1 ≡ rest = ok_rest ((x.first.0, y.first.0), y.first.1) (p, rest) y.then_is in
      let a : x.first.0 ≡ p.0 = ap (λ z. z.0) same in
      let b : y.first.0 ≡ p.1 = ap (λ z. z.1) same in
      record {
        between = x.first.1;
        first_is = x.is ∙ ap (λ z. Ok (z, x.first.1)) a;
        second_is = ap (λ z. k z x.first.1) (sym a) ∙ y.is ∙ ap (λ z. Ok (z, y.first.1)) b ∙ ap (λ z. Ok (p.1, z)) end;
      }

  after_sound : (ts rest : List Lexeme) (p : A × B) → after r k ts ≡ Ok (p, rest) → ts ≡ both_spelling p ++ rest
  after_sound ts rest p e =
      let x = after_parts ts rest p e in
      let f = er.fits ts x.between p.0 x.first_is in
      er.sound ts x.between p.0 x.first_is
      ∙ ap (λ z. sa p.0 ++ z) ((ek p.0 f).sound x.between rest p.1 x.second_is)
      ∙ sym (append_assoc (sa p.0) (sb p.0 p.1) rest)

  after_fits : (ts rest : List Lexeme) (p : A × B) → after r k ts ≡ Ok (p, rest) → BothFit p
  after_fits ts rest p e =
      let x = after_parts ts rest p e in
      let f = er.fits ts x.between p.0 x.first_is in
      (f, (ek p.0 f).fits x.between rest p.1 x.second_is)

  after_ends : (ts rest : List Lexeme) (p : A × B) → after r k ts ≡ Ok (p, rest) → may (pair_follow p) rest ≡ true
  after_ends ts rest p e =
      let x = after_parts ts rest p e in
      let f = er.fits ts x.between p.0 x.first_is in
      (ek p.0 f).ends x.between rest p.1 x.second_is

  -- what follows a first part that was read
  second_again_here : (a : A) (between : List Lexeme) → r (sa a ++ between) ≡ Ok (a, between) → after r k (sa a ++ between) ≡ (k a between >>= λ q. Ok ((a, q.0), q.1))
  second_again_here a between e = rw e refl

  after_again : (p : A × B) (rest : List Lexeme) → BothFit p → may (pair_follow p) rest ≡ true → after r k (both_spelling p ++ rest) ≡ Ok (p, rest)
  after_again p rest f m =
      let e = er.again p.0 (sb p.0 p.1 ++ rest) f.0 (joins p.0 p.1 rest f.0 f.1 m) in
      let g = (ek p.0 f.0).again p.1 rest f.1 m in
      ap (after r k) (append_assoc (sa p.0) (sb p.0 p.1) rest) ∙ second_again_here p.0 (sb p.0 p.1 ++ rest) e ∙ ap (λ z. z >>= λ q. Ok ((p.0, q.0), q.1)) g

  pub after_exact : Exact (after r k) (λ p. sa p.0 ++ sb p.0 p.1) (λ p. FA p.0 × FB p.0 p.1) (λ p. fb p.0 p.1)
  after_exact =
      let second = ek er.some er.some_fits in
      record {
        sound = after_sound;
        fits = after_fits;
        ends = after_ends;
        again = after_again;
        stops = after_stops r k sa FA fa sb FB fb er ek;
        some = (er.some, second.some);
        some_fits = (er.some_fits, second.some_fits);
      }

-- made from what is read

-- what is made from something that fits
pub record Made {A B : Type 0} (f : A → B) (FA : A → Type 0) (y : B) : Type 0 where
  pub from : A
  pub fits : FA from
  pub is : f from ≡ y

module _ {A B : Type 0} (f : A → B) (r : Reader A)
    (sa : A → List Lexeme) (FA : A → Type 0) (fa : A → Lexeme → Bool)
    (sb : B → List Lexeme) (fb : B → Lexeme → Bool)
    (er : Exact r sa FA fa)
    (spelled : (a : A) → FA a → sb (f a) ≡ sa a) (followed : (a : A) → FA a → fb (f a) ≡ fa a) where
  record Read (ts rest : List Lexeme) (y : B) : Type 0 where
    from : A
    read_is : r ts ≡ Ok (from, rest)
    made_is : f from ≡ y

  made_parts : (ts rest : List Lexeme) (y : B) → made f r ts ≡ Ok (y, rest) → Read ts rest y
  made_parts ts rest y e =
      let x = bind_ok (r ts) _ _ e in
      let end : x.first.1 ≡ rest = ok_rest (f x.first.0, x.first.1) (y, rest) x.then_is in
      record { from = x.first.0; read_is = x.is ∙ ap (λ z. Ok (x.first.0, z)) end; made_is = ok_value (f x.first.0, x.first.1) (y, rest) x.then_is }

  made_fits : (ts rest : List Lexeme) (y : B) → made f r ts ≡ Ok (y, rest) → Made f FA y
  made_fits ts rest y e =
      let x = made_parts ts rest y e in
      record { from = x.from; fits = er.fits ts rest x.from x.read_is; is = x.made_is }

  spelling_of : (y : B) (m : Made f FA y) → sb y ≡ sa m.from
  spelling_of y m = ap sb (sym m.is) ∙ spelled m.from m.fits

  follow_of : (y : B) (m : Made f FA y) → fb y ≡ fa m.from
  follow_of y m = ap fb (sym m.is) ∙ followed m.from m.fits

  made_sound : (ts rest : List Lexeme) (y : B) → made f r ts ≡ Ok (y, rest) → ts ≡ sb y ++ rest
  made_sound ts rest y e =
      let x = made_parts ts rest y e in
      let m : Made f FA y = record { from = x.from; fits = er.fits ts rest x.from x.read_is; is = x.made_is } in
      er.sound ts rest x.from x.read_is ∙ ap (λ z. z ++ rest) (sym (spelling_of y m))

  made_ends : (ts rest : List Lexeme) (y : B) → made f r ts ≡ Ok (y, rest) → may (fb y) rest ≡ true
  made_ends ts rest y e =
      let x = made_parts ts rest y e in
      let m : Made f FA y = record { from = x.from; fits = er.fits ts rest x.from x.read_is; is = x.made_is } in
      ap (λ z. may z rest) (follow_of y m) ∙ er.ends ts rest x.from x.read_is

  made_again : (y : B) (rest : List Lexeme) → Made f FA y → may (fb y) rest ≡ true → made f r (sb y ++ rest) ≡ Ok (y, rest)
  made_again y rest m ok =
      let e = er.again m.from rest m.fits (ap (λ z. may z rest) (sym (follow_of y m)) ∙ ok) in
      ap (λ z. made f r (z ++ rest)) (spelling_of y m) ∙ ap (λ z. z >>= λ p. Ok (f p.0, p.1)) e ∙ ap (λ z. Ok (z, rest)) m.is

  made_stops : (ts : List Lexeme) (n : ℕ) → made f r ts ≡ Err n → Stops (made f r) sb (Made f FA) ts n
  made_stops ts n e =
      let s = er.stops ts n (made_err (r ts) (λ p. (f p.0, p.1)) n e) in
      record {
        prefix = s.prefix;
        back = s.back;
        parts = s.parts;
        left = s.left;
        value = f s.value;
        fits = record { from = s.value; fits = s.fits; is = refl };
        more = s.more;
        viable = spelled s.value s.fits ∙ s.viable;
        firm = λ b rest other h. ap (λ z. z >>= λ p. Ok (f p.0, p.1)) (s.firm b rest other h);
      }

  pub made_exact : Exact (made f r) sb (Made f FA) fb
  made_exact = record {
    sound = made_sound;
    fits = made_fits;
    ends = made_ends;
    again = made_again;
    stops = made_stops;
    some = f er.some;
    some_fits = record { from = er.some; fits = er.some_fits; is = refl };
  }

-- the same under another name for what fits

module _ {A : Type 0} (r : Reader A) (spell : A → List Lexeme) (F G : A → Type 0) (follow : A → Lexeme → Bool)
    (er : Exact r spell F follow) (to : (x : A) → F x → G x) (from : (x : A) → G x → F x) where
  pub fits_exact : Exact r spell G follow
  fits_exact = record {
    sound = er.sound;
    fits = λ ts rest x e. to x (er.fits ts rest x e);
    ends = er.ends;
    again = λ x rest g m. er.again x rest (from x g) m;
    stops = λ ts n e. let s = er.stops ts n e in record {
      prefix = s.prefix;
      back = s.back;
      parts = s.parts;
      left = s.left;
      value = s.value;
      fits = to s.value s.fits;
      more = s.more;
      viable = s.viable;
      firm = s.firm;
    };
    some = er.some;
    some_fits = to er.some er.some_fits;
  }

-- by a test of the next lexeme

module _ {A : Type 0} (test : Lexeme → Bool) (r s : Reader A) (spell : A → List Lexeme) (FR FS : A → Type 0) (follow : A → Lexeme → Bool)
    (er : Exact r spell FR follow) (es : Exact s spell FS follow)
    (starts : (x : A) (rest : List Lexeme) → FR x → may (follow x) rest ≡ true → next_passes test (spell x ++ rest) ≡ true)
    (others : (x : A) (rest : List Lexeme) → FS x → may (follow x) rest ≡ true → next_passes test (spell x ++ rest) ≡ false) where
  abbrev Either : A → Type 0
  Either x = FR x ⊎ FS x

  choose_first : (ts : List Lexeme) → next_passes test ts ≡ true → choose test r s ts ≡ r ts
  choose_first ts t = rw t refl

  choose_second : (ts : List Lexeme) → next_passes test ts ≡ false → choose test r s ts ≡ s ts
  choose_second ts t = rw t refl

  record Chosen (ts : List Lexeme) (o : Result (A × List Lexeme) ℕ) : Type 0 where
    way : ((next_passes test ts ≡ true) × (r ts ≡ o)) ⊎ ((next_passes test ts ≡ false) × (s ts ≡ o))

  chosen : (ts : List Lexeme) (o : Result (A × List Lexeme) ℕ) → choose test r s ts ≡ o → Chosen ts o
  chosen ts o e = go (next_passes test ts) refl
    where
      go : (b : Bool) → next_passes test ts ≡ b → Chosen ts o
      go true t = record { way = inl (t, sym (choose_first ts t) ∙ e) }
      go false t = record { way = inr (t, sym (choose_second ts t) ∙ e) }

  stops_same : (ts prefix back : List Lexeme) (b : Lexeme) (rest other : List Lexeme) (v : Bool) → ts ≡ prefix ++ back → back ≡ b ∷ rest → next_passes test ts ≡ v → next_passes test (prefix ++ (b ∷ other)) ≡ v
  stops_same ts prefix back b rest other v parts h t =
      next_same test prefix b other rest ∙ ap (λ z. next_passes test (prefix ++ z)) (sym h) ∙ ap (next_passes test) (sym parts) ∙ t

  pub choose_exact : Exact (choose test r s) spell Either follow
  choose_exact = record {
    sound = λ ts rest x e. ⊎_elim (λ w. er.sound ts rest x w.1) (λ w. es.sound ts rest x w.1) (chosen ts (Ok (x, rest)) e).way;
    fits = λ ts rest x e. ⊎_elim (λ w. inl (er.fits ts rest x w.1)) (λ w. inr (es.fits ts rest x w.1)) (chosen ts (Ok (x, rest)) e).way;
    ends = λ ts rest x e. ⊎_elim (λ w. er.ends ts rest x w.1) (λ w. es.ends ts rest x w.1) (chosen ts (Ok (x, rest)) e).way;
    again = λ x rest f m. ⊎_elim
        (λ g. choose_first (spell x ++ rest) (starts x rest g m) ∙ er.again x rest g m)
        (λ g. choose_second (spell x ++ rest) (others x rest g m) ∙ es.again x rest g m) f;
    stops = λ ts n e. ⊎_elim
        (λ w. let c = er.stops ts n w.1 in record {
          prefix = c.prefix;
          back = c.back;
          parts = c.parts;
          left = c.left;
          value = c.value;
          fits = inl c.fits;
          more = c.more;
          viable = c.viable;
          firm = λ b rest other h. choose_first (c.prefix ++ (b ∷ other)) (stops_same ts c.prefix c.back b rest other true c.parts h w.0) ∙ c.firm b rest other h;
        })
        (λ w. let c = es.stops ts n w.1 in record {
          prefix = c.prefix;
          back = c.back;
          parts = c.parts;
          left = c.left;
          value = c.value;
          fits = inr c.fits;
          more = c.more;
          viable = c.viable;
          firm = λ b rest other h. choose_second (c.prefix ++ (b ∷ other)) (stops_same ts c.prefix c.back b rest other false c.parts h w.0) ∙ c.firm b rest other h;
        })
        (chosen ts (Err n) e).way;
    some = er.some;
    some_fits = inl er.some_fits;
  }

-- the same under another spelling that is equal, and of another reader that gives the same

module _ {A : Type 0} (r : Reader A) (spell other : A → List Lexeme) (F : A → Type 0) (follow : A → Lexeme → Bool)
    (er : Exact r spell F follow) (same : (x : A) → F x → spell x ≡ other x) where
  pub spelled_exact : Exact r other F follow
  spelled_exact = record {
    sound = λ ts rest x e. er.sound ts rest x e ∙ ap (λ z. z ++ rest) (same x (er.fits ts rest x e));
    fits = er.fits;
    ends = er.ends;
    again = λ x rest f m. ap (λ z. r (z ++ rest)) (sym (same x f)) ∙ er.again x rest f m;
    stops = λ ts n e. let s = er.stops ts n e in record {
      prefix = s.prefix;
      back = s.back;
      parts = s.parts;
      left = s.left;
      value = s.value;
      fits = s.fits;
      more = s.more;
      viable = sym (same s.value s.fits) ∙ s.viable;
      firm = s.firm;
    };
    some = er.some;
    some_fits = er.some_fits;
  }

module _ {A : Type 0} (r s : Reader A) (spell : A → List Lexeme) (F : A → Type 0) (follow : A → Lexeme → Bool)
    (er : Exact r spell F follow) (same : (ts : List Lexeme) → r ts ≡ s ts) where
  pub same_exact : Exact s spell F follow
  same_exact = record {
    sound = λ ts rest x e. er.sound ts rest x (same ts ∙ e);
    fits = λ ts rest x e. er.fits ts rest x (same ts ∙ e);
    ends = λ ts rest x e. er.ends ts rest x (same ts ∙ e);
    again = λ x rest f m. sym (same (spell x ++ rest)) ∙ er.again x rest f m;
    stops = λ ts n e. let c = er.stops ts n (same ts ∙ e) in record {
      prefix = c.prefix;
      back = c.back;
      parts = c.parts;
      left = c.left;
      value = c.value;
      fits = c.fits;
      more = c.more;
      viable = c.viable;
      firm = λ b rest more h. sym (same (c.prefix ++ (b ∷ more))) ∙ c.firm b rest more h;
    };
    some = er.some;
    some_fits = er.some_fits;
  }

-- the same where what may follow is said otherwise

may_same_test : (f g : Lexeme → Bool) → ((l : Lexeme) → f l ≡ g l) → (ts : List Lexeme) → may f ts ≡ may g ts
may_same_test f g e [] = refl
may_same_test f g e (l ∷ ls) = e l

module _ {A : Type 0} (r : Reader A) (spell : A → List Lexeme) (F : A → Type 0) (follow other : A → Lexeme → Bool)
    (er : Exact r spell F follow) (same : (x : A) (l : Lexeme) → follow x l ≡ other x l) where
  pub follow_exact : Exact r spell F other
  follow_exact = record {
    sound = er.sound;
    fits = er.fits;
    ends = λ ts rest x e. sym (may_same_test (follow x) (other x) (same x) rest) ∙ er.ends ts rest x e;
    again = λ x rest f m. er.again x rest f (may_same_test (follow x) (other x) (same x) rest ∙ m);
    stops = er.stops;
    some = er.some;
    some_fits = er.some_fits;
  }

-- after a lexeme that tells nothing, or before one

bind_same : {A B : Type 0} (r : Result A ℕ) (f g : A → Result B ℕ) → ((x : A) → f x ≡ g x) → (r >>= f) ≡ (r >>= g)
bind_same (Ok x) f g e = e x
bind_same (Err n) f g e = refl

made_self : {A : Type 0} (r : Result A ℕ) → (r >>= λ p. Ok p) ≡ r
made_self (Ok x) = refl
made_self (Err n) = refl

bind_bind : {A B C : Type 0} (r : Result A ℕ) (f : A → Result B ℕ) (g : B → Result C ℕ) → ((r >>= f) >>= g) ≡ (r >>= λ x. f x >>= g)
bind_bind (Ok x) f g = refl
bind_bind (Err n) f g = refl

module _ {A : Type 0} (table : Lexeme → Option (Unit {0})) (form : Lexeme) (r : Reader A)
    (spell : A → List Lexeme) (F : A → Type 0) (follow : A → Lexeme → Bool)
    (et : Exact (one table) (λ _. form ∷ []) (λ _. Unit {0}) anything) (er : Exact r spell F follow) where
  skip_pairs : Exact (after (one table) (λ _. r)) (λ p. (form ∷ []) ++ spell p.1) (λ p. Unit {0} × F p.1) (λ p. follow p.1)
  skip_pairs = after_exact (one table) (λ _. r) (λ _. form ∷ []) (λ _. Unit {0}) anything (λ _. spell) (λ _. F) (λ _. follow)
      et (λ _ _. er) (λ a b rest f g m. may_anything a (spell b ++ rest))

  skip_made : Exact (made (λ p. p.1) (after (one table) (λ _. r))) (λ x. form ∷ spell x) (Made {A = Unit {0} × A} (λ p. p.1) (λ p. Unit {0} × F p.1)) follow
  skip_made = made_exact (λ p. p.1) (after (one table) (λ _. r)) (λ p. (form ∷ []) ++ spell p.1) (λ p. Unit {0} × F p.1) (λ p. follow p.1)
      (λ x. form ∷ spell x) follow skip_pairs (λ p f. refl) (λ p f. refl)

  skip_is : (ts : List Lexeme) → made (λ p. p.1) (after (one table) (λ _. r)) ts ≡ skip table r ts
  skip_is ts =
      bind_bind (one table ts) (λ p. r p.1 >>= λ q. Ok ((p.0, q.0), q.1)) (λ p. Ok (p.0.1, p.1))
      ∙ bind_same (one table ts) (λ p. (r p.1 >>= λ q. Ok ((p.0, q.0), q.1)) >>= λ p. Ok (p.0.1, p.1)) (λ p. r p.1)
      (λ p. bind_bind (r p.1) (λ q. Ok ((p.0, q.0), q.1)) (λ p. Ok (p.0.1, p.1)) ∙ made_self (r p.1))

  pub skip_exact : Exact (skip table r) (λ x. form ∷ spell x) F follow
  skip_exact = same_exact (made (λ p. p.1) (after (one table) (λ _. r))) (skip table r) (λ x. form ∷ spell x) F follow
      (fits_exact (made (λ p. p.1) (after (one table) (λ _. r))) (λ x. form ∷ spell x) (Made {A = Unit {0} × A} (λ p. p.1) (λ p. Unit {0} × F p.1)) F follow
      skip_made (λ x m. subst F m.is m.fits.1) (λ x f. record { from = (tt, x); fits = (tt, f); is = refl }))
      skip_is

module _ {A : Type 0} (r : Reader A) (table : Lexeme → Option (Unit {0})) (form : Lexeme)
    (spell : A → List Lexeme) (F : A → Type 0) (follow : A → Lexeme → Bool)
    (er : Exact r spell F follow) (et : Exact (one table) (λ _. form ∷ []) (λ _. Unit {0}) anything)
    (joins : (x : A) → F x → follow x form ≡ true) where
  ended_pairs : Exact (after r (λ _. one table)) (λ p. spell p.0 ++ (form ∷ [])) (λ p. F p.0 × Unit {0}) (λ p. anything p.1)
  ended_pairs = after_exact r (λ _. one table) spell F follow (λ _ _. form ∷ []) (λ _ _. Unit {0}) (λ _ u. anything u)
      er (λ _ _. et) (λ a b rest f g m. joins a f)

  ended_made : Exact (made (λ p. p.0) (after r (λ _. one table))) (λ x. spell x ++ (form ∷ [])) (Made {A = A × Unit {0}} (λ p. p.0) (λ p. F p.0 × Unit {0})) anything
  ended_made = made_exact (λ p. p.0) (after r (λ _. one table)) (λ p. spell p.0 ++ (form ∷ [])) (λ p. F p.0 × Unit {0}) (λ p. anything p.1)
      (λ x. spell x ++ (form ∷ [])) anything ended_pairs (λ p f. refl) (λ p f. refl)

  ended_is : (ts : List Lexeme) → made (λ p. p.0) (after r (λ _. one table)) ts ≡ ended r table ts
  ended_is ts =
      bind_bind (r ts) (λ p. one table p.1 >>= λ q. Ok ((p.0, q.0), q.1)) (λ p. Ok (p.0.0, p.1))
      ∙ bind_same (r ts) (λ p. (one table p.1 >>= λ q. Ok ((p.0, q.0), q.1)) >>= λ p. Ok (p.0.0, p.1)) (λ p. one table p.1 >>= λ q. Ok (p.0, q.1))
      (λ p. bind_bind (one table p.1) (λ q. Ok ((p.0, q.0), q.1)) (λ p. Ok (p.0.0, p.1)))

  pub ended_exact : Exact (ended r table) (λ x. spell x ++ (form ∷ [])) F anything
  ended_exact = same_exact (made (λ p. p.0) (after r (λ _. one table))) (ended r table) (λ x. spell x ++ (form ∷ [])) F anything
      (fits_exact (made (λ p. p.0) (after r (λ _. one table))) (λ x. spell x ++ (form ∷ [])) (Made {A = A × Unit {0}} (λ p. p.0) (λ p. F p.0 × Unit {0})) F anything
      ended_made (λ x m. subst F m.is m.fits.0) (λ x f. record { from = (x, tt); fits = (f, tt); is = refl }))
      ended_is

-- something, by a test of the next lexeme, or nothing

next_fails : (test : Lexeme → Bool) (ts : List Lexeme) → next_passes test ts ≡ false → may (λ l. not (test l)) ts ≡ true
next_fails test [] e = refl
next_fails test (l ∷ ls) e = ap not e

fails_next : (test : Lexeme → Bool) (ts : List Lexeme) → may (λ l. not (test l)) ts ≡ true → next_passes test ts ≡ false
fails_next test [] e = refl
fails_next test (l ∷ ls) e = go (test l) e
  where
    go : (b : Bool) → not b ≡ true → b ≡ false
    go true e = cc
    go false e = refl

module _ {A : Type 0} (test : Lexeme → Bool) (r : Reader A) (none : A) (spell : A → List Lexeme) (FR : A → Type 0) (follow : A → Lexeme → Bool)
    (er : Exact r spell FR follow) (empty : spell none ≡ []) (ended : follow none ≡ (λ l. not (test l)))
    (begins : (x : A) (rest : List Lexeme) → FR x → next_passes test (spell x ++ rest) ≡ true) where
  taken : (ts : List Lexeme) → next_passes test ts ≡ true → choose test r (nothing none) ts ≡ r ts
  taken ts t = rw t refl

  passed : (ts : List Lexeme) → next_passes test ts ≡ false → choose test r (nothing none) ts ≡ Ok (none, ts)
  passed ts t = rw t refl

  record Way (ts : List Lexeme) (o : Result (A × List Lexeme) ℕ) : Type 0 where
    way : ((next_passes test ts ≡ true) × (r ts ≡ o)) ⊎ ((next_passes test ts ≡ false) × (Ok (none, ts) ≡ o))

  ways : (ts : List Lexeme) (o : Result (A × List Lexeme) ℕ) → choose test r (nothing none) ts ≡ o → Way ts o
  ways ts o e = go (next_passes test ts) refl
    where
      go : (b : Bool) → next_passes test ts ≡ b → Way ts o
      go true t = record { way = inl (t, sym (taken ts t) ∙ e) }
      go false t = record { way = inr (t, sym (passed ts t) ∙ e) }

  none_value : (ts rest : List Lexeme) (x : A) → ◌≡◌ {A = Result (A × List Lexeme) ℕ} (Ok (none, ts)) (Ok (x, rest)) → x ≡ none
  none_value ts rest x e = sym (ok_value (none, ts) (x, rest) e)

  none_sound : (ts rest : List Lexeme) (x : A) → ◌≡◌ {A = Result (A × List Lexeme) ℕ} (Ok (none, ts)) (Ok (x, rest)) → ts ≡ spell x ++ rest
  none_sound ts rest x e = ok_rest (none, ts) (x, rest) e ∙ ap (λ z. z ++ rest) (sym empty ∙ ap spell (sym (none_value ts rest x e)))

  none_ends : (ts rest : List Lexeme) (x : A) → next_passes test ts ≡ false → ◌≡◌ {A = Result (A × List Lexeme) ℕ} (Ok (none, ts)) (Ok (x, rest)) → may (follow x) rest ≡ true
  none_ends ts rest x t e =
      ap (λ z. may (follow z) rest) (none_value ts rest x e) ∙ ap (λ z. may z rest) ended
      ∙ ap (may (λ l. not (test l))) (sym (ok_rest (none, ts) (x, rest) e)) ∙ next_fails test ts t

  none_again : (x : A) (rest : List Lexeme) → x ≡ none → may (follow x) rest ≡ true → choose test r (nothing none) (spell x ++ rest) ≡ Ok (x, rest)
  none_again x rest is m =
      let t = fails_next test rest (ap (λ z. may z rest) (sym ended) ∙ ap (λ z. may (follow z) rest) (sym is) ∙ m) in
      ap (λ z. choose test r (nothing none) (z ++ rest)) (ap spell is ∙ empty) ∙ passed rest t ∙ ap (λ z. Ok (z, rest)) (sym is)

  pub optional_exact : Exact (choose test r (nothing none)) spell (λ x. FR x ⊎ (x ≡ none)) follow
  optional_exact = record {
    sound = λ ts rest x e. ⊎_elim (λ w. er.sound ts rest x w.1) (λ w. none_sound ts rest x w.1) (ways ts (Ok (x, rest)) e).way;
    fits = λ ts rest x e. ⊎_elim (λ w. inl (er.fits ts rest x w.1)) (λ w. inr (none_value ts rest x w.1)) (ways ts (Ok (x, rest)) e).way;
    ends = λ ts rest x e. ⊎_elim (λ w. er.ends ts rest x w.1) (λ w. none_ends ts rest x w.0 w.1) (ways ts (Ok (x, rest)) e).way;
    again = λ x rest f m. ⊎_elim (λ g. taken (spell x ++ rest) (begins x rest g) ∙ er.again x rest g m) (λ g. none_again x rest g m) f;
    stops = λ ts n e. ⊎_elim
        (λ w. let c = er.stops ts n w.1 in record {
          prefix = c.prefix;
          back = c.back;
          parts = c.parts;
          left = c.left;
          value = c.value;
          fits = inl c.fits;
          more = c.more;
          viable = c.viable;
          firm = λ b rest other h.
              taken (c.prefix ++ (b ∷ other)) (next_same test c.prefix b other rest ∙ ap (λ z. next_passes test (c.prefix ++ z)) (sym h) ∙ ap (next_passes test) (sym c.parts) ∙ w.0)
              ∙ c.firm b rest other h;
        })
        (λ w. let no = w.1 in cc)
        (ways ts (Err n) e).way;
    some = er.some;
    some_fits = inl er.some_fits;
  }

-- one after the other, where what may follow both hangs on both

module _ {A B : Type 0} (r : Reader A) (k : A → Reader B)
    (sa : A → List Lexeme) (FA : A → Type 0) (fa : A → Lexeme → Bool)
    (sb : A → B → List Lexeme) (FB : A → B → Type 0) (fb : A → B → Lexeme → Bool) (f : A → B → Lexeme → Bool)
    (er : Exact r sa FA fa) (ek : (a : A) → FA a → Exact (k a) (sb a) (FB a) (fb a))
    (joins : (a : A) (b : B) (rest : List Lexeme) → FA a → FB a b → may (f a b) rest ≡ true → may (fa a) (sb a b ++ rest) ≡ true)
    (second : (a : A) (b : B) (rest : List Lexeme) → may (f a b) rest ≡ true → may (fb a b) rest ≡ true)
    (both : (a : A) (b : B) (rest : List Lexeme) → may (fa a) (sb a b ++ rest) ≡ true → may (fb a b) rest ≡ true → may (f a b) rest ≡ true) where
  with_again : (p : A × B) (rest : List Lexeme) → FA p.0 × FB p.0 p.1 → may (f p.0 p.1) rest ≡ true → after r k ((sa p.0 ++ sb p.0 p.1) ++ rest) ≡ Ok (p, rest)
  with_again p rest g m =
      let e = er.again p.0 (sb p.0 p.1 ++ rest) g.0 (joins p.0 p.1 rest g.0 g.1 m) in
      let h = (ek p.0 g.0).again p.1 rest g.1 (second p.0 p.1 rest m) in
      let start : after r k (sa p.0 ++ (sb p.0 p.1 ++ rest)) ≡ (k p.0 (sb p.0 p.1 ++ rest) >>= λ q. Ok ((p.0, q.0), q.1)) = rw e refl in
      ap (after r k) (append_assoc (sa p.0) (sb p.0 p.1) rest) ∙ start ∙ ap (λ z. z >>= λ q. Ok ((p.0, q.0), q.1)) h

  record Parts (ts rest : List Lexeme) (p : A × B) : Type 0 where
    between : List Lexeme
    first_is : r ts ≡ Ok (p.0, between)
    second_is : k p.0 between ≡ Ok (p.1, rest)

  parts_of : (ts rest : List Lexeme) (p : A × B) → after r k ts ≡ Ok (p, rest) → Parts ts rest p
  parts_of ts rest p e =
      let x = bind_ok (r ts) _ _ e in
      let y = bind_ok (k x.first.0 x.first.1) _ _ x.then_is in
      let same : (x.first.0, y.first.0) ≡ p = ok_value ((x.first.0, y.first.0), y.first.1) (p, rest) y.then_is in
      let end : y.first.1 ≡ rest = ok_rest ((x.first.0, y.first.0), y.first.1) (p, rest) y.then_is in
      let a : x.first.0 ≡ p.0 = ap (λ z. z.0) same in
      let b : y.first.0 ≡ p.1 = ap (λ z. z.1) same in
      record {
        between = x.first.1;
        first_is = x.is ∙ ap (λ z. Ok (z, x.first.1)) a;
        second_is = ap (λ z. k z x.first.1) (sym a) ∙ y.is ∙ ap (λ z. Ok (z, y.first.1)) b ∙ ap (λ z. Ok (p.1, z)) end;
      }

  with_ends : (ts rest : List Lexeme) (p : A × B) → after r k ts ≡ Ok (p, rest) → may (f p.0 p.1) rest ≡ true
  with_ends ts rest p e =
      let x = parts_of ts rest p e in
      let g = er.fits ts x.between p.0 x.first_is in
      let later = (ek p.0 g).sound x.between rest p.1 x.second_is in
      both p.0 p.1 rest (ap (may (fa p.0)) (sym later) ∙ er.ends ts x.between p.0 x.first_is) ((ek p.0 g).ends x.between rest p.1 x.second_is)

  with_stops : (ts : List Lexeme) (n : ℕ) → after r k ts ≡ Err n → Stops (after r k) (λ p. sa p.0 ++ sb p.0 p.1) (λ p. FA p.0 × FB p.0 p.1) ts n
  with_stops = after_stops r k sa FA fa sb FB fb er ek

  pub after_exact_with : Exact (after r k) (λ p. sa p.0 ++ sb p.0 p.1) (λ p. FA p.0 × FB p.0 p.1) (λ p. f p.0 p.1)
  after_exact_with = record {
    sound = λ ts rest p e. let x = parts_of ts rest p e in
        er.sound ts x.between p.0 x.first_is
        ∙ ap (λ z. sa p.0 ++ z) ((ek p.0 (er.fits ts x.between p.0 x.first_is)).sound x.between rest p.1 x.second_is)
        ∙ sym (append_assoc (sa p.0) (sb p.0 p.1) rest);
    fits = λ ts rest p e. let x = parts_of ts rest p e in
        let g = er.fits ts x.between p.0 x.first_is in
        (g, (ek p.0 g).fits x.between rest p.1 x.second_is);
    ends = with_ends;
    again = with_again;
    stops = with_stops;
    some = (er.some, (ek er.some er.some_fits).some);
    some_fits = (er.some_fits, (ek er.some er.some_fits).some_fits);
  }
