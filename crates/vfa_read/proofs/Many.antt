-- Reading any number of items is exact where reading one is.
use Rattle.std.proofs.Common.{◌≡◌, ℕ, zero, suc, ◌≤◌, ◌<◌, Bool, true, false, not, ◌&&◌, List, [], ◌∷◌, ◌++◌, length, flat_map, Result, Ok, Err, refl, sym, ◌∙◌, ap, subst, append_assoc, length-append, arith}
use Rattle.std.specs.Prelude.{⊤}
use Rattle.vfa_ir.specs.Lexemes.{Lexeme}
use Rattle.vfa_read.specs.Readers.{Reader, ◌>>=◌, next_passes, repeated, many}
use Rattle.vfa_read.proofs.Exact.{Exact, Stops, bind_ok, made_err, may, may_same, next_same, ok_value, ok_rest}

-- a list that begins with a lexeme that passes
pub record Begins (starts : Lexeme → Bool) (ls : List Lexeme) : Type 0 where
  pub head : Lexeme
  pub more : List Lexeme
  pub is : ls ≡ head ∷ more
  pub passes : starts head ≡ true

-- each fits where it stands
abbrev pub FitsFrom : {S A : Type 0} → (S → A → Type 0) → (S → A → S) → S → List A → Type 0
FitsFrom Fits step s [] = ⊤
FitsFrom Fits step s (x ∷ xs) = Fits s x × FitsFrom Fits step (step s x) xs

-- what may follow the last one
abbrev pub follow_last : {A : Type 0} → (A → Lexeme → Bool) → List A → Lexeme → Bool
follow_last follow [] l = true
follow_last follow (x ∷ []) l = follow x l
follow_last follow (x ∷ y ∷ ys) l = follow_last follow (y ∷ ys) l

abbrev pub follow_many : {A : Type 0} → (Lexeme → Bool) → (A → Lexeme → Bool) → List A → Lexeme → Bool
follow_many starts follow xs l = not (starts l) && follow_last follow xs l

begins_passes : (starts : Lexeme → Bool) (ls rest : List Lexeme) → Begins starts ls → next_passes starts (ls ++ rest) ≡ true
begins_passes starts ls rest b = ap (λ z. next_passes starts (z ++ rest)) b.is ∙ b.passes

begins_longer : (starts : Lexeme → Bool) (ts ls rest : List Lexeme) → Begins starts ls → ts ≡ ls ++ rest → length rest < length ts
begins_longer starts ts ls rest b e =
    let f : length ts ≡ length ((b.head ∷ b.more) ++ rest) = ap length (e ∙ ap (λ z. z ++ rest) b.is) in
    omega (arith, length-append (b.head ∷ b.more) rest)

and_true : (a b : Bool) → (a && b) ≡ true → (a ≡ true) × (b ≡ true)
and_true true b e = (refl, e)
and_true false b e = cc

not_true : (a : Bool) → not a ≡ true → a ≡ false
not_true true e = cc
not_true false e = refl

module _ {S A : Type 0} (starts : Lexeme → Bool) (item : S → Reader A) (step : S → A → S)
    (spell : A → List Lexeme) (Fits : S → A → Type 0) (follow : A → Lexeme → Bool)
    (ei : (s : S) → Exact (item s) spell (Fits s) follow)
    (begins : (s : S) (x : A) → Fits s x → Begins starts (spell x))
    (joins : (x : A) (l : Lexeme) → starts l ≡ true → follow x l ≡ true) where
  abbrev Rest : Type 0
  Rest = Result (List A × List Lexeme) ℕ

  abbrev before : A → Rest → Rest
  before x o = o >>= λ q. Ok (x ∷ q.0, q.1)

  pub shorter : (s : S) (ts rest : List Lexeme) (x : A) → item s ts ≡ Ok (x, rest) → length rest < length ts
  shorter s ts rest x e =
      begins_longer starts ts (spell x) rest (begins s x ((ei s).fits ts rest x e)) ((ei s).sound ts rest x e)

  repeated_done : (n : ℕ) (s : S) (ts : List Lexeme) → next_passes starts ts ≡ false → repeated starts item step n s ts ≡ Ok ([], ts)
  repeated_done zero s ts t = refl
  repeated_done (suc n) s ts t = rw t refl

  repeated_item : (n : ℕ) (s : S) (ts rest : List Lexeme) (x : A) → next_passes starts ts ≡ true → item s ts ≡ Ok (x, rest) →
      repeated starts item step (suc n) s ts ≡ before x (repeated starts item step n (step s x) rest)
  repeated_item n s ts rest x t e = rw (t, e) refl

  repeated_bad : (n : ℕ) (s : S) (ts : List Lexeme) (k : ℕ) → next_passes starts ts ≡ true → item s ts ≡ Err k →
      repeated starts item step (suc n) s ts ≡ Err k
  repeated_bad n s ts k t e = rw (t, e) refl

  none_passes : (ts : List Lexeme) → length ts ≤ 0 → next_passes starts ts ≡ false
  none_passes [] h = refl
  none_passes (l ∷ ls) h = absurd (omega arith)

  -- more fuel than there are lexemes changes nothing
  enough_step : (n m : ℕ) (s : S) (ts : List Lexeme) → length ts ≤ suc n → length ts ≤ suc m →
      ((s : S) (rest : List Lexeme) → length rest ≤ n → length rest ≤ m → repeated starts item step n s rest ≡ repeated starts item step m s rest) →
      repeated starts item step (suc n) s ts ≡ repeated starts item step (suc m) s ts
  enough_step n m s ts h g hyp = by_test (next_passes starts ts) refl
    where
      by_item : (o : Result (A × List Lexeme) ℕ) → next_passes starts ts ≡ true → item s ts ≡ o → repeated starts item step (suc n) s ts ≡ repeated starts item step (suc m) s ts
      by_item (Ok p) t e =
          let short = shorter s ts p.1 p.0 e in
          repeated_item n s ts p.1 p.0 t e ∙ ap (before p.0) (hyp (step s p.0) p.1 (omega arith) (omega arith)) ∙ sym (repeated_item m s ts p.1 p.0 t e)
      by_item (Err k) t e = repeated_bad n s ts k t e ∙ sym (repeated_bad m s ts k t e)

      by_test : (b : Bool) → next_passes starts ts ≡ b → repeated starts item step (suc n) s ts ≡ repeated starts item step (suc m) s ts
      by_test true t = by_item (item s ts) t refl
      by_test false t = repeated_done (suc n) s ts t ∙ sym (repeated_done (suc m) s ts t)

  enough : (n m : ℕ) (s : S) (ts : List Lexeme) → length ts ≤ n → length ts ≤ m → repeated starts item step n s ts ≡ repeated starts item step m s ts
  enough zero m s ts h g = sym (repeated_done m s ts (none_passes ts h))
  enough (suc n) zero s ts h g = repeated_done (suc n) s ts (none_passes ts g)
  enough (suc n) (suc m) s ts h g = enough_step n m s ts h g (λ z rest i j. enough n m z rest i j)

  pub many_done : (s : S) (ts : List Lexeme) → next_passes starts ts ≡ false → many starts item step s ts ≡ Ok ([], ts)
  many_done s ts t = repeated_done (length ts) s ts t

  pub many_item : (s : S) (ts rest : List Lexeme) (x : A) → next_passes starts ts ≡ true → item s ts ≡ Ok (x, rest) →
      many starts item step s ts ≡ before x (many starts item step (step s x) rest)
  many_item s [] rest x t e = cc
  many_item s (l ∷ ls) rest x t e =
      let short = shorter s (l ∷ ls) rest x e in
      repeated_item (length ls) s (l ∷ ls) rest x t e ∙ ap (before x) (enough (length ls) (length rest) (step s x) rest (omega arith) (omega arith))

  pub many_bad : (s : S) (ts : List Lexeme) (k : ℕ) → next_passes starts ts ≡ true → item s ts ≡ Err k → many starts item step s ts ≡ Err k
  many_bad s [] k t e = cc
  many_bad s (l ∷ ls) k t e = repeated_bad (length ls) s (l ∷ ls) k t e

  -- the next turn: no item, a bad one, or one and those after it
  data Turn (s : S) (ts : List Lexeme) (o : Rest) : Type 0 where
    done : next_passes starts ts ≡ false → Ok ([], ts) ≡ o → Turn s ts o
    bad : (k : ℕ) → next_passes starts ts ≡ true → item s ts ≡ Err k → Err k ≡ o → Turn s ts o
    more : (p : A × List Lexeme) → next_passes starts ts ≡ true → item s ts ≡ Ok p → before p.0 (many starts item step (step s p.0) p.1) ≡ o → Turn s ts o

  turn : (s : S) (ts : List Lexeme) (o : Rest) → many starts item step s ts ≡ o → Turn s ts o
  turn s ts o e = by_test (next_passes starts ts) refl
    where
      by_item : (i : Result (A × List Lexeme) ℕ) → next_passes starts ts ≡ true → item s ts ≡ i → Turn s ts o
      by_item (Ok p) t is = more p t is (sym (many_item s ts p.1 p.0 t is) ∙ e)
      by_item (Err k) t is = bad k t is (sym (many_bad s ts k t is) ∙ e)

      by_test : (b : Bool) → next_passes starts ts ≡ b → Turn s ts o
      by_test true t = by_item (item s ts) t refl
      by_test false t = done t (sym (many_done s ts t) ∙ e)

  -- what was read: nothing, or an item and those after it
  data Found (s : S) (ts rest : List Lexeme) : List A → Type 0 where
    none : next_passes starts ts ≡ false → ts ≡ rest → Found s ts rest []
    some : {x : A} {xs : List A} (between : List Lexeme) → next_passes starts ts ≡ true → item s ts ≡ Ok (x, between) →
        many starts item step (step s x) between ≡ Ok (xs, rest) → Found s ts rest (x ∷ xs)

  found : (s : S) (ts rest : List Lexeme) (xs : List A) → many starts item step s ts ≡ Ok (xs, rest) → Found s ts rest xs
  found s ts rest xs e = by_turn (turn s ts (Ok (xs, rest)) e)
    where
      by_turn : Turn s ts (Ok (xs, rest)) → Found s ts rest xs
      by_turn (done t is) = subst (Found s ts rest) (ok_value ([], ts) (xs, rest) is) (none t (ok_rest ([], ts) (xs, rest) is))
      by_turn (bad k t i is) = cc
      by_turn (more p t i is) =
          let b = bind_ok (many starts item step (step s p.0) p.1) _ _ is in
          let value : p.0 ∷ b.first.0 ≡ xs = ok_value (p.0 ∷ b.first.0, b.first.1) (xs, rest) b.then_is in
          let end : b.first.1 ≡ rest = ok_rest (p.0 ∷ b.first.0, b.first.1) (xs, rest) b.then_is in
          subst (Found s ts rest) value (some p.1 t i (b.is ∙ ap (λ z. Ok (b.first.0, z)) end))

  many_sound : (s : S) (ts rest : List Lexeme) (xs : List A) → Found s ts rest xs → ts ≡ flat_map spell xs ++ rest
  many_sound s ts rest [] (none t e) = e
  many_sound s ts rest (x ∷ xs) (some between t i e) =
      (ei s).sound ts between x i ∙ ap (λ z. spell x ++ z) (many_sound (step s x) between rest xs (found (step s x) between rest xs e)) ∙ sym (append_assoc (spell x) (flat_map spell xs) rest)

  many_fits : (s : S) (ts rest : List Lexeme) (xs : List A) → Found s ts rest xs → FitsFrom Fits step s xs
  many_fits s ts rest [] (none t e) = tt
  many_fits s ts rest (x ∷ xs) (some between t i e) =
      ((ei s).fits ts between x i, many_fits (step s x) between rest xs (found (step s x) between rest xs e))

  -- where it ends, no item begins
  stopped : (s : S) (ts rest : List Lexeme) (xs : List A) → Found s ts rest xs → next_passes starts rest ≡ false
  stopped s ts rest [] (none t e) = ap (next_passes starts) (sym e) ∙ t
  stopped s ts rest (x ∷ xs) (some between t i e) = stopped (step s x) between rest xs (found (step s x) between rest xs e)

  none_is : (s : S) (ts rest : List Lexeme) → Found s ts rest [] → ts ≡ rest
  none_is s ts rest (none t e) = e

  last_ends : (s : S) (ts rest : List Lexeme) (xs : List A) → Found s ts rest xs → may (follow_last follow xs) rest ≡ true
  last_ends s ts [] xs f = refl
  last_ends s ts (l ∷ ls) [] (none t e) = refl
  last_ends s ts (l ∷ ls) (x ∷ []) (some between t i e) =
      let rest_is : between ≡ l ∷ ls = none_is (step s x) between (l ∷ ls) (found (step s x) between (l ∷ ls) [] e) in
      ap (may (follow x)) (sym rest_is) ∙ (ei s).ends ts between x i
  last_ends s ts (l ∷ ls) (x ∷ y ∷ ys) (some between t i e) = last_ends (step s x) between (l ∷ ls) (y ∷ ys) (found (step s x) between (l ∷ ls) (y ∷ ys) e)

  both_true : (a b : Bool) → a ≡ false → b ≡ true → (not a && b) ≡ true
  both_true a b e f = rw (e, f) refl

  many_may : (xs : List A) (rest : List Lexeme) → next_passes starts rest ≡ false → may (follow_last follow xs) rest ≡ true → may (follow_many starts follow xs) rest ≡ true
  many_may xs [] t m = refl
  many_may xs (l ∷ ls) t m = both_true (starts l) (follow_last follow xs l) t m

  -- what may follow the list is no item, and may follow its last one
  ends_list : (xs : List A) (rest : List Lexeme) → may (follow_many starts follow xs) rest ≡ true → next_passes starts rest ≡ false
  ends_list xs [] m = refl
  ends_list xs (l ∷ ls) m = not_true (starts l) (and_true (not (starts l)) (follow_last follow xs l) m).0

  follows_last : (xs : List A) (rest : List Lexeme) → may (follow_many starts follow xs) rest ≡ true → may (follow_last follow xs) rest ≡ true
  follows_last xs [] m = refl
  follows_last xs (l ∷ ls) m = (and_true (not (starts l)) (follow_last follow xs l) m).1

  may_joins : (x : A) (ls rest : List Lexeme) → Begins starts ls → may (follow x) (ls ++ rest) ≡ true
  may_joins x ls rest b = ap (λ z. may (follow x) (z ++ rest)) b.is ∙ joins x b.head b.passes

  -- what follows an item may follow it
  item_may : (s : S) (x : A) (xs : List A) (rest : List Lexeme) → FitsFrom Fits step s xs → may (follow_many starts follow (x ∷ xs)) rest ≡ true → may (follow x) (flat_map spell xs ++ rest) ≡ true
  item_may s x [] rest f m = follows_last (x ∷ []) rest m
  item_may s x (y ∷ ys) rest f m =
      ap (may (follow x)) (append_assoc (spell y) (flat_map spell ys) rest) ∙ may_joins x (spell y) (flat_map spell ys ++ rest) (begins s y f.0)

  rest_may : (x : A) (xs : List A) (rest : List Lexeme) → may (follow_many starts follow (x ∷ xs)) rest ≡ true → may (follow_many starts follow xs) rest ≡ true
  rest_may x [] rest m = many_may [] rest (ends_list (x ∷ []) rest m) (nil_may rest)
    where
      nil_may : (rest : List Lexeme) → may (follow_last follow []) rest ≡ true
      nil_may [] = refl
      nil_may (l ∷ ls) = refl
  rest_may x (y ∷ ys) rest m = m

  many_again : (s : S) (xs : List A) (rest : List Lexeme) → FitsFrom Fits step s xs → may (follow_many starts follow xs) rest ≡ true → many starts item step s (flat_map spell xs ++ rest) ≡ Ok (xs, rest)
  many_again s [] rest f m = many_done s rest (ends_list [] rest m)
  many_again s (x ∷ xs) rest f m =
      let others : List Lexeme = flat_map spell xs ++ rest in
      let e = (ei s).again x others f.0 (item_may (step s x) x xs rest f.1 m) in
      let t = begins_passes starts (spell x) others (begins s x f.0) in
      ap (many starts item step s) (append_assoc (spell x) (flat_map spell xs) rest)
      ∙ many_item s (spell x ++ others) others x t e
      ∙ ap (before x) (many_again (step s x) xs rest f.1 (rest_may x xs rest m))

  abbrev StopsMany : S → List Lexeme → ℕ → Type 0
  StopsMany s ts n = Stops (many starts item step s) (flat_map spell) (FitsFrom Fits step s) ts n

  same_test : (ts prefix back : List Lexeme) (b : Lexeme) (rest other : List Lexeme) → ts ≡ prefix ++ back → back ≡ b ∷ rest → next_passes starts ts ≡ true → next_passes starts (prefix ++ (b ∷ other)) ≡ true
  same_test ts prefix back b rest other parts h t =
      next_same starts prefix b other rest ∙ ap (λ z. next_passes starts (prefix ++ z)) (sym h) ∙ ap (next_passes starts) (sym parts) ∙ t

  stops_item : (s : S) (ts : List Lexeme) (n : ℕ) → next_passes starts ts ≡ true → item s ts ≡ Err n → StopsMany s ts n
  stops_item s ts n t e =
      let c = (ei s).stops ts n e in
      record {
        prefix = c.prefix;
        back = c.back;
        parts = c.parts;
        left = c.left;
        value = c.value ∷ [];
        fits = (c.fits, tt);
        more = c.more ++ [];
        viable = ap (λ z. z ++ []) c.viable ∙ append_assoc c.prefix c.more [];
        firm = λ b rest other h. many_bad s (c.prefix ++ (b ∷ other)) (suc (length other)) (same_test ts c.prefix c.back b rest other c.parts h t) (c.firm b rest other h);
      }

  stops_later : (s : S) (ts between : List Lexeme) (x : A) (n : ℕ) → item s ts ≡ Ok (x, between) → StopsMany (step s x) between n → StopsMany s ts n
  stops_later s ts between x n i c =
      let f = (ei s).fits ts between x i in
      record {
        prefix = spell x ++ c.prefix;
        back = c.back;
        parts = (ei s).sound ts between x i ∙ ap (λ z. spell x ++ z) c.parts ∙ sym (append_assoc (spell x) c.prefix c.back);
        left = c.left;
        value = x ∷ c.value;
        fits = (f, c.fits);
        more = c.more;
        viable = ap (λ z. spell x ++ z) c.viable ∙ sym (append_assoc (spell x) c.prefix c.more);
        firm = λ b rest other h.
            let ended : may (follow x) (c.prefix ++ c.back) ≡ true = ap (may (follow x)) (sym c.parts) ∙ (ei s).ends ts between x i in
            let kept : may (follow x) (c.prefix ++ (b ∷ other)) ≡ true =
            may_same (follow x) c.prefix b other rest ∙ ap (λ z. may (follow x) (c.prefix ++ z)) (sym h) ∙ ended in
            let later : List Lexeme = c.prefix ++ (b ∷ other) in
            ap (many starts item step s) (append_assoc (spell x) c.prefix (b ∷ other))
            ∙ many_item s (spell x ++ later) later x (begins_passes starts (spell x) later (begins s x f)) ((ei s).again x later f kept)
            ∙ ap (before x) (c.firm b rest other h);
      }

  many_stops : (fuel : ℕ) (s : S) (ts : List Lexeme) (n : ℕ) → length ts ≤ fuel → many starts item step s ts ≡ Err n → StopsMany s ts n
  many_stops zero s ts n h e = let d = many_done s ts (none_passes ts h) in cc
  many_stops (suc fuel) s ts n h e = by_turn (turn s ts (Err n) e) (λ z us k. many_stops fuel z us n k)
    where
      by_turn : Turn s ts (Err n) → ((z : S) (us : List Lexeme) → length us ≤ fuel → many starts item step z us ≡ Err n → StopsMany z us n) → StopsMany s ts n
      by_turn (done t is) hyp = cc
      by_turn (bad k t i is) hyp = stops_item s ts n t (let same : k ≡ n = cc in i ∙ ap Err same)
      by_turn (more p t i is) hyp =
          let short = shorter s ts p.1 p.0 i in
          stops_later s ts p.1 p.0 n i (hyp (step s p.0) p.1 (omega arith) (made_err (many starts item step (step s p.0) p.1) (λ q. (p.0 ∷ q.0, q.1)) n is))

  pub many_exact : (s : S) → Exact (many starts item step s) (flat_map spell) (FitsFrom Fits step s) (follow_many starts follow)
  many_exact s = record {
    sound = λ ts rest xs e. many_sound s ts rest xs (found s ts rest xs e);
    fits = λ ts rest xs e. many_fits s ts rest xs (found s ts rest xs e);
    ends = λ ts rest xs e. let f = found s ts rest xs e in many_may xs rest (stopped s ts rest xs f) (last_ends s ts rest xs f);
    again = many_again s;
    stops = λ ts n e. many_stops (length ts) s ts n (omega arith) e;
    some = [];
    some_fits = tt;
  }
