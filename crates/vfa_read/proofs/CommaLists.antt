-- Reading items with commas between is exact where reading one is.
use Rattle.std.proofs.Common.{◌≡◌, ℕ, ◌<◌, Bool, true, false, not, ◌&&◌, List, [], ◌∷◌, ◌++◌, flat_map, length, Ok, Err, ◌⊎◌, inl, inr, ⊎_elim, All, refl, sym, ap, ◌∙◌, subst, append_assoc}
use Rattle.std.specs.List.{AllByRecursion, join_by}
use Rattle.std.proofs.lemmas.List.Elements.{recursion_from_All, All-from_recursion}
use Rattle.std.specs.Str.{byte}
use Rattle.vfa_ir.specs.Lexemes.{Lexeme, mark}
use Rattle.vfa_read.specs.Productions.{after_commas, comma_list, is_mark, listed, same_state}
use Rattle.vfa_read.specs.Readers.{Reader, after, made, next_passes, skip, ◌>>=◌}
use Rattle.vfa_read.specs.Tables.{the_mark}
use Rattle.vfa_read.proofs.Exact.{Exact, Made, may, after_exact_with, fits_exact, made_exact, optional_exact, skip_exact}
use Rattle.vfa_read.proofs.LeafReaders.{mark_exact}
use Rattle.vfa_read.proofs.Many.{Begins, FitsFrom, follow_many, many_exact, many_item, many_bad, many_done, shorter}
use Rattle.vfa_read.proofs.WordLists.{and_both, and_first, and_last}

module _ {A : Type 0} (item : Reader A) (spell : A → List Lexeme) (Fits : A → Type 0) (follow : A → Lexeme → Bool)
    (ei : Exact item spell Fits follow) (marks : (x : A) (c : ℕ) → follow x (mark c) ≡ true) where
  further_begins : (s : Unit {0}) (x : A) → Fits x → Begins (is_mark (byte ",")) (mark (byte ",") ∷ spell x)
  further_begins s x f = record { head = mark (byte ","); more = spell x; is = refl; passes = refl }

  comma_joins : (x : A) (l : Lexeme) → is_mark (byte ",") l ≡ true → follow x l ≡ true
  comma_joins x (mark c) e = marks x c
  comma_joins x _ e = cc

  abbrev FurtherFit : List A → Type 0
  FurtherFit = FitsFrom {S = Unit {0}} (λ _. Fits) same_state tt

  abbrev further_follow : List A → Lexeme → Bool
  further_follow = follow_many (is_mark (byte ",")) follow

  further_item_exact : (s : Unit {0}) → Exact (skip (the_mark (byte ",")) item) (λ x. mark (byte ",") ∷ spell x) Fits follow
  further_item_exact s = skip_exact (the_mark (byte ",")) (mark (byte ",")) item spell Fits follow (mark_exact (byte ",")) ei

  further_exact : Exact (after_commas item) (flat_map (λ x. mark (byte ",") ∷ spell x)) FurtherFit further_follow
  further_exact = many_exact (is_mark (byte ",")) (λ _. skip (the_mark (byte ",")) item) same_state (λ x. mark (byte ",") ∷ spell x) (λ _. Fits) follow further_item_exact further_begins comma_joins tt

  pub commas_done : (ts : List Lexeme) → next_passes (is_mark (byte ",")) ts ≡ false → after_commas item ts ≡ Ok ([], ts)
  commas_done ts t = many_done (is_mark (byte ",")) (λ _. skip (the_mark (byte ",")) item) same_state (λ x. mark (byte ",") ∷ spell x) (λ _. Fits) follow further_item_exact further_begins comma_joins tt ts t

  pub commas_item : (ts rest : List Lexeme) (x : A) → next_passes (is_mark (byte ",")) ts ≡ true → skip (the_mark (byte ",")) item ts ≡ Ok (x, rest) → after_commas item ts ≡ (after_commas item rest >>= λ q. Ok (x ∷ q.0, q.1))
  commas_item ts rest x t e = many_item (is_mark (byte ",")) (λ _. skip (the_mark (byte ",")) item) same_state (λ x. mark (byte ",") ∷ spell x) (λ _. Fits) follow further_item_exact further_begins comma_joins tt ts rest x t e

  pub commas_bad : (ts : List Lexeme) (k : ℕ) → next_passes (is_mark (byte ",")) ts ≡ true → skip (the_mark (byte ",")) item ts ≡ Err k → after_commas item ts ≡ Err k
  commas_bad ts k t e = many_bad (is_mark (byte ",")) (λ _. skip (the_mark (byte ",")) item) same_state (λ x. mark (byte ",") ∷ spell x) (λ _. Fits) follow further_item_exact further_begins comma_joins tt ts k t e

  pub commas_shorter : (ts rest : List Lexeme) (x : A) → skip (the_mark (byte ",")) item ts ≡ Ok (x, rest) → length rest < length ts
  commas_shorter ts rest x e = shorter (is_mark (byte ",")) (λ _. skip (the_mark (byte ",")) item) same_state (λ x. mark (byte ",") ∷ spell x) (λ _. Fits) follow further_item_exact further_begins comma_joins tt ts rest x e

  abbrev list_follow : A → List A → Lexeme → Bool
  list_follow x [] l = follow x l && further_follow [] l
  list_follow x (y ∷ ys) l = further_follow (y ∷ ys) l

  list_joins : (x : A) (xs : List A) (rest : List Lexeme) → may (list_follow x xs) rest ≡ true → may (follow x) (flat_map (λ y. mark (byte ",") ∷ spell y) xs ++ rest) ≡ true
  list_joins x [] [] m = refl
  list_joins x [] (l ∷ ls) m = and_first (follow x l) (further_follow [] l) m
  list_joins x (y ∷ ys) rest m = marks x 44

  list_second : (x : A) (xs : List A) (rest : List Lexeme) → may (list_follow x xs) rest ≡ true → may (further_follow xs) rest ≡ true
  list_second x [] [] m = refl
  list_second x [] (l ∷ ls) m = and_last (follow x l) (further_follow [] l) m
  list_second x (y ∷ ys) [] m = refl
  list_second x (y ∷ ys) (l ∷ ls) m = m

  list_both : (x : A) (xs : List A) (rest : List Lexeme) → may (follow x) (flat_map (λ y. mark (byte ",") ∷ spell y) xs ++ rest) ≡ true → may (further_follow xs) rest ≡ true → may (list_follow x xs) rest ≡ true
  list_both x [] [] m k = refl
  list_both x [] (l ∷ ls) m k = and_both (follow x l) (further_follow [] l) m k
  list_both x (y ∷ ys) [] m k = refl
  list_both x (y ∷ ys) (l ∷ ls) m k = k

  abbrev ListedFits : A × List A → Type 0
  ListedFits p = Fits p.0 × FurtherFit p.1

  abbrev joined : List A → List Lexeme
  joined = join_by spell (mark (byte ",") ∷ [])

  further_to : (xs : List A) → FurtherFit xs → AllByRecursion Fits xs
  further_to [] f = tt
  further_to (x ∷ xs) f = (f.0, further_to xs f.1)

  further_from : (xs : List A) → AllByRecursion Fits xs → FurtherFit xs
  further_from [] f = tt
  further_from (x ∷ xs) f = (f.0, further_from xs f.1)

  list_from : (xs : List A) → AllByRecursion Fits xs → Made listed ListedFits xs ⊎ (xs ≡ [])
  list_from [] f = inr refl
  list_from (x ∷ xs) f = inl (record { from = (x, xs); fits = (f.0, further_from xs f.1); is = refl })

  list_to : (xs : List A) → Made listed ListedFits xs ⊎ (xs ≡ []) → AllByRecursion Fits xs
  list_to xs f = ⊎_elim
      (λ m. subst (AllByRecursion Fits) m.is (m.fits.0, further_to m.from.1 m.fits.1))
      (λ e. subst (AllByRecursion Fits) (sym e) tt) f

  module _ (starts : Lexeme → Bool) (begins : (x : A) (rest : List Lexeme) → next_passes starts (spell x ++ rest) ≡ true) where
    abbrev pub commas_follow : List A → Lexeme → Bool
    commas_follow [] l = not (starts l)
    commas_follow (x ∷ xs) l = list_follow x xs l

    listed_exact : Exact (made listed (after item (λ _. after_commas item))) joined (Made listed ListedFits) commas_follow
    listed_exact = made_exact listed (after item (λ _. after_commas item)) (λ p. spell p.0 ++ flat_map (λ y. mark (byte ",") ∷ spell y) p.1) ListedFits (λ p. list_follow p.0 p.1) joined commas_follow
        (after_exact_with item (λ _. after_commas item) spell Fits follow (λ _ xs. flat_map (λ y. mark (byte ",") ∷ spell y) xs) (λ _ xs. FurtherFit xs) (λ _ xs. further_follow xs) list_follow
        ei (λ _ _. further_exact) (λ x xs rest f g m. list_joins x xs rest m) list_second list_both)
        (λ p f. refl) (λ p f. refl)

    list_begins : (xs : List A) (rest : List Lexeme) → Made listed ListedFits xs → next_passes starts (joined xs ++ rest) ≡ true
    list_begins xs rest m =
        let more : List Lexeme = flat_map (λ y. mark (byte ",") ∷ spell y) m.from.1 in
        ap (λ z. next_passes starts (joined z ++ rest)) (sym m.is) ∙ ap (next_passes starts) (append_assoc (spell m.from.0) more rest) ∙ begins m.from.0 (more ++ rest)

    pub comma_list_exact : Exact (comma_list starts item) joined (All Fits) commas_follow
    comma_list_exact =
        fits_exact (comma_list starts item) joined (λ xs. Made listed ListedFits xs ⊎ (xs ≡ [])) (All Fits) commas_follow
        (optional_exact starts (made listed (after item (λ _. after_commas item))) [] joined (Made listed ListedFits) commas_follow listed_exact refl refl list_begins)
        (λ xs f. All-from_recursion Fits xs (list_to xs f)) (λ xs f. list_from xs (recursion_from_All Fits xs f))

    pub commas_close : (c : ℕ) → starts (mark c) ≡ false → is_mark (byte ",") (mark c) ≡ false → (xs : List A) → commas_follow xs (mark c) ≡ true
    commas_close c s t [] = ap not s
    commas_close c s t (x ∷ []) = and_both (follow x (mark c)) (further_follow [] (mark c)) (marks x c) (ap (λ b. not b && true) t)
    commas_close c s t (x ∷ y ∷ ys) = last_mark y ys
      where
        last_mark : (y : A) (ys : List A) → further_follow (y ∷ ys) (mark c) ≡ true
        last_mark y [] = and_both (not (is_mark (byte ",") (mark c))) (follow y (mark c)) (ap not t) (marks y c)
        last_mark y (z ∷ zs) = last_mark z zs
