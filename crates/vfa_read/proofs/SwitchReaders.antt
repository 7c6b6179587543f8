-- Reading a switch, and a binary operation with its flags, is exact.
use Rattle.std.proofs.Common.{◌≡◌, ℕ, ◌<◌, Bool, true, false, List, [], ◌∷◌, ◌++◌, flat_map, length, Ok, Err, refl, subst}
use Rattle.std.specs.Str.{byte}
use Rattle.vfa_ir.specs.declared.syntax.Literal.{Literal}
use Rattle.vfa_ir.specs.declared.syntax.SwitchCase.{SwitchCase}
use Rattle.vfa_ir.specs.declared.syntax.Written.{Written}
use Rattle.vfa_ir.specs.Lexemes.{Lexeme, mark}
use Rattle.vfa_ir.specs.Grammar.{IsWidth, FitsValue, FitsLiteral}
use Rattle.vfa_ir.specs.Spelling as spell
use Rattle.vfa_read.specs.Productions.{target, same_state, is_any_word, switch_case, case_of, switch_cases, switch, switch_of}
use Rattle.vfa_read.specs.Readers.{Reader, one, after, made, skip, ended, next_passes, ◌>>=◌}
use Rattle.vfa_read.specs.Tables.{the_mark, the_type, type_of, value_of, literal_of}
use Rattle.vfa_read.proofs.Exact.{Exact, Made, anything, may_anything, after_exact, made_exact, skip_exact, ended_exact, fits_exact}
use Rattle.vfa_read.proofs.LeafReaders.{mark_exact, value_exact, literal_exact}
use Rattle.vfa_read.proofs.Many.{Begins, FitsFrom, follow_many, many_exact, many_item, many_bad, many_done, shorter}
use Rattle.vfa_read.proofs.FormReaders.{after_terminator_word, the_type_exact, typed_exact, target_exact}

-- the cases

abbrev pub CaseFits : ℕ → SwitchCase → Type 0
CaseFits w c = FitsLiteral w c.number

abbrev case_pair : ℕ → Reader (Literal × List ℕ)
case_pair w = after (one (literal_of w)) (λ _. skip (the_mark (byte ",")) target)

case_pair_exact : (w : ℕ) → IsWidth w → Exact (case_pair w) (λ p. spell.literal p.0 ++ (mark (byte ",") ∷ spell.target p.1)) (λ p. FitsLiteral w p.0 × Unit {0}) anything
case_pair_exact w h = after_exact (one (literal_of w)) (λ _. skip (the_mark (byte ",")) target) spell.literal (FitsLiteral w) anything (λ _ x. mark (byte ",") ∷ spell.target x) (λ _ _. Unit {0}) (λ _ x. anything x)
    (literal_exact w h) (λ _ _. skip_exact (the_mark (byte ",")) (mark (byte ",")) target spell.target (λ _. Unit {0}) anything (mark_exact (byte ",")) target_exact)
    (λ a b rest f g m. may_anything a ((mark (byte ",") ∷ spell.target b) ++ rest))

pub case_exact : (w : ℕ) → IsWidth w → Exact (switch_case w) (spell.switch_case w) (CaseFits w) anything
unfolding switch_case
case_exact w h =
    let pairs = skip (the_type w) (case_pair w) in
    fits_exact (made case_of pairs) (spell.switch_case w) (Made case_of (λ p. FitsLiteral w p.0 × Unit {0})) (CaseFits w) anything
    (made_exact case_of pairs (λ p. spell.type w ∷ (spell.literal p.0 ++ (mark (byte ",") ∷ spell.target p.1))) (λ p. FitsLiteral w p.0 × Unit {0}) anything (spell.switch_case w) anything
    (skip_exact (the_type w) (spell.type w) (case_pair w) (λ p. spell.literal p.0 ++ (mark (byte ",") ∷ spell.target p.1)) (λ p. FitsLiteral w p.0 × Unit {0}) anything (the_type_exact w h) (case_pair_exact w h))
    (λ p f. refl) (λ p f. refl))
    (λ c m. subst (CaseFits w) m.is m.fits.0)
    (λ c f. record { from = (c.number, c.block); fits = (f, tt); is = refl })

case_begins : (w : ℕ) (s : Unit {0}) (c : SwitchCase) → CaseFits w c → Begins is_any_word (spell.switch_case w c)
case_begins w s c f = record { head = spell.type w; more = spell.literal c.number ++ (mark (byte ",") ∷ spell.target c.block); is = refl; passes = refl }

abbrev pub CasesFit : ℕ → List SwitchCase → Type 0
CasesFit w = FitsFrom {S = Unit {0}} (λ _. CaseFits w) same_state tt

abbrev pub case_follow : List SwitchCase → Lexeme → Bool
case_follow = follow_many is_any_word anything

pub cases_exact : (w : ℕ) → IsWidth w → Exact (switch_cases w) (flat_map (spell.switch_case w)) (CasesFit w) case_follow
unfolding switch_cases
cases_exact w h = many_exact is_any_word (λ _. switch_case w) same_state (spell.switch_case w) (λ _. CaseFits w) anything (λ _. case_exact w h) (case_begins w) (λ x l e. refl) tt

module _ (w : ℕ) (h : IsWidth w) where
  pub cases_done : (ts : List Lexeme) → next_passes is_any_word ts ≡ false → switch_cases w ts ≡ Ok ([], ts)
  unfolding switch_cases
  cases_done ts t = many_done is_any_word (λ _. switch_case w) same_state (spell.switch_case w) (λ _. CaseFits w) anything (λ _. case_exact w h) (case_begins w) (λ x l e. refl) tt ts t

  pub cases_item : (ts rest : List Lexeme) (x : SwitchCase) → next_passes is_any_word ts ≡ true → switch_case w ts ≡ Ok (x, rest) → switch_cases w ts ≡ (switch_cases w rest >>= λ q. Ok (x ∷ q.0, q.1))
  unfolding switch_cases
  cases_item ts rest x t e = many_item is_any_word (λ _. switch_case w) same_state (spell.switch_case w) (λ _. CaseFits w) anything (λ _. case_exact w h) (case_begins w) (λ x l e. refl) tt ts rest x t e

  pub cases_bad : (ts : List Lexeme) (k : ℕ) → next_passes is_any_word ts ≡ true → switch_case w ts ≡ Err k → switch_cases w ts ≡ Err k
  unfolding switch_cases
  cases_bad ts k t e = many_bad is_any_word (λ _. switch_case w) same_state (spell.switch_case w) (λ _. CaseFits w) anything (λ _. case_exact w h) (case_begins w) (λ x l e. refl) tt ts k t e

  pub case_shorter : (ts rest : List Lexeme) (x : SwitchCase) → switch_case w ts ≡ Ok (x, rest) → length rest < length ts
  case_shorter ts rest x e = shorter is_any_word (λ _. switch_case w) same_state (spell.switch_case w) (λ _. CaseFits w) anything (λ _. case_exact w h) (case_begins w) (λ x l e. refl) tt ts rest x e

-- the whole switch

abbrev Rest : Type 0
Rest = Written × (List ℕ × List SwitchCase)

abbrev closed_cases : ℕ → Reader (List SwitchCase)
closed_cases w = skip (the_mark (byte "[")) (ended (switch_cases w) (the_mark (byte "]")))

closed_cases_exact : (w : ℕ) → IsWidth w → Exact (closed_cases w) (λ cs. mark (byte "[") ∷ (flat_map (spell.switch_case w) cs ++ (mark (byte "]") ∷ []))) (CasesFit w) anything
closed_cases_exact w h = skip_exact (the_mark (byte "[")) (mark (byte "[")) (ended (switch_cases w) (the_mark (byte "]"))) (λ cs. flat_map (spell.switch_case w) cs ++ (mark (byte "]") ∷ [])) (CasesFit w) anything (mark_exact (byte "["))
    (ended_exact (switch_cases w) (the_mark (byte "]")) (mark (byte "]")) (flat_map (spell.switch_case w)) (CasesFit w) case_follow (cases_exact w h) (mark_exact (byte "]")) (λ cs f. last_mark cs))
  where
    last_mark : (cs : List SwitchCase) → case_follow cs (mark (byte "]")) ≡ true
    last_mark [] = refl
    last_mark (c ∷ []) = refl
    last_mark (c ∷ d ∷ ds) = last_mark (d ∷ ds)

abbrev pub SwitchFits : ℕ × Rest → Type 0
SwitchFits (width, (on, (_, cases))) = IsWidth width × (FitsValue width on × (Unit {0} × CasesFit width cases))

abbrev switch_rest_spelling : ℕ → Rest → List Lexeme
switch_rest_spelling w q = spell.value q.0 ++ (mark (byte ",") ∷ (spell.target q.1.0 ++ (mark (byte "[") ∷ (flat_map (spell.switch_case w) q.1.1 ++ (mark (byte "]") ∷ [])))))

pub switch_exact : Exact switch after_terminator_word (Made switch_of SwitchFits) anything
unfolding switch
switch_exact = made_exact switch_of (after (one type_of) (λ width. after (one (value_of width)) (λ _. skip (the_mark (byte ",")) (after target (λ _. closed_cases width)))))
    (λ p. spell.type p.0 ∷ switch_rest_spelling p.0 p.1) SwitchFits anything after_terminator_word anything
    (typed_exact (λ width. after (one (value_of width)) (λ _. skip (the_mark (byte ",")) (after target (λ _. closed_cases width)))) switch_rest_spelling
    (λ w q. FitsValue w q.0 × (Unit {0} × CasesFit w q.1.1))
    (λ w h. after_exact (one (value_of w)) (λ _. skip (the_mark (byte ",")) (after target (λ _. closed_cases w))) spell.value (FitsValue w) anything
    (λ _ q. mark (byte ",") ∷ (spell.target q.0 ++ (mark (byte "[") ∷ (flat_map (spell.switch_case w) q.1 ++ (mark (byte "]") ∷ []))))) (λ _ q. Unit {0} × CasesFit w q.1) (λ _ q. anything q) (value_exact w h)
    (λ _ _. skip_exact (the_mark (byte ",")) (mark (byte ",")) (after target (λ _. closed_cases w)) (λ q. spell.target q.0 ++ (mark (byte "[") ∷ (flat_map (spell.switch_case w) q.1 ++ (mark (byte "]") ∷ [])))) (λ q. Unit {0} × CasesFit w q.1) anything (mark_exact (byte ","))
    (after_exact target (λ _. closed_cases w) spell.target (λ _. Unit {0}) anything (λ _ cs. mark (byte "[") ∷ (flat_map (spell.switch_case w) cs ++ (mark (byte "]") ∷ []))) (λ _. CasesFit w) (λ _ cs. anything cs)
    target_exact (λ _ _. closed_cases_exact w h) (λ a b rest f g m. refl)))
    (λ a b rest f g m. may_anything a ((mark (byte ",") ∷ (spell.target b.0 ++ (mark (byte "[") ∷ (flat_map (spell.switch_case w) b.1 ++ (mark (byte "]") ∷ []))))) ++ rest))))
    (λ p f. refl) (λ p f. refl)
