-- Reading the header of a function is exact.
use Rattle.std.proofs.Common.{◌≡◌, ℕ, Bool, true, false, not, ◌&&◌, List, [], ◌∷◌, ◌++◌, map, Option, Some, None, ◌⊎◌, inl, inr, All, IsTrue, codes, refl, sym, ap, subst}
use Rattle.std.specs.List.{join_by}
use Rattle.std.specs.Str.{byte}
use Rattle.vfa_ir.specs.declared.syntax.Parameter.{Parameter}
use Rattle.vfa_ir.specs.Lexemes.{Lexeme, local, global, mark, word}
use Rattle.vfa_ir.specs.Grammar.{IsWidth, FitsParameter}
use Rattle.vfa_ir.specs.Spelling as spell
use Rattle.vfa_ir.specs.Words.{is_among, lead_words, parameter_words}
use Rattle.vfa_read.specs.Headers.{starts_name, optional_name, parameter_of, parameter, parameters, Header, header}
use Rattle.vfa_read.specs.Productions.{is_any_word, is_word_among, words_among}
use Rattle.vfa_read.specs.Readers.{Reader, one, after, made, skip, ended, next_passes}
use Rattle.vfa_read.specs.Tables.{the_mark, the_word, local_name, global_name, type_of}
use Rattle.vfa_read.proofs.Exact.{Exact, Made, anything, may, may_anything, after_exact, after_exact_with, made_exact, optional_exact, skip_exact, ended_exact, fits_exact}
use Rattle.vfa_read.proofs.LeafReaders.{mark_exact, word_exact, local_exact, global_exact, type_exact}
use Rattle.vfa_read.proofs.CommaLists.{comma_list_exact, commas_close, commas_follow}
use Rattle.vfa_read.proofs.WordLists.{and_both, and_first, and_last, last_any, no_letter, no_word_follows, words_exact, words_follow}
use Rattle.vfa_read.proofs.Many.{follow_last}

-- no type is a word of the header

type_no_lead : (w : ℕ) → IsWidth w → is_word_among lead_words (spell.type w) ≡ false
type_no_lead w h =
    let a = no_letter w (codes "ternal") h in
    let b = no_letter w (codes "reg") h in
    rw (a, b) refl

-- a parameter

abbrev name_follow : Option (List ℕ) → Lexeme → Bool
name_follow None l = not (starts_name l)
name_follow (Some _) l = true

some_name : Exact (made Some (one local_name)) spell.parameter_name (Made Some (λ _. Unit {0})) name_follow
some_name = made_exact Some (one local_name) (λ x. local x ∷ []) (λ _. Unit {0}) anything spell.parameter_name name_follow local_exact (λ a f. refl) (λ a f. refl)

abbrev AnyName : Option (List ℕ) → Type 0
AnyName o = Made Some (λ _. Unit {0}) o ⊎ (o ≡ None)

name_exact : Exact optional_name spell.parameter_name AnyName name_follow
name_exact = optional_exact starts_name (made Some (one local_name)) None spell.parameter_name (Made Some (λ _. Unit {0})) name_follow some_name refl refl
    (λ o rest m. ap (λ z. next_passes starts_name (spell.parameter_name z ++ rest)) (sym m.is))

any_name : (o : Option (List ℕ)) → AnyName o
any_name None = inr refl
any_name (Some n) = inl (record { from = n; fits = tt; is = refl })

abbrev attribute_follow : List (List ℕ) → Lexeme → Bool
attribute_follow = words_follow parameter_words

last_all : (ws : List (List ℕ)) (l : Lexeme) → is_word_among parameter_words l ≡ false → attribute_follow ws l ≡ true
last_all = no_word_follows parameter_words

-- what may follow a parameter: no attribute, and where it has no name no name
abbrev pub parameter_follow : Parameter → Lexeme → Bool
parameter_follow p l = elim p.name [ None ↦ attribute_follow p.words l && not (starts_name l) | Some _ ↦ true ]

abbrev tail_follow : List (List ℕ) → Option (List ℕ) → Lexeme → Bool
tail_follow ws None l = attribute_follow ws l && not (starts_name l)
tail_follow ws (Some _) l = true

words_join : (ws : List (List ℕ)) (o : Option (List ℕ)) (rest : List Lexeme) → may (tail_follow ws o) rest ≡ true → may (attribute_follow ws) (spell.parameter_name o ++ rest) ≡ true
words_join ws None [] m = refl
words_join ws None (l ∷ ls) m = and_first (attribute_follow ws l) (not (starts_name l)) m
words_join ws (Some n) rest m = last_all ws (local n) refl

words_second : (ws : List (List ℕ)) (o : Option (List ℕ)) (rest : List Lexeme) → may (tail_follow ws o) rest ≡ true → may (name_follow o) rest ≡ true
words_second ws None [] m = refl
words_second ws None (l ∷ ls) m = and_last (attribute_follow ws l) (not (starts_name l)) m
words_second ws (Some n) [] m = refl
words_second ws (Some n) (l ∷ ls) m = refl

words_both : (ws : List (List ℕ)) (o : Option (List ℕ)) (rest : List Lexeme) → may (attribute_follow ws) (spell.parameter_name o ++ rest) ≡ true → may (name_follow o) rest ≡ true → may (tail_follow ws o) rest ≡ true
words_both ws None [] m k = refl
words_both ws None (l ∷ ls) m k = and_both (attribute_follow ws l) (not (starts_name l)) m k
words_both ws (Some n) [] m k = refl
words_both ws (Some n) (l ∷ ls) m k = refl

abbrev ParameterParts : Type 0
ParameterParts = ℕ × (List (List ℕ) × Option (List ℕ))

abbrev WordsFit : List (List ℕ) → Type 0
WordsFit = All (λ w. IsTrue (is_among w parameter_words))

abbrev ParameterFits : ParameterParts → Type 0
ParameterFits p = IsWidth p.0 × (WordsFit p.1.0 × AnyName p.1.1)

same_follow : (p : ParameterParts) → parameter_follow (parameter_of p) ≡ tail_follow p.1.0 p.1.1
same_follow p = go p.1.1
  where
    go : (o : Option (List ℕ)) → parameter_follow (parameter_of (p.0, (p.1.0, o))) ≡ tail_follow p.1.0 o
    go None = refl
    go (Some n) = refl

attributes_exact : Exact (words_among parameter_words) (map word) WordsFit attribute_follow
attributes_exact = words_exact parameter_words (codes "noundef") refl

pub parameter_exact : Exact parameter spell.parameter FitsParameter parameter_follow
unfolding parameter
parameter_exact =
    let read = after (one type_of) (λ _. after (words_among parameter_words) (λ _. optional_name)) in
    fits_exact (made parameter_of read) spell.parameter (Made parameter_of ParameterFits) FitsParameter parameter_follow
    (made_exact parameter_of read (λ p. spell.type p.0 ∷ (map word p.1.0 ++ spell.parameter_name p.1.1)) ParameterFits (λ p. tail_follow p.1.0 p.1.1) spell.parameter parameter_follow
    (after_exact (one type_of) (λ _. after (words_among parameter_words) (λ _. optional_name)) (λ w. spell.type w ∷ []) IsWidth anything
    (λ _ q. map word q.0 ++ spell.parameter_name q.1) (λ _ q. WordsFit q.0 × AnyName q.1) (λ _ q. tail_follow q.0 q.1) type_exact
    (λ _ _. after_exact_with (words_among parameter_words) (λ _. optional_name) (map word) WordsFit attribute_follow (λ _ o. spell.parameter_name o) (λ _ o. AnyName o) (λ _ o. name_follow o) tail_follow
    attributes_exact (λ _ _. name_exact) (λ ws o rest f g m. words_join ws o rest m) words_second words_both)
    (λ a b rest f g m. may_anything a ((map word b.0 ++ spell.parameter_name b.1) ++ rest)))
    (λ p f. refl) (λ p f. same_follow p))
    (λ p m. subst FitsParameter m.is (record { width = m.fits.0; words = m.fits.1.0 }))
    (λ p f. record { from = (p.width, (p.words, p.name)); fits = (f.width, (f.words, any_name p.name)); is = refl })

-- all parameters

pub mark_follows : (p : Parameter) (c : ℕ) → parameter_follow p (mark c) ≡ true
mark_follows p c = go p.name
  where
    go : (o : Option (List ℕ)) → elim o as (λ _. Bool) [ None ↦ attribute_follow p.words (mark c) && true | Some _ ↦ true ] ≡ true
    go None = and_both (attribute_follow p.words (mark c)) true (last_all p.words (mark c) refl) refl
    go (Some n) = refl

pub type_begins : (p : Parameter) (rest : List Lexeme) → next_passes is_any_word (spell.parameter p ++ rest) ≡ true
type_begins p rest = refl

abbrev pub parameters_follow : List Parameter → Lexeme → Bool
parameters_follow = commas_follow parameter spell.parameter FitsParameter parameter_follow parameter_exact mark_follows is_any_word type_begins

abbrev joined : List Parameter → List Lexeme
joined = join_by spell.parameter (mark (byte ",") ∷ [])

pub parameters_exact : Exact parameters joined (All FitsParameter) parameters_follow
unfolding parameters
parameters_exact = comma_list_exact parameter spell.parameter FitsParameter parameter_follow parameter_exact mark_follows is_any_word type_begins

closes_parameters : (ps : List Parameter) → parameters_follow ps (mark (byte ")")) ≡ true
closes_parameters = commas_close parameter spell.parameter FitsParameter parameter_follow parameter_exact mark_follows is_any_word type_begins 41 refl refl

-- the header

abbrev LeadFits : List (List ℕ) → Type 0
LeadFits = All (λ w. IsTrue (is_among w lead_words))

abbrev lead_follow : List (List ℕ) → Lexeme → Bool
lead_follow = words_follow lead_words

lead_type : (ws : List (List ℕ)) (w : ℕ) → IsWidth w → lead_follow ws (spell.type w) ≡ true
lead_type ws w h = and_both (not (is_word_among lead_words (spell.type w))) (follow_last {A = List ℕ} anything ws (spell.type w)) (ap not (type_no_lead w h)) (last_any ws (spell.type w))

abbrev pub HeaderFits : Header → Type 0
HeaderFits (lead, (width, (_, parameters))) = LeadFits lead × (IsWidth width × (Unit {0} × All FitsParameter parameters))

abbrev pub header_spelling : Header → List Lexeme
header_spelling (lead, (width, (name, parameters))) =
    word (codes "define") ∷ (map word lead ++ (spell.type width ∷ global name ∷ mark (byte "(") ∷ (joined parameters ++ (mark (byte ")") ∷ []))))

abbrev closed : Reader (List Parameter)
closed = skip (the_mark (byte "(")) (ended parameters (the_mark (byte ")")))

closed_exact : Exact closed (λ ps. mark (byte "(") ∷ (joined ps ++ (mark (byte ")") ∷ []))) (All FitsParameter) anything
closed_exact = skip_exact (the_mark (byte "(")) (mark (byte "(")) (ended parameters (the_mark (byte ")"))) (λ ps. joined ps ++ (mark (byte ")") ∷ [])) (All FitsParameter) anything (mark_exact (byte "("))
    (ended_exact parameters (the_mark (byte ")")) (mark (byte ")")) joined (All FitsParameter) parameters_follow parameters_exact (mark_exact (byte ")")) (λ ps f. closes_parameters ps))

abbrev AfterLead : Type 0
AfterLead = ℕ × (List ℕ × List Parameter)

abbrev AfterLeadFits : AfterLead → Type 0
AfterLeadFits q = IsWidth q.0 × (Unit {0} × All FitsParameter q.1.1)

abbrev after_lead : Reader AfterLead
after_lead = after (one type_of) (λ _. after (one global_name) (λ _. closed))

abbrev after_lead_spelling : AfterLead → List Lexeme
after_lead_spelling q = spell.type q.0 ∷ global q.1.0 ∷ mark (byte "(") ∷ (joined q.1.1 ++ (mark (byte ")") ∷ []))

after_lead_exact : Exact after_lead after_lead_spelling AfterLeadFits anything
after_lead_exact = after_exact (one type_of) (λ _. after (one global_name) (λ _. closed)) (λ w. spell.type w ∷ []) IsWidth anything
    (λ _ q. global q.0 ∷ mark (byte "(") ∷ (joined q.1 ++ (mark (byte ")") ∷ []))) (λ _ q. Unit {0} × All FitsParameter q.1) (λ _ q. anything q) type_exact
    (λ _ _. after_exact (one global_name) (λ _. closed) (λ x. global x ∷ []) (λ _. Unit {0}) anything (λ _ ps. mark (byte "(") ∷ (joined ps ++ (mark (byte ")") ∷ []))) (λ _ ps. All FitsParameter ps) (λ _ ps. anything ps)
    global_exact (λ _ _. closed_exact) (λ a b rest f g m. refl))
    (λ a b rest f g m. refl)

pub header_exact : Exact header header_spelling HeaderFits anything
unfolding header
header_exact = skip_exact (the_word (codes "define")) (word (codes "define")) (after (words_among lead_words) (λ _. after_lead)) (λ p. map word p.0 ++ after_lead_spelling p.1) HeaderFits anything (word_exact (codes "define"))
    (after_exact (words_among lead_words) (λ _. after_lead) (map word) LeadFits lead_follow (λ _ q. after_lead_spelling q) (λ _ q. AfterLeadFits q) (λ _ q. anything q)
    (words_exact lead_words (codes "internal") refl) (λ _ _. after_lead_exact) (λ ws q rest f g m. lead_type ws q.0 g.0))
