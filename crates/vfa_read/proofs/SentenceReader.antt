-- Reading a whole function is exact, so at most one tree is spelled by a list of lexemes.
use Rattle.std.proofs.Common.{◌≡◌, ℕ, zero, suc, ◌+◌, ◌<◌, Bool, true, ◌&&◌, List, [], ◌∷◌, ◌++◌, flat_map, length, take, Option, Some, None, Ok, Err, ◌⊎◌, inl, inr, IsTrue, IsSome, refl, sym, ap, ◌∙◌, subst, append_assoc, append-nil, length-append, arith, Result}
use Rattle.std.specs.List.{AllByRecursion}
use Rattle.std.proofs.Math.Seq.{take-append_seam}
use Rattle.std.proofs.lemmas.List.Elements.{recursion_from_All, All-from_recursion}
use Rattle.std.specs.Str.{byte}
use Rattle.vfa_ir.specs.declared.syntax.BasicBlock.{BasicBlock}
use Rattle.vfa_ir.specs.Lexemes.{Lexeme, mark, label}
use Rattle.vfa_ir.specs.Grammar.{FitsBlock, FitsBlocks, FitsSentence, may_follow_parameters}
use Rattle.vfa_ir.specs.Reads.{IsSentence, BeginsSentence, StopsAt, IsUnfinished}
use Rattle.vfa_ir.specs.Sentence.{Sentence}
use Rattle.vfa_ir.specs.Spelling as spell
use Rattle.vfa_read.specs.Headers.{Header, header, tail_from, Body, body, sentence_of, sentence}
use Rattle.vfa_read.specs.Productions.{same_state, entry_label, block_with, further_blocks}
use Rattle.vfa_read.specs.Readers.{Reader, after, ended}
use Rattle.vfa_read.specs.Tables.{the_mark}
use Rattle.vfa_read.proofs.Exact.{Exact, Stops, Made, anything, may, may_anything, ok_value, ok_rest, after_exact, after_exact_with, made_exact, skip_exact, ended_exact, fits_exact}
use Rattle.vfa_read.proofs.HeaderReaders.{HeaderFits, header_spelling, header_exact}
use Rattle.vfa_read.proofs.LeafReaders.{mark_exact}
use Rattle.vfa_read.proofs.WordLists.{and_both, and_first, and_last, last_any}
use Rattle.vfa_read.proofs.Many.{FitsFrom}
use Rattle.vfa_read.proofs.TailReader.{TailFits, tail_follow, tail_exact}
use Rattle.vfa_read.proofs.WholeBlocks.{LabelledFits, block_follow, blocks_follow, further_exact, EntryFits, entry_exact}

-- the body

abbrev FurtherFit : List BasicBlock → Type 0
FurtherFit = FitsFrom {S = Unit {0}} (λ _. LabelledFits) same_state tt

abbrev pub BodyFits : Body → Type 0
BodyFits p = EntryFits p.0 × FurtherFit p.1

last_brace : (bs : List BasicBlock) → blocks_follow bs (mark (byte "}")) ≡ true
last_brace [] = refl
last_brace (b ∷ []) = last_any b.terminator.attached (mark (byte "}"))
last_brace (b ∷ c ∷ cs) = last_brace (c ∷ cs)

abbrev body_follow : BasicBlock → List BasicBlock → Lexeme → Bool
body_follow b [] l = block_follow b l && blocks_follow [] l
body_follow b (c ∷ cs) l = blocks_follow (c ∷ cs) l

body_joins : (b : BasicBlock) (bs : List BasicBlock) (rest : List Lexeme) → FurtherFit bs → may (body_follow b bs) rest ≡ true → may (block_follow b) (flat_map spell.block bs ++ rest) ≡ true
body_joins b [] [] f m = refl
body_joins b [] (l ∷ ls) f m = and_first (block_follow b l) (blocks_follow [] l) m
body_joins b (c ∷ cs) rest f m =
    ap (λ z. may (block_follow b) (((spell.block_label z ++ (flat_map spell.phi c.phis ++ (flat_map spell.instruction c.instructions ++ spell.terminator c.terminator))) ++ flat_map spell.block cs) ++ rest)) (sym f.0.0.is)
    ∙ last_any b.terminator.attached (spell_label f.0.0.from)
  where
    spell_label : List ℕ → Lexeme
    spell_label n = label n

body_second : (b : BasicBlock) (bs : List BasicBlock) (rest : List Lexeme) → may (body_follow b bs) rest ≡ true → may (blocks_follow bs) rest ≡ true
body_second b [] [] m = refl
body_second b [] (l ∷ ls) m = and_last (block_follow b l) (blocks_follow [] l) m
body_second b (c ∷ cs) [] m = refl
body_second b (c ∷ cs) (l ∷ ls) m = m

body_both : (b : BasicBlock) (bs : List BasicBlock) (rest : List Lexeme) → may (block_follow b) (flat_map spell.block bs ++ rest) ≡ true → may (blocks_follow bs) rest ≡ true → may (body_follow b bs) rest ≡ true
body_both b [] [] m k = refl
body_both b [] (l ∷ ls) m k = and_both (block_follow b l) (blocks_follow [] l) m k
body_both b (c ∷ cs) [] m k = refl
body_both b (c ∷ cs) (l ∷ ls) m k = k

brace_follows : (b : BasicBlock) (bs : List BasicBlock) → body_follow b bs (mark (byte "}")) ≡ true
brace_follows b [] = and_both (block_follow b (mark (byte "}"))) (blocks_follow [] (mark (byte "}"))) (last_any b.terminator.attached (mark (byte "}"))) refl
brace_follows b (c ∷ cs) = last_brace (c ∷ cs)

abbrev blocks : Reader Body
blocks = after (block_with entry_label) (λ _. further_blocks)

blocks_exact : Exact blocks (λ p. spell.block p.0 ++ flat_map spell.block p.1) BodyFits (λ p. body_follow p.0 p.1)
blocks_exact = after_exact_with (block_with entry_label) (λ _. further_blocks) spell.block EntryFits block_follow (λ _ bs. flat_map spell.block bs) (λ _ bs. FurtherFit bs) (λ _ bs. blocks_follow bs) body_follow
    entry_exact (λ _ _. further_exact) (λ b bs rest f g m. body_joins b bs rest g m) body_second body_both

abbrev pub body_spelling : Body → List Lexeme
body_spelling p = mark (byte "{") ∷ ((spell.block p.0 ++ flat_map spell.block p.1) ++ (mark (byte "}") ∷ []))

pub body_exact : Exact body body_spelling BodyFits anything
unfolding body
body_exact = skip_exact (the_mark (byte "{")) (mark (byte "{")) (ended blocks (the_mark (byte "}"))) (λ p. (spell.block p.0 ++ flat_map spell.block p.1) ++ (mark (byte "}") ∷ [])) BodyFits anything (mark_exact (byte "{"))
    (ended_exact blocks (the_mark (byte "}")) (mark (byte "}")) (λ p. spell.block p.0 ++ flat_map spell.block p.1) BodyFits (λ p. body_follow p.0 p.1) blocks_exact (mark_exact (byte "}")) (λ p f. brace_follows p.0 p.1))

-- the whole function

abbrev Whole : Type 0
Whole = Header × (List Lexeme × Body)

abbrev WholeFits : Whole → Type 0
WholeFits p = HeaderFits p.0 × (TailFits 0 p.1.0 × BodyFits p.1.1)

made_sentence : Exact sentence spell.spelling (Made sentence_of WholeFits) anything
unfolding sentence
made_sentence = made_exact sentence_of (after header (λ _. after (tail_from 0) (λ _. body))) (λ p. header_spelling p.0 ++ (p.1.0 ++ body_spelling p.1.1)) WholeFits anything spell.spelling anything
    (after_exact header (λ _. after (tail_from 0) (λ _. body)) header_spelling HeaderFits anything (λ _ q. q.0 ++ body_spelling q.1) (λ _ q. TailFits 0 q.0 × BodyFits q.1) (λ _ q. anything q) header_exact
    (λ _ _. after_exact (tail_from 0) (λ _. body) (λ t. t) (TailFits 0) tail_follow (λ _ b. body_spelling b) (λ _ b. BodyFits b) (λ _ b. anything b) (tail_exact 0) (λ _ _. body_exact) (λ a b rest f g m. refl))
    (λ a b rest f g m. may_anything a ((b.0 ++ body_spelling b.1) ++ rest)))
    (λ p f. refl) (λ p f. refl)

-- what the grammar asks

labelled_to : (bs : List BasicBlock) → FurtherFit bs → AllByRecursion FitsBlock bs × AllByRecursion (λ b. IsSome b.label) bs
labelled_to [] f = (tt, tt)
labelled_to (b ∷ bs) f = let r = labelled_to bs f.1 in ((f.0.1, r.0), (subst IsSome f.0.0.is refl, r.1))

some_label : (b : BasicBlock) → IsSome b.label → Made Some (λ _. Unit {0}) b.label
some_label b f = go b.label f
  where
    go : (o : Option (List ℕ)) → IsSome o → Made Some (λ _. Unit {0}) o
    go None f = cc
    go (Some n) f = record { from = n; fits = tt; is = refl }

labelled_from : (bs : List BasicBlock) → AllByRecursion FitsBlock bs → AllByRecursion (λ b. IsSome b.label) bs → FurtherFit bs
labelled_from [] f g = tt
labelled_from (b ∷ bs) f g = ((some_label b g.0, f.0), labelled_from bs f.1 g.1)

any_label : (o : Option (List ℕ)) → Made Some (λ _. Unit {0}) o ⊎ (o ≡ None)
any_label None = inr refl
any_label (Some n) = inl (record { from = n; fits = tt; is = refl })

sentence_to : (s : Sentence) → Made sentence_of WholeFits s → FitsSentence s
sentence_to s m = subst FitsSentence m.is (parts_to m.from m.fits)
  where
    parts_to : (p : Whole) → WholeFits p → FitsSentence (sentence_of p)
    parts_to (_, (tail, (entry, blocks))) ((lead, (width, (_, parameters))), ((stands, balanced), ((_, first), further))) =
        let rest = labelled_to blocks further in
        record {
          lead = lead;
          width = width;
          parameters = parameters;
          tail = All-from_recursion (λ t. IsTrue (may_follow_parameters t)) tail stands;
          balanced = balanced;
          blocks = (All-from_recursion FitsBlock (entry ∷ blocks) (first, rest.0), All-from_recursion (λ b. IsSome b.label) blocks rest.1);
        }

blocks_from : (s : Sentence) (bs : List BasicBlock) → s.blocks ≡ bs → FitsBlocks bs → FitsSentence s → Made sentence_of WholeFits s
blocks_from s [] e g f = absurd g
blocks_from s (b ∷ bs) e g f =
    let all = recursion_from_All FitsBlock (b ∷ bs) g.0 in
    record {
      from = ((s.lead, (s.width, (s.name, s.parameters))), (s.tail, (b, bs)));
      fits = (
        (f.lead, (f.width, (tt, f.parameters))),
        (
          (recursion_from_All (λ t. IsTrue (may_follow_parameters t)) s.tail f.tail, f.balanced),
          ((any_label b.label, all.0), labelled_from bs all.1 (recursion_from_All (λ c. IsSome c.label) bs g.1)),
        ),
      );
      is = ap (λ z. record s { blocks = z }) (sym e);
    }

pub sentence_exact : Exact sentence spell.spelling FitsSentence anything
sentence_exact = fits_exact sentence spell.spelling (Made sentence_of WholeFits) FitsSentence anything made_sentence sentence_to (λ s f. blocks_from s s.blocks refl f.blocks f)

-- at most one tree

pub read_whole : (found : List Lexeme) (s : Sentence) → IsSentence found s → sentence found ≡ Ok (s, [])
read_whole found s is = ap sentence (sym is.spelled ∙ sym (append-nil (spell.spelling s))) ∙ sentence_exact.again s [] is.fits refl

pub one_sentence : (found : List Lexeme) (s t : Sentence) → IsSentence found s → IsSentence found t → s ≡ t
one_sentence found s t a b = ok_value (s, []) (t, []) (sym (read_whole found s a) ∙ read_whole found t b)

-- each list of lexemes is a sentence, stops being one at a place, or is unfinished

take_more : (xs : List Lexeme) (b : Lexeme) (ys : List Lexeme) → take (suc (length xs)) (xs ++ (b ∷ ys)) ≡ xs ++ (b ∷ [])
take_more [] b ys = refl
take_more (x ∷ xs) b ys = ap (λ z. x ∷ z) (take_more xs b ys)

longer : (xs : List Lexeme) (b : Lexeme) (ys : List Lexeme) → length xs < length (xs ++ (b ∷ ys))
longer xs b ys = omega (arith, length-append xs (b ∷ ys))

ok_err : {s : Sentence} {n : ℕ} {rest : List Lexeme} → ◌≡◌ {A = Result (Sentence × List Lexeme) ℕ} (Ok (s, rest)) (Err n) → ⊥
ok_err e = cc

-- what a sentence that begins so reads as
begun_sentence : (prefix : List Lexeme) (b : Lexeme) (x : BeginsSentence (prefix ++ (b ∷ []))) → sentence (prefix ++ (b ∷ x.rest)) ≡ Ok (x.sentence, [])
begun_sentence prefix b x = ap sentence (sym (append_assoc prefix (b ∷ []) x.rest)) ∙ read_whole ((prefix ++ (b ∷ [])) ++ x.rest) x.sentence x.is

stops_at : (found prefix : List Lexeme) (b : Lexeme) (rest : List Lexeme) → found ≡ prefix ++ (b ∷ rest) → BeginsSentence prefix → (BeginsSentence (prefix ++ (b ∷ [])) → ⊥) → StopsAt found (length prefix)
stops_at found prefix b rest e begins bad = subst (λ z. StopsAt z (length prefix)) (sym e) (record {
  within = longer prefix b rest;
  begins = subst BeginsSentence (sym (take-append_seam prefix (b ∷ rest))) begins;
  stops = λ x. bad (subst BeginsSentence (take_more prefix b rest) x);
})

abbrev pub Reading : List Lexeme → Type 0
Reading found = ((s : Sentence) × IsSentence found s) ⊎ (((place : ℕ) × StopsAt found place) ⊎ IsUnfinished found)

pub stops_after : (found : List Lexeme) (s : Sentence) (l : Lexeme) (ls : List Lexeme) → sentence found ≡ Ok (s, l ∷ ls) → StopsAt found (length (spell.spelling s))
stops_after found s l ls e =
    let fits = sentence_exact.fits found (l ∷ ls) s e in
    let bad : BeginsSentence (spell.spelling s ++ (l ∷ [])) → ⊥ = λ x. (
    let here = sentence_exact.again s (l ∷ x.rest) fits refl in
    let no : [] ≡ l ∷ x.rest = ok_rest (x.sentence, []) (s, l ∷ x.rest) (sym (begun_sentence (spell.spelling s) l x) ∙ here) in
    cc) in
    stops_at found (spell.spelling s) l ls (sentence_exact.sound found (l ∷ ls) s e)
    (record { sentence = s; rest = []; is = record { fits = fits; spelled = sym (append-nil (spell.spelling s)) } }) bad

pub is_sentence : (found : List Lexeme) (s : Sentence) → sentence found ≡ Ok (s, []) → IsSentence found s
is_sentence found s e = record { fits = sentence_exact.fits found [] s e; spelled = sym (append-nil (spell.spelling s)) ∙ sym (sentence_exact.sound found [] s e) }

read_some : (found : List Lexeme) (s : Sentence) (rest : List Lexeme) → sentence found ≡ Ok (s, rest) → Reading found
read_some found s [] e = inl (s, is_sentence found s e)
read_some found s (l ∷ ls) e = inr (inl (length (spell.spelling s), stops_after found s l ls e))

-- the lexemes before the one at which reading stops, and those from it on
abbrev Stopped : List Lexeme → ℕ → Type 0
Stopped found n = Stops sentence spell.spelling FitsSentence found n

no_back : (back : List Lexeme) → length back ≡ 0 → back ≡ []
no_back [] e = refl
no_back (b ∷ rest) e = absurd (omega arith)

pub unfinished : (found : List Lexeme) → sentence found ≡ Err 0 → IsUnfinished found
unfinished found e =
    let c : Stopped found 0 = sentence_exact.stops found 0 e in
    let whole : found ≡ c.prefix = c.parts ∙ ap (λ z. c.prefix ++ z) (no_back c.back c.left) ∙ append-nil c.prefix in
    record {
      begins = subst BeginsSentence (sym whole) (record { sentence = c.value; rest = c.more; is = record { fits = c.fits; spelled = c.viable } });
      unfinished = λ s is. ok_err (sym (read_whole found s is) ∙ e);
    }

pub stops_before : (found : List Lexeme) (n place : ℕ) → place + suc n ≡ length found → sentence found ≡ Err (suc n) → StopsAt found place
stops_before found n place size e = by_back c.back refl
  where
    c : Stopped found (suc n)
    c = sentence_exact.stops found (suc n) e

    by_back : (back : List Lexeme) → c.back ≡ back → StopsAt found place
    by_back [] q =
        let none : length c.back ≡ 0 = ap length q in
        let left : length c.back ≡ suc n = c.left in
        absurd (omega arith)
    by_back (b ∷ rest) q =
        let bad : BeginsSentence (c.prefix ++ (b ∷ [])) → ⊥ = λ x. ok_err (sym (begun_sentence c.prefix b x) ∙ c.firm b rest x.rest q) in
        let whole : length found ≡ length (c.prefix ++ c.back) = ap length c.parts in
        let left : length c.back ≡ suc n = c.left in
        let here : length c.prefix ≡ place = omega (arith, length-append c.prefix c.back) in
        subst (StopsAt found) here (stops_at found c.prefix b rest (c.parts ∙ ap (λ z. c.prefix ++ z) q)
        (record { sentence = c.value; rest = c.more; is = record { fits = c.fits; spelled = c.viable } }) bad)

read_none : (found : List Lexeme) (n : ℕ) → sentence found ≡ Err n → Reading found
read_none found zero e = inr (inr (unfinished found e))
read_none found (suc n) e =
    let c : Stopped found (suc n) = sentence_exact.stops found (suc n) e in
    let whole : length found ≡ length (c.prefix ++ c.back) = ap length c.parts in
    let left : length c.back ≡ suc n = c.left in
    inr (inl (length c.prefix, stops_before found n (length c.prefix) (omega (arith, length-append c.prefix c.back)) e))

pub reading_of : (found : List Lexeme) → Reading found
reading_of found = by_read (sentence found) refl
  where
    by_read : (r : Result (Sentence × List Lexeme) ℕ) → sentence found ≡ r → Reading found
    by_read (Ok p) e = read_some found p.0 p.1 e
    by_read (Err n) e = read_none found n e
