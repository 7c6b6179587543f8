-- A function that some text reads as has what the printer needs.
use Rattle.std.proofs.Common.{◌≡◌, ◌∙◌, ℕ, zero, suc, List, [], ◌∷◌, ◌++◌, length, take, drop, map, flat_map, ◌+◌, All, IsTrue, None, refl, sym, ap, subst}
use Rattle.std.proofs.Math.Seq.{take-append_seam, drop-append_seam}
use Rattle.std.proofs.lemmas.List.Elements.{All-from_recursion, recursion_from_All}
use Rattle.std.specs.List.{AllByRecursion}
use Rattle.vfa_ir.specs.declared.functions.Function.{Function}
use Rattle.vfa_ir.specs.declared.functions.Param.{Param}
use Rattle.vfa_ir.specs.declared.syntax.BasicBlock.{BasicBlock}
use Rattle.vfa_ir.specs.declared.syntax.Parameter.{Parameter}
use Rattle.vfa_ir.specs.declared.tokens.Token.{Token}
use Rattle.vfa_ir.specs.DefinedNames.{block_names, duplicate_of, unknown_of, uses, value_names}
use Rattle.vfa_ir.specs.Grammar.{FitsBlock, FitsBlocks, FitsParameter, FitsSentence, is_balanced, may_follow_parameters}
use Rattle.vfa_ir.specs.Printable.{IsPrintable, IsTail, PrintableBlock, PrintableCall}
use Rattle.vfa_ir.specs.Reads.{Fit, tail_bytes}
use Rattle.vfa_ir.specs.Resolution.{Scope, block_calls, blocks_of, call_count, function_of, params_from, scope_of}
use Rattle.vfa_ir.specs.Sentence.{Sentence}
use Rattle.vfa_ir.specs.Spelling.{header, spelling}
use Rattle.vfa_ir.specs.TokenLexemes.{lexemes, token_lexeme}
use Rattle.vfa_ir.specs.Tokens.{tokens_of}
use Rattle.vfa_ir.specs.Words.{is_among, parameter_words}
use Rattle.vfa_print.proofs.NamesInOrder.{ids_in_order, kept_once, length-map, types_of, values_length}
use Rattle.vfa_print.proofs.NamesOfText.{HasName, kept_names_some, lexemes_some, name_some, of_blocks}
use Rattle.vfa_print.proofs.PrintableCalls.{calls_are, places_are}
use Rattle.vfa_print.proofs.PrintableParts.{all_known, blocks_are}
use Rattle.vfa_print.proofs.TokensCut.{read_part}

take-map : {A B : Type 0} (f : A → B) (n : ℕ) (xs : List A) → map f (take n xs) ≡ take n (map f xs)
take-map f zero xs = refl
take-map f (suc n) [] = refl
take-map f (suc n) (x ∷ xs) = ap (λ r. f x ∷ r) (take-map f n xs)

drop-map : {A B : Type 0} (f : A → B) (n : ℕ) (xs : List A) → map f (drop n xs) ≡ drop n (map f xs)
drop-map f zero xs = refl
drop-map f (suc n) [] = refl
drop-map f (suc n) (x ∷ xs) = drop-map f n xs

-- the middle of three parts
middle : {A : Type 0} (prefix part back all : List A) → prefix ++ (part ++ back) ≡ all → take (length part) (drop (length prefix) all) ≡ part
middle prefix part back all e =
    ap (λ l. take (length part) (drop (length prefix) l)) (sym e)
    ∙ ap (take (length part)) (drop-append_seam prefix (part ++ back)) ∙ take-append_seam part back

-- the tokens between the parameters and the body
abbrev tail_tokens : List ℕ → Sentence → List Token
tail_tokens text s = take (length s.tail) (drop (length (header s)) (tokens_of text))

tail_spelled : (text : List ℕ) (s : Sentence) → spelling s ≡ lexemes text (tokens_of text) → lexemes text (tail_tokens text s) ≡ s.tail
tail_spelled text s e =
    take-map (token_lexeme text) (length s.tail) (drop (length (header s)) (tokens_of text))
    ∙ ap (take (length s.tail)) (drop-map (token_lexeme text) (length (header s)) (tokens_of text))
    ∙ middle (header s) s.tail _ (lexemes text (tokens_of text)) e

tail_is : (text : List ℕ) (s : Sentence) → FitsSentence s → spelling s ≡ lexemes text (tokens_of text) → IsTail (tail_bytes text (tokens_of text) s)
tail_is text s fits e =
    let read = read_part text (length (header s)) (length s.tail) in
    let same : lexemes (tail_bytes text (tokens_of text) s) (tokens_of (tail_bytes text (tokens_of text) s)) ≡ s.tail = read.same ∙ tail_spelled text s e in
    record {
      whole = read.whole;
      tokens = subst (All (λ t. IsTrue (may_follow_parameters t))) (sym same) fits.tail;
      balanced = subst (λ ls. IsTrue (is_balanced 0 ls)) (sym same) fits.balanced;
    }

blocks_fit : (bs : List BasicBlock) → FitsBlocks bs → AllByRecursion FitsBlock bs
blocks_fit [] fits = absurd fits
blocks_fit (b ∷ bs) fits = recursion_from_All FitsBlock (b ∷ bs) fits.0

blocks_counted : (scope : Scope) (n : ℕ) (bs : List BasicBlock) → length (blocks_of scope n bs) ≡ length bs
blocks_counted scope n [] = refl
blocks_counted scope n (b ∷ bs) = ap suc (blocks_counted scope (n + call_count b) bs)

some_block : (s : Sentence) (bs : List BasicBlock) → FitsBlocks bs → blocks_of (scope_of s) 0 bs ≡ [] → ⊥
some_block s [] fits e = absurd fits
some_block s (b ∷ bs) fits e = cc

abbrev ItsWords : Param → Type 0
ItsWords p = All (λ w. IsTrue (is_among w parameter_words)) p.words

params_words : (place : ℕ) (ps : List Parameter) → AllByRecursion FitsParameter ps → AllByRecursion ItsWords (params_from place ps)
params_words place [] fits = tt
params_words place (p ∷ ps) fits = (fits.0.words, params_words (suc place) ps fits.1)

-- the function of a tree that fits and whose names are distinct and known
sentence_printable :
    (text : List ℕ) (s : Sentence) → FitsSentence s → spelling s ≡ lexemes text (tokens_of text) → duplicate_of s ≡ None → unknown_of s ≡ None →
    IsPrintable (function_of s (tail_bytes text (tokens_of text) s))
sentence_printable text s fits e distinct known =
    let tail : List ℕ = tail_bytes text (tokens_of text) s in
    let f : Function = function_of s tail in
    let blocks : AllByRecursion FitsBlock s.blocks = blocks_fit s.blocks fits.blocks in
    let names : AllByRecursion HasName (spelling s) = subst (AllByRecursion HasName) (sym e) (lexemes_some text (tokens_of text)) in
    let block_count : length (block_names s) ≡ length f.blocks = length-map _ s.blocks ∙ sym (blocks_counted (scope_of s) 0 s.blocks) in
    let value_count : length (value_names s) ≡ length f.values = sym (values_length s tail) in
    let used = all_known (value_names s) (block_names s) (uses s) known in
    let parts = blocks_are f (scope_of s) value_count block_count 0 s.blocks blocks used in
    let calls = calls_are f (scope_of s) value_count block_count s.blocks blocks used (of_blocks s names) in
    record {
      name = name_some s names;
      lead = fits.lead;
      width = fits.width;
      words = All-from_recursion ItsWords (params_from 0 s.parameters) (params_words 0 s.parameters (recursion_from_All FitsParameter s.parameters fits.parameters));
      tail = tail_is text s fits e;
      ids = ids_in_order s tail distinct;
      types = types_of s tail fits.parameters;
      names = kept_names_some s names tail;
      distinct = kept_once s tail distinct;
      some = some_block s s.blocks fits.blocks;
      blocks = All-from_recursion (PrintableBlock f) (blocks_of (scope_of s) 0 s.blocks) parts;
      call_places = places_are (scope_of s) 0 s.blocks;
      calls = All-from_recursion (PrintableCall f) (flat_map (block_calls (scope_of s)) s.blocks) calls;
    }

pub fit_is_printable : (f : Function) → Fit f → IsPrintable f
fit_is_printable f fit =
    let r = fit.reads in
    subst IsPrintable r.function (sentence_printable fit.text r.sentence r.is.fits r.is.spelled r.distinct r.known)
