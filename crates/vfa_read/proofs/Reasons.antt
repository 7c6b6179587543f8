-- A text has at most one reason to be refused, and none where it is accepted.
use Rattle.std.proofs.Common.{◌≡◌, ◌≤◌, ◌<◌, ℕ, zero, suc, List, [], ◌∷◌, ◌++◌, take, drop, Option, Some, None, Result, Ok, Err, IfOk, IfErr, OnOk, ◌⊎◌, inl, inr, refl, sym, ap, ◌∙◌, subst, append_assoc, append-nil, arith, map}
use Rattle.std.proofs.lemmas.List.{take-append-drop}
use Rattle.vfa_ir.specs.declared.functions.Function.{Function}
use Rattle.vfa_ir.specs.declared.functions.Lines.{Lines}
use Rattle.vfa_ir.specs.declared.reasons.Kind.{Kind}
use Rattle.vfa_ir.specs.declared.reasons.Outside.{Outside}
use Rattle.vfa_ir.specs.declared.tokens.Token.{Token}
use Rattle.vfa_ir.specs.DefinedNames.{duplicate_of, unknown_of}
use Rattle.vfa_ir.specs.Lexemes.{Lexeme}
use Rattle.vfa_ir.specs.Reads.{BeginsSentence, IsAccepted, IsReason, IsSentence, IsShape, StopsAt, line_at, tail_bytes, too_many}
use Rattle.vfa_ir.specs.Resolution.{function_of}
use Rattle.vfa_ir.specs.Sentence.{Sentence}
use Rattle.vfa_ir.specs.TextLines.{lines_of}
use Rattle.vfa_ir.specs.TokenLexemes.{lexemes}
use Rattle.vfa_read.specs.declared.reading.ReadFunction.{ReadFunction}
use Rattle.vfa_read.proofs.SentenceReader.{one_sentence}
use Rattle.vfa_read.proofs.Outcomes.{none_some, some_same}

-- where a list of lexemes stops being a sentence

take_shorter : (p q : ℕ) (xs : List Lexeme) → p ≤ q → take q xs ≡ take p xs ++ drop p (take q xs)
take_shorter zero q xs h = refl
take_shorter (suc p) zero xs h = absurd (omega (arith, h))
take_shorter (suc p) (suc q) [] h = refl
take_shorter (suc p) (suc q) (x ∷ xs) h = ap (λ z. x ∷ z) (take_shorter p q xs (omega (arith, h)))

begins_shorter : (prefix more : List Lexeme) → BeginsSentence (prefix ++ more) → BeginsSentence prefix
begins_shorter prefix more b = record { sentence = b.sentence; rest = more ++ b.rest; is = subst (λ z. IsSentence z b.sentence) (append_assoc prefix more b.rest) b.is }

begins_before : (p q : ℕ) (found : List Lexeme) → p ≤ q → BeginsSentence (take q found) → BeginsSentence (take p found)
begins_before p q found h b = begins_shorter (take p found) (drop p (take q found)) (subst BeginsSentence (take_shorter p q found h) b)

begins_whole : (p : ℕ) (found : List Lexeme) → BeginsSentence found → BeginsSentence (take p found)
begins_whole p found b = begins_shorter (take p found) (drop p found) (subst BeginsSentence (sym (take-append-drop p found)) b)

whole_begins : (found : List Lexeme) (s : Sentence) → IsSentence found s → BeginsSentence found
whole_begins found s is = record { sentence = s; rest = []; is = subst (λ z. IsSentence z s) (sym (append-nil found)) is }

data Ordered (p q : ℕ) : Type 0 where
  below : p < q → Ordered p q
  same : p ≡ q → Ordered p q
  above : q < p → Ordered p q

ordered : (p q : ℕ) → Ordered p q
ordered zero zero = same refl
ordered zero (suc q) = below (omega arith)
ordered (suc p) zero = above (omega arith)
ordered (suc p) (suc q) = go (ordered p q)
  where
    go : Ordered p q → Ordered (suc p) (suc q)
    go (below h) = below (omega (arith, h))
    go (same e) = same (ap suc e)
    go (above h) = above (omega (arith, h))

not_later : (found : List Lexeme) (p q : ℕ) → p < q → StopsAt found p → StopsAt found q → ⊥
not_later found p q h a b = a.stops (begins_before (suc p) q found (omega (arith, h)) b.begins)

one_place : (found : List Lexeme) (p q : ℕ) → StopsAt found p → StopsAt found q → p ≡ q
one_place found p q a b = go (ordered p q)
  where
    go : Ordered p q → p ≡ q
    go (below h) = absurd (not_later found p q h a b)
    go (same e) = e
    go (above h) = absurd (not_later found q p h b a)

stops_finished : (found : List Lexeme) (p : ℕ) → StopsAt found p → BeginsSentence found → ⊥
stops_finished found p a b = a.stops (begins_whole (suc p) found b)

module _ (text : List ℕ) (tokens : List Token) where
  abbrev all : List Lexeme
  all = lexemes text tokens

  one_line : (a b : ℕ) → IsShape text tokens a → IsShape text tokens b → a ≡ b
  one_line a b (inl p) (inl q) = p.2 ∙ ap (line_at tokens) (one_place all p.0 q.0 p.1 q.1) ∙ sym q.2
  one_line a b (inl p) (inr q) = absurd (stops_finished all p.0 p.1 q.0.begins)
  one_line a b (inr p) (inl q) = absurd (stops_finished all q.0 q.1 p.0.begins)
  one_line a b (inr p) (inr q) = p.1 ∙ sym q.1

  no_shape : (s : Sentence) (line : ℕ) → IsSentence all s → IsShape text tokens line → ⊥
  no_shape s line is (inl p) = stops_finished all p.0 p.1 (whole_begins all s is)
  no_shape s line is (inr p) = p.0.unfinished s is

-- the reason of a sentence

abbrev unknown_reason : Option (List ℕ) → Option Outside
unknown_reason None = None
unknown_reason (Some name) = Some (Outside.Unknown name)

abbrev duplicate_reason : Option (List ℕ) → Option Outside → Option Outside
duplicate_reason None next = next
duplicate_reason (Some name) next = Some (Outside.Duplicate name)

abbrev limit_reason : Option Kind → Option Outside → Option Outside
limit_reason None next = next
limit_reason (Some kind) next = Some (Outside.TooMany kind)

abbrev reason_of : Sentence → Option Outside
reason_of s = limit_reason (too_many s) (duplicate_reason (duplicate_of s) (unknown_reason (unknown_of s)))

module _ (text : List ℕ) (tokens : List Token) where
  data Why : Outside → Type 0 where
    by_shape : (line : ℕ) → IsShape text tokens line → Why (Outside.Shape line)
    by_sentence : (e : Outside) (s : Sentence) → IsSentence (lexemes text tokens) s → reason_of s ≡ Some e → Why e

  why : (e : Outside) → IsReason text tokens e → Why e
  why (Outside.Shape line) r = by_shape line r
  why (Outside.TooMany kind) r = by_sentence (Outside.TooMany kind) r.sentence r.is (ap (λ k. limit_reason k (duplicate_reason (duplicate_of r.sentence) (unknown_reason (unknown_of r.sentence)))) r.passed)
  why (Outside.Duplicate name) r = by_sentence (Outside.Duplicate name) r.sentence r.is (
      ap (λ k. limit_reason k (duplicate_reason (duplicate_of r.sentence) (unknown_reason (unknown_of r.sentence)))) r.kept
      ∙ ap (λ d. duplicate_reason d (unknown_reason (unknown_of r.sentence))) r.repeated)
  why (Outside.Unknown name) r = by_sentence (Outside.Unknown name) r.sentence r.is (
      ap (λ k. limit_reason k (duplicate_reason (duplicate_of r.sentence) (unknown_reason (unknown_of r.sentence)))) r.kept
      ∙ ap (λ d. duplicate_reason d (unknown_reason (unknown_of r.sentence))) r.distinct ∙ ap unknown_reason r.unknown)
  why (Outside.Types line) r = absurd r
  why (Outside.Phi name) r = absurd r
  why (Outside.Undefined name block) r = absurd r
  why Outside.Memory r = absurd r

  same_why : (a b : Outside) → Why a → Why b → a ≡ b
  same_why _ _ (by_shape l p) (by_shape m q) = ap Outside.Shape (one_line text tokens l m p q)
  same_why _ _ (by_shape l p) (by_sentence e s is q) = absurd (no_shape text tokens s l is p)
  same_why _ _ (by_sentence e s is q) (by_shape l p) = absurd (no_shape text tokens s l is p)
  same_why _ _ (by_sentence e s is q) (by_sentence f t it r) =
      some_same (sym q ∙ ap reason_of (one_sentence (lexemes text tokens) s t is it) ∙ r)

  pub one_reason : (a b : Outside) → IsReason text tokens a → IsReason text tokens b → a ≡ b
  one_reason a b p q = same_why a b (why a p) (why b q)

  no_why : (f : Function) (lines : Lines) (e : Outside) → IsAccepted text tokens f lines → Why e → ⊥
  no_why f lines _ a (by_shape line p) = no_shape text tokens a.reads.sentence line a.reads.is p
  no_why f lines _ a (by_sentence e s is r) =
      let t = a.reads.sentence in
      let none : reason_of t ≡ None =
      ap (λ k. limit_reason k (duplicate_reason (duplicate_of t) (unknown_reason (unknown_of t)))) a.kept
      ∙ ap (λ d. duplicate_reason d (unknown_reason (unknown_of t))) a.reads.distinct ∙ ap unknown_reason a.reads.known in
      none_some (sym none ∙ ap reason_of (one_sentence (lexemes text tokens) t s a.reads.is is) ∙ r)

  pub accepted_or_refused : (f : Function) (lines : Lines) (e : Outside) → IsAccepted text tokens f lines → IsReason text tokens e → ⊥
  accepted_or_refused f lines e a r = no_why f lines e a (why e r)

  pub one_accepted : (f g : Function) (lines others : Lines) → IsAccepted text tokens f lines → IsAccepted text tokens g others → (f ≡ g) × (lines ≡ others)
  one_accepted f g lines others a b =
      let same = one_sentence (lexemes text tokens) a.reads.sentence b.reads.sentence a.reads.is b.reads.is in (
        sym a.reads.function ∙ ap (λ s. function_of s (tail_bytes text tokens s)) same ∙ b.reads.function,
        sym a.reads.places ∙ ap (λ s. lines_of s (map (λ t. t.line) tokens)) same ∙ b.reads.places,
      )

  -- what is accepted is read, and what is refused is so for its reason

  abbrev Reads : Result ReadFunction Outside → Type 0
  Reads result = IfOk result (λ r. IsAccepted text tokens r.function r.lines)

  abbrev Refused : Result ReadFunction Outside → Type 0
  Refused result = IfErr result (λ e. (e ≡ Outside.Memory) ⊎ IsReason text tokens e)

  pub accepts : (result : Result ReadFunction Outside) → Reads result → Refused result → (f : Function) (lines : Lines) → IsAccepted text tokens f lines →
      IfOk result (λ r. (r.function ≡ f) × (r.lines ≡ lines)) × IfErr result (λ e. e ≡ Outside.Memory)
  accepts (Ok r) reads refused f lines a = (one_accepted r.function f r.lines lines reads a, tt)
  accepts (Err e) reads (inl memory) f lines a = (tt, memory)
  accepts (Err e) reads (inr reason) f lines a = absurd (accepted_or_refused f lines e a reason)

  pub refuses : (result : Result ReadFunction Outside) → Reads result → Refused result → (reason : Outside) → IsReason text tokens reason →
      OnOk result ⊥ × IfErr result (λ e. (e ≡ reason) ⊎ (e ≡ Outside.Memory))
  refuses (Ok r) reads refused reason is = (accepted_or_refused r.function r.lines reason reads is, tt)
  refuses (Err e) reads (inl memory) reason is = (tt, inr memory)
  refuses (Err e) reads (inr found) reason is = (tt, inl (one_reason e reason found is))
