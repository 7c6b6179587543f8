-- Each text is accepted, or some reason holds of it.
use Rattle.std.proofs.Common.{◌≡◌, ℕ, List, map, Option, Some, None, ◌⊎◌, inl, inr, refl}
use Rattle.vfa_ir.specs.declared.functions.Function.{Function}
use Rattle.vfa_ir.specs.declared.functions.Lines.{Lines}
use Rattle.vfa_ir.specs.declared.reasons.Kind.{Kind}
use Rattle.vfa_ir.specs.declared.reasons.Outside.{Outside}
use Rattle.vfa_ir.specs.declared.tokens.Token.{Token}
use Rattle.vfa_ir.specs.DefinedNames.{duplicate_of, unknown_of}
use Rattle.vfa_ir.specs.Reads.{IsAccepted, IsReason, IsSentence, IsUnfinished, StopsAt, last_line, line_at, tail_bytes, too_many}
use Rattle.vfa_ir.specs.Resolution.{function_of}
use Rattle.vfa_ir.specs.Sentence.{Sentence}
use Rattle.vfa_ir.specs.TextLines.{lines_of}
use Rattle.vfa_ir.specs.TokenLexemes.{lexemes}
use Rattle.vfa_ir.specs.Tokens.{tokens_of}
use Rattle.vfa_read.proofs.SentenceReader.{reading_of}

module _ (text : List ℕ) (tokens : List Token) where
  abbrev Accepted : Type 0
  Accepted = (f : Function) × (lines : Lines) × IsAccepted text tokens f lines

  abbrev Refused : Type 0
  Refused = (reason : Outside) × IsReason text tokens reason

  by_uses : (s : Sentence) → IsSentence (lexemes text tokens) s → too_many s ≡ None → duplicate_of s ≡ None → (o : Option (List ℕ)) → unknown_of s ≡ o →
      Accepted ⊎ Refused
  by_uses s is kept distinct None known = inl (
    function_of s (tail_bytes text tokens s),
    lines_of s (map (λ t. t.line) tokens),
    record {
      reads = record { sentence = s; is = is; distinct = distinct; known = known; function = refl; places = refl };
      kept = kept;
    },
  )
  by_uses s is kept distinct (Some name) unknown =
      inr (Outside.Unknown name, record { sentence = s; is = is; kept = kept; distinct = distinct; unknown = unknown })

  by_names : (s : Sentence) → IsSentence (lexemes text tokens) s → too_many s ≡ None → (o : Option (List ℕ)) → duplicate_of s ≡ o → Accepted ⊎ Refused
  by_names s is kept None distinct = by_uses s is kept distinct (unknown_of s) refl
  by_names s is kept (Some name) repeated = inr (Outside.Duplicate name, record { sentence = s; is = is; kept = kept; repeated = repeated })

  by_limits : (s : Sentence) → IsSentence (lexemes text tokens) s → (o : Option Kind) → too_many s ≡ o → Accepted ⊎ Refused
  by_limits s is None kept = by_names s is kept (duplicate_of s) refl
  by_limits s is (Some kind) passed = inr (Outside.TooMany kind, record { sentence = s; is = is; passed = passed })

  by_shape : ((s : Sentence) × IsSentence (lexemes text tokens) s)
      ⊎ (((place : ℕ) × StopsAt (lexemes text tokens) place) ⊎ IsUnfinished (lexemes text tokens)) → Accepted ⊎ Refused
  by_shape (inl s) = by_limits s.0 s.1 (too_many s.0) refl
  by_shape (inr (inl stops)) = inr (Outside.Shape (line_at tokens stops.0), inl (stops.0, stops.1, refl))
  by_shape (inr (inr unfinished)) = inr (Outside.Shape (last_line tokens), inr (unfinished, refl))

pub accepted_or_reason_of : (text : List ℕ) → ((f : Function) × (lines : Lines) × IsAccepted text (tokens_of text) f lines)
    ⊎ ((reason : Outside) × IsReason text (tokens_of text) reason)
accepted_or_reason_of text = by_shape text (tokens_of text) (reading_of (lexemes text (tokens_of text)))
