use Rattle.std.proofs.Common.{sym, ap, ◌∙◌, map}
use Rattle.vfa_ir.specs.Reads.{tail_bytes}
use Rattle.vfa_ir.specs.Resolution.{function_of}
use Rattle.vfa_ir.specs.TextLines.{lines_of}
use Rattle.vfa_ir.specs.TokenLexemes.{lexemes}
use Rattle.vfa_ir.specs.Tokens.{tokens_of}
use Rattle.vfa_read.proofs.SentenceReader.{one_sentence}
use Rattle.vfa_read.proofs.laws.one_reading.Goals as goal

pub returns : goal.returns
returns c = λ text f g lines others a b.
    let tokens = tokens_of text in
    let same = one_sentence (lexemes text tokens) a.sentence b.sentence a.is b.is in (
      sym a.function ∙ ap (λ s. function_of s (tail_bytes text tokens s)) same ∙ b.function,
      sym a.places ∙ ap (λ s. lines_of s (map (λ t. t.line) tokens)) same ∙ b.places,
    )
