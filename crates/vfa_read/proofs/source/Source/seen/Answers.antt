use Rattle.std.proofs.Common.{ap, ◌∙◌, refl}
use Rattle.vfa_ir.specs.TokenLexemes.{lexeme_of, token_lexeme}
use Rattle.vfa_read.proofs.Places.{drop_at_map}
use Rattle.vfa_read.proofs.source.Source.seen.Goals as goal

pub returns-in-Some : goal.returns-in-Some
returns-in-Some c =
    let s = c.args.self.now in
    let found = c.in-Some.ensures.lookup in
    let token = c.in-Some.token.now in
    let e = drop_at_map (token_lexeme s.bytes.now) s.tokens.now c.args.at token found.3.0 (found.3.1 token) in
    let k = c.seen_as.ensures ∙ ap (lexeme_of token.kind) c.between.ensures in
    rw (e, k) refl
