use Rattle.std.proofs.Common.{◌≡◌, length, arith}
use Rattle.std.proofs.lemmas.List.{length-map}
use Rattle.vfa_ir.specs.TokenLexemes.{token_lexeme}
use Rattle.vfa_read.specs.Seen.{all_of}
use Rattle.vfa_read.proofs.TreeReader.{whole_tree, more_stops, stop_is, stop_error}
use Rattle.vfa_read.proofs.source.Source.function_tree.Goals as goal

pub returns-in_err-tree-clause-stops : goal.returns-in_err-tree-clause-stops
returns-in_err-tree-clause-stops c =
    let all = all_of c.args.self.now in
    let e = c.in_err-tree.field-0.0 in
    stop_error all e c.from_residual.result c.from_residual.ensures.1 (stop_is all e c.in_err-tree.ensures.gives)

pub returns-then-at-self-clause-stops : goal.returns-then-at-self-clause-stops
returns-then-at-self-clause-stops c =
    let s = c.args.self.now in
    let all = all_of s in
    let size : length all ≡ length s.tokens.now = length-map s.tokens.now (token_lexeme s.bytes.now) in
    let here = c.if-at-self.true in
    more_stops all c.in_ok-tree.tree c.in_ok-tree.at (omega (arith, here, size)) c.in_ok-tree.ensures.gives

pub returns-clause-tree : goal.returns-clause-tree
returns-clause-tree c =
    let s = c.args.self.now in
    let all = all_of s in
    let size : length all ≡ length s.tokens.now = length-map s.tokens.now (token_lexeme s.bytes.now) in
    let here = c.if-at-self.false in
    whole_tree all c.in_ok-tree.tree c.in_ok-tree.at (omega (arith, here, size)) c.in_ok-tree.ensures.gives
