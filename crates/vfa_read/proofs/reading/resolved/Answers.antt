use Rattle.std.proofs.Common.{◌≡◌, ◌⊎◌}
use Rattle.vfa_ir.specs.Reads.{IsReason}
use Rattle.vfa_ir.specs.TokenLexemes.{lexemes}
use Rattle.vfa_ir.specs.declared.reasons.Outside.TheVariants.{Memory}
use Rattle.vfa_read.specs.Trees.{between}
use Rattle.vfa_read.proofs.Accepted.{accepted_parts, refused_parts, if_error}
use Rattle.vfa_read.proofs.reading.resolved.Goals as goal

pub returns-in_err-function-clause-refused : goal.returns-in_err-function-clause-refused
returns-in_err-function-clause-refused c =
    let text = c.args.bytes.now in
    let tokens = c.args.tokens.now in
    let e = c.in_err-function.field-0.0 in
    if_error (λ e. (e ≡ Memory) ⊎ IsReason text tokens e) e c.from_residual.result c.from_residual.ensures.1
    (refused_parts text tokens c.args.written c.requires.tree c.requires.kept c.requires.lines e c.as_slice-parameters.result.now c.as_slice-blocks.result.now c.as_slice-parameters.ensures c.as_slice-blocks.ensures c.in_err-function.ensures.refused)

pub returns-clause-reads : goal.returns-clause-reads
returns-clause-reads c =
    let text = c.args.bytes.now in
    let tokens = c.args.tokens.now in
    let t = c.args.written in
    accepted_parts text tokens t c.requires.tree c.requires.kept c.requires.lines c.tail_bytes.result.now c.in_ok-function.function
    c.as_slice-lead.result.now c.as_slice-parameters.result.now c.as_slice-blocks.result.now
    c.as_slice-lead.ensures c.as_slice-parameters.ensures c.as_slice-blocks.ensures c.tail_bytes.ensures
    c.in_ok-function.ensures.distinct c.in_ok-function.ensures.known (c.in_ok-function.ensures.function (between t.tail_start t.tail_end (lexemes text tokens)))
