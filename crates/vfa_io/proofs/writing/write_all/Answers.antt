-- What was written before and what the last write took are a prefix of the bytes.
use Rattle.std.proofs.Common.{arith, length-drop}
use Rattle.std.proofs.Common.{take_all}
use Rattle.vfa_io.proofs.Told.{Appends-more, prefix_written}
use Rattle.vfa_io.proofs.writing.write_all.Goals as goal

pub returns-in_err-at-clause-some : goal.returns-in_err-at-clause-some
returns-in_err-at-clause-some g c =
    prefix_written _ _ _ c.args.bytes.now c.pieces.at c.pieces.invariant.written c.in_err-at.ensures.unchanged

pub pieces-preserved : goal.pieces-preserved
pieces-preserved g c = record {
  within = omega (arith, c.in_ok-at.ensures.some, length-drop c.pieces.at c.args.bytes.now);
  written = Appends-more _ _ _ c.args.bytes.now _ c.pieces.at c.in_ok-at.field-0 (take_all _ _ (omega (arith, length-drop c.pieces.at c.args.bytes.now))) c.pieces.invariant.written c.in_ok-at.ensures.appended;
  later = omega (arith, c.write.ensures.cause.later);
}
