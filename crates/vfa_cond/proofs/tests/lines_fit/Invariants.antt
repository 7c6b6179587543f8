use Rattle.std.proofs.Common.{All, take}
use Rattle.vfa_cond.specs.TypedLines.{IsTypedLine}
use Rattle.vfa_cond.proofs.tests.lines_fit.Given as goal

-- the lines so far are typed
abbrev pub invariant-lines : goal.invariant-lines
invariant-lines l = All (IsTypedLine l.f) (take l.line-index l.lines)
