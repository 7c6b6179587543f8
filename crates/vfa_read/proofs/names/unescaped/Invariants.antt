use Rattle.std.proofs.Common.{◌≡◌, ◌++◌, length}
use Rattle.vfa_ir.specs.Names.{decoded}
use Rattle.vfa_read.proofs.names.unescaped.Given as goal

abbrev pub invariant-pieces : goal.invariant-pieces
invariant-pieces l = l.bytes.items ++ decoded l.rest ≡ decoded l.text

abbrev pub decreases-pieces : goal.decreases-pieces
decreases-pieces l = length l.rest
