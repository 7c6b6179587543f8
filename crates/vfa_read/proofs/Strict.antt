-- The literal after the number of a call fits where the call does.
use Rattle.std.proofs.Common.{Option, Some, None, IfSome}
use Rattle.vfa_ir.specs.declared.operations.Fun1.{Fun1}
use Rattle.vfa_ir.specs.declared.syntax.Literal.{Literal}
use Rattle.vfa_ir.specs.Grammar.{FitsLiteral, FitsStrict}

pub strict_fits : (fun : Fun1) (o : Option Literal) → FitsStrict fun o → IfSome o (FitsLiteral 1)
strict_fits fun None h = tt
strict_fits Fun1.Abs (Some l) h = h
strict_fits Fun1.Ctlz (Some l) h = h
strict_fits Fun1.Cttz (Some l) h = h
strict_fits Fun1.Ctpop (Some l) h = absurd h
