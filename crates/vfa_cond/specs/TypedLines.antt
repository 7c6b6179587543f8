-- helper: in no public contract
-- Functions each of whose instructions is typed.
use Rattle.std.specs.Prelude.{◌≡◌}
use Rattle.std.specs.Option.{ForSome}
use Rattle.vfa_ir.specs.declared.functions.Function.{Function}
use Rattle.vfa_ir.specs.declared.functions.Inst.{Inst}
use Rattle.vfa_ir.specs.Printable.{op_type, PrintableOp}
use Rattle.vfa_ir.specs.Typed.{TypedOp}
use Rattle.vfa_mean.specs.Outcomes.{type_of}

-- the operation's widths and literals lie in their ranges, and its operands and its result are of the types that it writes
pub record IsTypedLine (f : Function) (i : Inst) : Type 0 where
  pub ranges : PrintableOp f i.op
  pub operands : TypedOp f i.op
  pub result : ForSome i.result (λ r. type_of f r ≡ op_type i.op)
