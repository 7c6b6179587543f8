-- The predicates that go with a predicate of a comparison (LLVM's CmpInst: getInversePredicate, getSwappedPredicate).
use Rattle.vfa_ir.specs.declared.operations.Pred.{Pred}
use Rattle.vfa_ir.specs.declared.operations.Pred.TheVariants.{Eq, Ne, Ugt, Uge, Ult, Ule, Sgt, Sge, Slt, Sle}

-- it holds exactly where the predicate does not
abbrev pub negated : Pred → Pred
negated Eq = Ne
negated Ne = Eq
negated Ugt = Ule
negated Uge = Ult
negated Ult = Uge
negated Ule = Ugt
negated Sgt = Sle
negated Sge = Slt
negated Slt = Sge
negated Sle = Sgt

-- it holds of y and x exactly where the predicate holds of x and y
abbrev pub exchanged : Pred → Pred
exchanged Eq = Eq
exchanged Ne = Ne
exchanged Ugt = Ult
exchanged Uge = Ule
exchanged Ult = Ugt
exchanged Ule = Uge
exchanged Sgt = Slt
exchanged Sge = Sle
exchanged Slt = Sgt
exchanged Sle = Sge
