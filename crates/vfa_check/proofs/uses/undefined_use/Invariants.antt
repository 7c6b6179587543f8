use Rattle.std.proofs.Common.{◌≡◌, drop}
use Rattle.vfa_ir.specs.Defined.{uses_from}
use Rattle.vfa_check.proofs.UsesTold.{Continues}
use Rattle.vfa_check.proofs.uses.undefined_use.Given as goal

abbrev pub invariant-each : goal.invariant-each
invariant-each l = record {
  number : l.b ≡ l.block-index;
  rest : Continues l.f (uses_from l.f 0 l.block-items) (uses_from l.f l.b (drop l.b l.block-items));
}
