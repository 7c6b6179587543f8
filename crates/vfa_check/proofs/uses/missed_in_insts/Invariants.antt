use Rattle.std.proofs.Common.{drop, length}
use Rattle.vfa_ir.specs.Defined.{inst_uses}
use Rattle.vfa_check.specs.NameRows.{IsRow}
use Rattle.vfa_check.specs.Uses.{IsScopeAt}
use Rattle.vfa_check.proofs.UsesTold.{Continues}
use Rattle.vfa_check.proofs.uses.missed_in_insts.Given as goal

abbrev pub invariant-insts : goal.invariant-insts
invariant-insts l = record {
  scope : IsScopeAt l.f l.b.0 l.inst-index l.here;
  row : IsRow (length l.f.values) l.here;
  rest : Continues l.f (inst_uses l.f l.b.0 0 l.inst-items) (inst_uses l.f l.b.0 l.inst-index (drop l.inst-index l.inst-items));
}
