use Rattle.std.proofs.Common.{length, All, subst}
use Rattle.vfa_ir.specs.Defined.{UseIsDefined, inst_uses}
use Rattle.vfa_check.specs.declared.uses.MissedUse.{MissedUse}
use Rattle.vfa_check.specs.MissedUses.{IsFirstMissed}
use Rattle.vfa_check.proofs.UsesTold.{inst_here, inst_later, insts_end, insts_in_block, line_scope_at}
use Rattle.vfa_check.proofs.uses.missed_in_insts.Goals as goal

pub returns-in-Some-clause-tells : goal.returns-in-Some-clause-tells
returns-in-Some-clause-tells c =
    let f = c.args.f.now in
    let insts = c.as_slice-inst-items.result.now in
    let m : MissedUse = record { name = c.in-Some.name; block = c.args.b } in
    subst (λ is. IsFirstMissed f (inst_uses f c.args.b.0 0 is) m) c.as_slice-inst-items.ensures
    (inst_here f c.insts.inst-index insts _ c.insts.here m (inst_uses f c.args.b.0 0 insts) c.insts-test.true c.insts.invariant.scope
    c.in-Some.ensures c.insts.invariant.rest)

pub add_result-requires-clause-names : goal.add_result-requires-clause-names
add_result-requires-clause-names c =
    insts_in_block c.args.f.now c.args.b.0 c.args.block.now c.as_slice-inst-items.result.now c.insts.inst-index _ c.insts.here
    c.requires.within c.as_slice-inst-items.ensures c.requires.block c.insts-test.true c.insts.invariant.row

pub insts-preserved : goal.insts-preserved
insts-preserved c =
    let f = c.args.f.now in
    let insts = c.as_slice-inst-items.result.now in
    record {
      scope = line_scope_at f c.args.b.0 c.insts.inst-index c.args.block.now insts _ c.insts.here c.add_result.new.row
          c.as_slice-inst-items.ensures c.requires.block c.insts-test.true c.add_result.ensures.added c.insts.invariant.scope;
      row = c.add_result.ensures.row (length f.values) c.insts.invariant.row;
      rest = inst_later f c.args.b.0 c.insts.inst-index insts _ c.insts.here (inst_uses f c.args.b.0 0 insts) c.insts-test.true
          c.insts.invariant.scope c.in_default.ensures c.insts.invariant.rest;
    }

pub returns-clause-tells : goal.returns-clause-tells
returns-clause-tells c =
    let f = c.args.f.now in
    let insts = c.as_slice-inst-items.result.now in
    subst (λ is. All (UseIsDefined f) (inst_uses f c.args.b.0 0 is)) c.as_slice-inst-items.ensures
    (insts_end f c.args.b.0 c.insts.inst-index insts (inst_uses f c.args.b.0 0 insts) c.insts-test.false c.insts.invariant.rest)
