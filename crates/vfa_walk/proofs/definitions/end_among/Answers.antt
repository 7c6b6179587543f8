use Rattle.std.proofs.Common.{◌∙◌}
use Rattle.vfa_walk.specs.Stepping.{defines_by}
use Rattle.vfa_walk.proofs.States.{ends_more, room_kept}
use Rattle.vfa_walk.proofs.definitions.end_among.Goals as goal

pub insts-preserved : goal.insts-preserved
insts-preserved g c = record {
  live = λ u. ends_more (defines_by c.args.f.now u c.args.v.0) c.args.insts.now c.insts.inst-index _ _ _ _ c.insts-test.true
      (c.end_by.ensures.live u) (c.insts.invariant.live u);
  facts = c.end_by.ensures.facts ∙ c.insts.invariant.facts;
  room = room_kept _ _ _ c.insts.invariant.room c.end_by.ensures.room;
}
