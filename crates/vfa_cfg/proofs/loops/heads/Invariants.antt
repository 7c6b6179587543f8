use Rattle.vfa_cfg.proofs.Marks.{AreHeads}
use Rattle.vfa_cfg.proofs.loops.heads.Given as goal

-- the marks, and the heads from the place on, are those of the blocks from the place on
abbrev pub invariant-places : goal.invariant-places
invariant-places l = AreHeads l.f l.order l.place l.led_to.items l.heads.items
