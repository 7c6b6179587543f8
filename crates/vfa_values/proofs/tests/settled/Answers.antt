use Rattle.std.proofs.Common.{◌≤◌, arith, sym, ◌∙◌}
use Rattle.vfa_values.proofs.tests.settled.Goals as goal

pub same-requires : goal.same-requires
same-requires g c =
    let laws = g.met.V.Values.lawful in
    let last = c.loop-next.invariant.typed in
    let widened = laws.typed.widen _ _ _ 9 _ last c.requires.new (omega arith) c.requires.landmarks in
    rw c.widen-next.ensures (record { first = widened.is_proper; second = last.is_proper; same_type = widened.typed ∙ sym last.typed })

pub loop-next-preserved : goal.loop-next-preserved
loop-next-preserved g c =
    let laws = g.met.V.Values.lawful in
    let last = c.loop-next.invariant.typed in
    let least : 1 ≤ 9 = omega arith in
    rw c.widen-next.ensures (record {
      typed = laws.typed.widen _ _ _ 9 _ last c.requires.new least c.requires.landmarks;
      covers = λ v holds. laws.sound.widen_old _ _ _ 9 _ v last c.requires.new least c.requires.landmarks (c.loop-next.invariant.covers v holds);
    })
