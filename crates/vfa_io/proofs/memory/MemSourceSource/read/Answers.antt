-- A prefix of what is left went to the buffer.
use Rattle.std.proofs.Common.{◌≡◌, ◌-◌, ◌∙◌, length, take, drop, ap, sym, arith, take_all, length-drop, length-take}
use Rattle.vfa_io.proofs.Told.{prefix_given}
use Rattle.vfa_io.specs.Memory.{Reading}
use Rattle.vfa_io.proofs.memory.MemSourceSource.read.Goals as goal

pub returns-clause-given : goal.returns-clause-given
returns-clause-given c =
    let n = c.min-count.result in
    let at = c.self.inside.at in
    let all = c.deref-2.result.now in
    let copied = c.copy_from_slice.ensures.after in
    let rest : take (length all - at) (drop at all) ≡ drop at all = take_all _ _ (omega (arith, length-drop at all)) in
    let is_front : c.copy_from_slice.new.self ≡ take n (drop at c.self.inside.bytes.items) =
    copied ∙ ap (take n) rest ∙ ap (λ l. take n (drop at l)) c.deref-2.ensures.value in
    let is_length : length c.copy_from_slice.new.self ≡ n =
    omega (arith, ap length copied, length-take n (take (length all - at) (drop at all))) in
    ap (λ (s : Reading). s.left) (sym c.self.view_is) ∙ prefix_given n at c.self.inside.bytes.items _ _ is_front is_length
