use Rattle.std.proofs.Common.{append_assoc, refl}
use Rattle.vfa_opt.specs.Generated.{state_after}
use Rattle.vfa_opt.specs.GeneratedLines.{line_bytes}
use Rattle.vfa_opt.proofs.generator.lines.push_line.Goals as goal

pub returns-clause-text : goal.returns-clause-text
unfolding line_bytes
returns-clause-text c =
    rw (
      c.in_ok-push.ensures.items,
      c.in_ok-push_second.ensures.text,
      c.in_ok-push_first.ensures.state,
      c.in_ok-extend_from_slice-3.ensures.items,
      c.in_ok-push_first.ensures.text,
      c.in_ok-extend_from_slice-2.ensures.items,
      c.in_ok-push_result.ensures,
      c.in_ok-extend_from_slice.ensures.items,
    )
    (simp append_assoc)

pub returns-clause-state : goal.returns-clause-state
unfolding state_after
returns-clause-state c = rw (c.in_ok-push_second.ensures.state, c.in_ok-push_first.ensures.state) refl
