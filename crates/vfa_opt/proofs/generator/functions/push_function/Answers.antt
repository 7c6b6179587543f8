use Rattle.std.proofs.Common.{arith, append_assoc}
use Rattle.vfa_opt.specs.GeneratedLines.{end_bytes, body_bytes, function_bytes}
use Rattle.vfa_opt.proofs.GeneratedStates.{after_first, after_next}
use Rattle.vfa_opt.proofs.generator.functions.push_function.Goals as goal

pub returns-clause-text : goal.returns-clause-text
unfolding function_bytes body_bytes end_bytes
returns-clause-text c =
    rw (
      c.in_ok-push.ensures.items,
      c.in_ok-push_returning-2.ensures.text,
      c.in_ok-push_returning.ensures.state,
      c.in_ok-push_comparison.ensures.state,
      c.in_ok-push_returning.ensures.text,
      c.in_ok-push_comparison.ensures.state,
      c.in_ok-push_comparison.ensures.text,
      c.in_ok-push_lines.ensures.state,
      c.in_ok-push_lines.ensures.text,
      c.in_ok-extend_from_slice.ensures.items,
      c.in_ok-push_header.ensures,
      c.draw-width.ensures.state,
      c.draw-width.ensures.value,
    )
    (simp append_assoc)

pub returns-clause-state : goal.returns-clause-state
returns-clause-state c =
    rw (
      c.in_ok-push_returning-2.ensures.state,
      c.in_ok-push_returning.ensures.state,
      c.in_ok-push_comparison.ensures.state,
      c.in_ok-push_lines.ensures.state,
      c.draw-width.ensures.state,
      after_first 160 161 c.args.draws.now.state (omega arith),
      after_next 161 162 c.args.draws.now.state (omega arith),
      after_next 162 163 c.args.draws.now.state (omega arith),
      after_next 163 164 c.args.draws.now.state (omega arith),
    )
    (after_next 164 165 c.args.draws.now.state (omega arith))
