use Rattle.std.proofs.Common.{append_assoc}
use Rattle.vfa_opt.specs.GeneratedLines.{comparison_bytes}
use Rattle.vfa_opt.proofs.generator.functions.push_comparison.Goals as goal

pub returns-clause-text : goal.returns-clause-text
unfolding comparison_bytes
returns-clause-text c =
    rw (
      c.in_ok-extend_from_slice-3.ensures.items,
      c.in_ok-push_drawn_literal.ensures.text,
      c.in_ok-push_drawn_result.ensures.state,
      c.in_ok-extend_from_slice-2.ensures.items,
      c.in_ok-push_drawn_result.ensures.text,
      c.in_ok-push.ensures.items,
      c.in_ok-push_type.ensures,
      c.in_ok-extend_from_slice.ensures.items,
    )
    (simp append_assoc)
