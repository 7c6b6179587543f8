use Rattle.std.proofs.Common.{append_assoc}
use Rattle.vfa_opt.specs.GeneratedLines.{first_bytes}
use Rattle.vfa_opt.proofs.generator.lines.push_first.Goals as goal

pub returns-clause-text : goal.returns-clause-text
unfolding first_bytes
returns-clause-text c =
    rw (
      c.in_ok-push_drawn_name.ensures.text,
      c.draw.ensures.state,
      c.in_ok-push-2.ensures.items,
      c.in_ok-push_type.ensures,
      c.in_ok-push.ensures.items,
      c.in_ok-extend_from_slice.ensures.items,
      c.word.ensures,
      c.operation-bin.ensures,
      c.draw.ensures.value,
    )
    (simp append_assoc)
