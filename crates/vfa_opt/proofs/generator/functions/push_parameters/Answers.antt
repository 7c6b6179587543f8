use Rattle.std.proofs.Common.{append_assoc}
use Rattle.vfa_opt.specs.GeneratedLines.{parameters_bytes}
use Rattle.vfa_opt.proofs.generator.functions.push_parameters.Goals as goal

pub returns : goal.returns
unfolding parameters_bytes
returns c =
    rw (
      c.in_ok-extend_from_slice-2.ensures.items,
      c.in_ok-push_type-2.ensures,
      c.in_ok-extend_from_slice.ensures.items,
      c.in_ok-push_type.ensures,
      c.in_ok-push.ensures.items,
    )
    (simp append_assoc)
