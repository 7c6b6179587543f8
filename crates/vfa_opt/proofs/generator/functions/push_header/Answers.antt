use Rattle.std.proofs.Common.{append_assoc}
use Rattle.vfa_opt.specs.GeneratedLines.{header_bytes}
use Rattle.vfa_opt.proofs.generator.functions.push_header.Goals as goal

pub returns : goal.returns
unfolding header_bytes
returns c =
    rw (
      c.in_ok-push_parameters.ensures,
      c.in_ok-push_decimal.ensures,
      c.from.ensures,
      c.in_ok-extend_from_slice-2.ensures.items,
      c.in_ok-push_type.ensures,
      c.in_ok-extend_from_slice.ensures.items,
    )
    (simp append_assoc)
