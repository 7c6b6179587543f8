use Rattle.std.proofs.Common.{◌≤◌, length, take}
use Rattle.std.specs.List.{All}
use Rattle.vfa_ir.specs.PhisFit.{targets}
use Rattle.vfa_cfg.proofs.tests.is_small.Given as goal

abbrev pub invariant-each : goal.invariant-each
invariant-each l = All (λ b. length (targets b.term) ≤ 2) (take l.block-index l.f.blocks)
