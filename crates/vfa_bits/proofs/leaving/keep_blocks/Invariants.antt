use Rattle.std.proofs.Common.{◌≡◌, ◌++◌, drop, map, take}
use Rattle.vfa_mean.specs.Kept.{is_marked}
use Rattle.vfa_bits.specs.Narrowed.{block_left}
use Rattle.vfa_bits.proofs.leaving.keep_blocks.Given as goal

abbrev pub invariant-each : goal.invariant-each
invariant-each l =
    l.blocks.items ≡ map (block_left (is_marked l.used)) (take l.number l.initial.blocks.items) ++ drop l.number l.initial.blocks.items
