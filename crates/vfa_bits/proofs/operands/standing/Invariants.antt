use Rattle.std.proofs.Common.{◌≡◌, ◌-◌, length}
use Rattle.vfa_ir.specs.declared.functions.Function.{Function}
use Rattle.vfa_demand.specs.Masks.{mask_in}
use Rattle.vfa_bits.specs.Standing.{standing}
use Rattle.vfa_bits.specs.Tables.{AreReplacements}
use Rattle.vfa_bits.proofs.operands.standing.Given as goal

abbrev pub invariant-chain : goal.invariant-chain
invariant-chain l = (f : Function) → AreReplacements f (mask_in l.masks) l.replacements →
    standing f (mask_in l.masks) (length l.replacements - l._turn) l.last ≡ standing f (mask_in l.masks) (length l.replacements) l.fn.operand
