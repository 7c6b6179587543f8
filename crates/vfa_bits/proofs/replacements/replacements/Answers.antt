use Rattle.std.proofs.Common.{◌≡◌, ◌∙◌, List, None, Option, ap, flat_map, length, replicate, subst}
use Rattle.vfa_ir.specs.declared.operations.Operand.{Operand}
use Rattle.vfa_ir.specs.declared.functions.Block.{Block}
use Rattle.vfa_ir.specs.declared.functions.Function.{Function}
use Rattle.vfa_ir.specs.declared.functions.Value.{Value}
use Rattle.vfa_demand.specs.Masks.{mask_in}
use Rattle.vfa_bits.specs.Noting.{AreNoted}
use Rattle.vfa_bits.proofs.Noted.{table_is}
use Rattle.vfa_bits.proofs.replacements.replacements.Goals as goal

pub returns : goal.returns
returns c =
    let f : Function = c.args.f.now in
    let start : c.in_ok-table.table.items ≡ replicate (length f.values) None = c.in_ok-table.ensures ∙ ap (λ (vs : List Value). replicate (length vs) None) c.as_slice.ensures in
    table_is f (mask_in c.args.masks.now) c.note_blocks.new.table.items c.requires
    (subst (λ (bs : List Block). AreNoted (mask_in c.args.masks.now) (flat_map (λ (b : Block). b.insts) bs) (replicate (length f.values) None) c.note_blocks.new.table.items) c.as_slice-2.ensures
    (subst (λ (s : List (Option Operand)). AreNoted (mask_in c.args.masks.now) (flat_map (λ (b : Block). b.insts) c.as_slice-2.result.now) s c.note_blocks.new.table.items) start c.note_blocks.ensures))
