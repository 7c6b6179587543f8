use Rattle.std.proofs.Common.{◌∙◌, ap}
use Rattle.vfa_ir.specs.declared.functions.Function.{Function}
use Rattle.vfa_lazy.specs.Giving.{block_gives}
use Rattle.vfa_lazy.proofs.BlockEnds.{by_entry, by_entry_too, defined_or_missed, still_defined}
use Rattle.vfa_lazy.proofs.defined.is_defined_behind.Goals as goal

pub returns-then-defined : goal.returns-then-defined
returns-then-defined c =
    still_defined c.args.f.now c.args.b.0 c.args.v.0 (by_entry_too c.defined.result _ _ c.if-defined.true c.defined.ensures)

pub returns : goal.returns
returns c =
    defined_or_missed c.args.f.now c.args.b.0 c.args.v.0 c.block_gives.result
    (c.block_gives.ensures ∙ ap (λ (h : Function). block_gives h c.args.b.0 c.args.v.0) c.function.ensures.same)
    (by_entry c.defined.result _ _ c.if-defined.false c.defined.ensures)
