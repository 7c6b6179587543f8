use Rattle.std.proofs.Common.{◌≡◌, ℕ, ◌^◌, ◌<◌, ◌∙◌, sym, ap, subst}
use Rattle.vfa_ir.specs.declared.operations.Op.{Op}
use Rattle.vfa_ir.specs.declared.operations.Operand.{Operand}
use Rattle.vfa_mean.specs.Meaning.{done, binary}
use Rattle.vfa_mean.specs.declared.value.Done.{Done}
use Rattle.vfa_mean.specs.declared.value.Val.{Val}
use Rattle.vfa_fact.specs.Cells.{CellValue, cell_of}
use Rattle.vfa_xfer.specs.Constants.{constant_numbers}
use Rattle.vfa_xfer.proofs.ConstantResults.{given_typed}
use Rattle.vfa_xfer.proofs.binary.binary_constant.Goals as goal

pub constant_cell-requires-clause-fits : goal.constant_cell-requires-clause-fits
constant_cell-requires-clause-fits c r gave =
    let same : c.args.a.now.width ≡ c.a.inside.width = sym (ap (λ (v : CellValue). v.width) c.a.view_is) in
    given_typed (Op.Bin c.args.bin c.args.flags c.a.inside.width Operand.Poison Operand.Poison)
    (Val.Number c.args.x) (Val.Number c.args.y) Val.Poison (Val.Number r) c.eval-done.result
    c.a.invariant.width
    (record {
      first = subst (λ (w : ℕ). c.args.x < 2 ^ w) same c.requires.left;
      second = subst (λ (w : ℕ). c.args.y < 2 ^ w) same c.requires.right;
    })
    c.eval-done.ensures gave

pub returns : goal.returns
unfolding done
returns c =
    let same : c.a.inside.width ≡ c.args.a.now.width = ap (λ (v : CellValue). v.width) c.a.view_is in
    c.constant_cell.ensures
    ∙ ap (λ (d : Done). cell_of c.a.inside.width (constant_numbers c.a.inside.width d) c.operands_marked.result) c.eval-done.ensures
    ∙ (λ i. cell_of (same i) (constant_numbers (same i) (binary c.args.bin c.args.flags (same i) (Val.Number c.args.x) (Val.Number c.args.y))) (c.operands_marked.ensures i))
