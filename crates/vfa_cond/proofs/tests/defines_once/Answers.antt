use Rattle.std.proofs.Common.{◌≡◌, [], ◌∷◌, ◌∙◌, sym, ap, subst}
use Rattle.vfa_cond.specs.AscendingNames.{IsAscending}
use Rattle.vfa_cond.proofs.Ascending.{empty, defines_nothing_twice}
use Rattle.vfa_cond.proofs.tests.defines_once.Goals as goal

pub returns : goal.returns
returns c =
    let block = c.in-Some.block.now in
    let rest = c.in-Some.rest.now in
    let none = empty rest c.if-not-is_empty-2.ensures in
    λ yes. defines_nothing_twice c.args.f.now block (sym c.as_slice.ensures ∙ empty _ c.if-not-is_empty.ensures)
    (sym c.as_slice-2.ensures ∙ c.in-Some.ensures.cases.0 ∙ ap (λ r. block ∷ r) none)
    (sym c.as_slice-3.ensures ∙ empty _ c.if-not-is_empty-3.ensures)
    (subst (IsAscending 0) c.as_slice-4.ensures (c.ascend.ensures yes))
