use Rattle.std.proofs.Common.{inl, inr}
use Rattle.std.proofs.lemmas.Result.{err_from_is_err_and}
use Rattle.vfa_check.proofs.checking.parts_of.Goals as goal

pub returns-in_err-check_phis-clause-refused : goal.returns-in_err-check_phis-clause-refused
returns-in_err-check_phis-clause-refused c =
    let p = err_from_is_err_and c.from_residual-in_err-check_phis.result c.from_residual-in_err-check_phis.ensures.1 in
    rw (p.1, p.2) (elim c.in_err-check_phis.ensures.refused [ inl memory ↦ inl memory | inr refused ↦ inr (refused c.args.lines.now) ])

pub returns-in_err-scopes-clause-refused : goal.returns-in_err-scopes-clause-refused
returns-in_err-scopes-clause-refused c =
    let p = err_from_is_err_and c.from_residual-in_err-scopes.result c.from_residual-in_err-scopes.ensures.1 in
    rw (p.1, p.2) (elim c.in_err-scopes.ensures.refused [ inl memory ↦ inl memory | inr refused ↦ inr (refused c.args.lines.now) ])
