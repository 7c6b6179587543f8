use Rattle.std.proofs.Common.{◌≡◌, ◌∙◌, ℕ, List, ap, flat_map, sym}
use Rattle.std.proofs.lemmas.Result.{IfOk-weaker}
use Rattle.vfa_ir.specs.Words.{is_in}
use Rattle.vfa_rewrite.proofs.NamesUsed.{used_is}
use Rattle.vfa_rewrite.proofs.uses.uses.Goals as goal

pub returns : goal.returns
returns c =
    IfOk-weaker c.marked.result _ _
    (λ marks each name. each name.0 ∙ (ap (λ (names : List ℕ). is_in name.0 names) (c.as_slice.ensures.value ∙ c.in_ok-names.ensures) ∙ sym (used_is c.args.f.now name))) c.marked.ensures
