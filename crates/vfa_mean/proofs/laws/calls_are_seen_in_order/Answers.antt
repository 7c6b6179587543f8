use Rattle.std.proofs.Common.{◌∙◌, ap, refl, [], ◌∷◌, codes}
use Rattle.vfa_mean.specs.declared.value.Val.{Val}
use Rattle.vfa_mean.specs.Outcomes.{Stopped, Ub, Returned, only, after_event}
use Rattle.vfa_mean.specs.Worked.{event, passed_byte}
use Rattle.vfa_mean.proofs.laws.calls_are_seen_in_order.Goals as goal

pub returns-clause-returned : goal.returns-clause-returned
returns-clause-returned c o =
    let first = event (codes "g") [] in
    let second = event (codes "g") (passed_byte 3 ∷ []) in
    let end = only (Returned (Val.Number 5)) in
    (λ (rest, (last, e, l), k). k ∙ ap (after_event first) (l ∙ ap (after_event second) e), λ e. (after_event second end, (end, refl, refl), e))

pub returns-clause-stopped : goal.returns-clause-stopped
returns-clause-stopped c o =
    let first = event (codes "g") [] in
    (λ (rest, e, k). k ∙ ap (after_event first) e, λ e. (only Stopped, refl, e))

pub returns-clause-going : goal.returns-clause-going
returns-clause-going c o = (λ e. e, λ e. e)

pub returns-clause-undefined : goal.returns-clause-undefined
returns-clause-undefined c o =
    let first = event (codes "h") [] in
    (λ (rest, e, k). k ∙ ap (after_event first) e, λ e. (only Ub, refl, e))
