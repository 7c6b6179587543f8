use Rattle.std.proofs.Common.{◌≡◌, ◌∙◌, ◌∷◌, [], ℕ, List, ap, arith, false, length, length-append, set, subst, sym, true}
use Rattle.std.proofs.lemmas.List.{get_or_default}
use Rattle.vfa_mean.specs.Kept.{is_marked}
use Rattle.vfa_demand.specs.Steps.{IsPutAhead}
use Rattle.vfa_demand.proofs.Searching.{taken_now}
use Rattle.vfa_demand.proofs.growing.Growing.put.Goals as goal

pub returns-clause-put : goal.returns-clause-put
returns-clause-put c =
    let n = c.args.name in
    let marks = c.args.self.now.waits.items in
    let ahead : List ℕ = c.args.self.now.ahead.items in
    let is : is_marked marks n ≡ false = sym (c.index.ensures ∙ get_or_default marks n c.index.result.now false c.requires) ∙ c.if-index.false in
    subst (λ a. IsPutAhead n marks (set marks n true) ahead a) (sym c.in_ok-push.ensures.items)
    (record { taken = taken_now n marks ahead c.requires is; one_more = omega (arith, length-append ahead (n ∷ [])) })
