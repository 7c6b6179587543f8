use Rattle.std.proofs.Common.{◌≡◌, ◌∙◌, ◌∷◌, [], false, set, subst, sym, true}
use Rattle.std.proofs.lemmas.List.{get_or_default}
use Rattle.vfa_mean.specs.Kept.{is_marked}
use Rattle.vfa_demand.specs.Reach.{AreTaken}
use Rattle.vfa_demand.proofs.Searching.{taken_now}
use Rattle.vfa_demand.proofs.reach.Search.take.Goals as goal

pub returns : goal.returns
returns c =
    let n = c.args.number in
    let marks = c.args.self.now.marks.items in
    let is : is_marked marks n ≡ false = sym (c.index.ensures ∙ get_or_default marks n c.index.result.now false c.requires) ∙ c.if-index.false in
    subst (λ a. AreTaken (n ∷ []) marks (set marks n true) c.args.self.now.ahead.items a) (sym c.in_ok-push.ensures.items)
    (taken_now n marks c.args.self.now.ahead.items c.requires is)
