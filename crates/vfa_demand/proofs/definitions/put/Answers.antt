use Rattle.std.proofs.Common.{◌≡◌, ◌∙◌, ◌<◌, ◌≤◌, ◌++◌, ◌∷◌, [], List, ap, arith, get_or, length, set, subst, sym}
use Rattle.std.proofs.lemmas.List.{get_or_default}
use Rattle.vfa_demand.specs.Definitions.{IsPut}
use Rattle.vfa_demand.specs.declared.definitions.Definition.{Definition}
use Rattle.vfa_demand.proofs.PutDefinitions.{put_nowhere, put_one}
use Rattle.vfa_demand.proofs.definitions.put.Goals as goal

pub returns : goal.returns
returns c =
    let all : List (List Definition) = c.args.all.now.items in
    let n = c.args.value.0 in
    let d = c.args.definition in
    let below : n < length all = omega (arith, c.if-place-len.false, c.len.ensures) in
    let here : c.index_mut-definitions.result.now ≡ get_or all n [] = c.index_mut-definitions.ensures.value ∙ get_or_default all n _ [] below in
    let view = c.definitions.view_is in
    let inside : c.definitions.inside.0.items ≡ get_or all n [] = cc in
    let new : c.push.new.self.items ≡ get_or all n [] ++ (d ∷ []) = c.in_ok-push.ensures.items ∙ ap (λ (l : List Definition). l ++ (d ∷ [])) inside in
    subst (λ (l : List Definition). IsPut n d all (set all n l)) (sym new) (put_one n d all below)
