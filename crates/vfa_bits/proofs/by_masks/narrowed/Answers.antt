use Rattle.std.proofs.Common.{◌∙◌, subst, sym}
use Rattle.vfa_ir.specs.declared.functions.Function.{Function}
use Rattle.vfa_mean.specs.Kept.{is_marked}
use Rattle.vfa_mean.proofs.KeptLoops.{ok_weaker}
use Rattle.vfa_demand.specs.Masks.{mask_in}
use Rattle.vfa_demand.specs.Used.{AreUsed}
use Rattle.vfa_bits.specs.Narrowed.{IsNarrowed, must_stay}
use Rattle.vfa_bits.proofs.ByParts.{is_narrowed, rest_few, rest_may_be_numbered, rest_once, written_uses}
use Rattle.vfa_bits.proofs.by_masks.narrowed.Goals as goal

pub used_in-requires : goal.used_in-requires
used_in-requires c =
    let f : Function = c.args.f.now in
    written_uses f (mask_in c.args.masks.now) c.requires.checked (c.fit_is_printable.ensures f c.requires.checked.fit) c.requires.masks c.in_ok-whole.whole c.in_ok-whole.ensures

pub numbered-requires-clause-numbered : goal.numbered-requires-clause-numbered
numbered-requires-clause-numbered c =
    let f : Function = c.args.f.now in
    let rest : Function = c.left-rest.result in
    let all = c.as_slice-3.ensures.value ∙ c.in_ok-all.ensures in
    rest_may_be_numbered f (mask_in c.args.masks.now) c.requires.checked (c.fit_is_printable.ensures f c.requires.checked.fit) c.requires.masks c.in_ok-whole.whole c.in_ok-whole.ensures
    (is_marked c.as_slice.result.now) rest c.as_slice-2.result.now c.as_slice-3.result.now c.left-rest.ensures c.as_slice-2.ensures all

pub numbered-requires-clause-once : goal.numbered-requires-clause-once
numbered-requires-clause-once c =
    let f : Function = c.args.f.now in
    let rest : Function = c.left-rest.result in
    let all = c.as_slice-3.ensures.value ∙ c.in_ok-all.ensures in
    rest_once f (mask_in c.args.masks.now) c.requires.checked (c.fit_is_printable.ensures f c.requires.checked.fit) c.requires.masks c.in_ok-whole.whole c.in_ok-whole.ensures
    (is_marked c.as_slice.result.now) rest c.as_slice-2.result.now c.as_slice-3.result.now c.left-rest.ensures c.as_slice-2.ensures all

pub numbered-requires-clause-few : goal.numbered-requires-clause-few
numbered-requires-clause-few c =
    let f : Function = c.args.f.now in
    let rest : Function = c.left-rest.result in
    let all = c.as_slice-3.ensures.value ∙ c.in_ok-all.ensures in
    rest_few f (mask_in c.args.masks.now) c.requires.checked (c.fit_is_printable.ensures f c.requires.checked.fit) c.requires.masks c.in_ok-whole.whole c.in_ok-whole.ensures
    (is_marked c.as_slice.result.now) rest c.as_slice-2.result.now c.as_slice-3.result.now c.left-rest.ensures c.as_slice-2.ensures all

pub returns : goal.returns
returns c =
    let f : Function = c.args.f.now in
    let whole : Function = c.in_ok-whole.whole in
    let rest : Function = c.left-rest.result in
    let all = c.as_slice-3.ensures.value ∙ c.in_ok-all.ensures in
    let used : AreUsed whole (must_stay whole) (is_marked c.as_slice.result.now) =
    subst (λ u. AreUsed whole (must_stay whole) (is_marked u)) (sym c.as_slice.ensures.value) c.in_ok-used.ensures in
    ok_weaker _ (IsNarrowed f (mask_in c.args.masks.now)) c.numbered.result
    (λ n is.
    is_narrowed f (mask_in c.args.masks.now) c.requires.checked (c.fit_is_printable.ensures f c.requires.checked.fit) c.requires.masks whole c.in_ok-whole.ensures
    (is_marked c.as_slice.result.now) rest c.as_slice-2.result.now c.as_slice-3.result.now c.left-rest.ensures c.as_slice-2.ensures all used n is)
    c.numbered.ensures.exact
