use Rattle.std.proofs.Common.{◌≡◌, ◌∙◌, List, [], ℕ, ◌↔◌, length, replicate, subst, sym, true}
use Rattle.vfa_ir.specs.declared.functions.Function.{Function}
use Rattle.vfa_ir.specs.Words.{is_in}
use Rattle.vfa_mean.specs.Kept.{is_marked}
use Rattle.vfa_demand.specs.Behind.{AreNamesBehind, ArePut}
use Rattle.vfa_demand.specs.Masks.{mask_in}
use Rattle.vfa_demand.specs.Reach.{IsLedTo}
use Rattle.vfa_demand.specs.Used.{UsesItsValues}
use Rattle.vfa_demand.proofs.UsableNames.{printable_uses}
use Rattle.vfa_bits.specs.Users.{users_below}
use Rattle.vfa_bits.proofs.ChangedNames.{are_changed, first_within, leads_within, ok_both}
use Rattle.vfa_bits.proofs.NothingBeyond.{changed_beyond}
use Rattle.vfa_bits.proofs.changes.Masked.changed.Goals as goal

pub led_to-requires-clause-first : goal.led_to-requires-clause-first
led_to-requires-clause-first c =
    let f : Function = c.args.self.now.f.now in
    let masks : ℕ → ℕ = mask_in c.args.self.now.masks.now in
    let behind : List (List ℕ) = c.as_slice.result.now in
    let are : AreNamesBehind f behind = subst (AreNamesBehind f) (sym c.as_slice.ensures.value) c.in_ok-behind.ensures in
    let own : UsesItsValues f = printable_uses f (c.fit_is_printable.ensures f c.requires.checked.fit) in
    let users : List (List ℕ) = c.as_slice-3.result.now in
    let put : ArePut (users_below f masks behind (length behind)) (replicate (length behind) []) users =
    subst (ArePut (users_below f masks behind (length behind)) (replicate (length behind) [])) (sym c.as_slice-3.ensures.value) c.in_ok-users.ensures in
    λ v t. first_within f masks c.requires.checked.within own behind are users put v
    (subst (λ l. is_in v l ≡ true) (c.as_slice-2.ensures.value ∙ c.in_ok-first.ensures) t)

pub led_to-requires-clause-leads : goal.led_to-requires-clause-leads
led_to-requires-clause-leads c =
    let f : Function = c.args.self.now.f.now in
    let masks : ℕ → ℕ = mask_in c.args.self.now.masks.now in
    let behind : List (List ℕ) = c.as_slice.result.now in
    let are : AreNamesBehind f behind = subst (AreNamesBehind f) (sym c.as_slice.ensures.value) c.in_ok-behind.ensures in
    let own : UsesItsValues f = printable_uses f (c.fit_is_printable.ensures f c.requires.checked.fit) in
    let users : List (List ℕ) = c.as_slice-3.result.now in
    let put : ArePut (users_below f masks behind (length behind)) (replicate (length behind) []) users =
    subst (ArePut (users_below f masks behind (length behind)) (replicate (length behind) [])) (sym c.as_slice-3.ensures.value) c.in_ok-users.ensures in
    leads_within f masks c.requires.checked.within own behind are users put

pub returns : goal.returns
returns c =
    let f : Function = c.args.self.now.f.now in
    let masks : ℕ → ℕ = mask_in c.args.self.now.masks.now in
    let behind : List (List ℕ) = c.as_slice.result.now in
    let are : AreNamesBehind f behind = subst (AreNamesBehind f) (sym c.as_slice.ensures.value) c.in_ok-behind.ensures in
    let own : UsesItsValues f = printable_uses f (c.fit_is_printable.ensures f c.requires.checked.fit) in
    let users : List (List ℕ) = c.as_slice-3.result.now in
    let put : ArePut (users_below f masks behind (length behind)) (replicate (length behind) []) users =
    subst (ArePut (users_below f masks behind (length behind)) (replicate (length behind) [])) (sym c.as_slice-3.ensures.value) c.in_ok-users.ensures in
    ok_both _ _ _ c.led_to.result
    (λ marks found count.
    are_changed f masks c.requires.checked.within own behind are users put marks.items count
    (changed_beyond f masks c.requires.checked.within own c.requires.masks)
    (λ v. subst (λ l. (is_marked marks.items v ≡ true) ↔ IsLedTo l users v) (c.as_slice-2.ensures.value ∙ c.in_ok-first.ensures) (found v)))
    c.led_to.ensures.exact c.led_to.ensures.length
