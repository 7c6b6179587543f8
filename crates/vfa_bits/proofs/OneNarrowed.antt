-- A function is narrowed to one function at most.
use Rattle.std.proofs.Common.{◌≡◌, ◌∙◌, ℕ, Bool, true, false, refl, sym, subst}
use Rattle.std.proofs.lemmas.Nat.{and_comm}
use Rattle.std.specs.Prelude.{◌↔◌}
use Rattle.vfa_ir.specs.declared.functions.Function.{Function}
use Rattle.vfa_mean.specs.Numbering.{each_number, numbered}
use Rattle.vfa_demand.specs.Masks.{AreMasks, IsPartOf}
use Rattle.vfa_demand.specs.Used.{AreUsed}
use Rattle.vfa_bits.specs.Narrowed.{Choices, IsNarrowed, left, must_stay, rewritten}

same_function : {A B : Type 0} {f g : A → B} → ((x : A) → f x ≡ g x) → f ≡ g
same_function h = λ i x. h x i

-- two tests of the same
same_test : (P : Type 0) (a b : Bool) → ((a ≡ true) ↔ P) → ((b ≡ true) ↔ P) → a ≡ b
same_test P true b h k = sym (k.1 (h.0 refl))
same_test P false true h k = h.1 (k.0 refl)
same_test P false false h k = refl

same_part : (a b : ℕ) → IsPartOf a b → IsPartOf b a → a ≡ b
same_part a b h k = sym h ∙ and_comm a b ∙ k

pub masks_one : (f : Function) (masks masks' : ℕ → ℕ) → AreMasks f masks → AreMasks f masks' → masks ≡ masks'
masks_one f masks masks' m m' =
    same_function (λ v. same_part (masks v) (masks' v) (m.least masks' m'.enough v) (m'.least masks m.enough v))

pub narrowed_one : (f : Function) (masks : ℕ → ℕ) (g g' : Function) → IsNarrowed f masks g → IsNarrowed f masks g' → g ≡ g'
narrowed_one f masks g g' n n' =
    let reached : n.by.reached ≡ n'.by.reached = same_function (λ b. same_test _ (n.by.reached b) (n'.by.reached b) (n.are_reached b) (n'.are_reached b)) in
    let changed : n.by.changed ≡ n'.by.changed = same_function (λ v. same_test _ (n.by.changed v) (n'.by.changed v) (n.are_changed v) (n'.are_changed v)) in
    let by : n.by ≡ n'.by = λ i. record { reached = reached i; changed = changed i } in
    let whole : Choices → Function = λ (c : Choices). rewritten f masks c in
    let are : AreUsed (whole n'.by) (must_stay (whole n'.by)) n.used = subst (λ c. AreUsed (whole c) (must_stay (whole c)) n.used) by n.are_used in
    let used : n.used ≡ n'.used = same_function (λ v. same_test _ (n.used v) (n'.used v) (are v) (n'.are_used v)) in
    n.is ∙ (λ i. numbered (left (used i) (whole (by i))) each_number) ∙ sym n'.is
