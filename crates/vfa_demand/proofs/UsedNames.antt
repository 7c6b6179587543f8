-- The used names are what the needed ones lead to.
use Rattle.std.proofs.Common.{◌≡◌, ◌<◌, ◌≤◌, ℕ, zero, suc, ◌+◌, Bool, true, false, cond, nat_eq, List, [], ◌∷◌, ◌++◌, length, get_or, flat_map, Option, Some, None, slice_get, ◌↔◌, ap, subst, arith, sym, refl, ◌∙◌, inl, inr, ◌⊎◌}
use Rattle.std.proofs.lemmas.Bool.{cases_lt, eq-eqb, eqb-true}
use Rattle.std.proofs.lemmas.List.{get_or_past}
use Rattle.std.proofs.lemmas.Option.{same_Some}
use Rattle.vfa_ir.specs.declared.operations.BlockId.{BlockId}
use Rattle.vfa_ir.specs.declared.operations.Operand.{Operand}
use Rattle.vfa_ir.specs.declared.operations.ValueId.{ValueId}
use Rattle.vfa_ir.specs.declared.functions.Block.{Block}
use Rattle.vfa_ir.specs.declared.functions.Function.{Function}
use Rattle.vfa_ir.specs.declared.functions.Inst.{Inst}
use Rattle.vfa_ir.specs.declared.functions.Phi.{Phi}
use Rattle.vfa_ir.specs.Defined.{op_names, operand_names, term_names}
use Rattle.vfa_ir.specs.Words.{is_in}
use Rattle.vfa_mean.specs.Kept.{is_marked}
use Rattle.vfa_mean.specs.Moments.{IsLine}
use Rattle.vfa_mean.specs.Numbering.{names_used}
use Rattle.vfa_mean.proofs.FreshOperands.Definitions.{in_left, in_right, in_cases}
use Rattle.vfa_demand.specs.Behind.{phi_names, is_result, behind_phi, behind_line, behind_in, names_behind, AreNamesBehind}
use Rattle.vfa_demand.specs.Needed.{joined_from, names_if, needed_by, needed_in, needed_names}
use Rattle.vfa_demand.specs.Reach.{IsLedTo, at_first, by_step}
use Rattle.vfa_demand.specs.Used.{IsUsed, by_terminator, by_need, by_result, by_phi, AreUsed, UsesItsValues}
use Rattle.vfa_demand.proofs.Members.{in_joined, out_joined}

-- ---- lists of numbered elements, joined

record IsJoinedFrom {A : Type 0} (h : ℕ → A → List ℕ) (n : ℕ) (xs : List A) (v : ℕ) : Type 0 where
  pub place : ℕ
  pub from : A
  pub there : slice_get xs place ≡ Some from
  pub inside : is_in v (h (n + place) from) ≡ true

out_from : {A : Type 0} (h : ℕ → A → List ℕ) (n : ℕ) (xs : List A) (v : ℕ) → is_in v (joined_from h n xs) ≡ true → IsJoinedFrom h n xs v
out_from h n [] v t = absurd (cc)
out_from {A} h n (x ∷ xs) v t = elim (in_cases v (h n x) (joined_from h (n + 1) xs) t) [
  | inl u ↦
      let same : n ≡ n + 0 = omega arith in
      record { place = zero; from = x; there = refl; inside = subst (λ k. is_in v (h k x) ≡ true) same u }
  | inr u ↦
      let r = out_from h (n + 1) xs v u in
      let same : n + 1 + r.place ≡ n + suc r.place = omega arith in
      record { place = suc r.place; from = r.from; there = r.there; inside = subst (λ k. is_in v (h k r.from) ≡ true) same r.inside }
]

in_from : {A : Type 0} (h : ℕ → A → List ℕ) (n : ℕ) (xs : List A) (k : ℕ) (x : A) (v : ℕ) → slice_get xs k ≡ Some x → is_in v (h (n + k) x) ≡ true →
    is_in v (joined_from h n xs) ≡ true
in_from h n [] k x v e t = absurd (cc)
in_from h n (y ∷ xs) zero x v e t =
    let same : n + 0 ≡ n = omega arith in
    in_left v (h n y) (joined_from h (n + 1) xs) (subst (λ z. is_in v (h n z) ≡ true) (sym (same_Some y x e)) (subst (λ k. is_in v (h k x) ≡ true) same t))
in_from h n (y ∷ xs) (suc k) x v e t =
    let same : n + suc k ≡ n + 1 + k = omega arith in
    in_right v (h n y) (joined_from h (n + 1) xs) (in_from h (n + 1) xs k x v e (subst (λ j. is_in v (h j x) ≡ true) same t))

module _ (f : Function) where
  -- ---- the names behind a name

  pub data IsBehind (r v : ℕ) : Type 0 where
    in_line : (b : ℕ) (block : Block) (i : ℕ) (inst : Inst) (name : ValueId) → IsLine f b block i inst → inst.result ≡ Some name → name.0 ≡ r
        → is_in v (op_names f inst.op) ≡ true → IsBehind r v
    in_phi : (b : ℕ) (block : Block) (j : ℕ) (phi : Phi) (k : ℕ) (entry : Operand × BlockId) → slice_get f.blocks b ≡ Some block
        → slice_get block.phis j ≡ Some phi → phi.result.0 ≡ r → slice_get phi.entries k ≡ Some entry
        → is_in v (operand_names entry.0) ≡ true → IsBehind r v

  of_phi : (b : ℕ) (block : Block) (j : ℕ) (phi : Phi) (r v : ℕ) → slice_get f.blocks b ≡ Some block → slice_get block.phis j ≡ Some phi →
      (t : Bool) → nat_eq phi.result.0 r ≡ t → is_in v (cond t (phi_names phi) []) ≡ true → IsBehind r v
  of_phi b block j phi r v there stands true same t =
      let e = out_joined (λ (e : Operand × BlockId). operand_names e.0) phi.entries v t in
      in_phi b block j phi e.place e.from there stands (eqb-true phi.result.0 r same) e.there e.inside
  of_phi b block j phi r v there stands false same t = absurd (cc)

  of_line : (b : ℕ) (block : Block) (i : ℕ) (inst : Inst) (r v : ℕ) → IsLine f b block i inst → (o : Option ValueId) → inst.result ≡ o →
      (t : Bool) → is_result o r ≡ t → is_in v (cond t (op_names f inst.op) []) ≡ true → IsBehind r v
  of_line b block i inst r v line None result true same t = absurd (cc)
  of_line b block i inst r v line (Some name) result true same t = in_line b block i inst name line result (eqb-true name.0 r same) t
  of_line b block i inst r v line o result false same t = absurd (cc)

  pub is_behind : (r v : ℕ) → is_in v (names_behind f r) ≡ true → IsBehind r v
  is_behind r v t =
      let in_block = out_joined (λ b. behind_in f b r) f.blocks v t in
      let block = in_block.from in
      elim (in_cases v (flat_map (λ p. behind_phi p r) block.phis) (flat_map (λ i. behind_line f i r) block.insts) in_block.inside) [
        | inl u ↦
            let p = out_joined (λ p. behind_phi p r) block.phis v u in
            of_phi in_block.place block p.place p.from r v in_block.there p.there (nat_eq p.from.result.0 r) refl p.inside
        | inr u ↦
            let i = out_joined (λ i. behind_line f i r) block.insts v u in
            of_line in_block.place block i.place i.from r v (record { there = in_block.there; stands = i.there }) i.from.result refl (is_result i.from.result r) refl i.inside
      ]

  pub behind_is : (r v : ℕ) → IsBehind r v → is_in v (names_behind f r) ≡ true
  behind_is r v (in_line b block i inst name line result same t) =
      let is : is_result inst.result r ≡ true = ap (λ o. is_result o r) result ∙ eq-eqb name.0 r same in
      in_joined (λ b. behind_in f b r) f.blocks b block v line.there
      (in_right v (flat_map (λ p. behind_phi p r) block.phis) (flat_map (λ i. behind_line f i r) block.insts)
      (in_joined (λ i. behind_line f i r) block.insts i inst v line.stands
      (subst (λ t. is_in v (cond t (op_names f inst.op) []) ≡ true) (sym is) t)))
  behind_is r v (in_phi b block j phi k entry there stands same at t) =
      let is : nat_eq phi.result.0 r ≡ true = eq-eqb phi.result.0 r same in
      in_joined (λ b. behind_in f b r) f.blocks b block v there
      (in_left v (flat_map (λ p. behind_phi p r) block.phis) (flat_map (λ i. behind_line f i r) block.insts)
      (in_joined (λ p. behind_phi p r) block.phis j phi v stands
      (subst (λ t. is_in v (cond t (phi_names phi) []) ≡ true) (sym is) (in_joined (λ (e : Operand × BlockId). operand_names e.0) phi.entries k entry v at t))))

  -- ---- names that are used are values

  module _ (own : UsesItsValues f) where
    used_in : (b : ℕ) (block : Block) (v : ℕ) → slice_get f.blocks b ≡ Some block → is_in v (names_used f block) ≡ true → v < length f.values
    used_in b block v there t = own v (in_joined (names_used f) f.blocks b block v there t)

    pub phi_below : (b : ℕ) (block : Block) (j : ℕ) (phi : Phi) (k : ℕ) (entry : Operand × BlockId) (v : ℕ) → slice_get f.blocks b ≡ Some block
        → slice_get block.phis j ≡ Some phi → slice_get phi.entries k ≡ Some entry → is_in v (operand_names entry.0) ≡ true → v < length f.values
    phi_below b block j phi k entry v there stands at t =
        used_in b block v there
        (in_left v (flat_map (λ p. flat_map (λ e. operand_names e.0) p.entries) block.phis) _
        (in_joined (λ (p : Phi). flat_map (λ (e : Operand × BlockId). operand_names e.0) p.entries) block.phis j phi v stands
        (in_joined (λ (e : Operand × BlockId). operand_names e.0) phi.entries k entry v at t)))

    pub line_below : (b : ℕ) (block : Block) (i : ℕ) (inst : Inst) (v : ℕ) → IsLine f b block i inst → is_in v (op_names f inst.op) ≡ true → v < length f.values
    line_below b block i inst v line t =
        used_in b block v line.there
        (in_right v (flat_map (λ p. flat_map (λ e. operand_names e.0) p.entries) block.phis) (flat_map (λ i. op_names f i.op) block.insts ++ term_names block.term)
        (in_left v (flat_map (λ i. op_names f i.op) block.insts) (term_names block.term)
        (in_joined (λ (i : Inst). op_names f i.op) block.insts i inst v line.stands t)))

    pub term_below : (b : ℕ) (block : Block) (v : ℕ) → slice_get f.blocks b ≡ Some block → is_in v (term_names block.term) ≡ true → v < length f.values
    term_below b block v there t =
        used_in b block v there
        (in_right v (flat_map (λ p. flat_map (λ e. operand_names e.0) p.entries) block.phis) (flat_map (λ i. op_names f i.op) block.insts ++ term_names block.term)
        (in_right v (flat_map (λ i. op_names f i.op) block.insts) (term_names block.term) t))

    pub behind_below : (r v : ℕ) → IsBehind r v → v < length f.values
    behind_below r v (in_line b block i inst name line result same t) = line_below b block i inst v line t
    behind_below r v (in_phi b block j phi k entry there stands same at t) = phi_below b block j phi k entry v there stands at t

  module _ (must : ℕ → ℕ → Bool) where
    pub used_below : UsesItsValues f → (v : ℕ) → IsUsed f must v → v < length f.values
    used_below own _ (by_terminator b block v there t) = term_below own b block v there t
    used_below own _ (by_need b block i inst v line needs t) = line_below own b block i inst v line t
    used_below own _ (by_result b block i inst r v line result used t) = line_below own b block i inst v line t
    used_below own _ (by_phi b block j phi k entry v there stands used at t) = phi_below own b block j phi k entry v there stands at t

    -- ---- the needed names

    stays_at : (b : ℕ) (block : Block) (i : ℕ) (inst : Inst) (v : ℕ) → IsLine f b block i inst → (t : Bool) → must b i ≡ t →
        is_in v (cond t (op_names f inst.op) []) ≡ true → IsUsed f must v
    stays_at b block i inst v line true is t = by_need b block i inst v line is t
    stays_at b block i inst v line false is t = absurd (cc)

    pub needed_used : (v : ℕ) → is_in v (needed_names f must) ≡ true → IsUsed f must v
    needed_used v t =
        let in_block = out_from (λ b block. needed_in f (must b) block) 0 f.blocks v t in
        let b = in_block.place in
        let block = in_block.from in
        let first : 0 + b ≡ b = omega arith in
        let inside : is_in v (needed_in f (must b) block) ≡ true = subst (λ k. is_in v (needed_in f (must k) block) ≡ true) first in_block.inside in
        elim (in_cases v (needed_by f (must b) block.insts) (term_names block.term) inside) [
          | inl u ↦
              let line = out_from (λ i inst. names_if f (must b i) inst) 0 block.insts v u in
              let same : 0 + line.place ≡ line.place = omega arith in
              stays_at b block line.place line.from v (record { there = in_block.there; stands = line.there }) (must b line.place) refl
              (subst (λ k. is_in v (names_if f (must b k) line.from) ≡ true) same line.inside)
          | inr u ↦ by_terminator b block v in_block.there u
        ]

    in_needed : (b : ℕ) (block : Block) (v : ℕ) → slice_get f.blocks b ≡ Some block → is_in v (needed_in f (must b) block) ≡ true → is_in v (needed_names f must) ≡ true
    in_needed b block v there t =
        let first : b ≡ 0 + b = omega arith in
        in_from (λ b block. needed_in f (must b) block) 0 f.blocks b block v there (subst (λ k. is_in v (needed_in f (must k) block) ≡ true) first t)

    term_needed : (b : ℕ) (block : Block) (v : ℕ) → slice_get f.blocks b ≡ Some block → is_in v (term_names block.term) ≡ true → is_in v (needed_names f must) ≡ true
    term_needed b block v there t = in_needed b block v there (in_right v (needed_by f (must b) block.insts) (term_names block.term) t)

    line_needed : (b : ℕ) (block : Block) (i : ℕ) (inst : Inst) (v : ℕ) → IsLine f b block i inst → must b i ≡ true → is_in v (op_names f inst.op) ≡ true →
        is_in v (needed_names f must) ≡ true
    line_needed b block i inst v line is t =
        let first : i ≡ 0 + i = omega arith in
        in_needed b block v line.there
        (in_left v (needed_by f (must b) block.insts) (term_names block.term)
        (in_from (λ i inst. names_if f (must b i) inst) 0 block.insts i inst v line.stands
        (subst (λ k. is_in v (names_if f (must b k) inst) ≡ true) first (subst (λ s. is_in v (cond s (op_names f inst.op) []) ≡ true) (sym is) t))))

    pub needed_below : UsesItsValues f → (v : ℕ) → is_in v (needed_names f must) ≡ true → v < length f.values
    needed_below own v t = used_below own v (needed_used v t)

    -- ---- what they lead to

    module _ (behind : List (List ℕ)) (are : AreNamesBehind f behind) where
      in_behind : (r v : ℕ) → r < length f.values → IsBehind r v → is_in v (get_or behind r []) ≡ true
      in_behind r v below is = subst (λ l. is_in v l ≡ true) (sym (are.each r below)) (behind_is r v is)

      pub out_behind : (r v : ℕ) → is_in v (get_or behind r []) ≡ true → IsBehind r v
      out_behind r v t = by (cases_lt r (length f.values))
        where
          by : (r < length f.values) ⊎ (length f.values ≤ r) → IsBehind r v
          by (inl below) = is_behind r v (subst (λ l. is_in v l ≡ true) (are.each r below) t)
          by (inr past) =
              let none : get_or behind r [] ≡ [] = get_or_past behind r [] (omega (arith, past, are.whole)) in
              absurd (let h = subst (λ l. is_in v l ≡ true) none t in cc)

      behind_used : (r v : ℕ) → IsUsed f must r → IsBehind r v → IsUsed f must v
      behind_used r v used (in_line b block i inst name line result same t) =
          by_result b block i inst name v line result (subst (IsUsed f must) (sym same) used) t
      behind_used r v used (in_phi b block j phi k entry there stands same at t) =
          by_phi b block j phi k entry v there stands (subst (IsUsed f must) (sym same) used) at t

      pub led_used : (v : ℕ) → IsLedTo (needed_names f must) behind v → IsUsed f must v
      led_used _ (at_first v t) = needed_used v t
      led_used _ (by_step v w led t) = behind_used v w (led_used v led) (out_behind v w t)

      pub used_led : UsesItsValues f → (v : ℕ) → IsUsed f must v → IsLedTo (needed_names f must) behind v
      used_led own _ (by_terminator b block v there t) = at_first v (term_needed b block v there t)
      used_led own _ (by_need b block i inst v line needs t) = at_first v (line_needed b block i inst v line needs t)
      used_led own _ (by_result b block i inst r v line result used t) =
          by_step r.0 v (used_led own r.0 used) (in_behind r.0 v (used_below own r.0 used) (in_line b block i inst r line result refl t))
      used_led own _ (by_phi b block j phi k entry v there stands used at t) =
          by_step phi.result.0 v (used_led own phi.result.0 used) (in_behind phi.result.0 v (used_below own phi.result.0 used) (in_phi b block j phi k entry there stands refl at t))

      -- ---- what the search for them asks for, and gives

      pub first_within : UsesItsValues f → (needed : List ℕ) → needed ≡ needed_names f must → (v : ℕ) → is_in v needed ≡ true → v < length behind
      first_within own needed is v t =
          let below = needed_below own v (subst (λ l. is_in v l ≡ true) is t) in omega (arith, below, are.whole)

      pub leads_within : UsesItsValues f → (v w : ℕ) → is_in w (get_or behind v []) ≡ true → w < length behind
      leads_within own v w t =
          let below = behind_below own v w (out_behind v w t) in omega (arith, below, are.whole)

      pub found_used : UsesItsValues f → (needed : List ℕ) (marks : List Bool) → needed ≡ needed_names f must →
          ((v : ℕ) → (is_marked marks v ≡ true) ↔ IsLedTo needed behind v) → AreUsed f must (is_marked marks)
      found_used own needed marks is found v = (
        (λ t. led_used v (subst (λ l. IsLedTo l behind v) is ((found v).0 t))),
        (λ used. (found v).1 (subst (λ l. IsLedTo l behind v) (sym is) (used_led own v used))),
      )
