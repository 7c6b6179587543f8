-- Names that stand in ascending order are defined once.
use Rattle.std.proofs.Common.{◌≡◌, ◌≤◌, ◌<◌, ◌+◌, ℕ, true, false, nat_eq, Option, Some, None, List, [], ◌∷◌, ◌++◌, length, map, flat_map, refl, sym, ap, ◌∙◌, subst, arith, ne_eqb, eqb-true}
use Rattle.std.specs.List.{AllByRecursion, IsDistinct, cons_option}
use Rattle.std.proofs.lemmas.List.{append-nil}
use Rattle.vfa_ir.specs.declared.operations.ValueId.{ValueId}
use Rattle.vfa_ir.specs.declared.functions.Block.{Block}
use Rattle.vfa_ir.specs.declared.functions.Function.{Function}
use Rattle.vfa_ir.specs.declared.functions.Inst.{Inst}
use Rattle.vfa_ir.specs.declared.functions.Param.{Param}
use Rattle.vfa_ir.specs.declared.functions.Phi.{Phi}
use Rattle.vfa_ir.specs.Printable.{ids_of, inst_ids, block_ids}
use Rattle.vfa_mean.specs.FreshOperands.{DefinesOnce}
use Rattle.vfa_cond.specs.AscendingNames.{IsAscending}

abbrev result_id : Option ValueId → Option ℕ
result_id o = elim o [ None ↦ None | Some r ↦ Some r.0 ]

apart : (x low : ℕ) (ids : List ℕ) → x < low → AllByRecursion (λ v. low ≤ v) ids → AllByRecursion (λ y. nat_eq x y ≡ false) ids
apart x low [] below from = tt
apart x low (y ∷ ids) below from = (ne_eqb x y (λ e. omega (arith, below, e, from.0)), apart x low ids below from.1)

lower : (low high : ℕ) (ids : List ℕ) → low ≤ high → AllByRecursion (λ v. high ≤ v) ids → AllByRecursion (λ v. low ≤ v) ids
lower low high [] le from = tt
lower low high (y ∷ ids) le from = (omega (arith, le, from.0), lower low high ids le from.1)

record AreAscending (low : ℕ) (ids : List ℕ) : Type 0 where
  from : AllByRecursion (λ v. low ≤ v) ids
  distinct : IsDistinct nat_eq ids

pub nothing : {X : Type 0} (xs : List X) → length xs ≡ 0 → xs ≡ []
nothing [] e = refl
nothing (x ∷ xs) e = absurd (omega (arith, e))

pub empty : {X : Type 0} (xs : List X) → true ≡ nat_eq (length xs) 0 → xs ≡ []
empty xs e = nothing xs (eqb-true (length xs) 0 (sym e))

ascends_none : (low : ℕ) → IsAscending low []
unfolding IsDistinct
ascends_none low = record { from = tt; distinct = tt }

pub ascends_nothing : (low : ℕ) (insts : List Inst) → length insts ≡ 0 → IsAscending low insts
ascends_nothing low insts e = subst (IsAscending low) (sym (nothing insts e)) (ascends_none low)

nameless : (low : ℕ) (o : Option ValueId) (ids : List ℕ) → o ≡ None → AreAscending low ids → AreAscending low (cons_option (result_id o) ids)
nameless low None ids e a = a
nameless low (Some v) ids e a = absurd cc

step : (low : ℕ) (v : ValueId) (ids : List ℕ) → low ≤ v.0 → AreAscending (v.0 + 1) ids → AreAscending low (v.0 ∷ ids)
unfolding IsDistinct
step low v ids le a = record { from = (le, lower low (v.0 + 1) ids (omega (arith, le)) a.from); distinct = (apart v.0 (v.0 + 1) ids (omega arith) a.from, a.distinct) }

named : (low : ℕ) (o : Option ValueId) (v : ValueId) (ids : List ℕ) → o ≡ Some v → low ≤ v.0 → AreAscending (v.0 + 1) ids → AreAscending low (cons_option (result_id o) ids)
named low o v ids e le a = subst (λ p. AreAscending low (cons_option (result_id p) ids)) (sym e) (step low v ids le a)

pub ascends_nameless : (low : ℕ) (insts : List Inst) (i : Inst) (rest : List Inst) → insts ≡ i ∷ rest → i.result ≡ None → IsAscending low rest → IsAscending low insts
ascends_nameless low insts i rest e none a =
    let b = nameless low i.result (inst_ids rest) none (record { from = a.from; distinct = a.distinct }) in
    subst (IsAscending low) (sym e) (record { from = b.from; distinct = b.distinct })

pub ascends_name : (low : ℕ) (insts : List Inst) (i : Inst) (rest : List Inst) (v : ValueId) → insts ≡ i ∷ rest → i.result ≡ Some v → low ≤ v.0 → IsAscending (v.0 + 1) rest → IsAscending low insts
ascends_name low insts i rest v e some le a =
    let b = named low i.result v (inst_ids rest) some le (record { from = a.from; distinct = a.distinct }) in
    subst (IsAscending low) (sym e) (record { from = b.from; distinct = b.distinct })

pub defines_nothing_twice : (f : Function) (block : Block) → f.params ≡ [] → f.blocks ≡ block ∷ [] → block.phis ≡ [] → IsAscending 0 block.insts → DefinesOnce f
defines_nothing_twice f block params blocks phis a =
    let no_phis : block_ids block ≡ inst_ids block.insts = ap (λ (ps : List Phi). map (λ p. p.result.0) ps ++ inst_ids block.insts) phis in
    let ids : flat_map block_ids f.blocks ≡ inst_ids block.insts = ap (flat_map block_ids) blocks ∙ append-nil (block_ids block) ∙ no_phis in
    let all : ids_of f ≡ inst_ids block.insts = ap (λ (ps : List Param). map (λ p. p.value.0) ps ++ flat_map block_ids f.blocks) params ∙ ids in
    subst (IsDistinct nat_eq) (sym all) a.distinct
