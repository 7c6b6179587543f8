-- The names that narrowing adds, and their types.
use Rattle.std.proofs.Common.{◌≡◌, ◌<◌, ℕ, zero, suc, ◌+◌, ◌*◌, ◌++◌, ◌&&◌, if◌then◌else◌, nat_eq, Bool, true, false, Option, Some, None, length, slice_get, refl, sym, ap, ◌∙◌, arith}
use Rattle.std.proofs.lemmas.Bool.{eqb-true, eqb-false, eq-eqb}
use Rattle.std.proofs.lemmas.Option.{same_Some}
use Rattle.vfa_ir.specs.declared.operations.Op.{Op}
use Rattle.vfa_ir.specs.declared.operations.Ty.{Ty}
use Rattle.vfa_ir.specs.declared.functions.Block.{Block}
use Rattle.vfa_ir.specs.declared.functions.Function.{Function}
use Rattle.vfa_ir.specs.declared.functions.Inst.{Inst}
use Rattle.vfa_mean.specs.Moments.{IsLine}
use Rattle.vfa_rules.specs.declared.change.Change.{Change}
use Rattle.vfa_rules.specs.Uses.{is_result}
use Rattle.vfa_rewrite.specs.Findings.{Findings}
use Rattle.vfa_rewrite.specs.Making.{width_by, width_in, narrowed_width, added_type, three, added_for, made_marks}
use Rattle.vfa_rewrite.specs.Marks.{AddedType, at_width, not_narrowed, IsNarrowed, unnamed, AreAdded}
use Rattle.vfa_rewrite.proofs.FreshNames.{named_result}
use Rattle.vfa_rewrite.proofs.Left.{get_before, get_behind}
use Rattle.vfa_rewrite.proofs.LeftParts.{both_counts}
use Rattle.vfa_rewrite.proofs.LookedUp.{looked_up, none_is_given}

record NarrowsTo (c : Change) (v : ℕ) : Type 0 where
  op : Op
  is : c ≡ Change.Narrow op v

narrows : (c : Change) (v : ℕ) → width_by c ≡ Some v → NarrowsTo c v
narrows (Change.Narrow op u) v h = record { op = op; is = ap (Change.Narrow op) (same_Some u v h) }
narrows (Change.Keep op) v h = absurd (cc)
narrows (Change.Uses u) v h = absurd (cc)
narrows Change.Gone v h = absurd (cc)

module _ (f : Function) (found : Findings) (reached used : ℕ → Bool) where
  -- ---- the width that an instruction is narrowed to

  abbrev Narrowed : ℕ → ℕ → Type 0
  Narrowed n v = IsNarrowed f found (made_marks f found reached used) n v

  line_narrows : (n b i v : ℕ) (block : Block) (inst : Inst) → IsLine f b block i inst → reached b ≡ true → width_in found n b i inst ≡ Some v → Narrowed n v
  line_narrows n b i v block inst line left h = by (is_result n inst.result) (found.met b i) refl refl h
    where
      by : (s t : Bool) → is_result n inst.result ≡ s → found.met b i ≡ t → (if s && t then width_by (found.change b i inst) else None) ≡ Some v → Narrowed n v
      by true true e g h =
          let of = named_result inst.result n e in
          let to = narrows (found.change b i inst) v h in
          record {
            b = b;
            i = i;
            block = block;
            inst = inst;
            name = of.name;
            op = to.op;
            left = record { line = line; reached = left; met = g };
            result = of.is;
            same = of.same;
            narrows = to.is;
          }
      by true false e g h = absurd (cc)
      by false t e g h = absurd (cc)

  narrowed_is : (n v : ℕ) → narrowed_width f found reached n ≡ Some v → Narrowed n v
  narrowed_is n v h = let r = looked_up f reached (width_in found n) v h in line_narrows n r.b r.i v r.block r.inst r.line r.is_left r.is

  none_narrows : (n : ℕ) → narrowed_width f found reached n ≡ None → (v : ℕ) → Narrowed n v → ⊥
  none_narrows n h v r =
      let result : is_result n r.inst.result ≡ true = ap (is_result n) r.result ∙ eq-eqb r.name.0 n r.same in
      let is : width_in found n r.b r.i r.inst ≡ Some v =
      ap (λ t. if t && found.met r.b r.i then width_by (found.change r.b r.i r.inst) else None) result
      ∙ ap (λ t. if t then width_by (found.change r.b r.i r.inst) else None) r.left.met ∙ ap width_by r.narrows in
      none_is_given f reached (width_in found n) h v
      (record { b = r.b; i = r.i; block = r.block; inst = r.inst; line = r.left.line; is_left = r.left.reached; is = is })

  -- ---- the names

  is_type : (n : ℕ) (o : Option ℕ) → narrowed_width f found reached n ≡ o → AddedType f found (made_marks f found reached used) n (added_type o)
  is_type n None e = not_narrowed (none_narrows n e)
  is_type n (Some v) e = at_width v (narrowed_is n v e)

  three_each : (n : ℕ) → length (added_for f found reached n) ≡ 3 * n
  three_each zero = refl
  three_each (suc n) =
      let e = three_each n in
      let both = both_counts (added_for f found reached n) (three (added_type (narrowed_width f found reached n))) in
      omega (arith, e, both)

  one_of_three : (ty : Ty) (k : ℕ) → k < 3 → slice_get (three ty) k ≡ Some (unnamed ty)
  one_of_three ty zero l = refl
  one_of_three ty (suc zero) l = refl
  one_of_three ty (suc (suc zero)) l = refl
  one_of_three ty (suc (suc (suc k))) l = absurd (omega (arith, l))

  stands_for : (all n k : ℕ) → n < all → k < 3 → slice_get (added_for f found reached all) (3 * n + k) ≡ Some (unnamed (added_type (narrowed_width f found reached n)))
  stands_for zero n k l less = absurd (omega (arith, l))
  stands_for (suc all) n k l less = by (nat_eq n all) refl (stands_for all n k)
    where
      count : length (added_for f found reached all) ≡ 3 * all
      count = three_each all

      by : (t : Bool) → nat_eq n all ≡ t → (n < all → k < 3 → slice_get (added_for f found reached all) (3 * n + k) ≡ Some (unnamed (added_type (narrowed_width f found reached n)))) →
          slice_get (added_for f found reached all ++ three (added_type (narrowed_width f found reached all))) (3 * n + k) ≡ Some (unnamed (added_type (narrowed_width f found reached n)))
      by true e again =
          let same : n ≡ all = eqb-true n all e in
          let place : 3 * n + k ≡ length (added_for f found reached all) + k = let c = count in omega (arith, same, c) in
          get_behind (added_for f found reached all) (three (added_type (narrowed_width f found reached all))) k (3 * n + k) place
          ∙ one_of_three (added_type (narrowed_width f found reached all)) k less
          ∙ ap (λ x. Some (unnamed (added_type (narrowed_width f found reached x)))) (sym same)
      by false e again =
          let apart = eqb-false n all e in
          let below : n < all = omega (arith, l, apart) in
          let inside : 3 * n + k < length (added_for f found reached all) = let c = count in omega (arith, below, less, c) in
          get_before (added_for f found reached all) (three (added_type (narrowed_width f found reached all))) (3 * n + k) inside ∙ again below less

  pub are_added : AreAdded f found (made_marks f found reached used)
  are_added = record {
    count = three_each (length f.values);
    each = λ n k below less. record {
      ty = added_type (narrowed_width f found reached n);
      is_type = is_type n (narrowed_width f found reached n) refl;
      stands = stands_for (length f.values) n k below less;
    };
  }
