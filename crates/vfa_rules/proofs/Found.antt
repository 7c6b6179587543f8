-- The first that is found in a list, and where it stands.
use Rattle.std.proofs.Common.{◌≡◌, ℕ, zero, suc, Bool, true, false, if◌then◌else◌, refl, sym, ◌∙◌, ap, Option, Some, None, List, [], ◌∷◌}
use Rattle.std.specs.Prelude.{nat_eq, slice_get}
use Rattle.std.specs.Option.{option_or}
use Rattle.std.proofs.lemmas.Bool.{eqb-true}
use Rattle.vfa_ir.specs.declared.functions.Block.{Block}
use Rattle.vfa_ir.specs.declared.functions.Function.{Function}
use Rattle.vfa_ir.specs.declared.functions.Inst.{Inst}
use Rattle.vfa_ir.specs.declared.operations.Op.{Op}
use Rattle.vfa_ir.specs.declared.operations.Operand.{Operand}
use Rattle.vfa_ir.specs.declared.operations.Over.{Over}
use Rattle.vfa_ir.specs.declared.operations.ValueId.{ValueId}
use Rattle.vfa_rules.specs.declared.change.OverflowCall.{OverflowCall}
use Rattle.vfa_rules.specs.Sources.{IsGivenBy}
use Rattle.vfa_rules.specs.Uses.{first_found, is_result, overflow_of, overflow_in, overflow_call}

record FoundAt {A B : Type 0} (look : A → Option B) (xs : List A) (y : B) : Type 0 where
  pub place : ℕ
  pub item : A
  pub at : slice_get xs place ≡ Some item
  pub gives : look item ≡ Some y

here_or_later : {A B : Type 0} (look : A → Option B) (x : A) (xs : List A) (y : B) (o : Option B) → look x ≡ o → (first_found look xs ≡ Some y → FoundAt look xs y) →
    option_or o (first_found look xs) ≡ Some y → FoundAt look (x ∷ xs) y
here_or_later look x xs y (Some z) is later e = record { place = zero; item = x; at = refl; gives = is ∙ e }
here_or_later look x xs y None is later e =
    let rest = later e in
    record { place = suc rest.place; item = rest.item; at = rest.at; gives = rest.gives }

found_at : {A B : Type 0} (look : A → Option B) (xs : List A) (y : B) → first_found look xs ≡ Some y → FoundAt look xs y
found_at look [] y e = absurd (cc)
found_at look (x ∷ xs) y e = here_or_later look x xs y (look x) refl (found_at look xs y) e

record IsOver (w : ℕ) (op : Op) (call : OverflowCall) : Type 0 where
  pub operation : op ≡ Op.Over call.over w call.a call.b

over_is : (w : ℕ) (op : Op) (call : OverflowCall) → overflow_of w op ≡ Some call → IsOver w op call
over_is w (Op.Over over v a b) call e = by (nat_eq v w) refl e
  where
    by : (t : Bool) → nat_eq v w ≡ t → (if t then Some (record { over = over; a = a; b = b }) else None) ≡ Some call → IsOver w (Op.Over over v a b) call
    by false t same = absurd (cc)
    by true t same =
        let width : v ≡ w = eqb-true v w t in
        let is : ◌≡◌ {A = OverflowCall} (record { over = over; a = a; b = b }) call = some_same _ _ same in
        record { operation = λ i. Op.Over ((is i).over) (width i) ((is i).a) ((is i).b) }
      where
        some_same : (c d : OverflowCall) → Some c ≡ Some d → c ≡ d
        some_same c d e = cc
over_is w (Op.Bin _ _ _ _ _) call e = absurd (cc)
over_is w (Op.Icmp _ _ _ _ _) call e = absurd (cc)
over_is w (Op.Select _ _ _ _) call e = absurd (cc)
over_is w (Op.Cast _ _ _ _ _) call e = absurd (cc)
over_is w (Op.Freeze _ _) call e = absurd (cc)
over_is w (Op.Two _ _ _ _) call e = absurd (cc)
over_is w (Op.One _ _ _ _) call e = absurd (cc)
over_is w (Op.Part _ _ _) call e = absurd (cc)
over_is w (Op.Assume _) call e = absurd (cc)
over_is w (Op.Call _ _) call e = absurd (cc)

record IsResult (v : ℕ) (o : Option ValueId) : Type 0 where
  pub name : ValueId
  pub is : o ≡ Some name
  pub same : name.0 ≡ v

result_is : (v : ℕ) (o : Option ValueId) → is_result v o ≡ true → IsResult v o
result_is v None e = absurd (cc)
result_is v (Some name) e = record { name = name; is = refl; same = eqb-true name.0 v e }

in_inst : (w v : ℕ) (inst : Inst) (call : OverflowCall) → overflow_in w v inst ≡ Some call → (is_result v inst.result ≡ true) × (overflow_of w inst.op ≡ Some call)
in_inst w v inst call e = by (is_result v inst.result) refl e
  where
    by : (t : Bool) → is_result v inst.result ≡ t → (if t then overflow_of w inst.op else None) ≡ Some call → (is_result v inst.result ≡ true) × (overflow_of w inst.op ≡ Some call)
    by true t same = (t, same)
    by false t same = absurd (cc)

pub has_source : (f : Function) (w index : ℕ) (pair : ValueId) (call : OverflowCall) → overflow_call f (Op.Part w pair index) ≡ Some call → IsGivenBy f w pair.0 call
has_source f w index pair call e =
    let block = found_at (λ (b : Block). first_found (overflow_in w pair.0) b.insts) f.blocks call e in
    let inst = found_at (overflow_in w pair.0) block.item.insts call block.gives in
    let parts = in_inst w pair.0 inst.item call inst.gives in
    let result = result_is pair.0 inst.item.result parts.0 in
    record {
      block_number = block.place;
      block = block.item;
      line_number = inst.place;
      inst = inst.item;
      name = result.name;
      line = record { there = block.at; stands = inst.at };
      result = result.is;
      is_name = result.same;
      operation = (over_is w inst.item.op call parts.1).operation;
    }
