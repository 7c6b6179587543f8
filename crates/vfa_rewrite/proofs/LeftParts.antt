-- What is left of an instruction is typed and may be printed; it gives the instruction's name, names that are new, and no other
-- call.
use Rattle.std.proofs.Common.{◌≡◌, ◌<◌, ℕ, ◌+◌, ◌*◌, ◌^◌, ◌++◌, true, false, Option, Some, None, List, [], ◌∷◌, filter_map, length, IsSomeAnd, refl, sym, ap, ◌∙◌, subst, arith}
use Rattle.std.proofs.lemmas.Nat.{pow_pos, mod_below}
use Rattle.std.specs.List.{AllByRecursion, cons_option}
use Rattle.std.specs.Option.{option_map_or}
use Rattle.vfa_ir.specs.declared.operations.Bin.{Bin}
use Rattle.vfa_ir.specs.declared.operations.Cast.{Cast}
use Rattle.vfa_ir.specs.declared.operations.Flags.{Flags}
use Rattle.vfa_ir.specs.declared.operations.Op.{Op}
use Rattle.vfa_ir.specs.declared.operations.Operand.{Operand}
use Rattle.vfa_ir.specs.declared.operations.Ty.{Ty}
use Rattle.vfa_ir.specs.declared.operations.ValueId.{ValueId}
use Rattle.vfa_ir.specs.declared.functions.Block.{Block}
use Rattle.vfa_ir.specs.declared.functions.Function.{Function}
use Rattle.vfa_ir.specs.declared.functions.Inst.{Inst}
use Rattle.vfa_ir.specs.declared.functions.Value.{Value}
use Rattle.vfa_ir.specs.Grammar.{IsWidth as IsWrittenWidth}
use Rattle.vfa_ir.specs.Operands.{no_cast_flags}
use Rattle.vfa_ir.specs.Printable.{IsOperand, HasItsCastFlags, HasItsResult, PrintableInst, op_type, inst_ids, call_place}
use Rattle.vfa_ir.specs.Typed.{TypedOp, IsOfType, HasType}
use Rattle.vfa_ir.specs.Words.{is_in}
use Rattle.vfa_word.specs.Numbers.{IsWidth}
use Rattle.vfa_mean.specs.Moments.{At}
use Rattle.vfa_mean.proofs.FreshOperands.Definitions.{in_first, in_rest}
use Rattle.vfa_mean.proofs.PlacesAmong.{stands_within}
use Rattle.vfa_cond.specs.Conditions.{name_type}
use Rattle.vfa_walk.proofs.TruthTypes.{line_type}
use Rattle.vfa_rewrite.specs.Findings.{Findings, IsUsable}
use Rattle.vfa_rewrite.specs.Marks.{IsLeftLine}
use Rattle.vfa_rewrite.specs.Rewritten.{Marks, line_of, name_of, truncation, truncated_operand, narrowed, rewritten}
use Rattle.vfa_rewrite.proofs.LeftLines.{Known, IsDivisionFor, Form, one, division}
use Rattle.vfa_rewrite.proofs.PutOperands.{operand_left_typed, operand_left_range}
use Rattle.vfa_rewrite.proofs.Ranges.{result_below, same_type}
use Rattle.vfa_rewrite.proofs.Sublists.{IsSublist, end, skip, keep, sublist_self, sublist_none}

-- ---- the names that may stand in place of a name

-- those that narrowing may add for name v of n names, and the name
abbrev pub with_fresh : ℕ → ℕ → List ℕ
with_fresh n v = (n + 3 * v + 0) ∷ ((n + 3 * v + 1) ∷ ((n + 3 * v + 2) ∷ (v ∷ [])))

abbrev pub result_with_fresh : ℕ → Option ValueId → List ℕ
result_with_fresh n None = []
result_with_fresh n (Some v) = with_fresh n v.0

no_true : false ≡ true → ⊥
no_true e = absurd (cc)

no_cast_flags_fit : (cast : Cast) → HasItsCastFlags cast no_cast_flags
no_cast_flags_fit cast = record { nuw = λ e. absurd (no_true e); nsw = λ e. absurd (no_true e); nneg = λ e. absurd (no_true e) }

to_written : (w : ℕ) → IsWidth w → IsWrittenWidth w
to_written w h = record { least = h.least; most = h.most }

pub both_counts : (xs ys : List Value) → length (xs ++ ys) ≡ length xs + length ys
both_counts [] ys = omega arith
both_counts (x ∷ xs) ys = let e = both_counts xs ys in omega (arith, e)

abbrev type_at : Option Value → Ty
type_at o = option_map_or (λ (value : Value). value.ty) o (Ty.Int 1)

-- a name among the values of a function is of its type
has_type_at : (g : Function) (n : ℕ) (ty : Ty) → n < length g.values → name_type g n ≡ ty → HasType g ty (name_of n)
has_type_at g n ty below is =
    let s = stands_within g.values n below in
    subst (λ o. IsSomeAnd o (λ (x : Value). x.ty ≡ ty)) (sym s.1) (sym (ap type_at s.1) ∙ is)

-- ---- lines of a division

in_truncated : (w v : ℕ) (a : Operand) (name x : ℕ) (rest : List Inst) → is_in x (inst_ids rest) ≡ true → is_in x (inst_ids (truncation w v a name ++ rest)) ≡ true
in_truncated w v (Operand.Value n) name x rest t = in_rest x name (inst_ids rest) t
in_truncated w v (Operand.Literal c) name x rest t = t
in_truncated w v Operand.Poison name x rest t = t

truncated_ids : (w v : ℕ) (a : Operand) (name : ℕ) (rest : List Inst) (more : List ℕ) → IsSublist (inst_ids rest) more → IsSublist (inst_ids (truncation w v a name ++ rest)) (name ∷ more)
truncated_ids w v (Operand.Value n) name rest more s = keep name (inst_ids rest) more s
truncated_ids w v (Operand.Literal c) name rest more s = skip name (inst_ids rest) more s
truncated_ids w v Operand.Poison name rest more s = skip name (inst_ids rest) more s

abbrev pub places_in : List Inst → List ℕ
places_in lines = filter_map (λ (i : Inst). call_place i.op) lines

truncated_places : (w v : ℕ) (a : Operand) (name : ℕ) (rest : List Inst) → places_in (truncation w v a name ++ rest) ≡ places_in rest
truncated_places w v (Operand.Value n) name rest = refl
truncated_places w v (Operand.Literal c) name rest = refl
truncated_places w v Operand.Poison name rest = refl

truncated_each : (P : Inst → Type 0) (w v : ℕ) (a : Operand) (name : ℕ) (rest : List Inst) →
    ((n : ValueId) → a ≡ Operand.Value n → P (line_of (Some (name_of name)) (Op.Cast Cast.Trunc no_cast_flags w v a))) →
    AllByRecursion P rest → AllByRecursion P (truncation w v a name ++ rest)
truncated_each P w v (Operand.Value n) name rest line all = (line n refl, all)
truncated_each P w v (Operand.Literal c) name rest line all = all
truncated_each P w v Operand.Poison name rest line all = all

module _ (f : Function) (found : Findings) (m : Marks) (known : Known f found m) (b : ℕ) (block : Block) (i : ℕ) (inst : Inst) (left : IsLeftLine f m b block i inst) where
  -- a line is typed, may be printed, and its result is of its type
  pub record IsGoodLine (line : Inst) : Type 0 where
    pub typed : TypedOp (rewritten f m) line.op
    pub printable : PrintableInst (rewritten f m) line
    pub type : (v : ValueId) → line.result ≡ Some v → name_type (rewritten f m) v.0 ≡ op_type line.op

  result_is : (v : ValueId) → inst.result ≡ Some v → name_type (rewritten f m) v.0 ≡ op_type inst.op
  result_is v e = same_type f m v.0 (result_below f known.printable b i block inst v left.line e) ∙ line_type f known.printable b i block inst v left.line e

  pub result_name_below : (v : ValueId) → inst.result ≡ Some v → v.0 < length f.values
  result_name_below v e = result_below f known.printable b i block inst v left.line e

  module _ (bin : Bin) (flags : Flags) (w v : ℕ) (x y : Operand) (d : IsDivisionFor f found m known b block i inst left bin flags w v x y) where
    fresh_below : (k : ℕ) → k < 3 → m.fresh b i k < length (rewritten f m).values
    fresh_below k less =
        let name = result_name_below d.name d.result in
        let is = d.fresh.is k in
        let count = both_counts f.values m.added in
        let added = known.marks.added.count in
        omega (arith, name, is, count, added, less)

    fresh_typed : (k : ℕ) → k < 3 → HasType (rewritten f m) (Ty.Int v) (name_of (m.fresh b i k))
    fresh_typed k less = has_type_at (rewritten f m) (m.fresh b i k) (Ty.Int v) (fresh_below k less) (d.fresh.typed k less)

    cut_typed : (a : Operand) (k : ℕ) → k < 3 → IsOfType (rewritten f m) (Ty.Int v) (truncated_operand v a (m.fresh b i k))
    cut_typed (Operand.Value n) k less = fresh_typed k less
    cut_typed (Operand.Literal c) k less = tt
    cut_typed Operand.Poison k less = tt

    cut_range : (a : Operand) (k : ℕ) → k < 3 → IsOperand (rewritten f m) v (truncated_operand v a (m.fresh b i k))
    cut_range (Operand.Value n) k less = fresh_below k less
    cut_range (Operand.Literal c) k less = mod_below c (2 ^ v) (pow_pos v)
    cut_range Operand.Poison k less = tt

    cut_line : (a : Operand) (k : ℕ) → k < 3 → IsUsable f (At b i) (Ty.Int w) a → (n : ValueId) → a ≡ Operand.Value n →
        IsGoodLine (line_of (Some (name_of (m.fresh b i k))) (Op.Cast Cast.Trunc no_cast_flags w v a))
    cut_line a k less usable n is = record {
      typed = (operand_left_typed f m (Ty.Int w) a usable.typed, d.less);
      printable = record { result = tt; op = (no_cast_flags_fit Cast.Trunc, to_written w d.width, operand_left_range f m w a usable.typed, to_written v d.lesser) };
      type = λ u e. let same : name_of (m.fresh b i k) ≡ u = cc in subst (λ (z : ValueId). name_type (rewritten f m) z.0 ≡ Ty.Int v) same (d.fresh.typed k less);
    }

    middle_line : IsGoodLine (line_of (Some (name_of (m.fresh b i 2))) (Op.Bin bin flags v (truncated_operand v x (m.fresh b i 0)) (truncated_operand v y (m.fresh b i 1))))
    middle_line = record {
      typed = record { first = cut_typed x 0 (omega arith); second = cut_typed y 1 (omega arith) };
      printable = record {
        result = tt;
        op = (d.flags_fit, record { of_width = to_written v d.lesser; first = cut_range x 0 (omega arith); second = cut_range y 1 (omega arith) });
      };
      type = λ u e. let same : name_of (m.fresh b i 2) ≡ u = cc in subst (λ (z : ValueId). name_type (rewritten f m) z.0 ≡ Ty.Int v) same (d.fresh.typed 2 (omega arith));
    }

    last_line : IsGoodLine (line_of inst.result (Op.Cast Cast.Zext no_cast_flags v w (Operand.Value (name_of (m.fresh b i 2)))))
    last_line = record {
      typed = (fresh_typed 2 (omega arith), d.less);
      printable = record {
        result = subst (λ r. HasItsResult (Op.Cast Cast.Zext no_cast_flags v w (Operand.Value (name_of (m.fresh b i 2)))) r) (sym d.result) tt;
        op = (no_cast_flags_fit Cast.Zext, to_written v d.lesser, fresh_below 2 (omega arith), to_written w d.width);
      };
      type = λ u e. result_is u e ∙ d.type;
    }

    division_good : AllByRecursion IsGoodLine (narrowed (m.fresh b i) v inst.result (Op.Bin bin flags w x y))
    division_good =
        truncated_each IsGoodLine w v x (m.fresh b i 0) _ (cut_line x 0 (omega arith) d.first)
        (truncated_each IsGoodLine w v y (m.fresh b i 1) _ (cut_line y 1 (omega arith) d.second) (middle_line, (last_line, tt)))

    last_ids : (r : Option ValueId) → inst.result ≡ r → r ≡ Some d.name → (op : Op) → IsSublist (inst_ids (line_of inst.result op ∷ [])) (d.name.0 ∷ [])
    last_ids r e is op = subst (λ o. IsSublist (inst_ids (line_of o op ∷ [])) (d.name.0 ∷ [])) (sym (e ∙ is)) (keep d.name.0 [] [] end)

    division_ids : IsSublist (inst_ids (narrowed (m.fresh b i) v inst.result (Op.Bin bin flags w x y))) (with_fresh (length f.values) d.name.0)
    division_ids =
        let zext = Op.Cast Cast.Zext no_cast_flags v w (Operand.Value (name_of (m.fresh b i 2))) in
        let made : IsSublist (inst_ids (narrowed (m.fresh b i) v inst.result (Op.Bin bin flags w x y))) (m.fresh b i 0 ∷ (m.fresh b i 1 ∷ (m.fresh b i 2 ∷ (d.name.0 ∷ [])))) =
        truncated_ids w v x (m.fresh b i 0) _ _ (truncated_ids w v y (m.fresh b i 1) _ _ (keep (m.fresh b i 2) _ _ (last_ids inst.result refl d.result zext))) in
        subst (λ k. IsSublist (inst_ids (narrowed (m.fresh b i) v inst.result (Op.Bin bin flags w x y))) (k ∷ ((length f.values + 3 * d.name.0 + 1) ∷ ((length f.values + 3 * d.name.0 + 2) ∷ (d.name.0 ∷ []))))) (d.fresh.is 0)
        (subst (λ k. IsSublist (inst_ids (narrowed (m.fresh b i) v inst.result (Op.Bin bin flags w x y))) (m.fresh b i 0 ∷ (k ∷ ((length f.values + 3 * d.name.0 + 2) ∷ (d.name.0 ∷ []))))) (d.fresh.is 1)
        (subst (λ k. IsSublist (inst_ids (narrowed (m.fresh b i) v inst.result (Op.Bin bin flags w x y))) (m.fresh b i 0 ∷ (m.fresh b i 1 ∷ (k ∷ (d.name.0 ∷ []))))) (d.fresh.is 2) made))

    division_places : places_in (narrowed (m.fresh b i) v inst.result (Op.Bin bin flags w x y)) ≡ []
    division_places = truncated_places w v x (m.fresh b i 0) _ ∙ truncated_places w v y (m.fresh b i 1) _

    division_gives : (z : ValueId) → inst.result ≡ Some z → is_in z.0 (inst_ids (narrowed (m.fresh b i) v inst.result (Op.Bin bin flags w x y))) ≡ true
    division_gives z e =
        let zext = Op.Cast Cast.Zext no_cast_flags v w (Operand.Value (name_of (m.fresh b i 2))) in
        let last : is_in z.0 (inst_ids (line_of inst.result zext ∷ [])) ≡ true = subst (λ o. is_in z.0 (inst_ids (line_of o zext ∷ [])) ≡ true) (sym e) (in_first z.0 z.0 [] refl) in
        in_truncated w v x (m.fresh b i 0) z.0 _ (in_truncated w v y (m.fresh b i 1) z.0 _ (in_rest z.0 (m.fresh b i 2) (inst_ids (line_of inst.result zext ∷ [])) last))

  -- ---- each form

  pub lines_good : (lines : List Inst) → Form f found m known b block i inst left lines → AllByRecursion IsGoodLine lines
  lines_good lines (one op is) = (
    record {
      typed = is.typed;
      printable = record { result = is.result; op = is.printable };
      type = λ v e. result_is v e ∙ sym is.type;
    },
    tt,
  )
  lines_good lines (division bin flags w v x y d) = division_good bin flags w v x y d

  pub lines_ids : (lines : List Inst) → Form f found m known b block i inst left lines → IsSublist (inst_ids lines) (result_with_fresh (length f.values) inst.result)
  lines_ids lines (one op is) = by inst.result
    where
      by : (r : Option ValueId) → IsSublist (inst_ids (line_of r op ∷ [])) (result_with_fresh (length f.values) r)
      by None = end
      by (Some u) = skip _ _ _ (skip _ _ _ (skip _ _ _ (keep u.0 [] [] end)))
  lines_ids lines (division bin flags w v x y d) =
      subst (λ r. IsSublist (inst_ids (narrowed (m.fresh b i) v inst.result (Op.Bin bin flags w x y))) (result_with_fresh (length f.values) r)) (sym d.result) (division_ids bin flags w v x y d)

  pub lines_places : (lines : List Inst) → Form f found m known b block i inst left lines → IsSublist (places_in lines) (cons_option (call_place inst.op) [])
  lines_places lines (one op is) = subst (λ o. IsSublist (cons_option o []) (cons_option (call_place inst.op) [])) (sym is.place) (sublist_self (cons_option (call_place inst.op) []))
  lines_places lines (division bin flags w v x y d) =
      subst (λ xs. IsSublist xs (cons_option (call_place inst.op) [])) (sym (division_places bin flags w v x y d)) (sublist_none (cons_option (call_place inst.op) []))

  pub lines_give : (lines : List Inst) → Form f found m known b block i inst left lines → (z : ValueId) → inst.result ≡ Some z → is_in z.0 (inst_ids lines) ≡ true
  lines_give lines (one op is) z e = subst (λ o. is_in z.0 (inst_ids (line_of o op ∷ [])) ≡ true) (sym e) (in_first z.0 z.0 [] refl)
  lines_give lines (division bin flags w v x y d) z e = division_gives bin flags w v x y d z e
