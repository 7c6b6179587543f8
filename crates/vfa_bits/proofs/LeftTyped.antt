-- The lines that are left of a narrowed function are typed, and may be printed.
use Rattle.std.proofs.Common.{◌≡◌, ℕ, ◌<◌, Bool, true, false, nat_eq, All, Option, Some, None, List, [], ◌∷◌, map, slice_get, length, refl, sym, ◌∙◌, ap, subst}
use Rattle.std.specs.Prelude.{IsSomeAnd, if◌then◌else◌}
use Rattle.std.specs.List.{AllByRecursion}
use Rattle.std.proofs.lemmas.List.Elements.{recursion_from_All, All-from_recursion}
use Rattle.std.proofs.lemmas.Nat.{pow_pos}
use Rattle.vfa_ir.specs.declared.operations.BlockId.{BlockId}
use Rattle.vfa_ir.specs.declared.operations.Cast.{Cast}
use Rattle.vfa_ir.specs.declared.operations.Op.{Op}
use Rattle.vfa_ir.specs.declared.operations.Operand.{Operand}
use Rattle.vfa_ir.specs.declared.operations.Ty.{Ty}
use Rattle.vfa_ir.specs.declared.operations.ValueId.{ValueId}
use Rattle.vfa_ir.specs.declared.functions.Block.{Block}
use Rattle.vfa_ir.specs.declared.functions.CallArg.{CallArg}
use Rattle.vfa_ir.specs.declared.functions.CallOp.{CallOp}
use Rattle.vfa_ir.specs.declared.functions.Function.{Function}
use Rattle.vfa_ir.specs.declared.functions.Inst.{Inst}
use Rattle.vfa_ir.specs.declared.functions.Term.{Term}
use Rattle.vfa_ir.specs.declared.operations.Bin.{Bin}
use Rattle.vfa_ir.specs.Operands.{no_flags, no_cast_flags}
use Rattle.vfa_ir.specs.Printable.{IsOperand, IsBlock, HasItsFlags, HasItsCastFlags, HasItsResult, PrintableOp, PrintableTerm, PrintableCall, PrintableArgument, op_type}
use Rattle.vfa_ir.specs.Typed.{TypedOp, TypedTerm, TypedCall, IsOfType}
use Rattle.vfa_mean.specs.Moments.{is_call, IsLine}
use Rattle.vfa_demand.specs.Masks.{result_mask}
use Rattle.vfa_bits.specs.Standing.{put_for, zeroed}
use Rattle.vfa_bits.specs.Changed.{has_unseen_sign}
use Rattle.vfa_bits.specs.Narrowed.{Choices, with_operands, with_zeros, narrowed_cast, lost_flags, has_changed, new_operation, with_operand, is_reached_call, new_argument, rewritten, left}
use Rattle.vfa_bits.proofs.Chains.{Known, all_at, standing_typed, line_typed, line_printable}
use Rattle.vfa_bits.proofs.Narrowing.{with_call, call_of, lost_call}
use Rattle.vfa_bits.proofs.Steps.{new_shape}
use Rattle.vfa_bits.proofs.Places.{call_at}
use Rattle.vfa_bits.proofs.Related.{IsTypedOperand}

-- ---- flags

no_true : false ≡ true → ⊥
no_true e = absurd (cc)

pub lost_typed : (f : Function) (t : Bool) (op : Op) → TypedOp f op → TypedOp f (lost_flags t op)
lost_typed f false op h = h
lost_typed f true (Op.Bin bin flags w a b) h = h
lost_typed f true (Op.Icmp pred samesign w a b) h = h
lost_typed f true (Op.Select w c a b) h = h
lost_typed f true (Op.Cast cast flags v w a) h = h
lost_typed f true (Op.Freeze w a) h = h
lost_typed f true (Op.Two fun w a b) h = h
lost_typed f true (Op.One fun w a strict) h = h
lost_typed f true (Op.Over over w a b) h = h
lost_typed f true (Op.Part w pair index) h = h
lost_typed f true (Op.Assume c) h = h
lost_typed f true (Op.Call width place) h = h

no_flags_fit : (bin : Bin) → HasItsFlags bin no_flags
no_flags_fit bin = record { nuw = λ e. absurd (no_true e); nsw = λ e. absurd (no_true e); exact = λ e. absurd (no_true e); disjoint = λ e. absurd (no_true e) }

no_cast_flags_fit : (cast : Cast) → HasItsCastFlags cast no_cast_flags
no_cast_flags_fit cast = record { nuw = λ e. absurd (no_true e); nsw = λ e. absurd (no_true e); nneg = λ e. absurd (no_true e) }

pub lost_printable : (f : Function) (t : Bool) (op : Op) → PrintableOp f op → PrintableOp f (lost_flags t op)
lost_printable f false op h = h
lost_printable f true (Op.Bin bin flags w a b) h = (no_flags_fit bin, h.1)
lost_printable f true (Op.Icmp pred samesign w a b) h = h
lost_printable f true (Op.Select w c a b) h = h
lost_printable f true (Op.Cast cast flags v w a) h = (no_cast_flags_fit cast, h.1, h.2, h.3)
lost_printable f true (Op.Freeze w a) h = h
lost_printable f true (Op.Two fun w a b) h = h
lost_printable f true (Op.One fun w a strict) h = h
lost_printable f true (Op.Over over w a b) h = h
lost_printable f true (Op.Part w pair index) h = h
lost_printable f true (Op.Assume c) h = h
lost_printable f true (Op.Call width place) h = h

zeros_typed : (f : Function) (op : Op) → TypedOp f op → TypedOp f (with_zeros op)
zeros_typed f (Op.Bin bin flags w a b) h = h
zeros_typed f (Op.Icmp pred samesign w a b) h = h
zeros_typed f (Op.Select w c a b) h = h
zeros_typed f (Op.Cast Cast.Zext flags v w a) h = h
zeros_typed f (Op.Cast Cast.Sext flags v w a) h = h
zeros_typed f (Op.Cast Cast.Trunc flags v w a) h = h
zeros_typed f (Op.Freeze w a) h = h
zeros_typed f (Op.Two fun w a b) h = h
zeros_typed f (Op.One fun w a strict) h = h
zeros_typed f (Op.Over over w a b) h = h
zeros_typed f (Op.Part w pair index) h = h
zeros_typed f (Op.Assume c) h = h
zeros_typed f (Op.Call width place) h = h

zeros_printable : (f : Function) (op : Op) → PrintableOp f op → PrintableOp f (with_zeros op)
zeros_printable f (Op.Bin bin flags w a b) h = h
zeros_printable f (Op.Icmp pred samesign w a b) h = h
zeros_printable f (Op.Select w c a b) h = h
zeros_printable f (Op.Cast Cast.Zext flags v w a) h = h
zeros_printable f (Op.Cast Cast.Sext flags v w a) h = (no_cast_flags_fit Cast.Zext, h.1, h.2, h.3)
zeros_printable f (Op.Cast Cast.Trunc flags v w a) h = h
zeros_printable f (Op.Freeze w a) h = h
zeros_printable f (Op.Two fun w a b) h = h
zeros_printable f (Op.One fun w a strict) h = h
zeros_printable f (Op.Over over w a b) h = h
zeros_printable f (Op.Part w pair index) h = h
zeros_printable f (Op.Assume c) h = h
zeros_printable f (Op.Call width place) h = h

pub cast_typed : (f : Function) (op : Op) (d : ℕ) → TypedOp f op → TypedOp f (narrowed_cast op d)
cast_typed f op d h = by (has_unseen_sign op d)
  where
    by : (t : Bool) → TypedOp f (if t then with_zeros op else op)
    by true = zeros_typed f op h
    by false = h

pub cast_printable : (f : Function) (op : Op) (d : ℕ) → PrintableOp f op → PrintableOp f (narrowed_cast op d)
cast_printable f op d h = by (has_unseen_sign op d)
  where
    by : (t : Bool) → PrintableOp f (if t then with_zeros op else op)
    by true = zeros_printable f op h
    by false = h

-- ---- operands of their types put in place of others

module _ (f g : Function) (put : Operand → Operand) (types : (w : ℕ) (a : Operand) → IsTypedOperand f w a → IsTypedOperand g w (put a))
    (pairs : (w : ℕ) (v : ValueId) → TypedOp f (Op.Part w v 0) → TypedOp g (Op.Part w v 0)) (values : length g.values ≡ length f.values) where
  of_two : (w : ℕ) (a : Operand) → IsOfType f (Ty.Int w) a → IsOperand f w a → IsTypedOperand g w (put a)
  of_two w a ty range = types w a (record { ty = ty; range = range })

  pub put_typed : (op : Op) → is_call op ≡ false → TypedOp f op → PrintableOp f op → TypedOp g (with_operands put op)
  put_typed (Op.Bin bin flags w a b) plain t r = record { first = (of_two w a t.first r.1.first).ty; second = (of_two w b t.second r.1.second).ty }
  put_typed (Op.Icmp pred samesign w a b) plain t r = record { first = (of_two w a t.first r.first).ty; second = (of_two w b t.second r.second).ty }
  put_typed (Op.Select w c a b) plain t r = ((of_two 1 c t.0 r.0).ty, record { first = (of_two w a t.1.first r.1.first).ty; second = (of_two w b t.1.second r.1.second).ty })
  put_typed (Op.Cast cast flags v w a) plain t r = ((of_two v a t.0 r.2).ty, t.1)
  put_typed (Op.Freeze w a) plain t r = (of_two w a t r.1).ty
  put_typed (Op.Two fun w a b) plain t r = record { first = (of_two w a t.first r.first).ty; second = (of_two w b t.second r.second).ty }
  put_typed (Op.One fun w a strict) plain t r = (of_two w a t r.1).ty
  put_typed (Op.Over over w a b) plain t r = record { first = (of_two w a t.first r.first).ty; second = (of_two w b t.second r.second).ty }
  put_typed (Op.Part w pair index) plain t r = pairs w pair t
  put_typed (Op.Assume c) plain t r = (of_two 1 c t r).ty
  put_typed (Op.Call width place) plain t r = absurd (cc)

  pub put_printable : (op : Op) → TypedOp f op → PrintableOp f op → PrintableOp g (with_operands put op)
  put_printable (Op.Bin bin flags w a b) t r = (r.0, record { of_width = r.1.of_width; first = (of_two w a t.first r.1.first).range; second = (of_two w b t.second r.1.second).range })
  put_printable (Op.Icmp pred samesign w a b) t r = record { of_width = r.of_width; first = (of_two w a t.first r.first).range; second = (of_two w b t.second r.second).range }
  put_printable (Op.Select w c a b) t r = ((of_two 1 c t.0 r.0).range, record { of_width = r.1.of_width; first = (of_two w a t.1.first r.1.first).range; second = (of_two w b t.1.second r.1.second).range })
  put_printable (Op.Cast cast flags v w a) t r = (r.0, r.1, (of_two v a t.0 r.2).range, r.3)
  put_printable (Op.Freeze w a) t r = (r.0, (of_two w a t r.1).range)
  put_printable (Op.Two fun w a b) t r = record { of_width = r.of_width; first = (of_two w a t.first r.first).range; second = (of_two w b t.second r.second).range }
  put_printable (Op.One fun w a strict) t r = (r.0, (of_two w a t r.1).range, r.2)
  put_printable (Op.Over over w a b) t r = record { of_width = r.of_width; first = (of_two w a t.first r.first).range; second = (of_two w b t.second r.second).range }
  put_printable (Op.Part w pair index) t r = (r.0, subst (λ n. pair.0 < n) (sym values) r.1, r.2)
  put_printable (Op.Assume c) t r = (of_two 1 c t r).range
  put_printable (Op.Call width place) t r = r

  pub put_typed_term : (term : Term) → g.width ≡ f.width → TypedTerm f term → PrintableTerm f term → TypedTerm g (with_operand put term)
  put_typed_term (Term.Ret w a) width t r = (t.0 ∙ sym width, (of_two w a t.1 r.1).ty)
  put_typed_term (Term.Br to) width t r = tt
  put_typed_term (Term.CondBr c taken fallen) width t r = (of_two 1 c t r.0).ty
  put_typed_term (Term.Switch w on other cases) width t r = ((of_two w on t.0 r.1).ty, t.1)
  put_typed_term Term.Unreachable width t r = tt

  module _ (blocks : length g.blocks ≡ length f.blocks) where
    is_block : (b : BlockId) → IsBlock f b → IsBlock g b
    is_block b h = subst (λ n. b.0 < n) (sym blocks) h

    pub put_printable_term : (term : Term) → TypedTerm f term → PrintableTerm f term → PrintableTerm g (with_operand put term)
    put_printable_term (Term.Ret w a) t r = (r.0, (of_two w a t.1 r.1).range)
    put_printable_term (Term.Br to) t r = is_block to r
    put_printable_term (Term.CondBr c taken fallen) t r = ((of_two 1 c t r.0).range, is_block taken r.1, is_block fallen r.2)
    put_printable_term (Term.Switch w on other cases) t r =
        (r.0, (of_two w on t.0 r.1).range, is_block other r.2, λ k d below. let h = r.3 k d below in (h.0, is_block _ h.1))
    put_printable_term Term.Unreachable t r = tt

with_type : (put : Operand → Operand) (op : Op) → op_type (with_operands put op) ≡ op_type op
with_type put (Op.Bin bin flags w a b) = refl
with_type put (Op.Icmp pred samesign w a b) = refl
with_type put (Op.Select w c a b) = refl
with_type put (Op.Cast cast flags v w a) = refl
with_type put (Op.Freeze w a) = refl
with_type put (Op.Two fun w a b) = refl
with_type put (Op.One fun w a strict) = refl
with_type put (Op.Over over w a b) = refl
with_type put (Op.Part w pair index) = refl
with_type put (Op.Assume c) = refl
with_type put (Op.Call width place) = refl

with_its_result : (put : Operand → Operand) (op : Op) (r : Option ValueId) → HasItsResult op r → HasItsResult (with_operands put op) r
with_its_result put (Op.Bin bin flags w a b) r h = h
with_its_result put (Op.Icmp pred samesign w a b) r h = h
with_its_result put (Op.Select w c a b) r h = h
with_its_result put (Op.Cast cast flags v w a) r h = h
with_its_result put (Op.Freeze w a) r h = h
with_its_result put (Op.Two fun w a b) r h = h
with_its_result put (Op.One fun w a strict) r h = h
with_its_result put (Op.Over over w a b) r h = h
with_its_result put (Op.Part w pair index) r h = h
with_its_result put (Op.Assume c) r h = h
with_its_result put (Op.Call width place) r h = h

lost_result : (t : Bool) (op : Op) (r : Option ValueId) → HasItsResult op r → HasItsResult (lost_flags t op) r
lost_result false op r h = h
lost_result true (Op.Bin bin flags w a b) r h = h
lost_result true (Op.Icmp pred samesign w a b) r h = h
lost_result true (Op.Select w c a b) r h = h
lost_result true (Op.Cast cast flags v w a) r h = h
lost_result true (Op.Freeze w a) r h = h
lost_result true (Op.Two fun w a b) r h = h
lost_result true (Op.One fun w a strict) r h = h
lost_result true (Op.Over over w a b) r h = h
lost_result true (Op.Part w pair index) r h = h
lost_result true (Op.Assume c) r h = h
lost_result true (Op.Call width place) r h = h

cast_result : (t : Bool) (op : Op) (r : Option ValueId) → HasItsResult op r → HasItsResult (if t then with_zeros op else op) r
cast_result false op r h = h
cast_result true (Op.Bin bin flags w a b) r h = h
cast_result true (Op.Icmp pred samesign w a b) r h = h
cast_result true (Op.Select w c a b) r h = h
cast_result true (Op.Cast Cast.Zext flags v w a) r h = h
cast_result true (Op.Cast Cast.Sext flags v w a) r h = h
cast_result true (Op.Cast Cast.Trunc flags v w a) r h = h
cast_result true (Op.Freeze w a) r h = h
cast_result true (Op.Two fun w a b) r h = h
cast_result true (Op.One fun w a strict) r h = h
cast_result true (Op.Over over w a b) r h = h
cast_result true (Op.Part w pair index) r h = h
cast_result true (Op.Assume c) r h = h
cast_result true (Op.Call width place) r h = h

-- ---- what is put in has its type

zeroed_typed : (f : Function) (masks : ℕ → ℕ) (w : ℕ) (a : Operand) → IsTypedOperand f w a → IsTypedOperand f w (zeroed masks a)
zeroed_typed f masks w (Operand.Literal c) typed = typed
zeroed_typed f masks w Operand.Poison typed = typed
zeroed_typed f masks w (Operand.Value v) typed = by (nat_eq (masks v.0) 0)
  where
    by : (t : Bool) → IsTypedOperand f w (if t then Operand.Literal 0 else Operand.Value v)
    by true = record { ty = tt; range = pow_pos w }
    by false = typed

module _ (f : Function) (masks : ℕ → ℕ) (by : Choices) (used : ℕ → Bool) (known : Known f masks by.changed) where
  abbrev whole : Function
  whole = left used (rewritten f masks by)

  stands_typed : (t : Bool) (w : ℕ) (a : Operand) → IsTypedOperand f w a → IsTypedOperand f w (put_for f masks t a)
  stands_typed true w a typed = standing_typed f masks by.changed used known (length f.values) w a typed
  stands_typed false w a typed = zeroed_typed f masks w a typed

  -- the values are the same
  same_typed : (w : ℕ) (a : Operand) → IsTypedOperand f w a → IsTypedOperand (left used (rewritten f masks by)) w a
  same_typed w (Operand.Value v) h = record { ty = h.ty; range = h.range }
  same_typed w (Operand.Literal c) h = record { ty = h.ty; range = h.range }
  same_typed w Operand.Poison h = record { ty = h.ty; range = h.range }

  pub put_types : (t : Bool) (w : ℕ) (a : Operand) → IsTypedOperand f w a → IsTypedOperand (left used (rewritten f masks by)) w (put_for f masks t a)
  put_types t w a h = same_typed w (put_for f masks t a) (stands_typed t w a h)

  pub same_pairs : (w : ℕ) (v : ValueId) → TypedOp f (Op.Part w v 0) → TypedOp (left used (rewritten f masks by)) (Op.Part w v 0)
  same_pairs w v h = h

  -- ---- lines

  module _ (b : ℕ) (block : Block) (i : ℕ) (inst : Inst) (line : IsLine f b block i inst) where
    bare_typed : TypedOp f (lost_flags (has_changed f by.changed inst.op) (narrowed_cast inst.op (result_mask masks inst)))
    bare_typed = lost_typed f (has_changed f by.changed inst.op) (narrowed_cast inst.op (result_mask masks inst))
        (cast_typed f inst.op (result_mask masks inst) (line_typed f masks by.changed used known b block i inst line))

    bare_printable : PrintableOp f (lost_flags (has_changed f by.changed inst.op) (narrowed_cast inst.op (result_mask masks inst)))
    bare_printable = lost_printable f (has_changed f by.changed inst.op) (narrowed_cast inst.op (result_mask masks inst))
        (cast_printable f inst.op (result_mask masks inst) (line_printable f masks by.changed used known b block i inst line))

    pub line_left_printable : PrintableOp (left used (rewritten f masks by)) (new_operation f masks by b inst)
    line_left_printable = put_printable f (left used (rewritten f masks by)) (put_for f masks (by.reached b)) (put_types (by.reached b)) same_pairs refl
        (lost_flags (has_changed f by.changed inst.op) (narrowed_cast inst.op (result_mask masks inst))) bare_typed bare_printable

    new_is_call : is_call (new_operation f masks by b inst) ≡ is_call inst.op
    new_is_call = with_call (put_for f masks (by.reached b)) (lost_flags (has_changed f by.changed inst.op) (narrowed_cast inst.op (result_mask masks inst)))
        ∙ (new_shape f (has_changed f by.changed inst.op) inst.op (result_mask masks inst)).call

    bare_call : is_call inst.op ≡ false → is_call (lost_flags (has_changed f by.changed inst.op) (narrowed_cast inst.op (result_mask masks inst))) ≡ false
    bare_call plain = (new_shape f (has_changed f by.changed inst.op) inst.op (result_mask masks inst)).call ∙ plain

    call_left_typed : (width : Option ℕ) (place : ℕ) → inst.op ≡ Op.Call width place → TypedOp (left used (rewritten f masks by)) (new_operation f masks by b inst)
    call_left_typed width place is =
        subst (TypedOp (left used (rewritten f masks by))) (sym new_is) (typed_call (slice_get f.calls place) refl
        (subst (TypedOp f) is (line_typed f masks by.changed used known b block i inst line)))
      where
        new_is : new_operation f masks by b inst ≡ Op.Call width place
        new_is = ap (λ o. with_operands (put_for f masks (by.reached b)) (lost_flags (has_changed f by.changed o) (narrowed_cast o (result_mask masks inst)))) is
            ∙ lost_call (has_changed f by.changed (Op.Call width place)) (put_for f masks (by.reached b)) width place

        args_typed : (args : List CallArg) → AllByRecursion (λ (a : CallArg). IsOfType f (Ty.Int a.width) a.value) args → AllByRecursion (PrintableArgument f) args →
            AllByRecursion (λ (a : CallArg). IsOfType (left used (rewritten f masks by)) (Ty.Int a.width) a.value) (map (new_argument (put_for f masks (is_reached_call by place 0 f.blocks))) args)
        args_typed [] types ranges = tt
        args_typed (a ∷ args) types ranges =
            ((put_types (is_reached_call by place 0 f.blocks) a.width a.value (record { ty = types.0; range = ranges.0.value })).ty, args_typed args types.1 ranges.1)

        typed_call : (o : Option CallOp) → slice_get f.calls place ≡ o → IsSomeAnd (slice_get f.calls place) (λ (c : CallOp). All (λ (a : CallArg). IsOfType f (Ty.Int a.width) a.value) c.args) →
            TypedCall (left used (rewritten f masks by)) place
        typed_call None e t = absurd (subst (λ o. IsSomeAnd o (λ (c : CallOp). All (λ (a : CallArg). IsOfType f (Ty.Int a.width) a.value) c.args)) e t)
        typed_call (Some c) e t =
            let types : All (λ (a : CallArg). IsOfType f (Ty.Int a.width) a.value) c.args =
            subst (λ o. IsSomeAnd o (λ (c : CallOp). All (λ (a : CallArg). IsOfType f (Ty.Int a.width) a.value) c.args)) e t in
            let ranges = (all_at (PrintableCall f) f.calls place c known.printable.calls e).arguments in
            subst (λ o. IsSomeAnd o (λ (d : CallOp). All (λ (a : CallArg). IsOfType (left used (rewritten f masks by)) (Ty.Int a.width) a.value) d.args)) (sym (call_at f masks by place c e))
            (All-from_recursion (λ (a : CallArg). IsOfType (left used (rewritten f masks by)) (Ty.Int a.width) a.value) (map (new_argument (put_for f masks (is_reached_call by place 0 f.blocks))) c.args)
            (args_typed c.args (recursion_from_All (λ (a : CallArg). IsOfType f (Ty.Int a.width) a.value) c.args types) (recursion_from_All (PrintableArgument f) c.args ranges)))

    pub line_left_typed : TypedOp (left used (rewritten f masks by)) (new_operation f masks by b inst)
    line_left_typed = here (is_call inst.op) refl
      where
        here : (t : Bool) → is_call inst.op ≡ t → TypedOp (left used (rewritten f masks by)) (new_operation f masks by b inst)
        here false plain = put_typed f (left used (rewritten f masks by)) (put_for f masks (by.reached b)) (put_types (by.reached b)) same_pairs refl
            (lost_flags (has_changed f by.changed inst.op) (narrowed_cast inst.op (result_mask masks inst))) (bare_call plain) bare_typed bare_printable
        here true e = let c = call_of inst.op e in call_left_typed c.width c.place c.is

    pub line_left_type : op_type (new_operation f masks by b inst) ≡ op_type inst.op
    line_left_type = with_type (put_for f masks (by.reached b)) (lost_flags (has_changed f by.changed inst.op) (narrowed_cast inst.op (result_mask masks inst)))
        ∙ (new_shape f (has_changed f by.changed inst.op) inst.op (result_mask masks inst)).ty

    pub line_left_result : HasItsResult inst.op inst.result → HasItsResult (new_operation f masks by b inst) inst.result
    line_left_result h = with_its_result (put_for f masks (by.reached b)) (lost_flags (has_changed f by.changed inst.op) (narrowed_cast inst.op (result_mask masks inst))) inst.result
        (lost_result (has_changed f by.changed inst.op) (narrowed_cast inst.op (result_mask masks inst)) inst.result (cast_result (has_unseen_sign inst.op (result_mask masks inst)) inst.op inst.result h))
