-- Whether a function is well typed is decided; where it is not, its first ill-typed item stands on a line.
use Rattle.std.proofs.Common.{◌≡◌, ◌⊎◌, inl, inr, ℕ, ◌+◌, ◌<◌, false, nat_eq, List, [], ◌∷◌, map, length, get_or, All, Option, Some, None, IsSomeAnd, refl, ap, arith}
use Rattle.std.proofs.lemmas.Bool.{cases_eq}
use Rattle.std.proofs.lemmas.Option.{slice_get-get_or, slice_get_within}
use Rattle.std.specs.List.{AllByRecursion, IsDistinct, slice_get}
use Rattle.vfa_ir.specs.declared.operations.BlockId.{BlockId}
use Rattle.vfa_ir.specs.declared.operations.Cast.{Cast}
use Rattle.vfa_ir.specs.declared.operations.Op.{Op}
use Rattle.vfa_ir.specs.declared.operations.Operand.{Operand}
use Rattle.vfa_ir.specs.declared.operations.Ty.{Ty}
use Rattle.vfa_ir.specs.declared.operations.ValueId.{ValueId}
use Rattle.vfa_ir.specs.declared.functions.Block.{Block}
use Rattle.vfa_ir.specs.declared.functions.CallArg.{CallArg}
use Rattle.vfa_ir.specs.declared.functions.CallOp.{CallOp}
use Rattle.vfa_ir.specs.declared.functions.Function.{Function}
use Rattle.vfa_ir.specs.declared.functions.Inst.{Inst}
use Rattle.vfa_ir.specs.declared.functions.Lines.{Lines}
use Rattle.vfa_ir.specs.declared.functions.Phi.{Phi}
use Rattle.vfa_ir.specs.declared.functions.Term.{Term}
use Rattle.vfa_ir.specs.declared.functions.Value.{Value}
use Rattle.vfa_ir.specs.Typed.{AreOfWidth, Converts, HasType, IsOfType, Typed, TypedBlock, TypedCall, TypedInst, TypedOp, TypedPhi, TypedTerm}
use Rattle.vfa_check.specs.First.{FailsFirst}
use Rattle.vfa_check.specs.Items.{HasItsLines, IllTypedAt, IsIllTypedOn, item_count}
use Rattle.vfa_check.proofs.Decided.{Decided, all_or_first, decided_all, decided_as, decided_both, decided_each, decided_falsity, decided_less, decided_some, fails_within}
use Rattle.vfa_check.proofs.ItemLines.{ill_typed_at, row_long, row_within}
use Rattle.vfa_check.proofs.TypedItems.{at_instruction, at_phi, at_terminator}

same_type : (a b : Ty) → Decided (a ≡ b)
same_type (Ty.Int m) (Ty.Int n) = decided_as (m ≡ n) (Ty.Int m ≡ Ty.Int n) (ap (λ (k : ℕ). Ty.Int k)) (λ e. cc) (cases_eq m n)
same_type (Ty.Int m) (Ty.Pair n) = inr (λ e. cc)
same_type (Ty.Pair m) (Ty.Int n) = inr (λ e. cc)
same_type (Ty.Pair m) (Ty.Pair n) = decided_as (m ≡ n) (Ty.Pair m ≡ Ty.Pair n) (ap (λ (k : ℕ). Ty.Pair k)) (λ e. cc) (cases_eq m n)

has_type : (f : Function) (ty : Ty) (v : ValueId) → Decided (HasType f ty v)
has_type f ty v = decided_some (λ (x : Value). x.ty ≡ ty) (λ x. same_type x.ty ty) (slice_get f.values v.0)

of_type : (f : Function) (ty : Ty) (a : Operand) → Decided (IsOfType f ty a)
of_type f ty (Operand.Value v) = has_type f ty v
of_type f ty (Operand.Literal _) = inl tt
of_type f ty Operand.Poison = inl tt

converts : (cast : Cast) (from to : ℕ) → Decided (Converts cast from to)
converts Cast.Zext from to = decided_less from to
converts Cast.Sext from to = decided_less from to
converts Cast.Trunc from to = decided_less to from

of_width : (f : Function) (width : ℕ) (a b : Operand) → Decided (AreOfWidth f width a b)
of_width f width a b =
    decided_as (IsOfType f (Ty.Int width) a × IsOfType f (Ty.Int width) b) (AreOfWidth f width a b)
    (λ h. record { first = h.0; second = h.1 }) (λ h. (h.first, h.second))
    (decided_both (IsOfType f (Ty.Int width) a) (IsOfType f (Ty.Int width) b) (of_type f (Ty.Int width) a) (of_type f (Ty.Int width) b))

typed_call : (f : Function) (call : ℕ) → Decided (TypedCall f call)
typed_call f call =
    decided_some (λ (c : CallOp). All (λ a. IsOfType f (Ty.Int a.width) a.value) c.args)
    (λ c. decided_all (λ (a : CallArg). IsOfType f (Ty.Int a.width) a.value) (λ a. of_type f (Ty.Int a.width) a.value) c.args)
    (slice_get f.calls call)

typed_op : (f : Function) (op : Op) → Decided (TypedOp f op)
typed_op f (Op.Bin _ _ width a b) = of_width f width a b
typed_op f (Op.Icmp _ _ width a b) = of_width f width a b
typed_op f (Op.Select width c a b) = decided_both (IsOfType f (Ty.Int 1) c) (AreOfWidth f width a b) (of_type f (Ty.Int 1) c) (of_width f width a b)
typed_op f (Op.Cast cast _ from to a) = decided_both (IsOfType f (Ty.Int from) a) (Converts cast from to) (of_type f (Ty.Int from) a) (converts cast from to)
typed_op f (Op.Freeze width a) = of_type f (Ty.Int width) a
typed_op f (Op.Two _ width a b) = of_width f width a b
typed_op f (Op.One _ width a _) = of_type f (Ty.Int width) a
typed_op f (Op.Over _ width a b) = of_width f width a b
typed_op f (Op.Part width pair _) = has_type f (Ty.Pair width) pair
typed_op f (Op.Assume c) = of_type f (Ty.Int 1) c
typed_op f (Op.Call _ call) = typed_call f call

typed_inst : (f : Function) (i : Inst) → Decided (TypedInst f i)
typed_inst f i = typed_op f i.op

typed_phi : (f : Function) (p : Phi) → Decided (TypedPhi f p)
typed_phi f p = decided_all (λ (e : Operand × BlockId). IsOfType f (Ty.Int p.width) e.0) (λ e. of_type f (Ty.Int p.width) e.0) p.entries

distinct : (ns : List ℕ) → Decided (IsDistinct nat_eq ns)
unfolding IsDistinct
distinct [] = inl tt
distinct (n ∷ ns) =
    decided_both (AllByRecursion (λ m. nat_eq n m ≡ false) ns) (IsDistinct nat_eq ns)
    (decided_each (λ m. nat_eq n m ≡ false) (λ m. decided_falsity (nat_eq n m)) ns) (distinct ns)

typed_term : (f : Function) (t : Term) → Decided (TypedTerm f t)
typed_term f (Term.Ret width a) = decided_both (width ≡ f.width) (IsOfType f (Ty.Int width) a) (cases_eq width f.width) (of_type f (Ty.Int width) a)
typed_term f (Term.Br _) = inl tt
typed_term f (Term.CondBr c _ _) = of_type f (Ty.Int 1) c
typed_term f (Term.Switch width on _ cases) =
    decided_both (IsOfType f (Ty.Int width) on) (IsDistinct nat_eq (map (λ (c : ℕ × BlockId). c.0) cases))
    (of_type f (Ty.Int width) on) (distinct (map (λ (c : ℕ × BlockId). c.0) cases))
typed_term f Term.Unreachable = inl tt

typed_block : (f : Function) (b : Block) → Decided (TypedBlock f b)
typed_block f b =
    decided_as (All (TypedPhi f) b.phis × (All (TypedInst f) b.insts × TypedTerm f b.term)) (TypedBlock f b)
    (λ h. record { phis = h.0; instructions = h.1.0; terminator = h.1.1 }) (λ h. (h.phis, (h.instructions, h.terminator)))
    (decided_both (All (TypedPhi f) b.phis) (All (TypedInst f) b.insts × TypedTerm f b.term) (decided_all (TypedPhi f) (typed_phi f) b.phis)
    (decided_both (All (TypedInst f) b.insts) (TypedTerm f b.term) (decided_all (TypedInst f) (typed_inst f) b.insts) (typed_term f b.term)))

-- the first ill-typed item of a block stands on one of its lines
block_or_line : (f : Function) (b : Block) (lines : List ℕ) → length lines ≡ item_count b →
    TypedBlock f b ⊎ ((line : ℕ) × IsIllTypedOn f lines line b)
block_or_line f b lines each =
    at (all_or_first (TypedPhi f) (typed_phi f) b.phis) (all_or_first (TypedInst f) (typed_inst f) b.insts) (typed_term f b.term)
  where
    at : All (TypedPhi f) b.phis ⊎ ((k : ℕ) × FailsFirst (TypedPhi f) b.phis k) →
        All (TypedInst f) b.insts ⊎ ((k : ℕ) × FailsFirst (TypedInst f) b.insts k) → Decided (TypedTerm f b.term) →
        TypedBlock f b ⊎ ((line : ℕ) × IsIllTypedOn f lines line b)
    at (inr r) _ _ =
        let within : r.0 < length b.phis = fails_within (TypedPhi f) b.phis r.0 r.1 in
        let line : ℕ = get_or lines r.0 0 in
        inr (line, at_phi f b lines r.0 line (slice_get-get_or lines r.0 0 (omega arith)) r.1)
    at (inl phis) (inr r) _ =
        let within : r.0 < length b.insts = fails_within (TypedInst f) b.insts r.0 r.1 in
        let line : ℕ = get_or lines (length b.phis + r.0) 0 in
        inr (line, at_instruction f b lines r.0 line (slice_get-get_or lines (length b.phis + r.0) 0 (omega arith)) phis r.1)
    at (inl phis) (inl insts) (inr never) =
        let line : ℕ = get_or lines (length b.phis + length b.insts) 0 in
        inr (line, at_terminator f b lines line (slice_get-get_or lines (length b.phis + length b.insts) 0 (omega arith)) phis insts never)
    at (inl phis) (inl insts) (inl term) = inl (record { phis = phis; instructions = insts; terminator = term })

ill_at : (f : Function) (lines : Lines) (k : ℕ) → HasItsLines f lines → FailsFirst (TypedBlock f) f.blocks k → (line : ℕ) × IllTypedAt f lines line
ill_at f lines k has r = at (slice_get f.blocks k) refl r.here
  where
    at : (o : Option Block) → slice_get f.blocks k ≡ o → IsSomeAnd o (λ b. TypedBlock f b → ⊥) → (line : ℕ) × IllTypedAt f lines line
    at None e never = absurd never
    at (Some b) e never =
        let row : List ℕ = get_or lines.of k [] in
        let within : k < length lines.of = row_within f lines lines.of f.blocks k has refl refl (slice_get_within f.blocks k b e) in
        let stands : slice_get lines.of k ≡ Some row = slice_get-get_or lines.of k [] within in
        elim (block_or_line f b row (row_long f lines k row b has stands e)) [
          | inl typed ↦ absurd (never typed)
          | inr ill ↦ (ill.0, ill_typed_at f lines k ill.0 row b stands e r.before ill.1)
        ]

pub typed_or_ill : (f : Function) (lines : Lines) → HasItsLines f lines → Typed f ⊎ ((line : ℕ) × IllTypedAt f lines line)
typed_or_ill f lines has = at (all_or_first (TypedBlock f) (typed_block f) f.blocks)
  where
    at : Typed f ⊎ ((k : ℕ) × FailsFirst (TypedBlock f) f.blocks k) → Typed f ⊎ ((line : ℕ) × IllTypedAt f lines line)
    at (inl typed) = inl typed
    at (inr r) = inr (ill_at f lines r.0 has r.1)
