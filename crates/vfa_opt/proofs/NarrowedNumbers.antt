-- Numbers that are printed in place of operands stay where a function is narrowed by the bits that are asked for.
use Rattle.std.specs.Prelude.{filter}
use Rattle.std.proofs.Common.{◌≡◌, ◌^◌, ◌||◌, ℕ, zero, suc, Bool, true, false, cond, nat_lt, if◌then◌else◌, Option, Some, None, List, [], ◌∷◌, map, length, slice_get, refl, sym, ap, ◌∙◌, subst, inl, inr}
use Rattle.vfa_ir.specs.declared.operations.BlockId.{BlockId}
use Rattle.vfa_ir.specs.declared.operations.Bin.{Bin}
use Rattle.vfa_ir.specs.declared.operations.Cast.{Cast}
use Rattle.vfa_ir.specs.declared.operations.Op.{Op}
use Rattle.vfa_ir.specs.declared.operations.Operand.{Operand}
use Rattle.vfa_ir.specs.declared.operations.ValueId.{ValueId}
use Rattle.vfa_ir.specs.declared.functions.Block.{Block}
use Rattle.vfa_ir.specs.declared.functions.CallOp.{CallOp}
use Rattle.vfa_ir.specs.declared.functions.Function.{Function}
use Rattle.vfa_ir.specs.declared.functions.Inst.{Inst}
use Rattle.vfa_ir.specs.declared.functions.Phi.{Phi}
use Rattle.vfa_ir.specs.declared.functions.Term.{Term}
use Rattle.vfa_ir.specs.Operands.{arguments_of, operands_of}
use Rattle.vfa_walk.specs.Stepping.{is_division}
use Rattle.vfa_demand.specs.Masks.{result_mask}
use Rattle.vfa_demand.specs.Rows.{needs_all}
use Rattle.vfa_demand.specs.Rows.{is_division as is_counted_division}
use Rattle.vfa_bits.specs.Narrowed.{Choices, block_left, has_changed, is_reached_call, is_used, left, lost_flags, narrowed_cast, new_argument, new_block, new_entry, new_line, new_phi, rewritten, stays, with_operand, with_operands, with_zeros}
use Rattle.vfa_bits.specs.Standing.{put_for, standing}
use Rattle.vfa_bits.proofs.Places.{call_at}
use Rattle.vfa_rewrite.specs.Marks.{term_operands}
use Rattle.vfa_rewrite.specs.PrintedNumbers.{IsCast, IsDivision, IsSameResult}
use Rattle.vfa_rewrite.proofs.Stepped.{BlockStep, EntryStep, KeepsLiterals, LineStep, LineSteps, PhiStep, SomeStep}
use Rattle.vfa_rewrite.proofs.SteppedNumbers.{kept_args, kept_map}

counted : (bin : Bin) → is_division bin ≡ true → is_counted_division bin ≡ true
counted Bin.Udiv e = refl
counted Bin.Sdiv e = refl
counted Bin.Urem e = refl
counted Bin.Srem e = refl
counted Bin.Add e = absurd (cc)
counted Bin.Sub e = absurd (cc)
counted Bin.Mul e = absurd (cc)
counted Bin.Shl e = absurd (cc)
counted Bin.Lshr e = absurd (cc)
counted Bin.Ashr e = absurd (cc)
counted Bin.And e = absurd (cc)
counted Bin.Or e = absurd (cc)
counted Bin.Xor e = absurd (cc)

module _ (g : Function) (masks : ℕ → ℕ) (by : Choices) (used : ℕ → Bool) where
  abbrev h : Function
  h = left used (rewritten g masks by)

  chain_literal : (n x : ℕ) → standing g masks n (Operand.Literal x) ≡ Operand.Literal x
  unfolding standing
  chain_literal zero x = refl
  chain_literal (suc n) x = refl

  put_literal : (reached : Bool) (x : ℕ) → put_for g masks reached (Operand.Literal x) ≡ Operand.Literal x
  put_literal true x = chain_literal (length g.values) x
  put_literal false x = refl

  -- the same block
  abbrev pub IsItself : ℕ → ℕ → Type 0
  IsItself q q' = q ≡ q'

  module _ (b : ℕ) where
    abbrev put : Operand → Operand
    put = put_for g masks (by.reached b)

    -- ---- operations

    abbrev made : Bool → ℕ → Op → Op
    made lost d op = with_operands put (lost_flags lost (narrowed_cast op d))

    call_stands : (width : Option ℕ) (c : ℕ) → KeepsLiterals (operands_of g (Op.Call width c)) (operands_of h (Op.Call width c))
    call_stands width c = of (slice_get g.calls c) refl
      where
        of : (q : Option CallOp) → slice_get g.calls c ≡ q → KeepsLiterals (arguments_of q) (arguments_of (slice_get h.calls c))
        of None e = λ k w x s. absurd (cc)
        of (Some call) e =
            let put' = put_for g masks (is_reached_call by c 0 g.blocks) in
            subst (λ q. KeepsLiterals (arguments_of (Some call)) (arguments_of q)) (sym (call_at g masks by c call e))
            (kept_args (new_argument put') put' (put_literal (is_reached_call by c 0 g.blocks)) (λ a. refl) call.args)

    op_stands : (lost : Bool) (d : ℕ) (op : Op) → KeepsLiterals (operands_of g op) (operands_of h (made lost d op))
    op_stands true d (Op.Bin bin flags w a c) = kept_map put (put_literal (by.reached b)) (operands_of g (Op.Bin bin flags w a c))
    op_stands false d (Op.Bin bin flags w a c) = kept_map put (put_literal (by.reached b)) (operands_of g (Op.Bin bin flags w a c))
    op_stands true d (Op.Icmp pred samesign w a c) = kept_map put (put_literal (by.reached b)) (operands_of g (Op.Icmp pred samesign w a c))
    op_stands false d (Op.Icmp pred samesign w a c) = kept_map put (put_literal (by.reached b)) (operands_of g (Op.Icmp pred samesign w a c))
    op_stands true d (Op.Select w z a c) = kept_map put (put_literal (by.reached b)) (operands_of g (Op.Select w z a c))
    op_stands false d (Op.Select w z a c) = kept_map put (put_literal (by.reached b)) (operands_of g (Op.Select w z a c))
    op_stands true d (Op.Cast Cast.Zext flags v w a) = kept_map put (put_literal (by.reached b)) (operands_of g (Op.Cast Cast.Zext flags v w a))
    op_stands false d (Op.Cast Cast.Zext flags v w a) = kept_map put (put_literal (by.reached b)) (operands_of g (Op.Cast Cast.Zext flags v w a))
    op_stands true d (Op.Cast Cast.Trunc flags v w a) = kept_map put (put_literal (by.reached b)) (operands_of g (Op.Cast Cast.Trunc flags v w a))
    op_stands false d (Op.Cast Cast.Trunc flags v w a) = kept_map put (put_literal (by.reached b)) (operands_of g (Op.Cast Cast.Trunc flags v w a))
    op_stands lost d (Op.Cast Cast.Sext flags v w a) = of lost (nat_lt d (2 ^ v))
      where
        of : (lost unseen : Bool) → KeepsLiterals (operands_of g (Op.Cast Cast.Sext flags v w a))
            (operands_of h (with_operands put (lost_flags lost (if unseen then with_zeros (Op.Cast Cast.Sext flags v w a) else Op.Cast Cast.Sext flags v w a))))
        of true true = kept_map put (put_literal (by.reached b)) (operands_of g (Op.Cast Cast.Sext flags v w a))
        of true false = kept_map put (put_literal (by.reached b)) (operands_of g (Op.Cast Cast.Sext flags v w a))
        of false true = kept_map put (put_literal (by.reached b)) (operands_of g (Op.Cast Cast.Sext flags v w a))
        of false false = kept_map put (put_literal (by.reached b)) (operands_of g (Op.Cast Cast.Sext flags v w a))
    op_stands true d (Op.Freeze w a) = kept_map put (put_literal (by.reached b)) (operands_of g (Op.Freeze w a))
    op_stands false d (Op.Freeze w a) = kept_map put (put_literal (by.reached b)) (operands_of g (Op.Freeze w a))
    op_stands true d (Op.Two fun w a c) = kept_map put (put_literal (by.reached b)) (operands_of g (Op.Two fun w a c))
    op_stands false d (Op.Two fun w a c) = kept_map put (put_literal (by.reached b)) (operands_of g (Op.Two fun w a c))
    op_stands true d (Op.One fun w a strict) = kept_map put (put_literal (by.reached b)) (operands_of g (Op.One fun w a strict))
    op_stands false d (Op.One fun w a strict) = kept_map put (put_literal (by.reached b)) (operands_of g (Op.One fun w a strict))
    op_stands true d (Op.Over over w a c) = kept_map put (put_literal (by.reached b)) (operands_of g (Op.Over over w a c))
    op_stands false d (Op.Over over w a c) = kept_map put (put_literal (by.reached b)) (operands_of g (Op.Over over w a c))
    op_stands true d (Op.Part w pair index) = λ k u x e. e
    op_stands false d (Op.Part w pair index) = λ k u x e. e
    op_stands true d (Op.Assume c) = kept_map put (put_literal (by.reached b)) (operands_of g (Op.Assume c))
    op_stands false d (Op.Assume c) = kept_map put (put_literal (by.reached b)) (operands_of g (Op.Assume c))
    op_stands true d (Op.Call width c) = call_stands width c
    op_stands false d (Op.Call width c) = call_stands width c

    -- a cast other than `sext` is the same cast
    cast_stands : (cast : Cast) (v w : ℕ) → (cast ≡ Cast.Sext → ⊥) → (lost : Bool) (d : ℕ) (op : Op) → IsCast cast v w op → IsCast cast v w (made lost d op)
    cast_stands cast v w other true d (Op.Cast Cast.Zext flags from to a) is = is
    cast_stands cast v w other false d (Op.Cast Cast.Zext flags from to a) is = is
    cast_stands cast v w other true d (Op.Cast Cast.Trunc flags from to a) is = is
    cast_stands cast v w other false d (Op.Cast Cast.Trunc flags from to a) is = is
    cast_stands cast v w other lost d (Op.Cast Cast.Sext flags from to a) is = absurd (other (sym is.0))
    cast_stands cast v w other lost d (Op.Bin bin flags u a c) is = absurd is
    cast_stands cast v w other lost d (Op.Icmp pred samesign u a c) is = absurd is
    cast_stands cast v w other lost d (Op.Select u z a c) is = absurd is
    cast_stands cast v w other lost d (Op.Freeze u a) is = absurd is
    cast_stands cast v w other lost d (Op.Two fun u a c) is = absurd is
    cast_stands cast v w other lost d (Op.One fun u a strict) is = absurd is
    cast_stands cast v w other lost d (Op.Over over u a c) is = absurd is
    cast_stands cast v w other lost d (Op.Part u pair index) is = absurd is
    cast_stands cast v w other lost d (Op.Assume c) is = absurd is
    cast_stands cast v w other lost d (Op.Call width c) is = absurd is

    -- a division is the same division, and stays
    record Divides (w : ℕ) (op : Op) : Type 0 where
      same : IsDivision w op
      needed : needs_all op ≡ true

    division_stands : (w : ℕ) (lost : Bool) (d : ℕ) (op : Op) → IsDivision w op → Divides w (made lost d op)
    division_stands w true d (Op.Bin bin flags u a c) is = record { same = is; needed = counted bin is.0 }
    division_stands w false d (Op.Bin bin flags u a c) is = record { same = is; needed = counted bin is.0 }
    division_stands w lost d (Op.Icmp pred samesign u a c) is = absurd is
    division_stands w lost d (Op.Select u z a c) is = absurd is
    division_stands w lost d (Op.Cast cast flags from to a) is = absurd is
    division_stands w lost d (Op.Freeze u a) is = absurd is
    division_stands w lost d (Op.Two fun u a c) is = absurd is
    division_stands w lost d (Op.One fun u a strict) is = absurd is
    division_stands w lost d (Op.Over over u a c) is = absurd is
    division_stands w lost d (Op.Part u pair index) is = absurd is
    division_stands w lost d (Op.Assume c) is = absurd is
    division_stands w lost d (Op.Call width c) is = absurd is

    -- ---- lines

    same_result : (o : Option ValueId) → IsSameResult g h o o
    same_result None = tt
    same_result (Some v) = refl

    trunc_is_no_sext : Cast.Trunc ≡ Cast.Sext → ⊥
    trunc_is_no_sext e = cc

    zext_is_no_sext : Cast.Zext ≡ Cast.Sext → ⊥
    zext_is_no_sext e = cc

    line_stands : (i : Inst) → LineStep g h i (new_line g masks by b i)
    line_stands i =
        let lost = has_changed g by.changed i.op in
        let d = result_mask masks i in
        record {
          result = same_result i.result;
          literals = op_stands lost d i.op;
          truncates = λ w v. cast_stands Cast.Trunc w v trunc_is_no_sext lost d i.op;
          extends = λ v w. cast_stands Cast.Zext v w zext_is_no_sext lost d i.op;
          divides = λ w is. (division_stands w lost d i.op is).same;
        }

    neither : (a c : Bool) → (a || c) ≡ false → a ≡ true → ⊥
    neither true c e s = cc
    neither false c e s = cc

    lines_stand : (insts : List Inst) → LineSteps g h insts (filter (stays used) (map (new_line g masks by b) insts))
    lines_stand [] = refl
    lines_stand (i ∷ rest) = of (stays used (new_line g masks by b i)) refl (lines_stand rest)
      where
        of : (t : Bool) → stays used (new_line g masks by b i) ≡ t → LineSteps g h rest (filter (stays used) (map (new_line g masks by b) rest)) → LineSteps g h (i ∷ rest)
            (cond t (new_line g masks by b i ∷ filter (stays used) (map (new_line g masks by b) rest)) (filter (stays used) (map (new_line g masks by b) rest)))
        of true e later = inr (record {
          first = new_line g masks by b i;
          rest = filter (stays used) (map (new_line g masks by b) rest);
          are = refl;
          step = line_stands i;
          later = later;
        })
        of false e later = inl (
          λ w is. neither (needs_all (new_line g masks by b i).op) (is_used used i.result) e (division_stands w (has_changed g by.changed i.op) (result_mask masks i) i.op is).needed,
          later,
        )

    -- ---- terminators

    term_none : (term : Term) → term_operands term ≡ [] → term_operands (with_operand put term) ≡ []
    term_none (Term.Ret w a) e = absurd (cc)
    term_none (Term.Br to) e = refl
    term_none (Term.CondBr c taken fallen) e = absurd (cc)
    term_none (Term.Switch w on other cases) e = absurd (cc)
    term_none Term.Unreachable e = refl

    term_stands : (term : Term) → KeepsLiterals (term_operands term) (term_operands (with_operand put term))
    term_stands (Term.Ret w a) = kept_map put (put_literal (by.reached b)) (term_operands (Term.Ret w a))
    term_stands (Term.Br to) = kept_map put (put_literal (by.reached b)) []
    term_stands (Term.CondBr c taken fallen) = kept_map put (put_literal (by.reached b)) (term_operands (Term.CondBr c taken fallen))
    term_stands (Term.Switch w on other cases) = kept_map put (put_literal (by.reached b)) (term_operands (Term.Switch w on other cases))
    term_stands Term.Unreachable = kept_map put (put_literal (by.reached b)) []

  -- ---- phis

  entries_stand : (es : List (Operand × BlockId)) → SomeStep (EntryStep IsItself) es (map (new_entry g masks by) es)
  entries_stand [] = refl
  entries_stand (e ∷ es) = inr (record {
    first = new_entry g masks by e;
    rest = map (new_entry g masks by) es;
    are = refl;
    step = record { from = refl; literal = λ x is. ap (put_for g masks (by.reached e.1.0)) is ∙ put_literal (by.reached e.1.0) x };
    later = entries_stand es;
  })

  phis_stand : (phis : List Phi) → SomeStep (PhiStep g h IsItself) phis (filter (λ (p : Phi). used p.result.0) (map (new_phi g masks by) phis))
  phis_stand [] = refl
  phis_stand (p ∷ phis) = of (used p.result.0) (phis_stand phis)
    where
      of : (t : Bool) → SomeStep (PhiStep g h IsItself) phis (filter (λ (p : Phi). used p.result.0) (map (new_phi g masks by) phis)) → SomeStep (PhiStep g h IsItself) (p ∷ phis)
          (cond t (new_phi g masks by p ∷ filter (λ (p : Phi). used p.result.0) (map (new_phi g masks by) phis)) (filter (λ (p : Phi). used p.result.0) (map (new_phi g masks by) phis)))
      of true later = inr (record {
        first = new_phi g masks by p;
        rest = filter (λ (p : Phi). used p.result.0) (map (new_phi g masks by) phis);
        are = refl;
        step = record { result = refl; width = refl; entries = entries_stand p.entries };
        later = later;
      })
      of false later = inl later

  -- ---- blocks

  pub narrowed_stands : (b : ℕ) (block : Block) → BlockStep g h IsItself block (block_left used (new_block g masks by b block))
  narrowed_stands b block = record {
    name = refl;
    phis = phis_stand block.phis;
    insts = lines_stand b block.insts;
    none = term_none b block.term;
    literals = term_stands b block.term;
  }
