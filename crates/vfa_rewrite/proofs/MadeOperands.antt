-- What is put in place of an operand is what it becomes.
use Rattle.std.proofs.Common.{◌≡◌, ◌<◌, ◌^◌, ℕ, true, false, All, Option, Some, None, List, [], ◌∷◌, flat_map, map, length, slice_get, IsSomeAnd, refl, sym, ap, ◌∙◌, subst, inl, inr}
use Rattle.std.proofs.lemmas.Bool.{cases_Bool}
use Rattle.std.proofs.lemmas.List.Elements.{All-head, All-tail}
use Rattle.std.specs.List.{AllByRecursion}
use Rattle.vfa_ir.specs.declared.operations.BlockId.{BlockId}
use Rattle.vfa_ir.specs.declared.operations.Op.{Op}
use Rattle.vfa_ir.specs.declared.operations.Operand.{Operand}
use Rattle.vfa_ir.specs.declared.operations.Ty.{Ty}
use Rattle.vfa_ir.specs.declared.functions.Block.{Block}
use Rattle.vfa_ir.specs.declared.functions.CallArg.{CallArg}
use Rattle.vfa_ir.specs.declared.functions.CallOp.{CallOp}
use Rattle.vfa_ir.specs.declared.functions.Function.{Function}
use Rattle.vfa_ir.specs.declared.functions.Inst.{Inst}
use Rattle.vfa_ir.specs.declared.functions.Phi.{Phi}
use Rattle.vfa_ir.specs.declared.functions.Term.{Term}
use Rattle.vfa_ir.specs.Defined.{Defined, operand_names, op_names, term_names}
use Rattle.vfa_ir.specs.Operands.{operands_of, arguments_of}
use Rattle.vfa_ir.specs.PhisFit.{PhisFit}
use Rattle.vfa_ir.specs.Printable.{IsPrintable, IsOperand, PrintableBlock, PrintableTerm, PrintableArgument, PrintableCall}
use Rattle.vfa_ir.specs.Typed.{Typed, TypedOp, TypedBlock, TypedTerm, IsOfType}
use Rattle.vfa_ir.specs.Walks.{IsReached}
use Rattle.vfa_ir.specs.Words.{is_in}
use Rattle.vfa_word.specs.Numbers.{IsWidth}
use Rattle.vfa_mean.specs.FreshOperands.{IsDefinedAtPlace}
use Rattle.vfa_mean.specs.Moments.{Place, Into, At, IsLine, is_call}
use Rattle.vfa_mean.specs.Outcomes.{type_of}
use Rattle.vfa_mean.proofs.FreshOperands.Definitions.{in_left, in_right}
use Rattle.vfa_mean.proofs.FreshOperands.Walking.{use_is_defined}
use Rattle.vfa_cond.proofs.Fitting.{bit_width}
use Rattle.vfa_walk.proofs.TruthTypes.{written_width, each_of, line_is_typed}
use Rattle.vfa_rewrite.specs.Chains.{becoming, IsWalkedTo}
use Rattle.vfa_rewrite.specs.Findings.{Findings, IsUsable, AreUsable, operation_of, AreFitting}
use Rattle.vfa_rewrite.specs.Making.{put_at}
use Rattle.vfa_rewrite.specs.Marks.{Becomes, IsPut, term_operands}
use Rattle.vfa_rewrite.proofs.Chains.{chain_ends}
use Rattle.vfa_rewrite.proofs.KeptNames.{changed_plain}
use Rattle.vfa_rewrite.proofs.Lines.{call_tells}
use Rattle.vfa_rewrite.proofs.MarkedBlocks.{entry_usable, term_defined}
use Rattle.vfa_rewrite.proofs.MarkedLines.{names_in, usable_operand}
use Rattle.vfa_rewrite.proofs.Ranges.{typed_value}

-- what is known of the function and of what was found out: a number and poison become themselves
pub record IsGround (f : Function) (found : Findings) : Type 0 where
  pub printable : IsPrintable f
  pub typed : Typed f
  pub phis : PhisFit f
  pub defined : Defined f
  pub fits : AreFitting f found
  pub literal : (place : Place) (w x : ℕ) → IsWidth w → x < 2 ^ w → Becomes f found place (Ty.Int w) (Operand.Literal x) (Operand.Literal x)
  pub poison : (place : Place) (w : ℕ) → Becomes f found place (Ty.Int w) Operand.Poison Operand.Poison

module _ (f : Function) (found : Findings) (ground : IsGround f found) where
  put_becomes : (place : Place) (w : ℕ) (a : Operand) → IsWalkedTo f place → IsUsable f place (Ty.Int w) a → Becomes f found place (Ty.Int w) a (put_at f found place a)
  put_becomes place w (Operand.Value n) walked usable =
      let type : type_of f n ≡ Ty.Int w = (typed_value f (Ty.Int w) n usable.typed).typed in
      subst (λ ty. Becomes f found place (Ty.Int w) (Operand.Value n) (becoming f found place ty (length f.values) (Operand.Value n))) (sym type)
      (chain_ends f ground.printable ground.defined found ground.fits place (Ty.Int w) (Operand.Value n) walked usable)
  put_becomes place w (Operand.Literal x) walked usable = ground.literal place w x usable.is_type usable.typed
  put_becomes place w Operand.Poison walked usable = ground.poison place w

  module _ (b i : ℕ) (walked : IsReached f b) where
    abbrev ArePut : List (Ty × Operand) → Type 0
    ArePut operands = AllByRecursion (IsPut f found (At b i) (put_at f found (At b i))) operands

    one_put : (w : ℕ) (a : Operand) → IsUsable f (At b i) (Ty.Int w) a → Becomes f found (At b i) (Ty.Int w) a (put_at f found (At b i) a)
    one_put w a usable = put_becomes (At b i) w a walked usable

    two_put : (w : ℕ) (x y : Operand) → IsUsable f (At b i) (Ty.Int w) x × IsUsable f (At b i) (Ty.Int w) y → ArePut ((Ty.Int w, x) ∷ ((Ty.Int w, y) ∷ []))
    two_put w x y usable = (one_put w x usable.0, (one_put w y usable.1, tt))

    operands_put : (op : Op) → is_call op ≡ false → AreUsable f (At b i) op → ArePut (operands_of f op)
    operands_put (Op.Bin bin flags w x y) plain usable = two_put w x y usable
    operands_put (Op.Icmp pred samesign w x y) plain usable = two_put w x y usable
    operands_put (Op.Select w c x y) plain usable = (one_put 1 c usable.0, two_put w x y (usable.1, usable.2))
    operands_put (Op.Cast cast flags v w x) plain usable = (one_put v x usable, tt)
    operands_put (Op.Freeze w x) plain usable = (one_put w x usable, tt)
    operands_put (Op.Two fun w x y) plain usable = two_put w x y usable
    operands_put (Op.One fun w x strict) plain usable = (one_put w x usable, tt)
    operands_put (Op.Over over w x y) plain usable = two_put w x y usable
    operands_put (Op.Part w pair index) plain usable = (tt, tt)
    operands_put (Op.Assume c) plain usable = (one_put 1 c usable, tt)
    operands_put (Op.Call w call) plain usable = absurd (cc)

    arguments_put : (args : List CallArg) → All (λ (a : CallArg). IsOfType f (Ty.Int a.width) a.value) args → All (PrintableArgument f) args →
        ((n : ℕ) → is_in n (flat_map (λ (a : CallArg). operand_names a.value) args) ≡ true → IsDefinedAtPlace f (At b i) n) →
        ArePut (map (λ (a : CallArg). (Ty.Int a.width, a.value)) args)
    arguments_put [] of_types ranges live = tt
    arguments_put (a ∷ args) of_types ranges live =
        let names = flat_map (λ (c : CallArg). operand_names c.value) args in
        let range = All-head (PrintableArgument f) a args ranges in
        let usable = usable_operand f (At b i) a.width a.value (written_width a.width range.width) (All-head (λ (c : CallArg). IsOfType f (Ty.Int c.width) c.value) a args of_types)
        range.value (λ n t. live n (in_left n (operand_names a.value) names t)) in (
          one_put a.width a.value usable,
          arguments_put args (All-tail (λ (c : CallArg). IsOfType f (Ty.Int c.width) c.value) a args of_types) (All-tail (PrintableArgument f) a args ranges)
              (λ n t. live n (in_right n (operand_names a.value) names t)),
        )

    module _ (block : Block) (inst : Inst) (line : IsLine f b block i inst) where
      call_put : (width : Option ℕ) (k : ℕ) → inst.op ≡ Op.Call width k → (call : Option CallOp) → slice_get f.calls k ≡ call → ArePut (arguments_of call)
      call_put width k is None there = tt
      call_put width k is (Some call) there =
          let of_op = subst (TypedOp f) is (line_is_typed f ground.printable ground.typed b i block inst line).operands in
          let of_types = subst (λ c. IsSomeAnd c (λ c. All (λ a. IsOfType f (Ty.Int a.width) a.value) c.args)) there of_op in
          let uses : op_names f inst.op ≡ names_in (Some call) = ap (op_names f) is ∙ ap names_in there in
          arguments_put call.args of_types (each_of (PrintableCall f) f.calls k call ground.printable.calls there).arguments
          (λ n t. use_is_defined f b block i inst n ground.defined line (ap (is_in n) uses ∙ t))

      -- the operands of the operation that does the work of an instruction that a run may come to
      pub line_put : found.met b i ≡ true → ArePut (operands_of f (operation_of (found.change b i inst) inst.op))
      line_put met = elim (cases_Bool (is_call inst.op)) [
        | inl call ↦
            let c = call_tells inst.op call in
            let keep = ground.fits.call b block i inst line call in
            subst (λ x. ArePut (operands_of f (operation_of x inst.op))) (sym keep)
            (subst (λ op. ArePut (operands_of f op)) (sym c.is) (call_put c.width c.place c.is (slice_get f.calls c.place) refl))
        | inr plain ↦
            let change = ground.fits.change b block i inst line met plain in
            operands_put (operation_of (found.change b i inst) inst.op) (changed_plain f inst.op (found.change b i inst) change.fits plain) change.usable
      ]

  -- ---- terminators and phis

  module _ (b : ℕ) (block : Block) (there : slice_get f.blocks b ≡ Some block) where
    printed : PrintableBlock f block
    printed = each_of (PrintableBlock f) f.blocks b block ground.printable.blocks there

    of_types : TypedBlock f block
    of_types = each_of (TypedBlock f) f.blocks b block ground.typed there

    pub term_put : IsReached f b → AllByRecursion (IsPut f found (At b (length block.insts)) (put_at f found (At b (length block.insts)))) (term_operands block.term)
    term_put walked = by block.term of_types.terminator printed.term (λ n t. t)
      where
        read : (w : ℕ) (a : Operand) → IsWidth w → IsOfType f (Ty.Int w) a → IsOperand f w a → ((n : ℕ) → is_in n (operand_names a) ≡ true → is_in n (term_names block.term) ≡ true) →
            Becomes f found (At b (length block.insts)) (Ty.Int w) a (put_at f found (At b (length block.insts)) a)
        read w a width of_type range names = put_becomes (At b (length block.insts)) w a walked
            (usable_operand f (At b (length block.insts)) w a width of_type range (λ n t. term_defined f ground.defined b block there n (names n t)))

        by : (term : Term) → TypedTerm f term → PrintableTerm f term → ((n : ℕ) → is_in n (term_names term) ≡ true → is_in n (term_names block.term) ≡ true) →
            AllByRecursion (IsPut f found (At b (length block.insts)) (put_at f found (At b (length block.insts)))) (term_operands term)
        by (Term.Ret w a) of_type range names = (read w a (written_width w range.0) of_type.1 range.1 names, tt)
        by (Term.Br to) of_type range names = tt
        by (Term.CondBr c taken fallen) of_type range names = (read 1 c bit_width of_type range.0 names, tt)
        by (Term.Switch w on other cases) of_type range names = (read w on (written_width w range.0) of_type.0 range.1 names, tt)
        by Term.Unreachable of_type range names = tt

    -- an entry of a predecessor that some walk comes to
    pub entry_put : (j k : ℕ) (phi : Phi) (e : Operand × BlockId) → slice_get block.phis j ≡ Some phi → slice_get phi.entries k ≡ Some e → IsReached f e.1.0 →
        Becomes f found (Into (Some e.1.0) b) (Ty.Int phi.width) e.0 (put_at f found (Into (Some e.1.0) b) e.0)
    entry_put j k phi e phi_at entry_at walked =
        put_becomes (Into (Some e.1.0) b) phi.width e.0 walked (entry_usable f ground.printable ground.typed ground.defined b block there j k phi e phi_at entry_at)
