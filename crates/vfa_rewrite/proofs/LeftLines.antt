-- What is left of an instruction: one line that does an operation, or those of a division at a lesser width.
use Rattle.std.proofs.Common.{◌≡◌, ◌<◌, ℕ, ◌+◌, ◌*◌, ◌++◌, true, false, Option, Some, None, List, [], ◌∷◌, All, flat_map, map, length, slice_get, IsSomeAnd, refl, sym, ap, ◌∙◌, subst, inl, inr}
use Rattle.std.proofs.lemmas.Bool.{cases_Bool}
use Rattle.std.proofs.lemmas.List.Elements.{All-from_recursion, recursion_from_All}
use Rattle.std.specs.List.{AllByRecursion}
use Rattle.vfa_ir.specs.declared.operations.Bin.{Bin}
use Rattle.vfa_ir.specs.declared.operations.Flags.{Flags}
use Rattle.vfa_ir.specs.declared.operations.Op.{Op}
use Rattle.vfa_ir.specs.declared.operations.Operand.{Operand}
use Rattle.vfa_ir.specs.declared.operations.Ty.{Ty}
use Rattle.vfa_ir.specs.declared.operations.ValueId.{ValueId}
use Rattle.vfa_ir.specs.declared.functions.Block.{Block}
use Rattle.vfa_ir.specs.declared.functions.CallArg.{CallArg}
use Rattle.vfa_ir.specs.declared.functions.CallOp.{CallOp}
use Rattle.vfa_ir.specs.declared.functions.Function.{Function}
use Rattle.vfa_ir.specs.declared.functions.Inst.{Inst}
use Rattle.vfa_ir.specs.Defined.{Defined, operand_names, op_names}
use Rattle.vfa_ir.specs.Operands.{operands_of, arguments_of}
use Rattle.vfa_ir.specs.PhisFit.{PhisFit}
use Rattle.vfa_ir.specs.Printable.{IsPrintable, HasItsFlags, HasItsResult, PrintableOp, PrintableInst, PrintableBlock, PrintableArgument, PrintableCall, op_type, call_place}
use Rattle.vfa_ir.specs.Typed.{Typed, TypedOp, IsOfType}
use Rattle.vfa_ir.specs.Walks.{IsDefinedAt}
use Rattle.vfa_ir.specs.Words.{is_in}
use Rattle.vfa_word.specs.Numbers.{IsWidth}
use Rattle.vfa_mean.specs.FreshOperands.{IsDefinedAtPlace}
use Rattle.vfa_mean.specs.Moments.{At, is_call}
use Rattle.vfa_mean.specs.Operands.{IsOperation}
use Rattle.vfa_mean.proofs.FreshOperands.Definitions.{in_left, in_right, in_cases}
use Rattle.vfa_mean.proofs.FreshOperands.Walking.{use_is_defined}
use Rattle.vfa_cond.specs.Conditions.{name_type}
use Rattle.vfa_walk.proofs.TruthTypes.{written_width, each_of, line_is_typed, is_operation}
use Rattle.vfa_rules.specs.declared.change.Change.{Change}
use Rattle.vfa_rewrite.specs.Findings.{Findings, IsUsable, AreUsable, operation_of, IsFitting, ChangeFits, AreFitting}
use Rattle.vfa_rewrite.specs.Marks.{Becomes, IsPut, IsGone, HasEffect, IsLeftLine, UsesName, by_effect, by_line, LineIsMarked, BlockIsMarked, AreMarks}
use Rattle.vfa_rewrite.specs.Rewritten.{Marks, with_operands, line_of, narrowed, argument_left, call_left, changed_by, changed, rewritten}
use Rattle.vfa_rewrite.proofs.FreshNames.{fresh_typed}
use Rattle.vfa_rewrite.proofs.Left.{made_at}
use Rattle.vfa_rewrite.proofs.Lines.{call_tells}
use Rattle.vfa_rewrite.proofs.MarkedLines.{names_in, usable_operand, operation_plain, assume_has_no_result, kept_result}
use Rattle.vfa_rewrite.proofs.PutOperands.{becomes_usable, put_usable, operand_left_typed, operand_left_range, usable_typed, usable_printable, name_defined, names_defined, put_type, put_operation, put_place, put_result, plain_place}

-- names that narrowing adds for an instruction that gives a name, at the lesser width v
pub record AreFreshFor (f : Function) (m : Marks) (b i name v : ℕ) : Type 0 where
  pub is : (k : ℕ) → m.fresh b i k ≡ length f.values + 3 * name + k
  pub typed : (k : ℕ) → k < 3 → name_type (rewritten f m) (m.fresh b i k) ≡ Ty.Int v

-- what is known of the function, of what was found out, and of the marks
pub record Known (f : Function) (found : Findings) (m : Marks) : Type 0 where
  pub printable : IsPrintable f
  pub typed : Typed f
  pub phis : PhisFit f
  pub defined : Defined f
  pub fits : AreFitting f found
  pub marks : AreMarks f found m

abbrev names_of_args : List CallArg → List ℕ
names_of_args args = flat_map (λ (a : CallArg). operand_names a.value) args

module _ (f : Function) (found : Findings) (m : Marks) (known : Known f found m) (b : ℕ) (block : Block) (i : ℕ) (inst : Inst) (left : IsLeftLine f m b block i inst) where
  pub own_marks : BlockIsMarked f found m b block
  own_marks = known.marks.blocks b block left.line.there left.reached

  pub marked : LineIsMarked f found m b i inst
  marked = own_marks.lines i inst left.line.stands left.met

  is_met : found.met b i ≡ true
  is_met = sym (known.marks.met b i) ∙ left.met

  old_inst : PrintableInst f inst
  old_inst = each_of (PrintableInst f) block.insts i inst (each_of (PrintableBlock f) f.blocks b block known.printable.blocks left.line.there).insts left.line.stands

  -- what a line that stays uses is kept
  pub used_kept : m.stays b i ≡ true → (n : ℕ) → UsesName f found m b i inst n → m.keeps n ≡ true
  used_kept stays n uses = elim (marked.stays.0 stays) [
    | inl must ↦ (known.marks.keeps n).1 (by_effect b block i inst n left must uses)
    | inr kept ↦
        let k = kept_result m inst.result kept in
        (known.marks.keeps n).1 (by_line b block i inst k.name n left k.is ((known.marks.keeps k.name.0).0 k.kept) uses)
  ]

  -- a line in its place; what it uses is kept, and defined where the instruction is
  pub record IsLineFor (op : Op) : Type 0 where
    pub typed : TypedOp (rewritten f m) op
    pub printable : PrintableOp (rewritten f m) op
    pub type : op_type op ≡ op_type inst.op
    pub result : HasItsResult op inst.result
    pub place : call_place op ≡ call_place inst.op
    pub names : (x : ℕ) → is_in x (op_names (rewritten f m) op) ≡ true → (m.keeps x ≡ true) × IsDefinedAt f b i x

  -- a division that is narrowed
  pub record IsDivisionFor (bin : Bin) (flags : Flags) (w v : ℕ) (x y : Operand) : Type 0 where
    pub name : ValueId
    pub result : inst.result ≡ Some name
    pub type : op_type inst.op ≡ Ty.Int w
    pub width : IsWidth w
    pub lesser : IsWidth v
    pub less : v < w
    pub flags_fit : HasItsFlags bin flags
    pub first : IsUsable f (At b i) (Ty.Int w) x
    pub second : IsUsable f (At b i) (Ty.Int w) y
    pub names : (u : ℕ) → is_in u (operand_names x ++ operand_names y) ≡ true → (m.keeps u ≡ true) × IsDefinedAt f b i u
    pub fresh : AreFreshFor f m b i name.0 v

  pub data Form : List Inst → Type 0 where
    one : (op : Op) → IsLineFor op → Form (line_of inst.result op ∷ [])
    division : (bin : Bin) (flags : Flags) (w v : ℕ) (x y : Operand) → IsDivisionFor bin flags w v x y →
        Form (narrowed (m.fresh b i) v inst.result (Op.Bin bin flags w x y))

  -- ---- operations

  module _ (stays : m.stays b i ≡ true) where
    module _ (plain : is_call inst.op ≡ false) where
      change_fits : ChangeFits f (At b i) inst.op (found.change b i inst)
      change_fits = known.fits.change b block i inst left.line is_met plain

      change_prints : PrintableInst f (line_of inst.result (operation_of (found.change b i inst) inst.op))
      change_prints = known.fits.prints b block i inst left.line is_met plain

      abbrev OperandsPut : Op → Type 0
      OperandsPut op = AllByRecursion (IsPut f found (At b i) (m.put (At b i))) (operands_of f op)

      operation_left : (op : Op) → operation_of (found.change b i inst) inst.op ≡ op → IsOperation op → op_type op ≡ op_type inst.op → AreUsable f (At b i) op →
          PrintableInst f (line_of inst.result op) → IsLineFor (with_operands (m.put (At b i)) op)
      operation_left op same is type usable prints =
          let operands : OperandsPut op = subst (λ o. AllByRecursion (IsPut f found (At b i) (m.put (At b i))) (operands_of f o)) same marked.operands in
          let usable' = put_usable f known.printable known.defined found known.fits (At b i) (m.put (At b i)) op usable operands in
          let is' = put_operation (m.put (At b i)) op is in
          record {
            typed = usable_typed f m (At b i) (with_operands (m.put (At b i)) op) is' usable';
            printable = usable_printable f m (At b i) (m.put (At b i)) op is prints.op usable';
            type = put_type (m.put (At b i)) op ∙ type;
            result = put_result (m.put (At b i)) op inst.result prints.result;
            place = put_place (m.put (At b i)) op ∙ plain_place op (operation_plain op is) ∙ sym (plain_place inst.op plain);
            names = λ x t. (
              used_kept stays x (subst (λ o. is_in x (op_names (rewritten f m) (with_operands (m.put (At b i)) o)) ≡ true) (sym same) t),
              names_defined f m (At b i) (with_operands (m.put (At b i)) op) x is' usable' t,
            );
          }

      some_name : (r : Option ValueId) (bin : Bin) (flags : Flags) (w : ℕ) (x y : Operand) → HasItsResult (Op.Bin bin flags w x y) r → (name : ValueId) × (r ≡ Some name)
      some_name None bin flags w x y h = absurd h
      some_name (Some name) bin flags w x y h = (name, refl)

      division_left : (bin : Bin) (flags : Flags) (w : ℕ) (x y : Operand) (v : ℕ) → found.change b i inst ≡ Change.Narrow (Op.Bin bin flags w x y) v →
          Form (narrowed (m.fresh b i) v inst.result (Op.Bin bin flags w (m.put (At b i) x) (m.put (At b i) y)))
      division_left bin flags w x y v e =
          let holding = subst (λ c. ChangeFits f (At b i) inst.op c) e change_fits in
          let prints = subst (λ c. PrintableInst f (line_of inst.result (operation_of c inst.op))) e change_prints in
          let operands = subst (λ c. AllByRecursion (IsPut f found (At b i) (m.put (At b i))) (operands_of f (operation_of c inst.op))) e marked.operands in
          let usable' = put_usable f known.printable known.defined found known.fits (At b i) (m.put (At b i)) (Op.Bin bin flags w x y) holding.usable operands in
          let named = some_name inst.result bin flags w x y prints.result in
          division bin flags w v (m.put (At b i) x) (m.put (At b i) y) (record {
            name = named.0;
            result = named.1;
            type = holding.fits.0;
            width = holding.fits.1;
            lesser = holding.fits.2;
            less = holding.fits.3;
            flags_fit = prints.op.0;
            first = usable'.0;
            second = usable'.1;
            names = λ u t. (
              used_kept stays u (subst (λ c. is_in u (op_names (rewritten f m) (with_operands (m.put (At b i)) (operation_of c inst.op))) ≡ true) (sym e) t),
              names_defined f m (At b i) (Op.Bin bin flags w (m.put (At b i) x) (m.put (At b i) y)) u holding.fits.1 usable' t,
            );
            fresh = record {
              is = (own_marks.fresh i inst named.0 (Op.Bin bin flags w x y) v left.line.stands left.met named.1 e).fresh;
              typed = fresh_typed f known.printable found m known.marks b block i inst left named.0 named.1 (Op.Bin bin flags w x y) v e;
            };
          })

      unfit : {X : Type 0} (op : Op) (v : ℕ) → found.change b i inst ≡ Change.Narrow op v → (IsFitting f inst.op (Change.Narrow op v) → ⊥) → X
      unfit op v e h = absurd (h (subst (λ c. ChangeFits f (At b i) inst.op c) e change_fits).fits)

      kept_left : (op : Op) → found.change b i inst ≡ Change.Keep op → Form (line_of inst.result (with_operands (m.put (At b i)) op) ∷ [])
      kept_left op e =
          let holding = subst (λ c. ChangeFits f (At b i) inst.op c) e change_fits in
          let prints = subst (λ c. PrintableInst f (line_of inst.result (operation_of c inst.op))) e change_prints in
          one (with_operands (m.put (At b i)) op) (operation_left op (ap (λ c. operation_of c inst.op) e) holding.fits.1 holding.fits.0 holding.usable prints)

      replaced_left : (u : Operand) → found.change b i inst ≡ Change.Uses u → Form (line_of inst.result (with_operands (m.put (At b i)) inst.op) ∷ [])
      replaced_left u e =
          let holding = subst (λ c. ChangeFits f (At b i) inst.op c) e change_fits in
          let is = is_operation f inst.op plain (line_is_typed f known.printable known.typed b i block inst left.line) in
          one (with_operands (m.put (At b i)) inst.op) (operation_left inst.op (ap (λ c. operation_of c inst.op) e) is refl holding.usable old_inst)

      gone_left : found.change b i inst ≡ Change.Gone → Form []
      gone_left e = absurd (elim (marked.stays.0 stays) [
        | inl must ↦ must.left (subst IsGone (sym e) tt)
        | inr kept ↦
            let holding = subst (λ c. ChangeFits f (At b i) inst.op c) e change_fits in
            assume_has_no_result m inst.op inst.result holding.fits old_inst.result kept
      ])

      form_of : (c : Change) → found.change b i inst ≡ c → Form (changed_by c m b i inst)
      form_of (Change.Keep op) e = kept_left op e
      form_of (Change.Uses u) e = replaced_left u e
      form_of Change.Gone e = gone_left e
      form_of (Change.Narrow (Op.Bin bin flags w x y) v) e = division_left bin flags w x y v e
      form_of (Change.Narrow (Op.Icmp pred samesign w x y) v) e = unfit (Op.Icmp pred samesign w x y) v e (λ h. h)
      form_of (Change.Narrow (Op.Select w z x y) v) e = unfit (Op.Select w z x y) v e (λ h. h)
      form_of (Change.Narrow (Op.Cast cast flags u w x) v) e = unfit (Op.Cast cast flags u w x) v e (λ h. h)
      form_of (Change.Narrow (Op.Freeze w x) v) e = unfit (Op.Freeze w x) v e (λ h. h)
      form_of (Change.Narrow (Op.Two fun w x y) v) e = unfit (Op.Two fun w x y) v e (λ h. h)
      form_of (Change.Narrow (Op.One fun w x strict) v) e = unfit (Op.One fun w x strict) v e (λ h. h)
      form_of (Change.Narrow (Op.Over over w x y) v) e = unfit (Op.Over over w x y) v e (λ h. h)
      form_of (Change.Narrow (Op.Part w pair index) v) e = unfit (Op.Part w pair index) v e (λ h. h)
      form_of (Change.Narrow (Op.Assume z) v) e = unfit (Op.Assume z) v e (λ h. h)
      form_of (Change.Narrow (Op.Call w call) v) e = unfit (Op.Call w call) v e (λ h. h)

  -- ---- calls

  module _ (width : Option ℕ) (k : ℕ) (is : inst.op ≡ Op.Call width k) where
    keep : found.change b i inst ≡ Change.Keep inst.op
    keep = known.fits.call b block i inst left.line (ap is_call is)

    call_stays : m.stays b i ≡ true
    call_stays = marked.stays.1 (inl (record {
      effect = subst (λ op. HasEffect op (found.may_be_undefined b i inst)) (sym is) tt;
      left = λ g. subst IsGone keep g;
    }))

    args_usable : (args : List CallArg) → AllByRecursion (λ (a : CallArg). IsOfType f (Ty.Int a.width) a.value) args → AllByRecursion (PrintableArgument f) args →
        ((n : ℕ) → is_in n (flat_map (λ (a : CallArg). operand_names a.value) args) ≡ true → IsDefinedAtPlace f (At b i) n) →
        AllByRecursion (IsPut f found (At b i) (m.put (At b i))) (map (λ (a : CallArg). (Ty.Int a.width, a.value)) args) →
        AllByRecursion (λ (a : CallArg). IsUsable f (At b i) (Ty.Int a.width) (m.put_call k a.value)) args
    args_usable [] of_types ranges live operands = tt
    args_usable (a ∷ args) of_types ranges live operands =
        let names = names_of_args args in
        let usable = usable_operand f (At b i) a.width a.value (written_width a.width ranges.0.width) of_types.0 ranges.0.value (λ n t. live n (in_left n (operand_names a.value) names t)) in
        let same = marked.arguments width k is a.value in (
          becomes_usable f known.printable known.defined found known.fits (At b i) (Ty.Int a.width) a.value (m.put_call k a.value)
              (subst (λ c. Becomes f found (At b i) (Ty.Int a.width) a.value c) (sym same) operands.0) usable,
          args_usable args of_types.1 ranges.1 (λ n t. live n (in_right n (operand_names a.value) names t)) operands.1,
        )

    module _ (call : CallOp) (there : slice_get f.calls k ≡ Some call) where
      old_call : PrintableCall f call
      old_call = each_of (PrintableCall f) f.calls k call known.printable.calls there

      pub call_usable : AllByRecursion (λ (a : CallArg). IsUsable f (At b i) (Ty.Int a.width) (m.put_call k a.value)) call.args
      call_usable =
          let of_op = subst (TypedOp f) is (line_is_typed f known.printable known.typed b i block inst left.line).operands in
          let of_types = subst (λ c. IsSomeAnd c (λ c. All (λ a. IsOfType f (Ty.Int a.width) a.value) c.args)) there of_op in
          let uses : op_names f inst.op ≡ names_in (Some call) = ap (op_names f) is ∙ ap names_in there in
          let operands = subst (λ c. AllByRecursion (IsPut f found (At b i) (m.put (At b i))) (arguments_of c)) there
          (subst (λ op. AllByRecursion (IsPut f found (At b i) (m.put (At b i))) (operands_of f op)) is
          (subst (λ c. AllByRecursion (IsPut f found (At b i) (m.put (At b i))) (operands_of f (operation_of c inst.op))) keep marked.operands)) in
          args_usable call.args (recursion_from_All (λ (a : CallArg). IsOfType f (Ty.Int a.width) a.value) call.args of_types)
          (recursion_from_All (PrintableArgument f) call.args old_call.arguments)
          (λ n t. use_is_defined f b block i inst n known.defined left.line (ap (is_in n) uses ∙ t)) operands

      there_left : slice_get (rewritten f m).calls k ≡ Some (call_left m k call)
      there_left = made_at (call_left m) f.calls k call there

      args_typed : (args : List CallArg) → AllByRecursion (λ (a : CallArg). IsUsable f (At b i) (Ty.Int a.width) (m.put_call k a.value)) args →
          AllByRecursion (λ (a : CallArg). IsOfType (rewritten f m) (Ty.Int a.width) a.value) (map (argument_left (m.put_call k)) args)
      args_typed [] u = tt
      args_typed (a ∷ args) u = (operand_left_typed f m (Ty.Int a.width) (m.put_call k a.value) u.0.typed, args_typed args u.1)

      args_printable : (args : List CallArg) → AllByRecursion (PrintableArgument f) args → AllByRecursion (λ (a : CallArg). IsUsable f (At b i) (Ty.Int a.width) (m.put_call k a.value)) args →
          AllByRecursion (PrintableArgument (rewritten f m)) (map (argument_left (m.put_call k)) args)
      args_printable [] r u = tt
      args_printable (a ∷ args) r u = (record { width = r.0.width; words = r.0.words; value = operand_left_range f m a.width (m.put_call k a.value) u.0.typed }, args_printable args r.1 u.1)

      args_live : (args : List CallArg) (x : ℕ) → AllByRecursion (λ (a : CallArg). IsUsable f (At b i) (Ty.Int a.width) (m.put_call k a.value)) args →
          is_in x (flat_map (λ (a : CallArg). operand_names a.value) (map (argument_left (m.put_call k)) args)) ≡ true → IsDefinedAt f b i x
      args_live [] x u t = absurd (cc)
      args_live (a ∷ args) x u t = elim (in_cases x (operand_names (m.put_call k a.value)) (names_of_args (map (argument_left (m.put_call k)) args)) t) [
        | inl l ↦ name_defined f m (At b i) (Ty.Int a.width) (m.put_call k a.value) x u.0 l
        | inr r ↦ args_live args x u.1 r
      ]

      pub call_left_printable : PrintableCall (rewritten f m) (call_left m k call)
      call_left_printable = record {
        some = old_call.some;
        no_intrinsic = old_call.no_intrinsic;
        words = old_call.words;
        arguments = All-from_recursion (PrintableArgument (rewritten f m)) (map (argument_left (m.put_call k)) call.args)
            (args_printable call.args (recursion_from_All (PrintableArgument f) call.args old_call.arguments) call_usable);
      }

      pub made_printable : IsSomeAnd (slice_get (rewritten f m).calls k) (PrintableCall (rewritten f m))
      made_printable = subst (λ o. IsSomeAnd o (PrintableCall (rewritten f m))) (sym there_left) call_left_printable

      call_line : IsLineFor (Op.Call width k)
      call_line = record {
        typed = subst (λ o. IsSomeAnd o (λ (c : CallOp). All (λ (a : CallArg). IsOfType (rewritten f m) (Ty.Int a.width) a.value) c.args)) (sym there_left)
            (All-from_recursion (λ (a : CallArg). IsOfType (rewritten f m) (Ty.Int a.width) a.value) (map (argument_left (m.put_call k)) call.args) (args_typed call.args call_usable));
        printable = subst (PrintableOp f) is old_inst.op;
        type = sym (ap op_type is);
        result = subst (λ op. HasItsResult op inst.result) is old_inst.result;
        place = sym (ap call_place is);
        names = λ x t. (
          used_kept call_stays x (subst (λ c. is_in x (op_names (rewritten f m) (with_operands (m.put (At b i)) (operation_of c inst.op))) ≡ true) (sym keep)
              (subst (λ op. is_in x (op_names (rewritten f m) (with_operands (m.put (At b i)) op)) ≡ true) (sym is) t)),
          args_live call.args x call_usable (subst (λ o. is_in x (names_in o) ≡ true) there_left t),
        );
      }

    pub known_call : (call : CallOp) × (slice_get f.calls k ≡ Some call)
    known_call = by (slice_get f.calls k) refl
      where
        by : (o : Option CallOp) → slice_get f.calls k ≡ o → (call : CallOp) × (slice_get f.calls k ≡ Some call)
        by (Some call) e = (call, e)
        by None e = absurd (subst (λ c. IsSomeAnd c (λ c. All (λ a. IsOfType f (Ty.Int a.width) a.value) c.args)) e
            (subst (TypedOp f) is (line_is_typed f known.printable known.typed b i block inst left.line).operands))

    call_form : Form (changed_by (found.change b i inst) m b i inst)
    call_form =
        subst (λ c. Form (changed_by c m b i inst)) (sym keep)
        (subst (λ op. Form (line_of inst.result (with_operands (m.put (At b i)) op) ∷ [])) (sym is) (one (Op.Call width k) (call_line known_call.0 known_call.1)))

  pub form : m.stays b i ≡ true → Form (changed m b i inst)
  form stays = subst (λ c. Form (changed_by c m b i inst)) (sym marked.change) (elim (cases_Bool (is_call inst.op)) [
    | inl call ↦ let c = call_tells inst.op call in call_form c.width c.place c.is
    | inr plain ↦ form_of stays plain (found.change b i inst) refl
  ])
