-- Kept names are names of the function, and none that narrowing adds; so marks are sound.
use Rattle.std.proofs.Common.{◌≡◌, ◌<◌, ◌≤◌, ℕ, ◌++◌, Bool, true, false, Option, Some, None, List, [], ◌∷◌, All, flat_map, map, length, slice_get, IsSomeAnd, refl, sym, ap, ◌∙◌, subst, inl, inr, arith}
use Rattle.std.proofs.lemmas.Bool.{cases_Bool}
use Rattle.std.proofs.lemmas.List.Elements.{All-head, All-tail}
use Rattle.std.specs.List.{AllByRecursion}
use Rattle.vfa_ir.specs.declared.operations.BlockId.{BlockId}
use Rattle.vfa_ir.specs.declared.operations.Op.{Op}
use Rattle.vfa_ir.specs.declared.operations.Operand.{Operand}
use Rattle.vfa_ir.specs.declared.operations.Ty.{Ty}
use Rattle.vfa_ir.specs.declared.functions.Block.{Block}
use Rattle.vfa_ir.specs.declared.functions.CallArg.{CallArg}
use Rattle.vfa_ir.specs.declared.functions.CallOp.{CallOp}
use Rattle.vfa_ir.specs.declared.functions.Function.{Function}
use Rattle.vfa_ir.specs.declared.functions.Inst.{Inst}
use Rattle.vfa_ir.specs.declared.functions.Term.{Term}
use Rattle.vfa_ir.specs.Defined.{Defined, operand_names, op_names, term_names}
use Rattle.vfa_ir.specs.Operands.{operands_of, arguments_of}
use Rattle.vfa_ir.specs.Printable.{IsPrintable, PrintableArgument, PrintableCall}
use Rattle.vfa_ir.specs.Typed.{Typed, TypedOp, IsOfType}
use Rattle.vfa_ir.specs.Words.{is_in}
use Rattle.vfa_mean.specs.Moments.{Place, Into, At, is_call}
use Rattle.vfa_mean.specs.Outcomes.{first_block}
use Rattle.vfa_mean.proofs.FreshOperands.Definitions.{in_cases, first_or_rest}
use Rattle.vfa_walk.proofs.TruthTypes.{written_width, each_of, line_is_typed}
use Rattle.vfa_rules.specs.declared.change.Change.{Change}
use Rattle.vfa_rewrite.specs.Rewritten.{Marks, with_operands, argument_left, call_left, two_ways, one_way, many_ways, shrunk, term_if_met, term_left, cases_left, rewritten}
use Rattle.vfa_rewrite.specs.Sound.{term_operand, AreSound}
use Rattle.vfa_rewrite.specs.Findings.{Findings, IsTypedOperand, IsUsable, AreUsable, operation_of, IsFitting, ChangeHolds, AreTrue}
use Rattle.vfa_rewrite.specs.Marks.{Becomes, IsPut, term_operands, first, IsLeftLine, UsesName, Kept, by_end, by_effect, by_line, by_phi, LineIsMarked, AreMarks}
use Rattle.vfa_rewrite.proofs.Becoming.{becomes_typed}
use Rattle.vfa_rewrite.proofs.Left.{made_at}
use Rattle.vfa_rewrite.proofs.Lines.{call_tells}
use Rattle.vfa_rewrite.proofs.MarkedBlocks.{entry_usable, entry_becomes, term_reads, block_sound}
use Rattle.vfa_rewrite.proofs.MarkedLines.{names_in, typed_operand, operation_plain}
use Rattle.vfa_rewrite.proofs.Ranges.{typed_value, parameters_below}

pub operand_below : (f : Function) (ty : Ty) (a : Operand) (n : ℕ) → IsTypedOperand f ty a → is_in n (operand_names a) ≡ true → n < length f.values
operand_below f ty (Operand.Value v) n typed t = elim (first_or_rest n v.0 [] t) [
  | inl e ↦ let below = (typed_value f ty v typed).below in omega (arith, e, below)
  | inr r ↦ absurd (let s : false ≡ true = r in cc)
]
operand_below f ty (Operand.Literal x) n typed t = absurd (cc)
operand_below f ty Operand.Poison n typed t = absurd (cc)

pub changed_plain : (f : Function) (old : Op) (c : Change) → IsFitting f old c → is_call old ≡ false → is_call (operation_of c old) ≡ false
changed_plain f old (Change.Keep op) fits plain = operation_plain op fits.1
changed_plain f old (Change.Uses u) fits plain = plain
changed_plain f old Change.Gone fits plain = plain
changed_plain f old (Change.Narrow (Op.Bin bin flags w x y) v) fits plain = refl
changed_plain f old (Change.Narrow (Op.Icmp pred samesign w x y) v) fits plain = refl
changed_plain f old (Change.Narrow (Op.Select w z x y) v) fits plain = refl
changed_plain f old (Change.Narrow (Op.Cast cast flags u w x) v) fits plain = refl
changed_plain f old (Change.Narrow (Op.Freeze w x) v) fits plain = refl
changed_plain f old (Change.Narrow (Op.Two fun w x y) v) fits plain = refl
changed_plain f old (Change.Narrow (Op.One fun w x strict) v) fits plain = refl
changed_plain f old (Change.Narrow (Op.Over over w x y) v) fits plain = refl
changed_plain f old (Change.Narrow (Op.Part w pair index) v) fits plain = refl
changed_plain f old (Change.Narrow (Op.Assume z) v) fits plain = refl
changed_plain f old (Change.Narrow (Op.Call w call) v) fits plain = absurd fits

-- ---- terminators

pub shrunk_names : (put : Operand → Operand) (left : ℕ → Bool) (term : Term) (n : ℕ) → is_in n (term_names (shrunk put left term)) ≡ true →
    is_in n (operand_names (put (term_operand term))) ≡ true
shrunk_names put left (Term.Ret w a) n t = t
shrunk_names put left (Term.Br to) n t = by (left 0) t
  where
    by : (s : Bool) → is_in n (term_names (one_way s to)) ≡ true → is_in n (operand_names (put Operand.Poison)) ≡ true
    by true t = absurd (cc)
    by false t = absurd (cc)
shrunk_names put left (Term.CondBr c taken fallen) n t = by (left 0) (left 1) t
  where
    by : (s s' : Bool) → is_in n (term_names (two_ways s s' (put c) taken fallen)) ≡ true → is_in n (operand_names (put c)) ≡ true
    by true true t = t
    by true false t = absurd (cc)
    by false true t = absurd (cc)
    by false false t = absurd (cc)
shrunk_names put left (Term.Switch w on other cases) n t = by (left 0) (cases_left left 1 cases) t
  where
    by : (s : Bool) (rest : List (ℕ × BlockId)) → is_in n (term_names (many_ways s w (put on) other rest)) ≡ true → is_in n (operand_names (put on)) ≡ true
    by true [] t = absurd (cc)
    by true (e ∷ rest) t = t
    by false [] t = absurd (cc)
    by false (e ∷ []) t = absurd (cc)
    by false (e ∷ (d ∷ rest)) t = t
shrunk_names put left Term.Unreachable n t = absurd (cc)

nothing_named : {X : Type 0} (put : Operand → Operand) (left : ℕ → Bool) (term : Term) (n : ℕ) → term_operands term ≡ [] →
    is_in n (term_names (shrunk put left term)) ≡ true → X
nothing_named put left (Term.Ret w a) n none t = absurd (cc)
nothing_named {X} put left (Term.Br to) n none t = by (left 0) t
  where
    by : (s : Bool) → is_in n (term_names (one_way s to)) ≡ true → X
    by true t = absurd (cc)
    by false t = absurd (cc)
nothing_named put left (Term.CondBr c taken fallen) n none t = absurd (cc)
nothing_named put left (Term.Switch w on other cases) n none t = absurd (cc)
nothing_named put left Term.Unreachable n none t = absurd (cc)

module _ (f : Function) (printable : IsPrintable f) (typed : Typed f) (defined : Defined f) (found : Findings) (holds : AreTrue f found) (m : Marks) (marks : AreMarks f found m) where
  put_below : (place : Place) (ty : Ty) (a a' : Operand) (n : ℕ) → IsUsable f place ty a → Becomes f found place ty a a' → is_in n (operand_names a') ≡ true → n < length f.values
  put_below place ty a a' n usable becomes t =
      operand_below f ty a' n (becomes_typed f printable defined found holds place ty a a' becomes usable.is_type usable.typed) t

  end_below : (b : ℕ) (block : Block) (n : ℕ) → slice_get f.blocks b ≡ Some block → m.reached b ≡ true → is_in n (term_names (term_left m b block)) ≡ true → n < length f.values
  end_below b block n there reached t = by (m.met b (length block.insts)) refl t
    where
      put : Operand → Operand
      put = m.put (At b (length block.insts))

      by : (s : Bool) → m.met b (length block.insts) ≡ s → is_in n (term_names (term_if_met s (shrunk (m.put (At b (length block.insts))) (m.left b) block.term))) ≡ true → n < length f.values
      by false e t = absurd (cc)
      by true e t = elim (term_reads f printable typed defined found holds m marks b block there reached e) [
        | inr r ↦ put_below (At b (length block.insts)) (Ty.Int r.width) (term_operand block.term) (put (term_operand block.term)) n r.usable r.becomes
            (shrunk_names put (m.left b) block.term n t)
        | inl none ↦ nothing_named put (m.left b) block.term n none t
      ]

  -- ---- lines

  abbrev AreBelow : List ℕ → Type 0
  AreBelow names = (n : ℕ) → is_in n names ≡ true → n < length f.values

  both_below : (xs ys : List ℕ) → AreBelow xs → AreBelow ys → AreBelow (xs ++ ys)
  both_below xs ys h k n t = elim (in_cases n xs ys t) [ inl l ↦ h n l | inr r ↦ k n r ]

  module _ (place : Place) (put : Operand → Operand) where
    one_below : (ty : Ty) (a : Operand) → IsUsable f place ty a → Becomes f found place ty a (put a) → AreBelow (operand_names (put a))
    one_below ty a usable becomes n t = put_below place ty a (put a) n usable becomes t

    two_below : (w : ℕ) (a b : Operand) → IsUsable f place (Ty.Int w) a × IsUsable f place (Ty.Int w) b → AllByRecursion (IsPut f found place put) ((Ty.Int w, a) ∷ ((Ty.Int w, b) ∷ [])) →
        AreBelow (operand_names (put a) ++ operand_names (put b))
    two_below w a b usable is = both_below (operand_names (put a)) (operand_names (put b)) (one_below (Ty.Int w) a usable.0 is.0) (one_below (Ty.Int w) b usable.1 is.1.0)

    names_below : (op : Op) → is_call op ≡ false → AreUsable f place op → AllByRecursion (IsPut f found place put) (operands_of f op) →
        AreBelow (op_names (rewritten f m) (with_operands put op))
    names_below (Op.Bin bin flags w a b) plain usable is = two_below w a b usable is
    names_below (Op.Icmp pred samesign w a b) plain usable is = two_below w a b usable is
    names_below (Op.Select w c a b) plain usable is =
        both_below (operand_names (put c)) (operand_names (put a) ++ operand_names (put b)) (one_below (Ty.Int 1) c usable.0 is.0) (two_below w a b (usable.1, usable.2) is.1)
    names_below (Op.Cast cast flags v w a) plain usable is = one_below (Ty.Int v) a usable is.0
    names_below (Op.Freeze w a) plain usable is = one_below (Ty.Int w) a usable is.0
    names_below (Op.Two fun w a b) plain usable is = two_below w a b usable is
    names_below (Op.One fun w a strict) plain usable is = one_below (Ty.Int w) a usable is.0
    names_below (Op.Over over w a b) plain usable is = two_below w a b usable is
    names_below (Op.Part w pair index) plain usable is = λ n t. operand_below f (Ty.Pair w) (Operand.Value pair) n usable.typed t
    names_below (Op.Assume c) plain usable is = one_below (Ty.Int 1) c usable is.0
    names_below (Op.Call w call) plain usable is = absurd (cc)

    args_below : (change : Operand → Operand) → ((a : Operand) → change a ≡ put a) → (args : List CallArg) → All (λ (a : CallArg). IsOfType f (Ty.Int a.width) a.value) args →
        All (PrintableArgument f) args → AllByRecursion (IsPut f found place put) (map (λ (a : CallArg). (Ty.Int a.width, a.value)) args) →
        AreBelow (flat_map (λ (a : CallArg). operand_names a.value) (map (argument_left change) args))
    args_below change same [] of_types ranges is n t = absurd (cc)
    args_below change same (a ∷ args) of_types ranges is n t =
        let here = operand_names (change a.value) in
        let rest = flat_map (λ (c : CallArg). operand_names c.value) (map (argument_left change) args) in
        elim (in_cases n here rest t) [
          | inl l ↦
              let of = typed_operand f a.width a.value (All-head (λ (c : CallArg). IsOfType f (Ty.Int c.width) c.value) a args of_types) (All-head (PrintableArgument f) a args ranges).value in
              operand_below f (Ty.Int a.width) (put a.value) n (becomes_typed f printable defined found holds place (Ty.Int a.width) a.value (put a.value) is.0
              (written_width a.width (All-head (PrintableArgument f) a args ranges).width) of)
              (subst (λ c. is_in n (operand_names c) ≡ true) (same a.value) l)
          | inr r ↦ args_below change same args (All-tail (λ (c : CallArg). IsOfType f (Ty.Int c.width) c.value) a args of_types) (All-tail (PrintableArgument f) a args ranges) is.1 n r
        ]

  module _ (b : ℕ) (block : Block) (i : ℕ) (inst : Inst) (left : IsLeftLine f m b block i inst) where
    marked : LineIsMarked f found m b i inst
    marked = (marks.blocks b block left.line.there left.reached).lines i inst left.line.stands left.met

    line_below : (n : ℕ) → UsesName f found m b i inst n → n < length f.values
    line_below n uses = elim (cases_Bool (is_call inst.op)) [
      | inl call ↦
          let c = call_tells inst.op call in
          let keep = holds.call b block i inst left.line call in
          let of_types = subst (λ op. TypedOp f op) c.is (line_is_typed f printable typed b i block inst left.line).operands in
          call_below c.width c.place c.is keep of_types (slice_get f.calls c.place) refl n uses
      | inr plain ↦
          let change = holds.change b block i inst left.line (sym (marks.met b i) ∙ left.met) plain in
          operation_below plain (found.change b i inst) change marked.operands n uses
    ]
      where
        operation_below : is_call inst.op ≡ false → (c : Change) → ChangeHolds f (At b i) inst.op c → AllByRecursion (IsPut f found (At b i) (m.put (At b i))) (operands_of f (operation_of c inst.op)) →
            (n : ℕ) → is_in n (op_names (rewritten f m) (with_operands (m.put (At b i)) (operation_of c inst.op))) ≡ true → n < length f.values
        operation_below plain_op c change operands n uses =
            names_below (At b i) (m.put (At b i)) (operation_of c inst.op) (changed_plain f inst.op c change.fits plain_op) change.usable operands n uses

        call_below : (width : Option ℕ) (k : ℕ) → inst.op ≡ Op.Call width k → found.change b i inst ≡ Change.Keep inst.op → TypedOp f (Op.Call width k) →
            (call : Option CallOp) → slice_get f.calls k ≡ call → (n : ℕ) → UsesName f found m b i inst n → n < length f.values
        call_below width k is keep of_types None there n uses =
            absurd (subst (λ c. IsSomeAnd c (λ c. All (λ a. IsOfType f (Ty.Int a.width) a.value) c.args)) there of_types)
        call_below width k is keep of_types (Some call) there n uses =
            let of_args = subst (λ c. IsSomeAnd c (λ c. All (λ a. IsOfType f (Ty.Int a.width) a.value) c.args)) there of_types in
            let ranges = (each_of (PrintableCall f) f.calls k call printable.calls there).arguments in
            let operands = subst (λ c. AllByRecursion (IsPut f found (At b i) (m.put (At b i))) (arguments_of c)) there
            (subst (λ op. AllByRecursion (IsPut f found (At b i) (m.put (At b i))) (operands_of f op)) is
            (subst (λ c. AllByRecursion (IsPut f found (At b i) (m.put (At b i))) (operands_of f (operation_of c inst.op))) keep marked.operands)) in
            let there' : slice_get (rewritten f m).calls k ≡ Some (call_left m k call) = made_at (call_left m) f.calls k call there in
            let same : op_names (rewritten f m) (with_operands (m.put (At b i)) (operation_of (found.change b i inst) inst.op)) ≡ names_in (Some (call_left m k call)) =
            ap (λ c. op_names (rewritten f m) (with_operands (m.put (At b i)) (operation_of c inst.op))) keep
            ∙ ap (λ op. op_names (rewritten f m) (with_operands (m.put (At b i)) op)) is ∙ ap names_in there' in
            args_below (At b i) (m.put (At b i)) (m.put_call k) (marked.arguments width k is) call.args of_args ranges operands n
            (subst (λ names. is_in n names ≡ true) same uses)

  -- ---- kept names

  kept_below : (n : ℕ) → Kept f found m n → n < length f.values
  kept_below n (by_end b block k there reached t) = end_below b block k there reached t
  kept_below n (by_effect b block i inst k left must uses) = line_below b block i inst left k uses
  kept_below n (by_line b block i inst name k left result kept uses) = line_below b block i inst left k uses
  kept_below n (by_phi b block j phi k e x there reached met phi_at kept entry_at entered t) =
      put_below (Into (Some e.1.0) b) (Ty.Int phi.width) e.0 (m.put (Into (Some e.1.0) b) e.0) x
      (entry_usable f printable typed defined b block there j k phi e phi_at entry_at)
      (entry_becomes f printable typed defined found holds m marks b block there reached j k phi e phi_at entry_at entered) t

  new_is_unused : (n : ℕ) → length f.values ≤ n → m.keeps n ≡ false
  new_is_unused n new = elim (cases_Bool (m.keeps n)) [
    | inr e ↦ e
    | inl t ↦ let below = kept_below n ((marks.keeps n).0 t) in absurd (omega (arith, below, new))
  ]

  pub are_sound : AreSound f m
  are_sound = record {
    met = λ b i env moment. marks.met b i ∙ holds.met b i env moment;
    left = λ b block env k target moment there exit. marks.left b k ∙ holds.left b block env k target moment there exit;
    entry = (marks.reached first_block).1 first;
    params = parameters_below f printable;
    blocks = λ b block there reached. block_sound f printable typed defined found holds m marks b block there reached new_is_unused;
  }
