-- The terminators that are left: typed, printable, and their names are defined.
use Rattle.std.proofs.Common.{◌≡◌, ℕ, Bool, true, false, Some, List, [], ◌∷◌, length, slice_get, refl}
use Rattle.std.specs.List.{AllByRecursion}
use Rattle.vfa_ir.specs.declared.operations.BlockId.{BlockId}
use Rattle.vfa_ir.specs.declared.operations.Operand.{Operand}
use Rattle.vfa_ir.specs.declared.operations.Ty.{Ty}
use Rattle.vfa_ir.specs.declared.functions.Block.{Block}
use Rattle.vfa_ir.specs.declared.functions.Function.{Function}
use Rattle.vfa_ir.specs.declared.functions.Term.{Term}
use Rattle.vfa_ir.specs.Defined.{operand_names, term_names}
use Rattle.vfa_ir.specs.Printable.{IsOperand, PrintableTerm, PrintableBlock}
use Rattle.vfa_ir.specs.Typed.{TypedTerm, TypedBlock, IsOfType}
use Rattle.vfa_ir.specs.Walks.{IsDefinedAt}
use Rattle.vfa_ir.specs.Words.{is_in}
use Rattle.vfa_word.specs.Numbers.{IsWidth}
use Rattle.vfa_mean.specs.Moments.{At}
use Rattle.vfa_cond.proofs.Fitting.{bit_width}
use Rattle.vfa_walk.proofs.TruthTypes.{written_width, each_of}
use Rattle.vfa_rewrite.specs.Findings.{Findings, IsUsable}
use Rattle.vfa_rewrite.specs.Marks.{IsPut, term_operands}
use Rattle.vfa_rewrite.specs.Rewritten.{Marks, two_ways, one_way, cases_left, many_ways, shrunk, term_if_met, term_left, rewritten}
use Rattle.vfa_rewrite.proofs.LeftLines.{Known}
use Rattle.vfa_rewrite.proofs.MarkedBlocks.{term_defined}
use Rattle.vfa_rewrite.proofs.MarkedLines.{usable_operand}
use Rattle.vfa_rewrite.proofs.PutOperands.{becomes_usable, name_defined}
use Rattle.vfa_rewrite.proofs.TargetsLeft.{shrunk_typed, shrunk_printable}

-- a name of the terminator that is left is one of the operand that is put
shrunk_name : (Q : ℕ → Type 0) (put : Operand → Operand) (left : ℕ → Bool) (term : Term) (x : ℕ) →
    AllByRecursion (λ (o : Ty × Operand). (y : ℕ) → is_in y (operand_names (put o.1)) ≡ true → Q y) (term_operands term) → is_in x (term_names (shrunk put left term)) ≡ true → Q x
shrunk_name Q put left (Term.Ret w a) x all t = all.0 x t
shrunk_name Q put left (Term.Br to) x all t = by (left 0) t
  where
    by : (s : Bool) → is_in x (term_names (one_way s to)) ≡ true → Q x
    by true t = absurd (cc)
    by false t = absurd (cc)
shrunk_name Q put left (Term.CondBr c taken fallen) x all t = by (left 0) (left 1) t
  where
    by : (s r : Bool) → is_in x (term_names (two_ways s r (put c) taken fallen)) ≡ true → Q x
    by true true t = all.0 x t
    by true false t = absurd (cc)
    by false true t = absurd (cc)
    by false false t = absurd (cc)
shrunk_name Q put left (Term.Switch w on other cases) x all t = by (left 0) (cases_left left 1 cases) t
  where
    by : (s : Bool) (rest : List (ℕ × BlockId)) → is_in x (term_names (many_ways s w (put on) other rest)) ≡ true → Q x
    by true [] t = absurd (cc)
    by true (e ∷ rest) t = all.0 x t
    by false [] t = absurd (cc)
    by false (e ∷ []) t = absurd (cc)
    by false (e ∷ (d ∷ rest)) t = all.0 x t
shrunk_name Q put left Term.Unreachable x all t = absurd (cc)

module _ (f : Function) (found : Findings) (m : Marks) (known : Known f found m) (b : ℕ) (block : Block) (there : slice_get f.blocks b ≡ Some block) (reached : m.reached b ≡ true) where
  old_term : PrintableTerm f block.term
  old_term = (each_of (PrintableBlock f) f.blocks b block known.printable.blocks there).term

  typed_term : TypedTerm f block.term
  typed_term = (each_of (TypedBlock f) f.blocks b block known.typed there).terminator

  abbrev UsablePut : Ty × Operand → Type 0
  UsablePut o = IsUsable f (At b (length block.insts)) o.0 (m.put (At b (length block.insts)) o.1)

  put_usable_at : (w : ℕ) (a : Operand) → IsWidth w → IsOfType f (Ty.Int w) a → IsOperand f w a → ((n : ℕ) → is_in n (operand_names a) ≡ true → is_in n (term_names block.term) ≡ true) →
      IsPut f found (At b (length block.insts)) (m.put (At b (length block.insts))) (Ty.Int w, a) → IsUsable f (At b (length block.insts)) (Ty.Int w) (m.put (At b (length block.insts)) a)
  put_usable_at w a width of_type range names is =
      becomes_usable f known.printable known.defined found known.fits (At b (length block.insts)) (Ty.Int w) a (m.put (At b (length block.insts)) a) is
      (usable_operand f (At b (length block.insts)) w a width of_type range (λ n t. term_defined f known.defined b block there n (names n t)))

  of_term : (term : Term) → TypedTerm f term → PrintableTerm f term → ((n : ℕ) → is_in n (term_names term) ≡ true → is_in n (term_names block.term) ≡ true) →
      AllByRecursion (IsPut f found (At b (length block.insts)) (m.put (At b (length block.insts)))) (term_operands term) → AllByRecursion UsablePut (term_operands term)
  of_term (Term.Ret w a) of_type range names is = (put_usable_at w a (written_width w range.0) of_type.1 range.1 names is.0, tt)
  of_term (Term.Br to) of_type range names is = tt
  of_term (Term.CondBr c taken fallen) of_type range names is = (put_usable_at 1 c bit_width of_type range.0 names is.0, tt)
  of_term (Term.Switch w on other cases) of_type range names is = (put_usable_at w on (written_width w range.0) of_type.0 range.1 names is.0, tt)
  of_term Term.Unreachable of_type range names is = tt

  pub term_left_usable : m.met b (length block.insts) ≡ true → AllByRecursion (λ (o : Ty × Operand). IsUsable f (At b (length block.insts)) o.0 (m.put (At b (length block.insts)) o.1)) (term_operands block.term)
  term_left_usable met = of_term block.term typed_term old_term (λ n t. t) ((known.marks.blocks b block there reached).term met)

  names_of : (operands : List (Ty × Operand)) → AllByRecursion UsablePut operands →
      AllByRecursion (λ (o : Ty × Operand). (y : ℕ) → is_in y (operand_names (m.put (At b (length block.insts)) o.1)) ≡ true → IsDefinedAt f b (length block.insts) y) operands
  names_of [] all = tt
  names_of (o ∷ operands) all = (
    λ y t. name_defined f m (At b (length block.insts)) o.0 (m.put (At b (length block.insts)) o.1) y all.0 t,
    names_of operands all.1,
  )

  pub term_names_usable : (x : ℕ) → is_in x (term_names (term_left m b block)) ≡ true → (m.met b (length block.insts) ≡ true) × IsDefinedAt f b (length block.insts) x
  term_names_usable x t = by (m.met b (length block.insts)) refl t
    where
      by : (s : Bool) → m.met b (length block.insts) ≡ s → is_in x (term_names (term_if_met s (shrunk (m.put (At b (length block.insts))) (m.left b) block.term))) ≡ true →
          (m.met b (length block.insts) ≡ true) × IsDefinedAt f b (length block.insts) x
      by false e t = absurd (cc)
      by true e t = (e, shrunk_name (IsDefinedAt f b (length block.insts)) (m.put (At b (length block.insts))) (m.left b) block.term x (names_of (term_operands block.term) (term_left_usable e)) t)

  pub term_left_typed : TypedTerm (rewritten f m) (term_left m b block)
  term_left_typed = by (m.met b (length block.insts)) refl
    where
      by : (s : Bool) → m.met b (length block.insts) ≡ s → TypedTerm (rewritten f m) (term_if_met s (shrunk (m.put (At b (length block.insts))) (m.left b) block.term))
      by true e = shrunk_typed f m (At b (length block.insts)) (m.put (At b (length block.insts))) (m.left b) block.term typed_term (term_left_usable e)
      by false e = tt

  pub term_left_printable : PrintableTerm (rewritten f m) (term_left m b block)
  term_left_printable = by (m.met b (length block.insts)) refl
    where
      by : (s : Bool) → m.met b (length block.insts) ≡ s → PrintableTerm (rewritten f m) (term_if_met s (shrunk (m.put (At b (length block.insts))) (m.left b) block.term))
      by true e = shrunk_printable f m (At b (length block.insts)) (m.put (At b (length block.insts))) (m.left b) block.term old_term (term_left_usable e)
      by false e = tt
