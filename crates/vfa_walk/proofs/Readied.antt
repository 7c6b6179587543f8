-- A checked function is ready to be walked through.
use Rattle.std.proofs.Common.{◌≡◌, ◌<◌, ◌^◌, ℕ, zero, suc, Bool, true, false, if◌then◌else◌, ◌==◌, Option, Some, None, List, [], ◌∷◌, ◌++◌, map, flat_map, ◌∙◌, length, refl, subst, ap}
use Rattle.std.specs.Prelude.{slice_get}
use Rattle.std.specs.List.{AllByRecursion, cons_option}
use Rattle.std.proofs.lemmas.List.Elements.{All-from_recursion, recursion_from_All, All-weaker}
use Rattle.vfa_ir.specs.declared.operations.BlockId.{BlockId}
use Rattle.vfa_ir.specs.declared.operations.Op.{Op}
use Rattle.vfa_ir.specs.declared.operations.Operand.{Operand}
use Rattle.vfa_ir.specs.declared.operations.Ty.{Ty}
use Rattle.vfa_ir.specs.declared.operations.ValueId.{ValueId}
use Rattle.vfa_ir.specs.declared.functions.Block.{Block}
use Rattle.vfa_ir.specs.declared.functions.Function.{Function}
use Rattle.vfa_ir.specs.declared.functions.Inst.{Inst}
use Rattle.vfa_ir.specs.declared.functions.Param.{Param}
use Rattle.vfa_ir.specs.declared.functions.Phi.{Phi}
use Rattle.vfa_ir.specs.declared.functions.Term.{Term}
use Rattle.vfa_ir.specs.Printable.{IsPrintable, IsIntegerType, IsOperand, IsBlock, PrintableBlock, PrintableOp, PrintablePhi, PrintableTerm, op_type, ids_of, block_ids, inst_ids}
use Rattle.vfa_ir.specs.Typed.{TypedBlock, TypedPhi, TypedTerm, IsOfType}
use Rattle.vfa_word.specs.Numbers.{IsWidth}
use Rattle.vfa_mean.specs.Moments.{IsLine}
use Rattle.vfa_mean.specs.Outcomes.{type_of}
use Rattle.vfa_values.specs.Conditions.{IsType}
use Rattle.vfa_check.specs.Checked.{IsChecked}
use Rattle.vfa_cond.specs.Conditions.{IsNumberOperand}
use Rattle.vfa_cond.proofs.Accepted.{typed_equations}
use Rattle.vfa_cond.proofs.Fitting.{bit_width}
use Rattle.vfa_walk.specs.Ready.{HasFewNames, IsNameOf, IsReady, IsReadyBlock, IsReadyInst, IsReadyPhi, IsReadyTerm}
use Rattle.vfa_walk.proofs.TruthTypes.{written_width, each_of, line_type, phi_types, parameters_are_integers, integer_is_type, number_operand, bit_operand, line_is_typed}
use Rattle.vfa_walk.proofs.TruthFacts.{all_from_gets}

-- ---- names are below the number of names

first_part : (P : ℕ → Type 0) (xs ys : List ℕ) → AllByRecursion P (xs ++ ys) → AllByRecursion P xs
first_part P [] ys all = tt
first_part P (x ∷ xs) ys all = (all.0, first_part P xs ys all.1)

second_part : (P : ℕ → Type 0) (xs ys : List ℕ) → AllByRecursion P (xs ++ ys) → AllByRecursion P ys
second_part P [] ys all = all
second_part P (x ∷ xs) ys all = second_part P xs ys all.1

in_block : (P : ℕ → Type 0) (blocks : List Block) (b : ℕ) (block : Block) → slice_get blocks b ≡ Some block → AllByRecursion P (flat_map block_ids blocks) → AllByRecursion P (block_ids block)
in_block P [] b block there all = absurd (cc)
in_block P (c ∷ rest) zero block there all = first_part P (block_ids block) (flat_map block_ids rest) (let same : c ≡ block = cc in subst (λ d. AllByRecursion P (block_ids d ++ flat_map block_ids rest)) same all)
in_block P (c ∷ rest) (suc b) block there all = in_block P rest b block there (second_part P (block_ids c) (flat_map block_ids rest) all)

in_line : (P : ℕ → Type 0) (insts : List Inst) (i : ℕ) (inst : Inst) (r : ValueId) → slice_get insts i ≡ Some inst → inst.result ≡ Some r → AllByRecursion P (inst_ids insts) → P r.0
in_line P [] i inst r stands e all = absurd (cc)
in_line P (j ∷ rest) zero inst r stands e all =
    let same : j ≡ inst = cc in at j.result (ap (λ (k : Inst). k.result) same ∙ e) all
  where
    at : (o : Option ValueId) → o ≡ Some r → AllByRecursion P (cons_option (elim o [ None ↦ None | Some v ↦ Some v.0 ]) (inst_ids rest)) → P r.0
    at None e all = absurd (cc)
    at (Some s) e all = let same : s ≡ r = cc in subst (λ (t : ValueId). P t.0) same all.0
in_line P (j ∷ rest) (suc i) inst r stands e all = in_line P rest i inst r stands e (later j.result all)
  where
    later : (o : Option ValueId) → AllByRecursion P (cons_option (elim o [ None ↦ None | Some v ↦ Some v.0 ]) (inst_ids rest)) → AllByRecursion P (inst_ids rest)
    later None all = all
    later (Some s) all = all.1

in_phis : (P : ℕ → Type 0) (phis : List Phi) (k : ℕ) (p : Phi) → slice_get phis k ≡ Some p → AllByRecursion P (map (λ (q : Phi). q.result.0) phis) → P p.result.0
in_phis P [] k p stands all = absurd (cc)
in_phis P (q ∷ rest) zero p stands all = let same : q ≡ p = cc in subst (λ (t : Phi). P t.result.0) same all.0
in_phis P (q ∷ rest) (suc k) p stands all = in_phis P rest k p stands all.1

in_params : (P : ℕ → Type 0) (params : List Param) (k : ℕ) (p : Param) → slice_get params k ≡ Some p → AllByRecursion P (map (λ (q : Param). q.value.0) params) → P p.value.0
in_params P [] k p stands all = absurd (cc)
in_params P (q ∷ rest) zero p stands all = let same : q ≡ p = cc in subst (λ (t : Param). P t.value.0) same all.0
in_params P (q ∷ rest) (suc k) p stands all = in_params P rest k p stands all.1

-- ---- widths of results

part_type : (w index : ℕ) → IsWidth w → IsType (if index == 0 then Ty.Int w else Ty.Int 1)
part_type w index width = at (index == 0)
  where
    at : (b : Bool) → IsType (if b then Ty.Int w else Ty.Int 1)
    at true = width
    at false = bit_width

result_width : (f : Function) (op : Op) → PrintableOp f op → IsType (op_type op)
result_width f (Op.Bin _ _ w a b) ranges = written_width w ranges.1.of_width
result_width f (Op.Icmp _ _ _ _ _) ranges = bit_width
result_width f (Op.Select w _ _ _) ranges = written_width w ranges.1.of_width
result_width f (Op.Cast _ _ from to a) ranges = written_width to ranges.3
result_width f (Op.Freeze w a) ranges = written_width w ranges.0
result_width f (Op.Two _ w a b) ranges = written_width w ranges.of_width
result_width f (Op.One _ w a _) ranges = written_width w ranges.0
result_width f (Op.Over _ w a b) ranges = written_width w ranges.of_width
result_width f (Op.Part w pair index) ranges = part_type w index (written_width w ranges.0)
result_width f (Op.Assume _) ranges = bit_width
result_width f (Op.Call None place) ranges = bit_width
result_width f (Op.Call (Some w) place) ranges = written_width w ranges

-- ---- terminators

term_ready : (f : Function) (t : Term) → PrintableTerm f t → TypedTerm f t → IsReadyTerm f t
term_ready f (Term.Ret _ _) ranges typed = tt
term_ready f (Term.Br _) ranges typed = tt
term_ready f (Term.CondBr c _ _) ranges typed = bit_operand f c ranges.0 typed
term_ready f (Term.Switch w on other cases) ranges typed =
    (number_operand f w on ranges.0 ranges.1 typed.0, All-weaker (λ c. (c.0 < 2 ^ w) × IsBlock f c.1) (λ c. c.0 < 2 ^ w) (λ c both. both.0) cases ranges.3)
term_ready f Term.Unreachable ranges typed = tt

-- ---- the function

module _ (f : Function) (checked : IsChecked f) (printable : IsPrintable f) where
  all_names : AllByRecursion (λ v. v < length f.values) (ids_of f)
  all_names = recursion_from_All (λ v. v < length f.values) (ids_of f) checked.within.names

  names_of : (b : ℕ) (block : Block) → slice_get f.blocks b ≡ Some block → AllByRecursion (λ v. v < length f.values) (block_ids block)
  names_of b block there =
      in_block (λ v. v < length f.values) f.blocks b block there (second_part (λ v. v < length f.values) (map (λ p. p.value.0) f.params) (flat_map block_ids f.blocks) all_names)

  param_ready : (k : ℕ) (p : Param) → slice_get f.params k ≡ Some p → IsNameOf f (type_of f p.value) p.value
  param_ready k p stands = record {
    below = in_params (λ v. v < length f.values) f.params k p stands (first_part (λ v. v < length f.values) (map (λ p. p.value.0) f.params) (flat_map block_ids f.blocks) all_names);
    type_is = refl;
    width = integer_is_type (type_of f p.value) (each_of (λ (q : Param). IsIntegerType (type_of f q.value)) f.params k p (All-from_recursion (λ (q : Param). IsIntegerType (type_of f q.value)) f.params (parameters_are_integers f printable)) stands);
  }

  inst_ready : (b i : ℕ) (block : Block) (inst : Inst) → IsLine f b block i inst → IsReadyInst f inst
  inst_ready b i block inst line =
      let typed = line_is_typed f printable checked.formed.typed b i block inst line in
      record {
        ranges = typed.ranges;
        operands = typed.operands;
        result = λ r e. record {
          below = in_line (λ v. v < length f.values) block.insts i inst r line.stands e
              (second_part (λ v. v < length f.values) (map (λ p. p.result.0) block.phis) (inst_ids block.insts) (names_of b block line.there));
          type_is = line_type f printable b i block inst r line e;
          width = result_width f inst.op typed.ranges;
        };
      }

  phi_ready : (b k : ℕ) (block : Block) (p : Phi) → slice_get f.blocks b ≡ Some block → slice_get block.phis k ≡ Some p → IsReadyPhi f p
  phi_ready b k block p there stands =
      let ranges = each_of (PrintablePhi f) block.phis k p (each_of (PrintableBlock f) f.blocks b block printable.blocks there).phis stands in
      let typed = each_of (TypedPhi f) block.phis k p (each_of (TypedBlock f) f.blocks b block checked.formed.typed there).phis stands in
      record {
        result = record {
          below = in_phis (λ v. v < length f.values) block.phis k p stands
              (first_part (λ v. v < length f.values) (map (λ p. p.result.0) block.phis) (inst_ids block.insts) (names_of b block there));
          type_is = each_of (λ (q : Phi). type_of f q.result ≡ Ty.Int q.width) block.phis k p (All-from_recursion (λ (q : Phi). type_of f q.result ≡ Ty.Int q.width) block.phis (phi_types f printable b block there)) stands;
          width = written_width p.width ranges.width;
        };
        entries = All-from_recursion (λ (e : Operand × BlockId). IsNumberOperand f p.width e.0) p.entries
            (all_from_gets (λ (e : Operand × BlockId). IsNumberOperand f p.width e.0) p.entries (λ i e at. number_operand f p.width e.0 ranges.width
            (each_of (λ (d : Operand × BlockId). IsOperand f p.width d.0 × IsBlock f d.1) p.entries i e ranges.entries at).0 (each_of (λ (d : Operand × BlockId). IsOfType f (Ty.Int p.width) d.0) p.entries i e typed at)));
      }

  block_ready : (b : ℕ) (block : Block) → slice_get f.blocks b ≡ Some block → IsReadyBlock f block
  block_ready b block there = record {
    phis = All-from_recursion (IsReadyPhi f) block.phis (all_from_gets (IsReadyPhi f) block.phis (λ k p stands. phi_ready b k block p there stands));
    insts = All-from_recursion (IsReadyInst f) block.insts (all_from_gets (IsReadyInst f) block.insts (λ i inst stands. inst_ready b i block inst (record { there = there; stands = stands })));
    term = term_ready f block.term (each_of (PrintableBlock f) f.blocks b block printable.blocks there).term (each_of (TypedBlock f) f.blocks b block checked.formed.typed there).terminator;
  }

  pub function_ready : IsReady f
  function_ready = record {
    narrowable = record { equations = typed_equations f printable checked.formed.typed; once = checked.once };
    params = All-from_recursion (λ p. IsNameOf f (type_of f p.value) p.value) f.params (all_from_gets (λ p. IsNameOf f (type_of f p.value) p.value) f.params param_ready);
    blocks = All-from_recursion (IsReadyBlock f) f.blocks (all_from_gets (IsReadyBlock f) f.blocks block_ready);
  }

pub few_names : (f : Function) → IsChecked f → HasFewNames f
few_names f checked = record { values = checked.small.values; edges = checked.small.few.cases }
