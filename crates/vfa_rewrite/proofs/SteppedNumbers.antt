-- Numbering keeps literals where they are.
use Rattle.std.proofs.Common.{◌≡◌, ◌<◌, ℕ, zero, suc, Bool, true, Option, Some, None, List, [], ◌∷◌, map, length, slice_get, refl, sym, ap, ◌∙◌, subst, inr}
use Rattle.std.specs.Prelude.{filter_map}
use Rattle.std.specs.List.{AllByRecursion}
use Rattle.std.specs.Option.{option_map}
use Rattle.std.proofs.lemmas.List.Elements.{recursion_from_All}
use Rattle.std.proofs.lemmas.Option.{same_Some, slice_get-map}
use Rattle.vfa_ir.specs.declared.operations.BlockId.{BlockId}
use Rattle.vfa_ir.specs.declared.operations.Cast.{Cast}
use Rattle.vfa_ir.specs.declared.operations.Op.{Op}
use Rattle.vfa_ir.specs.declared.operations.Operand.{Operand}
use Rattle.vfa_ir.specs.declared.operations.Ty.{Ty}
use Rattle.vfa_ir.specs.declared.operations.ValueId.{ValueId}
use Rattle.vfa_ir.specs.declared.functions.Block.{Block}
use Rattle.vfa_ir.specs.declared.functions.CallArg.{CallArg}
use Rattle.vfa_ir.specs.declared.functions.CallOp.{CallOp}
use Rattle.vfa_ir.specs.declared.functions.Function.{Function}
use Rattle.vfa_ir.specs.declared.functions.Inst.{Inst}
use Rattle.vfa_ir.specs.declared.functions.Phi.{Phi}
use Rattle.vfa_ir.specs.declared.functions.Term.{Term}
use Rattle.vfa_ir.specs.Operands.{arguments_of, operands_of}
use Rattle.vfa_ir.specs.Printable.{call_place, inst_ids}
use Rattle.vfa_ir.specs.Walks.{is_in}
use Rattle.vfa_mean.specs.Numbering.{Covers, KeptPhiFits, KeptPhisFit, MayBeNumbered, kept_numbers, numbered, text_order}
use Rattle.vfa_mean.specs.Renaming.{Order, at_places, place_among, renamed_argument, renamed_block, renamed_call, renamed_entry, renamed_inst, renamed_op, renamed_operand, renamed_phi, renamed_term, renamed_value}
use Rattle.vfa_mean.proofs.FreshOperands.Definitions.{in_first, in_left, in_rest, in_right}
use Rattle.vfa_mean.proofs.KeptParts.{covers_kept, number_kept}
use Rattle.vfa_mean.proofs.PlacesAmong.{at_its_place, place_found}
use Rattle.vfa_mean.proofs.RenamedRuns.{in_option, is_option, value_there}
use Rattle.vfa_rewrite.specs.Marks.{term_operands}
use Rattle.vfa_rewrite.specs.PrintedNumbers.{IsCast, IsDivision, IsSameResult}
use Rattle.vfa_rewrite.proofs.Stepped.{BlockStep, EntryStep, KeepsLiterals, LineStep, LineSteps, PhiStep, SomeStep}

-- ---- literals in lists of operands

-- other operands, where a literal stays as it is
abbrev pub with_put : (Operand → Operand) → Ty × Operand → Ty × Operand
with_put put p = (p.0, put p.1)

pub kept_map : (put : Operand → Operand) → ((x : ℕ) → put (Operand.Literal x) ≡ Operand.Literal x) → (xs : List (Ty × Operand)) → KeepsLiterals xs (map (with_put put) xs)
kept_map put h [] k w x e = absurd (cc)
kept_map put h (p ∷ xs) zero w x e =
    let is : p ≡ (Ty.Int w, Operand.Literal x) = same_Some p (Ty.Int w, Operand.Literal x) e in
    ap (λ (q : Ty × Operand). Some (with_put put q)) is ∙ ap (λ (a : Operand). Some (Ty.Int w, a)) (h x)
kept_map put h (p ∷ xs) (suc k) w x e = kept_map put h xs k w x e

abbrev pub argument_operand : CallArg → Ty × Operand
argument_operand a = (Ty.Int a.width, a.value)

-- arguments of the same widths
pub put_args : (make : CallArg → CallArg) (put : Operand → Operand) → ((a : CallArg) → argument_operand (make a) ≡ with_put put (argument_operand a)) → (args : List CallArg) →
    map argument_operand (map make args) ≡ map (with_put put) (map argument_operand args)
put_args make put h [] = refl
put_args make put h (a ∷ args) = let first = h a in let rest = put_args make put h args in λ i. first i ∷ rest i

pub kept_args : (make : CallArg → CallArg) (put : Operand → Operand) → ((x : ℕ) → put (Operand.Literal x) ≡ Operand.Literal x) → ((a : CallArg) → argument_operand (make a) ≡ with_put put (argument_operand a)) →
    (args : List CallArg) → KeepsLiterals (map argument_operand args) (map argument_operand (map make args))
kept_args make put h same args =
    subst (KeepsLiterals (map argument_operand args)) (sym (put_args make put same args)) (kept_map put h (map argument_operand args))

-- ---- the numbered function

module _ (g : Function) (keeps : ℕ → Bool) (may : MayBeNumbered g keeps) where
  abbrev o : Order
  o = text_order g keeps

  abbrev g' : Function
  g' = numbered g keeps

  covers : Covers o g
  covers = covers_kept g keeps may

  put_literal : (x : ℕ) → renamed_operand o (Operand.Literal x) ≡ Operand.Literal x
  put_literal x = refl

  result_stands : (r : Option ValueId) → ((v : ValueId) → r ≡ Some v → is_in v.0 o.values ≡ true) → IsSameResult g g' r (option_map (renamed_value o) r)
  result_stands None among = tt
  result_stands (Some v) among = value_there o g covers v.0 (among v refl)

  call_stands : (width : Option ℕ) (c : ℕ) → is_in c o.calls ≡ true → KeepsLiterals (operands_of g (Op.Call width c)) (operands_of g' (Op.Call width (place_among o.calls c)))
  call_stands width c among =
      let there : slice_get g'.calls (place_among o.calls c) ≡ option_map (renamed_call o) (slice_get g.calls c) =
      slice_get-map (renamed_call o) (at_places g.calls o.calls) (place_among o.calls c) ∙ ap (option_map (renamed_call o)) (at_its_place g.calls o.calls covers.calls c among) in
      subst (λ q. KeepsLiterals (arguments_of (slice_get g.calls c)) (arguments_of q)) (sym there) (by (slice_get g.calls c))
    where
      by : (q : Option CallOp) → KeepsLiterals (arguments_of q) (arguments_of (option_map (renamed_call o) q))
      by None = λ k w x e. absurd (cc)
      by (Some call) = kept_args (renamed_argument o) (renamed_operand o) put_literal (λ a. refl) call.args

  op_stands : (op : Op) → ((c : ℕ) → call_place op ≡ Some c → is_in c o.calls ≡ true) → KeepsLiterals (operands_of g op) (operands_of g' (renamed_op o op))
  op_stands (Op.Bin bin flags w a b) among = kept_map (renamed_operand o) put_literal (operands_of g (Op.Bin bin flags w a b))
  op_stands (Op.Icmp pred samesign w a b) among = kept_map (renamed_operand o) put_literal (operands_of g (Op.Icmp pred samesign w a b))
  op_stands (Op.Select w c a b) among = kept_map (renamed_operand o) put_literal (operands_of g (Op.Select w c a b))
  op_stands (Op.Cast cast flags v w a) among = kept_map (renamed_operand o) put_literal (operands_of g (Op.Cast cast flags v w a))
  op_stands (Op.Freeze w a) among = kept_map (renamed_operand o) put_literal (operands_of g (Op.Freeze w a))
  op_stands (Op.Two fun w a b) among = kept_map (renamed_operand o) put_literal (operands_of g (Op.Two fun w a b))
  op_stands (Op.One fun w a strict) among = kept_map (renamed_operand o) put_literal (operands_of g (Op.One fun w a strict))
  op_stands (Op.Over over w a b) among = kept_map (renamed_operand o) put_literal (operands_of g (Op.Over over w a b))
  op_stands (Op.Part w pair index) among = kept_map (renamed_operand o) put_literal (operands_of g (Op.Part w pair index))
  op_stands (Op.Assume c) among = kept_map (renamed_operand o) put_literal (operands_of g (Op.Assume c))
  op_stands (Op.Call width c) among = call_stands width c (among c refl)

  cast_stands : (cast : Cast) (v w : ℕ) (op : Op) → IsCast cast v w op → IsCast cast v w (renamed_op o op)
  cast_stands cast v w (Op.Bin bin flags u a b) h = h
  cast_stands cast v w (Op.Icmp pred samesign u a b) h = h
  cast_stands cast v w (Op.Select u c a b) h = h
  cast_stands cast v w (Op.Cast kind flags from to a) h = h
  cast_stands cast v w (Op.Freeze u a) h = h
  cast_stands cast v w (Op.Two fun u a b) h = h
  cast_stands cast v w (Op.One fun u a strict) h = h
  cast_stands cast v w (Op.Over over u a b) h = h
  cast_stands cast v w (Op.Part u pair index) h = h
  cast_stands cast v w (Op.Assume c) h = h
  cast_stands cast v w (Op.Call width c) h = h

  division_stands : (w : ℕ) (op : Op) → IsDivision w op → IsDivision w (renamed_op o op)
  division_stands w (Op.Bin bin flags u a b) h = h
  division_stands w (Op.Icmp pred samesign u a b) h = h
  division_stands w (Op.Select u c a b) h = h
  division_stands w (Op.Cast kind flags from to a) h = h
  division_stands w (Op.Freeze u a) h = h
  division_stands w (Op.Two fun u a b) h = h
  division_stands w (Op.One fun u a strict) h = h
  division_stands w (Op.Over over u a b) h = h
  division_stands w (Op.Part u pair index) h = h
  division_stands w (Op.Assume c) h = h
  division_stands w (Op.Call width c) h = h

  line_stands : (i : Inst) → ((v : ValueId) → i.result ≡ Some v → is_in v.0 o.values ≡ true) → ((c : ℕ) → call_place i.op ≡ Some c → is_in c o.calls ≡ true) →
      LineStep g g' i (renamed_inst o i)
  line_stands i results calls = record {
    result = result_stands i.result results;
    literals = op_stands i.op calls;
    truncates = λ w v. cast_stands Cast.Trunc w v i.op;
    extends = λ v w. cast_stands Cast.Zext v w i.op;
    divides = λ w. division_stands w i.op;
  }

  abbrev id_of : Inst → Option ℕ
  id_of i = elim i.result [ None ↦ None | Some v ↦ Some v.0 ]

  lines_stand : (insts : List Inst) → ((n : ℕ) → is_in n (inst_ids insts) ≡ true → is_in n o.values ≡ true) →
      ((c : ℕ) → is_in c (filter_map (λ (i : Inst). call_place i.op) insts) ≡ true → is_in c o.calls ≡ true) → LineSteps g g' insts (map (renamed_inst o) insts)
  lines_stand [] results calls = refl
  lines_stand (i ∷ rest) results calls = inr (record {
    first = renamed_inst o i;
    rest = map (renamed_inst o) rest;
    are = refl;
    step = line_stands i (λ v e. results v.0 (is_option (id_of i) v.0 (inst_ids rest) (ap (λ (r : Option ValueId). elim r [ None ↦ None | Some u ↦ Some u.0 ]) e)))
        (λ c e. calls c (is_option (call_place i.op) c (filter_map (λ (i : Inst). call_place i.op) rest) e));
    later = lines_stand rest (λ n t. results n (in_option (id_of i) n (inst_ids rest) t))
        (λ c t. calls c (in_option (call_place i.op) c (filter_map (λ (i : Inst). call_place i.op) rest) t));
  })

  -- ---- phis

  -- block q' of the numbered function stands for this block
  abbrev pub IsFrom : ℕ → ℕ → Type 0
  IsFrom q q' = slice_get (kept_numbers g keeps) q' ≡ Some q

  entries_stand : (es : List (Operand × BlockId)) → AllByRecursion (λ (e : Operand × BlockId). is_in e.1.0 (kept_numbers g keeps) ≡ true) es →
      SomeStep (EntryStep IsFrom) es (map (renamed_entry o) es)
  entries_stand [] all = refl
  entries_stand (e ∷ es) all = inr (record {
    first = renamed_entry o e;
    rest = map (renamed_entry o) es;
    are = refl;
    step = record { from = place_found (kept_numbers g keeps) e.1.0 all.0; literal = λ x is. ap (renamed_operand o) is };
    later = entries_stand es all.1;
  })

  phis_stand : (phis : List Phi) → AllByRecursion (λ (p : Phi). AllByRecursion (λ (e : Operand × BlockId). is_in e.1.0 (kept_numbers g keeps) ≡ true) p.entries) phis →
      ((n : ℕ) → is_in n (map (λ (p : Phi). p.result.0) phis) ≡ true → is_in n o.values ≡ true) → SomeStep (PhiStep g g' IsFrom) phis (map (renamed_phi o) phis)
  phis_stand [] all results = refl
  phis_stand (p ∷ phis) all results =
      let names = map (λ (p : Phi). p.result.0) phis in
      inr (record {
        first = renamed_phi o p;
        rest = map (renamed_phi o) phis;
        are = refl;
        step = record {
          result = value_there o g covers p.result.0 (results p.result.0 (in_first p.result.0 p.result.0 names refl));
          width = refl;
          entries = entries_stand p.entries all.0;
        };
        later = phis_stand phis all.1 (λ n t. results n (in_rest n p.result.0 names t));
      })

  fitting_entries : (b : ℕ) (phis : List Phi) → AllByRecursion (KeptPhiFits g keeps b) phis →
      AllByRecursion (λ (p : Phi). AllByRecursion (λ (e : Operand × BlockId). is_in e.1.0 (kept_numbers g keeps) ≡ true) p.entries) phis
  fitting_entries b [] all = tt
  fitting_entries b (p ∷ phis) all = (
    recursion_from_All (λ (e : Operand × BlockId). is_in e.1.0 (kept_numbers g keeps) ≡ true) p.entries all.0.kept,
    fitting_entries b phis all.1,
  )

  -- ---- terminators

  term_none : (term : Term) → term_operands term ≡ [] → term_operands (renamed_term o term) ≡ []
  term_none (Term.Ret w a) e = absurd (cc)
  term_none (Term.Br to) e = refl
  term_none (Term.CondBr c taken fallen) e = absurd (cc)
  term_none (Term.Switch w on other cases) e = absurd (cc)
  term_none Term.Unreachable e = refl

  term_stands : (term : Term) → KeepsLiterals (term_operands term) (term_operands (renamed_term o term))
  term_stands (Term.Ret w a) = kept_map (renamed_operand o) put_literal (term_operands (Term.Ret w a))
  term_stands (Term.Br to) = kept_map (renamed_operand o) put_literal []
  term_stands (Term.CondBr c taken fallen) = kept_map (renamed_operand o) put_literal (term_operands (Term.CondBr c taken fallen))
  term_stands (Term.Switch w on other cases) = kept_map (renamed_operand o) put_literal (term_operands (Term.Switch w on other cases))
  term_stands Term.Unreachable = kept_map (renamed_operand o) put_literal []

  -- ---- blocks

  pub numbered_stands : KeptPhisFit g keeps → (b : ℕ) (block : Block) → keeps b ≡ true → b < length g.blocks → slice_get g.blocks b ≡ Some block →
      BlockStep g g' IsFrom block (renamed_block o block)
  numbered_stands fit b block kept below there =
      let among = covers.each_block b block (number_kept g keeps b kept below) there in
      let results = map (λ (p : Phi). p.result.0) block.phis in
      record {
        name = refl;
        phis = phis_stand block.phis (fitting_entries b block.phis (recursion_from_All (KeptPhiFits g keeps b) block.phis (fit.phis b block kept there)))
            (λ n t. among.results n (in_left n results (inst_ids block.insts) t));
        insts = lines_stand block.insts (λ n t. among.results n (in_right n results (inst_ids block.insts) t)) among.calls;
        none = term_none block.term;
        literals = term_stands block.term;
      }
