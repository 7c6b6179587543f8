-- Blocks are put one after another.
use Rattle.std.proofs.Common.{◌≡◌, ◌<◌, ◌≤◌, ◌+◌, ℕ, Bool, true, Option, Some, None, is_some, IsSomeAnd, List, [], ◌∷◌, ◌++◌, All, drop, length, get_or, refl, sym, ap, ◌∙◌, subst, add-one, append_assoc}
use Rattle.std.specs.Prelude.{slice_get}
use Rattle.std.specs.Option.{ForSome, option_map}
use Rattle.std.proofs.lemmas.List.{append-nil, drop_all, drop_more}
use Rattle.std.proofs.lemmas.Bool.{eqb-true}
use Rattle.std.proofs.lemmas.Option.{same_Some}
use Rattle.vfa_ir.specs.declared.operations.Op.{Op}
use Rattle.vfa_ir.specs.declared.operations.Operand.{Operand}
use Rattle.vfa_ir.specs.declared.operations.Ty.{Ty}
use Rattle.vfa_ir.specs.declared.functions.Block.{Block}
use Rattle.vfa_ir.specs.declared.functions.CallArg.{CallArg}
use Rattle.vfa_ir.specs.declared.functions.CallOp.{CallOp}
use Rattle.vfa_ir.specs.declared.functions.Function.{Function}
use Rattle.vfa_ir.specs.declared.functions.Inst.{Inst}
use Rattle.vfa_ir.specs.declared.functions.Phi.{Phi}
use Rattle.vfa_ir.specs.declared.functions.Term.{Term}
use Rattle.vfa_ir.specs.Defined.{line_count}
use Rattle.vfa_ir.specs.Printable.{IsPrintable, PrintableArgument, PrintableBlock, PrintableCall, PrintableTerm}
use Rattle.vfa_ir.specs.Typed.{IsOfType, TypedBlock, TypedCall, TypedOp, TypedTerm}
use Rattle.vfa_mean.specs.Moments.{At}
use Rattle.vfa_check.specs.Checked.{IsChecked}
use Rattle.vfa_cond.specs.Conditions.{AreFacts}
use Rattle.vfa_cond.specs.States.{known, Stored}
use Rattle.vfa_cond.proofs.Fitting.{bit_width}
use Rattle.vfa_word.specs.Numbers.{IsWidth}
use Rattle.vfa_walk.specs.Kept.{AreStates, IsStateOf, entry_in, kept_entries}
use Rattle.vfa_walk.specs.Ready.{IsReady}
use Rattle.vfa_walk.specs.TruthLaws.{HasTypedFacts}
use Rattle.vfa_walk.proofs.Found.{kept_is, stored_state}
use Rattle.vfa_walk.proofs.TruthTypes.{each_of, written_width}
use Rattle.vfa_xfer.specs.declared.any_fact.AnyFact.{AnyFact}
use Rattle.vfa_xfer.specs.AnyFacts.{fact_type, IsAnyFact}
use Rattle.vfa_rewrite.specs.ByFacts.{FactState, FactTable, decision_in, fact_state, findings_of}
use Rattle.vfa_rewrite.specs.Findings.{AreFitting, Findings}
use Rattle.vfa_rewrite.specs.Making.{first_marks, makes_call, put_at}
use Rattle.vfa_rewrite.specs.Putting.{AreOthers, IsNamed, IsNamedTerm, IsReadyToPut, put_by, with_body}
use Rattle.vfa_rewrite.specs.Rewritten.{block_left, call_left, lines_left, phis_left, rewritten, rewritten_block, shrunk, term_if_met, term_left, with_numbers}
use Rattle.vfa_rewrite.proofs.Goings.{count_is, insts_are}
use Rattle.vfa_rewrite.proofs.OperandsPut.{named_of, others_typed, puts_are}

-- ---- names of terminators and arguments

of_type_named : (f : Function) (w : ℕ) (a : Operand) → IsWidth w → IsOfType f (Ty.Int w) a → IsNamed f a
of_type_named f w (Operand.Value n) width typed = named_of f (Ty.Int w) (Operand.Value n) width typed
of_type_named f w (Operand.Literal x) width typed = tt
of_type_named f w Operand.Poison width typed = tt

pub term_named : (f : Function) (term : Term) → PrintableTerm f term → TypedTerm f term → IsNamedTerm f term
term_named f (Term.Ret w a) ranges typed = of_type_named f w a (written_width w ranges.0) typed.1
term_named f (Term.Br to) ranges typed = tt
term_named f (Term.CondBr c taken fallen) ranges typed = of_type_named f 1 c bit_width typed
term_named f (Term.Switch w on other cases) ranges typed = of_type_named f w on (written_width w ranges.0) typed.0
term_named f Term.Unreachable ranges typed = tt

pub block_term_named : (f : Function) (t : FactTable) (others : List (Option Operand)) → IsReadyToPut f t others → (b : ℕ) (block : Block) → slice_get f.blocks b ≡ Some block → IsNamedTerm f block.term
block_term_named f t others ready b block there =
    term_named f block.term (each_of (PrintableBlock f) f.blocks b block ready.printable.blocks there).term (each_of (TypedBlock f) f.blocks b block ready.typed there).terminator

-- ---- what is asked of the function

pub facts_of_type : (f : Function) (list : List (Option (Stored AnyFact))) → AreStates fact_type IsAnyFact f list → HasTypedFacts fact_type IsAnyFact f (kept_entries list)
facts_of_type f list states b = subst (λ o. ForSome o (AreFacts fact_type IsAnyFact f)) (sym (kept_is list b)) (by (entry_in list b) (stored_state fact_type IsAnyFact f list b states))
  where
    by : (o : Option (Stored AnyFact)) → ForSome o (IsStateOf fact_type IsAnyFact f) → ForSome (option_map known o) (AreFacts fact_type IsAnyFact f)
    by None h = λ x e. absurd (cc)
    by (Some s) h = λ x e. subst (AreFacts fact_type IsAnyFact f) (same_Some (known s) x e) (h s refl).facts

pub ready_to_put : (f : Function) (t : FactTable) (others : List (Option Operand)) → IsChecked f → IsPrintable f → IsReady f → AreFitting f (findings_of f t) →
    AreOthers f (findings_of f t) others → IsReadyToPut f t others
ready_to_put f t others checked printable ready fits are = record {
  ready = ready;
  printable = printable;
  typed = checked.formed.typed;
  fits = fits;
  in_place = are;
  of_type = others_typed f printable checked.formed.defined ready (findings_of f t) fits others are;
}

-- ---- a terminator

module _ (f : Function) (t : FactTable) (others : List (Option Operand)) (ready : IsReadyToPut f t others) (b : ℕ) (block : Block) (there : slice_get f.blocks b ≡ Some block) (reached : ℕ → Bool) where
  abbrev found : Findings
  found = findings_of f t

  lines_of : line_count f b ≡ length block.insts
  lines_of = count_is f b ∙ ap length (insts_are f b block there)

  pub term_unmet : fact_state f t (At b (line_count f b)) ≡ None → Term.Unreachable ≡ term_left (first_marks f found reached) b block
  term_unmet none =
      let n = length block.insts in
      let here : fact_state f t (At b n) ≡ None = ap (λ k. fact_state f t (At b k)) (sym lines_of) ∙ none in
      ap (λ o. term_if_met (is_some o) (shrunk (put_at f found (At b n)) (found.left b) block.term)) (sym here)

  pub term_met : (s : FactState) → fact_state f t (At b (line_count f b)) ≡ Some s → (left : ℕ → Bool) → ((k : ℕ) → left k ≡ found.left b k) →
      shrunk (put_by f others (Some s)) left block.term ≡ term_left (first_marks f found reached) b block
  term_met s e left lefts =
      let n = length block.insts in
      let here : fact_state f t (At b n) ≡ Some s = ap (λ k. fact_state f t (At b k)) (sym lines_of) ∙ e in
      let puts = puts_are f found (At b n) (Some s) others (λ ty a. ap (λ o. decision_in o ty a) here) ready.in_place in
      (λ i. shrunk (puts i) (λ k. lefts k i) block.term)
      ∙ ap (λ o. term_if_met (is_some o) (shrunk (put_at f found (At b n)) (found.left b) block.term)) (sym here)

-- ---- one block more

pub blocks_more : {A B : Type 0} (make : ℕ → A → B) (blocks : List A) (k : ℕ) (d : A) → k < length blocks → (now new all : List B) (made : B) → made ≡ make k (get_or blocks k d) →
    new ≡ now ++ (made ∷ []) → now ++ with_numbers make k (drop k blocks) ≡ all → new ++ with_numbers make (k + 1) (drop (k + 1) blocks) ≡ all
blocks_more make blocks k d less now new all made is put so_far =
    let rest = with_numbers make (k + 1) (drop (k + 1) blocks) in
    ap (λ l. l ++ rest) put ∙ (append_assoc now (made ∷ []) rest
    ∙ (ap (λ x. now ++ (x ∷ rest)) is
    ∙ (ap (λ n. now ++ (make k (get_or blocks k d) ∷ with_numbers make n (drop (k + 1) blocks))) (add-one k)
    ∙ (ap (λ l. now ++ with_numbers make k l) (sym (drop_more blocks k d less)) ∙ so_far))))

pub blocks_done : {A B : Type 0} (make : ℕ → A → B) (blocks : List A) (k : ℕ) (now all : List B) → length blocks ≤ k →
    now ++ with_numbers make k (drop k blocks) ≡ all → now ≡ all
blocks_done make blocks k now all past h =
    sym (append-nil now) ∙ (ap (λ l. now ++ with_numbers make k l) (sym (drop_all k blocks past)) ∙ h)

-- ---- arguments of calls

pub args_named : (f : Function) (t : FactTable) (others : List (Option Operand)) → IsReadyToPut f t others → (op : Op) → TypedOp f op → (k : ℕ) (call : CallOp) → makes_call k op ≡ true →
    slice_get f.calls k ≡ Some call → All (λ (a : CallArg). IsNamed f a.value) call.args
args_named f t others ready op typed k call makes there = by op typed makes
  where
    printable : All (PrintableArgument f) call.args
    printable = (each_of (PrintableCall f) f.calls k call ready.printable.calls there).arguments

    named : (args : List CallArg) → All (PrintableArgument f) args → All (λ (a : CallArg). IsOfType f (Ty.Int a.width) a.value) args → All (λ (a : CallArg). IsNamed f a.value) args
    named args ranges typed = λ i d less. of_type_named f (get_or args i d).width (get_or args i d).value (written_width (get_or args i d).width (ranges i d less).width) (typed i d less)

    of_call : TypedCall f k → All (λ (a : CallArg). IsNamed f a.value) call.args
    of_call typed = named call.args printable (subst (λ o. IsSomeAnd o (λ c. All (λ (a : CallArg). IsOfType f (Ty.Int a.width) a.value) c.args)) there typed)

    by : (op : Op) → TypedOp f op → makes_call k op ≡ true → All (λ (a : CallArg). IsNamed f a.value) call.args
    by (Op.Bin bin flags w a b) h e = absurd (cc)
    by (Op.Icmp pred samesign w a b) h e = absurd (cc)
    by (Op.Select w c a b) h e = absurd (cc)
    by (Op.Cast cast flags v w a) h e = absurd (cc)
    by (Op.Freeze w a) h e = absurd (cc)
    by (Op.Two fun w a b) h e = absurd (cc)
    by (Op.One fun w a strict) h e = absurd (cc)
    by (Op.Over over w a b) h e = absurd (cc)
    by (Op.Part w pair index) h e = absurd (cc)
    by (Op.Assume c) h e = absurd (cc)
    by (Op.Call w number) h e = of_call (subst (TypedCall f) (eqb-true number k e) h)

-- ---- a block of its parts

pub block_is : (f : Function) (of : Findings) (reached : ℕ → Bool) (b : ℕ) (block : Block) (name : Option (List ℕ)) (phis : List Phi) (insts : List Inst) (term : Term) →
    name ≡ block.name → phis ≡ phis_left f (first_marks f of reached) b block.phis → insts ≡ lines_left (first_marks f of reached) b 0 block.insts →
    term ≡ term_left (first_marks f of reached) b block → ◌≡◌ {A = Block} (record { name = name; phis = phis; insts = insts; term = term }) (rewritten_block f (first_marks f of reached) b block)
block_is f of reached b block name phis insts term n p i t = λ j. record { name = n j; phis = p j; insts = i j; term = t j }

pub body_is : (f : Function) (of : Findings) (reached : ℕ → Bool) (blocks : List Block) (calls : List CallOp) →
    blocks ≡ with_numbers (block_left f (first_marks f of reached)) 0 f.blocks → calls ≡ with_numbers (call_left (first_marks f of reached)) 0 f.calls →
    with_body f blocks calls ≡ rewritten f (first_marks f of reached)
body_is f of reached blocks calls b c =
    λ i. record { name = f.name; lead = f.lead; width = f.width; params = f.params; tail = f.tail; values = sym (append-nil f.values) i; blocks = b i; calls = c i }
