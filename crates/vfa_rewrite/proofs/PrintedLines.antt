-- Of a function that is rewritten by a table of facts each operand that the table knows to be one number is left as that number.
use Rattle.std.proofs.Common.{◌≡◌, ◌<◌, ◌≤◌, ℕ, zero, suc, ◌+◌, ◌-◌, ◌%◌, ◌^◌, ◌++◌, Bool, true, false, nat_eq, if◌then◌else◌, ◌⊎◌, Option, Some, None, List, [], ◌∷◌, map, length, is_some, slice_get, refl, sym, ap, ◌∙◌, subst, inl, inr, arith}
use Rattle.std.specs.List.{AllByRecursion, range_with_len}
use Rattle.std.proofs.lemmas.Bool.{cases_Bool}
use Rattle.std.proofs.lemmas.List.Elements.{recursion_from_All}
use Rattle.std.proofs.lemmas.Option.{same_Some}
use Rattle.vfa_ir.specs.declared.operations.BlockId.{BlockId}
use Rattle.vfa_ir.specs.declared.operations.Cast.{Cast}
use Rattle.vfa_ir.specs.declared.operations.Op.{Op}
use Rattle.vfa_ir.specs.declared.operations.Operand.{Operand}
use Rattle.vfa_ir.specs.declared.operations.Ty.{Ty}
use Rattle.vfa_ir.specs.declared.operations.ValueId.{ValueId}
use Rattle.vfa_ir.specs.declared.functions.Block.{Block}
use Rattle.vfa_ir.specs.declared.functions.CallOp.{CallOp}
use Rattle.vfa_ir.specs.declared.functions.Function.{Function}
use Rattle.vfa_ir.specs.declared.functions.Inst.{Inst}
use Rattle.vfa_ir.specs.declared.functions.Phi.{Phi}
use Rattle.vfa_ir.specs.declared.functions.Term.{Term}
use Rattle.vfa_ir.specs.Operands.{arguments_of, no_cast_flags, operands_of}
use Rattle.vfa_ir.specs.Printable.{IsBlock, IsOperand, PrintableBlock, PrintablePhi}
use Rattle.vfa_dom.proofs.SetSearches.{single_of_is}
use Rattle.vfa_fact.specs.declared.cell.Parts.{Parts}
use Rattle.vfa_fact.specs.declared.numbers.Numbers.{Numbers}
use Rattle.vfa_fact.specs.Cells.{CellValue, in_cell, in_option}
use Rattle.vfa_mean.specs.Moments.{Place, Into, At, IsLine, is_call}
use Rattle.vfa_mean.specs.Operands.{IsOperation}
use Rattle.vfa_walk.proofs.TruthTypes.{each_of, is_operation, line_is_typed}
use Rattle.vfa_walk.specs.Stepping.{fact_of}
use Rattle.vfa_xfer.specs.Constants.{single_in}
use Rattle.vfa_xfer.specs.Transfers.{fact_answers}
use Rattle.vfa_rules.specs.declared.change.Change.{Change}
use Rattle.vfa_rules.specs.Order.{Known as KnownFacts}
use Rattle.vfa_rules.specs.Shapes.{FitsChange, HasOperandsOf}
use Rattle.vfa_rules.proofs.Fitting.{changed_fits}
use Rattle.vfa_rewrite.specs.ByFacts.{FactState, FactTable, change_in, decided_by, decision_in, decision_of, fact_state, facts_known, findings_of, one_or_undecided}
use Rattle.vfa_rewrite.specs.Findings.{Findings, IsFitting, OneNumber, operation_of}
use Rattle.vfa_rewrite.specs.Marks.{Becomes, BlockIsMarked, EntryIsMarked, IsPut, LineIsMarked, number, term_operands}
use Rattle.vfa_rewrite.specs.PrintedNumbers.{ArePrinted, AreInPlaceOf, HaveOnlyNumber, IsBlockFor, IsCast, IsEndFor, IsEntryFor, IsOneNumber, IsOnlyNumber, IsPhiFor, IsSameResult, PrintNumbers, PrintNumbersAt, StandForSome, division_lines, end, gone, next, none, nothing, one_line, stands}
use Rattle.vfa_rewrite.specs.Rewritten.{Marks, argument_left, call_left, cases_left, changed, changed_by, edges_of, entries_left, if_counted, if_left, if_met, if_stays, kept_phis, line_of, lines_left, many_ways, name_of, narrowed, one_fewer, one_way, phi_left, phis_if_met, phis_left, rewritten, rewritten_block, shrunk, term_if_met, term_left, truncated_operand, truncation, two_ways, with_operands}
use Rattle.vfa_rewrite.proofs.ChangePrints.{fitting}
use Rattle.vfa_rewrite.proofs.Left.{get_before, made_at}
use Rattle.vfa_rewrite.proofs.LeftLines.{Known}
use Rattle.vfa_rewrite.proofs.Lines.{call_tells}
use Rattle.vfa_rewrite.proofs.MarkedBlocks.{all_at}
use Rattle.vfa_rewrite.proofs.NarrowedDivisions.{NarrowsDivision, narrows_division}
use Rattle.vfa_rewrite.proofs.OneOperand.{becomes_one}
use Rattle.vfa_rewrite.proofs.Ranges.{defines_once, phi_below, result_below}
use Rattle.vfa_rewrite.proofs.SteppedNumbers.{argument_operand, put_args, with_put}

-- ---- lists

pub range_at : (a n i : ℕ) → i < n → slice_get (range_with_len a n) i ≡ Some (a + i)
range_at a zero i l = absurd (omega arith)
range_at a (suc n) zero l = ap Some (omega arith)
range_at a (suc n) (suc i) l = range_at (a + 1) n i (omega arith) ∙ ap Some (omega arith)

grouped : {A : Type 0} (a b c : List A) → (a ++ b) ++ c ≡ a ++ (b ++ c)
grouped [] b c = refl
grouped (x ∷ a) b c = ap (λ rest. x ∷ rest) (grouped a b c)

both : (P : Inst → Type 0) (xs ys : List Inst) → AllByRecursion P xs → AllByRecursion P ys → AllByRecursion P (xs ++ ys)
both P [] ys h k = k
both P (x ∷ xs) ys h k = (h.0, both P xs ys h.1 k)

-- ---- decisions

of_numbers : (c : CellValue) (x : ℕ) (o : Option Numbers) → c.numbers ≡ o → IsOnlyNumber c x → decided_by o (single_in c) ≡ OneNumber x
unfolding in_option
of_numbers c x None e only = absurd (let no : in_option c.width c.numbers x ≡ false = ap (λ n. in_option c.width n x) e in let yes = only.member in cc)
of_numbers c x (Some n) e only = ap one_or_undecided (single_of_is c.width (in_cell c) x only.fits only.member only.only)

of_parts : (p : Parts) (x : ℕ) → HaveOnlyNumber p x → decision_of p ≡ OneNumber x
of_parts (Parts.One c) x h = of_numbers c x c.numbers refl h
of_parts (Parts.Two c d) x h = absurd h

abbrev typed : Ty → Operand → Ty × Operand
typed ty a = (ty, a)

no_pair : (u k w : ℕ) (p a : Operand) → slice_get (typed (Ty.Pair u) p ∷ []) k ≡ Some (typed (Ty.Int w) a) → ⊥
no_pair u zero w p a e =
    let same = same_Some (typed (Ty.Pair u) p) (typed (Ty.Int w) a) e in
    let kinds : Ty.Pair u ≡ Ty.Int w = ap (λ (q : Ty × Operand). q.0) same in
    cc
no_pair u (suc k) w p a e = cc

module _ (f : Function) (t : FactTable) (m : Marks) (known : Known f (findings_of f t) m) where
  abbrev found : Findings
  found = findings_of f t

  abbrev r : Function
  r = rewritten f m

  decided : (place : Place) (w : ℕ) (a : Operand) (x : ℕ) → IsOneNumber f t place w a x → found.decision place (Ty.Int w) a ≡ OneNumber x
  decided place w a x one =
      ap (λ (o : Option FactState). decision_in o (Ty.Int w) a) one.is_state ∙ of_parts (fact_of fact_answers one.state (Ty.Int w) a).parts x one.only

  became : (place : Place) (w : ℕ) (a a' : Operand) (x : ℕ) → Becomes f found place (Ty.Int w) a a' → IsOneNumber f t place w a x → a' ≡ Operand.Literal x
  became place w a a' x h one =
      becomes_one f (defines_once f known.printable) found place (Ty.Int w) a a' (Operand.Literal x) h (number a x (decided place w a x one))

  numbers_put : (place : Place) (put : Operand → Operand) (xs : List (Ty × Operand)) → AllByRecursion (IsPut f found place put) xs → PrintNumbers f t place xs (map (with_put put) xs)
  numbers_put place put [] all k w x a e one = absurd (cc)
  numbers_put place put (p ∷ xs) all zero w x a e one =
      let is : p ≡ (Ty.Int w, a) = same_Some p (Ty.Int w, a) e in
      let here : IsPut f found place put (Ty.Int w, a) = subst (IsPut f found place put) is all.0 in
      ap (λ (q : Ty × Operand). Some (with_put put q)) is ∙ ap (λ (b : Operand). Some (Ty.Int w, b)) (became place w a (put a) x here one)
  numbers_put place put (p ∷ xs) all (suc k) w x a e one = numbers_put place put xs all.1 k w x a e one

  -- ---- an instruction

  module _ (b : ℕ) (block : Block) (i : ℕ) (inst : Inst) (line : IsLine f b block i inst) (met : m.met b i ≡ true) (marked : LineIsMarked f found m b i inst) where
    abbrev place : Place
    place = At b i

    abbrev put : Operand → Operand
    put = m.put (At b i)

    is_met : found.met b i ≡ true
    is_met = sym (known.marks.met b i) ∙ met

    same_result : (o : Option ValueId) → inst.result ≡ o → IsSameResult f r o o
    same_result None e = tt
    same_result (Some v) e = get_before f.values m.added v.0 (result_below f known.printable b i block inst v line e)

    -- what the rules make of it
    record IsByRules (change : Change) : Type 0 where
      facts : KnownFacts
      fits : FitsChange f facts inst.op change
      divides : NarrowsDivision change

    by_rules : is_call inst.op ≡ false → IsByRules (found.change b i inst)
    by_rules plain = of_state (fact_state f t (At b i)) is_met
      where
        of_state : (o : Option FactState) → is_some o ≡ true → IsByRules (change_in f o inst)
        of_state None e = absurd (cc)
        of_state (Some s) e = record {
          facts = facts_known f s inst;
          fits = changed_fits f (facts_known f s inst) inst.op (fitting f known.printable known.typed s inst (line_is_typed f known.printable known.typed b i block inst line));
          divides = narrows_division (facts_known f s inst) inst.op plain;
        }

    -- operands of an operation with its own operands, or of an intrinsic in place of the part of a pair
    with_own : (facts : KnownFacts) (old op : Op) (printed : List (Ty × Operand)) → is_call old ≡ false → HasOperandsOf f facts old op → PrintNumbers f t place (operands_of f op) printed →
        PrintNumbers f t place (operands_of f old) printed
    with_own facts (Op.Bin bin flags w a b) op printed plain h p = subst (λ xs. PrintNumbers f t place xs printed) h p
    with_own facts (Op.Icmp pred samesign w a b) op printed plain h p = subst (λ xs. PrintNumbers f t place xs printed) h p
    with_own facts (Op.Select w c a b) op printed plain h p = subst (λ xs. PrintNumbers f t place xs printed) h p
    with_own facts (Op.Cast cast flags v w a) op printed plain h p = subst (λ xs. PrintNumbers f t place xs printed) h p
    with_own facts (Op.Freeze w a) op printed plain h p = subst (λ xs. PrintNumbers f t place xs printed) h p
    with_own facts (Op.Two fun w a b) op printed plain h p = subst (λ xs. PrintNumbers f t place xs printed) h p
    with_own facts (Op.One fun w a strict) op printed plain h p = subst (λ xs. PrintNumbers f t place xs printed) h p
    with_own facts (Op.Over over w a b) op printed plain h p = subst (λ xs. PrintNumbers f t place xs printed) h p
    with_own facts (Op.Part u pair index) op printed plain h p = λ k w x a e one. absurd (no_pair u k w (Operand.Value pair) a e)
    with_own facts (Op.Assume c) op printed plain h p = subst (λ xs. PrintNumbers f t place xs printed) h p
    with_own facts (Op.Call width c) op printed plain h p = absurd (cc)

    -- the same at a lesser width
    with_own_at : (v : ℕ) (facts : KnownFacts) (old op : Op) (printed : List (Ty × Operand)) → is_call old ≡ false → HasOperandsOf f facts old op →
        PrintNumbersAt v f t place (operands_of f op) printed → PrintNumbersAt v f t place (operands_of f old) printed
    with_own_at v facts (Op.Bin bin flags w a b) op printed plain h p = subst (λ xs. PrintNumbersAt v f t place xs printed) h p
    with_own_at v facts (Op.Icmp pred samesign w a b) op printed plain h p = subst (λ xs. PrintNumbersAt v f t place xs printed) h p
    with_own_at v facts (Op.Select w c a b) op printed plain h p = subst (λ xs. PrintNumbersAt v f t place xs printed) h p
    with_own_at v facts (Op.Cast cast flags u w a) op printed plain h p = subst (λ xs. PrintNumbersAt v f t place xs printed) h p
    with_own_at v facts (Op.Freeze w a) op printed plain h p = subst (λ xs. PrintNumbersAt v f t place xs printed) h p
    with_own_at v facts (Op.Two fun w a b) op printed plain h p = subst (λ xs. PrintNumbersAt v f t place xs printed) h p
    with_own_at v facts (Op.One fun w a strict) op printed plain h p = subst (λ xs. PrintNumbersAt v f t place xs printed) h p
    with_own_at v facts (Op.Over over w a b) op printed plain h p = subst (λ xs. PrintNumbersAt v f t place xs printed) h p
    with_own_at v facts (Op.Part u pair index) op printed plain h p = λ k w x a e one. absurd (no_pair u k w (Operand.Value pair) a e)
    with_own_at v facts (Op.Assume c) op printed plain h p = subst (λ xs. PrintNumbersAt v f t place xs printed) h p
    with_own_at v facts (Op.Call width c) op printed plain h p = absurd (cc)

    op_numbers : (op : Op) → IsOperation op → AllByRecursion (IsPut f found place put) (operands_of f op) → PrintNumbers f t place (operands_of f op) (operands_of r (with_operands put op))
    op_numbers (Op.Bin bin flags w a b) is all = numbers_put place put (operands_of f (Op.Bin bin flags w a b)) all
    op_numbers (Op.Icmp pred samesign w a b) is all = numbers_put place put (operands_of f (Op.Icmp pred samesign w a b)) all
    op_numbers (Op.Select w c a b) is all = numbers_put place put (operands_of f (Op.Select w c a b)) all
    op_numbers (Op.Cast cast flags v w a) is all = numbers_put place put (operands_of f (Op.Cast cast flags v w a)) all
    op_numbers (Op.Freeze w a) is all = numbers_put place put (operands_of f (Op.Freeze w a)) all
    op_numbers (Op.Two fun w a b) is all = numbers_put place put (operands_of f (Op.Two fun w a b)) all
    op_numbers (Op.One fun w a strict) is all = numbers_put place put (operands_of f (Op.One fun w a strict)) all
    op_numbers (Op.Over over w a b) is all = numbers_put place put (operands_of f (Op.Over over w a b)) all
    op_numbers (Op.Part u pair index) is all = λ k w x a e one. absurd (no_pair u k w (Operand.Value pair) a e)
    op_numbers (Op.Assume c) is all = numbers_put place put (operands_of f (Op.Assume c)) all
    op_numbers (Op.Call width c) is all = absurd is

    -- a call
    call_numbers : (width : Option ℕ) (c : ℕ) → inst.op ≡ Op.Call width c → AllByRecursion (IsPut f found place put) (operands_of f (Op.Call width c)) →
        PrintNumbers f t place (operands_of f (Op.Call width c)) (operands_of r (Op.Call width c))
    call_numbers width c is = by (slice_get f.calls c) refl
      where
        by : (q : Option CallOp) → slice_get f.calls c ≡ q → AllByRecursion (IsPut f found place put) (arguments_of q) → PrintNumbers f t place (arguments_of q) (arguments_of (slice_get r.calls c))
        by None e all = λ k w x a s one. absurd (cc)
        by (Some call) e all =
            let there : slice_get r.calls c ≡ Some (call_left m c call) = made_at (call_left m) f.calls c call e in
            let args : map argument_operand (map (argument_left (m.put_call c)) call.args) ≡ map (with_put put) (map argument_operand call.args) =
            put_args (argument_left (m.put_call c)) put (λ a. ap (λ (z : Operand). (Ty.Int a.width, z)) (marked.arguments width c is a.value)) call.args in
            subst (λ q. PrintNumbers f t place (map argument_operand call.args) (arguments_of q)) (sym there)
            (subst (PrintNumbers f t place (map argument_operand call.args)) (sym args) (numbers_put place put (map argument_operand call.args) all))

    -- ---- a line

    keep : (op : Op) → found.change b i inst ≡ Change.Keep op → AreInPlaceOf f t r place inst (line_of inst.result (with_operands put op) ∷ [])
    keep op e = one_line (line_of inst.result (with_operands put op)) (record { result = same_result inst.result refl; operands = by (cases_Bool (is_call inst.op)) })
      where
        all : AllByRecursion (IsPut f found place put) (operands_of f op)
        all = subst (λ c. AllByRecursion (IsPut f found place put) (operands_of f (operation_of c inst.op))) e marked.operands

        by : (is_call inst.op ≡ true) ⊎ (is_call inst.op ≡ false) → PrintNumbers f t place (operands_of f inst.op) (operands_of r (with_operands put op))
        by (inl calls) =
            let c = call_tells inst.op calls in
            let kept : Change.Keep op ≡ Change.Keep inst.op = sym e ∙ known.fits.call b block i inst line calls in
            let same : op ≡ Op.Call c.width c.place = ap (λ z. operation_of z inst.op) kept ∙ c.is in
            subst (λ (o : Op). PrintNumbers f t place (operands_of f o) (operands_of r (with_operands put op))) (sym c.is)
            (subst (λ (o : Op). PrintNumbers f t place (operands_of f (Op.Call c.width c.place)) (operands_of r (with_operands put o))) (sym same)
            (call_numbers c.width c.place c.is (subst (λ (o : Op). AllByRecursion (IsPut f found place put) (operands_of f o)) same all)))
        by (inr plain) =
            let rules = by_rules plain in
            let fits : FitsChange f rules.facts inst.op (Change.Keep op) = subst (FitsChange f rules.facts inst.op) e rules.fits in
            let form : IsFitting f inst.op (Change.Keep op) = subst (IsFitting f inst.op) e (known.fits.change b block i inst line is_met plain).fits in
            with_own rules.facts inst.op op (operands_of r (with_operands put op)) plain fits.operands (op_numbers op form.1 all)

    uses : (u : Operand) → found.change b i inst ≡ Change.Uses u → AreInPlaceOf f t r place inst (line_of inst.result (with_operands put inst.op) ∷ [])
    uses u e = one_line (line_of inst.result (with_operands put inst.op)) (record { result = same_result inst.result refl; operands = by (cases_Bool (is_call inst.op)) })
      where
        all : AllByRecursion (IsPut f found place put) (operands_of f inst.op)
        all = subst (λ c. AllByRecursion (IsPut f found place put) (operands_of f (operation_of c inst.op))) e marked.operands

        own_operation : is_call inst.op ≡ false → IsOperation inst.op
        own_operation plain = is_operation f inst.op plain (line_is_typed f known.printable known.typed b i block inst line)

        by : (is_call inst.op ≡ true) ⊎ (is_call inst.op ≡ false) → PrintNumbers f t place (operands_of f inst.op) (operands_of r (with_operands put inst.op))
        by (inl calls) = absurd (let kept : Change.Uses u ≡ Change.Keep inst.op = sym e ∙ known.fits.call b block i inst line calls in cc)
        by (inr plain) = op_numbers inst.op (own_operation plain) all

    truncations : (w v : ℕ) (a : Operand) (n : ℕ) → AllByRecursion (λ (line : Inst). IsCast Cast.Trunc w v line.op) (truncation w v a n)
    truncations w v (Operand.Value u) n = ((refl, refl, refl), tt)
    truncations w v (Operand.Literal x) n = tt
    truncations w v Operand.Poison n = tt

    narrow : (op : Op) (v : ℕ) → found.change b i inst ≡ Change.Narrow op v → AreInPlaceOf f t r place inst (narrowed (m.fresh b i) v inst.result (with_operands put op))
    narrow op v e = by (cases_Bool (is_call inst.op))
      where
        all : AllByRecursion (IsPut f found place put) (operands_of f op)
        all = subst (λ c. AllByRecursion (IsPut f found place put) (operands_of f (operation_of c inst.op))) e marked.operands

        here : (w : ℕ) (y : Operand) (q u x : ℕ) (d : Operand) → IsPut f found place put (typed (Ty.Int w) y) → Some (typed (Ty.Int w) y) ≡ Some (typed (Ty.Int u) d) → IsOneNumber f t place u d x →
            truncated_operand v (put y) q ≡ Operand.Literal (x % 2 ^ v)
        here w y q u x d is s one =
            let same : typed (Ty.Int w) y ≡ typed (Ty.Int u) d = same_Some (typed (Ty.Int w) y) (typed (Ty.Int u) d) s in
            let there : IsPut f found place put (typed (Ty.Int u) d) = subst (IsPut f found place put) same is in
            let operand : y ≡ d = ap (λ (z : Ty × Operand). z.1) same in
            ap (λ (z : Operand). truncated_operand v (put z) q) operand ∙ ap (λ (z : Operand). truncated_operand v z q) (became place u d (put d) x there one)

        at_width : (w : ℕ) (a c : Operand) (n k : ℕ) → IsPut f found place put (typed (Ty.Int w) a) → IsPut f found place put (typed (Ty.Int w) c) →
            PrintNumbersAt v f t place (typed (Ty.Int w) a ∷ (typed (Ty.Int w) c ∷ []))
            (typed (Ty.Int v) (truncated_operand v (put a) n) ∷ (typed (Ty.Int v) (truncated_operand v (put c) k) ∷ []))
        at_width w a c n k is is' zero u x d s one = ap (λ (z : Operand). Some (typed (Ty.Int v) z)) (here w a n u x d is s one)
        at_width w a c n k is is' (suc zero) u x d s one = ap (λ (z : Operand). Some (typed (Ty.Int v) z)) (here w c k u x d is' s one)
        at_width w a c n k is is' (suc (suc j)) u x d s one = absurd (cc)

        lines : (op : Op) → is_call inst.op ≡ false → (facts : KnownFacts) → HasOperandsOf f facts inst.op op → NarrowsDivision (Change.Narrow op v) → IsFitting f inst.op (Change.Narrow op v) →
            AllByRecursion (IsPut f found place put) (operands_of f op) → AreInPlaceOf f t r place inst (narrowed (m.fresh b i) v inst.result (with_operands put op))
        lines (Op.Bin bin flags w a c) plain facts own divides form puts =
            let front = truncation w v (put a) (m.fresh b i 0) in
            let second = truncation w v (put c) (m.fresh b i 1) in
            let division : Inst = line_of (Some (name_of (m.fresh b i 2))) (Op.Bin bin flags v (truncated_operand v (put a) (m.fresh b i 0)) (truncated_operand v (put c) (m.fresh b i 1))) in
            let behind : List Inst = line_of inst.result (Op.Cast Cast.Zext no_cast_flags v w (Operand.Value (name_of (m.fresh b i 2)))) ∷ [] in
            division_lines (front ++ (second ++ (division ∷ behind))) w v (record {
              lesser = form.3;
              before = front ++ second;
              division = division;
              behind = behind;
              are = sym (grouped front second (division ∷ behind));
              truncate = both (λ (line : Inst). IsCast Cast.Trunc w v line.op) front second (truncations w v (put a) (m.fresh b i 0)) (truncations w v (put c) (m.fresh b i 1));
              divides = (divides, refl);
              extend = ((same_result inst.result refl, (refl, refl, refl)), tt);
              operands = with_own_at v facts inst.op (Op.Bin bin flags w a c) (operands_of r division.op) plain own (at_width w a c (m.fresh b i 0) (m.fresh b i 1) puts.0 puts.1.0);
            })
        lines (Op.Icmp pred samesign w a c) plain facts own divides form puts = absurd divides
        lines (Op.Select w d a c) plain facts own divides form puts = absurd divides
        lines (Op.Cast cast flags u w a) plain facts own divides form puts = absurd divides
        lines (Op.Freeze w a) plain facts own divides form puts = absurd divides
        lines (Op.Two fun w a c) plain facts own divides form puts = absurd divides
        lines (Op.One fun w a strict) plain facts own divides form puts = absurd divides
        lines (Op.Over over w a c) plain facts own divides form puts = absurd divides
        lines (Op.Part w pair index) plain facts own divides form puts = absurd divides
        lines (Op.Assume c) plain facts own divides form puts = absurd divides
        lines (Op.Call width c) plain facts own divides form puts = absurd divides

        by : (is_call inst.op ≡ true) ⊎ (is_call inst.op ≡ false) → AreInPlaceOf f t r place inst (narrowed (m.fresh b i) v inst.result (with_operands put op))
        by (inl calls) = absurd (let kept : Change.Narrow op v ≡ Change.Keep inst.op = sym e ∙ known.fits.call b block i inst line calls in cc)
        by (inr plain) =
            let rules = by_rules plain in
            let fits : FitsChange f rules.facts inst.op (Change.Narrow op v) = subst (FitsChange f rules.facts inst.op) e rules.fits in
            let form : IsFitting f inst.op (Change.Narrow op v) = subst (IsFitting f inst.op) e (known.fits.change b block i inst line is_met plain).fits in
            lines op plain rules.facts fits.0.operands (subst NarrowsDivision e rules.divides) form all

    in_place : AreInPlaceOf f t r place inst (changed m b i inst)
    in_place = subst (λ c. AreInPlaceOf f t r place inst (changed_by c m b i inst)) (sym marked.change) (by (found.change b i inst) refl)
      where
        by : (c : Change) → found.change b i inst ≡ c → AreInPlaceOf f t r place inst (changed_by c m b i inst)
        by (Change.Keep op) e = keep op e
        by (Change.Narrow op v) e = narrow op v e
        by (Change.Uses u) e = uses u e
        by Change.Gone e = nothing

  -- ---- a block

  module _ (b : ℕ) (block : Block) (there : slice_get f.blocks b ≡ Some block) (reached : m.reached b ≡ true) where
    own_marks : BlockIsMarked f found m b block
    own_marks = known.marks.blocks b block there reached

    all_gone : (i : ℕ) (insts : List Inst) → ArePrinted f t r b i insts []
    all_gone i [] = end i
    all_gone i (inst ∷ rest) = next i inst rest [] [] nothing (all_gone (suc i) rest)

    abbrev StandIn : ℕ → List Inst → Type 0
    StandIn i insts = (k : ℕ) (inst : Inst) → slice_get insts k ≡ Some inst → slice_get block.insts (i + k) ≡ Some inst

    line_stands : (i : ℕ) (inst : Inst) (rest : List Inst) → slice_get block.insts i ≡ Some inst → ArePrinted f t r b (suc i) rest (lines_left m b (suc i) rest) →
        ArePrinted f t r b i (inst ∷ rest) (lines_left m b i (inst ∷ rest))
    line_stands i inst rest here later = met (m.met b i) refl
      where
        staying : (s : Bool) → m.met b i ≡ true → ArePrinted f t r b i (inst ∷ rest) (if_stays s (changed m b i inst) (lines_left m b (suc i) rest))
        staying true e =
            next i inst rest (changed m b i inst) (lines_left m b (suc i) rest) (in_place b block i inst (record { there = there; stands = here }) e (own_marks.lines i inst here e)) later
        staying false e = next i inst rest [] (lines_left m b (suc i) rest) nothing later

        met : (s : Bool) → m.met b i ≡ s → ArePrinted f t r b i (inst ∷ rest) (if_met s (if_stays (m.stays b i) (changed m b i inst) (lines_left m b (suc i) rest)))
        met true e = staying (m.stays b i) e
        met false e = all_gone i (inst ∷ rest)

    lines_stand : (i : ℕ) (insts : List Inst) → StandIn i insts → ArePrinted f t r b i insts (lines_left m b i insts)
    lines_stand i [] stand = end i
    lines_stand i (inst ∷ rest) stand =
        let first : i + 0 ≡ i = omega arith in
        line_stands i inst rest (subst (λ n. slice_get block.insts n ≡ Some inst) first (stand 0 inst refl))
        (lines_stand (suc i) rest (λ k x e. let at : i + suc k ≡ suc i + k = omega arith in subst (λ n. slice_get block.insts n ≡ Some x) at (stand (suc k) x e)))

    -- ---- phis

    abbrev all_blocks : List ℕ
    all_blocks = range_with_len 0 (length f.blocks)

    abbrev AtMost : (ℕ → ℕ) → Type 0
    AtMost count = (p : ℕ) → count p ≤ edges_of f m b p

    abbrev StandFor : ℕ → List (Operand × BlockId) → (ℕ → ℕ) → Type 0
    StandFor w es count = StandForSome (IsEntryFor f t all_blocks b w) es (entries_left m b es count)

    entry_stands : (w : ℕ) (e : Operand × BlockId) (es : List (Operand × BlockId)) (count : ℕ → ℕ) → AtMost count → EntryIsMarked f found m b w e → e.1.0 < length f.blocks →
        ((later : ℕ → ℕ) → AtMost later → StandFor w es later) → StandFor w (e ∷ es) count
    entry_stands w e es count less marked within rest = by (count e.1.0) refl
      where
        fewer_at : (p : ℕ) (s : Bool) → count p ≤ edges_of f m b p → (if s then count p - 1 else count p) ≤ edges_of f m b p
        fewer_at p true l = omega (arith, l)
        fewer_at p false l = l

        by : (n : ℕ) → count e.1.0 ≡ n → StandForSome (IsEntryFor f t all_blocks b w) (e ∷ es)
            (if_counted n ((m.put (Into (Some e.1.0) b) e.0, e.1) ∷ entries_left m b es (one_fewer count e.1.0)) (entries_left m b es count))
        by zero s = gone e es (entries_left m b es count) (rest count less)
        by (suc n) s =
            let counted : edges_of f m b e.1.0 ≡ 0 → ⊥ = λ z. let l = less e.1.0 in omega (arith, l, s, z) in
            stands e es (m.put (Into (Some e.1.0) b) e.0, e.1) (entries_left m b es (one_fewer count e.1.0))
            (record {
              from = let at : 0 + e.1.0 ≡ e.1.0 = omega arith in range_at 0 (length f.blocks) e.1.0 within ∙ ap Some at;
              number = λ x one. became (Into (Some e.1.0) b) w e.0 (m.put (Into (Some e.1.0) b) e.0) x (marked.put counted) one;
            })
            (rest (one_fewer count e.1.0) (λ p. fewer_at p (nat_eq p e.1.0) (less p)))

    entries_stand : (w : ℕ) (es : List (Operand × BlockId)) → AllByRecursion (EntryIsMarked f found m b w) es → AllByRecursion (λ (e : Operand × BlockId). e.1.0 < length f.blocks) es →
        (count : ℕ → ℕ) → AtMost count → StandFor w es count
    entries_stand w [] all within count less = none
    entries_stand w (e ∷ es) all within count less = entry_stands w e es count less all.0 within.0 (entries_stand w es all.1 within.1)

    same_edges : (p : ℕ) → edges_of f m b p ≤ edges_of f m b p
    same_edges p = omega arith

    all_phis_gone : (phis : List Phi) → StandForSome (IsPhiFor f t r all_blocks b) phis []
    all_phis_gone [] = none
    all_phis_gone (phi ∷ phis) = gone phi phis [] (all_phis_gone phis)

    phi_stands : (s : Bool) (phi : Phi) (phis : List Phi) → AllByRecursion (EntryIsMarked f found m b phi.width) phi.entries →
        AllByRecursion (λ (e : Operand × BlockId). e.1.0 < length f.blocks) phi.entries → phi.result.0 < length f.values →
        StandForSome (IsPhiFor f t r all_blocks b) phis (kept_phis f m b phis) →
        StandForSome (IsPhiFor f t r all_blocks b) (phi ∷ phis) (if_left s (phi_left f m b phi) (kept_phis f m b phis))
    phi_stands false phi phis marked within below rest = gone phi phis (kept_phis f m b phis) rest
    phi_stands true phi phis marked within below rest = stands phi phis (phi_left f m b phi) (kept_phis f m b phis)
        (record {
          result = get_before f.values m.added phi.result.0 below;
          width = refl;
          entries = entries_stand phi.width phi.entries marked within (edges_of f m b) same_edges;
        })
        rest

    kept_stand : (phis : List Phi) → AllByRecursion (λ (phi : Phi). AllByRecursion (EntryIsMarked f found m b phi.width) phi.entries) phis →
        AllByRecursion (λ (phi : Phi). AllByRecursion (λ (e : Operand × BlockId). e.1.0 < length f.blocks) phi.entries) phis →
        AllByRecursion (λ (phi : Phi). phi.result.0 < length f.values) phis → StandForSome (IsPhiFor f t r all_blocks b) phis (kept_phis f m b phis)
    kept_stand [] all within below = none
    kept_stand (phi ∷ phis) all within below =
        phi_stands (m.keeps phi.result.0) phi phis all.0 within.0 below.0 (kept_stand phis all.1 within.1 below.1)

    entries_within : (phis : List Phi) → AllByRecursion (PrintablePhi f) phis → AllByRecursion (λ (phi : Phi). AllByRecursion (λ (e : Operand × BlockId). e.1.0 < length f.blocks) phi.entries) phis
    entries_within [] all = tt
    entries_within (phi ∷ phis) all = (entries phi.width phi.entries (recursion_from_All (λ (e : Operand × BlockId). IsOperand f phi.width e.0 × IsBlock f e.1) phi.entries all.0.entries), entries_within phis all.1)
      where
        entries : (w : ℕ) (es : List (Operand × BlockId)) → AllByRecursion (λ (e : Operand × BlockId). IsOperand f w e.0 × IsBlock f e.1) es → AllByRecursion (λ (e : Operand × BlockId). e.1.0 < length f.blocks) es
        entries w [] all = tt
        entries w (e ∷ es) all = (all.0.1, entries w es all.1)

    phis_stand : StandForSome (IsPhiFor f t r all_blocks b) block.phis (phis_left f m b block.phis)
    phis_stand = by (m.met b 0)
      where
        by : (s : Bool) → StandForSome (IsPhiFor f t r all_blocks b) block.phis (phis_if_met s (kept_phis f m b block.phis))
        by true = kept_stand block.phis own_marks.phis
            (entries_within block.phis (recursion_from_All (PrintablePhi f) block.phis (each_of (PrintableBlock f) f.blocks b block known.printable.blocks there).phis))
            (all_at (λ (phi : Phi). phi.result.0 < length f.values) block.phis (λ j phi e. phi_below f known.printable b j block phi there e))
        by false = all_phis_gone block.phis

    -- ---- the terminator

    abbrev end_place : Place
    end_place = At b (length block.insts)

    abbrev end_put : Operand → Operand
    end_put = m.put (At b (length block.insts))

    ways_left : (left : ℕ → Bool) (term : Term) → AllByRecursion (IsPut f found end_place end_put) (term_operands term) → IsEndFor f t end_place term (shrunk end_put left term)
    ways_left left (Term.Ret w a) all = inr (numbers_put end_place end_put (term_operands (Term.Ret w a)) all)
    ways_left left (Term.Br to) all = by (left 0)
      where
        by : (s : Bool) → IsEndFor f t end_place (Term.Br to) (one_way s to)
        by true = inl refl
        by false = inl refl
    ways_left left (Term.CondBr c taken fallen) all = by (left 0) (left 1)
      where
        by : (s u : Bool) → IsEndFor f t end_place (Term.CondBr c taken fallen) (two_ways s u (end_put c) taken fallen)
        by true true = inr (numbers_put end_place end_put (term_operands (Term.CondBr c taken fallen)) all)
        by true false = inl refl
        by false true = inl refl
        by false false = inl refl
    ways_left left (Term.Switch w on other cases) all = by (left 0) (cases_left left 1 cases)
      where
        by : (s : Bool) (cs : List (ℕ × BlockId)) → IsEndFor f t end_place (Term.Switch w on other cases) (many_ways s w (end_put on) other cs)
        by true [] = inl refl
        by true (e ∷ cs) = inr (numbers_put end_place end_put (term_operands (Term.Switch w on other cases)) all)
        by false [] = inl refl
        by false (e ∷ []) = inl refl
        by false (e ∷ (d ∷ rest)) = inr (numbers_put end_place end_put (term_operands (Term.Switch w on other cases)) all)
    ways_left left Term.Unreachable all = inl refl

    term_stands : IsEndFor f t end_place block.term (term_left m b block)
    term_stands = by (m.met b (length block.insts)) refl
      where
        by : (s : Bool) → m.met b (length block.insts) ≡ s → IsEndFor f t end_place block.term (term_if_met s (shrunk end_put (m.left b) block.term))
        by true e = ways_left (m.left b) block.term (own_marks.term e)
        by false e = inl refl

    pub block_is_left : IsBlockFor f t r all_blocks b block (rewritten_block f m b block)
    block_is_left = record {
      name = refl;
      phis = phis_stand;
      insts = lines_stand 0 block.insts (λ k inst e. let at : k ≡ 0 + k = omega arith in subst (λ n. slice_get block.insts n ≡ Some inst) at e);
      term = term_stands;
    }
