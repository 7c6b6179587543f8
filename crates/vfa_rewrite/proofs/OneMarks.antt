-- Two marks of the same findings mark alike what is left.
use Rattle.std.proofs.Common.{◌≡◌, ℕ, zero, suc, Bool, true, false, Option, Some, None, List, [], ◌∷◌, map, flat_map, length, slice_get, refl, sym, ap, ◌∙◌, subst, inl, inr}
use Rattle.std.proofs.lemmas.Bool.{cases_Bool}
use Rattle.std.specs.List.{AllByRecursion}
use Rattle.vfa_ir.specs.declared.operations.BlockId.{BlockId}
use Rattle.vfa_ir.specs.declared.operations.Op.{Op}
use Rattle.vfa_ir.specs.declared.operations.Operand.{Operand}
use Rattle.vfa_ir.specs.declared.operations.Ty.{Ty}
use Rattle.vfa_ir.specs.declared.operations.ValueId.{ValueId}
use Rattle.vfa_ir.specs.declared.functions.Block.{Block}
use Rattle.vfa_ir.specs.declared.functions.CallArg.{CallArg}
use Rattle.vfa_ir.specs.declared.functions.CallOp.{CallOp}
use Rattle.vfa_ir.specs.declared.functions.Function.{Function}
use Rattle.vfa_ir.specs.declared.functions.Inst.{Inst}
use Rattle.vfa_ir.specs.declared.functions.Phi.{Phi}
use Rattle.vfa_ir.specs.declared.functions.Term.{Term}
use Rattle.vfa_ir.specs.Defined.{operand_names, op_names, term_names}
use Rattle.vfa_ir.specs.Operands.{operands_of, arguments_of}
use Rattle.vfa_ir.specs.PhisFit.{targets}
use Rattle.vfa_ir.specs.Words.{is_in}
use Rattle.vfa_mean.specs.FreshOperands.{DefinesOnce}
use Rattle.vfa_mean.specs.Moments.{Place, Into, At, is_call}
use Rattle.vfa_rules.specs.declared.change.Change.{Change}
use Rattle.vfa_rewrite.specs.Rewritten.{Marks, with_numbers, with_operands, argument_left, call_left, shrunk, two_ways, one_way, many_ways, cases_left, term_if_met, term_left, edges_from, if_reached, edges_of, rewritten}
use Rattle.vfa_rewrite.specs.Findings.{Findings, operation_of, AreFitting}
use Rattle.vfa_rewrite.specs.Marks.{Becomes, IsPut, term_operands, Kept, by_end, by_effect, by_line, by_phi, IsLeftLine, UsesName, ResultIsKept, LineIsMarked, EntryIsMarked, BlockIsMarked, AreMarks}
use Rattle.vfa_rewrite.proofs.KeptNames.{changed_plain}
use Rattle.vfa_rewrite.proofs.Left.{made_at}
use Rattle.vfa_rewrite.proofs.Lines.{call_tells}
use Rattle.vfa_rewrite.proofs.MarkedBlocks.{at_all}
use Rattle.vfa_rewrite.proofs.MarkedLines.{names_in, put_plain}
use Rattle.vfa_rewrite.proofs.OneOperand.{becomes_one}

-- ---- what is alike

-- the same becomes of an instruction that is left
pub record LinesAreAlike (found : Findings) (m m' : Marks) (b i : ℕ) (inst : Inst) : Type 0 where
  pub stays : m.stays b i ≡ m'.stays b i
  pub change : m.change b i ≡ m'.change b i
  pub operands : with_operands (m.put (At b i)) (operation_of (found.change b i inst) inst.op) ≡ with_operands (m'.put (At b i)) (operation_of (found.change b i inst) inst.op)

pub record AreAlike (f : Function) (found : Findings) (m m' : Marks) : Type 0 where
  pub met : (b i : ℕ) → m.met b i ≡ m'.met b i
  pub left : (b k : ℕ) → m.left b k ≡ m'.left b k
  pub reached : (b : ℕ) → m.reached b ≡ m'.reached b
  pub keeps : (n : ℕ) → m.keeps n ≡ m'.keeps n
  pub edges : (b p : ℕ) → edges_of f m b p ≡ edges_of f m' b p
  pub entries : (b : ℕ) (block : Block) (j : ℕ) (phi : Phi) (k : ℕ) (e : Operand × BlockId) → slice_get f.blocks b ≡ Some block → m.reached b ≡ true →
      slice_get block.phis j ≡ Some phi → slice_get phi.entries k ≡ Some e → (edges_of f m b e.1.0 ≡ 0 → ⊥) →
      m.put (Into (Some e.1.0) b) e.0 ≡ m'.put (Into (Some e.1.0) b) e.0
  pub lines : (b : ℕ) (block : Block) (i : ℕ) (inst : Inst) → IsLeftLine f m b block i inst → LinesAreAlike found m m' b i inst
  pub terms : (b : ℕ) (block : Block) → slice_get f.blocks b ≡ Some block → m.reached b ≡ true → term_left m b block ≡ term_left m' b block

pub same_bool : (s t : Bool) → (s ≡ true → t ≡ true) → (t ≡ true → s ≡ true) → s ≡ t
same_bool true t h k = sym (h refl)
same_bool false true h k = k refl
same_bool false false h k = refl

-- the names that an operation, no call, uses hang on no function
pub same_names : (g g' : Function) (op : Op) → is_call op ≡ false → op_names g op ≡ op_names g' op
same_names g g' (Op.Bin bin flags w a b) plain = refl
same_names g g' (Op.Icmp pred samesign w a b) plain = refl
same_names g g' (Op.Select w c a b) plain = refl
same_names g g' (Op.Cast cast flags v w a) plain = refl
same_names g g' (Op.Freeze w a) plain = refl
same_names g g' (Op.Two fun w a b) plain = refl
same_names g g' (Op.One fun w a strict) plain = refl
same_names g g' (Op.Over over w a b) plain = refl
same_names g g' (Op.Part w pair index) plain = refl
same_names g g' (Op.Assume c) plain = refl
same_names g g' (Op.Call w call) plain = absurd (cc)

-- where nothing stands nothing is made
none_made : {A B : Type 0} (make : ℕ → A → B) (i : ℕ) (xs : List A) (n : ℕ) → slice_get xs n ≡ None → slice_get (with_numbers make i xs) n ≡ None
none_made make i [] n h = refl
none_made make i (x ∷ xs) zero h = absurd (cc)
none_made make i (x ∷ xs) (suc n) h = none_made make (suc i) xs n h

module _ (f : Function) (once : DefinesOnce f) (found : Findings) (holds : AreFitting f found) where
  module _ (place : Place) (put put' : Operand → Operand) where
    one_operand : (ty : Ty) (a : Operand) → Becomes f found place ty a (put a) → Becomes f found place ty a (put' a) → put a ≡ put' a
    one_operand ty a is is' = becomes_one f once found place ty a (put a) (put' a) is is'

    operands_one : (op : Op) → AllByRecursion (IsPut f found place put) (operands_of f op) → AllByRecursion (IsPut f found place put') (operands_of f op) →
        with_operands put op ≡ with_operands put' op
    operands_one (Op.Bin bin flags w a b) is is' =
        let p = one_operand (Ty.Int w) a is.0 is'.0 in let q = one_operand (Ty.Int w) b is.1.0 is'.1.0 in λ j. Op.Bin bin flags w (p j) (q j)
    operands_one (Op.Icmp pred samesign w a b) is is' =
        let p = one_operand (Ty.Int w) a is.0 is'.0 in let q = one_operand (Ty.Int w) b is.1.0 is'.1.0 in λ j. Op.Icmp pred samesign w (p j) (q j)
    operands_one (Op.Select w c a b) is is' =
        let r = one_operand (Ty.Int 1) c is.0 is'.0 in
        let p = one_operand (Ty.Int w) a is.1.0 is'.1.0 in let q = one_operand (Ty.Int w) b is.1.1.0 is'.1.1.0 in λ j. Op.Select w (r j) (p j) (q j)
    operands_one (Op.Cast cast flags v w a) is is' = let p = one_operand (Ty.Int v) a is.0 is'.0 in λ j. Op.Cast cast flags v w (p j)
    operands_one (Op.Freeze w a) is is' = let p = one_operand (Ty.Int w) a is.0 is'.0 in λ j. Op.Freeze w (p j)
    operands_one (Op.Two fun w a b) is is' =
        let p = one_operand (Ty.Int w) a is.0 is'.0 in let q = one_operand (Ty.Int w) b is.1.0 is'.1.0 in λ j. Op.Two fun w (p j) (q j)
    operands_one (Op.One fun w a strict) is is' = let p = one_operand (Ty.Int w) a is.0 is'.0 in λ j. Op.One fun w (p j) strict
    operands_one (Op.Over over w a b) is is' =
        let p = one_operand (Ty.Int w) a is.0 is'.0 in let q = one_operand (Ty.Int w) b is.1.0 is'.1.0 in λ j. Op.Over over w (p j) (q j)
    operands_one (Op.Part w pair index) is is' = refl
    operands_one (Op.Assume c) is is' = let p = one_operand (Ty.Int 1) c is.0 is'.0 in λ j. Op.Assume (p j)
    operands_one (Op.Call w call) is is' = refl

    pub args_one : (change change' : Operand → Operand) → ((a : Operand) → change a ≡ put a) → ((a : Operand) → change' a ≡ put' a) → (args : List CallArg) →
        AllByRecursion (IsPut f found place put) (map (λ (a : CallArg). (Ty.Int a.width, a.value)) args) →
        AllByRecursion (IsPut f found place put') (map (λ (a : CallArg). (Ty.Int a.width, a.value)) args) →
        map (argument_left change) args ≡ map (argument_left change') args
    args_one change change' same same' [] is is' = refl
    args_one change change' same same' (a ∷ args) is is' =
        let e : change a.value ≡ change' a.value = same a.value ∙ one_operand (Ty.Int a.width) a.value is.0 is'.0 ∙ sym (same' a.value) in
        let first : argument_left change a ≡ argument_left change' a = λ j. record { width = a.width; words = a.words; value = e j } in
        let rest = args_one change change' same same' args is.1 is'.1 in
        λ j. first j ∷ rest j

  module _ (m m' : Marks) (marks : AreMarks f found m) (marks' : AreMarks f found m') where
    met_one : (b i : ℕ) → m.met b i ≡ m'.met b i
    met_one b i = marks.met b i ∙ sym (marks'.met b i)

    left_one : (b k : ℕ) → m.left b k ≡ m'.left b k
    left_one b k = marks.left b k ∙ sym (marks'.left b k)

    reached_one : (b : ℕ) → m.reached b ≡ m'.reached b
    reached_one b = same_bool (m.reached b) (m'.reached b) (λ h. (marks'.reached b).1 ((marks.reached b).0 h)) (λ h. (marks.reached b).1 ((marks'.reached b).0 h))

    pub edges_one : (b p : ℕ) → edges_of f m b p ≡ edges_of f m' b p
    edges_one b p =
        let left : m.left p ≡ m'.left p = λ j k. left_one p k j in
        let count : (ℕ → Bool) → ℕ = λ l. elim (slice_get f.blocks p) [ None ↦ 0 | Some block ↦ edges_from l b 0 (targets block.term) ] in
        ap (λ t. if_reached t (count (m.left p))) (reached_one p) ∙ ap (λ l. if_reached (m'.reached p) (count l)) left

    module _ (b : ℕ) (block : Block) (there : slice_get f.blocks b ≡ Some block) (reached : m.reached b ≡ true) where
      reached' : m'.reached b ≡ true
      reached' = sym (reached_one b) ∙ reached

      own : BlockIsMarked f found m b block
      own = marks.blocks b block there reached

      own' : BlockIsMarked f found m' b block
      own' = marks'.blocks b block there reached'

      shrunk_one : (put put' : Operand → Operand) (term : Term) → AllByRecursion (IsPut f found (At b (length block.insts)) put) (term_operands term) →
          AllByRecursion (IsPut f found (At b (length block.insts)) put') (term_operands term) → shrunk put (m.left b) term ≡ shrunk put' (m'.left b) term
      shrunk_one put put' (Term.Ret w a) is is' =
          let p = one_operand (At b (length block.insts)) put put' (Ty.Int w) a is.0 is'.0 in λ j. Term.Ret w (p j)
      shrunk_one put put' (Term.Br to) is is' = λ j. one_way (left_one b 0 j) to
      shrunk_one put put' (Term.CondBr c taken fallen) is is' =
          let p = one_operand (At b (length block.insts)) put put' (Ty.Int 1) c is.0 is'.0 in λ j. two_ways (left_one b 0 j) (left_one b 1 j) (p j) taken fallen
      shrunk_one put put' (Term.Switch w on other cases) is is' =
          let p = one_operand (At b (length block.insts)) put put' (Ty.Int w) on is.0 is'.0 in
          λ j. many_ways (left_one b 0 j) w (p j) other (cases_left (λ k. left_one b k j) 1 cases)
      shrunk_one put put' Term.Unreachable is is' = refl

      term_one : term_left m b block ≡ term_left m' b block
      term_one = by (m.met b (length block.insts)) (m'.met b (length block.insts)) refl refl
        where
          by : (s t : Bool) → m.met b (length block.insts) ≡ s → m'.met b (length block.insts) ≡ t →
              term_if_met s (shrunk (m.put (At b (length block.insts))) (m.left b) block.term) ≡ term_if_met t (shrunk (m'.put (At b (length block.insts))) (m'.left b) block.term)
          by true true e g = shrunk_one (m.put (At b (length block.insts))) (m'.put (At b (length block.insts))) block.term (own.term e) (own'.term g)
          by false false e g = refl
          by true false e g = absurd (let h = met_one b (length block.insts) in cc)
          by false true e g = absurd (let h = met_one b (length block.insts) in cc)

      entry_one : (j : ℕ) (phi : Phi) (k : ℕ) (e : Operand × BlockId) → slice_get block.phis j ≡ Some phi → slice_get phi.entries k ≡ Some e → (edges_of f m b e.1.0 ≡ 0 → ⊥) →
          m.put (Into (Some e.1.0) b) e.0 ≡ m'.put (Into (Some e.1.0) b) e.0
      entry_one j phi k e phi_at entry_at entered =
          let is = (at_all (EntryIsMarked f found m b phi.width) phi.entries k e
          (at_all (λ (phi : Phi). AllByRecursion (EntryIsMarked f found m b phi.width) phi.entries) block.phis j phi own.phis phi_at) entry_at).put entered in
          let is' = (at_all (EntryIsMarked f found m' b phi.width) phi.entries k e
          (at_all (λ (phi : Phi). AllByRecursion (EntryIsMarked f found m' b phi.width) phi.entries) block.phis j phi own'.phis phi_at) entry_at).put (λ z. entered (edges_one b e.1.0 ∙ z)) in
          becomes_one f once found (Into (Some e.1.0) b) (Ty.Int phi.width) e.0 (m.put (Into (Some e.1.0) b) e.0) (m'.put (Into (Some e.1.0) b) e.0) is is'

    module _ (b : ℕ) (block : Block) (i : ℕ) (inst : Inst) (left : IsLeftLine f m b block i inst) where
      pub left' : IsLeftLine f m' b block i inst
      left' = record { line = left.line; reached = sym (reached_one b) ∙ left.reached; met = sym (met_one b i) ∙ left.met }

      pub marked : LineIsMarked f found m b i inst
      marked = (marks.blocks b block left.line.there left.reached).lines i inst left.line.stands left.met

      pub marked' : LineIsMarked f found m' b i inst
      marked' = (marks'.blocks b block left.line.there left'.reached).lines i inst left.line.stands left'.met

      abbrev op : Op
      op = operation_of (found.change b i inst) inst.op

      line_one : with_operands (m.put (At b i)) (operation_of (found.change b i inst) inst.op) ≡ with_operands (m'.put (At b i)) (operation_of (found.change b i inst) inst.op)
      line_one = operands_one (At b i) (m.put (At b i)) (m'.put (At b i)) (operation_of (found.change b i inst) inst.op) marked.operands marked'.operands

      known_call : (width : Option ℕ) (k : ℕ) → inst.op ≡ Op.Call width k → found.change b i inst ≡ Change.Keep inst.op → (c : Option CallOp) → slice_get f.calls k ≡ c →
          names_in (slice_get (rewritten f m).calls k) ≡ names_in (slice_get (rewritten f m').calls k)
      known_call width k is keep None there =
          ap names_in (none_made (call_left m) 0 f.calls k there) ∙ sym (ap names_in (none_made (call_left m') 0 f.calls k there))
      known_call width k is keep (Some call) there =
          let list = λ (n : Marks) (h : AllByRecursion (IsPut f found (At b i) (n.put (At b i))) (operands_of f (operation_of (found.change b i inst) inst.op))).
          subst (λ c. AllByRecursion (IsPut f found (At b i) (n.put (At b i))) (arguments_of c)) there
          (subst (λ o. AllByRecursion (IsPut f found (At b i) (n.put (At b i))) (operands_of f o)) is
          (subst (λ c. AllByRecursion (IsPut f found (At b i) (n.put (At b i))) (operands_of f (operation_of c inst.op))) keep h)) in
          let args = args_one (At b i) (m.put (At b i)) (m'.put (At b i)) (m.put_call k) (m'.put_call k) (marked.arguments width k is) (marked'.arguments width k is) call.args
          (list m marked.operands) (list m' marked'.operands) in
          let at : slice_get (rewritten f m).calls k ≡ Some (call_left m k call) = made_at (call_left m) f.calls k call there in
          let at' : slice_get (rewritten f m').calls k ≡ Some (call_left m' k call) = made_at (call_left m') f.calls k call there in
          ap names_in at ∙ ap (flat_map (λ (a : CallArg). operand_names a.value)) args ∙ sym (ap names_in at')

      abbrev names_of : Marks → Change → Op → List ℕ
      names_of n c o = op_names (rewritten f n) (with_operands (n.put (At b i)) (operation_of c o))

      names_one : names_of m (found.change b i inst) inst.op ≡ names_of m' (found.change b i inst) inst.op
      names_one = elim (cases_Bool (is_call inst.op)) [
        | inl call ↦
            let keep = holds.call b block i inst left.line call in
            let c = call_tells inst.op call in
            ap (λ x. names_of m x inst.op) keep ∙ ap (λ o. op_names (rewritten f m) (with_operands (m.put (At b i)) o)) c.is
            ∙ known_call c.width c.place c.is keep (slice_get f.calls c.place) refl
            ∙ sym (ap (λ x. names_of m' x inst.op) keep ∙ ap (λ o. op_names (rewritten f m') (with_operands (m'.put (At b i)) o)) c.is)
        | inr plain ↦
            let change = holds.change b block i inst left.line (sym (marks.met b i) ∙ left.met) plain in
            let still = put_plain (m.put (At b i)) (operation_of (found.change b i inst) inst.op) ∙ changed_plain f inst.op (found.change b i inst) change.fits plain in
            same_names (rewritten f m) (rewritten f m') (with_operands (m.put (At b i)) (operation_of (found.change b i inst) inst.op)) still
            ∙ ap (op_names (rewritten f m')) line_one
      ]

      uses_one : (n : ℕ) → UsesName f found m b i inst n → UsesName f found m' b i inst n
      uses_one n uses = subst (λ names. is_in n names ≡ true) names_one uses

    kept_one : (n : ℕ) → Kept f found m n → Kept f found m' n
    kept_one n (by_end b block x there reached t) =
        by_end b block x there (reached' b block there reached) (subst (λ term. is_in x (term_names term) ≡ true) (term_one b block there reached) t)
    kept_one n (by_effect b block i inst x left must uses) = by_effect b block i inst x (left' b block i inst left) must (uses_one b block i inst left x uses)
    kept_one n (by_line b block i inst name x left result kept uses) =
        by_line b block i inst name x (left' b block i inst left) result (kept_one name.0 kept) (uses_one b block i inst left x uses)
    kept_one n (by_phi b block j phi k e x there reached met phi_at kept entry_at entered t) =
        by_phi b block j phi k e x there (reached' b block there reached) (sym (met_one b 0) ∙ met) phi_at (kept_one phi.result.0 kept) entry_at
        (λ z. entered (edges_one b e.1.0 ∙ z))
        (subst (λ a. is_in x (operand_names a) ≡ true) (entry_one b block there reached j phi k e phi_at entry_at entered) t)

  module _ (m m' : Marks) (marks : AreMarks f found m) (marks' : AreMarks f found m') where
    keeps_one : (n : ℕ) → m.keeps n ≡ m'.keeps n
    keeps_one n = same_bool (m.keeps n) (m'.keeps n) (λ h. (marks'.keeps n).1 (kept_one m m' marks marks' n ((marks.keeps n).0 h)))
        (λ h. (marks.keeps n).1 (kept_one m' m marks' marks n ((marks'.keeps n).0 h)))

    result_one : (n n' : Marks) → ((x : ℕ) → n.keeps x ≡ n'.keeps x) → (result : Option ValueId) → ResultIsKept n result → ResultIsKept n' result
    result_one n n' same None h = h
    result_one n n' same (Some name) h = sym (same name.0) ∙ h

    lines_one : (b : ℕ) (block : Block) (i : ℕ) (inst : Inst) → IsLeftLine f m b block i inst → LinesAreAlike found m m' b i inst
    lines_one b block i inst left =
        let is = marked m m' marks marks' b block i inst left in
        let is' = marked' m m' marks marks' b block i inst left in
        record {
          stays = same_bool (m.stays b i) (m'.stays b i)
              (λ h. is'.stays.1 (elim (is.stays.0 h) [ inl must ↦ inl must | inr kept ↦ inr (result_one m m' keeps_one inst.result kept) ]))
              (λ h. is.stays.1 (elim (is'.stays.0 h) [ inl must ↦ inl must | inr kept ↦ inr (result_one m' m (λ x. sym (keeps_one x)) inst.result kept) ]));
          change = is.change ∙ sym is'.change;
          operands = line_one m m' marks marks' b block i inst left;
        }

    pub are_alike : AreAlike f found m m'
    are_alike = record {
      met = met_one m m' marks marks';
      left = left_one m m' marks marks';
      reached = reached_one m m' marks marks';
      keeps = keeps_one;
      edges = edges_one m m' marks marks';
      entries = λ b block j phi k e there reached phi_at entry_at entered. entry_one m m' marks marks' b block there reached j phi k e phi_at entry_at entered;
      lines = lines_one;
      terms = λ b block there reached. term_one m m' marks marks' b block there reached;
    }
