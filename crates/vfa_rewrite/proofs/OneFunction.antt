-- Two marks of the same findings leave the same function.
use Rattle.std.proofs.Common.{◌≡◌, ◌<◌, ◌+◌, ◌*◌, ◌-◌, ℕ, zero, suc, nat_eq, if◌then◌else◌, Bool, true, false, Option, Some, List, [], ◌∷◌, ◌++◌, map, length, slice_get, refl, sym, ap, ◌∙◌, subst, inl, inr, ◌⊎◌, arith}
use Rattle.std.proofs.lemmas.Bool.{cases_Bool, eqb-true, eq-eqb}
use Rattle.std.proofs.lemmas.Option.{same_Some}
use Rattle.std.specs.List.{AllByRecursion}
use Rattle.vfa_ir.specs.declared.operations.BlockId.{BlockId}
use Rattle.vfa_ir.specs.declared.operations.Op.{Op}
use Rattle.vfa_ir.specs.declared.operations.Operand.{Operand}
use Rattle.vfa_ir.specs.declared.operations.Ty.{Ty}
use Rattle.vfa_ir.specs.declared.functions.Block.{Block}
use Rattle.vfa_ir.specs.declared.functions.CallOp.{CallOp}
use Rattle.vfa_ir.specs.declared.functions.Function.{Function}
use Rattle.vfa_ir.specs.declared.functions.Inst.{Inst}
use Rattle.vfa_ir.specs.declared.functions.Phi.{Phi}
use Rattle.vfa_ir.specs.Operands.{operands_of, arguments_of}
use Rattle.vfa_ir.specs.Printable.{IsPrintable, HasItsResult, PrintableInst, PrintableBlock}
use Rattle.vfa_mean.specs.Moments.{Into, At, is_call}
use Rattle.vfa_mean.specs.Numbering.{numbered}
use Rattle.vfa_walk.proofs.TruthTypes.{each_of}
use Rattle.vfa_rules.specs.declared.change.Change.{Change}
use Rattle.vfa_rewrite.specs.Alike.{LeaveTheSame}
use Rattle.vfa_rewrite.specs.Rewritten.{Marks, if_left, with_numbers, line_of, narrowed, with_operands, changed_by, changed, if_stays, if_met, lines_left, argument_left, call_left, edges_of, one_fewer, if_counted, entries_left, phi_left, kept_phis, phis_if_met, phis_left, rewritten_block, if_block_left, emptied, block_left, rewritten}
use Rattle.vfa_rewrite.specs.Findings.{Findings, operation_of, IsFitting, AreFitting}
use Rattle.vfa_rewrite.specs.Marks.{IsPut, IsLeftLine, IsLeftCall, IsNarrowed, AddedType, at_width, not_narrowed, unnamed, AreMarks}
use Rattle.vfa_rewrite.proofs.FreshNames.{HasName, has_result, narrowed_one}
use Rattle.vfa_rewrite.proofs.Lines.{IsCall, call_tells}
use Rattle.vfa_rewrite.proofs.MarkedBlocks.{all_at}
use Rattle.vfa_rewrite.proofs.OneMarks.{AreAlike, are_alike, args_one, marked, marked'}
use Rattle.vfa_rewrite.proofs.Ranges.{defines_once}

-- ---- lists

same_made : {A B : Type 0} (make make' : ℕ → A → B) (i : ℕ) (xs : List A) → ((n k : ℕ) (x : A) → k ≡ i + n → slice_get xs n ≡ Some x → make k x ≡ make' k x) →
    with_numbers make i xs ≡ with_numbers make' i xs
same_made make make' i [] h = refl
same_made make make' i (x ∷ xs) h =
    let first = h 0 i x (omega arith) refl in
    let rest = same_made make make' (suc i) xs (λ n k y e there. h (suc n) k y (omega (arith, e)) there) in
    λ j. first j ∷ rest j

same_list : {A : Type 0} (xs ys : List A) → length xs ≡ length ys → ((n : ℕ) → n < length xs → slice_get xs n ≡ slice_get ys n) → xs ≡ ys
same_list [] [] count h = refl
same_list [] (y ∷ ys) count h = absurd (omega (arith, count))
same_list (x ∷ xs) [] count h = absurd (omega (arith, count))
same_list (x ∷ xs) (y ∷ ys) count h =
    let first : x ≡ y = same_Some x y (h 0 (omega arith)) in
    let rest = same_list xs ys (omega (arith, count)) (λ n below. h (suc n) (omega (arith, below))) in
    λ j. first j ∷ rest j

-- a place among three for each number
record Third (j : ℕ) : Type 0 where
  n : ℕ
  k : ℕ
  below : k < 3
  is : j ≡ 3 * n + k

next_third : (j n k : ℕ) → k < 3 → j ≡ 3 * n + k → Third (suc j)
next_third j n zero below is = record { n = n; k = 1; below = omega arith; is = omega (arith, is) }
next_third j n (suc zero) below is = record { n = n; k = 2; below = omega arith; is = omega (arith, is) }
next_third j n (suc (suc k)) below is = record { n = suc n; k = 0; below = omega arith; is = omega (arith, is, below) }

third : (j : ℕ) → Third j
third zero = record { n = 0; k = 0; below = omega arith; is = refl }
third (suc j) = let t = third j in next_third j t.n t.k t.below t.is

-- a number and an element at its place for which it holds, or none
record Found {A : Type 0} (P : ℕ → A → Type 0) (i : ℕ) (xs : List A) : Type 0 where
  n : ℕ
  x : A
  there : slice_get xs n ≡ Some x
  holds : P (i + n) x

abbrev NotFound : {A : Type 0} → (ℕ → A → Type 0) → ℕ → List A → Type 0
NotFound P i xs = (n : ℕ) (x : _) → slice_get xs n ≡ Some x → P (i + n) x → ⊥

search_list : {A : Type 0} (P : ℕ → A → Type 0) → ((n : ℕ) (x : A) → P n x ⊎ (P n x → ⊥)) → (i : ℕ) (xs : List A) → Found P i xs ⊎ NotFound P i xs
search_list P test i [] = inr (λ n x there h. absurd (cc))
search_list P test i (x ∷ xs) = elim (test i x) [
  | inl h ↦ let e : i ≡ i + 0 = omega arith in inl (record { n = 0; x = x; there = refl; holds = subst (λ k. P k x) e h })
  | inr none ↦ elim (search_list P test (suc i) xs) [
    | inl later ↦
        let e : suc i + later.n ≡ i + suc later.n = omega arith in
        inl (record { n = suc later.n; x = later.x; there = later.there; holds = subst (λ k. P k later.x) e later.holds })
    | inr nothing ↦ inr (λ n y there h. by n y there h none nothing)
  ]
]
  where
    by : (n : ℕ) (y : _) → slice_get (x ∷ xs) n ≡ Some y → P (i + n) y → (P i x → ⊥) → NotFound P (suc i) xs → ⊥
    by zero y there h none nothing =
        let e : i + 0 ≡ i = omega arith in
        none (subst (P i) (sym (same_Some x y there)) (subst (λ k. P k y) e h))
    by (suc n) y there h none nothing =
        let e : i + suc n ≡ suc i + n = omega arith in
        nothing n y there (subst (λ k. P k y) e h)

-- ---- calls of an instruction

record CallsPlace (op : Op) (k : ℕ) : Type 0 where
  width : Option ℕ
  is : op ≡ Op.Call width k

abbrev place_of : Op → ℕ
place_of (Op.Call width k) = k
place_of op = 0

calls_or_not : (op : Op) (k : ℕ) → CallsPlace op k ⊎ (CallsPlace op k → ⊥)
calls_or_not op k = by (is_call op) refl
  where
    at_place : (t : Bool) (c : IsCall op) → nat_eq c.place k ≡ t → CallsPlace op k ⊎ (CallsPlace op k → ⊥)
    at_place true c e = inl (record { width = c.width; is = c.is ∙ ap (Op.Call c.width) (eqb-true c.place k e) })
    at_place false c e = inr (λ h.
        let same : c.place ≡ k = ap place_of (sym c.is ∙ h.is) in
        let equal = eq-eqb c.place k same in
        absurd (cc))

    by : (t : Bool) → is_call op ≡ t → CallsPlace op k ⊎ (CallsPlace op k → ⊥)
    by true call = let c = call_tells op call in at_place (nat_eq c.place k) c refl
    by false plain = inr (λ h. let call : is_call op ≡ true = ap is_call h.is in absurd (cc))

zero_plus : (n : ℕ) → 0 + n ≡ n
zero_plus n = omega arith

left_too : (f : Function) (m m' : Marks) → ((b : ℕ) → m.reached b ≡ m'.reached b) → ((b i : ℕ) → m.met b i ≡ m'.met b i) → (b : ℕ) (block : Block) (i : ℕ) (inst : Inst) →
    IsLeftLine f m b block i inst → IsLeftLine f m' b block i inst
left_too f m m' reached met b block i inst left = record { line = left.line; reached = sym (reached b) ∙ left.reached; met = sym (met b i) ∙ left.met }

module _ (f : Function) (printable : IsPrintable f) (found : Findings) (fitting : AreFitting f found) (m m' : Marks) (marks : AreMarks f found m) (marks' : AreMarks f found m') where
  alike : AreAlike f found m m'
  alike = are_alike f (defines_once f printable) found fitting m m' marks marks'

  also_left : (b : ℕ) (block : Block) (i : ℕ) (inst : Inst) → IsLeftLine f m b block i inst → IsLeftLine f m' b block i inst
  also_left b block i inst left = left_too f m m' alike.reached alike.met b block i inst left

  -- ---- phis

  entries_one : (b : ℕ) (es : List (Operand × BlockId)) (count : ℕ → ℕ) → ((p : ℕ) → edges_of f m b p ≡ 0 → count p ≡ 0) →
      AllByRecursion (λ (e : Operand × BlockId). (edges_of f m b e.1.0 ≡ 0 → ⊥) → m.put (Into (Some e.1.0) b) e.0 ≡ m'.put (Into (Some e.1.0) b) e.0) es →
      entries_left m b es count ≡ entries_left m' b es count
  entries_one b [] count counted same = refl
  entries_one b (e ∷ es) count counted same =
      by (count e.1.0) refl (entries_one b es count counted same.1) (entries_one b es (one_fewer count e.1.0) (fewer e.1.0) same.1)
    where
      fewer_by : (p q : ℕ) → edges_of f m b q ≡ 0 → (t : Bool) → (if t then count q - 1 else count q) ≡ 0
      fewer_by p q none true = let z = counted q none in omega (arith, z)
      fewer_by p q none false = counted q none

      fewer : (p q : ℕ) → edges_of f m b q ≡ 0 → one_fewer count p q ≡ 0
      fewer p q none = fewer_by p q none (nat_eq q p)

      by : (n : ℕ) → count e.1.0 ≡ n → entries_left m b es count ≡ entries_left m' b es count →
          entries_left m b es (one_fewer count e.1.0) ≡ entries_left m' b es (one_fewer count e.1.0) →
          if_counted n ((m.put (Into (Some e.1.0) b) e.0, e.1) ∷ entries_left m b es (one_fewer count e.1.0)) (entries_left m b es count) ≡
          if_counted n ((m'.put (Into (Some e.1.0) b) e.0, e.1) ∷ entries_left m' b es (one_fewer count e.1.0)) (entries_left m' b es count)
      by zero h gone kept = gone
      by (suc n) h gone kept =
          let put = same.0 (λ none. let z = counted e.1.0 none in absurd (omega (arith, z, h))) in
          λ j. (put j, e.1) ∷ kept j

  module _ (b : ℕ) (block : Block) (there : slice_get f.blocks b ≡ Some block) (reached : m.reached b ≡ true) where
    phi_one : (j : ℕ) (phi : Phi) → slice_get block.phis j ≡ Some phi → phi_left f m b phi ≡ phi_left f m' b phi
    phi_one j phi phi_at =
        let each = all_at (λ (e : Operand × BlockId). (edges_of f m b e.1.0 ≡ 0 → ⊥) → m.put (Into (Some e.1.0) b) e.0 ≡ m'.put (Into (Some e.1.0) b) e.0) phi.entries
        (λ k e entry_at. alike.entries b block j phi k e there reached phi_at entry_at) in
        let entries = entries_one b phi.entries (edges_of f m b) (λ p h. h) each in
        let counts : edges_of f m b ≡ edges_of f m' b = λ j p. alike.edges b p j in
        let all = entries ∙ ap (entries_left m' b phi.entries) counts in
        λ j. record { result = phi.result; width = phi.width; entries = all j }

    phis_one : (phis : List Phi) → ((j : ℕ) (phi : Phi) → slice_get phis j ≡ Some phi → phi_left f m b phi ≡ phi_left f m' b phi) → kept_phis f m b phis ≡ kept_phis f m' b phis
    phis_one [] same = refl
    phis_one (phi ∷ phis) same =
        let keeps = alike.keeps phi.result.0 in
        let first = same 0 phi refl in
        let rest = phis_one phis (λ j x e. same (suc j) x e) in
        λ j. if_left (keeps j) (first j) (rest j)

    all_phis_one : phis_left f m b block.phis ≡ phis_left f m' b block.phis
    all_phis_one =
        let met = alike.met b 0 in
        let phis = phis_one block.phis phi_one in
        λ j. phis_if_met (met j) (phis j)

    -- ---- lines

    module _ (i : ℕ) (inst : Inst) (left : IsLeftLine f m b block i inst) where
      result_of : (op : Op) (v : ℕ) → found.change b i inst ≡ Change.Narrow op v → HasName inst.result
      result_of op v e = elim (cases_Bool (is_call inst.op)) [
        | inl call ↦ absurd (let keep = fitting.call b block i inst left.line call in cc)
        | inr plain ↦
            let has = (each_of (PrintableInst f) block.insts i inst (each_of (PrintableBlock f) f.blocks b block printable.blocks there).insts left.line.stands).result in
            let fits = subst (λ c. IsFitting f inst.op c) e (fitting.change b block i inst left.line (sym (marks.met b i) ∙ left.met) plain).fits in
            narrow_has op v fits has plain
      ]
        where
          narrow_has : (op : Op) (v : ℕ) → IsFitting f inst.op (Change.Narrow op v) → HasItsResult inst.op inst.result → is_call inst.op ≡ false → HasName inst.result
          narrow_has (Op.Bin bin flags w x y) v fits has plain = has_result inst.op inst.result w v has plain fits.0 fits.2 fits.3
          narrow_has (Op.Icmp pred samesign w x y) v fits has plain = absurd fits
          narrow_has (Op.Select w z x y) v fits has plain = absurd fits
          narrow_has (Op.Cast cast flags u w x) v fits has plain = absurd fits
          narrow_has (Op.Freeze w x) v fits has plain = absurd fits
          narrow_has (Op.Two fun w x y) v fits has plain = absurd fits
          narrow_has (Op.One fun w x strict) v fits has plain = absurd fits
          narrow_has (Op.Over over w x y) v fits has plain = absurd fits
          narrow_has (Op.Part w pair index) v fits has plain = absurd fits
          narrow_has (Op.Assume z) v fits has plain = absurd fits
          narrow_has (Op.Call w call) v fits has plain = absurd fits

      fresh_one : (op : Op) (v : ℕ) → found.change b i inst ≡ Change.Narrow op v → (k : ℕ) → m.fresh b i k ≡ m'.fresh b i k
      fresh_one op v e k =
          let of = result_of op v e in
          let left' = also_left b block i inst left in
          let fresh = ((marks.blocks b block there left.reached).fresh i inst of.name op v left.line.stands left.met of.is e).fresh k in
          let fresh' = ((marks'.blocks b block there left'.reached).fresh i inst of.name op v left.line.stands left'.met of.is e).fresh k in
          fresh ∙ sym fresh'

      abbrev after : Marks → Op → Op
      after n op = with_operands (n.put (At b i)) op

      by_change : (c : Change) → found.change b i inst ≡ c → after m (operation_of c inst.op) ≡ after m' (operation_of c inst.op) → changed_by c m b i inst ≡ changed_by c m' b i inst
      by_change (Change.Keep op) e same = λ j. line_of inst.result (same j) ∷ []
      by_change (Change.Narrow op v) e same =
          let fresh : m.fresh b i ≡ m'.fresh b i = λ j k. fresh_one op v e k j in
          λ j. narrowed (fresh j) v inst.result (same j)
      by_change (Change.Uses u) e same = λ j. line_of inst.result (same j) ∷ []
      by_change Change.Gone e same = refl

      changed_one : changed m b i inst ≡ changed m' b i inst
      changed_one =
          let is = (alike.lines b block i inst left).change in
          let own : m.change b i ≡ found.change b i inst = (marked f (defines_once f printable) found fitting m m' marks marks' b block i inst left).change in
          let own' : m'.change b i ≡ found.change b i inst = sym is ∙ own in
          ap (λ c. changed_by c m b i inst) own
          ∙ by_change (found.change b i inst) refl (alike.lines b block i inst left).operands
          ∙ sym (ap (λ c. changed_by c m' b i inst) own')

    lines_one : (i : ℕ) (rest : List Inst) → ((n k : ℕ) (inst : Inst) → k ≡ i + n → slice_get rest n ≡ Some inst → slice_get block.insts k ≡ Some inst) → lines_left m b i rest ≡ lines_left m' b i rest
    lines_one i [] at = refl
    lines_one i (inst ∷ rest) at = by (m.met b i) (m'.met b i) refl refl (lines_one (suc i) rest (λ n k x e there. at (suc n) k x (omega (arith, e)) there))
      where
        by : (s t : Bool) → m.met b i ≡ s → m'.met b i ≡ t → lines_left m b (suc i) rest ≡ lines_left m' b (suc i) rest →
            if_met s (if_stays (m.stays b i) (changed m b i inst) (lines_left m b (suc i) rest)) ≡
            if_met t (if_stays (m'.stays b i) (changed m' b i inst) (lines_left m' b (suc i) rest))
        by true true e g later =
            let left : IsLeftLine f m b block i inst = record { line = record { there = there; stands = at 0 i inst (omega arith) refl }; reached = reached; met = e } in
            let stays = (alike.lines b block i inst left).stays in
            let lines = changed_one i inst left in
            λ j. if_stays (stays j) (lines j) (later j)
        by false false e g later = refl
        by true false e g later = absurd (let h = alike.met b i in cc)
        by false true e g later = absurd (let h = alike.met b i in cc)

    own_block_one : rewritten_block f m b block ≡ rewritten_block f m' b block
    own_block_one =
        let phis = all_phis_one in
        let lines = lines_one 0 block.insts (λ n k inst e there. let same : n ≡ k = omega (arith, e) in subst (λ x. slice_get block.insts x ≡ Some inst) same there) in
        let term = alike.terms b block there reached in
        λ j. record { name = block.name; phis = phis j; insts = lines j; term = term j }

  block_one : (b : ℕ) (block : Block) → slice_get f.blocks b ≡ Some block → block_left f m b block ≡ block_left f m' b block
  block_one b block there = by (m.reached b) (m'.reached b) refl refl
    where
      by : (s t : Bool) → m.reached b ≡ s → m'.reached b ≡ t → if_block_left s (rewritten_block f m b block) (emptied block) ≡ if_block_left t (rewritten_block f m' b block) (emptied block)
      by true true e g = own_block_one b block there e
      by false false e g = refl
      by true false e g = absurd (let h = alike.reached b in cc)
      by false true e g = absurd (let h = alike.reached b in cc)

  -- ---- calls

  record LineCalls (k b i : ℕ) (inst : Inst) : Type 0 where
    reached : m.reached b ≡ true
    met : m.met b i ≡ true
    calls : CallsPlace inst.op k

  record BlockCalls (k b : ℕ) (block : Block) : Type 0 where
    i : ℕ
    inst : Inst
    stands : slice_get block.insts i ≡ Some inst
    calls : LineCalls k b i inst

  line_test : (k b i : ℕ) (inst : Inst) → LineCalls k b i inst ⊎ (LineCalls k b i inst → ⊥)
  line_test k b i inst = by (m.reached b) (m.met b i) refl refl (calls_or_not inst.op k)
    where
      by : (s t : Bool) → m.reached b ≡ s → m.met b i ≡ t → CallsPlace inst.op k ⊎ (CallsPlace inst.op k → ⊥) → LineCalls k b i inst ⊎ (LineCalls k b i inst → ⊥)
      by true true e g (inl calls) = inl (record { reached = e; met = g; calls = calls })
      by true true e g (inr none) = inr (λ h. none h.calls)
      by true false e g c = inr (λ h. let met = h.met in absurd (cc))
      by false t e g c = inr (λ h. let reached = h.reached in absurd (cc))

  block_test : (k b : ℕ) (block : Block) → BlockCalls k b block ⊎ (BlockCalls k b block → ⊥)
  block_test k b block = elim (search_list (LineCalls k b) (line_test k b) 0 block.insts) [
    | inl h ↦ inl (record { i = h.n; inst = h.x; stands = h.there; calls = subst (λ n. LineCalls k b n h.x) (zero_plus h.n) h.holds })
    | inr none ↦ inr (λ h. none h.i h.inst h.stands (subst (λ n. LineCalls k b n h.inst) (sym (zero_plus h.i)) h.calls))
  ]

  call_test : (k : ℕ) → IsLeftCall f m k ⊎ (IsLeftCall f m k → ⊥)
  call_test k = elim (search_list (BlockCalls k) (block_test k) 0 f.blocks) [
    | inl h ↦
        let own = subst (λ n. BlockCalls k n h.x) (zero_plus h.n) h.holds in
        inl (record {
          b = h.n;
          i = own.i;
          block = h.x;
          inst = own.inst;
          width = own.calls.calls.width;
          left = record { line = record { there = h.there; stands = own.stands }; reached = own.calls.reached; met = own.calls.met };
          calls = own.calls.calls.is;
        })
    | inr none ↦ inr (λ h. none h.b h.block h.left.line.there (subst (λ n. BlockCalls k n h.block) (sym (zero_plus h.b)) (record {
      i = h.i;
      inst = h.inst;
      stands = h.left.line.stands;
      calls = record { reached = h.left.reached; met = h.left.met; calls = record { width = h.width; is = h.calls } };
    })))
  ]

  call_one : (k : ℕ) (call : CallOp) → slice_get f.calls k ≡ Some call → call_left m k call ≡ call_left m' k call
  call_one k call there = elim (call_test k) [
    | inl c ↦
        let is = marked f (defines_once f printable) found fitting m m' marks marks' c.b c.block c.i c.inst c.left in
        let is' = marked' f (defines_once f printable) found fitting m m' marks marks' c.b c.block c.i c.inst c.left in
        let keep = fitting.call c.b c.block c.i c.inst c.left.line (ap is_call c.calls) in
        let list = λ (n : Marks) (h : AllByRecursion (IsPut f found (At c.b c.i) (n.put (At c.b c.i))) (operands_of f (operation_of (found.change c.b c.i c.inst) c.inst.op))).
        subst (λ o. AllByRecursion (IsPut f found (At c.b c.i) (n.put (At c.b c.i))) (arguments_of o)) there
        (subst (λ o. AllByRecursion (IsPut f found (At c.b c.i) (n.put (At c.b c.i))) (operands_of f o)) c.calls
        (subst (λ o. AllByRecursion (IsPut f found (At c.b c.i) (n.put (At c.b c.i))) (operands_of f (operation_of o c.inst.op))) keep h)) in
        let args = args_one f (defines_once f printable) found fitting (At c.b c.i) (m.put (At c.b c.i)) (m'.put (At c.b c.i)) (m.put_call k) (m'.put_call k)
        (is.arguments c.width k c.calls) (is'.arguments c.width k c.calls) call.args (list m is.operands) (list m' is'.operands) in
        λ j. record { callee = call.callee; words = call.words; args = args j }
    | inr none ↦
        let none' : IsLeftCall f m' k → ⊥ = λ c. none (record {
          b = c.b;
          i = c.i;
          block = c.block;
          inst = c.inst;
          width = c.width;
          left = left_too f m' m (λ b. sym (alike.reached b)) (λ b i. sym (alike.met b i)) c.b c.block c.i c.inst c.left;
          calls = c.calls;
        }) in
        let put : m.put_call k ≡ m'.put_call k = λ j a. (marks.calls k none a ∙ sym (marks'.calls k none' a)) j in
        ap (λ p. record { callee = call.callee; words = call.words; args = map (argument_left p) call.args }) put
  ]

  -- ---- names that are added

  too : (n v : ℕ) → IsNarrowed f found m n v → IsNarrowed f found m' n v
  too n v r = record {
    b = r.b;
    i = r.i;
    block = r.block;
    inst = r.inst;
    name = r.name;
    op = r.op;
    left = also_left r.b r.block r.i r.inst r.left;
    result = r.result;
    same = r.same;
    narrows = r.narrows;
  }

  back : (n v : ℕ) → IsNarrowed f found m' n v → IsNarrowed f found m n v
  back n v r = record {
    b = r.b;
    i = r.i;
    block = r.block;
    inst = r.inst;
    name = r.name;
    op = r.op;
    left = left_too f m' m (λ b. sym (alike.reached b)) (λ b i. sym (alike.met b i)) r.b r.block r.i r.inst r.left;
    result = r.result;
    same = r.same;
    narrows = r.narrows;
  }

  type_one : (n : ℕ) (ty ty' : Ty) → AddedType f found m n ty → AddedType f found m' n ty' → ty ≡ ty'
  type_one n ty ty' (at_width v is) (at_width v' is') = ap Ty.Int (narrowed_one f (defines_once f printable) found m m' n v v' is is')
  type_one n ty ty' (at_width v is) (not_narrowed none) = absurd (none v (too n v is))
  type_one n ty ty' (not_narrowed none) (at_width v is) = absurd (none v (back n v is))
  type_one n ty ty' (not_narrowed none) (not_narrowed none') = refl

  added_one : m.added ≡ m'.added
  added_one = same_list m.added m'.added (marks.added.count ∙ sym marks'.added.count) (λ j below.
      let t = third j in
      let count = marks.added.count in
      let place = t.is in
      let of = t.below in
      let name : t.n < length f.values = omega (arith, below, count, place, of) in
      let is = marks.added.each t.n t.k name t.below in
      let is' = marks'.added.each t.n t.k name t.below in
      ap (slice_get m.added) t.is ∙ is.stands ∙ ap (λ ty. Some (unnamed ty)) (type_one t.n is.ty is'.ty is.is_type is'.is_type)
      ∙ sym (ap (slice_get m'.added) t.is ∙ is'.stands))

  -- ---- the function

  function_one : rewritten f m ≡ rewritten f m'
  function_one =
      let blocks = same_made (block_left f m) (block_left f m') 0 f.blocks (λ n k block e there.
      let same : n ≡ k = omega (arith, e) in block_one k block (subst (λ x. slice_get f.blocks x ≡ Some block) same there)) in
      let calls = same_made (call_left m) (call_left m') 0 f.calls (λ n k call e there.
      let same : n ≡ k = omega (arith, e) in call_one k call (subst (λ x. slice_get f.calls x ≡ Some call) same there)) in
      let added = added_one in
      λ j. record {
        name = f.name;
        lead = f.lead;
        width = f.width;
        params = f.params;
        tail = f.tail;
        values = f.values ++ added j;
        blocks = blocks j;
        calls = calls j;
      }

  pub leave_the_same : LeaveTheSame f m m'
  leave_the_same = record { reached = alike.reached; function = function_one }

  pub numbered_one : numbered (rewritten f m) m.reached ≡ numbered (rewritten f m') m'.reached
  numbered_one = λ j. numbered (function_one j) (λ b. alike.reached b j)
