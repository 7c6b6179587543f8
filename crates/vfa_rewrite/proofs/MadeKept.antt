-- The names that something hangs on in the function of the first step are the names that are kept.
use Rattle.std.proofs.Common.{◌≡◌, ℕ, ◌↔◌, not, true, false, Bool, All, Some, None, List, slice_get, refl, sym, ap, ◌∙◌, subst, inl, inr, arith}
use Rattle.std.specs.Prelude.{IfSome}
use Rattle.std.proofs.lemmas.Bool.{cases_Bool, and_from, and_parts}
use Rattle.vfa_ir.specs.declared.operations.BlockId.{BlockId}
use Rattle.vfa_ir.specs.declared.operations.Op.{Op}
use Rattle.vfa_ir.specs.declared.operations.Operand.{Operand}
use Rattle.vfa_ir.specs.declared.operations.ValueId.{ValueId}
use Rattle.vfa_ir.specs.declared.functions.Block.{Block}
use Rattle.vfa_ir.specs.declared.functions.CallOp.{CallOp}
use Rattle.vfa_ir.specs.declared.functions.Function.{Function}
use Rattle.vfa_ir.specs.declared.functions.Inst.{Inst}
use Rattle.vfa_ir.specs.declared.functions.Phi.{Phi}
use Rattle.vfa_ir.specs.Defined.{operand_names, op_names, term_names}
use Rattle.vfa_ir.specs.PhisFit.{PhiFits}
use Rattle.vfa_ir.specs.Words.{is_in}
use Rattle.vfa_mean.specs.Moments.{Into, At, IsLine, is_call}
use Rattle.vfa_demand.specs.Used.{IsUsed, by_terminator, by_need, by_result, by_phi as by_used_phi, AreUsed}
use Rattle.vfa_rules.specs.declared.change.Change.{Change}
use Rattle.vfa_walk.proofs.TruthTypes.{each_of}
use Rattle.vfa_rewrite.specs.Findings.{Findings, operation_of}
use Rattle.vfa_rewrite.specs.Making.{line_at, put_at, first_marks, has_effect, is_gone, must_stay, must_stay_at, made_marks}
use Rattle.vfa_rewrite.specs.Marks.{HasEffect, IsGone, MustStay, IsLeftLine, UsesName, Kept, by_end, by_effect, by_line, by_phi}
use Rattle.vfa_rewrite.specs.Rewritten.{Marks, with_operands, phis_if_met, kept_phis, phi_left, edges_of, rewritten_block, emptied, if_block_left, rewritten}
use Rattle.vfa_rewrite.proofs.EdgesLeft.{block_at, reached_block, left_block, met_up_to}
use Rattle.vfa_rewrite.proofs.FirstStep.{line_there, some_entry, work_line, line_stands, line_from, phi_stands, phi_from}
use Rattle.vfa_rewrite.proofs.Lines.{call_tells}
use Rattle.vfa_rewrite.proofs.MadeOperands.{IsGround}
use Rattle.vfa_rewrite.proofs.MarkedLines.{names_in}
use Rattle.vfa_rewrite.proofs.OneMarks.{same_names}
use Rattle.vfa_rewrite.proofs.PhisLeft.{get_within, one_of_pairs, entry_from_left}

-- ---- lines that have to stay

effect_is : (op : Op) (undefined : Bool) → HasEffect op undefined → has_effect op undefined ≡ true
effect_is (Op.Call width call) u h = refl
effect_is (Op.Assume c) u h = refl
effect_is (Op.Bin bin flags w a b) u h = h
effect_is (Op.Icmp pred samesign w a b) u h = absurd h
effect_is (Op.Select w c a b) u h = absurd h
effect_is (Op.Cast cast flags v w a) u h = absurd h
effect_is (Op.Freeze w a) u h = absurd h
effect_is (Op.Two fun w a b) u h = absurd h
effect_is (Op.One fun w a strict) u h = absurd h
effect_is (Op.Over over w a b) u h = absurd h
effect_is (Op.Part w pair index) u h = absurd h

is_effect : (op : Op) (undefined : Bool) → has_effect op undefined ≡ true → HasEffect op undefined
is_effect (Op.Call width call) u h = tt
is_effect (Op.Assume c) u h = tt
is_effect (Op.Bin bin flags w a b) u h = h
is_effect (Op.Icmp pred samesign w a b) u h = absurd (cc)
is_effect (Op.Select w c a b) u h = absurd (cc)
is_effect (Op.Cast cast flags v w a) u h = absurd (cc)
is_effect (Op.Freeze w a) u h = absurd (cc)
is_effect (Op.Two fun w a b) u h = absurd (cc)
is_effect (Op.One fun w a strict) u h = absurd (cc)
is_effect (Op.Over over w a b) u h = absurd (cc)
is_effect (Op.Part w pair index) u h = absurd (cc)

still_there : (c : Change) → (IsGone c → ⊥) → not (is_gone c) ≡ true
still_there Change.Gone h = absurd (h tt)
still_there (Change.Keep op) h = refl
still_there (Change.Narrow op v) h = refl
still_there (Change.Uses u) h = refl

not_gone : (c : Change) → not (is_gone c) ≡ true → IsGone c → ⊥
not_gone Change.Gone h gone = absurd (cc)
not_gone (Change.Keep op) h gone = gone
not_gone (Change.Narrow op v) h gone = gone
not_gone (Change.Uses u) h gone = gone

module _ (f : Function) (found : Findings) where
  must_at : (b i : ℕ) (inst : Inst) → line_at f b i ≡ Some inst → must_stay_at f found b i ≡ must_stay inst.op (found.change b i inst) (found.may_be_undefined b i inst)
  must_at b i inst there =
      ap (λ o. elim o [ None ↦ false | Some x ↦ must_stay x.op (found.change b i x) (found.may_be_undefined b i x) ]) there

  pub stays_must : (b i : ℕ) (inst : Inst) → line_at f b i ≡ Some inst → MustStay found b i inst → must_stay_at f found b i ≡ true
  stays_must b i inst there must =
      must_at b i inst there
      ∙ and_from (has_effect inst.op (found.may_be_undefined b i inst)) (not (is_gone (found.change b i inst)))
      (effect_is inst.op (found.may_be_undefined b i inst) must.effect) (still_there (found.change b i inst) must.left)

  pub must_stays : (b i : ℕ) (inst : Inst) → line_at f b i ≡ Some inst → must_stay_at f found b i ≡ true → MustStay found b i inst
  must_stays b i inst there h =
      let both = and_parts (has_effect inst.op (found.may_be_undefined b i inst)) (not (is_gone (found.change b i inst))) (sym (must_at b i inst there) ∙ h) in
      record { effect = is_effect inst.op (found.may_be_undefined b i inst) both.0; left = not_gone (found.change b i inst) both.1 }

-- the names that an operation uses hang on the calls of the function alone
abbrev names_called : ℕ → List CallOp → List ℕ
names_called k calls = names_in (slice_get calls k)

names_same : (g h : Function) (op : Op) → g.calls ≡ h.calls → op_names g op ≡ op_names h op
names_same g h op same = elim (cases_Bool (is_call op)) [
  | inr plain ↦ same_names g h op plain
  | inl call ↦ let c = call_tells op call in subst (λ o. op_names g o ≡ op_names h o) (sym c.is) (ap (names_called c.place) same)
]

module _ (f : Function) (found : Findings) (ground : IsGround f found) (reached used : ℕ → Bool) (must : ℕ → ℕ → Bool)
    (must_is : (b i : ℕ) (inst : Inst) → line_at f b i ≡ Some inst → found.met b i ≡ true → must b i ≡ must_stay_at f found b i) where
  abbrev First : Function
  First = rewritten f (first_marks f found reached)

  abbrev Made : Marks
  Made = made_marks f found reached used

  block_stands : (b : ℕ) (block : Block) → slice_get f.blocks b ≡ Some block → reached b ≡ true → slice_get First.blocks b ≡ Some (rewritten_block f (first_marks f found reached) b block)
  block_stands b block there left = block_at f (first_marks f found reached) b block there ∙ ap Some (reached_block f (first_marks f found reached) b block left)

  line_left : (b : ℕ) (block : Block) (i : ℕ) (inst : Inst) → IsLeftLine f Made b block i inst →
      IsLine First b (rewritten_block f (first_marks f found reached) b block) i (work_line f found reached b i inst)
  line_left b block i inst left = record {
    there = block_stands b block left.line.there left.reached;
    stands = line_stands f found reached b block left.line.there i inst left.line.stands
        (λ l less. met_up_to f found ground.fits b block left.line.there i l (let l = get_within block.insts i inst left.line.stands in omega (arith, l)) less left.met);
  }

  -- ---- what is kept is used

  abbrev work_names : ℕ → ℕ → Inst → Function → List ℕ
  work_names b i inst g = op_names g (with_operands (put_at f found (At b i)) (operation_of (found.change b i inst) inst.op))

  both_names : (b i : ℕ) (inst : Inst) → work_names b i inst (rewritten f Made) ≡ work_names b i inst First
  both_names b i inst = names_same (rewritten f Made) First (with_operands (put_at f found (At b i)) (operation_of (found.change b i inst) inst.op)) refl

  uses_first : (b i : ℕ) (inst : Inst) (x : ℕ) → UsesName f found Made b i inst x → is_in x (op_names First (work_line f found reached b i inst).op) ≡ true
  uses_first b i inst x uses = subst (λ names. is_in x names ≡ true) (both_names b i inst) uses

  abbrev block_id : ℕ → BlockId
  block_id n = record { 0 = n }

  one_operand : (b : ℕ) (block : Block) (j : ℕ) (phi : Phi) (d e : Operand × BlockId) (n k : ℕ) → slice_get f.blocks b ≡ Some block → slice_get block.phis j ≡ Some phi →
      slice_get phi.entries n ≡ Some d → slice_get phi.entries k ≡ Some e → d.1.0 ≡ e.1.0 → d ≡ e
  one_operand b block j phi d e n k there phi_at d_at e_at same =
      let fits = each_of (PhiFits f b) block.phis j phi
      (subst (λ o. IfSome o (λ (c : Block). All (PhiFits f b) c.phis)) there (ground.phis b (get_within f.blocks b block there)).phis) phi_at in
      let target : d.1 ≡ e.1 = ap block_id same in
      let operand : d.0 ≡ e.0 = one_of_pairs phi.entries fits.one_operand n k d e d_at e_at target in
      λ i. (operand i, target i)

  kept_used : (n : ℕ) → Kept f found Made n → IsUsed First must n
  kept_used n (by_end b block x there left t) = by_terminator b (rewritten_block f (first_marks f found reached) b block) x (block_stands b block there left) t
  kept_used n (by_effect b block i inst x left stays uses) =
      by_need b (rewritten_block f (first_marks f found reached) b block) i (work_line f found reached b i inst) x (line_left b block i inst left)
      (let there = line_there f b block i inst left.line.there left.line.stands in must_is b i inst there left.met ∙ stays_must f found b i inst there stays)
      (uses_first b i inst x uses)
  kept_used n (by_line b block i inst name x left result kept uses) =
      by_result b (rewritten_block f (first_marks f found reached) b block) i (work_line f found reached b i inst) name x (line_left b block i inst left) result (kept_used name.0 kept)
      (uses_first b i inst x uses)
  kept_used n (by_phi b block j phi k e x there left met phi_at kept entry_at entered t) =
      let m = first_marks f found reached in
      let some = some_entry m b phi.entries (edges_of f m b) k e entry_at entered in
      let one : some.from ≡ e = one_operand b block j phi some.from e some.place k there phi_at some.there entry_at some.same in
      by_used_phi b (rewritten_block f m b block) j (phi_left f m b phi) some.number (put_at f found (Into (Some some.from.1.0) b) some.from.0, some.from.1) x
      (block_stands b block there left) (ap (λ t. slice_get (phis_if_met t (kept_phis f m b block.phis)) j) met ∙ phi_stands f found reached b block.phis j phi phi_at)
      (kept_used phi.result.0 kept) some.left
      (subst (λ (d : Operand × BlockId). is_in x (operand_names (put_at f found (Into (Some d.1.0) b) d.0)) ≡ true) (sym one) t)

  -- ---- what is used is kept

  -- of a block of the first step that uses a name
  record IsLeftBlockOf (b : ℕ) (block' : Block) : Type 0 where
    block : Block
    there : slice_get f.blocks b ≡ Some block
    left : reached b ≡ true
    is : rewritten_block f (first_marks f found reached) b block ≡ block'

  -- a block that is gone has neither lines nor phis, and its terminator uses no name
  left_or_gone : (X : Type 0) (b : ℕ) (block' : Block) → slice_get First.blocks b ≡ Some block' → ((c : Block) → emptied c ≡ block' → X) → (IsLeftBlockOf b block' → X) → X
  left_or_gone X b block' there gone left = let l = left_block f (first_marks f found reached) b block' there in by l.block l.there (reached b) refl l.is
    where
      by : (c : Block) → slice_get f.blocks b ≡ Some c → (t : Bool) → reached b ≡ t → if_block_left t (rewritten_block f (first_marks f found reached) b c) (emptied c) ≡ block' → X
      by c e true r is = left (record { block = c; there = e; left = r; is = is })
      by c e false r is = gone c is

  record IsLeftLineOf (b i : ℕ) (line : Inst) : Type 0 where
    block : Block
    inst : Inst
    left : IsLeftLine f Made b block i inst
    is : work_line f found reached b i inst ≡ line

  line_was : (b : ℕ) (block' : Block) (i : ℕ) (line : Inst) → IsLine First b block' i line → IsLeftLineOf b i line
  line_was b block' i line at = left_or_gone (IsLeftLineOf b i line) b block' at.there
      (λ c is. absurd (let none : slice_get (emptied c).insts i ≡ Some line = ap (λ (d : Block). slice_get d.insts i) is ∙ at.stands in cc))
      (λ l.
      let stands : slice_get (rewritten_block f (first_marks f found reached) b l.block).insts i ≡ Some line = ap (λ (d : Block). slice_get d.insts i) l.is ∙ at.stands in
      let from = line_from f found reached b l.block l.there i line stands in
      record {
        block = l.block;
        inst = from.inst;
        left = record { line = record { there = l.there; stands = from.stands }; reached = l.left; met = from.met };
        is = from.is;
      })

  uses_made : (b i : ℕ) (inst line : Inst) (x : ℕ) → work_line f found reached b i inst ≡ line → is_in x (op_names First line.op) ≡ true → UsesName f found Made b i inst x
  uses_made b i inst line x is t =
      subst (λ names. is_in x names ≡ true) (sym (both_names b i inst)) (subst (λ (l : Inst). is_in x (op_names First l.op) ≡ true) (sym is) t)

  record IsLeftPhi (b : ℕ) (j : ℕ) (phi' : Phi) : Type 0 where
    block : Block
    there : slice_get f.blocks b ≡ Some block
    left : reached b ≡ true
    met : found.met b 0 ≡ true
    phi : Phi
    stands : slice_get block.phis j ≡ Some phi
    is : phi_left f (first_marks f found reached) b phi ≡ phi'

  phi_was : (b : ℕ) (block' : Block) (j : ℕ) (phi' : Phi) → slice_get First.blocks b ≡ Some block' → slice_get block'.phis j ≡ Some phi' → IsLeftPhi b j phi'
  phi_was b block' j phi' there at = left_or_gone (IsLeftPhi b j phi') b block' there
      (λ c is. absurd (let none : slice_get (emptied c).phis j ≡ Some phi' = ap (λ (d : Block). slice_get d.phis j) is ∙ at in cc))
      (λ l. by l (found.met b 0) refl (ap (λ (d : Block). slice_get d.phis j) l.is ∙ at))
    where
      by : (l : IsLeftBlockOf b block') (t : Bool) → found.met b 0 ≡ t → slice_get (phis_if_met t (kept_phis f (first_marks f found reached) b l.block.phis)) j ≡ Some phi' → IsLeftPhi b j phi'
      by l true e at =
          let from = phi_from f found reached b l.block.phis j phi' at in
          record { block = l.block; there = l.there; left = l.left; met = e; phi = from.phi; stands = from.stands; is = from.is }
      by l false e at = absurd (cc)

  used_kept : (n : ℕ) → IsUsed First must n → Kept f found Made n
  used_kept n (by_terminator b block' x there t) = left_or_gone (Kept f found Made x) b block' there
      (λ c is. absurd (let none : is_in x (term_names (emptied c).term) ≡ true = ap (λ (d : Block). is_in x (term_names d.term)) is ∙ t in cc))
      (λ l. by_end b l.block x l.there l.left (ap (λ (d : Block). is_in x (term_names d.term)) l.is ∙ t))
  used_kept n (by_need b block' i line x at stays t) =
      let l = line_was b block' i line at in
      let there = line_there f b l.block i l.inst l.left.line.there l.left.line.stands in
      by_effect b l.block i l.inst x l.left (must_stays f found b i l.inst there (sym (must_is b i l.inst there l.left.met) ∙ stays)) (uses_made b i l.inst line x l.is t)
  used_kept n (by_result b block' i line name x at result kept t) =
      let l = line_was b block' i line at in
      by_line b l.block i l.inst name x l.left (ap (λ (y : Inst). y.result) l.is ∙ result) (used_kept name.0 kept) (uses_made b i l.inst line x l.is t)
  used_kept n (by_used_phi b block' j phi' k e' x there at kept entry_at t) =
      let m = first_marks f found reached in
      let l = phi_was b block' j phi' there at in
      let from = entry_from_left f m b l.phi.entries (edges_of f m b) k e' (ap (λ (p : Phi). slice_get p.entries k) l.is ∙ entry_at) in
      let same : phi'.result ≡ l.phi.result = ap (λ (p : Phi). p.result) (sym l.is) in
      by_phi b l.block j l.phi from.place from.from x l.there l.left l.met l.stands (subst (λ (v : ValueId). Kept f found Made v.0) same (used_kept phi'.result.0 kept)) from.there from.counted
      (ap (λ (e : Operand × BlockId). is_in x (operand_names e.0)) from.is ∙ t)

  -- ---- both ways

  pub keeps_is : AreUsed First must used → (n : ℕ) → (used n ≡ true) ↔ Kept f found Made n
  keeps_is are_used n = (λ h. used_kept n ((are_used n).0 h), λ kept. (are_used n).1 (kept_used n kept))
