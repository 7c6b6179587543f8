-- Rewriting depends on the names that are read alone.
use Rattle.std.proofs.Common.{◌≡◌, ℕ, zero, suc, Bool, true, false, nat_eq, if◌then◌else◌, Option, Some, None, is_some, IfSome, All, List, [], ◌∷◌, map, length, slice_get, inl, inr, refl, sym, ap, ◌∙◌, subst, eq-eqb}
use Rattle.std.specs.List.{AllByRecursion}
use Rattle.std.proofs.lemmas.Bool.{eqb-true}
use Rattle.std.proofs.lemmas.Option.{same_Some}
use Rattle.vfa_ir.specs.declared.operations.BlockId.{BlockId}
use Rattle.vfa_ir.specs.declared.operations.Operand.{Operand}
use Rattle.vfa_ir.specs.declared.operations.Ty.{Ty}
use Rattle.vfa_ir.specs.declared.functions.Block.{Block}
use Rattle.vfa_ir.specs.declared.functions.Function.{Function}
use Rattle.vfa_ir.specs.declared.functions.Inst.{Inst}
use Rattle.vfa_ir.specs.declared.functions.Phi.{Phi}
use Rattle.vfa_ir.specs.Defined.{line_count, operand_names, op_names}
use Rattle.vfa_ir.specs.Operands.{operands_of}
use Rattle.vfa_ir.specs.PhisFit.{PhiFits, targets}
use Rattle.vfa_ir.specs.Walks.{IsEdge, is_in}
use Rattle.vfa_cfg.specs.declared.listing.Edge.{Edge}
use Rattle.vfa_check.specs.Checked.{IsChecked}
use Rattle.vfa_mean.specs.Moments.{Place, Into, At, IsLine}
use Rattle.vfa_mean.specs.Outcomes.{entry_from}
use Rattle.vfa_mean.proofs.FreshOperands.Definitions.{in_first, in_rest}
use Rattle.vfa_walk.specs.Leaving.{edges_out}
use Rattle.vfa_walk.specs.TruthReads.{IsUsedAt, IsReadAt, EntriesAgree, AgreeWhereRead}
use Rattle.vfa_walk.proofs.TruthTypes.{each_of}
use Rattle.vfa_xfer.specs.Transfers.{fact_answers}
use Rattle.vfa_rewrite.specs.ByFacts.{FactState, FactTable, fact_state, edge_state, findings_of}
use Rattle.vfa_rewrite.specs.Findings.{Findings, operation_of}
use Rattle.vfa_rewrite.specs.Marks.{IsReplaced, HasNoOther, Becomes, number, no_number, replaced, stays, IsPut, term_operands, Reached, first, next, HasEffect, IsGone, MustStay, UsesName, Kept, by_end, by_effect, by_line, by_phi, LineIsMarked, EntryIsMarked, BlockIsMarked, IsNarrowed, AddedType, at_width, not_narrowed, AreMarks}
use Rattle.vfa_rewrite.specs.Rewriting.{IsRewritten}
use Rattle.vfa_rewrite.specs.Rewritten.{Marks, with_operands, edges_from, if_reached, edges_of, rewritten}
use Rattle.vfa_rewrite.proofs.BlocksLeft.{from_get}
use Rattle.vfa_rewrite.proofs.MarkedBlocks.{at_all}
use Rattle.vfa_walk.proofs.NarrowingReads.{IsAmong}
use Rattle.vfa_rewrite.proofs.PhisLeft.{get_within, one_of_pairs}
use Rattle.vfa_rewrite.proofs.ReadFindings.{change_alike, undefined_alike, decision_alike, line_among, worked_among, replaced_among}
use Rattle.vfa_rewrite.proofs.ReadOperands.{among_named, AreAllAmong, term_named, IsOperandAt, used_operand, block_reads}
use Rattle.vfa_rewrite.proofs.ReadStates.{edges_from as all_from, line_agrees, behind_edge_agrees, left_agrees, some_alike}
use Rattle.vfa_rewrite.proofs.TargetsLeft.{some_edge}

-- ---- findings that are the same but for decisions

pub record AreSame (f : Function) (found found' : Findings) : Type 0 where
  pub met : (b i : ℕ) → found.met b i ≡ found'.met b i
  pub left : (b k : ℕ) → found.left b k ≡ found'.left b k
  pub change : (b : ℕ) (block : Block) (i : ℕ) (inst : Inst) → IsLine f b block i inst → found.change b i inst ≡ found'.change b i inst
  pub undefined : (b : ℕ) (block : Block) (i : ℕ) (inst : Inst) → IsLine f b block i inst → found.may_be_undefined b i inst ≡ found'.may_be_undefined b i inst

turned : (f : Function) (found found' : Findings) → AreSame f found found' → AreSame f found' found
turned f found found' same = record {
  met = λ b i. sym (same.met b i);
  left = λ b k. sym (same.left b k);
  change = λ b block i inst line. sym (same.change b block i inst line);
  undefined = λ b block i inst line. sym (same.undefined b block i inst line);
}

module _ (f : Function) (found found' : Findings) (same : AreSame f found found') where
  replaced_still : (n : ℕ) (u : Operand) → IsReplaced f found n u → IsReplaced f found' n u
  replaced_still n u r = record {
    b = r.b;
    i = r.i;
    block = r.block;
    inst = r.inst;
    name = r.name;
    line = r.line;
    met = sym (same.met r.b r.i) ∙ r.met;
    result = r.result;
    same = r.same;
    uses = sym (same.change r.b r.block r.i r.inst r.line) ∙ r.uses;
  }

  reached_still : (b : ℕ) → Reached f found b → Reached f found' b
  reached_still b first = first
  reached_still b (next c block k to before there leads left) = next c block k to (reached_still c before) there leads (sym (same.left c k) ∙ left)

  must_still : (b : ℕ) (block : Block) (i : ℕ) (inst : Inst) → IsLine f b block i inst → MustStay found b i inst → MustStay found' b i inst
  must_still b block i inst line must = record {
    effect = subst (HasEffect inst.op) (same.undefined b block i inst line) must.effect;
    left = λ gone. must.left (subst IsGone (sym (same.change b block i inst line)) gone);
  }

  module _ (m : Marks) where
    uses_still : (b : ℕ) (block : Block) (i : ℕ) (inst : Inst) (n : ℕ) → IsLine f b block i inst → UsesName f found m b i inst n → UsesName f found' m b i inst n
    uses_still b block i inst n line uses =
        subst (λ c. is_in n (op_names (rewritten f m) (with_operands (m.put (At b i)) (operation_of c inst.op))) ≡ true) (same.change b block i inst line) uses

    kept_still : (n : ℕ) → Kept f found m n → Kept f found' m n
    kept_still n (by_end b block k there reached uses) = by_end b block k there reached uses
    kept_still n (by_effect b block i inst k left must uses) = by_effect b block i inst k left (must_still b block i inst left.line must) (uses_still b block i inst k left.line uses)
    kept_still n (by_line b block i inst name k left result kept uses) = by_line b block i inst name k left result (kept_still name.0 kept) (uses_still b block i inst k left.line uses)
    kept_still n (by_phi b block j phi k e x there reached met phi_at kept entry_at entered uses) =
        by_phi b block j phi k e x there reached met phi_at (kept_still phi.result.0 kept) entry_at entered uses

    narrowed_still : (n v : ℕ) → IsNarrowed f found m n v → IsNarrowed f found' m n v
    narrowed_still n v r = record {
      b = r.b;
      i = r.i;
      block = r.block;
      inst = r.inst;
      name = r.name;
      op = r.op;
      left = r.left;
      result = r.result;
      same = r.same;
      narrows = sym (same.change r.b r.block r.i r.inst r.left.line) ∙ r.narrows;
    }

-- ---- entries of phis

pub record FirstOf (p : ℕ) (es : List (Operand × BlockId)) : Type 0 where
  pub place : ℕ
  pub entry : Operand × BlockId
  pub there : slice_get es place ≡ Some entry
  pub from : entry.1.0 ≡ p
  pub is : entry_from p es ≡ entry.0

first_from : (p : ℕ) (es : List (Operand × BlockId)) (k : ℕ) (e : Operand × BlockId) → slice_get es k ≡ Some e → e.1.0 ≡ p → FirstOf p es
first_from p [] k e there from = absurd cc
first_from p (d ∷ es) k e there from = by (nat_eq d.1.0 p) refl k there (λ i at. first_from p es i e at from)
  where
    later : FirstOf p es → nat_eq d.1.0 p ≡ false → FirstOf p (d ∷ es)
    later l other = record { place = suc l.place; entry = l.entry; there = l.there; from = l.from; is = ap (λ t. if t then d.0 else entry_from p es) other ∙ l.is }

    by : (t : Bool) → nat_eq d.1.0 p ≡ t → (i : ℕ) → slice_get (d ∷ es) i ≡ Some e → ((i : ℕ) → slice_get es i ≡ Some e → FirstOf p es) → FirstOf p (d ∷ es)
    by true is i at again = record { place = 0; entry = d; there = refl; from = eqb-true d.1.0 p is; is = ap (λ t. if t then d.0 else entry_from p es) is }
    by false is zero at again =
        let one : d ≡ e = same_Some d e at in
        let equal : d.1.0 ≡ p = ap (λ (x : Operand × BlockId). x.1.0) one ∙ from in
        absurd (let t = eq-eqb d.1.0 p equal in cc)
    by false is (suc i) at again = later (again i at) is

target_in : (ts : List BlockId) (k : ℕ) (to : BlockId) → slice_get ts k ≡ Some to → is_in to.0 (map (λ (t : BlockId). t.0) ts) ≡ true
target_in [] k to h = absurd cc
target_in (t ∷ ts) zero to h = in_first to.0 t.0 (map (λ (t : BlockId). t.0) ts) (ap (λ (t : BlockId). t.0) (sym (same_Some t to h)))
target_in (t ∷ ts) (suc k) to h = in_rest to.0 t.0 (map (λ (t : BlockId). t.0) ts) (target_in ts k to h)

counted_edge : (f : Function) (m : Marks) (b p : ℕ) → (edges_of f m b p ≡ 0 → ⊥) → IsEdge f p b
counted_edge f m b p = by (m.reached p) (slice_get f.blocks p)
  where
    by : (r : Bool) (o : Option Block) → (if_reached r (elim o [ None ↦ 0 | Some block ↦ edges_from (m.left p) b 0 (targets block.term) ]) ≡ 0 → ⊥) →
        is_in b (elim o [ None ↦ [] | Some block ↦ map (λ (t : BlockId). t.0) (targets block.term) ]) ≡ true
    by false o some = absurd (some refl)
    by true None some = absurd (some refl)
    by true (Some block) some =
        let edge = some_edge (m.left p) b 0 (targets block.term) some in
        subst (λ n. is_in n (map (λ (t : BlockId). t.0) (targets block.term)) ≡ true) edge.same (target_in (targets block.term) edge.place edge.to edge.there)

module _ (f : Function) (checked : IsChecked f) where
  -- the operand of an entry is used at the end of the block that it names
  entry_among : (m : Marks) (b : ℕ) (block : Block) (j : ℕ) (phi : Phi) (k : ℕ) (e : Operand × BlockId) → slice_get f.blocks b ≡ Some block → slice_get block.phis j ≡ Some phi →
      slice_get phi.entries k ≡ Some e → (edges_of f m b e.1.0 ≡ 0 → ⊥) → IsAmong (IsOperandAt f e.1.0) e.0
  entry_among m b block j phi k e there phi_at entry_at entered =
      let fits = each_of (PhiFits f b) block.phis j phi (subst (λ o. IfSome o (λ (c : Block). All (PhiFits f b) c.phis)) there (checked.formed.phis b (get_within f.blocks b block there)).phis) phi_at in
      let start = first_from e.1.0 phi.entries k e entry_at refl in
      let target : start.entry.1 ≡ e.1 = λ i. record { 0 = start.from i } in
      let one : start.entry.0 ≡ e.0 = one_of_pairs phi.entries fits.one_operand start.place k start.entry e start.there entry_at target in
      among_named (IsOperandAt f e.1.0) e.0
      (λ v h. used_operand f e.1.0 v (IsUsedAt.by_phi b block j phi (counted_edge f m b e.1.0 entered) there phi_at
      (subst (λ x. is_in v (operand_names x) ≡ true) (sym (start.is ∙ one)) h)))

  -- ---- two tables

  module _ (t u : FactTable) (agree : AgreeWhereRead f t u) where
    abbrev found : Findings
    found = findings_of f t

    abbrev found' : Findings
    found' = findings_of f u

    at_agrees : (b i : ℕ) → EntriesAgree (IsReadAt f b) (fact_state f t (At b i)) (fact_state f u (At b i))
    at_agrees b i = line_agrees fact_answers f (IsReadAt f b) b i (t b) (u b) (block_reads f b) (agree b)

    into_agrees : (b to : ℕ) → EntriesAgree (IsReadAt f b) (fact_state f t (Into (Some b) to)) (fact_state f u (Into (Some b) to))
    into_agrees b to = left_agrees fact_answers f (IsReadAt f b) b to (t b) (u b) (block_reads f b) (agree b)

    left_same : (b : ℕ) (o : Option Edge) → ((e : Edge) → o ≡ Some e → e.from.0 ≡ b) →
        is_some (edge_state f (fact_state f t (At b (line_count f b))) o) ≡ is_some (edge_state f (fact_state f u (At b (line_count f b))) o)
    left_same b None from = refl
    left_same b (Some e) from =
        some_alike fact_answers f (IsReadAt f b) _ _
        (behind_edge_agrees fact_answers f (IsReadAt f b) b e (fact_state f t (At b (line_count f b))) (fact_state f u (At b (line_count f b))) (from e refl) (block_reads f b)
        (at_agrees b (line_count f b)))

    pub are_same : AreSame f (findings_of f t) (findings_of f u)
    are_same = record {
      met = λ b i. some_alike fact_answers f (IsReadAt f b) _ _ (at_agrees b i);
      left = λ b k. left_same b (slice_get (edges_out f b) k) (λ e is. at_all (λ (e : Edge). e.from.0 ≡ b) (edges_out f b) k e (all_from fact_answers f (IsReadAt f b) b) is);
      change = λ b block i inst line. change_alike f checked.once b inst _ _ (line_among f checked.once b block i inst line) (at_agrees b i);
      undefined = λ b block i inst line. undefined_alike f checked.once b inst.op _ _ (line_among f checked.once b block i inst line) (at_agrees b i);
    }

    -- ---- operands

    -- an operand at a block becomes the same at a place where the states agree
    module _ (b : ℕ) (place : Place) (here : EntriesAgree (IsReadAt f b) (fact_state f t place) (fact_state f u place)) where
      decided : (ty : Ty) (a : Operand) → IsAmong (IsOperandAt f b) a → found.decision place ty a ≡ found'.decision place ty a
      decided ty a among = decision_alike f checked.once b ty a (fact_state f t place) (fact_state f u place) among here

      no_other : (a : Operand) → HasNoOther f found a → HasNoOther f found' a
      no_other (Operand.Value n) none = λ w r. none w (replaced_still f found' found (turned f found found' are_same) n.0 w r)
      no_other (Operand.Literal x) none = tt
      no_other Operand.Poison none = tt

      becomes_still : (ty : Ty) (a a' : Operand) → IsAmong (IsOperandAt f b) a → Becomes f found place ty a a' → Becomes f found' place ty a a'
      becomes_still ty a a' among (number c x e) = number c x (sym (decided ty c among) ∙ e)
      becomes_still ty a a' among (no_number c e) = no_number c (sym (decided ty c among) ∙ e)
      becomes_still ty a a' among (replaced n w c e r rest) =
          replaced n w c (sym (decided ty (Operand.Value n) among) ∙ e) (replaced_still f found found' are_same n.0 w r)
          (becomes_still ty w c (replaced_among f checked.once t b n.0 w among r) rest)
      becomes_still ty a a' among (stays c e none) = stays c (sym (decided ty c among) ∙ e) (no_other c none)

      all_put : (put : Operand → Operand) (list : List (Ty × Operand)) → AreAllAmong (IsOperandAt f b) list → AllByRecursion (IsPut f found place put) list →
          AllByRecursion (IsPut f found' place put) list
      all_put put [] among is = tt
      all_put put ((Ty.Int w, a) ∷ rest) among is = (becomes_still (Ty.Int w) a (put a) among.0 is.0, all_put put rest among.1 is.1)
      all_put put ((Ty.Pair w, a) ∷ rest) among is = (tt, all_put put rest among.1 is.1)

    -- ---- marks

    module _ (m : Marks) where
      line_still : (b : ℕ) (block : Block) (i : ℕ) (inst : Inst) → IsLine f b block i inst → LineIsMarked f found m b i inst → LineIsMarked f found' m b i inst
      line_still b block i inst line is =
          let change = are_same.change b block i inst line in record {
            change = is.change ∙ change;
            operands = subst (λ c. AllByRecursion (IsPut f found' (At b i) (m.put (At b i))) (operands_of f (operation_of c inst.op))) change
                (all_put b (At b i) (at_agrees b i) (m.put (At b i)) (operands_of f (operation_of (found.change b i inst) inst.op))
                (worked_among f checked.once b block i inst line (fact_state f t (At b i))) is.operands);
            arguments = is.arguments;
            stays = (
              λ h. elim (is.stays.0 h) [ inl must ↦ inl (must_still f found found' are_same b block i inst line must) | inr kept ↦ inr kept ],
              λ h. is.stays.1 (elim h [ inl must ↦ inl (must_still f found' found (turned f found found' are_same) b block i inst line must) | inr kept ↦ inr kept ]),
            );
          }

      block_still : (b : ℕ) (block : Block) → slice_get f.blocks b ≡ Some block → BlockIsMarked f found m b block → BlockIsMarked f found' m b block
      block_still b block there is = record {
        phis = from_get (λ (phi : Phi). AllByRecursion (EntryIsMarked f found' m b phi.width) phi.entries) block.phis
            (λ j phi phi_at. from_get (EntryIsMarked f found' m b phi.width) phi.entries
            (λ k e entry_at. record {
              put = λ entered. becomes_still e.1.0 (Into (Some e.1.0) b) (into_agrees e.1.0 b) (Ty.Int phi.width) e.0 (m.put (Into (Some e.1.0) b) e.0)
                  (entry_among m b block j phi k e there phi_at entry_at entered)
                  ((at_all (EntryIsMarked f found m b phi.width) phi.entries k e
                  (at_all (λ (phi : Phi). AllByRecursion (EntryIsMarked f found m b phi.width) phi.entries) block.phis j phi is.phis phi_at) entry_at).put entered);
            }));
        lines = λ i inst stands met. line_still b block i inst (record { there = there; stands = stands }) (is.lines i inst stands met);
        fresh = λ i inst name op v stands met result narrows. is.fresh i inst name op v stands met result (are_same.change b block i inst (record { there = there; stands = stands }) ∙ narrows);
        term = λ met. all_put b (At b (length block.insts)) (at_agrees b (length block.insts)) (m.put (At b (length block.insts))) (term_operands block.term)
            (term_named (IsOperandAt f b) block.term (λ v member. used_operand f b v (IsUsedAt.by_terminator block there member))) (is.term met);
      }

      type_still : (n : ℕ) (ty : Ty) → AddedType f found m n ty → AddedType f found' m n ty
      type_still n ty (at_width v narrows) = at_width v (narrowed_still f found found' are_same m n v narrows)
      type_still n ty (not_narrowed none) = not_narrowed (λ v narrows. none v (narrowed_still f found' found (turned f found found' are_same) m n v narrows))

      pub marks_still : AreMarks f (findings_of f t) m → AreMarks f (findings_of f u) m
      marks_still marks = record {
        met = λ b i. marks.met b i ∙ are_same.met b i;
        left = λ b k. marks.left b k ∙ are_same.left b k;
        reached = λ b. (λ h. reached_still f found found' are_same b ((marks.reached b).0 h), λ h. (marks.reached b).1 (reached_still f found' found (turned f found found' are_same) b h));
        keeps = λ n. (λ h. kept_still f found found' are_same m n ((marks.keeps n).0 h), λ h. (marks.keeps n).1 (kept_still f found' found (turned f found found' are_same) m n h));
        blocks = λ b block there reached. block_still b block there (marks.blocks b block there reached);
        added = record {
          count = marks.added.count;
          each = λ n k below small. let one = marks.added.each n k below small in record { ty = one.ty; is_type = type_still n one.ty one.is_type; stands = one.stands };
        };
        calls = marks.calls;
      }

    pub rewritten_still : (g : Function) → IsRewritten f t g → IsRewritten f u g
    rewritten_still g r = record { marks = r.marks; are_marks = marks_still r.marks r.are_marks; is = r.is }

  entries_turned : (names : ℕ → Type 0) (o o' : Option FactState) → EntriesAgree names o o' → EntriesAgree names o' o
  entries_turned names None None agree = tt
  entries_turned names None (Some s') agree = absurd agree
  entries_turned names (Some s) None agree = absurd agree
  entries_turned names (Some s) (Some s') agree = λ v inside. (sym (agree v inside).0, sym (agree v inside).1)

  pub agree_turned : (t u : FactTable) → AgreeWhereRead f t u → AgreeWhereRead f u t
  agree_turned t u agree b = entries_turned (IsReadAt f b) (t b) (u b) (agree b)
