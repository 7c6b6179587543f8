-- What is used of the function in which all lines stay is the function that the marks leave; and which lines have to stay.
use Rattle.std.proofs.Common.{◌≡◌, ◌<◌, ◌≤◌, ◌+◌, ◌||◌, ℕ, zero, suc, Bool, true, false, cond, if◌then◌else◌, Option, Some, None, List, [], ◌∷◌, ◌++◌, length, drop, get_or, refl, sym, ap, ◌∙◌, subst, arith, add-one, append_assoc, append-nil}
use Rattle.std.specs.Prelude.{slice_get, slice_index_or}
use Rattle.std.specs.List.{filter}
use Rattle.std.proofs.lemmas.Option.{slice_get_within}
use Rattle.vfa_ir.specs.declared.operations.BlockId.{BlockId}
use Rattle.vfa_ir.specs.declared.operations.Operand.{Operand}
use Rattle.vfa_ir.specs.declared.operations.Ty.{Ty}
use Rattle.vfa_ir.specs.declared.functions.Block.{Block}
use Rattle.vfa_ir.specs.declared.functions.Function.{Function}
use Rattle.vfa_ir.specs.declared.functions.Inst.{Inst}
use Rattle.vfa_ir.specs.declared.functions.Phi.{Phi}
use Rattle.vfa_ir.specs.declared.functions.Value.{Value}
use Rattle.vfa_mean.specs.Moments.{Into, At}
use Rattle.vfa_rules.specs.declared.change.Change.{Change}
use Rattle.vfa_walk.specs.Stepping.{insts_of}
use Rattle.vfa_rewrite.specs.declared.found.BlockFindings.{BlockFindings}
use Rattle.vfa_rewrite.specs.declared.found.LineFinding.{LineFinding}
use Rattle.vfa_rewrite.specs.Expanding.{must_of, musts_by, musts_of, must_stay_by, stays_by, expanded, used_line, used_lines, is_used_phi, used_block, used_block_by, used_block_at, added_by}
use Rattle.vfa_rewrite.specs.Findings.{Findings, operation_of}
use Rattle.vfa_rewrite.specs.Found.{IsKeptOf, AreKeptOf, kept_line, only_if}
use Rattle.vfa_rewrite.specs.Making.{line_at, put_at, first_marks, must_stay, must_stay_at, stays_at, is_kept_result, result_at, result_number, narrowed_width, added_type, three, added_for, made_marks}
use Rattle.vfa_rewrite.specs.Marks.{fresh_name}
use Rattle.vfa_rewrite.specs.Rewritten.{with_numbers, line_of, narrowed, with_operands, changed_by, changed, if_stays, if_met, lines_left, term_left, one_fewer, if_counted, entries_left, phi_left, kept_phis, phis_if_met, if_left, rewritten_block, emptied, if_block_left, block_left, rewritten, edges_of}
use Rattle.vfa_rewrite.proofs.Numbered.{joined_all, joined_more, numbered_again, numbered_at, numbered_more, stands_below}

from_start : (n : ℕ) → n ≡ 0 + n
from_start n = omega arith

-- ---- lines that have to stay

abbrev finding : Findings → ℕ → ℕ → Inst → LineFinding
finding found b i inst = record { change = found.change b i inst; may_be_undefined = found.may_be_undefined b i inst }

module _ (f : Function) (found : Findings) (kept : List BlockFindings) (are : AreKeptOf f found kept) (b i : ℕ) (inst : Inst) where
  must_here : line_at f b i ≡ Some inst → must_stay_at f found b i ≡ must_stay inst.op (found.change b i inst) (found.may_be_undefined b i inst)
  must_here here = ap (λ o. elim o [ None ↦ false | Some x ↦ must_stay x.op (found.change b i x) (found.may_be_undefined b i x) ]) here

  must_by : (block : Option Block) → slice_get f.blocks b ≡ block → slice_get (elim block [ None ↦ [] | Some x ↦ x.insts ]) i ≡ Some inst → found.met b i ≡ true →
      slice_index_or (get_or (with_numbers (musts_of kept) 0 f.blocks) b []) i false ≡ must_stay inst.op (found.change b i inst) (found.may_be_undefined b i inst)
  must_by None there here met = absurd (cc)
  must_by (Some block) there here met =
      let inside = slice_get_within f.blocks b block there in
      let at = stands_below kept b (omega (arith, inside, are.count)) in
      let line : line_at f b i ≡ Some inst = ap (λ o. slice_get (elim o [ None ↦ [] | Some x ↦ x.insts ]) i) there ∙ here in
      let of : slice_get at.x.lines.items i ≡ Some (finding found b i inst) =
      (are.each b at.x at.there).lines i inst line ∙ ap (λ m. only_if m (finding found b i inst)) met in
      ap (λ l. slice_index_or l i false) (numbered_at (musts_of kept) f.blocks b block [] there ∙ ap (λ o. musts_by o block.insts) at.there)
      ∙ (numbered_at (must_of at.x.lines.items) block.insts i inst false here ∙ ap (must_stay_by inst.op) of)

  pub musts_are : line_at f b i ≡ Some inst → found.met b i ≡ true → slice_index_or (get_or (with_numbers (musts_of kept) 0 f.blocks) b []) i false ≡ must_stay_at f found b i
  musts_are line met = must_by (slice_get f.blocks b) refl line met ∙ sym (must_here line)

-- one more instruction, and one more block
pub must_more : (lines : List LineFinding) (insts : List Inst) (i : ℕ) (d : Inst) → i < length insts → (x : Bool) (line : Option LineFinding) → line ≡ slice_get lines i →
    x ≡ must_stay_by (get_or insts i d).op line → (old new all : List Bool) → new ≡ old ++ x ∷ [] → old ++ with_numbers (must_of lines) i (drop i insts) ≡ all →
    new ++ with_numbers (must_of lines) (i + 1) (drop (i + 1) insts) ≡ all
must_more lines insts i d less x line line_is x_is old new all put before =
    let is : x ≡ must_of lines i (get_or insts i d) = x_is ∙ ap (must_stay_by (get_or insts i d).op) line_is in
    ap (λ l. l ++ with_numbers (must_of lines) (i + 1) (drop (i + 1) insts)) (put ∙ ap (λ t. old ++ t ∷ []) is) ∙ numbered_more (must_of lines) insts i d less old all before

pub musts_more : (kept : List BlockFindings) (blocks : List Block) (b : ℕ) (d : Block) → b < length blocks → (block : Block) → block ≡ get_or blocks b d → (insts : List Inst) → insts ≡ block.insts →
    (x : List Bool) → x ≡ musts_by (slice_get kept b) insts → (old new all : List (List Bool)) → new ≡ old ++ x ∷ [] → old ++ with_numbers (musts_of kept) b (drop b blocks) ≡ all →
    new ++ with_numbers (musts_of kept) (b + 1) (drop (b + 1) blocks) ≡ all
musts_more kept blocks b d less block block_is insts insts_are x x_is old new all put before =
    let is : x ≡ musts_of kept b (get_or blocks b d) = x_is ∙ (ap (musts_by (slice_get kept b)) insts_are ∙ ap (musts_of kept b) block_is) in
    ap (λ l. l ++ with_numbers (musts_of kept) (b + 1) (drop (b + 1) blocks)) (put ∙ ap (λ t. old ++ t ∷ []) is) ∙ numbered_more (musts_of kept) blocks b d less old all before

-- ---- phis

module _ (f : Function) (found : Findings) (reached used : ℕ → Bool) where
  same_entries : (b : ℕ) (entries : List (Operand × BlockId)) (count : ℕ → ℕ) →
      entries_left (first_marks f found reached) b entries count ≡ entries_left (made_marks f found reached used) b entries count
  same_entries b [] count = refl
  same_entries b (e ∷ rest) count =
      let one = same_entries b rest (one_fewer count e.1.0) in
      let none = same_entries b rest count in
      λ j. if_counted (count e.1.0) ((put_at f found (Into (Some e.1.0) b) e.0, e.1) ∷ one j) (none j)

  same_phi : (b : ℕ) (phi : Phi) → phi_left f (first_marks f found reached) b phi ≡ phi_left f (made_marks f found reached used) b phi
  same_phi b phi =
      let entries = same_entries b phi.entries (edges_of f (made_marks f found reached used) b) in
      λ j. record { result = phi.result; width = phi.width; entries = entries j }

  used_phis : (b : ℕ) (phis : List Phi) → filter (is_used_phi used) (kept_phis f (first_marks f found reached) b phis) ≡ kept_phis f (made_marks f found reached used) b phis
  used_phis b [] = refl
  used_phis b (phi ∷ rest) = by (used phi.result.0) (used_phis b rest)
    where
      by : (t : Bool) → filter (is_used_phi used) (kept_phis f (first_marks f found reached) b rest) ≡ kept_phis f (made_marks f found reached used) b rest → cond t (phi_left f (first_marks f found reached) b phi ∷ filter (is_used_phi used) (kept_phis f (first_marks f found reached) b rest))
          (filter (is_used_phi used) (kept_phis f (first_marks f found reached) b rest))
          ≡ if_left t (phi_left f (made_marks f found reached used) b phi) (kept_phis f (made_marks f found reached used) b rest)
      by true others = let one = same_phi b phi in λ j. one j ∷ others j
      by false others = others

  used_if_met : (b : ℕ) (phis : List Phi) (t : Bool) → filter (is_used_phi used) (phis_if_met t (kept_phis f (first_marks f found reached) b phis))
      ≡ phis_if_met t (kept_phis f (made_marks f found reached used) b phis)
  used_if_met b phis true = used_phis b phis
  used_if_met b phis false = refl

-- ---- lines

lines_if : (t : Bool) (lines rest : List Inst) → (if t then lines else []) ++ rest ≡ if_stays t lines rest
lines_if true lines rest = refl
lines_if false lines rest = refl

module _ (f : Function) (found : Findings) (reached used : ℕ → Bool) (b i : ℕ) (inst : Inst) (here : line_at f b i ≡ Some inst) where
  abbrev work : Inst
  work = line_of inst.result (with_operands (put_at f found (At b i)) (operation_of (found.change b i inst) inst.op))

  one_line : changed (first_marks f found reached) b i inst ≡ work ∷ []
  one_line =
      ap (λ o. changed_by (elim o [ None ↦ Change.Gone | Some x ↦ Change.Keep (operation_of (found.change b i x) x.op) ]) (first_marks f found reached) b i inst) here

  stays_here : stays_at f found used b i ≡ stays_by used inst (finding found b i inst)
  stays_here =
      ap (λ o. elim o [ None ↦ false | Some x ↦ must_stay_at f found b i || is_kept_result used x.result ]) here
      ∙ ap (λ t. t || is_kept_result used inst.result)
      (ap (λ o. elim o [ None ↦ false | Some x ↦ must_stay x.op (found.change b i x) (found.may_be_undefined b i x) ]) here)

  expanded_by : (change : Change) →
      expanded f inst change (line_of inst.result (with_operands (put_at f found (At b i)) (operation_of change inst.op))) ≡ changed_by change (made_marks f found reached used) b i inst
  expanded_by (Change.Keep op) = refl
  expanded_by (Change.Narrow op v) =
      let number : result_number inst.result ≡ result_at f b i = sym (ap (λ o. elim o [ None ↦ 0 | Some x ↦ result_number x.result ]) here) in
      ap (λ n. narrowed (fresh_name f n) v inst.result (with_operands (put_at f found (At b i)) op)) number
  expanded_by (Change.Uses u) = refl
  expanded_by Change.Gone = refl

  expanded_here : expanded f inst (found.change b i inst) work ≡ changed (made_marks f found reached used) b i inst
  expanded_here =
      expanded_by (found.change b i inst)
      ∙ sym (ap (λ o. changed_by (elim o [ None ↦ Change.Gone | Some x ↦ found.change b i x ]) (made_marks f found reached used) b i inst) here)

module _ (f : Function) (found : Findings) (reached used : ℕ → Bool) (b : ℕ) (insts : List Inst) (are : insts_of f b ≡ insts) (lines : List LineFinding)
    (of : (i : ℕ) (inst : Inst) → slice_get (insts_of f b) i ≡ Some inst → slice_get lines i ≡ kept_line found b i inst) where
  used_rest : (rest : List Inst) (i : ℕ) → ((k : ℕ) → slice_get rest k ≡ slice_get (insts_of f b) (i + k)) →
      used_lines f used insts lines i (lines_left (first_marks f found reached) b i rest) ≡ lines_left (made_marks f found reached used) b i rest
  used_rest [] i at = refl
  used_rest (inst ∷ rest) i at =
      let start : i + 0 ≡ i = omega arith in
      let here : line_at f b i ≡ Some inst = sym (at 0 ∙ ap (slice_get (insts_of f b)) start) in
      by (lines_left (first_marks f found reached) b (suc i) rest) (lines_left (made_marks f found reached used) b (suc i) rest) here
      (used_rest rest (suc i) (λ k. let e : i + suc k ≡ suc i + k = omega arith in at (suc k) ∙ ap (slice_get (insts_of f b)) e)) (found.met b i) refl
    where
      by : (behind behind_made : List Inst) → line_at f b i ≡ Some inst → used_lines f used insts lines (suc i) behind ≡ behind_made → (met : Bool) → found.met b i ≡ met →
          used_lines f used insts lines i (if_met met (changed (first_marks f found reached) b i inst ++ behind))
          ≡ if_met met (if_stays (stays_at f found used b i) (changed (made_marks f found reached used) b i inst) behind_made)
      by behind behind_made here others false met = refl
      by behind behind_made here others true met =
          let one = one_line f found reached used b i inst here in
          let stays = sym (stays_here f found reached used b i inst here) in
          let lines_made = expanded_here f found reached used b i inst here in
          let inst_is : slice_get insts i ≡ Some inst = ap (λ l. slice_get l i) (sym are) ∙ here in
          let line_is : slice_get lines i ≡ Some (finding found b i inst) = of i inst here ∙ ap (λ m. only_if m (finding found b i inst)) met in
          ap (λ l. used_lines f used insts lines i (l ++ behind)) one
          ∙ ((λ j. used_line f used (inst_is j) (line_is j) (work f found reached used b i inst here) ++ others j)
          ∙ (lines_if (stays_by used inst (finding found b i inst)) (expanded f inst (found.change b i inst) (work f found reached used b i inst here)) behind_made
          ∙ (λ j. if_stays (stays j) (lines_made j) behind_made)))

-- one more line
pub used_more : (f : Function) (used : ℕ → Bool) (insts : List Inst) (found : List LineFinding) (put : List Inst) (i : ℕ) (d : Inst) → i < length put →
    (inst : Option Inst) → inst ≡ slice_get insts i → (line : Option LineFinding) → line ≡ slice_get found i → (old new all : List Inst) →
    new ≡ old ++ used_line f used inst line (get_or put i d) → old ++ used_lines f used insts found i (drop i put) ≡ all →
    new ++ used_lines f used insts found (i + 1) (drop (i + 1) put) ≡ all
used_more f used insts found put i d less inst inst_is line line_is old new all pushed before =
    let one : used_line f used inst line (get_or put i d) ≡ used_line f used (slice_get insts i) (slice_get found i) (get_or put i d) =
    λ j. used_line f used (inst_is j) (line_is j) (get_or put i d) in
    ap (λ l. l ++ used_lines f used insts found (i + 1) (drop (i + 1) put)) (pushed ∙ ap (λ l. old ++ l) one)
    ∙ joined_more (λ n x. used_line f used (slice_get insts n) (slice_get found n) x) (used_lines f used insts found) (λ n x rest. refl) put i d less old all before

pub used_all : (f : Function) (used : ℕ → Bool) (insts : List Inst) (found : List LineFinding) (put : List Inst) (i : ℕ) → length put ≤ i → (done all : List Inst) →
    done ++ used_lines f used insts found i (drop i put) ≡ all → done ≡ all
used_all f used insts found put =
    joined_all (λ n x. used_line f used (slice_get insts n) (slice_get found n) x) (used_lines f used insts found) (λ n x rest. refl) put (λ n. refl)

-- ---- the function

module _ (f : Function) (found : Findings) (reached used : ℕ → Bool) where
  used_of_block : (b : ℕ) (block : Block) (kept : BlockFindings) → slice_get f.blocks b ≡ Some block → IsKeptOf f found b kept → (r : Bool) →
      used_block f used block kept (if_block_left r (rewritten_block f (first_marks f found reached) b block) (emptied block))
      ≡ if_block_left r (rewritten_block f (made_marks f found reached used) b block) (emptied block)
  used_of_block b block kept there of false = refl
  used_of_block b block kept there of true =
      let own : insts_of f b ≡ block.insts = ap (λ o. elim o [ None ↦ [] | Some x ↦ x.insts ]) there in
      let phis = used_if_met f found reached used b block.phis (found.met b 0) in
      let lines = used_rest f found reached used b block.insts own kept.lines.items of.lines block.insts 0 (λ k. ap (λ l. slice_get l k) (sym own) ∙ ap (slice_get (insts_of f b)) (from_start k)) in
      λ j. record { name = block.name; phis = phis j; insts = lines j; term = term_left (made_marks f found reached used) b block }

  used_blocks : (kept : List BlockFindings) → AreKeptOf f found kept →
      with_numbers (used_block_at f kept used) 0 (with_numbers (block_left f (first_marks f found reached)) 0 f.blocks)
      ≡ with_numbers (block_left f (made_marks f found reached used)) 0 f.blocks
  used_blocks kept are =
      numbered_again (block_left f (first_marks f found reached)) (used_block_at f kept used) (block_left f (made_marks f found reached used)) 0 f.blocks
      (λ n b block e there. at b block (subst (λ m. slice_get f.blocks m ≡ Some block) (from_start n ∙ sym e) there))
    where
      at : (b : ℕ) (block : Block) → slice_get f.blocks b ≡ Some block →
          used_block_at f kept used b (block_left f (first_marks f found reached) b block) ≡ block_left f (made_marks f found reached used) b block
      at b block there =
          let inside = slice_get_within f.blocks b block there in
          let stands = stands_below kept b (omega (arith, inside, are.count)) in
          let of = stands.there in
          (λ j. used_block_by f used (there j) (of j) (block_left f (first_marks f found reached) b block))
          ∙ used_of_block b block stands.x there (are.each b stands.x stands.there) (reached b)

  added_is : (widths : List (Option ℕ)) → ((n : ℕ) → slice_index_or widths n None ≡ narrowed_width f found reached n) → (count : ℕ) → added_by widths count ≡ added_for f found reached count
  added_is widths are zero = refl
  added_is widths are (suc n) = let before = added_is widths are n in let width = are n in λ j. before j ++ three (added_type (width j))

-- three more names
pub added_more : (widths : List (Option ℕ)) (n : ℕ) (ty : Ty) → ty ≡ added_type (slice_index_or widths n None) → (before old new : List Value) → new ≡ old ++ three ty →
    old ≡ before ++ added_by widths n → new ≡ before ++ added_by widths (n + 1)
added_more widths n ty ty_is before old new pushed done =
    pushed ∙ ((λ j. done j ++ three (ty_is j)) ∙ (append_assoc before (added_by widths n) (three (added_type (slice_index_or widths n None)))
    ∙ ap (λ m. before ++ added_by widths m) (sym (add-one n))))

abbrev pub with_parts : Function → List Value → List Block → Function
with_parts f values blocks = record {
  name = f.name;
  lead = f.lead;
  width = f.width;
  params = f.params;
  tail = f.tail;
  values = values;
  blocks = blocks;
  calls = f.calls;
}

pub used_function : (f : Function) (found : Findings) (reached used : ℕ → Bool) (kept : List BlockFindings) (widths : List (Option ℕ)) (count : ℕ) (put : Function) (values : List Value) (blocks : List Block) →
    AreKeptOf f found kept → count ≡ length f.values → ((n : ℕ) → slice_index_or widths n None ≡ narrowed_width f found reached n) → put ≡ rewritten f (first_marks f found reached) →
    blocks ≡ with_numbers (used_block_at f kept used) 0 put.blocks → values ≡ put.values ++ added_by widths count →
    with_parts put values blocks ≡ rewritten f (made_marks f found reached used)
used_function f found reached used kept widths count put values blocks are count_is noted is blocks_are values_are =
    let all_blocks : blocks ≡ with_numbers (block_left f (made_marks f found reached used)) 0 f.blocks =
    blocks_are ∙ (ap (λ (p : Function). with_numbers (used_block_at f kept used) 0 p.blocks) is ∙ used_blocks f found reached used kept are) in
    let all_values : values ≡ f.values ++ added_for f found reached (length f.values) =
    values_are ∙ ((λ j. (is j).values ++ added_by widths (count_is j))
    ∙ (ap (λ l. l ++ added_by widths (length f.values)) (append-nil f.values) ∙ ap (λ l. f.values ++ l) (added_is f found reached used widths noted (length f.values)))) in
    λ j. with_parts (is j) (all_values j) (all_blocks j)
