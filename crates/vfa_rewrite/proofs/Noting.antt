-- Noting what is found of names, as the operands that take their place, one instruction after another, gives the first for each.
use Rattle.std.proofs.Common.{◌≡◌, ◌<◌, ◌≤◌, ◌+◌, ◌&&◌, ℕ, zero, suc, Bool, true, false, if◌then◌else◌, Option, Some, None, List, All, drop, length, replicate, get_or, refl, sym, ap, ◌∙◌, add-one}
use Rattle.std.specs.Prelude.{slice_get, slice_index_or}
use Rattle.std.specs.Option.{ForSome, option_or}
use Rattle.std.proofs.lemmas.List.{drop_all, drop_more}
use Rattle.std.proofs.lemmas.List.Elements.{All-weaker}
use Rattle.std.proofs.lemmas.Option.{slice_get-get_or}
use Rattle.vfa_ir.specs.declared.operations.ValueId.{ValueId}
use Rattle.vfa_ir.specs.declared.functions.Block.{Block}
use Rattle.vfa_ir.specs.declared.functions.Function.{Function}
use Rattle.vfa_ir.specs.declared.functions.Inst.{Inst}
use Rattle.vfa_walk.specs.Ready.{IsReady, IsReadyBlock, IsReadyInst}
use Rattle.vfa_walk.proofs.TruthTypes.{each_of}
use Rattle.vfa_rules.specs.declared.change.Change.{Change}
use Rattle.vfa_rules.specs.Uses.{first_found, is_result}
use Rattle.vfa_rewrite.specs.declared.found.BlockFindings.{BlockFindings}
use Rattle.vfa_rewrite.specs.declared.found.LineFinding.{LineFinding}
use Rattle.vfa_rewrite.specs.Chains.{itself}
use Rattle.vfa_rewrite.specs.Findings.{Findings}
use Rattle.vfa_rewrite.specs.Found.{AreKeptOf, kept_line, only_if}
use Rattle.vfa_rewrite.specs.Replacing.{AreKeptLines, noted_of}
use Rattle.vfa_rewrite.specs.Rewritten.{with_numbers}
use Rattle.vfa_rewrite.proofs.Goings.{insts_are}

-- ---- the first of two

pub or_none : {A : Type 0} (o : Option A) → option_or o None ≡ o
or_none None = refl
or_none (Some x) = refl

or_or : {A : Type 0} (o p q : Option A) → option_or (option_or o p) q ≡ option_or o (option_or p q)
or_or None p q = refl
or_or (Some x) p q = refl

pub nothing_noted : {B : Type 0} (count n : ℕ) → ◌≡◌ {A = Option B} (slice_index_or (replicate count None) n None) None
nothing_noted zero n = refl
nothing_noted (suc count) zero = refl
nothing_noted (suc count) (suc n) = nothing_noted count n

-- ---- one more is noted

module _ {A B : Type 0} (make : ℕ → A → Option B) (xs : List A) (i : ℕ) (d : A) (less : i < length xs) where
  one_more : first_found itself (with_numbers make i (drop i xs)) ≡ option_or (make i (get_or xs i d)) (first_found itself (with_numbers make (i + 1) (drop (i + 1) xs)))
  one_more =
      ap (λ rest. first_found itself (with_numbers make i rest)) (drop_more xs i d less)
      ∙ ap (λ m. option_or (make i (get_or xs i d)) (first_found itself (with_numbers make m (drop (i + 1) xs)))) (sym (add-one i))

  -- what was noted before, and what is to come, give what all gives
  pub noted_one : (old new all : Option B) → option_or old (first_found itself (with_numbers make i (drop i xs))) ≡ all → new ≡ option_or old (make i (get_or xs i d)) →
      option_or new (first_found itself (with_numbers make (i + 1) (drop (i + 1) xs))) ≡ all
  noted_one old new all before put =
      ap (λ o. option_or o (first_found itself (with_numbers make (i + 1) (drop (i + 1) xs)))) put
      ∙ (or_or old (make i (get_or xs i d)) (first_found itself (with_numbers make (i + 1) (drop (i + 1) xs)))
      ∙ (ap (option_or old) (sym one_more) ∙ before))

pub noted_all : {A B : Type 0} (make : ℕ → A → Option B) (xs : List A) (i : ℕ) → length xs ≤ i → (now all : Option B) →
    option_or now (first_found itself (with_numbers make i (drop i xs))) ≡ all → now ≡ all
noted_all make xs i past now all h =
    sym (or_none now) ∙ (ap (λ rest. option_or now (first_found itself (with_numbers make i rest))) (sym (drop_all i xs past)) ∙ h)

-- ---- by an instruction

abbrev noted_if : {B : Type 0} → (Change → Option B) → Bool → Option LineFinding → Option B
noted_if by r None = None
noted_if by r (Some line) = if r then by line.change else None

-- what is noted by an instruction, where a run may come to it
abbrev pub noted_in : {B : Type 0} → (Change → Option B) → Findings → ℕ → ℕ → ℕ → Inst → Option B
noted_in by found n b i inst = if is_result n inst.result && found.met b i then by (found.change b i inst) else None

module _ {B : Type 0} (noted : Change → Option B) (found : Findings) (n b i : ℕ) (inst : Inst) where
  line_gives : noted_of noted n inst.result (kept_line found b i inst) ≡ noted_in noted found n b i inst
  line_gives = by (found.met b i) (is_result n inst.result)
    where
      by : (m r : Bool) →
          noted_if noted r (only_if m (record { change = found.change b i inst; may_be_undefined = found.may_be_undefined b i inst })) ≡ (if r && m then noted (found.change b i inst) else None)
      by true true = refl
      by true false = refl
      by false true = refl
      by false false = refl

  pub line_is : (line : Option LineFinding) → line ≡ kept_line found b i inst → noted_of noted n inst.result line ≡ noted_in noted found n b i inst
  line_is line e = ap (noted_of noted n inst.result) e ∙ line_gives

pub line_noted : {B : Type 0} (noted : Change → Option B) (found : Findings) (b n : ℕ) (insts : List Inst) (lines : List LineFinding) (i : ℕ) (d : Inst) →
    AreKeptLines found b insts lines → i < length insts → (line : Option LineFinding) → line ≡ slice_get lines i → (old new all : Option B) →
    new ≡ option_or old (noted_of noted n (get_or insts i d).result line) →
    option_or old (first_found itself (with_numbers (noted_in noted found n b) i (drop i insts))) ≡ all →
    option_or new (first_found itself (with_numbers (noted_in noted found n b) (i + 1) (drop (i + 1) insts))) ≡ all
line_noted noted found b n insts lines i d are less line here old new all put before =
    let inst = get_or insts i d in
    noted_one (noted_in noted found n b) insts i d less old new all before
    (put ∙ ap (option_or old) (line_is noted found n b i inst line (here ∙ are i inst (slice_get-get_or insts i d less))))

-- ---- names of a function

pub results_below : (f : Function) (b : ℕ) (block : Block) → IsReady f → slice_get f.blocks b ≡ Some block →
    All (λ (inst : Inst). ForSome inst.result (λ (v : ValueId). v.0 < length f.values)) block.insts
results_below f b block ready there =
    All-weaker (IsReadyInst f) (λ (inst : Inst). ForSome inst.result (λ (v : ValueId). v.0 < length f.values)) (λ inst of v e. (of.result v e).below) block.insts (each_of (IsReadyBlock f) f.blocks b block ready.blocks there).insts

-- what is kept of the instructions of a block of the function
pub block_lines : (f : Function) (kept : List BlockFindings) (found : Findings) → AreKeptOf f found kept → (b : ℕ) (block : Block) → slice_get f.blocks b ≡ Some block →
    (findings : BlockFindings) → slice_get kept b ≡ Some findings → (insts : List Inst) → insts ≡ block.insts → (lines : List LineFinding) → lines ≡ findings.lines.items → AreKeptLines found b insts lines
block_lines f kept found are b block there findings stands insts insts_here lines lines_here = λ i inst h.
    ap (λ l. slice_get l i) lines_here
    ∙ (are.each b findings stands).lines i inst (ap (λ l. slice_get l i) (insts_are f b block there ∙ sym insts_here) ∙ h)
