-- The lines and phis of the function that the first step of rewriting leaves.
use Rattle.std.proofs.Common.{◌≡◌, ◌≤◌, ℕ, zero, suc, ◌+◌, nat_eq, Bool, true, false, Some, None, List, [], ◌∷◌, ◌++◌, slice_get, refl, sym, ap, ◌∙◌, subst, arith}
use Rattle.std.proofs.lemmas.Bool.{eqb-true}
use Rattle.std.proofs.lemmas.Option.{same_Some}
use Rattle.vfa_ir.specs.declared.operations.BlockId.{BlockId}
use Rattle.vfa_ir.specs.declared.operations.Operand.{Operand}
use Rattle.vfa_ir.specs.declared.functions.Block.{Block}
use Rattle.vfa_ir.specs.declared.functions.Function.{Function}
use Rattle.vfa_ir.specs.declared.functions.Inst.{Inst}
use Rattle.vfa_ir.specs.declared.functions.Phi.{Phi}
use Rattle.vfa_mean.specs.Moments.{Into, At}
use Rattle.vfa_rules.specs.declared.change.Change.{Change}
use Rattle.vfa_rewrite.specs.Findings.{Findings, operation_of}
use Rattle.vfa_rewrite.specs.Making.{line_at, put_at, first_marks}
use Rattle.vfa_rewrite.specs.Rewritten.{Marks, with_operands, line_of, changed, changed_by, if_met, lines_left, one_fewer, if_counted, entries_left, phi_left, kept_phis}
use Rattle.vfa_rewrite.proofs.Left.{AreFrom, head_from, rest_from, all_from}
use Rattle.vfa_rewrite.proofs.PhisLeft.{fewer_elsewhere}

-- the instruction of a block that is there
pub line_there : (f : Function) (b : ℕ) (block : Block) (i : ℕ) (inst : Inst) → slice_get f.blocks b ≡ Some block → slice_get block.insts i ≡ Some inst → line_at f b i ≡ Some inst
line_there f b block i inst there stands = ap (λ o. slice_get (elim o [ None ↦ [] | Some c ↦ c.insts ]) i) there ∙ stands

-- ---- an entry of each predecessor from which an edge is left

-- an entry of the same block, which is left
pub record HasLeftEntry (m : Marks) (b : ℕ) (es : List (Operand × BlockId)) (count : ℕ → ℕ) (p : ℕ) : Type 0 where
  pub from : Operand × BlockId
  pub place : ℕ
  pub there : slice_get es place ≡ Some from
  pub same : from.1.0 ≡ p
  pub number : ℕ
  pub left : slice_get (entries_left m b es count) number ≡ Some (m.put (Into (Some from.1.0) b) from.0, from.1)

pub some_entry : (m : Marks) (b : ℕ) (es : List (Operand × BlockId)) (count : ℕ → ℕ) (k : ℕ) (e : Operand × BlockId) → slice_get es k ≡ Some e →
    (count e.1.0 ≡ 0 → ⊥) → HasLeftEntry m b es count e.1.0
some_entry m b [] count k e at entered = absurd (cc)
some_entry m b (d ∷ rest) count k e at entered =
    by (count d.1.0) refl k at (λ later j h some. some_entry m b rest later j e h some)
  where
    first : (n : ℕ) → count d.1.0 ≡ suc n → d.1.0 ≡ e.1.0 → HasLeftEntry m b (d ∷ rest) count e.1.0
    first n c same = record {
      from = d;
      place = 0;
      there = refl;
      same = same;
      number = 0;
      left = ap (λ n. slice_get (if_counted n ((m.put (Into (Some d.1.0) b) d.0, d.1) ∷ entries_left m b rest (one_fewer count d.1.0)) (entries_left m b rest count)) 0) c;
    }

    by : (n : ℕ) → count d.1.0 ≡ n → (k : ℕ) → slice_get (d ∷ rest) k ≡ Some e →
        ((later : ℕ → ℕ) (j : ℕ) → slice_get rest j ≡ Some e → (later e.1.0 ≡ 0 → ⊥) → HasLeftEntry m b rest later e.1.0) → HasLeftEntry m b (d ∷ rest) count e.1.0
    by zero c zero at again = absurd (entered (ap (λ (x : Operand × BlockId). count x.1.0) (sym (same_Some d e at)) ∙ c))
    by zero c (suc k) at again =
        let r = again count k at entered in
        record {
          from = r.from;
          place = suc r.place;
          there = r.there;
          same = r.same;
          number = r.number;
          left = ap (λ n. slice_get (if_counted n ((m.put (Into (Some d.1.0) b) d.0, d.1) ∷ entries_left m b rest (one_fewer count d.1.0)) (entries_left m b rest count)) r.number) c ∙ r.left;
        }
    by (suc n) c zero at again = first n c (ap (λ (x : Operand × BlockId). x.1.0) (same_Some d e at))
    by (suc n) c (suc k) at again = here (nat_eq e.1.0 d.1.0) refl
      where
        here : (t : Bool) → nat_eq e.1.0 d.1.0 ≡ t → HasLeftEntry m b (d ∷ rest) count e.1.0
        here true same = first n c (sym (eqb-true e.1.0 d.1.0 same))
        here false apart =
            let still = fewer_elsewhere count d.1.0 e.1.0 apart in
            let r = again (one_fewer count d.1.0) k at (λ z. entered (sym still ∙ z)) in
            record {
              from = r.from;
              place = suc r.place;
              there = r.there;
              same = r.same;
              number = suc r.number;
              left = ap (λ n. slice_get (if_counted n ((m.put (Into (Some d.1.0) b) d.0, d.1) ∷ entries_left m b rest (one_fewer count d.1.0)) (entries_left m b rest count)) (suc r.number)) c
                  ∙ r.left;
            }

module _ (f : Function) (found : Findings) (reached : ℕ → Bool) where
  -- ---- lines

  -- the line of an instruction
  abbrev pub work_line : ℕ → ℕ → Inst → Inst
  work_line b i inst = line_of inst.result (with_operands (put_at f found (At b i)) (operation_of (found.change b i inst) inst.op))

  module _ (b : ℕ) (block : Block) (there : slice_get f.blocks b ≡ Some block) where
    one_line : (i : ℕ) (inst : Inst) → slice_get block.insts i ≡ Some inst → changed (first_marks f found reached) b i inst ≡ work_line b i inst ∷ []
    one_line i inst stands =
        ap (λ o. changed_by (elim o [ None ↦ Change.Gone | Some x ↦ Change.Keep (operation_of (found.change b i x) x.op) ]) (first_marks f found reached) b i inst)
        (line_there f b block i inst there stands)

    more_lines : (inst : Inst) (rest : List Inst) (n : ℕ) → AreFrom block.insts (inst ∷ rest) n → found.met b n ≡ true →
        lines_left (first_marks f found reached) b n (inst ∷ rest) ≡ work_line b n inst ∷ lines_left (first_marks f found reached) b (suc n) rest
    more_lines inst rest n from met =
        ap (λ t. if_met t (changed (first_marks f found reached) b n inst ++ lines_left (first_marks f found reached) b (suc n) rest)) met
        ∙ ap (λ ls. ls ++ lines_left (first_marks f found reached) b (suc n) rest) (one_line n inst (head_from block.insts inst rest n from))

    lines_stand : (rest : List Inst) (n j k : ℕ) (inst : Inst) → AreFrom block.insts rest n → slice_get rest j ≡ Some inst → k ≡ n + j → ((l : ℕ) → l ≤ k → found.met b l ≡ true) →
        slice_get (lines_left (first_marks f found reached) b n rest) j ≡ Some (work_line b k inst)
    lines_stand [] n j k inst from at e met = absurd (cc)
    lines_stand (x ∷ rest) n zero k inst from at e met =
        let here : k ≡ n = omega (arith, e) in
        let same : x ≡ inst = same_Some x inst at in
        ap (λ ls. slice_get ls 0) (more_lines x rest n from (met n (omega (arith, e))))
        ∙ ap (λ y. Some (work_line b n y)) same ∙ ap (λ p. Some (work_line b p inst)) (sym here)
    lines_stand (x ∷ rest) n (suc j) k inst from at e met =
        ap (λ ls. slice_get ls (suc j)) (more_lines x rest n from (met n (omega (arith, e))))
        ∙ lines_stand rest (suc n) j k inst (rest_from block.insts x rest n from) at (omega (arith, e)) met

    -- the instruction that a line does the work of
    pub record IsWorkOf (k : ℕ) (line : Inst) : Type 0 where
      pub inst : Inst
      pub stands : slice_get block.insts k ≡ Some inst
      pub met : found.met b k ≡ true
      pub is : work_line b k inst ≡ line

    abbrev LaterLine : List Inst → ℕ → ℕ → Inst → Type 0
    LaterLine rest n k line = (i : ℕ) → slice_get (lines_left (first_marks f found reached) b (suc n) rest) i ≡ Some line → k ≡ suc n + i → IsWorkOf k line

    lines_from : (rest : List Inst) (n j k : ℕ) (line : Inst) → AreFrom block.insts rest n → slice_get (lines_left (first_marks f found reached) b n rest) j ≡ Some line → k ≡ n + j → IsWorkOf k line
    lines_from [] n j k line from at e = absurd (cc)
    lines_from (x ∷ rest) n j k line from at e = by (found.met b n) refl at (λ i h e. lines_from rest (suc n) i k line (rest_from block.insts x rest n from) h e)
      where
        here : found.met b n ≡ true → (j : ℕ) → slice_get (work_line b n x ∷ lines_left (first_marks f found reached) b (suc n) rest) j ≡ Some line → k ≡ n + j → LaterLine rest n k line → IsWorkOf k line
        here met zero at e later =
            let z : n ≡ k = omega (arith, e) in
            subst (λ p. IsWorkOf p line) z (record { inst = x; stands = head_from block.insts x rest n from; met = met; is = same_Some (work_line b n x) line at })
        here met (suc j) at e later = later j at (omega (arith, e))

        by : (t : Bool) → found.met b n ≡ t →
            slice_get (if_met t (changed (first_marks f found reached) b n x ++ lines_left (first_marks f found reached) b (suc n) rest)) j ≡ Some line → LaterLine rest n k line → IsWorkOf k line
        by true met at later = here met j
            (sym (ap (λ ls. slice_get (ls ++ lines_left (first_marks f found reached) b (suc n) rest) j) (one_line n x (head_from block.insts x rest n from))) ∙ at) e later
        by false met at later = absurd (cc)

    pub line_stands : (i : ℕ) (inst : Inst) → slice_get block.insts i ≡ Some inst → ((l : ℕ) → l ≤ i → found.met b l ≡ true) →
        slice_get (lines_left (first_marks f found reached) b 0 block.insts) i ≡ Some (work_line b i inst)
    line_stands i inst stands met = lines_stand block.insts 0 i i inst (all_from block.insts) stands (omega arith) met

    pub line_from : (i : ℕ) (line : Inst) → slice_get (lines_left (first_marks f found reached) b 0 block.insts) i ≡ Some line → IsWorkOf i line
    line_from i line at = lines_from block.insts 0 i i line (all_from block.insts) at (omega arith)

  -- ---- phis

  pub phi_stands : (b : ℕ) (phis : List Phi) (j : ℕ) (phi : Phi) → slice_get phis j ≡ Some phi →
      slice_get (kept_phis f (first_marks f found reached) b phis) j ≡ Some (phi_left f (first_marks f found reached) b phi)
  phi_stands b [] j phi at = absurd (cc)
  phi_stands b (x ∷ rest) zero phi at = ap (λ y. Some (phi_left f (first_marks f found reached) b y)) (same_Some x phi at)
  phi_stands b (x ∷ rest) (suc j) phi at = phi_stands b rest j phi at

  pub record IsLeftOf (b : ℕ) (phis : List Phi) (j : ℕ) (phi' : Phi) : Type 0 where
    pub phi : Phi
    pub stands : slice_get phis j ≡ Some phi
    pub is : phi_left f (first_marks f found reached) b phi ≡ phi'

  pub phi_from : (b : ℕ) (phis : List Phi) (j : ℕ) (phi' : Phi) → slice_get (kept_phis f (first_marks f found reached) b phis) j ≡ Some phi' → IsLeftOf b phis j phi'
  phi_from b [] j phi' at = absurd (cc)
  phi_from b (x ∷ rest) zero phi' at = record { phi = x; stands = refl; is = same_Some (phi_left f (first_marks f found reached) b x) phi' at }
  phi_from b (x ∷ rest) (suc j) phi' at = let r = phi_from b rest j phi' at in record { phi = r.phi; stands = r.stands; is = r.is }
