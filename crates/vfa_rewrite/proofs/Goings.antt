-- A cursor that goes through a block finds out what the table says of each of its instructions.
use Rattle.std.proofs.Common.{◌≡◌, ◌<◌, ◌≤◌, ◌+◌, ℕ, zero, suc, true, Option, Some, None, is_some, List, [], ◌∷◌, ◌++◌, ◌-◌, take, length, get_or, refl, sym, ap, ◌∙◌, subst, inl, inr, ◌⊎◌, arith}
use Rattle.std.specs.Prelude.{slice_get}
use Rattle.std.proofs.lemmas.List.{length_push}
use Rattle.std.proofs.lemmas.Option.{slice_get-get_or, slice_get_past, slice_get_within, same_Some}
use Rattle.vfa_ir.specs.declared.operations.BlockId.{BlockId}
use Rattle.vfa_ir.specs.declared.functions.Block.{Block}
use Rattle.vfa_ir.specs.declared.functions.Function.{Function}
use Rattle.vfa_ir.specs.declared.functions.Inst.{Inst}
use Rattle.vfa_ir.specs.Defined.{line_count}
use Rattle.vfa_mean.specs.Moments.{At}
use Rattle.vfa_cond.specs.Narrowing.{and_then}
use Rattle.vfa_cond.specs.States.{known, Stored}
use Rattle.vfa_walk.specs.declared.cursor.Cursor.{Cursor}
use Rattle.vfa_walk.specs.declared.cursor.Moved.{Moved}
use Rattle.vfa_walk.specs.Cursors.{HasGoneOn, IsAtEntry, IsMoved}
use Rattle.vfa_walk.specs.Kept.{IsStateOf}
use Rattle.vfa_walk.specs.Passes.{followed}
use Rattle.vfa_walk.specs.Ready.{IsReady, IsReadyBlock, IsReadyInst}
use Rattle.vfa_walk.specs.Stepping.{after_inst, after_insts, before_line, insts_of}
use Rattle.vfa_walk.proofs.TruthTypes.{each_of}
use Rattle.vfa_walk.proofs.CursorLaws.{goes_on_there, stops_there}
use Rattle.vfa_xfer.specs.declared.any_fact.AnyFact.{AnyFact}
use Rattle.vfa_xfer.specs.AnyFacts.{fact_type, IsAnyFact}
use Rattle.vfa_xfer.specs.Transfers.{fact_answers}
use Rattle.vfa_rewrite.specs.declared.found.LineFinding.{LineFinding}
use Rattle.vfa_rewrite.specs.ByFacts.{FactState, FactTable, fact_state, change_in, may_be_undefined_in, findings_of}
use Rattle.vfa_rewrite.specs.Found.{only_if, kept_line}
use Rattle.vfa_rewrite.specs.Walked.{line_by, HasState}

-- ---- elements of a longer list

get_in_first : {A : Type 0} (xs ys : List A) (i : ℕ) → i < length xs → slice_get (xs ++ ys) i ≡ slice_get xs i
get_in_first [] ys i h = absurd (omega (arith, h))
get_in_first (x ∷ xs) ys zero h = refl
get_in_first (x ∷ xs) ys (suc i) h = get_in_first xs ys i (omega (arith, h))

get_last : {A : Type 0} (xs : List A) (x : A) (i : ℕ) → length xs ≡ i → slice_get (xs ++ (x ∷ [])) i ≡ Some x
get_last [] x zero h = refl
get_last [] x (suc i) h = absurd (omega (arith, h))
get_last (y ∷ xs) x zero h = absurd (omega (arith, h))
get_last (y ∷ xs) x (suc i) h = get_last xs x i (omega (arith, h))

below_or_not : (i k : ℕ) → (i < k) ⊎ ((i < k → ⊥))
below_or_not i zero = inr (λ h. omega (arith, h))
below_or_not zero (suc k) = inl (omega arith)
below_or_not (suc i) (suc k) = elim (below_or_not i k) [
  | inl h ↦ inl (omega (arith, h))
  | inr h ↦ inr (λ less. h (omega (arith, less)))
]

pub count_is : (f : Function) (b : ℕ) → line_count f b ≡ length (insts_of f b)
count_is f b = by (slice_get f.blocks b)
  where
    by : (o : Option Block) → elim o [ None ↦ 0 | Some block ↦ length block.insts ] ≡ length {A = Inst} (elim o [ None ↦ [] | Some block ↦ block.insts ])
    by None = refl
    by (Some block) = refl

-- ---- what is kept of an instruction, by the state before it

abbrev line_of_state : Function → Option FactState → Inst → Option LineFinding
line_of_state f o inst = only_if (is_some o) (record { change = change_in f o inst; may_be_undefined = may_be_undefined_in o inst.op })

module _ (f : Function) (t : FactTable) where
  kept_some : (b i : ℕ) (inst : Inst) (s : FactState) → fact_state f t (At b i) ≡ Some s → kept_line (findings_of f t) b i inst ≡ Some (line_by f s inst)
  kept_some b i inst s e = ap (λ o. line_of_state f o inst) e

  kept_none : (b i : ℕ) (inst : Inst) → fact_state f t (At b i) ≡ None → kept_line (findings_of f t) b i inst ≡ None
  kept_none b i inst e = ap (λ o. line_of_state f o inst) e

  -- ---- behind a place that no run comes to there is none

  stays_none : (insts : List Inst) (i : ℕ) (s : FactState) → after_insts fact_answers f (take i insts) s ≡ None → after_insts fact_answers f (take (suc i) insts) s ≡ None
  stays_none [] zero s e = absurd (cc)
  stays_none [] (suc i) s e = absurd (cc)
  stays_none (x ∷ insts) zero s e = absurd (cc)
  stays_none (x ∷ insts) (suc i) s e = by (λ u. stays_none insts i u) (after_inst fact_answers f x s) e
    where
      by : ((u : FactState) → after_insts fact_answers f (take i insts) u ≡ None → after_insts fact_answers f (take (suc i) insts) u ≡ None) →
          (r : Option FactState) → and_then r (after_insts fact_answers f (take i insts)) ≡ None → and_then r (after_insts fact_answers f (take (suc i) insts)) ≡ None
      by rest None h = refl
      by rest (Some u) h = rest u h

  pub none_next : (b i : ℕ) → fact_state f t (At b i) ≡ None → fact_state f t (At b (suc i)) ≡ None
  none_next b i e = by (t b) e
    where
      by : (o : Option FactState) → followed (before_line fact_answers f b i) o ≡ None → followed (before_line fact_answers f b (suc i)) o ≡ None
      by None h = refl
      by (Some s) h = stays_none (insts_of f b) i s h

  none_after : (b i d j : ℕ) → j ≡ i + d → fact_state f t (At b i) ≡ None → fact_state f t (At b j) ≡ None
  none_after b i zero j e h = subst (λ n. fact_state f t (At b n) ≡ None) (let same : i ≡ j = omega (arith, e) in same) h
  none_after b i (suc d) j e h =
      subst (λ n. fact_state f t (At b n) ≡ None) (let same : suc (i + d) ≡ j = omega (arith, e) in same)
      (none_next b (i + d) (none_after b i d (i + d) refl h))

  none_later : (b i j : ℕ) → i ≤ j → fact_state f t (At b i) ≡ None → fact_state f t (At b j) ≡ None
  none_later b i j le h = by (j - i) (omega (arith, le)) h
    where
      by : (d : ℕ) → j ≡ i + d → fact_state f t (At b i) ≡ None → fact_state f t (At b j) ≡ None
      by d e g = none_after b i d j e g

  pub none_at_end : (b k : ℕ) (inst : Inst) → slice_get (insts_of f b) k ≡ Some inst → fact_state f t (At b (k + 1)) ≡ None → fact_state f t (At b (line_count f b)) ≡ None
  none_at_end b k inst stands none =
      let inside = slice_get_within (insts_of f b) k inst stands in
      let count = count_is f b in
      none_later b (k + 1) (line_count f b) (omega (arith, inside, count)) none

  -- ---- a block that no run comes to

  abbrev pub AreLines : ℕ → List LineFinding → Type 0
  AreLines b lines = (i : ℕ) (inst : Inst) → slice_get (insts_of f b) i ≡ Some inst → slice_get lines i ≡ kept_line (findings_of f t) b i inst

  pub no_state : (b i : ℕ) → t b ≡ None → fact_state f t (At b i) ≡ None
  no_state b i e = ap (followed (before_line fact_answers f b i)) e

  pub no_lines : (b : ℕ) → t b ≡ None → AreLines b []
  no_lines b e i inst h = sym (kept_none b i inst (no_state b i e))

  pub no_end : (b : ℕ) → t b ≡ None → fact_state f t (At b (line_count f b)) ≡ None
  no_end b e = no_state b (line_count f b) e

  -- ---- one step after another

  -- the cursor stands before instruction k of block b
  pub record IsStanding (b : BlockId) (k : ℕ) (c : Cursor AnyFact) : Type 0 where
    pub block : c.block ≡ b
    pub line : c.line ≡ k
    pub has : HasState f (fact_state f t (At b.0 k)) c

  pub record IsGoing (b : BlockId) (k : ℕ) (c : Cursor AnyFact) (lines : List LineFinding) : Type 0 where
    pub standing : IsStanding b k c
    pub count : length lines ≡ k
    pub made : (i : ℕ) (inst : Inst) → i < k → slice_get (insts_of f b.0) i ≡ Some inst → slice_get lines i ≡ kept_line (findings_of f t) b.0 i inst

  pub stands_first : (b : BlockId) (c : Cursor AnyFact) → IsAtEntry t b c → IsStateOf fact_type IsAnyFact f c.state → IsStanding b 0 c
  stands_first b c at kept = record {
    block = at.block;
    line = at.line;
    has = record { reached = at.reached; known = ap (followed (before_line fact_answers f b.0 0)) at.entry; kept = kept };
  }

  pub begins : (b : BlockId) (c : Cursor AnyFact) → IsAtEntry t b c → IsStateOf fact_type IsAnyFact f c.state → IsGoing b 0 c []
  begins b c at kept = record {
    standing = stands_first b c at kept;
    count = refl;
    made = λ i inst less h. absurd (omega (arith, less));
  }

  at_place : (b : BlockId) (k : ℕ) (c : Cursor AnyFact) → c.block ≡ b → c.line ≡ k → fact_state f t (At b.0 k) ≡ fact_state f t (At c.block.0 c.line)
  at_place b k c e d = ap (λ (x : BlockId). fact_state f t (At x.0 k)) (sym e) ∙ ap (λ n. fact_state f t (At c.block.0 n)) (sym d)

  module _ (b : BlockId) (k : ℕ) (c : Cursor AnyFact) (standing : IsStanding b k c) where
    pub stands_on : (d : Cursor AnyFact) → HasGoneOn fact_answers f c d → IsStateOf fact_type IsAnyFact f d.state → IsStanding b (k + 1) d
    stands_on d went kept =
        let block = went.block ∙ standing.block in
        let line = went.line ∙ ap (λ n. n + 1) standing.line in
        record {
          block = block;
          line = line;
          has = record {
            reached = went.reached;
            known = at_place b (k + 1) d block line ∙ goes_on_there fact_answers f t c d went (sym (at_place b k c standing.block standing.line) ∙ standing.has.known);
            kept = kept;
          };
        }

    -- the cursor has not gone on, so no run comes to the next instruction
    pub none_behind : (inst : Inst) → slice_get (insts_of f b.0) k ≡ Some inst → (moved : Moved) (d : Cursor AnyFact) → (moved ≡ Moved.On → ⊥) → IsMoved fact_answers f c moved d →
        fact_state f t (At b.0 (k + 1)) ≡ None
    none_behind inst stands Moved.On d not_on is = absurd (not_on refl)
    none_behind inst stands Moved.AtTerm d not_on is = absurd (
        let there : slice_get (insts_of f c.block.0) c.line ≡ Some inst =
        ap (λ (x : BlockId). slice_get (insts_of f x.0) c.line) standing.block ∙ (ap (λ n. slice_get (insts_of f b.0) n) standing.line ∙ stands) in
        let behind = is.behind in
        cc
        )
    none_behind inst stands Moved.Bottom d not_on is = elim is.1 [
      | inl gone ↦ absurd (let reached = standing.has.reached in cc)
      | inr stop ↦
          ap (λ (x : BlockId). fact_state f t (At x.0 (k + 1))) (sym standing.block)
          ∙ (ap (λ n. fact_state f t (At c.block.0 (n + 1))) (sym standing.line)
          ∙ stops_there fact_answers f t c stop (sym (at_place b k c standing.block standing.line) ∙ standing.has.known))
    ]

    pub stands_at_end : k ≡ length (insts_of f b.0) → HasState f (fact_state f t (At b.0 (line_count f b.0))) c
    stands_at_end all =
        let count = count_is f b.0 in
        subst (λ n. HasState f (fact_state f t (At b.0 n)) c) (let same : k ≡ line_count f b.0 = omega (arith, count, all) in same) standing.has

  module _ (b : BlockId) (k : ℕ) (c : Cursor AnyFact) (lines : List LineFinding) (inst : Inst) (going : IsGoing b k c lines) (stands : slice_get (insts_of f b.0) k ≡ Some inst) where
    abbrev pub here : LineFinding
    here = line_by f (known c.state) inst

    made_here : (i : ℕ) (x : Inst) → i < k + 1 → slice_get (insts_of f b.0) i ≡ Some x → slice_get (lines ++ (here ∷ [])) i ≡ kept_line (findings_of f t) b.0 i x
    made_here i x less h = by (below_or_not i k)
      where
        by : (i < k) ⊎ ((i < k → ⊥)) → slice_get (lines ++ (here ∷ [])) i ≡ kept_line (findings_of f t) b.0 i x
        by (inl inside) = get_in_first lines (here ∷ []) i (let n = going.count in omega (arith, n, inside)) ∙ going.made i x inside h
        by (inr past) =
            let same : i ≡ k = omega (arith, less, past) in
            let inst_is : inst ≡ x = let at_k : slice_get (insts_of f b.0) k ≡ Some x = subst (λ n. slice_get (insts_of f b.0) n ≡ Some x) same h in cc in
            subst (λ n. slice_get (lines ++ (here ∷ [])) n ≡ kept_line (findings_of f t) b.0 n x) (sym same)
            (get_last lines here k going.count ∙ (ap (λ y. Some (line_by f (known c.state) y)) inst_is ∙ sym (kept_some b.0 k x (known c.state) going.standing.has.known)))

    pub goes_on : (d : Cursor AnyFact) → HasGoneOn fact_answers f c d → IsStateOf fact_type IsAnyFact f d.state → IsGoing b (k + 1) d (lines ++ (here ∷ []))
    goes_on d went kept = record {
      standing = stands_on b k c going.standing d went kept;
      count = length_push lines here ∙ ap (λ n. n + 1) going.count;
      made = made_here;
    }

    pub stopped_lines : fact_state f t (At b.0 (k + 1)) ≡ None → AreLines b.0 (lines ++ (here ∷ []))
    stopped_lines none i x h = by (below_or_not i (k + 1))
      where
        by : (i < k + 1) ⊎ ((i < k + 1 → ⊥)) → slice_get (lines ++ (here ∷ [])) i ≡ kept_line (findings_of f t) b.0 i x
        by (inl inside) = made_here i x inside h
        by (inr past) =
            slice_get_past (lines ++ (here ∷ [])) i (let n = length_push lines here in let m = going.count in omega (arith, n, m, past))
            ∙ sym (kept_none b.0 i x (none_later b.0 (k + 1) i (omega (arith, past)) none))

    pub stopped_end : fact_state f t (At b.0 (k + 1)) ≡ None → fact_state f t (At b.0 (line_count f b.0)) ≡ None
    stopped_end none = none_at_end b.0 k inst stands none

  -- ---- at the end

  pub all_lines : (b : BlockId) (k : ℕ) (c : Cursor AnyFact) (lines : List LineFinding) → IsGoing b k c lines → length (insts_of f b.0) ≤ k → AreLines b.0 lines
  all_lines b k c lines going all i inst h =
      let inside = slice_get_within (insts_of f b.0) i inst h in
      going.made i inst (omega (arith, inside, all)) h

  pub at_end : (b : BlockId) (k : ℕ) (c : Cursor AnyFact) (lines : List LineFinding) → IsGoing b k c lines → k ≡ length (insts_of f b.0) →
      HasState f (fact_state f t (At b.0 (line_count f b.0))) c
  at_end b k c lines going all = stands_at_end b k c going.standing all

-- ---- instructions of a block

pub ready_inst : (f : Function) (b : ℕ) (block : Block) (i : ℕ) (inst : Inst) → IsReady f → slice_get f.blocks b ≡ Some block → slice_get block.insts i ≡ Some inst → IsReadyInst f inst
ready_inst f b block i inst ready there stands =
    each_of (IsReadyInst f) block.insts i inst (each_of (IsReadyBlock f) f.blocks b block ready.blocks there).insts stands

pub insts_are : (f : Function) (b : ℕ) (block : Block) → slice_get f.blocks b ≡ Some block → insts_of f b ≡ block.insts
insts_are f b block there = ap (λ o. elim o [ None ↦ [] | Some x ↦ x.insts ]) there

-- ---- the walk through the instructions as they are listed

module _ (f checked : Function) (same : f ≡ checked) (t : FactTable) (b : BlockId) (block : Block) (there : slice_get f.blocks b.0 ≡ Some block) (insts : List Inst) (are : insts ≡ block.insts) where
  own : insts_of f b.0 ≡ insts
  own = insts_are f b.0 block there ∙ sym are

  pub ready_at : IsReady f → (i : ℕ) (d : Inst) → i < length insts → IsReadyInst f (get_or insts i d)
  ready_at ready i d less = ready_inst f b.0 block i (get_or insts i d) ready there (ap (λ l. slice_get l i) (sym are) ∙ slice_get-get_or insts i d less)

  module _ (k : ℕ) (c : Cursor AnyFact) (lines new : List LineFinding) (d : Inst) (less : k < length insts) (going : IsGoing f t b k c lines) (s : Stored AnyFact) (at : s ≡ c.state)
      (put : new ≡ lines ++ (line_by f (known s) (get_or insts k d) ∷ [])) where
    stands : slice_get (insts_of f b.0) k ≡ Some (get_or insts k d)
    stands = ap (λ l. slice_get l k) own ∙ slice_get-get_or insts k d less

    pushed : new ≡ lines ++ (line_by f (known c.state) (get_or insts k d) ∷ [])
    pushed = put ∙ ap (λ (u : Stored AnyFact). lines ++ (line_by f (known u) (get_or insts k d) ∷ [])) at

    pub still_going : (e : Cursor AnyFact) → HasGoneOn fact_answers checked c e → (e.is_reached ≡ true → IsStateOf fact_type IsAnyFact checked e.state) → IsGoing f t b (k + 1) e new
    still_going e went kept =
        subst (IsGoing f t b (k + 1) e) (sym pushed)
        (goes_on f t b k c lines (get_or insts k d) going stands e (subst (λ g. HasGoneOn fact_answers g c e) (sym same) went)
        (subst (λ g. IsStateOf fact_type IsAnyFact g e.state) (sym same) (kept went.reached)))

    none_next_place : (moved : Moved) (e : Cursor AnyFact) → (moved ≡ Moved.On → ⊥) → IsMoved fact_answers checked c moved e → fact_state f t (At b.0 (k + 1)) ≡ None
    none_next_place moved e not_on is = none_behind f t b k c going.standing (get_or insts k d) stands moved e not_on (subst (λ g. IsMoved fact_answers g c moved e) (sym same) is)

    pub lines_stopped : (moved : Moved) (e : Cursor AnyFact) → (moved ≡ Moved.On → ⊥) → IsMoved fact_answers checked c moved e → AreLines f t b.0 new
    lines_stopped moved e not_on is =
        subst (AreLines f t b.0) (sym pushed) (stopped_lines f t b k c lines (get_or insts k d) going stands (none_next_place moved e not_on is))

    pub end_stopped : (moved : Moved) (e : Cursor AnyFact) → (moved ≡ Moved.On → ⊥) → IsMoved fact_answers checked c moved e → fact_state f t (At b.0 (line_count f b.0)) ≡ None
    end_stopped moved e not_on is = stopped_end f t b k c lines (get_or insts k d) going stands (none_next_place moved e not_on is)

  module _ (k : ℕ) (c : Cursor AnyFact) (lines : List LineFinding) (going : IsGoing f t b k c lines) (all : k ≡ length insts) where
    pub lines_done : AreLines f t b.0 lines
    lines_done = all_lines f t b k c lines going (let e = ap length own in omega (arith, e, all))

    pub end_done : HasState f (fact_state f t (At b.0 (line_count f b.0))) c
    end_done = at_end f t b k c lines going (all ∙ sym (ap length own))

-- ---- one block after another

last_or_before : {A : Type 0} (xs : List A) (x : A) (b : ℕ) (y : A) → slice_get (xs ++ (x ∷ [])) b ≡ Some y → (slice_get xs b ≡ Some y) ⊎ ((b ≡ length xs) × (x ≡ y))
last_or_before [] x zero y h = inr (refl, same_Some x y h)
last_or_before [] x (suc b) y h = absurd (cc)
last_or_before (z ∷ xs) x zero y h = inl h
last_or_before (z ∷ xs) x (suc b) y h = elim (last_or_before xs x b y h) [ inl before ↦ inl before | inr last ↦ inr (ap suc last.0, last.1) ]

pub each_and_last : {A : Type 0} (P : ℕ → A → Type 0) (xs : List A) (x : A) → ((b : ℕ) (y : A) → slice_get xs b ≡ Some y → P b y) → P (length xs) x →
    (b : ℕ) (y : A) → slice_get (xs ++ (x ∷ [])) b ≡ Some y → P b y
each_and_last P xs x each last b y h = elim (last_or_before xs x b y h) [
  | inl before ↦ each b y before
  | inr now ↦ subst (λ z. P b z) now.1 (subst (λ n. P n x) (sym now.0) last)
]
