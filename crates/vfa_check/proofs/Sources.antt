-- The operands that the entries of a phi have written, each at the block that it names.
use Rattle.std.proofs.Common.{◌≡◌, ◌∙◌, ℕ, ◌+◌, ◌<◌, ◌≤◌, Bool, true, false, eqb, List, [], ◌∷◌, ◌++◌, length, take, set, get_or, ◌⊎◌, inl, inr, All, Some, refl, sym, ap, subst, arith, length-set}
use Rattle.std.proofs.lemmas.Bool.{cases_lt, eqb-false, eqb-true}
use Rattle.std.proofs.lemmas.List.{get_or-set_other, get_or-set_same, get_or_default, take_more}
use Rattle.std.proofs.lemmas.List.Elements.{All-more, All-weaker, Contains-append_left, Contains-get_or, Contains-push}
use Rattle.std.proofs.lemmas.Option.{same_Some, slice_get-get_or, slice_get_within, get_or_from_slice_get}
use Rattle.std.specs.List.{Contains, slice_get}
use Rattle.vfa_ir.specs.declared.operations.BlockId.{BlockId}
use Rattle.vfa_ir.specs.declared.operations.Operand.{Operand}
use Rattle.vfa_check.specs.Predecessors.{Entries, HasOneOperand, HasSource}

get_set_same : (xs : List Operand) (k : ℕ) (x : Operand) → k < length xs → slice_get (set xs k x) k ≡ Some x
get_set_same xs k x within =
    let long : length (set xs k x) ≡ length xs = length-set xs k x in
    slice_get-get_or (set xs k x) k x (omega arith) ∙ ap Some (get_or-set_same xs k x x within)

get_set_other : (xs : List Operand) (k j : ℕ) (x y : Operand) → (j ≡ k → ⊥) → slice_get xs j ≡ Some y → slice_get (set xs k x) j ≡ Some y
get_set_other xs k j x y apart h =
    let long : length (set xs k x) ≡ length xs = length-set xs k x in
    let within : j < length xs = slice_get_within xs j y h in
    slice_get-get_or (set xs k x) j x (omega arith) ∙ ap Some (get_or-set_other xs k j x x apart ∙ get_or_from_slice_get xs j y x h)

same_block : (a b : BlockId) → a.0 ≡ b.0 → a ≡ b
same_block a b e = ap (λ (n : ℕ). let x : BlockId = record { 0 = n } in x) e

-- one entry more writes its operand
source_kept : (entries : Entries) (written : List Operand) (e x : Operand × BlockId) → e.1.0 < length written → HasSource entries written x →
    HasSource (entries ++ e ∷ []) (set written e.1.0 e.0) x
source_kept entries written e x within source = at (eqb x.1.0 e.1.0) refl
  where
    at : (t : Bool) → eqb x.1.0 e.1.0 ≡ t → HasSource (entries ++ e ∷ []) (set written e.1.0 e.0) x
    at true h =
        let same : x.1.0 ≡ e.1.0 = eqb-true x.1.0 e.1.0 h in
        let block : e.1 ≡ x.1 = same_block e.1 x.1 (sym same) in record {
          operand = e.0;
          among = subst (λ b. Contains (entries ++ e ∷ []) (e.0, b)) block (Contains-push entries e);
          there = subst (λ n. slice_get (set written e.1.0 e.0) n ≡ Some e.0) (sym same) (get_set_same written e.1.0 e.0 within);
        }
    at false h = record {
      operand = source.operand;
      among = Contains-append_left entries (e ∷ []) (source.operand, x.1) source.among;
      there = get_set_other written e.1.0 x.1.0 e.0 source.operand (eqb-false x.1.0 e.1.0 h) source.there;
    }

source_new : (entries : Entries) (written : List Operand) (e : Operand × BlockId) → e.1.0 < length written →
    HasSource (entries ++ e ∷ []) (set written e.1.0 e.0) e
source_new entries written e within = record {
  operand = e.0;
  among = Contains-push entries e;
  there = get_set_same written e.1.0 e.0 within;
}

pub written_next : (entries : Entries) (written : List Operand) (i : ℕ) (d : Operand × BlockId) → i < length entries →
    (get_or entries i d).1.0 < length written → All (HasSource (take i entries) written) (take i entries) →
    All (HasSource (take (i + 1) entries) (set written (get_or entries i d).1.0 (get_or entries i d).0)) (take (i + 1) entries)
written_next entries written i d within inside so_far =
    let e : Operand × BlockId = get_or entries i d in
    let after : List Operand = set written e.1.0 e.0 in
    let more : take (i + 1) entries ≡ take i entries ++ e ∷ [] = take_more entries i d within in
    subst (λ front. All (HasSource front after) (take (i + 1) entries)) (sym more)
    (All-more (HasSource (take i entries ++ e ∷ []) after) entries i d within
    (All-weaker (HasSource (take i entries) written) (HasSource (take i entries ++ e ∷ []) after)
    (λ x h. source_kept (take i entries) written e x inside h) (take i entries) so_far)
    (source_new (take i entries) written e inside))

-- where each entry finds its operand, those that name one block have one operand
pub one_from_written : (entries : Entries) (written : List Operand) → All (λ e. slice_get written e.1.0 ≡ Some e.0) entries → HasOneOperand entries
one_from_written entries written there i j d before within same =
    let x : Operand × BlockId = get_or entries i d in
    let y : Operand × BlockId = get_or entries j d in
    let first : slice_get written x.1.0 ≡ Some x.0 = there i d (omega arith) in
    let second : slice_get written y.1.0 ≡ Some y.0 = there j d within in
    same_Some x.0 y.0 (sym first ∙ ap (λ (b : BlockId). slice_get written b.0) same ∙ second)

-- and conversely
ordered : (entries : Entries) (x y : Operand × BlockId) (i j : ℕ) → HasOneOperand entries → i < j → j < length entries →
    get_or entries i x ≡ x → get_or entries j y ≡ y → x.1 ≡ y.1 → x.0 ≡ y.0
ordered entries x y i j one before within first second same =
    let other : get_or entries j x ≡ y = get_or_default entries j x y within ∙ second in
    sym (ap (λ (e : Operand × BlockId). e.0) first)
    ∙ one i j x before within (ap (λ (e : Operand × BlockId). e.1) first ∙ same ∙ sym (ap (λ (e : Operand × BlockId). e.1) other))
    ∙ ap (λ (e : Operand × BlockId). e.0) other

agree : (entries : Entries) (x y : Operand × BlockId) → HasOneOperand entries → Contains entries x → Contains entries y → x.1 ≡ y.1 → x.0 ≡ y.0
agree entries x y one a b same = at (cases_lt a.0 b.0) (cases_lt b.0 a.0)
  where
    at : (a.0 < b.0) ⊎ (b.0 ≤ a.0) → (b.0 < a.0) ⊎ (a.0 ≤ b.0) → x.0 ≡ y.0
    at (inl l) _ = ordered entries x y a.0 b.0 one l b.1 a.2 b.2 same
    at (inr l) (inl m) = sym (ordered entries y x b.0 a.0 one m a.1 b.2 a.2 (sym same))
    at (inr l) (inr m) =
        let place : a.0 ≡ b.0 = omega arith in
        ap (λ (e : Operand × BlockId). e.0) (sym a.2 ∙ ap (λ n. get_or entries n x) place ∙ get_or_default entries b.0 x y b.1 ∙ b.2)

pub written_from_one : (entries : Entries) (written : List Operand) → HasOneOperand entries → All (HasSource entries written) entries →
    All (λ e. slice_get written e.1.0 ≡ Some e.0) entries
written_from_one entries written one sources k d within =
    let e : Operand × BlockId = get_or entries k d in
    let s : HasSource entries written e = sources k d within in
    s.there ∙ ap Some (agree entries (s.operand, e.1) e one s.among (Contains-get_or entries k d within) refl)
