-- What one step of the search changes.
use Rattle.std.proofs.Common.{◌≡◌, ℕ, zero, suc, ◌<◌, Bool, true, false, not, ◌&&◌, ◌||◌, nat_eq, min, List, [], ◌∷◌, length, get_or, set, sum, All, refl, sym, ap, ap₂, ◌∙◌, subst, inl, inr, arith, Option, Some, None}
use Rattle.std.specs.List.{slice_get}
use Rattle.std.proofs.lemmas.Bool.Decides.{eqb_tells}
use Rattle.std.proofs.lemmas.List.{length-set}
use Rattle.std.proofs.lemmas.List.Elements.{All-get_or, All-set}
use Rattle.std.proofs.lemmas.List.Sums.{sum_by-set}
use Rattle.std.proofs.lemmas.Option.{slice_get_read}
use Rattle.vfa_ir.specs.declared.functions.Block.{Block}
use Rattle.vfa_ir.specs.declared.functions.Function.{Function}
use Rattle.vfa_ir.specs.Printable.{block_ids}
use Rattle.vfa_ir.specs.Walks.{is_in, results_in}
use Rattle.vfa_cfg.proofs.Members.{bool_cases}
use Rattle.vfa_check.specs.declared.flow.Flow.{Flow}
use Rattle.vfa_check.specs.declared.name_rows.NameRow.{NameRow}
use Rattle.vfa_check.specs.NameRows.{IsRow, has_name, is_one, has_at}
use Rattle.vfa_check.specs.Flow.{row_weight, weight, IsShaped, IsNarrowed, IsRenewed}

slice_set_same : {X : Type 0} (xs : List X) (i : ℕ) (x : X) → i < length xs → slice_get (set xs i x) i ≡ Some x
slice_set_same [] i x h = absurd (omega arith)
slice_set_same (y ∷ xs) zero x h = refl
slice_set_same (y ∷ xs) (suc i) x h = slice_set_same xs i x (omega arith)

slice_set_other : {X : Type 0} (xs : List X) (i j : ℕ) (x : X) → (j ≡ i → ⊥) → slice_get (set xs i x) j ≡ slice_get xs j
slice_set_other [] i j x n = refl
slice_set_other (y ∷ xs) zero zero x n = absurd (n refl)
slice_set_other (y ∷ xs) zero (suc j) x n = refl
slice_set_other (y ∷ xs) (suc i) zero x n = refl
slice_set_other (y ∷ xs) (suc i) (suc j) x n = slice_set_other xs i j x (λ e. n (ap suc e))

has_row : Option NameRow → ℕ → Bool
has_row None v = true
has_row (Some row) v = has_name row v

same_has : (rows : List NameRow) (b v : ℕ) → has_at rows b v ≡ has_row (slice_get rows b) v
unfolding has_row
same_has rows b v = elim (slice_get rows b) as (λ o. (elim o [ None ↦ true | Some row ↦ has_name row v ]) ≡ has_row o v) [ None ↦ refl | Some row ↦ refl ]

pub has_set_same : (rows : List NameRow) (b : ℕ) (row : NameRow) (v : ℕ) → b < length rows → has_at (set rows b row) b v ≡ has_name row v
unfolding has_row
has_set_same rows b row v h = same_has (set rows b row) b v ∙ ap (λ o. has_row o v) (slice_set_same rows b row h)

pub has_set_other : (rows : List NameRow) (b c : ℕ) (row : NameRow) (v : ℕ) → (c ≡ b → ⊥) → has_at (set rows b row) c v ≡ has_at rows c v
has_set_other rows b c row v n =
    same_has (set rows b row) c v ∙ ap (λ o. has_row o v) (slice_set_other rows b c row n) ∙ sym (same_has rows c v)

pub has_read : (rows : List NameRow) (b : ℕ) (row : NameRow) (v : ℕ) → b < length rows → row ≡ get_or rows b row → has_at rows b v ≡ has_name row v
unfolding has_row
has_read rows b row v h is =
    same_has rows b v ∙ ap (λ o. has_row o v) (slice_get_read rows (length rows) b row refl h is)

and_true : (a : Bool) → (a && true) ≡ a
and_true true = refl
and_true false = refl

pub narrowed : (f : Function) (from to : ℕ) (old new : Flow) (row end narrow : NameRow) (lost : Bool) →
    IsShaped f old → from < length f.blocks → to < length f.blocks →
    row ≡ get_or old.entries.items to row → end ≡ get_or old.ends.items from end →
    new.entries.items ≡ set old.entries.items to narrow → new.ends.items ≡ old.ends.items →
    (lost ≡ false → new.unsent.items ≡ old.unsent.items) → (lost ≡ true → new.unsent.items ≡ set old.unsent.items to true) →
    ((count : ℕ) → IsRow count row → IsRow count narrow) →
    ((v : ℕ) → has_name narrow v ≡ (has_name row v && has_name end v)) →
    (lost ≡ false → narrow.words.items ≡ row.words.items) →
    (lost ≡ true → sum narrow.words.items < sum row.words.items) → IsNarrowed f from to old new lost
narrowed f from to old new row end narrow lost s in_from in_to is_row is_end entries ends sent unsent shape both kept less =
    let here : to < length old.entries.items = omega (arith, s.entries) in
    let there : from < length old.ends.items = omega (arith, s.ends) in
    let own : IsRow (length f.values) row =
    subst (IsRow (length f.values)) (sym is_row) (All-get_or (IsRow (length f.values)) old.entries.items to row here s.entry_rows) in
    let own_new = shape (length f.values) own in
    let total = sum_by-set row_weight old.entries.items to narrow row here in
    let was : row_weight (get_or old.entries.items to row) ≡ row_weight row = ap row_weight (sym is_row) in
    let same_row : lost ≡ false → (v : ℕ) → has_name narrow v ≡ has_name row v =
    λ e v. ap (λ n. is_one narrow.words.items (min v n)) (own_new.names ∙ sym own.names) ∙ ap (λ ws. is_one ws (min v row.names)) (kept e) in
    record {
      shape = record {
        entries = ap length entries ∙ length-set old.entries.items to narrow ∙ s.entries;
        ends = ap length ends ∙ s.ends;
        unsent = elim (bool_cases lost) [
          | inl t ↦ ap length (unsent t) ∙ length-set old.unsent.items to true ∙ s.unsent
          | inr e ↦ ap length (sent e) ∙ s.unsent
        ];
        entry_rows = subst (All (IsRow (length f.values))) (sym entries)
            (All-set (IsRow (length f.values)) old.entries.items to narrow own_new s.entry_rows);
        end_rows = subst (All (IsRow (length f.values))) (sym ends) s.end_rows;
      };
      entries = λ b v. ap (λ rows. has_at rows b v) entries ∙ elim (eqb_tells b to) [
        | inl e ↦ subst (λ c. has_at (set old.entries.items to narrow) c v ≡ (has_at old.entries.items c v && (not (nat_eq b to) || has_at old.ends.items from v))) (sym e.1)
            (has_set_same old.entries.items to narrow v here ∙ both v
            ∙ ap₂ ◌&&◌ (sym (has_read old.entries.items to row v here is_row))
            (sym (ap (λ t. not t || has_at old.ends.items from v) e.0 ∙ has_read old.ends.items from end v there is_end)))
        | inr e ↦ has_set_other old.entries.items to b narrow v e.1 ∙ sym (rw e.0 (and_true (has_at old.entries.items b v)))
      ];
      ends = ends;
      sent = sent;
      unsent = unsent;
      kept = λ q b v. ap (λ rows. has_at rows b v) entries ∙ elim (eqb_tells b to) [
        | inl e ↦ subst (λ c. has_at (set old.entries.items to narrow) c v ≡ has_at old.entries.items c v) (sym e.1)
            (has_set_same old.entries.items to narrow v here ∙ same_row q v ∙ sym (has_read old.entries.items to row v here is_row))
        | inr e ↦ has_set_other old.entries.items to b narrow v e.1
      ];
      same_weight = λ q.
          let same : row_weight narrow ≡ row_weight row = ap sum (kept q) in
          ap weight entries ∙ omega (arith, total, was, same);
      less = λ q.
          let fewer : row_weight narrow < row_weight row = less q in
          subst (λ n. n < weight old.entries.items) (sym (ap weight entries)) (omega (arith, total, was, fewer));
    }

of_block : Option Block → List ℕ
of_block None = []
of_block (Some block) = block_ids block

pub results_read : (f : Function) (b : ℕ) (block : Block) → b < length f.blocks → block ≡ get_or f.blocks b block → results_in f b ≡ block_ids block
unfolding of_block
results_read f b block within is =
    let same : results_in f b ≡ of_block (slice_get f.blocks b) =
    elim (slice_get f.blocks b) as (λ o. (elim o [ None ↦ [] | Some x ↦ block_ids x ]) ≡ of_block o) [ None ↦ refl | Some x ↦ refl ] in
    same ∙ ap of_block (slice_get_read f.blocks (length f.blocks) b block refl within is)

pub renewed : (f : Function) (b : ℕ) (old new : Flow) (entry end copied made : NameRow) (block : Block) →
    IsShaped f old → b < length f.blocks →
    entry ≡ get_or old.entries.items b entry → block ≡ get_or f.blocks b block →
    new.entries.items ≡ old.entries.items → new.ends.items ≡ set old.ends.items b made → new.unsent.items ≡ set old.unsent.items b false →
    ((count : ℕ) → IsRow count entry → IsRow count copied) → ((v : ℕ) → has_name copied v ≡ has_name entry v) →
    ((count : ℕ) → IsRow count copied → IsRow count made) →
    ((v : ℕ) → has_name made v ≡ (is_in v (block_ids block) || has_name copied v)) → IsRenewed f b old new
renewed f b old new entry end copied made block s within is_entry is_block entries ends unsent copied_row copied_same made_row added =
    let here : b < length old.entries.items = omega (arith, s.entries) in
    let there : b < length old.ends.items = omega (arith, s.ends) in
    let own : IsRow (length f.values) entry =
    subst (IsRow (length f.values)) (sym is_entry) (All-get_or (IsRow (length f.values)) old.entries.items b entry here s.entry_rows) in
    let results : results_in f b ≡ block_ids block = results_read f b block within is_block in
    record {
      shape = record {
        entries = ap length entries ∙ s.entries;
        ends = ap length ends ∙ length-set old.ends.items b made ∙ s.ends;
        unsent = ap length unsent ∙ length-set old.unsent.items b false ∙ s.unsent;
        entry_rows = subst (All (IsRow (length f.values))) (sym entries) s.entry_rows;
        end_rows = subst (All (IsRow (length f.values))) (sym ends)
            (All-set (IsRow (length f.values)) old.ends.items b made (made_row (length f.values) (copied_row (length f.values) own)) s.end_rows);
      };
      entries = entries;
      ends = λ c v. ap (λ rows. has_at rows c v) ends ∙ elim (eqb_tells c b) [
        | inl e ↦ rw e.0
            (subst (λ d. has_at (set old.ends.items b made) d v ≡ (is_in v (results_in f b) || has_at old.entries.items b v)) (sym e.1)
            (has_set_same old.ends.items b made v there ∙ added v
            ∙ ap₂ ◌||◌ (ap (is_in v) (sym results)) (copied_same v ∙ sym (has_read old.entries.items b entry v here is_entry))))
        | inr e ↦ rw e.0 (has_set_other old.ends.items b c made v e.1)
      ];
      unsent = unsent;
    }
