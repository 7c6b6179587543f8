-- The flow as it begins, its phis added, and what it says of walks once nothing is left to send.
use Rattle.std.proofs.Common.{◌≡◌, ℕ, zero, suc, ◌+◌, ◌<◌, ◌≤◌, Bool, true, false, not, ◌||◌, List, [], ◌∷◌, ◌++◌, length, get_or, take, map, set, replicate, All, MatchBool, refl, sym, ap, ap₂, ◌∙◌, subst, inl, inr, ◌⊎◌, arith, Option, Some, None}
use Rattle.std.specs.List.{slice_get, list_any}
use Rattle.std.proofs.lemmas.Bool.Decides.{eqb_tells, leb_tells}
use Rattle.std.proofs.lemmas.List.{take_all, append-nil, length-set, length-replicate, get_or-replicate, get_or_past, length_push}
use Rattle.std.proofs.lemmas.List.Elements.{All-nil, All-head, All-tail, All-set, All-push, All-get_or}
use Rattle.std.proofs.lemmas.Option.{slice_get_read}
use Rattle.vfa_ir.specs.declared.functions.Block.{Block}
use Rattle.vfa_ir.specs.declared.functions.Function.{Function}
use Rattle.vfa_ir.specs.declared.operations.BlockId.{BlockId}
use Rattle.vfa_ir.specs.Defined.{line_count}
use Rattle.vfa_ir.specs.Printable.{block_ids, inst_ids}
use Rattle.vfa_ir.specs.Walks.{is_in, is_parameter, results_in, results_before, defined_over, successors, IsWalk, IsDefinedAt, IsMissedAt}
use Rattle.vfa_cfg.specs.Order.{IsOrder}
use Rattle.vfa_cfg.proofs.InOrder.{is_ordered}
use Rattle.vfa_cfg.proofs.Members.{false_is_no_truth, or_cases, or_left, or_right, no_truth}
use Rattle.vfa_check.specs.declared.flow.Flow.{Flow}
use Rattle.vfa_check.specs.declared.name_rows.NameRow.{NameRow}
use Rattle.vfa_check.specs.declared.scopes.Scopes.{Scopes}
use Rattle.vfa_check.specs.Flow.{phi_results, IsFlow, IsSettled, is_sent}
use Rattle.vfa_check.specs.NameRows.{IsRow, has_name, has_at}
use Rattle.vfa_check.specs.Scopes.{AreScopes}
use Rattle.vfa_check.specs.Within.{IsWithin}
use Rattle.vfa_check.proofs.Stepping.{has_set_same, has_set_other, has_read}
use Rattle.vfa_check.proofs.Adding.{all_left}
use Rattle.vfa_check.proofs.Sending.{or_parts, block_names}

-- Rows with all names

pub record AreFull (names count : ℕ) (rows : List NameRow) : Type 0 where
  pub whole : length rows ≡ count
  pub each : All (IsRow names) rows
  pub full : All (λ row. (v : ℕ) → has_name row v ≡ true) rows

pub none_full : (names : ℕ) → AreFull names 0 []
none_full names = record { whole = refl; each = All-nil (IsRow names); full = All-nil (λ row. (v : ℕ) → has_name row v ≡ true) }

pub full_more : (names count : ℕ) (rows : List NameRow) (row : NameRow) → AreFull names count rows → IsRow names row →
    ((v : ℕ) → has_name row v ≡ true) → AreFull names (count + 1) (rows ++ (row ∷ []))
full_more names count rows row a is all = record {
  whole = length_push rows row ∙ ap (λ n. n + 1) a.whole;
  each = All-push (IsRow names) rows row a.each is;
  full = All-push (λ r. (v : ℕ) → has_name r v ≡ true) rows row a.full all;
}

pub all_full : (rows : List NameRow) → All (λ row. (v : ℕ) → has_name row v ≡ true) rows → (b v : ℕ) → has_at rows b v ≡ true
all_full [] h b v = refl
all_full (row ∷ rows) h zero v = All-head (λ r. (v : ℕ) → has_name r v ≡ true) row rows h v
all_full (row ∷ rows) h (suc b) v = all_full rows (All-tail (λ r. (v : ℕ) → has_name r v ≡ true) row rows h) b v

pub has_past : (rows : List NameRow) (b v : ℕ) → length rows ≤ b → has_at rows b v ≡ true
has_past [] b v h = refl
has_past (row ∷ rows) zero v h = absurd (omega arith)
has_past (row ∷ rows) (suc b) v h = has_past rows b v (omega arith)

-- The beginning

no_sent : (count b : ℕ) → not (get_or (replicate count true) b true) ≡ false
no_sent count b = elim (leb_tells count b) [
  | inl h ↦ ap not (get_or_past (replicate count true) b true (omega (arith, h.1, length-replicate count true)))
  | inr h ↦ ap not (get_or-replicate count b true true h.1)
]

nothing_else : (a : Bool) → a ≡ false → (a || false) ≡ false
nothing_else true h = absurd (cc)
nothing_else false h = refl

pub begins : (f : Function) (full ends : List NameRow) (row : NameRow) (s : Flow) → IsWithin f →
    s.entries.items ≡ set full 0 row → s.ends.items ≡ ends → s.unsent.items ≡ replicate (length f.blocks) true →
    length full ≡ length f.blocks → All (IsRow (length f.values)) full → ((b v : ℕ) → has_at full b v ≡ true) →
    length ends ≡ length f.blocks → All (IsRow (length f.values)) ends → ((b v : ℕ) → has_at ends b v ≡ true) →
    IsRow (length f.values) row → ((v : ℕ) → has_name row v ≡ is_parameter f v) → IsFlow f (successors f) s
begins f full ends row s within is_entries is_ends is_unsent full_length full_rows full_has ends_length ends_rows ends_has is_row has =
    let first : 0 < length full = omega (arith, full_length, within.entry) in
    let at_first : (v : ℕ) → has_at s.entries.items 0 v ≡ is_parameter f v =
    λ v. ap (λ rows. has_at rows 0 v) is_entries ∙ has_set_same full 0 row v first ∙ has v in
    let at_other : (b v : ℕ) → (b ≡ 0 → ⊥) → has_at s.entries.items b v ≡ true =
    λ b v n. ap (λ rows. has_at rows b v) is_entries ∙ has_set_other full 0 b row v n ∙ full_has b v in
    let at_end : (b v : ℕ) → has_at s.ends.items b v ≡ true = λ b v. ap (λ rows. has_at rows b v) is_ends ∙ ends_has b v in
    let unsent : (b : ℕ) → is_sent s b ≡ false = λ b. ap (λ xs. not (get_or xs b true)) is_unsent ∙ no_sent (length f.blocks) b in
    record {
      shape = record {
        entries = ap length is_entries ∙ length-set full 0 row ∙ full_length;
        ends = ap length is_ends ∙ ends_length;
        unsent = ap length is_unsent ∙ length-replicate (length f.blocks) true;
        entry_rows = subst (All (IsRow (length f.values))) (sym is_entries) (All-set (IsRow (length f.values)) full 0 row is_row full_rows);
        end_rows = subst (All (IsRow (length f.values))) (sym is_ends) ends_rows;
      };
      parameters = λ v h. sym (at_first v) ∙ h;
      sent = λ b to v h _ _. absurd (false_is_no_truth {X = ⊥} h (unsent b));
      made = λ b v h _. absurd (false_is_no_truth {X = ⊥} h (unsent b));
      lost_before = λ b v gone. elim (eqb_tells b 0) [
        | inl e ↦
            let none : is_parameter f v ≡ false = sym (at_first v) ∙ subst (λ c. has_at s.entries.items c v ≡ false) e.1 gone in
            record { passed = []; walk = e.1; missed = nothing_else (is_parameter f v) none }
        | inr e ↦ absurd (false_is_no_truth {X = ⊥} (at_other b v e.1) gone)
      ];
      lost_behind = λ b v gone. absurd (false_is_no_truth {X = ⊥} (at_end b v) gone);
    }

-- The phis added

pub record HavePhis (f : Function) (b : ℕ) (old now : List NameRow) : Type 0 where
  pub whole : length now ≡ length old
  pub rows : All (IsRow (length f.values)) now
  pub added : (c v : ℕ) → c < b → has_at now c v ≡ (is_in v (phi_results f c) || has_at old c v)
  pub rest : (c v : ℕ) → b ≤ c → has_at now c v ≡ has_at old c v

pub none_have_phis : (f : Function) (old : List NameRow) → All (IsRow (length f.values)) old → HavePhis f 0 old old
none_have_phis f old h = record { whole = refl; rows = h; added = λ c v l. absurd (omega arith); rest = λ c v l. refl }

of_phis : Option Block → List ℕ
of_phis None = []
of_phis (Some block) = map (λ p. p.result.0) block.phis

pub phis_read : (f : Function) (b : ℕ) (block : Block) → b < length f.blocks → block ≡ get_or f.blocks b block →
    phi_results f b ≡ map (λ p. p.result.0) block.phis
unfolding of_phis
phis_read f b block within is =
    let same : phi_results f b ≡ of_phis (slice_get f.blocks b) =
    elim (slice_get f.blocks b) as (λ o. (elim o [ None ↦ [] | Some x ↦ map (λ p. p.result.0) x.phis ]) ≡ of_phis o) [ None ↦ refl | Some x ↦ refl ] in
    same ∙ ap of_phis (slice_get_read f.blocks (length f.blocks) b block refl within is)

pub more_have_phis : (f : Function) (b : ℕ) (old now : List NameRow) (row added : NameRow) (block : Block) → b < length now → b < length f.blocks →
    row ≡ get_or now b row → block ≡ get_or f.blocks b block → ((count : ℕ) → IsRow count row → IsRow count added) →
    ((v : ℕ) → has_name added v ≡ (is_in v (map (λ p. p.result.0) block.phis) || has_name row v)) →
    HavePhis f b old now → HavePhis f (b + 1) old (set now b added)
more_have_phis f b old now row added block within in_blocks is_row is_block shape has h =
    let own : IsRow (length f.values) row =
    subst (IsRow (length f.values)) (sym is_row) (All-get_or (IsRow (length f.values)) now b row within h.rows) in
    record {
      whole = length-set now b added ∙ h.whole;
      rows = All-set (IsRow (length f.values)) now b added (shape (length f.values) own) h.rows;
      added = λ c v l. elim (eqb_tells c b) [
        | inl e ↦ subst (λ d. has_at (set now b added) d v ≡ (is_in v (phi_results f d) || has_at old d v)) (sym e.1)
            (has_set_same now b added v within ∙ has v
            ∙ ap₂ ◌||◌ (ap (is_in v) (sym (phis_read f b block in_blocks is_block))) (sym (has_read now b row v within is_row) ∙ h.rest b v (omega arith)))
        | inr e ↦ has_set_other now b c added v e.1 ∙ h.added c v (omega (arith, e.1))
      ];
      rest = λ c v l. has_set_other now b c added v (omega arith) ∙ h.rest c v (omega arith);
    }

or_all : (a : Bool) → (a || true) ≡ true
or_all true = refl
or_all false = refl

pub all_have_phis : (f : Function) (b : ℕ) (old now : List NameRow) → length old ≤ b → HavePhis f b old now → (c v : ℕ) →
    has_at now c v ≡ (is_in v (phi_results f c) || has_at old c v)
all_have_phis f b old now h a c v = elim (leb_tells (length old) c) [
  | inl l ↦
      has_past now c v (omega (arith, l.1, a.whole))
      ∙ sym (ap (λ x. is_in v (phi_results f c) || x) (has_past old c v l.1) ∙ or_all (is_in v (phi_results f c)))
  | inr l ↦ a.added c v (omega (arith, l.1))
]

-- Walks

over_more : (f : Function) (from : ℕ) (rest : List ℕ) (v : ℕ) → (is_in v (results_in f from) ≡ true) ⊎ (defined_over f rest v ≡ true) →
    defined_over f (from ∷ rest) v ≡ true
over_more f from rest v (inl h) = or_right (is_parameter f v) _ (or_left (is_in v (results_in f from)) _ h)
over_more f from rest v (inr h) = elim (or_cases (is_parameter f v) (list_any (λ b. is_in v (results_in f b)) rest) h) [
  | inl p ↦ or_left (is_parameter f v) _ p
  | inr r ↦ or_right (is_parameter f v) _ (or_right (is_in v (results_in f from)) _ r)
]

walks_within : (f : Function) → IsWithin f → (passed : List ℕ) (b : ℕ) → IsWalk f (b ∷ passed) → b < length f.blocks
walks_within f w [] b walk = subst (λ c. c < length f.blocks) (sym walk) w.entry
walks_within f w (from ∷ rest) b walk = w.edges from b walk.0

walk_is_settled : (f : Function) (order : List BlockId) (s : Flow) → IsWithin f → IsOrder f order → IsSettled order s → (passed : List ℕ) (b : ℕ) →
    IsWalk f (b ∷ passed) → is_sent s b ≡ true
walk_is_settled f order s w o settled passed b walk =
    settled b (((is_ordered f order o).reached b).1 (walks_within f w passed b walk, record { passed = passed; walk = walk }))

-- what is left is defined on every walk
kept_is_defined : (f : Function) (order : List BlockId) (s : Flow) → IsWithin f → IsOrder f order → IsFlow f (successors f) s → IsSettled order s →
    (passed : List ℕ) (b v : ℕ) → IsWalk f (b ∷ passed) → has_at s.entries.items b v ≡ true → defined_over f passed v ≡ true
kept_is_defined f order s w o flow settled [] b v walk has =
    or_left (is_parameter f v) _ (flow.parameters v (subst (λ c. has_at s.entries.items c v ≡ true) walk has))
kept_is_defined f order s w o flow settled (from ∷ rest) b v walk has =
    let sent = walk_is_settled f order s w o settled rest from walk.1 in
    let end = flow.sent from b v sent walk.0 has in
    over_more f from rest v (elim (or_cases (is_in v (results_in f from)) (has_at s.entries.items from v) (flow.made from v sent end)) [
      | inl here ↦ inl here
      | inr before ↦ inr (kept_is_defined f order s w o flow settled rest from v walk.1 before)
    ])

end_is_defined : (f : Function) (order : List BlockId) (s : Flow) → IsWithin f → IsOrder f order → IsFlow f (successors f) s → IsSettled order s →
    (passed : List ℕ) (b v : ℕ) → IsWalk f (b ∷ passed) → has_at s.ends.items b v ≡ true →
    (defined_over f passed v || is_in v (results_in f b)) ≡ true
end_is_defined f order s w o flow settled passed b v walk has =
    let sent = walk_is_settled f order s w o settled passed b walk in
    elim (or_cases (is_in v (results_in f b)) (has_at s.entries.items b v) (flow.made b v sent has)) [
      | inl here ↦ or_right (defined_over f passed v) _ here
      | inr before ↦ or_left (defined_over f passed v) _ (kept_is_defined f order s w o flow settled passed b v walk before)
    ]

-- Results before the first line, and before the terminator

none_taken : {X : Type 0} (xs : List X) → take 0 xs ≡ []
none_taken [] = refl
none_taken (x ∷ xs) = refl

pub before_first : (f : Function) (b : ℕ) → results_before f b 0 ≡ phi_results f b
before_first f b =
    elim (slice_get f.blocks b) as (λ o. (elim o [ None ↦ [] | Some x ↦ map (λ p. p.result.0) x.phis ++ inst_ids (take 0 x.insts) ])
    ≡ (elim o [ None ↦ [] | Some x ↦ map (λ p. p.result.0) x.phis ])) [
      | None ↦ refl
      | Some x ↦ ap (λ is. map (λ p. p.result.0) x.phis ++ inst_ids is) (none_taken x.insts) ∙ append-nil (map (λ p. p.result.0) x.phis)
    ]

lines_of : Option Block → ℕ
lines_of None = 0
lines_of (Some block) = length block.insts

unfoldable pub ids_before : Option Block → ℕ → List ℕ
ids_before None n = []
ids_before (Some block) n = map (λ p. p.result.0) block.phis ++ inst_ids (take n block.insts)

ids_in : Option Block → List ℕ
ids_in None = []
ids_in (Some block) = block_ids block

all_before : (o : Option Block) (n : ℕ) → n ≡ lines_of o → ids_before o n ≡ ids_in o
unfolding lines_of ids_before ids_in
all_before None n e = refl
all_before (Some block) n e = ap (λ is. map (λ p. p.result.0) block.phis ++ inst_ids is) (take_all n block.insts (omega (arith, e)))

pub before_is : (f : Function) (b n : ℕ) → results_before f b n ≡ ids_before (slice_get f.blocks b) n
unfolding ids_before
before_is f b n =
    elim (slice_get f.blocks b) as (λ o. (elim o [ None ↦ [] | Some x ↦ map (λ p. p.result.0) x.phis ++ inst_ids (take n x.insts) ]) ≡ ids_before o n) [ None ↦ refl | Some x ↦ refl ]

pub before_last : (f : Function) (b : ℕ) → results_before f b (line_count f b) ≡ results_in f b
unfolding lines_of ids_before ids_in
before_last f b =
    let o = slice_get f.blocks b in
    let whole : results_in f b ≡ ids_in o =
    elim (slice_get f.blocks b) as (λ o. (elim o [ None ↦ [] | Some x ↦ block_ids x ]) ≡ ids_in o) [ None ↦ refl | Some x ↦ refl ] in
    let lines : line_count f b ≡ lines_of o =
    elim (slice_get f.blocks b) as (λ o. (elim o [ None ↦ 0 | Some x ↦ length x.insts ]) ≡ lines_of o) [ None ↦ refl | Some x ↦ refl ] in
    before_is f b (line_count f b) ∙ all_before o (line_count f b) lines ∙ sym whole

missed_at : (f : Function) (b n v : ℕ) (passed : List ℕ) → IsWalk f (b ∷ passed) → defined_over f passed v ≡ false → is_in v (results_before f b n) ≡ false →
    IsMissedAt f b n v
missed_at f b n v passed walk over here = record {
  passed = passed;
  walk = walk;
  missed = λ h. elim (or_cases (defined_over f passed v) (is_in v (results_before f b n)) h) [
    | inl p ↦ false_is_no_truth p over
    | inr p ↦ false_is_no_truth p here
  ];
}

over_parts : (f : Function) (b : ℕ) (passed : List ℕ) (v : ℕ) → defined_over f (b ∷ passed) v ≡ false →
    (defined_over f passed v ≡ false) × (is_in v (results_in f b) ≡ false)
over_parts f b passed v h =
    let first = or_parts (is_parameter f v) _ h in
    let second = or_parts (is_in v (results_in f b)) _ first.1 in (
      no_truth (defined_over f passed v) (λ t. elim (or_cases (is_parameter f v) _ t) [
        | inl p ↦ false_is_no_truth p first.0
        | inr p ↦ false_is_no_truth p second.1
      ]),
      second.0,
    )

pub decided : (b : Bool) (P Q : Type 0) → (b ≡ true → P) → (b ≡ false → Q) → MatchBool b P Q
decided true P Q f g = f refl
decided false P Q f g = g refl

pub are_scopes : (f : Function) (order : List BlockId) (flow : Flow) (s : Scopes) → IsWithin f → IsOrder f order → IsFlow f (successors f) flow →
    IsSettled order flow → length s.entries.items ≡ length f.blocks → All (IsRow (length f.values)) s.entries.items → ((b v : ℕ) → has_at s.entries.items b v ≡ (is_in v (phi_results f b) || has_at flow.entries.items b v)) →
    s.ends.items ≡ flow.ends.items → AreScopes f s
are_scopes f order flow s w o is settled whole rows entries ends = record {
  whole = whole;
  rows = rows;
  entries = λ b v. decided (has_at s.entries.items b v) (IsDefinedAt f b 0 v) (IsMissedAt f b 0 v)
      (λ t passed walk. elim (or_cases (is_in v (phi_results f b)) (has_at flow.entries.items b v) (sym (entries b v) ∙ t)) [
        | inl here ↦ or_right (defined_over f passed v) _ (ap (is_in v) (before_first f b) ∙ here)
        | inr before ↦ or_left (defined_over f passed v) _ (kept_is_defined f order flow w o is settled passed b v walk before)
      ])
      (λ e.
      let parts = or_parts (is_in v (phi_results f b)) (has_at flow.entries.items b v) (sym (entries b v) ∙ e) in
      let m = is.lost_before b v parts.1 in
      missed_at f b 0 v m.passed m.walk m.missed (ap (is_in v) (before_first f b) ∙ parts.0));
  ends = λ b v. decided (has_at s.ends.items b v) (IsDefinedAt f b (line_count f b) v) (IsMissedAt f b (line_count f b) v)
      (λ t passed walk.
      ap (λ xs. defined_over f passed v || is_in v xs) (before_last f b)
      ∙ end_is_defined f order flow w o is settled passed b v walk (sym (ap (λ rows. has_at rows b v) ends) ∙ t))
      (λ e.
      let m = is.lost_behind b v (sym (ap (λ rows. has_at rows b v) ends) ∙ e) in
      let parts = over_parts f b m.passed v m.missed in
      missed_at f b (line_count f b) v m.passed m.walk parts.0 (ap (is_in v) (before_last f b) ∙ parts.1));
}

-- a block without a row
pub past_scope : (P Q : Type 0) (rows : List NameRow) (b v : ℕ) → length rows ≤ b → MatchBool (has_at rows b v) P Q → P
past_scope P Q rows b v h m = let e = has_past rows b v h in subst (λ x. MatchBool x P Q) e m

pub phi_names : (f : Function) (b : ℕ) (rows : List NameRow) (row : NameRow) (block : Block) → IsWithin f → All (IsRow (length f.values)) rows →
    b < length rows → row ≡ get_or rows b row → b < length f.blocks → block ≡ get_or f.blocks b block →
    All (λ v. v < row.names) (map (λ p. p.result.0) block.phis)
phi_names f b rows row block w shape within is_row in_blocks is_block =
    let P : ℕ → Type 0 = λ v. v < length f.values in
    let own : IsRow (length f.values) row =
    subst (IsRow (length f.values)) (sym is_row) (All-get_or (IsRow (length f.values)) rows b row within shape) in
    let ids : All P (block_ids block) =
    subst (λ x. All P (block_ids x)) (sym is_block) (All-get_or (λ x. All P (block_ids x)) f.blocks b block in_blocks (block_names f w.names)) in
    let phis : All P (map (λ p. p.result.0) block.phis) = all_left P (map (λ p. p.result.0) block.phis) (inst_ids block.insts) ids in
    subst (λ n. All (λ v. v < n) (map (λ p. p.result.0) block.phis)) (sym own.names) phis
