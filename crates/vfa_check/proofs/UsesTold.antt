-- The first missed use, told part by part.
use Rattle.std.proofs.Common.{◌≡◌, ℕ, ◌+◌, ◌<◌, ◌≤◌, true, false, not, ◌||◌, cond, List, [], ◌∷◌, ◌++◌, length, get_or, take, drop, map, flat_map, All, MatchBool, IfNone, refl, sym, ap, ◌∙◌, subst, inl, inr, Option, Some, None}
use Rattle.std.specs.List.{slice_get}
use Rattle.std.specs.Option.{is_some}
use Rattle.std.proofs.lemmas.List.{drop_more, drop_all, append_assoc, get_or_default}
use Rattle.std.proofs.lemmas.List.Concat.{flat_map-cons}
use Rattle.std.proofs.lemmas.List.Elements.{All-get_or, All-nil, All-cons, All-append}
use Rattle.std.proofs.lemmas.Option.{slice_get_within, get_or_from_slice_get}
use Rattle.vfa_ir.specs.declared.functions.Block.{Block}
use Rattle.vfa_ir.specs.declared.functions.Function.{Function}
use Rattle.vfa_ir.specs.declared.functions.Inst.{Inst}
use Rattle.vfa_ir.specs.Defined.{NameUse, UseIsDefined, uses_at, uses_from, block_uses, inst_uses, op_names, term_names, phi_uses}
use Rattle.vfa_ir.specs.Printable.{block_ids, inst_ids}
use Rattle.vfa_ir.specs.Walks.{is_in, defined_over, results_before, IsDefinedAt, IsMissedAt}
use Rattle.vfa_cfg.proofs.Members.{bool_cases, false_is_no_truth, or_cases, or_left, or_right, in_left, in_right, in_cases}
use Rattle.vfa_check.specs.declared.name_rows.NameRow.{NameRow}
use Rattle.vfa_check.specs.declared.uses.MissedUse.{MissedUse}
use Rattle.vfa_check.specs.MissedUses.{IsFirstMissed}
use Rattle.vfa_check.specs.NameRows.{IsRow, has_name}
use Rattle.vfa_check.specs.Uses.{first_missed, IsScopeAt, Tells}
use Rattle.vfa_check.specs.Within.{IsWithin}
use Rattle.vfa_check.proofs.Adding.{all_right, ids_more, inst_at_in_range, none_added}
use Rattle.vfa_check.proofs.ScopesFound.{decided, before_is, ids_before}
use Rattle.vfa_check.proofs.Sending.{block_names, or_parts}

-- what the rest tells is told by the whole
abbrev pub Continues : Function → List NameUse → List NameUse → Type 0
Continues f whole rest = (found : Option MissedUse) → Tells f rest found → Tells f whole found

pub begins : (f : Function) (whole : List NameUse) → Continues f whole whole
begins f whole found t = t

tells_more : (f : Function) (here later : List NameUse) → All (UseIsDefined f) here → Continues f (here ++ later) later
tells_more f here later h None t = All-append (UseIsDefined f) here later h t
tells_more f here later h (Some m) t = record {
  before = here ++ t.before;
  line = t.line;
  after = t.after;
  are = ap (λ us. here ++ us) t.are ∙ sym (append_assoc here t.before _);
  defined = All-append (UseIsDefined f) here t.before h t.defined;
  missed = t.missed;
}

tells_here : (f : Function) (here later : List NameUse) (m : MissedUse) → IsFirstMissed f here m → IsFirstMissed f (here ++ later) m
tells_here f here later m t = record {
  before = t.before;
  line = t.line;
  after = t.after ++ later;
  are = ap (λ us. us ++ later) t.are ∙ append_assoc t.before _ later;
  defined = t.defined;
  missed = t.missed;
}

pub found_here : (f : Function) (here later whole : List NameUse) (found : Option MissedUse) → is_some found ≡ true → Tells f here found →
    Continues f whole (here ++ later) → Tells f whole found
found_here f here later whole None e t c = absurd (cc)
found_here f here later whole (Some m) e t c = c (Some m) (tells_here f here later m t)

pub found_later : (f : Function) (here later whole : List NameUse) (found : Option MissedUse) → is_some found ≡ false → Tells f here found →
    Continues f whole (here ++ later) → Continues f whole later
found_later f here later whole (Some m) e t c = absurd (cc)
found_later f here later whole None e t c = λ found r. c found (tells_more f here later t found r)

-- a list of parts
next_part : {X : Type 0} (g : X → List NameUse) (xs : List X) (k : ℕ) (d : X) → k < length xs →
    flat_map g (drop k xs) ≡ g (get_or xs k d) ++ flat_map g (drop (k + 1) xs)
next_part g xs k d within = ap (flat_map g) (drop_more xs k d within) ∙ flat_map-cons g (get_or xs k d) (drop (k + 1) xs)

pub part_here : {X : Type 0} (f : Function) (g : X → List NameUse) (xs : List X) (k : ℕ) (d : X) (found : Option MissedUse) → k < length xs →
    is_some found ≡ true → Tells f (g (get_or xs k d)) found → Continues f (flat_map g xs) (flat_map g (drop k xs)) → Tells f (flat_map g xs) found
part_here f g xs k d found within e t c =
    found_here f (g (get_or xs k d)) (flat_map g (drop (k + 1) xs)) (flat_map g xs) found e t (subst (Continues f (flat_map g xs)) (next_part g xs k d within) c)

pub part_later : {X : Type 0} (f : Function) (g : X → List NameUse) (xs : List X) (k : ℕ) (d : X) (found : Option MissedUse) → k < length xs →
    is_some found ≡ false → Tells f (g (get_or xs k d)) found → Continues f (flat_map g xs) (flat_map g (drop k xs)) →
    Continues f (flat_map g xs) (flat_map g (drop (k + 1) xs))
part_later f g xs k d found within e t c =
    found_later f (g (get_or xs k d)) (flat_map g (drop (k + 1) xs)) (flat_map g xs) found e t (subst (Continues f (flat_map g xs)) (next_part g xs k d within) c)

pub parts_end : {X : Type 0} (f : Function) (g : X → List NameUse) (xs : List X) (k : ℕ) → length xs ≤ k →
    Continues f (flat_map g xs) (flat_map g (drop k xs)) → All (UseIsDefined f) (flat_map g xs)
parts_end f g xs k h c = c None (subst (λ ys. All (UseIsDefined f) (flat_map g ys)) (sym (drop_all k xs h)) (All-nil (UseIsDefined f)))

-- One use, and the names of one line

pub one_missed : (f : Function) (line : ℕ) (m : MissedUse) → IsMissedAt f m.block.0 line m.name.0 →
    IsFirstMissed f (uses_at m.block.0 line (m.name.0 ∷ [])) m
one_missed f line m h = record { before = []; line = line; after = []; are = refl; defined = All-nil (UseIsDefined f); missed = h }

pub one_defined : (f : Function) (b line v : ℕ) → IsDefinedAt f b line v → All (UseIsDefined f) (uses_at b line (v ∷ []))
one_defined f b line v h = All-cons (UseIsDefined f) _ [] h (All-nil (UseIsDefined f))

pub names_none : (f : Function) (b line : ℕ) (row : NameRow) (names : List ℕ) → IsScopeAt f b line row → None ≡ first_missed row names →
    All (UseIsDefined f) (uses_at b line names)
names_none f b line row [] s e = All-nil (UseIsDefined f)
names_none f b line row (v ∷ names) s e = elim (bool_cases (has_name row v)) [
  | inl t ↦
      let here : IsDefinedAt f b line v = subst (λ x. MatchBool x (IsDefinedAt f b line v) (IsMissedAt f b line v)) t (s v) in
      let rest : None ≡ first_missed row names = e ∙ ap (λ x. cond (not x) (Some v) (first_missed row names)) t in
      All-cons (UseIsDefined f) _ (uses_at b line names) here (names_none f b line row names s rest)
  | inr t ↦ absurd (let found : None ≡ Some v = e ∙ ap (λ x. cond (not x) (Some v) (first_missed row names)) t in cc)
]

pub names_some : (f : Function) (line : ℕ) (row : NameRow) (names : List ℕ) (m : MissedUse) → IsScopeAt f m.block.0 line row →
    Some m.name.0 ≡ first_missed row names → IsFirstMissed f (uses_at m.block.0 line names) m
names_some f line row [] m s e = absurd (cc)
names_some f line row (v ∷ names) m s e = elim (bool_cases (has_name row v)) [
  | inl t ↦
      let b = m.block.0 in
      let here : IsDefinedAt f b line v = subst (λ x. MatchBool x (IsDefinedAt f b line v) (IsMissedAt f b line v)) t (s v) in
      let rest : Some m.name.0 ≡ first_missed row names = e ∙ ap (λ x. cond (not x) (Some v) (first_missed row names)) t in
      tells_more f (uses_at b line (v ∷ [])) (uses_at b line names) (one_defined f b line v here) (Some m) (names_some f line row names m s rest)
  | inr t ↦
      let found : Some m.name.0 ≡ Some v = e ∙ ap (λ x. cond (not x) (Some v) (first_missed row names)) t in
      let same : m.name.0 ≡ v = cc in
      let missed : IsMissedAt f m.block.0 line v = subst (λ x. MatchBool x (IsDefinedAt f m.block.0 line v) (IsMissedAt f m.block.0 line v)) t (s v) in
      subst (λ w. IsFirstMissed f (uses_at m.block.0 line (w ∷ names)) m) same
      (tells_here f (uses_at m.block.0 line (m.name.0 ∷ [])) (uses_at m.block.0 line names) m
      (one_missed f line m (subst (IsMissedAt f m.block.0 line) (sym same) missed)))
]

-- The scope before the next line

read_is : (insts : List Inst) (k : ℕ) (d : Inst) → k < length insts → get_or insts k d ≡ get_or insts k (get_or insts k d)
read_is insts k d within = get_or_default insts k d (get_or insts k d) within

before_some : (f : Function) (b : ℕ) (block : Block) (n : ℕ) → slice_get f.blocks b ≡ Some block →
    ids_before (slice_get f.blocks b) n ≡ map (λ p. p.result.0) block.phis ++ inst_ids (take n block.insts)
unfolding ids_before
before_some f b block n at = ap (λ o. ids_before o n) at

pub line_scope : (f : Function) (b k : ℕ) (block : Block) (d : Inst) (old new : NameRow) → slice_get f.blocks b ≡ Some block → k < length block.insts →
    ((v : ℕ) → has_name new v ≡ (is_in v (inst_ids (get_or block.insts k d ∷ [])) || has_name old v)) → IsScopeAt f b k old → IsScopeAt f b (k + 1) new
line_scope f b k block d old new at within has s v =
    let i = get_or block.insts k d in
    let more = inst_ids (i ∷ []) in
    let before : (n : ℕ) → results_before f b n ≡ map (λ p. p.result.0) block.phis ++ inst_ids (take n block.insts) =
    λ n. before_is f b n ∙ before_some f b block n at in
    let step : results_before f b (k + 1) ≡ results_before f b k ++ more =
    before (k + 1)
    ∙ ap (λ ids. map (λ p. p.result.0) block.phis ++ ids) (ids_more block.insts k i within (read_is block.insts k d within))
    ∙ sym (append_assoc (map (λ p. p.result.0) block.phis) (inst_ids (take k block.insts)) more)
    ∙ ap (λ ids. ids ++ more) (sym (before k)) in
    subst (λ x. MatchBool x (IsDefinedAt f b (k + 1) v) (IsMissedAt f b (k + 1) v)) (sym (has v))
    (decided (is_in v more || has_name old v) (IsDefinedAt f b (k + 1) v) (IsMissedAt f b (k + 1) v)
    (λ t passed walk. elim (or_cases (is_in v more) (has_name old v) t) [
      | inl here ↦ or_right (defined_over f passed v) _ (ap (is_in v) step ∙ in_right v (results_before f b k) more here)
      | inr was ↦
          let defined : IsDefinedAt f b k v = subst (λ x. MatchBool x (IsDefinedAt f b k v) (IsMissedAt f b k v)) was (s v) in
          elim (or_cases (defined_over f passed v) (is_in v (results_before f b k)) (defined passed walk)) [
            | inl over ↦ or_left (defined_over f passed v) _ over
            | inr in_block ↦ or_right (defined_over f passed v) _ (ap (is_in v) step ∙ in_left v (results_before f b k) more in_block)
          ]
    ])
    (λ e.
    let apart = or_parts (is_in v more) (has_name old v) e in
    let m : IsMissedAt f b k v = subst (λ x. MatchBool x (IsDefinedAt f b k v) (IsMissedAt f b k v)) apart.1 (s v) in
    record {
      passed = m.passed;
      walk = m.walk;
      missed = λ h. elim (or_cases (defined_over f m.passed v) (is_in v (results_before f b (k + 1))) h) [
        | inl over ↦ m.missed (or_left (defined_over f m.passed v) _ over)
        | inr in_block ↦ elim (in_cases v (results_before f b k) more (sym (ap (is_in v) step) ∙ in_block)) [
          | inl was ↦ m.missed (or_right (defined_over f m.passed v) _ was)
          | inr here ↦ false_is_no_truth here apart.0
        ]
      ];
    }))

-- Instructions

next_inst : (f : Function) (b k : ℕ) (insts : List Inst) (d : Inst) → k < length insts →
    inst_uses f b k (drop k insts) ≡ uses_at b k (op_names f (get_or insts k d).op) ++ inst_uses f b (k + 1) (drop (k + 1) insts)
next_inst f b k insts d within = ap (inst_uses f b k) (drop_more insts k d within)

pub inst_here : (f : Function) (k : ℕ) (insts : List Inst) (d : Inst) (row : NameRow) (m : MissedUse) (whole : List NameUse) → k < length insts →
    IsScopeAt f m.block.0 k row → Some m.name.0 ≡ first_missed row (op_names f (get_or insts k d).op) →
    Continues f whole (inst_uses f m.block.0 k (drop k insts)) → IsFirstMissed f whole m
inst_here f k insts d row m whole within s e c =
    let names = op_names f (get_or insts k d).op in
    found_here f (uses_at m.block.0 k names) (inst_uses f m.block.0 (k + 1) (drop (k + 1) insts)) whole (Some m) refl
    (names_some f k row names m s e) (subst (Continues f whole) (next_inst f m.block.0 k insts d within) c)

pub inst_later : (f : Function) (b k : ℕ) (insts : List Inst) (d : Inst) (row : NameRow) (whole : List NameUse) → k < length insts →
    IsScopeAt f b k row → None ≡ first_missed row (op_names f (get_or insts k d).op) →
    Continues f whole (inst_uses f b k (drop k insts)) → Continues f whole (inst_uses f b (k + 1) (drop (k + 1) insts))
inst_later f b k insts d row whole within s e c =
    let names = op_names f (get_or insts k d).op in
    found_later f (uses_at b k names) (inst_uses f b (k + 1) (drop (k + 1) insts)) whole None refl
    (names_none f b k row names s e) (subst (Continues f whole) (next_inst f b k insts d within) c)

pub insts_end : (f : Function) (b k : ℕ) (insts : List Inst) (whole : List NameUse) → length insts ≤ k →
    Continues f whole (inst_uses f b k (drop k insts)) → All (UseIsDefined f) whole
insts_end f b k insts whole h c = c None (subst (λ ys. All (UseIsDefined f) (inst_uses f b k ys)) (sym (drop_all k insts h)) (All-nil (UseIsDefined f)))

-- Blocks

next_block : (f : Function) (b : ℕ) (blocks : List Block) (block : Block) → b < length blocks → block ≡ get_or blocks b block →
    uses_from f b (drop b blocks) ≡ block_uses f b block ++ uses_from f (b + 1) (drop (b + 1) blocks)
next_block f b blocks block within is =
    ap (uses_from f b) (drop_more blocks b block within)
    ∙ ap (λ x. block_uses f b x ++ uses_from f (b + 1) (drop (b + 1) blocks)) (sym is)

pub block_here : (f : Function) (b : ℕ) (blocks : List Block) (block : Block) (found : Option MissedUse) (whole : List NameUse) → b < length blocks →
    block ≡ get_or blocks b block → is_some found ≡ true → Tells f (block_uses f b block) found →
    Continues f whole (uses_from f b (drop b blocks)) → Tells f whole found
block_here f b blocks block found whole within is e t c =
    found_here f (block_uses f b block) (uses_from f (b + 1) (drop (b + 1) blocks)) whole found e t (subst (Continues f whole) (next_block f b blocks block within is) c)

pub block_later : (f : Function) (b : ℕ) (blocks : List Block) (block : Block) (found : Option MissedUse) (whole : List NameUse) → b < length blocks →
    block ≡ get_or blocks b block → is_some found ≡ false → Tells f (block_uses f b block) found →
    Continues f whole (uses_from f b (drop b blocks)) → Continues f whole (uses_from f (b + 1) (drop (b + 1) blocks))
block_later f b blocks block found whole within is e t c =
    found_later f (block_uses f b block) (uses_from f (b + 1) (drop (b + 1) blocks)) whole found e t (subst (Continues f whole) (next_block f b blocks block within is) c)

pub blocks_end : (f : Function) (b : ℕ) (blocks : List Block) (whole : List NameUse) → length blocks ≤ b →
    Continues f whole (uses_from f b (drop b blocks)) → All (UseIsDefined f) whole
blocks_end f b blocks whole h c = c None (subst (λ ys. All (UseIsDefined f) (uses_from f b ys)) (sym (drop_all b blocks h)) (All-nil (UseIsDefined f)))

-- the parts of a block
pub after_phis : (f : Function) (b : ℕ) (block : Block) (found : Option MissedUse) → All (UseIsDefined f) (flat_map (phi_uses f) block.phis) →
    Tells f (inst_uses f b 0 block.insts ++ uses_at b (length block.insts) (term_names block.term)) found → Tells f (block_uses f b block) found
after_phis f b block found h t = tells_more f (flat_map (phi_uses f) block.phis) _ h found t

pub in_phis : (f : Function) (b : ℕ) (block : Block) (found : Option MissedUse) → is_some found ≡ true → Tells f (flat_map (phi_uses f) block.phis) found →
    Tells f (block_uses f b block) found
in_phis f b block found e t = found_here f (flat_map (phi_uses f) block.phis) _ (block_uses f b block) found e t (begins f (block_uses f b block))

pub no_phi : (f : Function) (phis : List NameUse) (found : Option MissedUse) → is_some found ≡ false → Tells f phis found → All (UseIsDefined f) phis
no_phi f phis None e t = t
no_phi f phis (Some m) e t = absurd (cc)

pub in_insts : (f : Function) (insts terms : List NameUse) (found : Option MissedUse) → is_some found ≡ true → Tells f insts found → Tells f (insts ++ terms) found
in_insts f insts terms found e t = found_here f insts terms (insts ++ terms) found e t (begins f (insts ++ terms))

pub after_insts : (f : Function) (insts terms : List NameUse) (found : Option MissedUse) → All (UseIsDefined f) insts → Tells f terms found →
    Tells f (insts ++ terms) found
after_insts f insts terms found h t = tells_more f insts terms h found t

-- the same lemmas, where an element or a list was read

pub read_part : {X : Type 0} (f : Function) (g : X → List NameUse) (xs : List X) (k : ℕ) (x : X) (found : Option MissedUse) → x ≡ get_or xs k x →
    Tells f (g x) found → Tells f (g (get_or xs k x)) found
read_part f g xs k x found is t = subst (λ y. Tells f (g y) found) is t

pub line_scope_at : (f : Function) (b k : ℕ) (block : Block) (insts : List Inst) (d : Inst) (old new : NameRow) → insts ≡ block.insts →
    slice_get f.blocks b ≡ Some block → k < length insts →
    ((v : ℕ) → has_name new v ≡ (is_in v (inst_ids (get_or insts k d ∷ [])) || has_name old v)) → IsScopeAt f b k old → IsScopeAt f b (k + 1) new
line_scope_at f b k block insts d old new same at within has s =
    subst (λ is. k < length is → ((v : ℕ) → has_name new v ≡ (is_in v (inst_ids (get_or is k d ∷ [])) || has_name old v)) → IsScopeAt f b (k + 1) new)
    (sym same) (λ inside added. line_scope f b k block d old new at inside added s) within has

pub insts_in_block : (f : Function) (b : ℕ) (block : Block) (insts : List Inst) (k : ℕ) (d : Inst) (row : NameRow) → IsWithin f → insts ≡ block.insts →
    slice_get f.blocks b ≡ Some block → k < length insts → IsRow (length f.values) row → All (λ v. v < row.names) (inst_ids (get_or insts k d ∷ []))
insts_in_block f b block insts k d row w same at within is =
    let P : ℕ → Type 0 = λ v. v < length f.values in
    let inside : b < length f.blocks = slice_get_within f.blocks b block at in
    let here : get_or f.blocks b block ≡ block = get_or_from_slice_get f.blocks b block block at in
    let ids : All P (block_ids block) =
    subst (λ x. All P (block_ids x)) here (All-get_or (λ x. All P (block_ids x)) f.blocks b block inside (block_names f w.names)) in
    let all : All P (inst_ids insts) =
    subst (λ is. All P (inst_ids is)) (sym same) (all_right P (map (λ p. p.result.0) block.phis) (inst_ids block.insts) ids) in
    let named : All (λ v. v < row.names) (inst_ids insts) = subst (λ n. All (λ v. v < n) (inst_ids insts)) (sym is.names) all in
    let own : IsRow row.names row = record { names = refl; words = rw is.names is.words } in
    inst_at_in_range insts k d [] row row within own (none_added row) named

pub scope_then : (found : Option MissedUse) (P : Type 0) → is_some found ≡ false → IfNone found P → P
scope_then None P e h = h
scope_then (Some m) P e h = absurd (cc)
