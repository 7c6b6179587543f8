-- Names of a list added to a row one after another.
use Rattle.std.proofs.Common.{◌≡◌, ℕ, ◌+◌, ◌<◌, ◌≤◌, Bool, true, false, ◌||◌, nat_eq, List, [], ◌∷◌, ◌++◌, length, take, drop, map, get_or, refl, sym, ap, ◌∙◌, subst, arith, All}
use Rattle.std.proofs.lemmas.List.{take_more, take_all, map_more}
use Rattle.std.proofs.lemmas.List.Elements.{All-get_or, All-nil, All-cons, All-head, All-tail, filter_map-append}
use Rattle.std.proofs.lemmas.List.{length-map, get_or-map, get_or_default, take-append-drop}
use Rattle.vfa_ir.specs.declared.functions.Inst.{Inst}
use Rattle.vfa_ir.specs.Printable.{inst_ids}
use Rattle.vfa_ir.specs.Walks.{is_in}
use Rattle.vfa_cfg.proofs.Members.{is_in-append}
use Rattle.vfa_check.specs.declared.name_rows.NameRow.{NameRow}
use Rattle.vfa_check.specs.NameRows.{IsRow, has_name}

pub record AreAdded (ids : List ℕ) (old new : NameRow) : Type 0 where
  pub row : (count : ℕ) → IsRow count old → IsRow count new
  pub added : (v : ℕ) → has_name new v ≡ (is_in v ids || has_name old v)

pub none_added : (row : NameRow) → AreAdded [] row row
none_added row = record { row = λ n h. h; added = λ v. refl }

or_moved : (a b c : Bool) → (b || (a || c)) ≡ ((a || b) || c)
or_moved true true c = refl
or_moved true false c = refl
or_moved false true c = refl
or_moved false false c = refl

or_nothing : (a : Bool) → (a || false) ≡ a
or_nothing true = refl
or_nothing false = refl

pub more_added : (ids more : List ℕ) (old mid new : NameRow) → AreAdded ids old mid → ((count : ℕ) → IsRow count mid → IsRow count new) →
    ((v : ℕ) → has_name new v ≡ (is_in v more || has_name mid v)) → AreAdded (ids ++ more) old new
more_added ids more old mid new a row added = record {
  row = λ n h. row n (a.row n h);
  added = λ v. added v ∙ ap (λ x. is_in v more || x) (a.added v) ∙ or_moved (is_in v ids) (is_in v more) (has_name old v)
      ∙ ap (λ x. x || has_name old v) (sym (is_in-append v ids more));
}

pub one_added : (ids : List ℕ) (v : ℕ) (old mid new : NameRow) → AreAdded ids old mid → ((count : ℕ) → IsRow count mid → IsRow count new) →
    ((w : ℕ) → has_name new w ≡ (nat_eq w v || has_name mid w)) → AreAdded (ids ++ (v ∷ [])) old new
one_added ids v old mid new a row added =
    more_added ids (v ∷ []) old mid new a row (λ w. added w ∙ ap (λ x. x || has_name mid w) (sym (or_nothing (nat_eq w v))))

pub more_mapped : {X : Type 0} (g : X → ℕ) (xs : List X) (k : ℕ) (x : X) (old mid new : NameRow) → k < length xs → x ≡ get_or xs k x →
    AreAdded (map g (take k xs)) old mid → ((count : ℕ) → IsRow count mid → IsRow count new) →
    ((w : ℕ) → has_name new w ≡ (nat_eq w (g x) || has_name mid w)) → AreAdded (map g (take (k + 1) xs)) old new
more_mapped g xs k x old mid new within is a row added =
    let more : map g (take (k + 1) xs) ≡ map g (take k xs) ++ (g x ∷ []) =
    map_more g xs k x within ∙ ap (λ y. map g (take k xs) ++ (g y ∷ [])) (sym is) in
    subst (λ ids. AreAdded ids old new) (sym more) (one_added (map g (take k xs)) (g x) old mid new a row added)

pub all_mapped : {X : Type 0} (g : X → ℕ) (xs : List X) (k : ℕ) (old new : NameRow) → length xs ≤ k → AreAdded (map g (take k xs)) old new →
    AreAdded (map g xs) old new
all_mapped g xs k old new h a = subst (λ ys. AreAdded (map g ys) old new) (take_all k xs h) a

-- the instruction at a place adds its result
pub ids_more : (insts : List Inst) (k : ℕ) (i : Inst) → k < length insts → i ≡ get_or insts k i →
    inst_ids (take (k + 1) insts) ≡ inst_ids (take k insts) ++ inst_ids (i ∷ [])
ids_more insts k i within is =
    ap inst_ids (take_more insts k i within ∙ ap (λ y. take k insts ++ (y ∷ [])) (sym is))
    ∙ filter_map-append _ (take k insts) (i ∷ [])

pub more_insts : (insts : List Inst) (k : ℕ) (i : Inst) (old mid new : NameRow) → k < length insts → i ≡ get_or insts k i →
    AreAdded (inst_ids (take k insts)) old mid → ((count : ℕ) → IsRow count mid → IsRow count new) →
    ((w : ℕ) → has_name new w ≡ (is_in w (inst_ids (i ∷ [])) || has_name mid w)) → AreAdded (inst_ids (take (k + 1) insts)) old new
more_insts insts k i old mid new within is a row added =
    subst (λ ids. AreAdded ids old new) (sym (ids_more insts k i within is))
    (more_added (inst_ids (take k insts)) (inst_ids (i ∷ [])) old mid new a row added)

pub all_insts : (insts : List Inst) (k : ℕ) (old new : NameRow) → length insts ≤ k → AreAdded (inst_ids (take k insts)) old new →
    AreAdded (inst_ids insts) old new
all_insts insts k old new h a = subst (λ ys. AreAdded (inst_ids ys) old new) (take_all k insts h) a

-- Ids in range

pub own_row : (old new : NameRow) → IsRow old.names old → ((count : ℕ) → IsRow count old → IsRow count new) → IsRow new.names new
own_row old new r keeps = let now = keeps old.names r in record { names = refl; words = rw now.names now.words }

pub mapped_in_range : {X : Type 0} (g : X → ℕ) (xs : List X) (k : ℕ) (x : X) (ids : List ℕ) (old mid : NameRow) → k < length xs → x ≡ get_or xs k x →
    IsRow old.names old → AreAdded ids old mid → All (λ v. v < old.names) (map g xs) → g x < mid.names
mapped_in_range g xs k x ids old mid within is r a all =
    let here : get_or (map g xs) k 0 ≡ g x = get_or-map g xs k x 0 within ∙ ap g (sym is) in
    let less = All-get_or (λ v. v < old.names) (map g xs) k 0 (omega (arith, length-map xs g)) all in
    omega (arith, here, less, (a.row old.names r).names)

pub all_left : (P : ℕ → Type 0) (xs ys : List ℕ) → All P (xs ++ ys) → All P xs
all_left P [] ys h = All-nil P
all_left P (x ∷ xs) ys h = All-cons P x xs (All-head P x (xs ++ ys) h) (all_left P xs ys (All-tail P x (xs ++ ys) h))

pub all_right : (P : ℕ → Type 0) (xs ys : List ℕ) → All P (xs ++ ys) → All P ys
all_right P [] ys h = h
all_right P (x ∷ xs) ys h = all_right P xs ys (All-tail P x (xs ++ ys) h)

pub inst_in_range : (insts : List Inst) (k : ℕ) (i : Inst) (ids : List ℕ) (old mid : NameRow) → k < length insts → i ≡ get_or insts k i →
    IsRow old.names old → AreAdded ids old mid → All (λ v. v < old.names) (inst_ids insts) → All (λ v. v < mid.names) (inst_ids (i ∷ []))
inst_in_range insts k i ids old mid within is r a all =
    let whole : insts ≡ take (k + 1) insts ++ drop (k + 1) insts = sym (take-append-drop (k + 1) insts) in
    let parts : inst_ids insts ≡ (inst_ids (take k insts) ++ inst_ids (i ∷ [])) ++ inst_ids (drop (k + 1) insts) =
    ap inst_ids whole ∙ filter_map-append _ (take (k + 1) insts) (drop (k + 1) insts)
    ∙ ap (λ ys. ys ++ inst_ids (drop (k + 1) insts)) (ids_more insts k i within is) in
    let P : ℕ → Type 0 = λ v. v < old.names in
    let front = all_left P (inst_ids (take k insts) ++ inst_ids (i ∷ [])) (inst_ids (drop (k + 1) insts)) (subst (All P) parts all) in
    let here = all_right P (inst_ids (take k insts)) (inst_ids (i ∷ [])) front in
    subst (λ n. All (λ v. v < n) (inst_ids (i ∷ []))) (sym (a.row old.names r).names) here

-- the same, where the place is read with some default

read_is : (insts : List Inst) (k : ℕ) (d : Inst) → k < length insts → get_or insts k d ≡ get_or insts k (get_or insts k d)
read_is insts k d within = get_or_default insts k d (get_or insts k d) within

pub more_insts_at : (insts : List Inst) (k : ℕ) (d : Inst) (old mid new : NameRow) → k < length insts →
    AreAdded (inst_ids (take k insts)) old mid → ((count : ℕ) → IsRow count mid → IsRow count new) →
    ((w : ℕ) → has_name new w ≡ (is_in w (inst_ids (get_or insts k d ∷ [])) || has_name mid w)) → AreAdded (inst_ids (take (k + 1) insts)) old new
more_insts_at insts k d old mid new within a row added =
    more_insts insts k (get_or insts k d) old mid new within (read_is insts k d within) a row added

pub inst_at_in_range : (insts : List Inst) (k : ℕ) (d : Inst) (ids : List ℕ) (old mid : NameRow) → k < length insts →
    IsRow old.names old → AreAdded ids old mid → All (λ v. v < old.names) (inst_ids insts) → All (λ v. v < mid.names) (inst_ids (get_or insts k d ∷ []))
inst_at_in_range insts k d ids old mid within r a all =
    inst_in_range insts k (get_or insts k d) ids old mid within (read_is insts k d within) r a all

pub insts_in_range : (phis insts : List ℕ) (count now : ℕ) → now ≡ count → All (λ v. v < count) (phis ++ insts) → All (λ v. v < now) insts
insts_in_range phis insts count now e all = subst (λ n. All (λ v. v < n) insts) (sym e) (all_right (λ v. v < count) phis insts all)

pub phis_in_range : (phis insts : List ℕ) (count : ℕ) → All (λ v. v < count) (phis ++ insts) → All (λ v. v < count) phis
phis_in_range phis insts count all = all_left (λ v. v < count) phis insts all
