-- On every walk over what is left names are defined before they are used.
use Rattle.std.proofs.Common.{◌≡◌, ℕ, zero, suc, ◌+◌, ◌≤◌, Bool, true, false, Option, Some, None, List, [], ◌∷◌, ◌++◌, map, flat_map, slice_get, length, take, add-one, refl, sym, ◌∙◌, ap, subst, arith, inl, inr, ◌⊎◌, take_all, le_refl}
use Rattle.std.specs.List.{AllByRecursion, cons_option, list_any}
use Rattle.std.proofs.lemmas.List.Elements.{All-from_recursion}
use Rattle.std.proofs.lemmas.Option.{same_Some}
use Rattle.vfa_ir.specs.declared.operations.BlockId.{BlockId}
use Rattle.vfa_ir.specs.declared.operations.Bin.{Bin}
use Rattle.vfa_ir.specs.declared.operations.Cast.{Cast}
use Rattle.vfa_ir.specs.declared.operations.Flags.{Flags}
use Rattle.vfa_ir.specs.declared.operations.Op.{Op}
use Rattle.vfa_ir.specs.declared.operations.Operand.{Operand}
use Rattle.vfa_ir.specs.declared.operations.ValueId.{ValueId}
use Rattle.vfa_ir.specs.declared.functions.Block.{Block}
use Rattle.vfa_ir.specs.declared.functions.Function.{Function}
use Rattle.vfa_ir.specs.declared.functions.Inst.{Inst}
use Rattle.vfa_ir.specs.declared.functions.Phi.{Phi}
use Rattle.vfa_ir.specs.Defined.{Defined, NameUse, UseIsDefined, op_names, operand_names, term_names, uses_at, uses_from, block_uses, phi_uses, inst_uses, line_count}
use Rattle.vfa_ir.specs.Operands.{no_cast_flags}
use Rattle.vfa_ir.specs.Printable.{block_ids, inst_ids}
use Rattle.vfa_ir.specs.Walks.{IsWalk, IsDefinedAt, is_in, is_parameter, results_in, results_before, defined_over}
use Rattle.vfa_mean.specs.Moments.{Into}
use Rattle.vfa_mean.proofs.FreshOperands.Definitions.{or_cases, or_left, or_right, in_left, in_right, in_cases, in_first, in_rest, first_or_rest}
use Rattle.vfa_rewrite.specs.Findings.{Findings}
use Rattle.vfa_rewrite.specs.Marks.{IsLeftLine, by_end, by_phi, ResultIsKept}
use Rattle.vfa_rewrite.specs.Rewritten.{Marks, with_numbers, if_left, line_of, name_of, truncation, truncated_operand, narrowed, changed, if_stays, if_met, lines_left, term_left, kept_phis, phis_if_met, phis_left, phi_left, entries_left, edges_of, rewritten_block, emptied, if_block_left, block_left, rewritten}
use Rattle.vfa_rewrite.proofs.BlocksLeft.{from_get, all_both, picked_both, all_met_phis, left_line}
use Rattle.vfa_rewrite.proofs.EdgesLeft.{edge_left, is_edge_left, block_at, reached_block, same_walk, met_earlier, count_of}
use Rattle.vfa_rewrite.proofs.Left.{head_from, rest_from, all_from}
use Rattle.vfa_rewrite.proofs.LeftLines.{Known, Form, one, division, form, marked}
use Rattle.vfa_rewrite.proofs.LeftParts.{lines_give}
use Rattle.vfa_rewrite.proofs.LiveOperands.{before_more}
use Rattle.vfa_rewrite.proofs.PhisLeft.{get_within, entry_from_left, entry_left_usable}
use Rattle.vfa_rewrite.proofs.PutOperands.{name_defined}
use Rattle.vfa_rewrite.proofs.TermsLeft.{term_names_usable}

-- ---- lists

pub split_left : {A : Type 0} (P : A → Type 0) (xs ys : List A) → AllByRecursion P (xs ++ ys) → AllByRecursion P xs
split_left P [] ys h = tt
split_left P (x ∷ xs) ys h = (h.0, split_left P xs ys h.1)

pub split_right : {A : Type 0} (P : A → Type 0) (xs ys : List A) → AllByRecursion P (xs ++ ys) → AllByRecursion P ys
split_right P [] ys h = h
split_right P (x ∷ xs) ys h = split_right P xs ys h.1

grouped : {A : Type 0} (a b c : List A) → (a ++ b) ++ c ≡ a ++ (b ++ c)
grouped [] b c = refl
grouped (x ∷ a) b c = ap (λ rest. x ∷ rest) (grouped a b c)

none_behind : {A : Type 0} (a : List A) → a ≡ a ++ []
none_behind [] = refl
none_behind (x ∷ a) = ap (λ rest. x ∷ rest) (none_behind a)

both_length : {A : Type 0} (a b : List A) → length (a ++ b) ≡ length a + length b
both_length [] b = omega arith
both_length (x ∷ a) b = let e = both_length a b in omega (arith, e)

take_front : {A : Type 0} (a b : List A) → take (length a) (a ++ b) ≡ a
take_front [] [] = refl
take_front [] (x ∷ b) = refl
take_front (x ∷ a) b = ap (λ rest. x ∷ rest) (take_front a b)

flat_all : {A : Type 0} (P : NameUse → Type 0) (h : A → List NameUse) (xs : List A) → AllByRecursion (λ (x : A). AllByRecursion P (h x)) xs → AllByRecursion P (flat_map h xs)
flat_all P h [] all = tt
flat_all P h (x ∷ xs) all = all_both P (h x) (flat_map h xs) all.0 (flat_all P h xs all.1)

uses_named : (P : NameUse → Type 0) (b n : ℕ) (names : List ℕ) → ((x : ℕ) → is_in x names ≡ true → P (record { name = x; block = b; line = n })) → AllByRecursion P (uses_at b n names)
uses_named P b n [] h = tt
uses_named P b n (x ∷ names) h = (h x (in_first x x names refl), uses_named P b n names (λ y t. h y (in_rest y x names t)))

uses_both : (P : NameUse → Type 0) (g : Function) (b n k : ℕ) (xs ys : List Inst) → k ≡ n + length xs → AllByRecursion P (inst_uses g b n xs) → AllByRecursion P (inst_uses g b k ys) →
    AllByRecursion P (inst_uses g b n (xs ++ ys))
uses_both P g b n k [] ys e h t = let same : k ≡ n = omega (arith, e) in subst (λ j. AllByRecursion P (inst_uses g b j ys)) same t
uses_both P g b n k (x ∷ xs) ys e h t =
    all_both P (uses_at b n (op_names g x.op)) (inst_uses g b (n + 1) (xs ++ ys)) (split_left P (uses_at b n (op_names g x.op)) (inst_uses g b (n + 1) xs) h)
    (uses_both P g b (n + 1) k xs ys (omega (arith, e)) (split_right P (uses_at b n (op_names g x.op)) (inst_uses g b (n + 1) xs) h) t)

-- ---- results

abbrev id_of : Inst → Option ℕ
id_of i = elim i.result [ None ↦ None | Some v ↦ Some v.0 ]

in_option : (o : Option ℕ) (x : ℕ) (xs : List ℕ) → is_in x xs ≡ true → is_in x (cons_option o xs) ≡ true
in_option None x xs t = t
in_option (Some y) x xs t = in_rest x y xs t

-- the result of the first instruction, or of one behind it
result_cases : (r : Option ValueId) (x : ℕ) (ids : List ℕ) → is_in x (cons_option (elim r [ None ↦ None | Some v ↦ Some v.0 ]) ids) ≡ true →
    ((v : ValueId) × (r ≡ Some v) × (v.0 ≡ x)) ⊎ (is_in x ids ≡ true)
result_cases None x ids t = inr t
result_cases (Some v) x ids t = elim (first_or_rest x v.0 ids t) [ inl e ↦ inl (v, refl, sym e) | inr r ↦ inr r ]

-- a result of the first i + 1 instructions is one of the first i, or that of instruction i
one_more : (insts : List Inst) (i : ℕ) (inst : Inst) (x : ℕ) → slice_get insts i ≡ Some inst → is_in x (inst_ids (take (suc i) insts)) ≡ true →
    ((v : ValueId) × (inst.result ≡ Some v) × (v.0 ≡ x)) ⊎ (is_in x (inst_ids (take i insts)) ≡ true)
one_more [] i inst x at t = absurd (cc)
one_more (j ∷ insts) zero inst x at t = subst (λ (k : Inst). ((v : ValueId) × (k.result ≡ Some v) × (v.0 ≡ x)) ⊎ (is_in x [] ≡ true)) (same_Some j inst at) (result_cases j.result x [] t)
one_more (j ∷ insts) (suc i) inst x at t = elim (result_cases j.result x (inst_ids (take (suc i) insts)) t) [
  | inl r ↦ inr (subst (λ o. is_in x (cons_option (elim o [ None ↦ None | Some v ↦ Some v.0 ]) (inst_ids (take i insts))) ≡ true) (sym r.1) (in_first x r.0.0 (inst_ids (take i insts)) (sym r.2)))
  | inr later ↦ elim (one_more insts i inst x at later) [
    | inl r ↦ inl r
    | inr u ↦ inr (in_option (id_of j) x (inst_ids (take i insts)) u)
  ]
]

-- the result of a line is among those of the lines up to it
made_by : (pre : List Inst) (line : Inst) (post : List Inst) (k : ℕ) (v : ValueId) → line.result ≡ Some v → suc (length pre) ≤ k → is_in v.0 (inst_ids (take k (pre ++ (line ∷ post)))) ≡ true
made_by pre line post zero v r l = absurd (omega (arith, l))
made_by [] line post (suc k) v r l =
    subst (λ o. is_in v.0 (cons_option (elim o [ None ↦ None | Some u ↦ Some u.0 ]) (inst_ids (take k post))) ≡ true) (sym r) (in_first v.0 v.0 (inst_ids (take k post)) refl)
made_by (j ∷ pre) line post (suc k) v r l = in_option (id_of j) v.0 (inst_ids (take k (pre ++ (line ∷ post)))) (made_by pre line post k v r (omega (arith, l)))

abbrev phi_ids : List Phi → List ℕ
phi_ids phis = map (λ (p : Phi). p.result.0) phis

module _ (f : Function) (found : Findings) (m : Marks) (known : Known f found m) where
  -- a use in a block that is left, of a name that is defined on every walk to it
  abbrev IsUse : NameUse → Type 0
  IsUse u = IsDefinedAt (rewritten f m) u.block u.line u.name × (m.reached u.block ≡ true)

  module _ (b : ℕ) (block : Block) (there : slice_get f.blocks b ≡ Some block) (reached : m.reached b ≡ true) where
    left_there : slice_get (rewritten f m).blocks b ≡ Some (rewritten_block f m b block)
    left_there = block_at f m b block there ∙ ap Some (reached_block f m b block reached)

    pub left_count : line_count (rewritten f m) b ≡ length (lines_left m b 0 block.insts)
    left_count = ap lines_in left_there
      where
        lines_in : Option Block → ℕ
        lines_in o = elim o [ None ↦ 0 | Some c ↦ length c.insts ]

    -- ---- names that are kept are still defined

    phi_stays : (phis : List Phi) (x : ℕ) → m.keeps x ≡ true → is_in x (map (λ (p : Phi). p.result.0) phis) ≡ true → is_in x (map (λ (p : Phi). p.result.0) (kept_phis f m b phis)) ≡ true
    phi_stays [] x kept t = t
    phi_stays (phi ∷ rest) x kept t = by (m.keeps phi.result.0) refl (phi_stays rest x kept)
      where
        by : (s : Bool) → m.keeps phi.result.0 ≡ s → (is_in x (phi_ids rest) ≡ true → is_in x (phi_ids (kept_phis f m b rest)) ≡ true) →
            is_in x (map (λ (p : Phi). p.result.0) (if_left s (phi_left f m b phi) (kept_phis f m b rest))) ≡ true
        by true k again = elim (first_or_rest x phi.result.0 (phi_ids rest) t) [
          | inl e ↦ in_first x phi.result.0 (phi_ids (kept_phis f m b rest)) e
          | inr r ↦ in_rest x phi.result.0 (phi_ids (kept_phis f m b rest)) (again r)
        ]
        by false k again = elim (first_or_rest x phi.result.0 (phi_ids rest) t) [
          | inl e ↦ absurd (let same : m.keeps x ≡ m.keeps phi.result.0 = ap m.keeps e in cc)
          | inr r ↦ again r
        ]

    met_phi_stays : (x : ℕ) → m.met b 0 ≡ true → m.keeps x ≡ true → is_in x (map (λ (p : Phi). p.result.0) block.phis) ≡ true → is_in x (map (λ (p : Phi). p.result.0) (phis_left f m b block.phis)) ≡ true
    met_phi_stays x met kept t = subst (λ s. is_in x (map (λ (p : Phi). p.result.0) (phis_if_met s (kept_phis f m b block.phis))) ≡ true) (sym met) (phi_stays block.phis x kept t)

    -- an instruction whose name is kept stays, and gives it
    line_stays : (i : ℕ) (inst : Inst) (left : IsLeftLine f m b block i inst) (v : ValueId) → inst.result ≡ Some v → m.keeps v.0 ≡ true → m.stays b i ≡ true
    line_stays i inst left v r kept = (marked f found m known b block i inst left).stays.1 (inr (subst (ResultIsKept m) (sym r) kept))

    line_gives : (i : ℕ) (inst : Inst) (left : IsLeftLine f m b block i inst) (v : ValueId) → inst.result ≡ Some v → m.keeps v.0 ≡ true → is_in v.0 (inst_ids (changed m b i inst)) ≡ true
    line_gives i inst left v r kept =
        lines_give f found m known b block i inst left (changed m b i inst) (form f found m known b block i inst left (line_stays i inst left v r kept)) v r

    module _ (end_met : m.met b (length block.insts) ≡ true) where
      ids_stay : (rest : List Inst) (n : ℕ) → ((j : ℕ) (inst : Inst) → slice_get rest j ≡ Some inst → slice_get block.insts (n + j) ≡ Some inst) → (x : ℕ) → m.keeps x ≡ true →
          is_in x (inst_ids rest) ≡ true → is_in x (inst_ids (lines_left m b n rest)) ≡ true
      ids_stay [] n from x kept t = t
      ids_stay (inst ∷ rest) n from x kept t =
          let below = get_within block.insts n inst (head_from block.insts inst rest n from) in
          let met = met_earlier f found m known b block (length block.insts) n there (le_refl (length block.insts)) (omega (arith, below)) end_met in
          subst (λ s. is_in x (inst_ids (if_met s (if_stays (m.stays b n) (changed m b n inst) (lines_left m b (suc n) rest)))) ≡ true) (sym met)
          (by (left_line f found m known b block there reached inst rest n from met) (ids_stay rest (suc n) (rest_from block.insts inst rest n from) x kept))
        where
          behind : (s : Bool) → is_in x (inst_ids (lines_left m b (suc n) rest)) ≡ true → is_in x (inst_ids (if_stays s (changed m b n inst) (lines_left m b (suc n) rest))) ≡ true
          behind true u = ap (is_in x) (picked_both id_of (changed m b n inst) (lines_left m b (suc n) rest)) ∙ in_right x (inst_ids (changed m b n inst)) (inst_ids (lines_left m b (suc n) rest)) u
          behind false u = u

          by : IsLeftLine f m b block n inst → (is_in x (inst_ids rest) ≡ true → is_in x (inst_ids (lines_left m b (suc n) rest)) ≡ true) →
              is_in x (inst_ids (if_stays (m.stays b n) (changed m b n inst) (lines_left m b (suc n) rest))) ≡ true
          by left again = elim (result_cases inst.result x (inst_ids rest) t) [
            | inr r ↦ behind (m.stays b n) (again r)
            | inl r ↦
                let kept' : m.keeps r.0.0 ≡ true = ap m.keeps r.2 ∙ kept in
                subst (λ s. is_in x (inst_ids (if_stays s (changed m b n inst) (lines_left m b (suc n) rest))) ≡ true) (sym (line_stays n inst left r.0 r.1 kept'))
                (ap (is_in x) (picked_both id_of (changed m b n inst) (lines_left m b (suc n) rest))
                ∙ in_left x (inst_ids (changed m b n inst)) (inst_ids (lines_left m b (suc n) rest))
                (subst (λ y. is_in y (inst_ids (changed m b n inst)) ≡ true) r.2 (line_gives n inst left r.0 r.1 kept')))
          ]

      first_met : m.met b 0 ≡ true
      first_met = met_earlier f found m known b block (length block.insts) 0 there (le_refl (length block.insts)) (omega arith) end_met

      pub results_stay : (x : ℕ) → m.keeps x ≡ true → is_in x (results_in f b) ≡ true → is_in x (results_in (rewritten f m) b) ≡ true
      results_stay x kept t =
          let old : is_in x (block_ids block) ≡ true = subst (λ o. is_in x (elim o [ None ↦ [] | Some c ↦ block_ids c ]) ≡ true) there t in
          subst (λ o. is_in x (elim o [ None ↦ [] | Some c ↦ block_ids c ]) ≡ true) (sym left_there)
          (elim (in_cases x (phi_ids block.phis) (inst_ids block.insts) old) [
            | inl p ↦ in_left x (phi_ids (phis_left f m b block.phis)) (inst_ids (lines_left m b 0 block.insts)) (met_phi_stays x first_met kept p)
            | inr l ↦ in_right x (phi_ids (phis_left f m b block.phis)) (inst_ids (lines_left m b 0 block.insts)) (ids_stay block.insts 0 (all_from block.insts) x kept l)
          ])

  -- ---- along a walk

  over_stays : (b : ℕ) (passed : List ℕ) (x : ℕ) → IsWalk (rewritten f m) (b ∷ passed) → m.keeps x ≡ true → list_any (λ c. is_in x (results_in f c)) passed ≡ true →
      list_any (λ c. is_in x (results_in (rewritten f m) c)) passed ≡ true
  over_stays b [] x walk kept t = t
  over_stays b (d ∷ rest) x walk kept t =
      let e = is_edge_left f found m known d b walk.0 in
      elim (or_cases (is_in x (results_in f d)) (list_any (λ c. is_in x (results_in f c)) rest) t) [
        | inl k ↦ or_left (is_in x (results_in (rewritten f m) d)) _ (results_stay d e.block e.there e.reached e.met x kept k)
        | inr k ↦ or_right (is_in x (results_in (rewritten f m) d)) _ (over_stays d rest x walk.1 kept k)
      ]

  defined_over_stays : (b : ℕ) (passed : List ℕ) (x : ℕ) → IsWalk (rewritten f m) (b ∷ passed) → m.keeps x ≡ true → defined_over f passed x ≡ true → defined_over (rewritten f m) passed x ≡ true
  defined_over_stays b passed x walk kept t = elim (or_cases (is_parameter f x) (list_any (λ c. is_in x (results_in f c)) passed) t) [
    | inl p ↦ or_left (is_parameter f x) _ p
    | inr r ↦ or_right (is_parameter f x) _ (over_stays b passed x walk kept r)
  ]

  later_defined : (b n k x : ℕ) → n ≤ k → IsDefinedAt (rewritten f m) b n x → IsDefinedAt (rewritten f m) b k x
  later_defined b n k x l live passed walk = elim (or_cases (defined_over (rewritten f m) passed x) (is_in x (results_before (rewritten f m) b n)) (live passed walk)) [
    | inl o ↦ or_left (defined_over (rewritten f m) passed x) _ o
    | inr t ↦ or_right (defined_over (rewritten f m) passed x) _ (before_more (rewritten f m) b n k x l t)
  ]

  module _ (b : ℕ) (block : Block) (there : slice_get f.blocks b ≡ Some block) (reached : m.reached b ≡ true) where
    abbrev before_in : ℕ → Option Block → List ℕ
    before_in n o = elim o [ None ↦ [] | Some c ↦ map (λ (p : Phi). p.result.0) c.phis ++ inst_ids (take n c.insts) ]

    before_left : (n x : ℕ) → is_in x (map (λ (p : Phi). p.result.0) (phis_left f m b block.phis) ++ inst_ids (take n (lines_left m b 0 block.insts))) ≡ true →
        is_in x (results_before (rewritten f m) b n) ≡ true
    before_left n x t = subst (λ o. is_in x (before_in n o) ≡ true) (sym (left_there b block there reached)) t

    -- behind lines that have the kept results of the first i instructions
    moved : (i : ℕ) (pre post : List Inst) (x : ℕ) → m.met b 0 ≡ true → lines_left m b 0 block.insts ≡ pre ++ post →
        ((x : ℕ) → m.keeps x ≡ true → is_in x (inst_ids (take i block.insts)) ≡ true → is_in x (inst_ids pre) ≡ true) →
        m.keeps x ≡ true → IsDefinedAt f b i x → IsDefinedAt (rewritten f m) b (length pre) x
    moved i pre post x met split has kept live passed walk =
        elim (or_cases (defined_over f passed x) (is_in x (results_before f b i)) (live passed (same_walk f found m known (b ∷ passed) walk))) [
          | inl o ↦ or_left (defined_over (rewritten f m) passed x) _ (defined_over_stays b passed x walk kept o)
          | inr t ↦
              let old : is_in x (phi_ids block.phis ++ inst_ids (take i block.insts)) ≡ true = subst (λ o. is_in x (before_in i o) ≡ true) there t in
              let front : take (length pre) (lines_left m b 0 block.insts) ≡ pre = ap (take (length pre)) split ∙ take_front pre post in
              or_right (defined_over (rewritten f m) passed x) _ (before_left (length pre) x
              (elim (in_cases x (phi_ids block.phis) (inst_ids (take i block.insts)) old) [
                | inl p ↦ in_left x (phi_ids (phis_left f m b block.phis)) _ (met_phi_stays b block there reached x met kept p)
                | inr l ↦ in_right x (phi_ids (phis_left f m b block.phis)) _ (subst (λ ls. is_in x (inst_ids ls) ≡ true) (sym front) (has x kept l))
              ]))
        ]

    made_before : (pre : List Inst) (line : Inst) (post : List Inst) (k : ℕ) (v : ValueId) → lines_left m b 0 block.insts ≡ pre ++ (line ∷ post) → line.result ≡ Some v → suc (length pre) ≤ k →
        IsDefinedAt (rewritten f m) b k v.0
    made_before pre line post k v split r l passed walk =
        or_right (defined_over (rewritten f m) passed v.0) _ (before_left k v.0
        (in_right v.0 (phi_ids (phis_left f m b block.phis)) _ (subst (λ ls. is_in v.0 (inst_ids (take k ls)) ≡ true) (sym split) (made_by pre line post k v r l))))

    -- ---- the end of the block

    pub moved_end : (x : ℕ) → m.met b (length block.insts) ≡ true → m.keeps x ≡ true → IsDefinedAt f b (length block.insts) x → IsDefinedAt (rewritten f m) b (length (lines_left m b 0 block.insts)) x
    moved_end x met kept live =
        moved (length block.insts) (lines_left m b 0 block.insts) [] x (first_met b block there reached met) (none_behind (lines_left m b 0 block.insts))
        (λ y k t. ids_stay b block there reached met block.insts 0 (all_from block.insts) y k
        (subst (λ ls. is_in y (inst_ids ls) ≡ true) (take_all (length block.insts) block.insts (le_refl (length block.insts))) t))
        kept live

    term_used : AllByRecursion IsUse (uses_at b (length (lines_left m b 0 block.insts)) (term_names (term_left m b block)))
    term_used = uses_named IsUse b (length (lines_left m b 0 block.insts)) (term_names (term_left m b block)) (λ x t.
        let live = term_names_usable f found m known b block there reached x t in (
          moved_end x live.0 ((known.marks.keeps x).1 (by_end b block x there reached t)) live.1,
          reached,
        ))

    -- ---- lines of an instruction

    module _ (i : ℕ) (inst : Inst) (left : IsLeftLine f m b block i inst) (first_met : m.met b 0 ≡ true) where
      names_used_at : (pre post : List Inst) (n : ℕ) (names : List ℕ) → lines_left m b 0 block.insts ≡ pre ++ post →
          ((x : ℕ) → m.keeps x ≡ true → is_in x (inst_ids (take i block.insts)) ≡ true → is_in x (inst_ids pre) ≡ true) → length pre ≤ n →
          ((x : ℕ) → is_in x names ≡ true → (m.keeps x ≡ true) × IsDefinedAt f b i x) → AllByRecursion IsUse (uses_at b n names)
      names_used_at pre post n names split has l live = uses_named IsUse b n names (λ x t.
          let h = live x t in (later_defined b (length pre) n x l (moved i pre post x first_met split has h.0 h.1), reached))

      one_used : (pre post : List Inst) (op : Op) → lines_left m b 0 block.insts ≡ pre ++ (line_of inst.result op ∷ post) →
          ((x : ℕ) → m.keeps x ≡ true → is_in x (inst_ids (take i block.insts)) ≡ true → is_in x (inst_ids pre) ≡ true) →
          ((x : ℕ) → is_in x (op_names (rewritten f m) op) ≡ true → (m.keeps x ≡ true) × IsDefinedAt f b i x) →
          AllByRecursion IsUse (inst_uses (rewritten f m) b (length pre) (line_of inst.result op ∷ []))
      one_used pre post op split has live =
          all_both IsUse (uses_at b (length pre) (op_names (rewritten f m) op)) [] (names_used_at pre _ (length pre) (op_names (rewritten f m) op) split has (le_refl (length pre)) live) tt

      -- an operand is truncated
      cut_used : (pre : List Inst) (w v : ℕ) (a : Operand) (name : ℕ) → AllByRecursion IsUse (uses_at b (length pre) (operand_names a)) →
          AllByRecursion IsUse (inst_uses (rewritten f m) b (length pre) (truncation w v a name))
      cut_used pre w v (Operand.Value n) name used = all_both IsUse (uses_at b (length pre) (n.0 ∷ [])) [] used tt
      cut_used pre w v (Operand.Literal c) name used = tt
      cut_used pre w v Operand.Poison name used = tt

      cut_defined : (pre post : List Inst) (w v : ℕ) (a : Operand) (name k x : ℕ) → lines_left m b 0 block.insts ≡ pre ++ (truncation w v a name ++ post) → length (pre ++ truncation w v a name) ≤ k →
          is_in x (operand_names (truncated_operand v a name)) ≡ true → IsDefinedAt (rewritten f m) b k x
      cut_defined pre post w v (Operand.Literal c) name k x split l t = absurd (cc)
      cut_defined pre post w v Operand.Poison name k x split l t = absurd (cc)
      cut_defined pre post w v (Operand.Value n) name k x split l t = elim (first_or_rest x name [] t) [
        | inr r ↦ absurd (let s : false ≡ true = r in cc)
        | inl e ↦
            let count = both_length pre (truncation w v (Operand.Value n) name) in
            subst (IsDefinedAt (rewritten f m) b k) (sym e)
            (made_before pre (line_of (Some (name_of name)) (Op.Cast Cast.Trunc no_cast_flags w v (Operand.Value n))) post k (name_of name) split refl (omega (arith, count, l)))
      ]

      division_used : (pre post : List Inst) (bin : Bin) (flags : Flags) (w v : ℕ) (x y : Operand) → lines_left m b 0 block.insts ≡ pre ++ (narrowed (m.fresh b i) v inst.result (Op.Bin bin flags w x y) ++ post) →
          ((u : ℕ) → m.keeps u ≡ true → is_in u (inst_ids (take i block.insts)) ≡ true → is_in u (inst_ids pre) ≡ true) →
          ((u : ℕ) → is_in u (operand_names x ++ operand_names y) ≡ true → (m.keeps u ≡ true) × IsDefinedAt f b i u) →
          AllByRecursion IsUse (inst_uses (rewritten f m) b (length pre) (narrowed (m.fresh b i) v inst.result (Op.Bin bin flags w x y)))
      division_used pre post bin flags w v x y split has live =
          let cut_x = truncation w v x (m.fresh b i 0) in
          let cut_y = truncation w v y (m.fresh b i 1) in
          let middle = line_of (Some (name_of (m.fresh b i 2))) (Op.Bin bin flags v (truncated_operand v x (m.fresh b i 0)) (truncated_operand v y (m.fresh b i 1))) in
          let last = line_of inst.result (Op.Cast Cast.Zext no_cast_flags v w (Operand.Value (name_of (m.fresh b i 2)))) in
          let first_split : lines_left m b 0 block.insts ≡ pre ++ (cut_x ++ ((cut_y ++ (middle ∷ (last ∷ []))) ++ post)) =
          split ∙ ap (λ ls. pre ++ ls) (grouped cut_x (cut_y ++ (middle ∷ (last ∷ []))) post) in
          let pre_y = pre ++ cut_x in
          let second_split : lines_left m b 0 block.insts ≡ pre_y ++ (cut_y ++ (middle ∷ (last ∷ post))) =
          first_split ∙ ap (λ ls. pre ++ (cut_x ++ ls)) (grouped cut_y (middle ∷ (last ∷ [])) post) ∙ sym (grouped pre cut_x (cut_y ++ (middle ∷ (last ∷ post)))) in
          let pre_middle = pre_y ++ cut_y in
          let middle_split : lines_left m b 0 block.insts ≡ pre_middle ++ (middle ∷ (last ∷ post)) = second_split ∙ sym (grouped pre_y cut_y (middle ∷ (last ∷ post))) in
          let count_y : length pre_y ≡ length pre + length cut_x = both_length pre cut_x in
          let count_middle : length pre_middle ≡ length pre_y + length cut_y = both_length pre_y cut_y in
          let middle_uses : AllByRecursion IsUse (uses_at b (length pre_middle) (op_names (rewritten f m) middle.op)) =
          uses_named IsUse b (length pre_middle) (op_names (rewritten f m) middle.op) (λ u t. (
            elim (in_cases u (operand_names (truncated_operand v x (m.fresh b i 0))) (operand_names (truncated_operand v y (m.fresh b i 1))) t) [
              | inl k ↦ cut_defined pre ((cut_y ++ (middle ∷ (last ∷ []))) ++ post) w v x (m.fresh b i 0) (length pre_middle) u first_split (omega (arith, count_middle)) k
              | inr k ↦ cut_defined pre_y (middle ∷ (last ∷ post)) w v y (m.fresh b i 1) (length pre_middle) u second_split (le_refl (length pre_middle)) k
            ],
            reached,
          )) in
          let last_uses : AllByRecursion IsUse (uses_at b (length pre_middle + 1) (m.fresh b i 2 ∷ [])) =
          uses_named IsUse b (length pre_middle + 1) (m.fresh b i 2 ∷ []) (λ u t. (
            elim (first_or_rest u (m.fresh b i 2) [] t) [
              | inl e ↦ subst (IsDefinedAt (rewritten f m) b (length pre_middle + 1)) (sym e)
                  (made_before pre_middle middle (last ∷ post) (length pre_middle + 1) (name_of (m.fresh b i 2)) middle_split refl (omega arith))
              | inr r ↦ absurd (let s : false ≡ true = r in cc)
            ],
            reached,
          )) in
          let ends : AllByRecursion IsUse (inst_uses (rewritten f m) b (length pre_middle) (middle ∷ (last ∷ []))) =
          all_both IsUse (uses_at b (length pre_middle) (op_names (rewritten f m) middle.op)) _ middle_uses (all_both IsUse (uses_at b (length pre_middle + 1) (m.fresh b i 2 ∷ [])) [] last_uses tt) in
          uses_both IsUse (rewritten f m) b (length pre) (length pre_y) cut_x (cut_y ++ (middle ∷ (last ∷ []))) count_y
          (cut_used pre w v x (m.fresh b i 0) (names_used_at pre _ (length pre) (operand_names x) split has (le_refl (length pre)) (λ u t. live u (in_left u (operand_names x) (operand_names y) t))))
          (uses_both IsUse (rewritten f m) b (length pre_y) (length pre_middle) cut_y (middle ∷ (last ∷ [])) count_middle
          (cut_used pre_y w v y (m.fresh b i 1) (names_used_at pre _ (length pre_y) (operand_names y) split has (omega (arith, count_y)) (λ u t. live u (in_right u (operand_names x) (operand_names y) t))))
          ends)

      form_used : (now : List Inst) → Form f found m known b block i inst left now → (pre post : List Inst) → lines_left m b 0 block.insts ≡ pre ++ (now ++ post) →
          ((u : ℕ) → m.keeps u ≡ true → is_in u (inst_ids (take i block.insts)) ≡ true → is_in u (inst_ids pre) ≡ true) →
          AllByRecursion IsUse (inst_uses (rewritten f m) b (length pre) now)
      form_used now (one op is) pre post split has = one_used pre post op split has is.names
      form_used now (division bin flags w v x y d) pre post split has = division_used pre post bin flags w v x y split has d.names

    -- ---- all lines

    has_more : (pre : List Inst) (i : ℕ) (inst : Inst) (left : IsLeftLine f m b block i inst) →
        ((x : ℕ) → m.keeps x ≡ true → is_in x (inst_ids (take i block.insts)) ≡ true → is_in x (inst_ids pre) ≡ true) →
        (t : Bool) → m.stays b i ≡ t → (x : ℕ) → m.keeps x ≡ true → is_in x (inst_ids (take (suc i) block.insts)) ≡ true → is_in x (inst_ids (pre ++ if_stays t (changed m b i inst) [])) ≡ true
    has_more pre i inst left has t s x kept u =
        ap (is_in x) (picked_both id_of pre (if_stays t (changed m b i inst) []))
        ∙ elim (one_more block.insts i inst x left.line.stands u) [
          | inr earlier ↦ in_left x (inst_ids pre) (inst_ids (if_stays t (changed m b i inst) [])) (has x kept earlier)
          | inl r ↦
              let kept' : m.keeps r.0.0 ≡ true = ap m.keeps r.2 ∙ kept in
              in_right x (inst_ids pre) (inst_ids (if_stays t (changed m b i inst) []))
              (subst (λ q. is_in x (inst_ids (if_stays q (changed m b i inst) [])) ≡ true) (sym (line_stays b block there reached i inst left r.0 r.1 kept') ∙ s)
              (subst (λ ls. is_in x (inst_ids ls) ≡ true) (none_behind (changed m b i inst))
              (subst (λ y. is_in y (inst_ids (changed m b i inst)) ≡ true) r.2 (line_gives b block there reached i inst left r.0 r.1 kept'))))
        ]

    now_or_not : (t : Bool) (now later : List Inst) → if_stays t now later ≡ if_stays t now [] ++ later
    now_or_not true now later = ap (λ ls. ls ++ later) (none_behind now)
    now_or_not false now later = refl

    lines_used : (rest : List Inst) (i : ℕ) (pre : List Inst) → ((j : ℕ) (inst : Inst) → slice_get rest j ≡ Some inst → slice_get block.insts (i + j) ≡ Some inst) →
        lines_left m b 0 block.insts ≡ pre ++ lines_left m b i rest →
        ((x : ℕ) → m.keeps x ≡ true → is_in x (inst_ids (take i block.insts)) ≡ true → is_in x (inst_ids pre) ≡ true) →
        AllByRecursion IsUse (inst_uses (rewritten f m) b (length pre) (lines_left m b i rest))
    lines_used [] i pre from split has = tt
    lines_used (inst ∷ rest) i pre from split has = by (m.met b i) refl split
        (λ more e h. lines_used rest (suc i) more (rest_from block.insts inst rest i from) e h)
      where
        stands : slice_get block.insts i ≡ Some inst
        stands = head_from block.insts inst rest i from

        now_used : (left : IsLeftLine f m b block i inst) (t : Bool) → m.stays b i ≡ t → lines_left m b 0 block.insts ≡ pre ++ (if_stays t (changed m b i inst) [] ++ lines_left m b (suc i) rest) →
            AllByRecursion IsUse (inst_uses (rewritten f m) b (length pre) (if_stays t (changed m b i inst) []))
        now_used left false s e = tt
        now_used left true s e =
            let within = get_within block.insts i inst stands in
            let met = met_earlier f found m known b block i 0 there (omega (arith, within)) (omega arith) left.met in
            subst (λ ls. AllByRecursion IsUse (inst_uses (rewritten f m) b (length pre) ls)) (none_behind (changed m b i inst))
            (form_used i inst left met (changed m b i inst) (form f found m known b block i inst left s) pre (lines_left m b (suc i) rest)
            (e ∙ ap (λ ls. pre ++ (ls ++ lines_left m b (suc i) rest)) (sym (none_behind (changed m b i inst)))) has)

        staying : (left : IsLeftLine f m b block i inst) (t : Bool) → m.stays b i ≡ t → lines_left m b 0 block.insts ≡ pre ++ if_stays t (changed m b i inst) (lines_left m b (suc i) rest) →
            ((more : List Inst) → lines_left m b 0 block.insts ≡ more ++ lines_left m b (suc i) rest →
            ((x : ℕ) → m.keeps x ≡ true → is_in x (inst_ids (take (suc i) block.insts)) ≡ true → is_in x (inst_ids more) ≡ true) →
            AllByRecursion IsUse (inst_uses (rewritten f m) b (length more) (lines_left m b (suc i) rest))) →
            AllByRecursion IsUse (inst_uses (rewritten f m) b (length pre) (if_stays t (changed m b i inst) (lines_left m b (suc i) rest)))
        staying left t s e again =
            let now = if_stays t (changed m b i inst) [] in
            let split' : lines_left m b 0 block.insts ≡ pre ++ (now ++ lines_left m b (suc i) rest) = e ∙ ap (λ ls. pre ++ ls) (now_or_not t (changed m b i inst) (lines_left m b (suc i) rest)) in
            subst (λ ls. AllByRecursion IsUse (inst_uses (rewritten f m) b (length pre) ls)) (sym (now_or_not t (changed m b i inst) (lines_left m b (suc i) rest)))
            (uses_both IsUse (rewritten f m) b (length pre) (length (pre ++ now)) now (lines_left m b (suc i) rest) (both_length pre now) (now_used left t s split')
            (again (pre ++ now) (split' ∙ sym (grouped pre now (lines_left m b (suc i) rest))) (has_more pre i inst left has t s)))

        by : (t : Bool) → m.met b i ≡ t → lines_left m b 0 block.insts ≡ pre ++ if_met t (if_stays (m.stays b i) (changed m b i inst) (lines_left m b (suc i) rest)) →
            ((more : List Inst) → lines_left m b 0 block.insts ≡ more ++ lines_left m b (suc i) rest →
            ((x : ℕ) → m.keeps x ≡ true → is_in x (inst_ids (take (suc i) block.insts)) ≡ true → is_in x (inst_ids more) ≡ true) →
            AllByRecursion IsUse (inst_uses (rewritten f m) b (length more) (lines_left m b (suc i) rest))) →
            AllByRecursion IsUse (inst_uses (rewritten f m) b (length pre) (if_met t (if_stays (m.stays b i) (changed m b i inst) (lines_left m b (suc i) rest))))
        by false met e again = tt
        by true met e again = staying (left_line f found m known b block there reached inst rest i from met) (m.stays b i) refl e again

  -- ---- phis and blocks

  entry_used : (b : ℕ) (block : Block) (there : slice_get f.blocks b ≡ Some block) (reached : m.reached b ≡ true) (met : m.met b 0 ≡ true) (j : ℕ) (phi : Phi) (stands : slice_get block.phis j ≡ Some phi)
      (kept : m.keeps phi.result.0 ≡ true) (k : ℕ) (e : Operand × BlockId) → slice_get phi.entries k ≡ Some e → (edges_of f m b e.1.0 ≡ 0 → ⊥) →
      AllByRecursion IsUse (uses_at e.1.0 (line_count (rewritten f m) e.1.0) (operand_names (m.put (Into (Some e.1.0) b) e.0)))
  entry_used b block there reached met j phi stands kept k e at entered =
      let edge = edge_left f found m known e.1.0 b entered in
      let put = m.put (Into (Some e.1.0) b) e.0 in
      uses_named IsUse e.1.0 (line_count (rewritten f m) e.1.0) (operand_names put) (λ x t.
      let is_kept : m.keeps x ≡ true = (known.marks.keeps x).1 (by_phi b block j phi k e x there reached met stands ((known.marks.keeps phi.result.0).0 kept) at entered t) in
      let live : IsDefinedAt f e.1.0 (line_count f e.1.0) x =
      name_defined f m (Into (Some e.1.0) b) _ put x (entry_left_usable f found m known b block there reached j phi stands k e at entered) t in (
        subst (λ n. IsDefinedAt (rewritten f m) e.1.0 n x) (sym (left_count e.1.0 edge.block edge.there edge.reached))
            (moved_end e.1.0 edge.block edge.there edge.reached x edge.met is_kept (subst (λ n. IsDefinedAt f e.1.0 n x) (count_of f found m known e.1.0 edge.block edge.there) live)),
        edge.reached,
      ))

  phi_used : (b : ℕ) (block : Block) (there : slice_get f.blocks b ≡ Some block) (reached : m.reached b ≡ true) (j : ℕ) (phi : Phi) → slice_get block.phis j ≡ Some phi →
      m.keeps phi.result.0 ≡ true → m.met b 0 ≡ true → AllByRecursion IsUse (phi_uses (rewritten f m) (phi_left f m b phi))
  phi_used b block there reached j phi stands kept met =
      flat_all IsUse (λ (e : Operand × BlockId). uses_at e.1.0 (line_count (rewritten f m) e.1.0) (operand_names e.0)) (entries_left m b phi.entries (edges_of f m b))
      (from_get (λ (e : Operand × BlockId). AllByRecursion IsUse (uses_at e.1.0 (line_count (rewritten f m) e.1.0) (operand_names e.0))) (entries_left m b phi.entries (edges_of f m b)) (λ k e' at.
      let l = entry_from_left f m b phi.entries (edges_of f m b) k e' at in
      subst (λ (e : Operand × BlockId). AllByRecursion IsUse (uses_at e.1.0 (line_count (rewritten f m) e.1.0) (operand_names e.0))) l.is
      (entry_used b block there reached met j phi stands kept l.place l.from l.there l.counted)))

  pub block_used : (b : ℕ) (block : Block) (there : slice_get f.blocks b ≡ Some block) (reached : m.reached b ≡ true) → AllByRecursion IsUse (block_uses (rewritten f m) b (rewritten_block f m b block))
  block_used b block there reached =
      all_both IsUse (flat_map (phi_uses (rewritten f m)) (phis_left f m b block.phis)) _
      (flat_all IsUse (phi_uses (rewritten f m)) (phis_left f m b block.phis)
      (all_met_phis f found m known b block there reached (λ (p : Phi). AllByRecursion IsUse (phi_uses (rewritten f m) p)) (λ j phi e k met. phi_used b block there reached j phi e k met)))
      (all_both IsUse (inst_uses (rewritten f m) b 0 (lines_left m b 0 block.insts)) _
      (lines_used b block there reached block.insts 0 [] (all_from block.insts) refl (λ x kept t. t))
      (term_used b block there reached))

  blocks_used : (blocks : List Block) (n : ℕ) → ((j : ℕ) (c : Block) → slice_get blocks j ≡ Some c → slice_get f.blocks (n + j) ≡ Some c) →
      AllByRecursion IsUse (uses_from (rewritten f m) n (with_numbers (block_left f m) n blocks))
  blocks_used [] n at = tt
  blocks_used (c ∷ blocks) n at =
      all_both IsUse (block_uses (rewritten f m) n (block_left f m n c)) _
      (by (m.reached n) refl (subst (λ k. slice_get f.blocks k ≡ Some c) (plus_zero n) (at 0 c refl)))
      (subst (λ k. AllByRecursion IsUse (uses_from (rewritten f m) k (with_numbers (block_left f m) (suc n) blocks))) (sym (add-one n))
      (blocks_used blocks (suc n) (λ j d e. subst (λ k. slice_get f.blocks k ≡ Some d) (plus_suc n j) (at (suc j) d e))))
    where
      plus_zero : (k : ℕ) → k + 0 ≡ k
      plus_zero k = omega arith

      plus_suc : (k j : ℕ) → k + suc j ≡ suc k + j
      plus_suc k j = omega arith

      by : (t : Bool) → m.reached n ≡ t → slice_get f.blocks n ≡ Some c → AllByRecursion IsUse (block_uses (rewritten f m) n (if_block_left t (rewritten_block f m n c) (emptied c)))
      by true r there = block_used n c there r
      by false r there = tt

  only_defined : (uses : List NameUse) → AllByRecursion IsUse uses → AllByRecursion (UseIsDefined (rewritten f m)) uses
  only_defined [] all = tt
  only_defined (u ∷ uses) all = (all.0.0, only_defined uses all.1)

  pub left_defined : Defined (rewritten f m)
  left_defined =
      All-from_recursion (UseIsDefined (rewritten f m)) (uses_from (rewritten f m) 0 (with_numbers (block_left f m) 0 f.blocks))
      (only_defined (uses_from (rewritten f m) 0 (with_numbers (block_left f m) 0 f.blocks))
      (blocks_used f.blocks 0 (λ j c e. let z : j ≡ 0 + j = omega arith in subst (λ k. slice_get f.blocks k ≡ Some c) z e)))
