-- Where the result of an instruction is defined on every walk, the names that it uses are.
use Rattle.std.proofs.Common.{◌≡◌, ℕ, zero, suc, ◌≤◌, true, List, [], ◌∷◌, ◌++◌, map, take, Option, Some, None, slice_get, sym, ap, ◌∙◌, subst, arith, inl, inr}
use Rattle.std.specs.List.{list_any, cons_option}
use Rattle.vfa_ir.specs.declared.operations.ValueId.{ValueId}
use Rattle.vfa_ir.specs.declared.functions.Block.{Block}
use Rattle.vfa_ir.specs.declared.functions.Function.{Function}
use Rattle.vfa_ir.specs.declared.functions.Inst.{Inst}
use Rattle.vfa_ir.specs.declared.functions.Phi.{Phi}
use Rattle.vfa_ir.specs.Defined.{Defined, op_names, line_count}
use Rattle.vfa_ir.specs.Printable.{inst_ids}
use Rattle.vfa_ir.specs.Walks.{IsWalk, IsDefinedAt, is_in, is_parameter, results_in, results_before, defined_over}
use Rattle.vfa_mean.specs.FreshOperands.{DefinesOnce, IsDefinedAtPlace, IsResultAt}
use Rattle.vfa_mean.specs.Moments.{Place, Into, At}
use Rattle.vfa_mean.proofs.FreshOperands.Definitions.{or_cases, or_left, or_right, in_left, in_right, in_cases, in_first, in_rest, first_or_rest, results_to_end, IsDefinition, line_definition}
use Rattle.vfa_mean.proofs.FreshOperands.Walking.{use_is_defined}

-- ---- results of more instructions

id_in : Option ValueId → Option ℕ
id_in o = elim o [ None ↦ None | Some v ↦ Some v.0 ]

in_more : (o : Option ℕ) (x : ℕ) (xs ys : List ℕ) → (is_in x xs ≡ true → is_in x ys ≡ true) → is_in x (cons_option o xs) ≡ true → is_in x (cons_option o ys) ≡ true
in_more None x xs ys h t = h t
in_more (Some y) x xs ys h t = elim (first_or_rest x y xs t) [ inl e ↦ in_first x y ys e | inr u ↦ in_rest x y ys (h u) ]

in_later : (insts : List Inst) (i n x : ℕ) → i ≤ n → is_in x (inst_ids (take i insts)) ≡ true → is_in x (inst_ids (take n insts)) ≡ true
in_later insts zero n x l t = absurd (cc)
in_later insts (suc i) zero x l t = absurd (omega arith)
in_later [] (suc i) (suc n) x l t = absurd (cc)
in_later (j ∷ insts) (suc i) (suc n) x l t =
    in_more (elim j.result [ None ↦ None | Some v ↦ Some v.0 ]) x (inst_ids (take i insts)) (inst_ids (take n insts))
    (λ u. in_later insts i n x (omega arith) u) t

before_later : (f : Function) (b i n x : ℕ) → i ≤ n → is_in x (results_before f b i) ≡ true → is_in x (results_before f b n) ≡ true
before_later f b i n x l t = by (slice_get f.blocks b) t
  where
    by : (o : Option Block) → is_in x (elim o [ None ↦ [] | Some block ↦ map (λ (p : Phi). p.result.0) block.phis ++ inst_ids (take i block.insts) ]) ≡ true →
        is_in x (elim o [ None ↦ [] | Some block ↦ map (λ (p : Phi). p.result.0) block.phis ++ inst_ids (take n block.insts) ]) ≡ true
    by None t = absurd (cc)
    by (Some block) t =
        let phis = map (λ (p : Phi). p.result.0) block.phis in
        elim (in_cases x phis (inst_ids (take i block.insts)) t) [
          | inl u ↦ in_left x phis (inst_ids (take n block.insts)) u
          | inr u ↦ in_right x phis (inst_ids (take n block.insts)) (in_later block.insts i n x l u)
        ]

module _ (f : Function) (b i x : ℕ) (v : ℕ) (definition : IsDefinition f v b (suc i)) (used : IsDefinedAt f b i x) where
  over_more : (c : ℕ) (rest : List ℕ) → defined_over f rest x ≡ true → defined_over f (c ∷ rest) x ≡ true
  over_more c rest h = elim (or_cases (is_parameter f x) (list_any (λ d. is_in x (results_in f d)) rest) h) [
    | inl p ↦ or_left (is_parameter f x) _ p
    | inr t ↦ or_right (is_parameter f x) _ (or_right (is_in x (results_in f c)) _ t)
  ]

  -- the walk has passed the block of the instruction
  over_passed : (c : ℕ) (passed : List ℕ) → IsWalk f (c ∷ passed) → list_any (λ d. is_in v (results_in f d)) passed ≡ true → defined_over f passed x ≡ true
  over_passed c [] walk h = absurd (cc)
  over_passed c (d ∷ rest) walk h = elim (or_cases (is_in v (results_in f d)) (list_any (λ e. is_in v (results_in f e)) rest) h) [
    | inr t ↦ over_more d rest (over_passed d rest walk.1 t)
    | inl t ↦
        let at_end : is_in v (results_before f d (line_count f d)) ≡ true = ap (is_in v) (results_to_end f d) ∙ t in
        let place = definition.only d (line_count f d) at_end in
        let walk_b : IsWalk f (b ∷ rest) = subst (λ e. IsWalk f (e ∷ rest)) place.0 walk.1 in
        elim (or_cases (defined_over f rest x) (is_in x (results_before f b i)) (used rest walk_b)) [
          | inl o ↦ over_more d rest o
          | inr u ↦
              let in_d : is_in x (results_before f d i) ≡ true = subst (λ e. is_in x (results_before f e i) ≡ true) (sym place.0) u in
              let end : is_in x (results_before f d (line_count f d)) ≡ true = before_later f d i (line_count f d) x (let l = place.1 in omega arith) in_d in
              or_right (is_parameter f x) _ (or_left (is_in x (results_in f d)) _ (sym (ap (is_in x) (results_to_end f d)) ∙ end))
        ]
  ]

  still_at : (c n : ℕ) → IsDefinedAt f c n v → IsDefinedAt f c n x
  still_at c n live passed walk = elim (or_cases (defined_over f passed v) (is_in v (results_before f c n)) (live passed walk)) [
    | inl o ↦ elim (or_cases (is_parameter f v) (list_any (λ d. is_in v (results_in f d)) passed) o) [
      | inl p ↦ absurd (definition.result p)
      | inr t ↦ or_left (defined_over f passed x) _ (over_passed c passed walk t)
    ]
    | inr t ↦
        let place = definition.only c n t in
        elim (or_cases (defined_over f passed x) (is_in x (results_before f b i)) (used passed (subst (λ e. IsWalk f (e ∷ passed)) place.0 walk))) [
          | inl o ↦ or_left (defined_over f passed x) _ o
          | inr u ↦ or_right (defined_over f passed x) _
              (before_later f c i n x (let l = place.1 in omega arith) (subst (λ e. is_in x (results_before f e i) ≡ true) (sym place.0) u))
        ]
  ]

pub still_defined : (f : Function) (b i : ℕ) (inst : Inst) (v : ValueId) (place : Place) (x : ℕ) → DefinesOnce f → Defined f → IsResultAt f b i inst v →
    is_in x (op_names f inst.op) ≡ true → IsDefinedAtPlace f place v.0 → IsDefinedAtPlace f place x
still_defined f b i inst v place x once defined own used live = by place live
  where
    definition : IsDefinition f v.0 b (suc i)
    definition = line_definition f b own.block i inst v once own.line own.result

    before : IsDefinedAt f b i x
    before = use_is_defined f b own.block i inst x defined own.line used

    by : (p : Place) → IsDefinedAtPlace f p v.0 → IsDefinedAtPlace f p x
    by (Into None c) live = absurd (definition.result live)
    by (Into (Some p) c) live = still_at f b i x v.0 definition before p (line_count f p) live
    by (At c n) live = still_at f b i x v.0 definition before c n live
