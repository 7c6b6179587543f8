-- Where the result of an instruction is defined on every walk, so are the names that the instruction uses.
use Rattle.std.proofs.Common.{◌≡◌, ℕ, zero, suc, ◌≤◌, true, ◌||◌, Option, Some, None, List, [], ◌∷◌, ◌++◌, map, take, slice_get, sym, ap, ◌∙◌, subst, inl, inr, arith}
use Rattle.std.specs.List.{list_any, cons_option}
use Rattle.vfa_ir.specs.declared.operations.ValueId.{ValueId}
use Rattle.vfa_ir.specs.declared.functions.Block.{Block}
use Rattle.vfa_ir.specs.declared.functions.Function.{Function}
use Rattle.vfa_ir.specs.declared.functions.Inst.{Inst}
use Rattle.vfa_ir.specs.declared.functions.Phi.{Phi}
use Rattle.vfa_ir.specs.Defined.{Defined, op_names, line_count}
use Rattle.vfa_ir.specs.Printable.{inst_ids, block_ids}
use Rattle.vfa_ir.specs.Walks.{IsWalk, IsDefinedAt, is_in, is_parameter, results_in, results_before, defined_over}
use Rattle.vfa_mean.specs.FreshOperands.{DefinesOnce, IsDefinedAtPlace}
use Rattle.vfa_mean.specs.Moments.{Place, Into, At, IsLine}
use Rattle.vfa_mean.proofs.FreshOperands.Definitions.{or_cases, or_left, or_right, in_left, in_right, in_cases, first_or_rest, in_first, in_rest, results_to_end, IsDefinition, line_definition}
use Rattle.vfa_mean.proofs.FreshOperands.Walking.{use_is_defined}

-- ---- results before a line

abbrev id_of : Inst → Option ℕ
id_of i = elim i.result [ None ↦ None | Some v ↦ Some v.0 ]

in_more : (o : Option ℕ) (x : ℕ) (few many : List ℕ) → (is_in x few ≡ true → is_in x many ≡ true) → is_in x (cons_option o few) ≡ true →
    is_in x (cons_option o many) ≡ true
in_more None x few many h t = h t
in_more (Some y) x few many h t = elim (first_or_rest x y few t) [ inl e ↦ in_first x y many e | inr r ↦ in_rest x y many (h r) ]

more_lines : (insts : List Inst) (n k x : ℕ) → n ≤ k → is_in x (inst_ids (take n insts)) ≡ true → is_in x (inst_ids (take k insts)) ≡ true
more_lines insts zero k x l t = absurd (cc)
more_lines [] (suc n) k x l t = absurd (cc)
more_lines (i ∷ insts) (suc n) zero x l t = absurd (omega (arith, l))
more_lines (i ∷ insts) (suc n) (suc k) x l t =
    in_more (id_of i) x (inst_ids (take n insts)) (inst_ids (take k insts)) (more_lines insts n k x (omega (arith, l))) t

all_lines : (insts : List Inst) (n x : ℕ) → is_in x (inst_ids (take n insts)) ≡ true → is_in x (inst_ids insts) ≡ true
all_lines insts zero x t = absurd (cc)
all_lines [] (suc n) x t = absurd (cc)
all_lines (i ∷ insts) (suc n) x t = in_more (id_of i) x (inst_ids (take n insts)) (inst_ids insts) (all_lines insts n x) t

abbrev phi_ids : Block → List ℕ
phi_ids block = map (λ (p : Phi). p.result.0) block.phis

pub before_more : (f : Function) (b n k x : ℕ) → n ≤ k → is_in x (results_before f b n) ≡ true → is_in x (results_before f b k) ≡ true
before_more f b n k x l = by (slice_get f.blocks b)
  where
    by : (o : Option Block) → is_in x (elim o [ None ↦ [] | Some block ↦ phi_ids block ++ inst_ids (take n block.insts) ]) ≡ true →
        is_in x (elim o [ None ↦ [] | Some block ↦ phi_ids block ++ inst_ids (take k block.insts) ]) ≡ true
    by None t = t
    by (Some block) t = elim (in_cases x (phi_ids block) (inst_ids (take n block.insts)) t) [
      | inl p ↦ in_left x (phi_ids block) (inst_ids (take k block.insts)) p
      | inr r ↦ in_right x (phi_ids block) (inst_ids (take k block.insts)) (more_lines block.insts n k x l r)
    ]

pub before_end : (f : Function) (b n x : ℕ) → is_in x (results_before f b n) ≡ true → is_in x (results_in f b) ≡ true
before_end f b n x = by (slice_get f.blocks b)
  where
    by : (o : Option Block) → is_in x (elim o [ None ↦ [] | Some block ↦ phi_ids block ++ inst_ids (take n block.insts) ]) ≡ true →
        is_in x (elim o [ None ↦ [] | Some block ↦ block_ids block ]) ≡ true
    by None t = t
    by (Some block) t = elim (in_cases x (phi_ids block) (inst_ids (take n block.insts)) t) [
      | inl p ↦ in_left x (phi_ids block) (inst_ids block.insts) p
      | inr r ↦ in_right x (phi_ids block) (inst_ids block.insts) (all_lines block.insts n x r)
    ]

-- a name that is defined over some blocks is defined over more of them
pub passed_more : (f : Function) (c : ℕ) (passed : List ℕ) (x : ℕ) → defined_over f passed x ≡ true → defined_over f (c ∷ passed) x ≡ true
passed_more f c passed x t =
    let here = is_in x (results_in f c) in
    let earlier = list_any (λ d. is_in x (results_in f d)) passed in
    elim (or_cases (is_parameter f x) earlier t) [
      | inl p ↦ or_left (is_parameter f x) (here || earlier) p
      | inr r ↦ or_right (is_parameter f x) (here || earlier) (or_right here earlier r)
    ]

pub passed_here : (f : Function) (c : ℕ) (passed : List ℕ) (x : ℕ) → is_in x (results_in f c) ≡ true → defined_over f (c ∷ passed) x ≡ true
passed_here f c passed x t =
    let earlier = list_any (λ d. is_in x (results_in f d)) passed in
    or_right (is_parameter f x) (is_in x (results_in f c) || earlier) (or_left (is_in x (results_in f c)) earlier t)

module _ (f : Function) (once : DefinesOnce f) (defined : Defined f) (b i : ℕ) (block : Block) (inst : Inst) (v : ValueId)
    (line : IsLine f b block i inst) (result : inst.result ≡ Some v) where
  definition : IsDefinition f v.0 b (suc i)
  definition = line_definition f b block i inst v once line result

  module _ (x : ℕ) (used : is_in x (op_names f inst.op) ≡ true) where
    live_here : IsDefinedAt f b i x
    live_here = use_is_defined f b block i inst x defined line used

    -- behind the block of the instruction
    over_passed : (c : ℕ) (passed : List ℕ) → IsWalk f (c ∷ passed) → list_any (λ d. is_in v.0 (results_in f d)) passed ≡ true → defined_over f passed x ≡ true
    over_passed c [] walk t = absurd (cc)
    over_passed c (d ∷ passed) walk t = elim (or_cases (is_in v.0 (results_in f d)) (list_any (λ d. is_in v.0 (results_in f d)) passed) t) [
      | inr r ↦ passed_more f d passed x (over_passed d passed walk.1 r)
      | inl r ↦
          let same : d ≡ b = (definition.only d (line_count f d) (ap (is_in v.0) (results_to_end f d) ∙ r)).0 in
          elim (or_cases (defined_over f passed x) (is_in x (results_before f b i)) (live_here passed (subst (λ k. IsWalk f (k ∷ passed)) same walk.1))) [
            | inl o ↦ passed_more f d passed x o
            | inr h ↦ passed_here f d passed x (subst (λ k. is_in x (results_in f k) ≡ true) (sym same) (before_end f b i x h))
          ]
    ]

    live_at : (c m : ℕ) → IsDefinedAt f c m v.0 → IsDefinedAt f c m x
    live_at c m live passed walk = elim (or_cases (defined_over f passed v.0) (is_in v.0 (results_before f c m)) (live passed walk)) [
      | inl o ↦ elim (or_cases (is_parameter f v.0) (list_any (λ d. is_in v.0 (results_in f d)) passed) o) [
        | inl p ↦ absurd (definition.result p)
        | inr r ↦ or_left (defined_over f passed x) (is_in x (results_before f c m)) (over_passed c passed walk r)
      ]
      | inr h ↦
          let place = definition.only c m h in
          let to_b = subst (λ k. IsWalk f (k ∷ passed)) place.0 walk in
          elim (or_cases (defined_over f passed x) (is_in x (results_before f b i)) (live_here passed to_b)) [
            | inl o ↦ or_left (defined_over f passed x) (is_in x (results_before f c m)) o
            | inr r ↦
                let more : is_in x (results_before f b m) ≡ true = before_more f b i m x (let l = place.1 in omega (arith, l)) r in
                or_right (defined_over f passed x) (is_in x (results_before f c m)) (subst (λ k. is_in x (results_before f k m) ≡ true) (sym place.0) more)
          ]
    ]

    pub operand_is_live : (place : Place) → IsDefinedAtPlace f place v.0 → IsDefinedAtPlace f place x
    operand_is_live (At c m) live = live_at c m live
    operand_is_live (Into (Some p) c) live = live_at p (line_count f p) live
    operand_is_live (Into None c) live = absurd (definition.result live)
