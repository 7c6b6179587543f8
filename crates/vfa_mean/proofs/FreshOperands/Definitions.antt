-- Where a name is defined, in a function that defines each name once.
use Rattle.std.proofs.Common.{◌≡◌, ℕ, zero, suc, ◌+◌, ◌<◌, ◌≤◌, Bool, true, false, ◌||◌, nat_eq, List, [], ◌∷◌, ◌++◌, map, flat_map, take, length, Option, Some, None, refl, sym, ap, ◌∙◌, subst, inl, inr, ◌⊎◌, arith, take_all, le_refl, ne_eqb}
use Rattle.std.proofs.lemmas.Bool.{eqb-true, eq-eqb}
use Rattle.std.proofs.lemmas.List.Folds.{list_any-append}
use Rattle.std.proofs.lemmas.Option.{same_Some}
use Rattle.std.specs.List.{AllByRecursion, IsDistinct, cons_option, range_with_len, slice_get}
use Rattle.vfa_ir.specs.declared.operations.ValueId.{ValueId}
use Rattle.vfa_ir.specs.declared.functions.Block.{Block}
use Rattle.vfa_ir.specs.declared.functions.Function.{Function}
use Rattle.vfa_ir.specs.declared.functions.Inst.{Inst}
use Rattle.vfa_ir.specs.declared.functions.Phi.{Phi}
use Rattle.vfa_ir.specs.Defined.{line_count}
use Rattle.vfa_ir.specs.Printable.{inst_ids, block_ids}
use Rattle.vfa_ir.specs.Walks.{is_in, is_parameter, results_in, results_before}
use Rattle.vfa_mean.specs.FreshOperands.{DefinesOnce}
use Rattle.vfa_mean.specs.Moments.{IsLine}

-- Members of lists

pub or_cases : (a b : Bool) → (a || b) ≡ true → (a ≡ true) ⊎ (b ≡ true)
or_cases true b h = inl refl
or_cases false b h = inr h

pub or_left : (a b : Bool) → a ≡ true → (a || b) ≡ true
or_left true b h = refl
or_left false b h = absurd (cc)

pub or_right : (a b : Bool) → b ≡ true → (a || b) ≡ true
or_right true b h = refl
or_right false b h = h

pub in_left : (x : ℕ) (xs ys : List ℕ) → is_in x xs ≡ true → is_in x (xs ++ ys) ≡ true
in_left x xs ys h = list_any-append (nat_eq x) xs ys ∙ or_left (is_in x xs) (is_in x ys) h

pub in_right : (x : ℕ) (xs ys : List ℕ) → is_in x ys ≡ true → is_in x (xs ++ ys) ≡ true
in_right x xs ys h = list_any-append (nat_eq x) xs ys ∙ or_right (is_in x xs) (is_in x ys) h

pub in_cases : (x : ℕ) (xs ys : List ℕ) → is_in x (xs ++ ys) ≡ true → (is_in x xs ≡ true) ⊎ (is_in x ys ≡ true)
in_cases x xs ys h = or_cases (is_in x xs) (is_in x ys) (sym (list_any-append (nat_eq x) xs ys) ∙ h)

pub first_or_rest : (x y : ℕ) (xs : List ℕ) → is_in x (y ∷ xs) ≡ true → (x ≡ y) ⊎ (is_in x xs ≡ true)
first_or_rest x y xs h = elim (or_cases (nat_eq x y) (is_in x xs) h) [ inl e ↦ inl (eqb-true x y e) | inr e ↦ inr e ]

pub in_first : (x y : ℕ) (xs : List ℕ) → x ≡ y → is_in x (y ∷ xs) ≡ true
in_first x y xs e = or_left (nat_eq x y) (is_in x xs) (eq-eqb x y e)

pub in_rest : (x y : ℕ) (xs : List ℕ) → is_in x xs ≡ true → is_in x (y ∷ xs) ≡ true
in_rest x y xs h = or_right (nat_eq x y) (is_in x xs) h

in_option : (o : Option ℕ) (x : ℕ) (xs : List ℕ) → is_in x xs ≡ true → is_in x (cons_option o xs) ≡ true
in_option None x xs h = h
in_option (Some y) x xs h = in_rest x y xs h

is_option : (o : Option ℕ) (x : ℕ) (xs : List ℕ) → o ≡ Some x → is_in x (cons_option o xs) ≡ true
is_option None x xs e = absurd (cc)
is_option (Some y) x xs e = in_first x y xs (sym (same_Some y x e))

option_cases : (o : Option ℕ) (x : ℕ) (xs : List ℕ) → is_in x (cons_option o xs) ≡ true → (o ≡ Some x) ⊎ (is_in x xs ≡ true)
option_cases None x xs h = inr h
option_cases (Some y) x xs h = elim (first_or_rest x y xs h) [ inl e ↦ inl (ap Some (sym e)) | inr t ↦ inr t ]

-- Lists in which each number stands once

not_in : {X : Type 0} (x : ℕ) (xs : List ℕ) → AllByRecursion (λ y. nat_eq x y ≡ false) xs → is_in x xs ≡ true → X
not_in x [] d h = absurd (cc)
not_in x (y ∷ xs) d h = elim (or_cases (nat_eq x y) (is_in x xs) h) [
  | inl e ↦ absurd (let f = d.0 in cc)
  | inr t ↦ not_in x xs d.1 t
]

apart : {X : Type 0} (x : ℕ) (xs ys : List ℕ) → IsDistinct nat_eq (xs ++ ys) → is_in x xs ≡ true → is_in x ys ≡ true → X
unfolding IsDistinct
apart x [] ys d l r = absurd (cc)
apart x (z ∷ xs) ys d l r = elim (first_or_rest x z xs l) [
  | inl e ↦ not_in z (xs ++ ys) d.0 (in_right z xs ys (subst (λ y. is_in y ys ≡ true) e r))
  | inr t ↦ apart x xs ys d.1 t r
]

apart_left : (x : ℕ) (xs ys : List ℕ) → AllByRecursion (λ y. nat_eq x y ≡ false) (xs ++ ys) → AllByRecursion (λ y. nat_eq x y ≡ false) xs
apart_left x [] ys h = tt
apart_left x (y ∷ xs) ys h = (h.0, apart_left x xs ys h.1)

distinct_left : (xs ys : List ℕ) → IsDistinct nat_eq (xs ++ ys) → IsDistinct nat_eq xs
unfolding IsDistinct
distinct_left [] ys d = tt
distinct_left (x ∷ xs) ys d = (apart_left x xs ys d.0, distinct_left xs ys d.1)

distinct_right : (xs ys : List ℕ) → IsDistinct nat_eq (xs ++ ys) → IsDistinct nat_eq ys
unfolding IsDistinct
distinct_right [] ys d = d
distinct_right (x ∷ xs) ys d = distinct_right xs ys d.1

option_rest : (o : Option ℕ) (xs : List ℕ) → IsDistinct nat_eq (cons_option o xs) → IsDistinct nat_eq xs
unfolding IsDistinct
option_rest None xs d = d
option_rest (Some y) xs d = d.1

option_apart : {X : Type 0} (o : Option ℕ) (x : ℕ) (xs : List ℕ) → IsDistinct nat_eq (cons_option o xs) → o ≡ Some x → is_in x xs ≡ true → X
unfolding IsDistinct
option_apart None x xs d e h = absurd (cc)
option_apart (Some y) x xs d e h = not_in y xs d.0 (subst (λ z. is_in z xs ≡ true) (sym (same_Some y x e)) h)

apart_from_range : (x a n : ℕ) → x < a → AllByRecursion (λ y. nat_eq x y ≡ false) (range_with_len a n)
apart_from_range x a zero l = tt
apart_from_range x a (suc n) l = (ne_eqb x a (λ e. omega (arith, l, e)), apart_from_range x (a + 1) n (omega (arith, l)))

pub range_distinct : (a n : ℕ) → IsDistinct nat_eq (range_with_len a n)
unfolding IsDistinct
range_distinct a zero = tt
range_distinct a (suc n) = (apart_from_range a (a + 1) n (omega arith), range_distinct (a + 1) n)

-- Results of instructions

abbrev result_id : Option ValueId → Option ℕ
result_id r = elim r [ None ↦ None | Some v ↦ Some v.0 ]

in_lines : (insts : List Inst) (j k : ℕ) (inst : Inst) (v : ValueId) → slice_get insts j ≡ Some inst → inst.result ≡ Some v →
    suc j ≤ k → is_in v.0 (inst_ids (take k insts)) ≡ true
in_lines [] j k inst v h r l = absurd (cc)
in_lines (i ∷ insts) j zero inst v h r l = absurd (omega arith)
in_lines (i ∷ insts) zero (suc k) inst v h r l =
    is_option (result_id i.result) v.0 (inst_ids (take k insts)) (ap (λ (x : Inst). result_id x.result) (same_Some i inst h) ∙ ap result_id r)
in_lines (i ∷ insts) (suc j) (suc k) inst v h r l =
    in_option (result_id i.result) v.0 (inst_ids (take k insts)) (in_lines insts j k inst v h r (omega arith))

in_all_lines : (insts : List Inst) (k x : ℕ) → is_in x (inst_ids (take k insts)) ≡ true → is_in x (inst_ids insts) ≡ true
in_all_lines insts zero x h = absurd (cc)
in_all_lines [] (suc k) x h = h
in_all_lines (i ∷ insts) (suc k) x h = elim (option_cases (result_id i.result) x (inst_ids (take k insts)) h) [
  | inl e ↦ is_option (result_id i.result) x (inst_ids insts) e
  | inr t ↦ in_option (result_id i.result) x (inst_ids insts) (in_all_lines insts k x t)
]

line_result : (insts : List Inst) (j : ℕ) (inst : Inst) (v : ValueId) → slice_get insts j ≡ Some inst → inst.result ≡ Some v →
    is_in v.0 (inst_ids insts) ≡ true
line_result insts j inst v h r = in_all_lines insts (suc j) v.0 (in_lines insts j (suc j) inst v h r (le_refl (suc j)))

-- what is among the results of the first k instructions is defined by one of them
is_before : (insts : List Inst) (j k : ℕ) (inst : Inst) (v : ValueId) → IsDistinct nat_eq (inst_ids insts) → slice_get insts j ≡ Some inst →
    inst.result ≡ Some v → is_in v.0 (inst_ids (take k insts)) ≡ true → suc j ≤ k
is_before [] j k inst v d h r t = absurd (cc)
is_before (i ∷ insts) j zero inst v d h r t = absurd (cc)
is_before (i ∷ insts) zero (suc k) inst v d h r t = omega arith
is_before (i ∷ insts) (suc j) (suc k) inst v d h r t = elim (option_cases (result_id i.result) v.0 (inst_ids (take k insts)) t) [
  | inl e ↦ option_apart (result_id i.result) v.0 (inst_ids insts) d e (line_result insts j inst v h r)
  | inr u ↦ let l = is_before insts j k inst v (option_rest (result_id i.result) (inst_ids insts) d) h r u in omega arith
]

-- Blocks

block_distinct : (blocks : List Block) (b : ℕ) (block : Block) → slice_get blocks b ≡ Some block →
    IsDistinct nat_eq (flat_map block_ids blocks) → IsDistinct nat_eq (block_ids block)
block_distinct [] b block h d = absurd (cc)
block_distinct (c ∷ blocks) zero block h d =
    subst (λ z. IsDistinct nat_eq (block_ids z)) (same_Some c block h) (distinct_left (block_ids c) (flat_map block_ids blocks) d)
block_distinct (c ∷ blocks) (suc b) block h d = block_distinct blocks b block h (distinct_right (block_ids c) (flat_map block_ids blocks) d)

in_blocks : (blocks : List Block) (b : ℕ) (block : Block) (x : ℕ) → slice_get blocks b ≡ Some block → is_in x (block_ids block) ≡ true →
    is_in x (flat_map block_ids blocks) ≡ true
in_blocks [] b block x h t = absurd (cc)
in_blocks (c ∷ blocks) zero block x h t =
    in_left x (block_ids c) (flat_map block_ids blocks) (subst (λ z. is_in x (block_ids z) ≡ true) (sym (same_Some c block h)) t)
in_blocks (c ∷ blocks) (suc b) block x h t = in_right x (block_ids c) (flat_map block_ids blocks) (in_blocks blocks b block x h t)

same_block : (blocks : List Block) (b c : ℕ) (block other : Block) (x : ℕ) → IsDistinct nat_eq (flat_map block_ids blocks) →
    slice_get blocks b ≡ Some block → slice_get blocks c ≡ Some other → is_in x (block_ids block) ≡ true → is_in x (block_ids other) ≡ true → b ≡ c
same_block [] b c block other x d h k s t = absurd (cc)
same_block (a ∷ blocks) zero zero block other x d h k s t = refl
same_block (a ∷ blocks) zero (suc c) block other x d h k s t =
    apart x (block_ids a) (flat_map block_ids blocks) d (subst (λ z. is_in x (block_ids z) ≡ true) (sym (same_Some a block h)) s) (in_blocks blocks c other x k t)
same_block (a ∷ blocks) (suc b) zero block other x d h k s t =
    apart x (block_ids a) (flat_map block_ids blocks) d (subst (λ z. is_in x (block_ids z) ≡ true) (sym (same_Some a other k)) t) (in_blocks blocks b block x h s)
same_block (a ∷ blocks) (suc b) (suc c) block other x d h k s t =
    ap suc (same_block blocks b c block other x (distinct_right (block_ids a) (flat_map block_ids blocks) d) h k s t)

abbrev phi_ids : Block → List ℕ
phi_ids block = map (λ (p : Phi). p.result.0) block.phis

-- the results of the phis and of the first n other instructions, where the block is there
abbrev before_in : ℕ → Option Block → List ℕ
before_in n o = elim o [ None ↦ [] | Some block ↦ phi_ids block ++ inst_ids (take n block.insts) ]

results_at : (f : Function) (b n : ℕ) (block : Block) → slice_get f.blocks b ≡ Some block →
    results_before f b n ≡ phi_ids block ++ inst_ids (take n block.insts)
results_at f b n block h = ap (before_in n) h

record IsBefore (f : Function) (c k x : ℕ) : Type 0 where
  block : Block
  there : slice_get f.blocks c ≡ Some block
  stands : is_in x (phi_ids block ++ inst_ids (take k block.insts)) ≡ true

in_some_block : (f : Function) (c k x : ℕ) → is_in x (results_before f c k) ≡ true → IsBefore f c k x
in_some_block f c k x h = by (slice_get f.blocks c) refl h
  where
    by : (o : Option Block) → slice_get f.blocks c ≡ o → is_in x (before_in k o) ≡ true → IsBefore f c k x
    by None e t = absurd (cc)
    by (Some block) e t = record { block = block; there = e; stands = t }

in_whole_block : (block : Block) (k x : ℕ) → is_in x (phi_ids block ++ inst_ids (take k block.insts)) ≡ true → is_in x (block_ids block) ≡ true
in_whole_block block k x h = elim (in_cases x (phi_ids block) (inst_ids (take k block.insts)) h) [
  | inl p ↦ in_left x (phi_ids block) (inst_ids block.insts) p
  | inr t ↦ in_right x (phi_ids block) (inst_ids block.insts) (in_all_lines block.insts k x t)
]

-- the end of a block is after all of its instructions
pub results_to_end : (f : Function) (b : ℕ) → results_before f b (line_count f b) ≡ results_in f b
results_to_end f b = by (slice_get f.blocks b)
  where
    by : (o : Option Block) → before_in (elim o [ None ↦ 0 | Some block ↦ length block.insts ]) o ≡ elim o [ None ↦ [] | Some block ↦ block_ids block ]
    by None = refl
    by (Some block) = ap (λ insts. phi_ids block ++ inst_ids insts) (take_all (length block.insts) block.insts (le_refl (length block.insts)))

-- ---- the definition of a name

-- The name is defined in block b from instruction m on, there alone, and not before.
pub record IsDefinition (f : Function) (x b m : ℕ) : Type 0 where
  pub after : (k : ℕ) → m ≤ k → is_in x (results_before f b k) ≡ true
  pub only : (c k : ℕ) → is_in x (results_before f c k) ≡ true → (c ≡ b) × (m ≤ k)
  pub result : is_parameter f x ≡ true → ⊥

no_parameter : (f : Function) (b : ℕ) (block : Block) (x : ℕ) → DefinesOnce f → slice_get f.blocks b ≡ Some block →
    is_in x (block_ids block) ≡ true → is_parameter f x ≡ true → ⊥
no_parameter f b block x once h s p =
    apart x (map (λ p. p.value.0) f.params) (flat_map block_ids f.blocks) once p (in_blocks f.blocks b block x h s)

results_distinct : (f : Function) → DefinesOnce f → IsDistinct nat_eq (flat_map block_ids f.blocks)
results_distinct f once = distinct_right (map (λ p. p.value.0) f.params) (flat_map block_ids f.blocks) once

-- a phi's is before the first instruction
pub phi_definition : (f : Function) (b : ℕ) (block : Block) (x : ℕ) → DefinesOnce f → slice_get f.blocks b ≡ Some block →
    is_in x (map (λ (p : Phi). p.result.0) block.phis) ≡ true → IsDefinition f x b 0
phi_definition f b block x once h s =
    let here = in_left x (phi_ids block) (inst_ids block.insts) s in
    record {
      after = λ k l. ap (is_in x) (results_at f b k block h) ∙ in_left x (phi_ids block) (inst_ids (take k block.insts)) s;
      only = λ c k t.
          let other = in_some_block f c k x t in
          (same_block f.blocks c b other.block block x (results_distinct f once) other.there h (in_whole_block other.block k x other.stands) here, omega arith);
      result = no_parameter f b block x once h here;
    }

-- the definition of an instruction's result is just after it
pub line_definition : (f : Function) (b : ℕ) (block : Block) (j : ℕ) (inst : Inst) (v : ValueId) → DefinesOnce f → IsLine f b block j inst →
    inst.result ≡ Some v → IsDefinition f v.0 b (suc j)
line_definition f b block j inst v once line r =
    let own = block_distinct f.blocks b block line.there (results_distinct f once) in
    let result = line_result block.insts j inst v line.stands r in
    let here = in_right v.0 (phi_ids block) (inst_ids block.insts) result in
    record {
      after = λ k l.
          ap (is_in v.0) (results_at f b k block line.there)
          ∙ in_right v.0 (phi_ids block) (inst_ids (take k block.insts)) (in_lines block.insts j k inst v line.stands r l);
      only = λ c k t.
          let other = in_some_block f c k v.0 t in
          let place = same_block f.blocks c b other.block block v.0 (results_distinct f once) other.there line.there
          (in_whole_block other.block k v.0 other.stands) here in
          let same : other.block ≡ block = let e = other.there in let h = line.there in cc in
          let stands = subst (λ z. is_in v.0 (phi_ids z ++ inst_ids (take k z.insts)) ≡ true) same other.stands in (
            place,
            elim (in_cases v.0 (phi_ids block) (inst_ids (take k block.insts)) stands) [
              | inl p ↦ apart v.0 (phi_ids block) (inst_ids block.insts) own p result
              | inr u ↦ is_before block.insts j k inst v (distinct_right (phi_ids block) (inst_ids block.insts) own) line.stands r u
            ],
          );
      result = no_parameter f b block v.0 once line.there here;
    }
