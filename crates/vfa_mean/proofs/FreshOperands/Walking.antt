-- What walks say of uses and of definitions: no walk comes to the definition of an operand from where on the result is
-- always defined.
use Rattle.std.proofs.Common.{◌≡◌, ℕ, zero, suc, ◌+◌, ◌<◌, ◌≤◌, true, List, [], ◌∷◌, ◌++◌, flat_map, length, Some, slice_get, refl, sym, ap, ◌∙◌, subst, inl, inr, ◌⊎◌, arith}
use Rattle.std.proofs.lemmas.List.Elements.{recursion_from_All}
use Rattle.std.proofs.lemmas.Option.{same_Some}
use Rattle.std.specs.List.{AllByRecursion, list_any}
use Rattle.vfa_ir.specs.declared.operations.Op.{Op}
use Rattle.vfa_ir.specs.declared.operations.Operand.{Operand}
use Rattle.vfa_ir.specs.declared.functions.Block.{Block}
use Rattle.vfa_ir.specs.declared.functions.Function.{Function}
use Rattle.vfa_ir.specs.declared.functions.Inst.{Inst}
use Rattle.vfa_ir.specs.Defined.{Defined, NameUse, UseIsDefined, operand_names, op_names, term_names, uses_at, uses_from, block_uses, phi_uses, inst_uses, line_count}
use Rattle.vfa_ir.specs.Walks.{IsWalk, IsDefinedAt, is_in, is_parameter, results_in, results_before, defined_over, defined_on}
use Rattle.vfa_mean.specs.Values.{Env, operand_value}
use Rattle.vfa_mean.specs.Meaning.{operand_a, operand_b, operand_c}
use Rattle.vfa_mean.specs.Moments.{IsLine}
use Rattle.vfa_mean.specs.FreshOperands.{HaveSameOperands}
use Rattle.vfa_mean.proofs.FreshOperands.Definitions.{or_cases, in_left, in_right, first_or_rest, in_first, results_to_end, IsDefinition}

-- ---- the uses of an instruction

all_left : (P : NameUse → Type 0) (xs ys : List NameUse) → AllByRecursion P (xs ++ ys) → AllByRecursion P xs
all_left P [] ys h = tt
all_left P (x ∷ xs) ys h = (h.0, all_left P xs ys h.1)

all_right : (P : NameUse → Type 0) (xs ys : List NameUse) → AllByRecursion P (xs ++ ys) → AllByRecursion P ys
all_right P [] ys h = h
all_right P (x ∷ xs) ys h = all_right P xs ys h.1

abbrev use_of : ℕ → ℕ → ℕ → NameUse
use_of b n x = record { name = x; block = b; line = n }

named_use : (P : NameUse → Type 0) (b n : ℕ) (names : List ℕ) (x : ℕ) → AllByRecursion P (uses_at b n names) → is_in x names ≡ true → P (use_of b n x)
named_use P b n [] x h t = absurd (cc)
named_use P b n (y ∷ names) x h t = elim (first_or_rest x y names t) [
  | inl e ↦ subst (λ z. P (use_of b n z)) (sym e) h.0
  | inr u ↦ named_use P b n names x h.1 u
]

line_uses : (P : NameUse → Type 0) (f : Function) (b n m : ℕ) (insts : List Inst) (i : ℕ) (inst : Inst) → m ≡ n + i →
    AllByRecursion P (inst_uses f b n insts) → slice_get insts i ≡ Some inst → AllByRecursion P (uses_at b m (op_names f inst.op))
line_uses P f b n m [] i inst e h s = absurd (cc)
line_uses P f b n m (j ∷ insts) zero inst e h s =
    let here = all_left P (uses_at b n (op_names f j.op)) (inst_uses f b (n + 1) insts) h in
    let same : m ≡ n = omega (arith, e) in
    subst (λ k. AllByRecursion P (uses_at b k (op_names f inst.op))) (sym same)
    (subst (λ (z : Inst). AllByRecursion P (uses_at b n (op_names f z.op))) (same_Some j inst s) here)
line_uses P f b n m (j ∷ insts) (suc i) inst e h s =
    line_uses P f b (n + 1) m insts i inst (omega (arith, e)) (all_right P (uses_at b n (op_names f j.op)) (inst_uses f b (n + 1) insts) h) s

uses_of_block : (P : NameUse → Type 0) (f : Function) (n m : ℕ) (blocks : List Block) (b : ℕ) (block : Block) → m ≡ n + b →
    AllByRecursion P (uses_from f n blocks) → slice_get blocks b ≡ Some block → AllByRecursion P (block_uses f m block)
uses_of_block P f n m [] b block e h s = absurd (cc)
uses_of_block P f n m (c ∷ blocks) zero block e h s =
    let here = all_left P (block_uses f n c) (uses_from f (n + 1) blocks) h in
    let same : m ≡ n = omega (arith, e) in
    subst (λ k. AllByRecursion P (block_uses f k block)) (sym same)
    (subst (λ z. AllByRecursion P (block_uses f n z)) (same_Some c block s) here)
uses_of_block P f n m (c ∷ blocks) (suc b) block e h s =
    uses_of_block P f (n + 1) m blocks b block (omega (arith, e)) (all_right P (block_uses f n c) (uses_from f (n + 1) blocks) h) s

-- a name that an instruction uses is defined on every walk to it
pub use_is_defined : (f : Function) (b : ℕ) (block : Block) (i : ℕ) (inst : Inst) (x : ℕ) → Defined f → IsLine f b block i inst →
    is_in x (op_names f inst.op) ≡ true → IsDefinedAt f b i x
use_is_defined f b block i inst x defined line t =
    let P = UseIsDefined f in
    let of_block = uses_of_block P f 0 b f.blocks b block (omega arith) (recursion_from_All P (uses_from f 0 f.blocks) defined) line.there in
    let phis = flat_map (phi_uses f) block.phis in
    let term = uses_at b (length block.insts) (term_names block.term) in
    let insts = inst_uses f b 0 block.insts in
    let of_lines = all_left P insts term (all_right P phis (insts ++ term) of_block) in
    named_use P b i (op_names f inst.op) x (line_uses P f b 0 i block.insts i inst (omega arith) of_lines line.stands) t

-- the names of the operands are among those that the operation uses
names_a : (f : Function) (op : Op) (x : ℕ) → is_in x (operand_names (operand_a op)) ≡ true → is_in x (op_names f op) ≡ true
names_a f (Op.Bin _ _ _ a b) x h = in_left x (operand_names a) (operand_names b) h
names_a f (Op.Icmp _ _ _ a b) x h = in_left x (operand_names a) (operand_names b) h
names_a f (Op.Select _ c a b) x h = in_right x (operand_names c) (operand_names a ++ operand_names b) (in_left x (operand_names a) (operand_names b) h)
names_a f (Op.Cast _ _ _ _ a) x h = h
names_a f (Op.Freeze _ a) x h = h
names_a f (Op.Two _ _ a b) x h = in_left x (operand_names a) (operand_names b) h
names_a f (Op.One _ _ a _) x h = h
names_a f (Op.Over _ _ a b) x h = in_left x (operand_names a) (operand_names b) h
names_a f (Op.Part _ pair _) x h = absurd (cc)
names_a f (Op.Assume c) x h = absurd (cc)
names_a f (Op.Call _ _) x h = absurd (cc)

names_b : (f : Function) (op : Op) (x : ℕ) → is_in x (operand_names (operand_b op)) ≡ true → is_in x (op_names f op) ≡ true
names_b f (Op.Bin _ _ _ a b) x h = in_right x (operand_names a) (operand_names b) h
names_b f (Op.Icmp _ _ _ a b) x h = in_right x (operand_names a) (operand_names b) h
names_b f (Op.Select _ c a b) x h = in_right x (operand_names c) (operand_names a ++ operand_names b) (in_right x (operand_names a) (operand_names b) h)
names_b f (Op.Cast _ _ _ _ a) x h = absurd (cc)
names_b f (Op.Freeze _ a) x h = absurd (cc)
names_b f (Op.Two _ _ a b) x h = in_right x (operand_names a) (operand_names b) h
names_b f (Op.One _ _ a _) x h = absurd (cc)
names_b f (Op.Over _ _ a b) x h = in_right x (operand_names a) (operand_names b) h
names_b f (Op.Part _ pair _) x h = absurd (cc)
names_b f (Op.Assume c) x h = absurd (cc)
names_b f (Op.Call _ _) x h = absurd (cc)

names_c : (f : Function) (op : Op) (x : ℕ) → is_in x (operand_names (operand_c op)) ≡ true → is_in x (op_names f op) ≡ true
names_c f (Op.Bin _ _ _ a b) x h = absurd (cc)
names_c f (Op.Icmp _ _ _ a b) x h = absurd (cc)
names_c f (Op.Select _ c a b) x h = in_left x (operand_names c) (operand_names a ++ operand_names b) h
names_c f (Op.Cast _ _ _ _ a) x h = absurd (cc)
names_c f (Op.Freeze _ a) x h = absurd (cc)
names_c f (Op.Two _ _ a b) x h = absurd (cc)
names_c f (Op.One _ _ a _) x h = absurd (cc)
names_c f (Op.Over _ _ a b) x h = absurd (cc)
names_c f (Op.Part _ pair _) x h = h
names_c f (Op.Assume c) x h = h
names_c f (Op.Call _ _) x h = absurd (cc)

same_value : (env env' : Env) (a : Operand) → ((x : ℕ) → is_in x (operand_names a) ≡ true → env x ≡ env' x) → operand_value env a ≡ operand_value env' a
same_value env env' (Operand.Value v) h = h v.0 (in_first v.0 v.0 [] refl)
same_value env env' (Operand.Literal bits) h = refl
same_value env env' Operand.Poison h = refl

pub same_operands : (f : Function) (op : Op) (env env' : Env) → ((x : ℕ) → is_in x (op_names f op) ≡ true → env x ≡ env' x) →
    HaveSameOperands op env env'
same_operands f op env env' h = record {
  a = same_value env env' (operand_a op) (λ x t. h x (names_a f op x t));
  b = same_value env env' (operand_b op) (λ x t. h x (names_b f op x t));
  c = same_value env env' (operand_c op) (λ x t. h x (names_c f op x t));
}

-- ---- walks that come back

-- a part of these blocks, which the walk has passed, is a walk to the block
record Passed (f : Function) (b : ℕ) (passed : List ℕ) : Type 0 where
  earlier : List ℕ
  walk : IsWalk f (b ∷ earlier)
  shorter : length earlier < length passed

-- a name that was defined in a block was defined in its own block
passed_definition : (f : Function) (b v : ℕ) → ((c : ℕ) → is_in v (results_in f c) ≡ true → c ≡ b) → (d : ℕ) (passed : List ℕ) →
    IsWalk f (d ∷ passed) → list_any (λ c. is_in v (results_in f c)) passed ≡ true → Passed f b passed
passed_definition f b v only d [] w h = absurd (cc)
passed_definition f b v only d (c ∷ rest) w h = elim (or_cases (is_in v (results_in f c)) (list_any (λ c. is_in v (results_in f c)) rest) h) [
  | inl t ↦ record { earlier = rest; walk = subst (λ z. IsWalk f (z ∷ rest)) (only c t) w.1; shorter = omega arith }
  | inr t ↦
      let r = passed_definition f b v only c rest w.1 t in
      record { earlier = r.earlier; walk = r.walk; shorter = let l = r.shorter in omega (arith, l) }
]

-- on a walk to instruction n of block d a name was defined in a block that was passed, or in d
on_walk : (f : Function) (v b m d n : ℕ) (passed : List ℕ) → IsDefinition f v b m → IsWalk f (d ∷ passed) → defined_on f passed d n v ≡ true →
    Passed f b passed ⊎ ((d ≡ b) × (m ≤ n))
on_walk f v b m d n passed def w h = elim (or_cases (defined_over f passed v) (is_in v (results_before f d n)) h) [
  | inr t ↦ inr (def.only d n t)
  | inl t ↦ elim (or_cases (is_parameter f v) (list_any (λ c. is_in v (results_in f c)) passed) t) [
    | inl p ↦ absurd (def.result p)
    | inr s ↦ inl (passed_definition f b v (λ c u. (def.only c (line_count f c) (ap (is_in v) (results_to_end f c) ∙ u)).0) d passed w s)
  ]
]

-- Take a name x that the instruction of v uses, and a place just after a definition of x where v is defined on every walk.
-- A walk there has passed the definition of v, and on the way to it that of x before: so a shorter walk comes there too.
no_walk_within : (f : Function) (v b i x c m : ℕ) → IsDefinition f v b (suc i) → IsDefinition f x c m → IsDefinedAt f b i x → IsDefinedAt f c m v →
    (bound : ℕ) (passed : List ℕ) → length passed < bound → IsWalk f (c ∷ passed) → ⊥
no_walk_within f v b i x c m def_v def_x used live zero passed l w = omega arith
no_walk_within f v b i x c m def_v def_x used live (suc bound) passed l w =
    elim (on_walk f v b (suc i) c m passed def_v w (live passed w)) [
      | inl p ↦ elim (on_walk f x c m b i p.earlier def_x p.walk (used p.earlier p.walk)) [
        | inl q ↦ no_walk_within f v b i x c m def_v def_x used live bound q.earlier
            (let s = p.shorter in let t = q.shorter in omega (arith, l, s, t)) q.walk
        | inr e ↦ no_walk_within f v b i x c m def_v def_x used live bound p.earlier
            (let s = p.shorter in omega (arith, l, s)) (subst (λ z. IsWalk f (z ∷ p.earlier)) e.0 p.walk)
      ]
      | inr e ↦
          let to_b = subst (λ z. IsWalk f (z ∷ passed)) e.0 w in
          elim (on_walk f x c m b i passed def_x to_b (used passed to_b)) [
            | inl q ↦ no_walk_within f v b i x c m def_v def_x used live bound q.earlier
                (let s = q.shorter in omega (arith, l, s)) q.walk
            | inr d ↦ let s = e.1 in let t = d.1 in omega (arith, s, t)
          ]
    ]

pub no_walk : (f : Function) (v b i x c m : ℕ) → IsDefinition f v b (suc i) → IsDefinition f x c m → IsDefinedAt f b i x → IsDefinedAt f c m v →
    (passed : List ℕ) → IsWalk f (c ∷ passed) → ⊥
no_walk f v b i x c m def_v def_x used live passed w =
    no_walk_within f v b i x c m def_v def_x used live (suc (length passed)) passed (omega arith) w
