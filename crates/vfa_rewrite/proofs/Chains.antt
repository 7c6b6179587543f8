-- Chains of names that take one another's place end.
use Rattle.std.proofs.Common.{◌≡◌, ◌<◌, ◌≤◌, ◌+◌, ℕ, zero, suc, nat_eq, ◌&&◌, if◌then◌else◌, Bool, true, false, Option, Some, None, List, [], ◌∷◌, map, length, slice_get, refl, sym, ap, ◌∙◌, subst, inl, inr, arith}
use Rattle.std.proofs.lemmas.Bool.{cases_Bool, eqb-true, eq-eqb}
use Rattle.std.proofs.lemmas.Option.{same_Some}
use Rattle.std.specs.List.{list_any}
use Rattle.vfa_ir.specs.declared.operations.BlockId.{BlockId}
use Rattle.vfa_ir.specs.declared.operations.Operand.{Operand}
use Rattle.vfa_ir.specs.declared.operations.Ty.{Ty}
use Rattle.vfa_ir.specs.declared.operations.ValueId.{ValueId}
use Rattle.vfa_ir.specs.declared.functions.Block.{Block}
use Rattle.vfa_ir.specs.declared.functions.Function.{Function}
use Rattle.vfa_ir.specs.declared.functions.Inst.{Inst}
use Rattle.vfa_ir.specs.Defined.{Defined, operand_names, op_names, line_count}
use Rattle.vfa_ir.specs.PhisFit.{targets}
use Rattle.vfa_ir.specs.Printable.{IsPrintable, op_type}
use Rattle.vfa_ir.specs.Walks.{IsWalk, IsReached, IsEdge, is_in, is_parameter, results_in, results_before, defined_over, defined_on}
use Rattle.vfa_mean.specs.FreshOperands.{IsDefinedAtPlace}
use Rattle.vfa_mean.specs.Moments.{Place, Into, At, IsLine, is_call}
use Rattle.vfa_mean.proofs.FreshOperands.Definitions.{or_cases, or_left, or_right, in_first, in_rest, results_to_end, IsDefinition, line_definition}
use Rattle.vfa_mean.proofs.FreshOperands.Walking.{use_is_defined}
use Rattle.vfa_rules.specs.declared.change.Change.{Change}
use Rattle.vfa_rules.specs.Uses.{is_result}
use Rattle.vfa_rewrite.specs.Chains.{other_by, other_in, other_for, if_undecided, becoming, IsWalkedTo}
use Rattle.vfa_rewrite.specs.Findings.{Decision, OneNumber, NoNumber, Undecided, Findings, IsUsable, IsFitting, AreFitting}
use Rattle.vfa_rewrite.specs.Marks.{IsReplaced, Becomes, number, no_number, replaced, stays, Reached, first, next}
use Rattle.vfa_rewrite.proofs.Becoming.{names_a, names_b}
use Rattle.vfa_rewrite.proofs.FreshNames.{named_result}
use Rattle.vfa_rewrite.proofs.LiveOperands.{before_more, before_end, passed_more, passed_here}
use Rattle.vfa_rewrite.proofs.LookedUp.{looked_up, none_is_given}
use Rattle.vfa_rewrite.proofs.Ranges.{defines_once, typed_value}

-- ---- the operand that takes the place of a name

uses_by : (c : Change) (u : Operand) → other_by c ≡ Some u → c ≡ Change.Uses u
uses_by (Change.Uses v) u h = ap Change.Uses (same_Some v u h)
uses_by (Change.Keep op) u h = absurd (cc)
uses_by (Change.Narrow op v) u h = absurd (cc)
uses_by Change.Gone u h = absurd (cc)

module _ (f : Function) (found : Findings) where
  line_replaces : (n b i : ℕ) (block : Block) (inst : Inst) (u : Operand) → IsLine f b block i inst → other_in found n b i inst ≡ Some u → IsReplaced f found n u
  line_replaces n b i block inst u line h = by (is_result n inst.result) (found.met b i) refl refl h
    where
      by : (s t : Bool) → is_result n inst.result ≡ s → found.met b i ≡ t → (if s && t then other_by (found.change b i inst) else None) ≡ Some u → IsReplaced f found n u
      by true true e g h =
          let of = named_result inst.result n e in
          record {
            b = b;
            i = i;
            block = block;
            inst = inst;
            name = of.name;
            line = line;
            met = g;
            result = of.is;
            same = of.same;
            uses = uses_by (found.change b i inst) u h;
          }
      by true false e g h = absurd (cc)
      by false t e g h = absurd (cc)

  pub other_is : (n : ℕ) (u : Operand) → other_for f found n ≡ Some u → IsReplaced f found n u
  other_is n u h = let r = looked_up f (λ b. true) (other_in found n) u h in line_replaces n r.b r.i r.block r.inst u r.line r.is

  none_replaces : (n : ℕ) → other_for f found n ≡ None → (u : Operand) → IsReplaced f found n u → ⊥
  none_replaces n h u r =
      let result : is_result n r.inst.result ≡ true = ap (is_result n) r.result ∙ eq-eqb r.name.0 n r.same in
      let is : other_in found n r.b r.i r.inst ≡ Some u =
      ap (λ t. if t && found.met r.b r.i then other_by (found.change r.b r.i r.inst) else None) result
      ∙ ap (λ t. if t then other_by (found.change r.b r.i r.inst) else None) r.met ∙ ap other_by r.uses in
      none_is_given f (λ b. true) (other_in found n) h u (record { b = r.b; i = r.i; block = r.block; inst = r.inst; line = r.line; is_left = refl; is = is })

-- ---- counting names

abbrev ones : Bool → ℕ
ones true = 1
ones false = 0

-- how many numbers below n have the property
abbrev count_below : (ℕ → Bool) → ℕ → ℕ
count_below p zero = 0
count_below p (suc n) = ones (p n) + count_below p n

ones_most : (t : Bool) → ones t ≤ 1
ones_most true = omega arith
ones_most false = omega arith

count_most : (p : ℕ → Bool) (n : ℕ) → count_below p n ≤ n
count_most p zero = omega arith
count_most p (suc n) =
    let l = count_most p n in
    let m = ones_most (p n) in
    let most : ones (p n) + count_below p n ≤ suc n = omega (arith, l, m) in
    most

ones_more : (s t : Bool) → (s ≡ true → t ≡ true) → ones s ≤ ones t
ones_more true true h = omega arith
ones_more true false h = absurd (let e = h refl in cc)
ones_more false true h = omega arith
ones_more false false h = omega arith

count_more : (p q : ℕ → Bool) (n : ℕ) → ((x : ℕ) → p x ≡ true → q x ≡ true) → count_below p n ≤ count_below q n
count_more p q zero h = omega arith
count_more p q (suc n) h =
    let l = count_more p q n h in
    let m = ones_more (p n) (q n) (h n) in
    let more : ones (p n) + count_below p n ≤ ones (q n) + count_below q n = omega (arith, l, m) in
    more

-- one that has another member is greater
count_less : (p q : ℕ → Bool) (v n : ℕ) → ((x : ℕ) → p x ≡ true → q x ≡ true) → (p v ≡ true → ⊥) → q v ≡ true → v < n → count_below p n < count_below q n
count_less p q v zero h out inside below = absurd (omega (arith, below))
count_less p q v (suc n) h out inside below = elim (cases_Bool (nat_eq v n)) [
  | inl e ↦
      let same : v ≡ n = eqb-true v n e in
      let more = count_more p q n h in
      let member : ones (q n) ≡ 1 = ap ones (subst (λ k. q k ≡ true) same inside) in
      let none : ones (p n) ≡ 0 = elim (cases_Bool (p n)) [ inl t ↦ absurd (out (subst (λ k. p k ≡ true) (sym same) t)) | inr t ↦ ap ones t ] in
      let less : ones (p n) + count_below p n < ones (q n) + count_below q n = omega (arith, more, member, none) in
      less
  | inr e ↦
      let apart : v ≡ n → ⊥ = λ same. let t = eq-eqb v n same in absurd (cc) in
      let l = count_less p q v n h out inside (omega (arith, below, apart)) in
      let m = ones_more (p n) (q n) (h n) in
      let less : ones (p n) + count_below p n < ones (q n) + count_below q n = omega (arith, l, m) in
      less
]

-- ---- the first definition on a walk

-- a walk that comes to block b, and has not passed a definition of v; what is defined on it before instruction i is defined at the point
record IsEarlier (f : Function) (v b i : ℕ) (defined_there : ℕ → Bool) : Type 0 where
  earlier : List ℕ
  walk : IsWalk f (b ∷ earlier)
  none : list_any (λ c. is_in v (results_in f c)) earlier ≡ false
  more : (x : ℕ) → defined_on f earlier b i x ≡ true → defined_there x ≡ true

module _ (f : Function) (v b i : ℕ) (definition : IsDefinition f v b (suc i)) where
  in_passed : (d : ℕ) (passed : List ℕ) → IsWalk f (d ∷ passed) → list_any (λ c. is_in v (results_in f c)) passed ≡ true → IsEarlier f v b i (defined_over f passed)
  in_passed d [] walk t = absurd (cc)
  in_passed d (c ∷ rest) walk t = elim (cases_Bool (list_any (λ c. is_in v (results_in f c)) rest)) [
    | inl later ↦
        let r = in_passed c rest walk.1 later in
        record { earlier = r.earlier; walk = r.walk; none = r.none; more = λ x h. passed_more f c rest x (r.more x h) }
    | inr none ↦
        let here : is_in v (results_in f c) ≡ true = elim (or_cases (is_in v (results_in f c)) (list_any (λ c. is_in v (results_in f c)) rest) t) [
          | inl h ↦ h
          | inr h ↦ absurd (cc)
        ] in
        let same : c ≡ b = (definition.only c (line_count f c) (ap (is_in v) (results_to_end f c) ∙ here)).0 in
        record {
          earlier = rest;
          walk = subst (λ k. IsWalk f (k ∷ rest)) same walk.1;
          none = none;
          more = λ x h. elim (or_cases (defined_over f rest x) (is_in x (results_before f b i)) h) [
            | inl o ↦ passed_more f c rest x o
            | inr r ↦ passed_here f c rest x (subst (λ k. is_in x (results_in f k) ≡ true) (sym same) (before_end f b i x r))
          ];
        }
  ]

  at_point : (d m : ℕ) (passed : List ℕ) → IsWalk f (d ∷ passed) → defined_on f passed d m v ≡ true → IsEarlier f v b i (defined_on f passed d m)
  at_point d m passed walk h = elim (cases_Bool (list_any (λ c. is_in v (results_in f c)) passed)) [
    | inl t ↦
        let r = in_passed d passed walk t in
        record { earlier = r.earlier; walk = r.walk; none = r.none; more = λ x k. or_left (defined_over f passed x) (is_in x (results_before f d m)) (r.more x k) }
    | inr none ↦
        let here : is_in v (results_before f d m) ≡ true = elim (or_cases (defined_over f passed v) (is_in v (results_before f d m)) h) [
          | inr t ↦ t
          | inl o ↦ elim (or_cases (is_parameter f v) (list_any (λ c. is_in v (results_in f c)) passed) o) [
            | inl p ↦ absurd (definition.result p)
            | inr t ↦ absurd (cc)
          ]
        ] in
        let place = definition.only d m here in
        let less : i ≤ m = let l = place.1 in omega (arith, l) in
        record {
          earlier = passed;
          walk = subst (λ k. IsWalk f (k ∷ passed)) place.0 walk;
          none = none;
          more = λ x k. elim (or_cases (defined_over f passed x) (is_in x (results_before f b i)) k) [
            | inl o ↦ or_left (defined_over f passed x) (is_in x (results_before f d m)) o
            | inr r ↦ or_right (defined_over f passed x) (is_in x (results_before f d m))
                (subst (λ k. is_in x (results_before f k m) ≡ true) (sym place.0) (before_more f b i m x less r))
          ];
        }
  ]

  -- there v is not defined
  not_before : (earlier : List ℕ) → list_any (λ c. is_in v (results_in f c)) earlier ≡ false → defined_on f earlier b i v ≡ true → ⊥
  not_before earlier none h = elim (or_cases (defined_over f earlier v) (is_in v (results_before f b i)) h) [
    | inr t ↦ let l = (definition.only b i t).1 in omega (arith, l)
    | inl o ↦ elim (or_cases (is_parameter f v) (list_any (λ c. is_in v (results_in f c)) earlier) o) [
      | inl p ↦ definition.result p
      | inr t ↦ absurd (cc)
    ]
  ]

-- ---- chains

module _ (f : Function) (printable : IsPrintable f) (defined : Defined f) (found : Findings) (fitting : AreFitting f found) where
  -- the instruction whose result is replaced is no call, and the other is one of its operands
  replaced_plain : (n : ℕ) (u : Operand) (r : IsReplaced f found n u) → is_call r.inst.op ≡ false
  replaced_plain n u r = elim (cases_Bool (is_call r.inst.op)) [
    | inr plain ↦ plain
    | inl call ↦ absurd (let kept = fitting.call r.b r.block r.i r.inst r.line call in let uses = r.uses in cc)
  ]

  pub replaced_fits : (n : ℕ) (u : Operand) (r : IsReplaced f found n u) → IsFitting f r.inst.op (Change.Uses u)
  replaced_fits n u r =
      subst (λ c. IsFitting f r.inst.op c) r.uses (fitting.change r.b r.block r.i r.inst r.line r.met (replaced_plain n u r)).fits

  used_name : (n : ℕ) (x : ValueId) (r : IsReplaced f found n (Operand.Value x)) → is_in x.0 (op_names f r.inst.op) ≡ true
  used_name n x r = elim (replaced_fits n (Operand.Value x) r).0 [
    | inl e ↦ names_a f r.inst.op x.0 (subst (λ a. is_in x.0 (operand_names a) ≡ true) e (in_first x.0 x.0 [] refl))
    | inr e ↦ names_b f r.inst.op x.0 (subst (λ a. is_in x.0 (operand_names a) ≡ true) e (in_first x.0 x.0 [] refl))
  ]

  -- an operand whose name is defined at a point of a walk
  abbrev IsAtPoint : (ℕ → Bool) → Operand → Type 0
  IsAtPoint defined_there (Operand.Value n) = (n.0 < length f.values) × (defined_there n.0 ≡ true)
  IsAtPoint defined_there (Operand.Literal x) = Unit {0}
  IsAtPoint defined_there Operand.Poison = Unit {0}

  other_at_point : (n : ℕ) (u : Operand) (r : IsReplaced f found n u) (earlier : List ℕ) → IsWalk f (r.b ∷ earlier) → IsAtPoint (defined_on f earlier r.b r.i) u
  other_at_point n (Operand.Value x) r earlier walk = (
    (typed_value f (op_type r.inst.op) x (replaced_fits n (Operand.Value x) r).1).below,
    use_is_defined f r.b r.block r.i r.inst x.0 defined r.line (used_name n x r) earlier walk,
  )
  other_at_point n (Operand.Literal x) r earlier walk = tt
  other_at_point n Operand.Poison r earlier walk = tt

  module _ (place : Place) (ty : Ty) where
    by_decision : (a rest : Operand) → (found.decision place ty a ≡ Undecided → Becomes f found place ty a rest) → (d : Decision) → found.decision place ty a ≡ d →
        Becomes f found place ty a (if_undecided d rest)
    by_decision a rest h (OneNumber x) e = number a x e
    by_decision a rest h NoNumber e = no_number a e
    by_decision a rest h Undecided e = h e

    -- what is to be shown of operands that are defined where fewer names are
    abbrev EndsWithin : ℕ → Type 0
    EndsWithin k = (d m : ℕ) (passed : List ℕ) → IsWalk f (d ∷ passed) → count_below (defined_on f passed d m) (length f.values) ≤ k → (a : Operand) →
        IsAtPoint (defined_on f passed d m) a → Becomes f found place ty a (becoming f found place ty k a)

    name_ends : (k d m : ℕ) (passed : List ℕ) → IsWalk f (d ∷ passed) → count_below (defined_on f passed d m) (length f.values) ≤ suc k → (n : ValueId) →
        IsAtPoint (defined_on f passed d m) (Operand.Value n) → EndsWithin k → found.decision place ty (Operand.Value n) ≡ Undecided →
        (o : Option Operand) → other_for f found n.0 ≡ o → Becomes f found place ty (Operand.Value n) (elim o [ None ↦ Operand.Value n | Some u ↦ becoming f found place ty k u ])
    name_ends k d m passed walk few n point again e None h = stays (Operand.Value n) e (none_replaces f found n.0 h)
    name_ends k d m passed walk few n point again e (Some u) h =
        let r = other_is f found n.0 u h in
        let definition : IsDefinition f n.0 r.b (suc r.i) =
        subst (λ x. IsDefinition f x r.b (suc r.i)) r.same (line_definition f r.b r.block r.i r.inst r.name (defines_once f printable) r.line r.result) in
        let start = at_point f n.0 r.b r.i definition d m passed walk point.1 in
        let less = count_less (defined_on f start.earlier r.b r.i) (defined_on f passed d m) n.0 (length f.values) start.more
        (not_before f n.0 r.b r.i definition start.earlier start.none) point.1 point.0 in
        replaced n u (becoming f found place ty k u) e r
        (again r.b r.i start.earlier start.walk (omega (arith, few, less)) u (other_at_point n.0 u r start.earlier start.walk))

    ends_within : (k : ℕ) → EndsWithin k
    ends_within zero d m passed walk few (Operand.Value n) point =
        let some = count_less (λ x. false) (defined_on f passed d m) n.0 (length f.values) (λ x t. absurd (let h : false ≡ true = t in cc)) (λ t. absurd (let h : false ≡ true = t in cc)) point.1 point.0 in
        absurd (omega (arith, some, few))
    ends_within zero d m passed walk few (Operand.Literal x) point =
        by_decision (Operand.Literal x) (Operand.Literal x) (λ e. stays (Operand.Literal x) e tt) (found.decision place ty (Operand.Literal x)) refl
    ends_within zero d m passed walk few Operand.Poison point =
        by_decision Operand.Poison Operand.Poison (λ e. stays Operand.Poison e tt) (found.decision place ty Operand.Poison) refl
    ends_within (suc k) d m passed walk few (Operand.Value n) point =
        by_decision (Operand.Value n) (elim (other_for f found n.0) [ None ↦ Operand.Value n | Some u ↦ becoming f found place ty k u ])
        (λ e. name_ends k d m passed walk few n point (ends_within k) e (other_for f found n.0) refl) (found.decision place ty (Operand.Value n)) refl
    ends_within (suc k) d m passed walk few (Operand.Literal x) point =
        by_decision (Operand.Literal x) (Operand.Literal x) (λ e. stays (Operand.Literal x) e tt) (found.decision place ty (Operand.Literal x)) refl
    ends_within (suc k) d m passed walk few Operand.Poison point =
        by_decision Operand.Poison Operand.Poison (λ e. stays Operand.Poison e tt) (found.decision place ty Operand.Poison) refl

    all_end : (d m : ℕ) (passed : List ℕ) → IsWalk f (d ∷ passed) → (a : Operand) → IsAtPoint (defined_on f passed d m) a →
        Becomes f found place ty a (becoming f found place ty (length f.values) a)
    all_end d m passed walk a point = ends_within (length f.values) d m passed walk (count_most (defined_on f passed d m) (length f.values)) a point

  point_of : (place : Place) (ty : Ty) (a : Operand) (defined_there : ℕ → Bool) → IsUsable f place ty a → ((n : ℕ) → IsDefinedAtPlace f place n → defined_there n ≡ true) →
      IsAtPoint defined_there a
  point_of place ty (Operand.Value n) defined_there usable h = ((typed_value f ty n usable.typed).below, h n.0 usable.defined)
  point_of place ty (Operand.Literal x) defined_there usable h = tt
  point_of place ty Operand.Poison defined_there usable h = tt

  -- at a place that some walk comes to, as many steps as there are names are enough
  pub chain_ends : (place : Place) (ty : Ty) (a : Operand) → IsWalkedTo f place → IsUsable f place ty a →
      Becomes f found place ty a (becoming f found place ty (length f.values) a)
  chain_ends (At b i) ty a walked usable =
      all_end (At b i) ty b i walked.passed walked.walk a
      (point_of (At b i) ty a (defined_on f walked.passed b i) usable (λ n live. live walked.passed walked.walk))
  chain_ends (Into (Some p) b) ty a walked usable =
      all_end (Into (Some p) b) ty p (line_count f p) walked.passed walked.walk a
      (point_of (Into (Some p) b) ty a (defined_on f walked.passed p (line_count f p)) usable (λ n live. live walked.passed walked.walk))
  chain_ends (Into None b) ty a walked usable =
      all_end (Into None b) ty 0 0 [] refl a
      (point_of (Into None b) ty a (defined_on f [] 0 0) usable
      (λ n live. or_left (defined_over f [] n) (is_in n (results_before f 0 0)) (or_left (is_parameter f n) false live)))

-- ---- blocks that are left are on walks

target_in : (ts : List BlockId) (k : ℕ) (to : BlockId) → slice_get ts k ≡ Some to → is_in to.0 (map (λ (t : BlockId). t.0) ts) ≡ true
target_in [] k to h = absurd (cc)
target_in (t ∷ ts) zero to h = in_first to.0 t.0 (map (λ (t : BlockId). t.0) ts) (ap (λ (t : BlockId). t.0) (sym (same_Some t to h)))
target_in (t ∷ ts) (suc k) to h = in_rest to.0 t.0 (map (λ (t : BlockId). t.0) ts) (target_in ts k to h)

pub left_on_walk : (f : Function) (found : Findings) (b : ℕ) → Reached f found b → IsReached f b
left_on_walk f found b first = record { passed = []; walk = refl }
left_on_walk f found b (next c block k to before there leads left) =
    let r = left_on_walk f found c before in
    let edge : IsEdge f c to.0 = ap (λ o. is_in to.0 (elim o [ None ↦ [] | Some block ↦ map (λ t. t.0) (targets block.term) ])) there ∙ target_in (targets block.term) k to leads in
    record { passed = c ∷ r.passed; walk = (edge, r.walk) }
