-- Definitions that are put to those of each name.
use Rattle.std.proofs.Common.{◌≡◌, ◌≢◌, ◌<◌, ◌≤◌, ℕ, zero, suc, ◌+◌, List, [], ◌∷◌, ◌++◌, length, get_or, set, Some, Result, Ok, Err, IfOk, slice_get, ap, subst, arith, sym, refl, ◌∙◌, inl, inr, ◌⊎◌, length-set}
use Rattle.std.proofs.lemmas.List.{get_or-set_other, get_or-set_same}
use Rattle.std.proofs.lemmas.Bool.{cases_eq, cases_lt}
use Rattle.vfa_ir.specs.declared.operations.ValueId.{ValueId}
use Rattle.vfa_ir.specs.declared.functions.Block.{Block}
use Rattle.vfa_ir.specs.declared.functions.Inst.{Inst}
use Rattle.vfa_ir.specs.declared.functions.Phi.{Phi}
use Rattle.vfa_demand.specs.Definitions.{BlockPut, IsAmong, IsMore, IsPut, IsPutTo, LinesPut, PhisPut}
use Rattle.vfa_demand.specs.declared.definitions.Definition.{Definition}

among_left : (d : Definition) (xs ys : List Definition) → IsAmong d xs → IsAmong d (xs ++ ys)
among_left d [] ys t = absurd t
among_left d (x ∷ xs) ys (inl e) = inl e
among_left d (x ∷ xs) ys (inr t) = inr (among_left d xs ys t)

among_last : (d : Definition) (xs : List Definition) → IsAmong d (xs ++ (d ∷ []))
among_last d [] = inl refl
among_last d (x ∷ xs) = inr (among_last d xs)

pub more_same : (all : List (List Definition)) → IsMore all all
more_same all = record { whole = refl; kept = λ v d t. t }

pub more_then : (a b c : List (List Definition)) → IsMore a b → IsMore b c → IsMore a c
more_then a b c one two = record { whole = two.whole ∙ one.whole; kept = λ v d t. two.kept v d (one.kept v d t) }

pub put_still : (v : ℕ) (d : Definition) (a b : List (List Definition)) → IsMore a b → IsPutTo v d a → IsPutTo v d b
put_still v d a b more is l = more.kept v d (is (subst (λ n. v < n) more.whole l))

pub put_nowhere : (v : ℕ) (d : Definition) (all : List (List Definition)) → length all ≤ v → IsPut v d all all
put_nowhere v d all past = record { more = more_same all; put = λ l. absurd (omega (arith, past, l)) }

pub put_one : (n : ℕ) (d : Definition) (all : List (List Definition)) → n < length all → IsPut n d all (set all n (get_or all n [] ++ (d ∷ [])))
put_one n d all l = record {
  more = record { whole = length-set all n (get_or all n [] ++ (d ∷ [])); kept = λ v e t. at v e t (cases_eq v n) };
  put = λ _. subst (IsAmong d) (sym (get_or-set_same all n (get_or all n [] ++ (d ∷ [])) [] l)) (among_last d (get_or all n []));
}
  where
    at : (v : ℕ) (e : Definition) → IsAmong e (get_or all v []) → (v ≡ n) ⊎ (v ≢ n) → IsAmong e (get_or (set all n (get_or all n [] ++ (d ∷ []))) v [])
    at v e t (inl same) =
        subst (λ k. IsAmong e (get_or (set all n (get_or all n [] ++ (d ∷ []))) k [])) (sym same)
        (subst (IsAmong e) (sym (get_or-set_same all n (get_or all n [] ++ (d ∷ [])) [] l))
        (among_left e (get_or all n []) (d ∷ []) (subst (λ k. IsAmong e (get_or all k [])) same t)))
    at v e t (inr other) = subst (IsAmong e) (sym (get_or-set_other all n v (get_or all n [] ++ (d ∷ [])) [] other)) t

-- ---- elements by their places

at_is : {X : Type 0} (xs : List X) (n : ℕ) (x d : X) → slice_get xs n ≡ Some x → get_or xs n d ≡ x
at_is [] n x d e = absurd (cc)
at_is (y ∷ xs) zero x d e = cc
at_is (y ∷ xs) (suc n) x d e = at_is xs n x d e

pub at_within : {X : Type 0} (xs : List X) (n : ℕ) (x : X) → slice_get xs n ≡ Some x → n < length xs
at_within [] n x e = absurd (cc)
at_within (y ∷ xs) zero x e = omega arith
at_within (y ∷ xs) (suc n) x e = let l = at_within xs n x e in omega (arith, l)

-- what holds of the elements below a place, and of the one there
one_further : {X : Type 0} (P : ℕ → X → Type 0) (xs : List X) (n : ℕ) (d : X) → ((k : ℕ) → k < n → (x : X) → slice_get xs k ≡ Some x → P k x) →
    P n (get_or xs n d) → (k : ℕ) → k < n + 1 → (x : X) → slice_get xs k ≡ Some x → P k x
one_further {X} P xs n d before here k less x at = of (cases_lt k n)
  where
    of : (k < n) ⊎ (n ≤ k) → P k x
    of (inl l) = before k l x at
    of (inr l) =
        let same : n ≡ k = omega (arith, less, l) in
        let is : get_or xs n d ≡ x = at_is xs n x d (subst (λ i. slice_get xs i ≡ Some x) (sym same) at) in
        subst (λ i. P i x) same (subst (P n) is here)

-- ---- those of a block, one after another

abbrev pub PhisPutBelow : ℕ → List Phi → ℕ → List (List Definition) → Type 0
PhisPutBelow b phis n all = (j : ℕ) → j < n → (p : Phi) → slice_get phis j ≡ Some p → IsPutTo p.result.0 (Definition.Phi b j) all

abbrev pub LinesPutBelow : ℕ → List Inst → ℕ → List (List Definition) → Type 0
LinesPutBelow b insts n all = (i : ℕ) → i < n → (inst : Inst) → slice_get insts i ≡ Some inst → (v : ValueId) → inst.result ≡ Some v →
    IsPutTo v.0 (Definition.Line b i) all

abbrev pub BlocksPutBelow : List Block → ℕ → List (List Definition) → Type 0
BlocksPutBelow blocks n all = (b : ℕ) → b < n → (block : Block) → slice_get blocks b ≡ Some block → BlockPut b block all

pub phis_further : (b : ℕ) (phis : List Phi) (n : ℕ) (p : Phi) (a0 a1 a2 : List (List Definition)) → p ≡ get_or phis n p →
    IsMore a0 a1 × PhisPutBelow b phis n a1 → IsPut p.result.0 (Definition.Phi b n) a1 a2 → IsMore a0 a2 × PhisPutBelow b phis (n + 1) a2
phis_further b phis n p a0 a1 a2 is was put = (
  more_then a0 a1 a2 was.0 put.more,
  one_further (λ j q. IsPutTo q.result.0 (Definition.Phi b j) a2) phis n p
      (λ j l q at. put_still q.result.0 (Definition.Phi b j) a1 a2 put.more (was.1 j l q at))
      (subst (λ q. IsPutTo q.result.0 (Definition.Phi b n) a2) is put.put),
)

pub lines_further : (b : ℕ) (insts : List Inst) (n : ℕ) (d : Inst) (a0 a1 a2 : List (List Definition)) →
    IsMore a0 a1 × LinesPutBelow b insts n a1 → IsMore a1 a2 →
    ((v : ValueId) → (get_or insts n d).result ≡ Some v → IsPutTo v.0 (Definition.Line b n) a2) → IsMore a0 a2 × LinesPutBelow b insts (n + 1) a2
lines_further b insts n d a0 a1 a2 was more put = (
  more_then a0 a1 a2 was.0 more,
  one_further (λ i inst. (v : ValueId) → inst.result ≡ Some v → IsPutTo v.0 (Definition.Line b i) a2) insts n d
      (λ i l inst at v e. put_still v.0 (Definition.Line b i) a1 a2 more (was.1 i l inst at v e)) put,
)

block_still : (b : ℕ) (block : Block) (a1 a2 : List (List Definition)) → IsMore a1 a2 → BlockPut b block a1 → BlockPut b block a2
block_still b block a1 a2 more is = record {
  phis = λ j p at. put_still p.result.0 (Definition.Phi b j) a1 a2 more (is.phis j p at);
  lines = λ i inst v at e. put_still v.0 (Definition.Line b i) a1 a2 more (is.lines i inst v at e);
}

pub blocks_further : (blocks : List Block) (n : ℕ) (d : Block) (a0 a1 a2 : List (List Definition)) → IsMore a0 a1 × BlocksPutBelow blocks n a1 →
    IsMore a1 a2 → BlockPut n (get_or blocks n d) a2 → IsMore a0 a2 × BlocksPutBelow blocks (n + 1) a2
blocks_further blocks n d a0 a1 a2 was more put = (
  more_then a0 a1 a2 was.0 more,
  one_further (λ b block. BlockPut b block a2) blocks n d (λ b l block at. block_still b block a1 a2 more (was.1 b l block at)) put,
)

pub block_put : (b : ℕ) (block : Block) (phis : List Phi) (insts : List Inst) (a0 a1 : List (List Definition)) → phis ≡ block.phis → insts ≡ block.insts →
    IsMore a0 a1 → PhisPut b phis a0 → LinesPut b insts a1 → BlockPut b block a1
block_put b block phis insts a0 a1 same_phis same_insts more first lines = record {
  phis = λ j p at. put_still p.result.0 (Definition.Phi b j) a0 a1 more (first j p (subst (λ (xs : List Phi). slice_get xs j ≡ Some p) (sym same_phis) at));
  lines = λ i inst v at e. lines i inst v (subst (λ (xs : List Inst). slice_get xs i ≡ Some inst) (sym same_insts) at) e;
}

pub ok_two : {X E : Type 0} (P Q R : X → Type 0) (r : Result X E) → ((x : X) → P x → Q x → R x) → IfOk r P → IfOk r Q → IfOk r R
ok_two P Q R (Ok x) f p q = f x p q
ok_two P Q R (Err e) f p q = tt
