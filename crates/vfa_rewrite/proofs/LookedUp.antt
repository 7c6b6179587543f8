-- The first that is found among the instructions of blocks that are left.
use Rattle.std.proofs.Common.{◌≡◌, ℕ, zero, suc, ◌+◌, if◌then◌else◌, Bool, true, false, Option, Some, None, List, [], ◌∷◌, slice_get, refl, sym, ap, ◌∙◌, arith}
use Rattle.std.proofs.lemmas.Option.{same_Some}
use Rattle.vfa_ir.specs.declared.functions.Block.{Block}
use Rattle.vfa_ir.specs.declared.functions.Function.{Function}
use Rattle.vfa_ir.specs.declared.functions.Inst.{Inst}
use Rattle.vfa_mean.specs.Moments.{IsLine}
use Rattle.vfa_rules.specs.Uses.{first_found}
use Rattle.vfa_rewrite.specs.Chains.{itself}
use Rattle.vfa_rewrite.specs.Rewritten.{with_numbers}
use Rattle.vfa_rewrite.proofs.Left.{made_at}

record IsFound {A : Type 0} (xs : List (Option A)) (u : A) : Type 0 where
  n : ℕ
  there : slice_get xs n ≡ Some (Some u)

first_is : {A : Type 0} (xs : List (Option A)) (u : A) → first_found itself xs ≡ Some u → IsFound xs u
first_is [] u h = absurd (cc)
first_is (None ∷ xs) u h = let r = first_is xs u h in record { n = suc r.n; there = r.there }
first_is (Some y ∷ xs) u h = record { n = 0; there = ap Some h }

none_is : {A : Type 0} (xs : List (Option A)) → first_found itself xs ≡ None → (n : ℕ) (u : A) → slice_get xs n ≡ Some (Some u) → ⊥
none_is [] h n u t = absurd (cc)
none_is (None ∷ xs) h zero u t = absurd (cc)
none_is (None ∷ xs) h (suc n) u t = none_is xs h n u t
none_is (Some y ∷ xs) h n u t = absurd (cc)

pub record IsMadeOf {A B : Type 0} (make : ℕ → A → B) (xs : List A) (n k : ℕ) (y : B) : Type 0 where
  pub x : A
  pub there : slice_get xs n ≡ Some x
  pub is : make k x ≡ y

pub made_of : {A B : Type 0} (make : ℕ → A → B) (i : ℕ) (xs : List A) (n k : ℕ) (y : B) → k ≡ i + n → slice_get (with_numbers make i xs) n ≡ Some y → IsMadeOf make xs n k y
made_of make i [] n k y e h = absurd (cc)
made_of make i (x ∷ xs) zero k y e h =
    let same : i ≡ k = omega (arith, e) in
    record { x = x; there = refl; is = ap (λ t. make t x) (sym same) ∙ same_Some (make i x) y h }
made_of make i (x ∷ xs) (suc n) k y e h =
    let r = made_of make (suc i) xs n k y (omega (arith, e)) h in
    record { x = r.x; there = r.there; is = r.is }

module _ {A : Type 0} (f : Function) (left : ℕ → Bool) (look : ℕ → ℕ → Inst → Option A) where
  abbrev among : List Inst → ℕ → Option A
  among insts b = first_found itself (with_numbers (look b) 0 insts)

  abbrev within : ℕ → Block → Option A
  within b block = if left b then among block.insts b else None

  -- an instruction of a block that is left gives it
  pub record IsGiven (u : A) : Type 0 where
    pub b : ℕ
    pub i : ℕ
    pub block : Block
    pub inst : Inst
    pub line : IsLine f b block i inst
    pub is_left : left b ≡ true
    pub is : look b i inst ≡ Some u

  in_block : (b : ℕ) (block : Block) (u : A) → slice_get f.blocks b ≡ Some block → within b block ≡ Some u → IsGiven u
  in_block b block u there h = by (left b) refl h
    where
      by : (t : Bool) → left b ≡ t → (if t then among block.insts b else None) ≡ Some u → IsGiven u
      by true e h =
          let first = first_is (with_numbers (look b) 0 block.insts) u h in
          let of = made_of (look b) 0 block.insts first.n first.n (Some u) (omega arith) first.there in
          record { b = b; i = first.n; block = block; inst = of.x; line = record { there = there; stands = of.there }; is_left = e; is = of.is }
      by false e h = absurd (cc)

  pub looked_up : (u : A) → first_found itself (with_numbers within 0 f.blocks) ≡ Some u → IsGiven u
  looked_up u h =
      let first = first_is (with_numbers within 0 f.blocks) u h in
      let of = made_of within 0 f.blocks first.n first.n (Some u) (omega arith) first.there in
      in_block first.n of.x u of.there of.is

  pub none_is_given : first_found itself (with_numbers within 0 f.blocks) ≡ None → (u : A) → IsGiven u → ⊥
  none_is_given h u r = by (within r.b r.block) refl
    where
      not_among : among r.block.insts r.b ≡ None → ⊥
      not_among e = none_is (with_numbers (look r.b) 0 r.block.insts) e r.i u (made_at (look r.b) r.block.insts r.i r.inst r.line.stands ∙ ap Some r.is)

      by : (o : Option A) → within r.b r.block ≡ o → ⊥
      by None e = not_among (sym (ap (λ t. if t then among r.block.insts r.b else None) r.is_left) ∙ e)
      by (Some v) e = none_is (with_numbers within 0 f.blocks) h r.b v (made_at within f.blocks r.b r.block r.line.there ∙ ap Some e)
