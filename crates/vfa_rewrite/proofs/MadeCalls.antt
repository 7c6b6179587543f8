-- The arguments of a call are put at the one instruction that makes it.
use Rattle.std.proofs.Common.{◌≡◌, ◌<◌, ℕ, zero, suc, ◌++◌, ◌&&◌, if◌then◌else◌, nat_eq, Bool, true, false, Option, Some, None, List, [], ◌∷◌, flat_map, filter_map, length, slice_get, refl, sym, ap, ◌∙◌, subst, inl, inr, arith}
use Rattle.std.specs.List.{IsDistinct, cons_option}
use Rattle.std.proofs.lemmas.Bool.{eqb-true, eq-eqb, cases_lt}
use Rattle.std.proofs.lemmas.Option.{same_Some}
use Rattle.vfa_ir.specs.declared.operations.Op.{Op}
use Rattle.vfa_ir.specs.declared.operations.Operand.{Operand}
use Rattle.vfa_ir.specs.declared.functions.Block.{Block}
use Rattle.vfa_ir.specs.declared.functions.Function.{Function}
use Rattle.vfa_ir.specs.declared.functions.Inst.{Inst}
use Rattle.vfa_ir.specs.Printable.{IsPrintable, block_call_places, call_place}
use Rattle.vfa_ir.specs.Words.{is_in}
use Rattle.vfa_mean.specs.Moments.{Place, At, IsLine}
use Rattle.vfa_mean.proofs.FreshOperands.Definitions.{first_or_rest, in_first, in_left, in_right, range_distinct}
use Rattle.vfa_rewrite.specs.Findings.{Findings}
use Rattle.vfa_rewrite.specs.Making.{makes_call, call_place_in, call_place as place_of_call, put_if, put_at, put_call_at}
use Rattle.vfa_rewrite.proofs.LookedUp.{looked_up, none_is_given}
use Rattle.vfa_rewrite.proofs.Sublists.{IsSublist, skip, keep, sublist_append, sublist_none, sublist_behind, sublist_distinct}

-- ---- lists of parts in which each number stands once

one_in : (k : ℕ) (xs : List ℕ) → is_in k xs ≡ true → IsSublist (k ∷ []) xs
one_in k [] t = absurd (cc)
one_in k (x ∷ xs) t = elim (first_or_rest k x xs t) [
  | inl e ↦ subst (λ y. IsSublist (k ∷ []) (y ∷ xs)) e (keep k [] xs (sublist_none xs))
  | inr r ↦ skip x (k ∷ []) xs (one_in k xs r)
]

in_parts : {A : Type 0} (part : A → List ℕ) (xs : List A) (n : ℕ) (x : A) (k : ℕ) → slice_get xs n ≡ Some x → is_in k (part x) ≡ true → is_in k (flat_map part xs) ≡ true
in_parts part [] n x k e t = absurd (cc)
in_parts part (y ∷ xs) zero x k e t = in_left k (part y) (flat_map part xs) (subst (λ z. is_in k (part z) ≡ true) (sym (same_Some y x e)) t)
in_parts part (y ∷ xs) (suc n) x k e t = in_right k (part y) (flat_map part xs) (in_parts part xs n x k e t)

part_among : {A : Type 0} (part : A → List ℕ) (xs : List A) (n : ℕ) (x : A) → slice_get xs n ≡ Some x → IsSublist (part x) (flat_map part xs)
part_among part [] n x e = absurd (cc)
part_among part (y ∷ xs) zero x e =
    subst (λ z. IsSublist (part z) (part y ++ flat_map part xs)) (same_Some y x e) (before (part y))
  where
    before : (own : List ℕ) → IsSublist own (own ++ flat_map part xs)
    before [] = sublist_none (flat_map part xs)
    before (k ∷ own) = keep k own (own ++ flat_map part xs) (before own)
part_among part (y ∷ xs) (suc n) x e = sublist_behind (part x) (flat_map part xs) (part y) (part_among part xs n x e)

two_in : {A : Type 0} (part : A → List ℕ) (xs : List A) (n m : ℕ) (x y : A) (k : ℕ) → n < m → slice_get xs n ≡ Some x → slice_get xs m ≡ Some y →
    is_in k (part x) ≡ true → is_in k (part y) ≡ true → IsSublist (k ∷ (k ∷ [])) (flat_map part xs)
two_in part [] n m x y k l e g s t = absurd (cc)
two_in part (z ∷ xs) n zero x y k l e g s t = absurd (omega (arith, l))
two_in part (z ∷ xs) zero (suc m) x y k l e g s t =
    sublist_append (k ∷ []) (part z) (k ∷ []) (flat_map part xs) (one_in k (part z) (subst (λ u. is_in k (part u) ≡ true) (sym (same_Some z x e)) s))
    (one_in k (flat_map part xs) (in_parts part xs m y k g t))
two_in part (z ∷ xs) (suc n) (suc m) x y k l e g s t =
    sublist_behind (k ∷ (k ∷ [])) (flat_map part xs) (part z) (two_in part xs n m x y k (omega (arith, l)) e g s t)

not_twice : {X : Type 0} (k : ℕ) (xs : List ℕ) → IsDistinct nat_eq xs → IsSublist (k ∷ (k ∷ [])) xs → X
unfolding IsDistinct
not_twice k xs once twice = absurd (let d = (sublist_distinct (k ∷ (k ∷ [])) xs twice once).0.0 in let e = eq-eqb k k refl in cc)

one_part : {A : Type 0} (part : A → List ℕ) (xs : List A) (n m : ℕ) (x y : A) (k : ℕ) → IsDistinct nat_eq (flat_map part xs) → slice_get xs n ≡ Some x → slice_get xs m ≡ Some y →
    is_in k (part x) ≡ true → is_in k (part y) ≡ true → n ≡ m
one_part part xs n m x y k once e g s t = elim (cases_lt n m) [
  | inl l ↦ not_twice k (flat_map part xs) once (two_in part xs n m x y k l e g s t)
  | inr l ↦ elim (cases_lt m n) [
    | inl u ↦ not_twice k (flat_map part xs) once (two_in part xs m n y x k u g e t s)
    | inr u ↦ omega (arith, l, u)
  ]
]

-- ---- the instruction that makes a call

abbrev place_in : Inst → List ℕ
place_in inst = cons_option (call_place inst.op) []

places_are : (insts : List Inst) → filter_map (λ (i : Inst). call_place i.op) insts ≡ flat_map place_in insts
places_are [] = refl
places_are (inst ∷ insts) = ap (cons_option (call_place inst.op)) (places_are insts) ∙ split (call_place inst.op)
  where
    split : (o : Option ℕ) → cons_option o (flat_map place_in insts) ≡ cons_option o [] ++ flat_map place_in insts
    split None = refl
    split (Some k) = refl

makes : (k : ℕ) (inst : Inst) (width : Option ℕ) → inst.op ≡ Op.Call width k → is_in k (place_in inst) ≡ true
makes k inst width is = subst (λ op. is_in k (cons_option (call_place op) []) ≡ true) (sym is) (in_first k k [] refl)

record IsOneLine (b b' i i' : ℕ) : Type 0 where
  block : b ≡ b'
  line : i ≡ i'

module _ (f : Function) (printable : IsPrintable f) where
  calls_once : IsDistinct nat_eq (flat_map block_call_places f.blocks)
  calls_once = subst (IsDistinct nat_eq) (sym printable.call_places) (range_distinct 0 (length f.calls))

  one_line : (b b' : ℕ) (block block' : Block) (i i' : ℕ) (inst inst' : Inst) (width width' : Option ℕ) (k : ℕ) → IsLine f b block i inst → IsLine f b' block' i' inst' →
      inst.op ≡ Op.Call width k → inst'.op ≡ Op.Call width' k → IsOneLine b b' i i'
  one_line b b' block block' i i' inst inst' width width' k line line' is is' =
      let here = in_lines block i inst width line.stands is in
      let place : b ≡ b' = one_part block_call_places f.blocks b b' block block' k calls_once line.there line'.there here (in_lines block' i' inst' width' line'.stands is') in
      let same : block ≡ block' = let p = line.there in let q = line'.there in cc in
      let own : IsDistinct nat_eq (flat_map place_in block.insts) =
      subst (IsDistinct nat_eq) (places_are block.insts)
      (sublist_distinct (block_call_places block) (flat_map block_call_places f.blocks) (part_among block_call_places f.blocks b block line.there) calls_once) in
      record {
        block = place;
        line = one_part place_in block.insts i i' inst inst' k own line.stands (ap (λ (c : Block). slice_get c.insts i') same ∙ line'.stands) (makes k inst width is) (makes k inst' width' is');
      }
    where
      in_lines : (c : Block) (j : ℕ) (x : Inst) (w : Option ℕ) → slice_get c.insts j ≡ Some x → x.op ≡ Op.Call w k → is_in k (block_call_places c) ≡ true
      in_lines c j x w stands call =
          subst (λ ks. is_in k ks ≡ true) (sym (places_are c.insts)) (in_parts place_in c.insts j x k stands (makes k x w call))

  -- ---- where a call is put

  record MakesCall (op : Op) (k : ℕ) : Type 0 where
    width : Option ℕ
    is : op ≡ Op.Call width k

  call_made : (k : ℕ) (op : Op) → makes_call k op ≡ true → MakesCall op k
  call_made k (Op.Call width call) t = record { width = width; is = ap (Op.Call width) (eqb-true call k t) }
  call_made k (Op.Bin bin flags w a b) t = absurd (cc)
  call_made k (Op.Icmp pred samesign w a b) t = absurd (cc)
  call_made k (Op.Select w c a b) t = absurd (cc)
  call_made k (Op.Cast cast flags v w a) t = absurd (cc)
  call_made k (Op.Freeze w a) t = absurd (cc)
  call_made k (Op.Two fun w a b) t = absurd (cc)
  call_made k (Op.One fun w a strict) t = absurd (cc)
  call_made k (Op.Over over w a b) t = absurd (cc)
  call_made k (Op.Part w pair index) t = absurd (cc)
  call_made k (Op.Assume c) t = absurd (cc)

  module _ (found : Findings) (reached : ℕ → Bool) where
    -- an instruction of a block that is left, which a run may come to, makes the call
    pub record IsCalledAt (k : ℕ) (place : Place) : Type 0 where
      pub b : ℕ
      pub i : ℕ
      pub block : Block
      pub inst : Inst
      pub width : Option ℕ
      pub line : IsLine f b block i inst
      pub reached_block : reached b ≡ true
      pub met : found.met b i ≡ true
      pub calls : inst.op ≡ Op.Call width k
      pub is : At b i ≡ place

    line_calls : (k b i : ℕ) (block : Block) (inst : Inst) (place : Place) → IsLine f b block i inst → reached b ≡ true → call_place_in found k b i inst ≡ Some place → IsCalledAt k place
    line_calls k b i block inst place line left h = by (found.met b i) (makes_call k inst.op) refl refl h
      where
        by : (s t : Bool) → found.met b i ≡ s → makes_call k inst.op ≡ t → (if s && t then Some (At b i) else None) ≡ Some place → IsCalledAt k place
        by true true e g h =
            let c = call_made k inst.op g in
            record { b = b; i = i; block = block; inst = inst; width = c.width; line = line; reached_block = left; met = e; calls = c.is; is = same_Some (At b i) place h }
        by true false e g h = absurd (cc)
        by false t e g h = absurd (cc)

    pub called_is : (k : ℕ) (place : Place) → place_of_call f found reached k ≡ Some place → IsCalledAt k place
    called_is k place h = let r = looked_up f reached (call_place_in found k) place h in line_calls k r.b r.i r.block r.inst place r.line r.is_left r.is

    none_calls : (k : ℕ) → place_of_call f found reached k ≡ None → (place : Place) → IsCalledAt k place → ⊥
    none_calls k h place r =
        let is : call_place_in found k r.b r.i r.inst ≡ Some (At r.b r.i) =
        ap (λ t. if t && makes_call k r.inst.op then Some (At r.b r.i) else None) r.met
        ∙ ap (λ op. if makes_call k op then Some (At r.b r.i) else None) r.calls
        ∙ ap (λ t. if t then Some (At r.b r.i) else None) (eq-eqb k k refl) in
        none_is_given f reached (call_place_in found k) h (At r.b r.i)
        (record { b = r.b; i = r.i; block = r.block; inst = r.inst; line = r.line; is_left = r.reached_block; is = is })

    -- the arguments of a call that an instruction left makes are put there
    pub argument_put : (k b i : ℕ) (block : Block) (inst : Inst) (width : Option ℕ) (a : Operand) → IsLine f b block i inst → reached b ≡ true → found.met b i ≡ true →
        inst.op ≡ Op.Call width k → put_call_at f found reached k a ≡ put_at f found (At b i) a
    argument_put k b i block inst width a line left met calls = ap (λ o. put_if f found o a) (by (place_of_call f found reached k) refl)
      where
        by : (o : Option Place) → place_of_call f found reached k ≡ o → place_of_call f found reached k ≡ Some (At b i)
        by None e = absurd (none_calls k e (At b i)
            (record { b = b; i = i; block = block; inst = inst; width = width; line = line; reached_block = left; met = met; calls = calls; is = refl }))
        by (Some place) e =
            let r = called_is k place e in
            let one = one_line r.b b r.block block r.i i r.inst inst r.width width k r.line line r.calls calls in
            e ∙ ap Some (sym r.is ∙ ap (λ c. At c r.i) one.block ∙ ap (At b) one.line)

    -- those of a call that none makes stay
    pub argument_stays : (k : ℕ) (a : Operand) → ((place : Place) → IsCalledAt k place → ⊥) → put_call_at f found reached k a ≡ a
    argument_stays k a none = by (place_of_call f found reached k) refl
      where
        by : (o : Option Place) → place_of_call f found reached k ≡ o → put_if f found o a ≡ a
        by None e = refl
        by (Some place) e = absurd (none place (called_is k place e))
