-- What is put in place of the operands of entries, block by block.
use Rattle.std.proofs.Common.{◌≡◌, ◌<◌, ◌≤◌, ◌+◌, ℕ, suc, Bool, true, false, nat_eq, if◌then◌else◌, Option, Some, None, is_some, List, [], ◌∷◌, map, set, length, get_or, refl, sym, ap, ◌∙◌, arith}
use Rattle.std.specs.Prelude.{slice_get, slice_index_or}
use Rattle.std.proofs.lemmas.Bool.{eqb-true, eqb-false}
use Rattle.std.proofs.lemmas.List.{get_or-set_other, get_or-set_same, length-set}
use Rattle.std.proofs.lemmas.Option.{same_Some, slice_get-get_or, slice_get_within}
use Rattle.vfa_ir.specs.declared.operations.BlockId.{BlockId}
use Rattle.vfa_ir.specs.declared.operations.Operand.{Operand}
use Rattle.vfa_rewrite.specs.Putting.{ArePutFrom, put_if_from, put_or_poison}

-- ---- the entries of one block

any_default : {A : Type 0} (l : List A) (k : ℕ) (d e : A) → k < length l → get_or l k d ≡ get_or l k e
any_default l k d e less = same_Some (get_or l k d) (get_or l k e) (sym (slice_get-get_or l k d less) ∙ slice_get-get_or l k e less)

module _ (p : ℕ) (put : Operand → Operand) (es : List (Operand × BlockId)) (old : List (Option Operand)) (j : ℕ) (now new : List (Option Operand)) (so_far : ArePutFrom p put es old j now)
    (d : Operand × BlockId) (less : j < length es) (inside : j < length now) (v w : Option Operand) (is : new ≡ set now j v) (w_is : w ≡ get_or now j w)
    (made_by : v ≡ put_if_from p put (get_or es j d) w) where
  made : v ≡ put_if_from p put (get_or es j d) (slice_index_or now j None)
  made = made_by ∙ ap (put_if_from p put (get_or es j d)) (w_is ∙ any_default now j w None inside)

  here : slice_index_or new j None ≡ v
  here = ap (λ l. slice_index_or l j None) is ∙ get_or-set_same now j v None inside

  other : (i : ℕ) → (i ≡ j → ⊥) → slice_index_or new i None ≡ slice_index_or now i None
  other i apart = ap (λ l. slice_index_or l i None) is ∙ get_or-set_other now j i v None apart

  pub one_put : ArePutFrom p put es old (j + 1) new
  one_put = record {
    count = ap length is ∙ (length-set now j v ∙ so_far.count);
    before = λ i e below h. by i e below h (nat_eq i j) refl;
    rest = λ i past. other i (λ same. omega (arith, past, same)) ∙ so_far.rest i (omega (arith, past));
  }
    where
      by : (i : ℕ) (e : Operand × BlockId) → i < j + 1 → slice_get es i ≡ Some e → (t : Bool) → nat_eq i j ≡ t → slice_index_or new i None ≡ put_if_from p put e (slice_index_or old i None)
      by i e below h true same =
          let at = eqb-true i j same in
          let entry : get_or es j d ≡ e = same_Some (get_or es j d) e (sym (slice_get-get_or es j d less) ∙ (ap (slice_get es) (sym at) ∙ h)) in
          ap (λ n. slice_index_or new n None) at
          ∙ (here ∙ (made ∙ (λ x. put_if_from p put (entry x) ((so_far.rest j (omega arith) ∙ ap (λ n. slice_index_or old n None) (sym at)) x))))
      by i e below h false apart =
          let not_here = eqb-false i j apart in
          other i not_here ∙ so_far.before i e (omega (arith, below, not_here)) h

-- ---- all blocks

pub record AreDone (g : Operand × BlockId → Operand) (es : List (Operand × BlockId)) (k : ℕ) (now : List (Option Operand)) : Type 0 where
  pub count : length now ≡ length es
  pub sound : (j : ℕ) (e : Operand × BlockId) (x : Operand) → slice_get es j ≡ Some e → slice_index_or now j None ≡ Some x → x ≡ g e
  pub done : (j : ℕ) → j < k → j < length es → is_some (slice_index_or now j None) ≡ true

pub one_skipped : (g : Operand × BlockId → Operand) (es : List (Operand × BlockId)) (k : ℕ) (now : List (Option Operand)) (d : Option Operand) → AreDone g es k now → k < length es → is_some (get_or now k d) ≡ true →
    AreDone g es (k + 1) now
one_skipped g es k now d so_far less some = record { count = so_far.count; sound = so_far.sound; done = λ j below inside. by j below inside (nat_eq j k) refl }
  where
    by : (j : ℕ) → j < k + 1 → j < length es → (t : Bool) → nat_eq j k ≡ t → is_some (slice_index_or now j None) ≡ true
    by j below inside true same =
        ap (λ n. is_some (slice_index_or now n None)) (eqb-true j k same)
        ∙ (ap is_some (any_default now k None d (let count = so_far.count in omega (arith, count, less))) ∙ some)
    by j below inside false apart = let other = eqb-false j k apart in so_far.done j (omega (arith, below, other)) inside

module _ (g : Operand × BlockId → Operand) (es : List (Operand × BlockId)) (k : ℕ) (now new : List (Option Operand)) (so_far : AreDone g es k now) (d : Operand × BlockId) (less : k < length es)
    (put : Operand → Operand) (n : ℕ) (all : length es ≤ n) (puts : ArePutFrom (get_or es k d).1.0 put es now n new)
    (right : (e : Operand × BlockId) → e.1.0 ≡ (get_or es k d).1.0 → put e.0 ≡ g e) where
  abbrev p : ℕ
  p = (get_or es k d).1.0

  now_is : (j : ℕ) (e : Operand × BlockId) → slice_get es j ≡ Some e → slice_index_or new j None ≡ put_if_from p put e (slice_index_or now j None)
  now_is j e h = let inside = slice_get_within es j e h in puts.before j e (omega (arith, inside, all)) h

  sound_now : (j : ℕ) (e : Operand × BlockId) (x : Operand) → slice_get es j ≡ Some e → slice_index_or new j None ≡ Some x → x ≡ g e
  sound_now j e x h is = by (nat_eq e.1.0 p) refl (sym (now_is j e h) ∙ is)
    where
      by : (t : Bool) → nat_eq e.1.0 p ≡ t → (if t then Some (put e.0) else slice_index_or now j None) ≡ Some x → x ≡ g e
      by true same s = sym (same_Some (put e.0) x s) ∙ right e (eqb-true e.1.0 p same)
      by false apart s = so_far.sound j e x h s

  done_now : (j : ℕ) → j < k + 1 → j < length es → is_some (slice_index_or new j None) ≡ true
  done_now j below inside = ap is_some (now_is j (get_or es j d) (slice_get-get_or es j d inside)) ∙ by (nat_eq (get_or es j d).1.0 p) refl
    where
      by : (t : Bool) → nat_eq (get_or es j d).1.0 p ≡ t → is_some (if t then Some (put (get_or es j d).0) else slice_index_or now j None) ≡ true
      by true same = refl
      by false apart =
          let other : j ≡ k → ⊥ = λ same. eqb-false (get_or es j d).1.0 p apart (ap (λ i. (get_or es i d).1.0) same) in
          so_far.done j (omega (arith, below, other)) inside

  pub one_block_done : AreDone g es (k + 1) new
  one_block_done = record { count = puts.count ∙ so_far.count; sound = sound_now; done = done_now }

-- ---- at the end

each_put : (g : Operand × BlockId → Operand) (es : List (Operand × BlockId)) (now : List (Option Operand)) → length now ≡ length es →
    ((j : ℕ) (e : Operand × BlockId) → slice_get es j ≡ Some e → slice_index_or now j None ≡ Some (g e)) → map put_or_poison now ≡ map g es
each_put g [] [] count h = refl
each_put g [] (o ∷ now) count h = absurd (omega (arith, count))
each_put g (e ∷ es) [] count h = absurd (omega (arith, count))
each_put g (e ∷ es) (o ∷ now) count h = λ i. put_or_poison (h 0 e refl i) ∷ each_put g es now (omega (arith, count)) (λ j x s. h (suc j) x s) i

pub all_done : (g : Operand × BlockId → Operand) (es : List (Operand × BlockId)) (k : ℕ) (now : List (Option Operand)) → AreDone g es k now → length es ≤ k → map put_or_poison now ≡ map g es
all_done g es k now so_far all = each_put g es now so_far.count (λ j e h. by j e h (slice_index_or now j None) refl)
  where
    by : (j : ℕ) (e : Operand × BlockId) → slice_get es j ≡ Some e → (o : Option Operand) → slice_index_or now j None ≡ o → slice_index_or now j None ≡ Some (g e)
    by j e h None is =
        let inside = slice_get_within es j e h in
        absurd (let some = so_far.done j (omega (arith, inside, all)) inside in let none = ap is_some is in let e : false ≡ true = sym none ∙ some in cc)
    by j e h (Some x) is = is ∙ ap Some (so_far.sound j e x h is)

pub none_done : (g : Operand × BlockId → Operand) (es : List (Operand × BlockId)) (now : List (Option Operand)) → length now ≡ length es → ((j : ℕ) → slice_index_or now j None ≡ None) → AreDone g es 0 now
none_done g es now count none = record {
  count = count;
  sound = λ j e x h is. absurd (let e : None ≡ Some x = sym (none j) ∙ is in cc);
  done = λ j below inside. absurd (omega (arith, below));
}
