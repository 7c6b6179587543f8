-- One element more, in the loops that number a function.
use Rattle.std.proofs.Common.{◌≡◌, Result, Ok, Err, IfOk, ℕ, zero, suc, ◌+◌, ◌<◌, ◌≤◌, Bool, true, false, nat_eq, nat_lt, List, [], ◌∷◌, ◌++◌, map, flat_map, take, drop, length, get_or, sym, ap, ◌∙◌, subst, arith, add-one, append_assoc, append-nil}
use Rattle.std.proofs.Math.Seq.{drop-cons}
use Rattle.std.proofs.lemmas.List.{map-append, take_more}
use Rattle.std.proofs.lemmas.List.Concat.{flat_map-append}
use Rattle.std.proofs.lemmas.List.Elements.{filter-append, filter_map-append}
use Rattle.std.proofs.lemmas.Bool.Decides.{nat_tests}
use Rattle.std.proofs.lemmas.Option.{slice_get_past}
use Rattle.std.specs.List.{IsDistinct, cons_option, filter, range_with_len, slice_get}
use Rattle.vfa_ir.specs.declared.functions.Function.{Function}
use Rattle.vfa_ir.specs.declared.functions.Param.{Param}
use Rattle.vfa_ir.specs.Printable.{block_call_places, block_ids}
use Rattle.vfa_ir.specs.Walks.{is_in}
use Rattle.vfa_mean.specs.Numbering.{kept_calls, kept_numbers, kept_values}
use Rattle.vfa_mean.specs.Renaming.{Order, at_places}

at_more : {X : Type 0} (xs : List X) (places : List ℕ) (i : ℕ) → i < length places →
    at_places xs (take (i + 1) places) ≡ at_places xs (take i places) ++ at_places xs (get_or places i 0 ∷ [])
at_more xs places i l =
    ap (at_places xs) (take_more places i 0 l) ∙ filter_map-append (slice_get xs) (take i places) (get_or places i 0 ∷ [])

-- what is made of the elements at places, as far as the loop has come
pub made_more : {X Y : Type 0} (f : X → Y) (xs : List X) (places : List ℕ) (i : ℕ) (n : ℕ) (old new : List Y) → i < length places → n ≡ get_or places i 0 →
    old ≡ map f (at_places xs (take i places)) → new ≡ old ++ map f (at_places xs (n ∷ [])) → new ≡ map f (at_places xs (take (i + 1) places))
made_more f xs places i n old new l is so_far more =
    more ∙ ap (λ r. r ++ map f (at_places xs (n ∷ []))) so_far
    ∙ ap (λ k. map f (at_places xs (take i places)) ++ map f (at_places xs (k ∷ []))) is
    ∙ sym (map-append f (at_places xs (take i places)) (at_places xs (get_or places i 0 ∷ [])))
    ∙ sym (ap (map f) (at_more xs places i l))

pub taken_more : {X : Type 0} (xs : List X) (places : List ℕ) (i : ℕ) (n : ℕ) (old new : List X) → i < length places → n ≡ get_or places i 0 →
    old ≡ at_places xs (take i places) → new ≡ old ++ at_places xs (n ∷ []) → new ≡ at_places xs (take (i + 1) places)
taken_more xs places i n old new l is so_far more =
    more ∙ ap (λ r. r ++ at_places xs (n ∷ [])) so_far ∙ ap (λ k. at_places xs (take i places) ++ at_places xs (k ∷ [])) is ∙ sym (at_more xs places i l)

-- what is left is that of the next place and what is left then
pub left_more : {X : Type 0} (g : X → List ℕ) (xs : List X) (places : List ℕ) (i n : ℕ) (whole old new : List ℕ) → i < length places → n ≡ get_or places i 0 →
    whole ≡ old ++ flat_map g (at_places xs (drop i places)) → new ≡ old ++ flat_map g (at_places xs (n ∷ [])) →
    whole ≡ new ++ flat_map g (at_places xs (drop (i + 1) places))
left_more g xs places i n whole old new l is so_far more =
    let x : ℕ = get_or places i 0 in
    so_far
    ∙ ap (λ ps. old ++ flat_map g (at_places xs ps)) (drop-cons places i 0 l)
    ∙ ap (λ ys. old ++ flat_map g ys) (filter_map-append (slice_get xs) (x ∷ []) (drop (suc i) places))
    ∙ ap (λ ys. old ++ ys) (flat_map-append g (at_places xs (x ∷ [])) (at_places xs (drop (suc i) places)))
    ∙ sym (append_assoc old (flat_map g (at_places xs (x ∷ []))) (flat_map g (at_places xs (drop (suc i) places))))
    ∙ ap (λ k. (old ++ flat_map g (at_places xs (k ∷ []))) ++ flat_map g (at_places xs (drop (suc i) places))) (sym is)
    ∙ ap (λ r. r ++ flat_map g (at_places xs (drop (suc i) places))) (sym more)
    ∙ ap (λ k. new ++ flat_map g (at_places xs (drop k places))) (sym (add-one i))

range_more : (a n : ℕ) → range_with_len a (suc n) ≡ range_with_len a n ++ (a + n) ∷ []
range_more a zero = ap (λ k. k ∷ []) (omega arith)
range_more a (suc n) = ap (λ r. a ∷ r) (range_more (a + 1) n ∙ ap (λ k. range_with_len (a + 1) n ++ k ∷ []) (omega arith))

pub marked_more : (p : ℕ → Bool) (i : ℕ) (old new : List ℕ) → old ≡ filter p (range_with_len 0 i) → new ≡ old ++ filter p (i ∷ []) →
    new ≡ filter p (range_with_len 0 (i + 1))
marked_more p i old new so_far more =
    let none_before : 0 + i ≡ i = omega arith in
    more ∙ ap (λ r. r ++ filter p (i ∷ [])) so_far
    ∙ sym (filter-append p (range_with_len 0 i) (i ∷ []))
    ∙ ap (λ k. filter p (range_with_len 0 i ++ k ∷ [])) (sym none_before)
    ∙ ap (filter p) (sym (range_more 0 i))
    ∙ ap (λ k. filter p (range_with_len 0 k)) (sym (add-one i))

-- where there is nothing at a place, nothing stands there
pub nothing_more : {X Y : Type 0} (f : X → Y) (xs : List X) (i : ℕ) (old : List Y) → false ≡ nat_lt i (length xs) → old ≡ old ++ map f (at_places xs (i ∷ []))
nothing_more {X} {Y} f xs i old h =
    let past : length xs ≤ i = beyond i (length xs) (sym h) in
    sym (append-nil old) ∙ ap (λ o. old ++ map f (cons_option o [])) (sym (slice_get_past xs i past))
  where
    beyond : (a b : ℕ) → nat_lt a b ≡ false → b ≤ a
    beyond a b e = grind (arith, nat_tests)

pub nothing_taken : {X : Type 0} (xs : List X) (i : ℕ) (old : List X) → false ≡ nat_lt i (length xs) → old ≡ old ++ at_places xs (i ∷ [])
nothing_taken {X} xs i old h =
    let past : length xs ≤ i = beyond i (length xs) (sym h) in
    sym (append-nil old) ∙ ap (λ o. old ++ cons_option o []) (sym (slice_get_past xs i past))
  where
    beyond : (a b : ℕ) → nat_lt a b ≡ false → b ≤ a
    beyond a b e = grind (arith, nat_tests)

-- ---- the order of what is kept

abbrev pub order : List ℕ → List ℕ → List ℕ → Order
order values blocks calls = record { values = values; blocks = blocks; calls = calls }

pub within_of : (items numbers : List ℕ) (limit count : ℕ) → items ≡ numbers → limit ≡ count → ((n : ℕ) → is_in n numbers ≡ true → n < count) →
    (n : ℕ) → is_in n items ≡ true → n < limit
within_of items numbers limit count same long within n there = subst (λ m. n < m) (sym long) (within n (subst (λ ns. is_in n ns ≡ true) same there))

pub once_of : (items numbers : List ℕ) → items ≡ numbers → IsDistinct nat_eq numbers → IsDistinct nat_eq items
once_of items numbers same once = subst (IsDistinct nat_eq) (sym same) once

pub same_order : (v v' b b' c c' : List ℕ) → v ≡ v' → b ≡ b' → c ≡ c' → order v b c ≡ order v' b' c'
same_order v v' b b' c c' e f g = ap (λ x. order x b c) e ∙ ap (λ x. order v' x c) f ∙ ap (λ x. order v' b' x) g

pub values_kept : (f : Function) (keeps : ℕ → Bool) (numbers numbers' ids : List ℕ) → numbers' ≡ numbers → numbers ≡ kept_numbers f keeps →
    ids ≡ map (λ (p : Param). p.value.0) f.params ++ flat_map block_ids (at_places f.blocks numbers') → ids ≡ kept_values f keeps
values_kept f keeps numbers numbers' ids e s k =
    k ∙ ap (λ ns. map (λ (p : Param). p.value.0) f.params ++ flat_map block_ids (at_places f.blocks ns)) (e ∙ s)

pub calls_kept : (f : Function) (keeps : ℕ → Bool) (numbers numbers' calls : List ℕ) → numbers' ≡ numbers → numbers ≡ kept_numbers f keeps →
    calls ≡ flat_map block_call_places (at_places f.blocks numbers') → calls ≡ kept_calls f keeps
calls_kept f keeps numbers numbers' calls e s k = k ∙ ap (λ ns. flat_map block_call_places (at_places f.blocks ns)) (e ∙ s)

-- ---- a function of its parts

pub record AreParts (f g : Function) : Type 0 where
  pub name : f.name ≡ g.name
  pub lead : f.lead ≡ g.lead
  pub width : f.width ≡ g.width
  pub params : f.params ≡ g.params
  pub tail : f.tail ≡ g.tail
  pub values : f.values ≡ g.values
  pub blocks : f.blocks ≡ g.blocks
  pub calls : f.calls ≡ g.calls

pub same_function : (f g : Function) → AreParts f g → f ≡ g
same_function f g e =
    let one : f ≡ record f { name = g.name } = ap (λ x. record f { name = x }) e.name in
    let two : record f { name = g.name } ≡ record f { name = g.name; lead = g.lead } = ap (λ x. record f { name = g.name; lead = x }) e.lead in
    let three = ap (λ x. record f { name = g.name; lead = g.lead; width = x }) e.width in
    let four = ap (λ x. record f { name = g.name; lead = g.lead; width = g.width; params = x }) e.params in
    let five = ap (λ x. record f { name = g.name; lead = g.lead; width = g.width; params = g.params; tail = x }) e.tail in
    let six = ap (λ x. record f { name = g.name; lead = g.lead; width = g.width; params = g.params; tail = g.tail; values = x }) e.values in
    let seven = ap (λ x. record f { name = g.name; lead = g.lead; width = g.width; params = g.params; tail = g.tail; values = g.values; blocks = x }) e.blocks in
    let eight = ap (λ x. record f { name = g.name; lead = g.lead; width = g.width; params = g.params; tail = g.tail; values = g.values; blocks = g.blocks; calls = x }) e.calls in
    one ∙ two ∙ three ∙ four ∙ five ∙ six ∙ seven ∙ eight

pub ok_weaker : {X E : Type 0} (P Q : X → Type 0) (r : Result X E) → ((x : X) → P x → Q x) → IfOk r P → IfOk r Q
ok_weaker P Q (Ok x) f h = f x h
ok_weaker P Q (Err e) f h = tt
