-- Decimals as names, and places in lists of names.
use Rattle.std.proofs.Common.{◌≡◌, ◌∙◌, ℕ, zero, suc, ◌+◌, ◌/◌, ◌%◌, ◌<◌, ◌≤◌, ◌^◌, if◌then◌else◌, Bool, true, false, ◌&&◌, ◌||◌, ◌==◌, cond, nat_lt, nat_le, List, [], ◌∷◌, map, length, Option, Some, None, unwrap_or, slice_get, decimal, bytes_eq, option_and_then, refl, sym, ap, arith, add-one, lt-ltb, le-leb}
use Rattle.std.specs.Char.{is_ascii_digit}
use Rattle.std.specs.Fmt.{digits, digits_onto, digit_glyph}
use Rattle.std.specs.List.{list_all, range_with_len, position_or_len}
use Rattle.std.specs.Str.Parse.{digits_value}
use Rattle.std.proofs.lemmas.Fmt.{decimal_is_IsNumeral_wide}
use Rattle.std.proofs.lemmas.List.FromFn.{length-map-range_with_len}
use Rattle.vfa_ir.specs.Resolution.{place_of}
use Rattle.vfa_ir.specs.Words.{is_among, is_digits}
use Rattle.vfa_print.specs.Trees.{name_at}
use Rattle.vfa_print.proofs.DistinctNames.{same_itself, same_text}

-- a text that is no other
pub other_text : (a b : List ℕ) → (a ≡ b → ⊥) → bytes_eq a b ≡ false
other_text a b differ = by (bytes_eq a b) refl
  where
    by : (t : Bool) → bytes_eq a b ≡ t → bytes_eq a b ≡ false
    by true e = absurd (differ (same_text a b e))
    by false e = e

-- decimals
glyph_is_digit : (d : ℕ) → d < 10 → is_ascii_digit (digit_glyph false d) ≡ true
glyph_is_digit d h =
    let small : nat_lt d 10 ≡ true = lt-ltb d 10 h in
    let a : nat_le 48 (48 + d) ≡ true = le-leb 48 (48 + d) (omega arith) in
    let b : nat_le (48 + d) 57 ≡ true = le-leb (48 + d) 57 (omega arith) in
    rw small (rw (a, b) refl)

digits_stay :
    (k n : ℕ) (acc : List ℕ) → list_all is_ascii_digit acc ≡ true →
    list_all is_ascii_digit (digits_onto k 10 false n acc) ≡ true
digits_stay zero n acc h = h
digits_stay (suc k) n acc h =
    let prefix : List ℕ = digit_glyph false (n % 10) ∷ acc in
    let small : n % 10 < 10 = omega arith in
    let all : list_all is_ascii_digit prefix ≡ true =
    ap (λ b. b && list_all is_ascii_digit acc) (glyph_is_digit (n % 10) small) ∙ h in
    by (n / 10 == 0) prefix all (digits_stay k (n / 10) prefix all)
  where
    by :
        (b : Bool) (prefix : List ℕ) → list_all is_ascii_digit prefix ≡ true →
        list_all is_ascii_digit (digits_onto k 10 false (n / 10) prefix) ≡ true →
        list_all is_ascii_digit (if b then prefix else digits_onto k 10 false (n / 10) prefix) ≡ true
    by true prefix all left = all
    by false prefix all left = left

digits_grow : (k n : ℕ) (acc : List ℕ) → length acc ≤ length (digits_onto k 10 false n acc)
digits_grow zero n acc = omega arith
digits_grow (suc k) n acc =
    let prefix : List ℕ = digit_glyph false (n % 10) ∷ acc in by (n / 10 == 0) prefix (omega arith) (digits_grow k (n / 10) prefix)
  where
    by :
        (b : Bool) (prefix : List ℕ) → length acc ≤ length prefix → length prefix ≤ length (digits_onto k 10 false (n / 10) prefix) →
        length acc ≤ length (if b then prefix else digits_onto k 10 false (n / 10) prefix)
    by true prefix more left = more
    by false prefix more left = omega (arith, more, left)

digits_some : (k n : ℕ) → 0 < length (digits_onto (suc k) 10 false n [])
digits_some k n = by (n / 10 == 0)
  where
    prefix : List ℕ
    prefix = digit_glyph false (n % 10) ∷ []

    by : (b : Bool) → 0 < length (if b then prefix else digits_onto k 10 false (n / 10) prefix)
    by true = omega arith
    by false = let more = digits_grow k (n / 10) prefix in omega (arith, more)

are_digits : (ds : List ℕ) → 0 < length ds → list_all is_ascii_digit ds ≡ true → is_digits ds ≡ true
are_digits [] h d = absurd (omega arith)
are_digits (c ∷ cs) h d = d

pub decimal_is_digits : (n : ℕ) → is_digits (decimal n) ≡ true
unfolding digits
decimal_is_digits n = are_digits (digits_onto 64 10 false n []) (digits_some 63 n) (digits_stay 64 n [] refl)

pub decimal_value : (n : ℕ) → n < 10 ^ 64 → digits_value 10 (decimal n) ≡ n
decimal_value n h = (decimal_is_IsNumeral_wide n h).1

pub decimal_same : (m n : ℕ) → m < 10 ^ 64 → n < 10 ^ 64 → decimal m ≡ decimal n → m ≡ n
decimal_same m n h k e = sym (decimal_value m h) ∙ ap (digits_value 10) e ∙ decimal_value n k

-- lists over the numbers from one on
pub slice_get-range : {X : Type 0} (g : ℕ → X) (a n i : ℕ) → i < n → slice_get (map g (range_with_len a n)) i ≡ Some (g (a + i))
slice_get-range g a zero i h = absurd (omega arith)
slice_get-range g a (suc n) zero h = let e : a ≡ a + 0 = omega arith in ap (λ k. Some (g k)) e
slice_get-range g a (suc n) (suc i) h =
    let e : a + 1 + i ≡ a + suc i = omega arith in slice_get-range g (a + 1) n i (omega arith) ∙ ap (λ k. Some (g k)) e

pub name_at-range : (g : ℕ → List ℕ) (n i : ℕ) → i < n → name_at (map g (range_with_len 0 n)) i ≡ g i
name_at-range g n i h =
    let e : 0 + i ≡ i = omega arith in
    ap (λ o. unwrap_or o []) (slice_get-range g 0 n i h ∙ ap (λ k. Some (g k)) e)

-- the place of the first that passes
position-range :
    {X : Type 0} (g : ℕ → X) (p : X → Bool) (a n k : ℕ) → k < n → p (g (a + k)) ≡ true →
    ((i : ℕ) → i < k → p (g (a + i)) ≡ false) → position_or_len p (map g (range_with_len a n)) ≡ k
position-range g p a zero k h here before = absurd (omega arith)
position-range g p a (suc n) zero h here before =
    let e : a + 0 ≡ a = omega arith in
    let now : p (g a) ≡ true = ap (λ i. p (g i)) (sym e) ∙ here in
    rw now refl
position-range g p a (suc n) (suc k) h here before =
    let e : a + 0 ≡ a = omega arith in
    let now : p (g a) ≡ false = ap (λ i. p (g i)) (sym e) ∙ before 0 (omega arith) in
    let at : a + suc k ≡ a + 1 + k = omega arith in
    let left = position-range g p (a + 1) n k (omega arith) (ap (λ i. p (g i)) (sym at) ∙ here)
    (λ i small. let is : a + 1 + i ≡ a + suc i = omega arith in ap (λ j. p (g j)) is ∙ before (suc i) (omega arith)) in
    let one : 1 + k ≡ suc k = omega arith in
    rw now (ap (λ m. 1 + m) left ∙ one)

if_within : (b : Bool) (k : ℕ) → b ≡ true → unwrap_or (cond b (Some k) None) 0 ≡ k
if_within true k e = refl
if_within false k e = cc

-- names that differ stand each at its own place
pub place-range :
    (g : ℕ → List ℕ) (n : ℕ) → ((i j : ℕ) → i < n → j < n → g i ≡ g j → i ≡ j) → (k : ℕ) → k < n →
    place_of (map g (range_with_len 0 n)) (g k) ≡ k
place-range g n differ k h =
    let names : List (List ℕ) = map g (range_with_len 0 n) in
    let p : List ℕ → Bool = bytes_eq (g k) in
    let zero_k : 0 + k ≡ k = omega arith in
    let at : position_or_len p names ≡ k = position-range g p 0 n k h (ap (λ i. p (g i)) zero_k ∙ same_itself (g k))
    (λ i small. let zero_i : 0 + i ≡ i = omega arith in ap (λ j. p (g j)) zero_i
    ∙ other_text (g k) (g i) (λ e. let no = differ k i h (omega arith) e in absurd (omega arith))) in
    let long : length names ≡ n = length-map-range_with_len g 0 n in
    let within : nat_lt k n ≡ true = lt-ltb k n h in
    ap (λ m. unwrap_or (cond (nat_lt m (length names)) (Some m) None) 0) at
    ∙ ap (λ m. unwrap_or (cond (nat_lt k m) (Some k) None) 0) long ∙ if_within (nat_lt k n) k within

pub or_true : (a b : Bool) → b ≡ true → (a || b) ≡ true
or_true true b e = refl
or_true false b e = e

pub among-range : (g : ℕ → List ℕ) (a n k : ℕ) → k < n → is_among (g (a + k)) (map g (range_with_len a n)) ≡ true
among-range g a zero k h = absurd (omega arith)
among-range g a (suc n) zero h =
    let e : a + 0 ≡ a = omega arith in
    let now : bytes_eq (g (a + 0)) (g a) ≡ true = ap (λ i. bytes_eq (g i) (g a)) e ∙ same_itself (g a) in
    ap (λ b. b || is_among (g (a + 0)) (map g (range_with_len (a + 1) n))) now
among-range g a (suc n) (suc k) h =
    let e : a + suc k ≡ a + 1 + k = omega arith in
    or_true (bytes_eq (g (a + suc k)) (g a)) _
    (ap (λ i. is_among (g i) (map g (range_with_len (a + 1) n))) e ∙ among-range g (a + 1) n k (omega arith))

-- one further on
pub shifted : {X : Type 0} (h : ℕ → X) (a n : ℕ) → map h (range_with_len (a + 1) n) ≡ map (λ i. h (suc i)) (range_with_len a n)
shifted h a zero = refl
shifted h a (suc n) = ap (λ k. h k ∷ map h (range_with_len (a + 1 + 1) n)) (add-one a) ∙ ap (λ l. h (suc a) ∷ l) (shifted h (a + 1) n)

-- what each element has, by place
pub by_place : {X Y : Type 0} (g : X → Option Y) (xs : List X) → map (λ i. option_and_then g (slice_get xs i)) (range_with_len 0 (length xs)) ≡ map g xs
by_place g [] = refl
by_place g (x ∷ xs) = ap (λ l. g x ∷ l) (shifted (λ i. option_and_then g (slice_get (x ∷ xs) i)) 0 (length xs) ∙ by_place g xs)
