-- The landmarks of a width are landmarks as a domain asks for them.
use Rattle.std.proofs.Common.{◌≡◌, ◌<◌, ◌-◌, ◌^◌, ℕ, true, nat_eq, List, [], ◌∷◌, length, refl, arith, eq-eqb}
use Rattle.std.specs.List.{range_with_len}
use Rattle.std.specs.List.Sorted.{IsNonDecreasing}
use Rattle.std.proofs.lemmas.List.Elements.{All-filter}
use Rattle.std.proofs.lemmas.List.FromFn.{length-range_with_len, get_or-range_with_len}
use Rattle.std.proofs.lemmas.List.Kept.{IsNonDecreasingBy-filter}
use Rattle.std.proofs.lemmas.Nat.{pow_pos, pow_below}
use Rattle.vfa_ir.specs.declared.functions.Function.{Function}
use Rattle.vfa_ir.specs.Words.{is_in}
use Rattle.vfa_word.specs.Numbers.{IsWidth}
use Rattle.vfa_cfg.proofs.Members.{or_left, or_right}
use Rattle.vfa_values.specs.Conditions.{AreLandmarks}
use Rattle.vfa_walk.specs.Landmarks.{ends_of, literals, is_landmark, landmarks}
use Rattle.vfa_walk.proofs.Rising.{in_range, range_below}

range_ascends : (n : ℕ) → IsNonDecreasing (range_with_len 0 n)
range_ascends n i j d le less =
    let count : length (range_with_len 0 n) ≡ n = length-range_with_len 0 n in
    let first = get_or-range_with_len 0 n i d (omega arith) in
    let second = get_or-range_with_len 0 n j d (omega arith) in
    omega (arith, first, second)

is_end : (f : Function) (w x : ℕ) → is_in x (ends_of w) ≡ true → is_landmark f w x ≡ true
is_end f w x here = or_left (is_in x (ends_of w)) (is_in x (literals f w)) here

second_in : (a x : ℕ) (xs : List ℕ) → is_in x (a ∷ x ∷ xs) ≡ true
second_in a x xs = or_right (nat_eq x a) (is_in x (x ∷ xs)) (or_left (nat_eq x x) (is_in x xs) (eq-eqb x x refl))

third_in : (a b x : ℕ) (xs : List ℕ) → is_in x (a ∷ b ∷ x ∷ xs) ≡ true
third_in a b x xs = or_right (nat_eq x a) (is_in x (b ∷ x ∷ xs)) (second_in b x xs)

fourth_in : (a b c x : ℕ) (xs : List ℕ) → is_in x (a ∷ b ∷ c ∷ x ∷ xs) ≡ true
fourth_in a b c x xs = or_right (nat_eq x a) (is_in x (b ∷ c ∷ x ∷ xs)) (third_in b c x xs)

pub are_landmarks : (f : Function) (w : ℕ) → IsWidth w → AreLandmarks w (landmarks f w)
unfolding landmarks
are_landmarks f w width =
    let some : 0 < 2 ^ w = pow_pos w in
    let half : 0 < 2 ^ (w - 1) = pow_pos (w - 1) in
    let least = width.least in
    let less : 2 ^ (w - 1) < 2 ^ w = pow_below (w - 1) w (omega arith) in
    record {
      ascending = IsNonDecreasingBy-filter (λ x. x) (is_landmark f w) (range_with_len 0 (2 ^ w)) (range_ascends (2 ^ w));
      fit = All-filter (is_landmark f w) (λ m. m < 2 ^ w) (range_with_len 0 (2 ^ w)) (range_below (2 ^ w));
      least = in_range (is_landmark f w) 0 0 (2 ^ w) (omega arith) (omega arith) (is_end f w 0 refl);
      greatest_signed = in_range (is_landmark f w) (2 ^ (w - 1) - 1) 0 (2 ^ w) (omega arith) (omega arith) (is_end f w (2 ^ (w - 1) - 1) (second_in 0 (2 ^ (w - 1) - 1) (2 ^ (w - 1) ∷ (2 ^ w - 1) ∷ [])));
      least_signed = in_range (is_landmark f w) (2 ^ (w - 1)) 0 (2 ^ w) (omega arith) (omega arith) (is_end f w (2 ^ (w - 1)) (third_in 0 (2 ^ (w - 1) - 1) (2 ^ (w - 1)) ((2 ^ w - 1) ∷ [])));
      greatest = in_range (is_landmark f w) (2 ^ w - 1) 0 (2 ^ w) (omega arith) (omega arith) (is_end f w (2 ^ w - 1) (fourth_in 0 (2 ^ (w - 1) - 1) (2 ^ (w - 1)) (2 ^ w - 1) []));
    }
