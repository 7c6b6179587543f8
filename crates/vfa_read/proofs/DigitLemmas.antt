-- Digits stand for no less than the first of them do.
use Rattle.std.proofs.Common.{◌≡◌, ℕ, ◌+◌, ◌-◌, ◌*◌, ◌<◌, ◌≤◌, List, [], ◌∷◌, length, drop, get_or, arith}
use Rattle.std.specs.Str.Parse.{digits_value, digits_value_after}
use Rattle.std.specs.Char.{digit_value}
use Rattle.std.proofs.lemmas.List.{at_drop_more}
use Rattle.std.proofs.lemmas.Str.{digit_value_digit}
use Rattle.std.proofs.lemmas.Str.Parse.{digit_from_value}

le_value_after : (n : ℕ) (ds : List ℕ) → n ≤ digits_value_after 10 n ds
le_value_after n [] = omega arith
le_value_after n (c ∷ cs) = omega (arith, le_value_after (n * 10 + digit_value c) cs)

pub too_large : (text : List ℕ) (i value most : ℕ) → i < length text → digits_value_after 10 value (drop i text) ≡ digits_value 10 text → digit_value (get_or text i 0) < 10 → most < value * 10 + (get_or text i 0 - 48) → most < digits_value 10 text
too_large text i value most h same ten large =
    let c : ℕ = get_or text i 0 in
    let digit = digit_value_digit c (digit_from_value c ten) in
    let more = at_drop_more (digits_value_after 10 value) text i 0 h in
    omega (arith, le_value_after (value * 10 + digit_value c) (drop (i + 1) text))
